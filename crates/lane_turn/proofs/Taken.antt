-- In a run at most one result of each task is told.
use Rattle.std.proofs.Common.{◌≡◌, ◌≢◌, ◌⊎◌, inl, inr, ℕ, zero, suc, ◌+◌, ◌<◌, ◌≤◌, ◌==◌, ◌&&◌, Bool, true, false, cond, List, [], ◌∷◌, map, length, refl, ap, sym, ◌∙◌, arith, sum_by}
use Rattle.std.specs.List.{flat_map, range_with_len}
use Rattle.std.proofs.lemmas.List.Sums.{sum_by-append}
use Rattle.std.proofs.lemmas.Bool.{ne_eqb}
use Rattle.std.proofs.lemmas.Bool.Decides.{eqb_tells}
use Rattle.loop_script.specs.declared.plan.Plan.{Plan}
use Rattle.loop_script.specs.References.{sizes}
use Rattle.post_office.specs.declared.letter.Letter.{Letter}
use Rattle.lane_turn.specs.Lane.{Lane}
use Rattle.lane_turn.specs.Turn.{turned, out_of}
use Rattle.lane_turn.specs.Handover.{Handing, all_handed, handed_over}
use Rattle.lane_turn.specs.Tick.{lanes_at, posted_at}
use Rattle.lane_turn.specs.Letters.{AreNumbered}
use Rattle.lane_turn.specs.Owed.{one_for, is_reply, replied, lane_under, posted_before, mail_of_run, over_of_run}
use Rattle.lane_turn.specs.Taken.{accounted, came_before}
use Rattle.lane_turn.proofs.Turns.{out_numbered, turned_number}
use Rattle.lane_turn.proofs.Delivered.{received_number}
use Rattle.lane_turn.proofs.GoingOver.{handed_part}
use Rattle.lane_turn.proofs.Owed.{posted_once, run_under}
use Rattle.lane_turn.proofs.Sums.{sent, sent_cons, came_at, most_come, holders_over}
use Rattle.lane_turn.specs.Holding.{holder_at}

-- ---- sums over the numbers of lanes

abbrev pub over : (ℕ → ℕ) → List ℕ → ℕ
over f [] = 0
over f (n ∷ ns) = f n + over f ns

pub over_none : (f : ℕ → ℕ) (h : ℕ) → ((l : ℕ) → l ≢ h → f l ≡ 0) → (a m : ℕ) → h < a → over f (range_with_len a m) ≡ 0
over_none f h e a zero l = refl
over_none f h e a (suc m) l = omega (arith, e a (λ p. omega (arith, p, l)), over_none f h e (a + 1) m (omega (arith, l)))

-- where all but one are none
over_one : (f : ℕ → ℕ) (h most : ℕ) → ((l : ℕ) → l ≢ h → f l ≡ 0) → f h ≤ most → (a m : ℕ) → over f (range_with_len a m) ≤ most
over_one f h most e t a zero = omega arith
over_one f h most e t a (suc m) = by (eqb_tells a h) (over_one f h most e t (a + 1) m)
  where
    by : ((a == h) ≡ true × a ≡ h) ⊎ ((a == h) ≡ false × a ≢ h) → over f (range_with_len (a + 1) m) ≤ most → f a + over f (range_with_len (a + 1) m) ≤ most
    by (inl p) r = omega (arith, t, ap f p.1, over_none f h e (a + 1) m (omega (arith, p.1)))
    by (inr p) r = omega (arith, e a p.1, r)

-- ---- what lanes post

sent_other : (s n tick sender j : ℕ) (ls : List Letter) → AreNumbered tick sender j ls → (sender == s) ≡ false → sent s n ls ≡ 0
sent_other s n tick sender j [] h e = refl
sent_other s n tick sender j (l ∷ ls) h e =
    let none = ap (λ b. one_for (b && is_reply n l.body)) (ap (λ (i : ℕ). i == s) (h.1).0 ∙ e) in
    omega (arith, none, sent_cons s n l ls, sent_other s n tick sender (j + 1) ls ((h.1).1).1 e)

sent_most : (s n : ℕ) (ls : List Letter) → sent s n ls ≤ replied n ls
sent_most s n [] = omega arith
sent_most s n (l ∷ ls) = omega (arith, by (l.sender == s) (is_reply n l.body), sent_cons s n l ls, sent_most s n ls)
  where
    by : (x y : Bool) → one_for (x && y) ≤ one_for y
    by true y = omega arith
    by false y = omega arith

pub under_number : (script : Plan) (mail : ℕ → List Letter) (goes : ℕ → List Handing) (lane k : ℕ) → (lane_under script mail goes lane k).number ≡ lane
under_number script mail goes lane zero = refl
under_number script mail goes lane (suc k) =
    let turn : Lane = turned script k (lane_under script mail goes lane k) in
    received_number script k (mail k) (all_handed k (goes k) turn)
    ∙ (handed_part (λ (l : Lane). l.number) k (λ kept l. refl) (λ c l. refl) (goes k) turn ∙ (turned_number script k (lane_under script mail goes lane k) ∙ under_number script mail goes lane k))

pub sent_by : (s n : ℕ) (g : Lane → List Letter) (f : ℕ → Lane) (ns : List ℕ) → sent s n (flat_map g (map f ns)) ≡ over (λ i. sent s n (g (f i))) ns
sent_by s n g f [] = refl
sent_by s n g f (i ∷ ns) = sum_by-append (λ (l : Letter). cond ((l.sender == s) && is_reply n l.body) 1 0) (g (f i)) (flat_map g (map f ns)) ∙ ap (λ (x : ℕ). sent s n (g (f i)) + x) (sent_by s n g f ns)

pub sent_elsewhere : (s n : ℕ) (script : Plan) (mail : ℕ → List Letter) (goes : ℕ → List Handing) (k i : ℕ) → i ≢ s → sent s n (out_of script k (lane_under script mail goes i k)) ≡ 0
sent_elsewhere s n script mail goes k i p =
    let lane : Lane = lane_under script mail goes i k in
    sent_other s n k lane.number 0 (out_of script k lane) (out_numbered script k lane) (ne_eqb lane.number s (λ e. p (sym (under_number script mail goes i k) ∙ e)))

all_sent : (s n : ℕ) (script : Plan) (mail : ℕ → List Letter) (goes : ℕ → List Handing) (k a m : ℕ) → over (λ i. sent s n (out_of script k (lane_under script mail goes i k))) (range_with_len a m) ≤ replied n (out_of script k (lane_under script mail goes s k))
all_sent s n script mail goes k a m =
    over_one (λ i. sent s n (out_of script k (lane_under script mail goes i k))) s _ (λ i p. sent_elsewhere s n script mail goes k i p) (sent_most s n (out_of script k (lane_under script mail goes s k))) a m

-- ---- a run

abbrev pub numbers : Plan → List ℕ
numbers script = range_with_len 0 (length script.lanes)

run_sent : (s n : ℕ) (script : Plan) (k : ℕ) → sent s n (mail_of_run script k) ≤ replied n (out_of script k (lane_under script (mail_of_run script) (over_of_run script) s k))
run_sent s n script k =
    let lanes = ap (λ (ls : List Lane). sent s n (posted_at script k ls)) (run_under script k) in
    let each = sent_by s n (out_of script k) (λ i. lane_under script (mail_of_run script) (over_of_run script) i k) (numbers script) in
    omega (arith, lanes, each, all_sent s n script (mail_of_run script) (over_of_run script) k 0 (length script.lanes))

came_most : (s n : ℕ) (script : Plan) (tick : ℕ) → came_before script s n tick ≤ posted_before script (mail_of_run script) (over_of_run script) s n tick
came_most s n script zero = omega arith
came_most s n script (suc k) =
    let lanes : List Lane = lanes_at script k in
    let letters : List Letter = posted_at script k lanes in
    omega (arith, most_come s n (sizes script).contexts (length script.lanes) (λ c. holder_at script c (suc k)) (handed_over k letters (map (turned script k) lanes)) letters (holders_over script k), came_most s n script k, run_sent s n script k)

pub taken_once : (script : Plan) (s n tick : ℕ) → sum_by (accounted s n) (lanes_at script tick) ≤ 1
taken_once script s n tick = omega (arith, came_at script s n tick, came_most s n script tick, posted_once script (mail_of_run script) (over_of_run script) s n tick)
