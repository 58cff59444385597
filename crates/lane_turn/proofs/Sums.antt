-- What all lanes of a run account for together, of the replies of one task.
use Rattle.std.proofs.Common.{◌≡◌, ◌≢◌, ◌⊎◌, inl, inr, ℕ, zero, suc, ◌+◌, ◌<◌, ◌≤◌, ◌==◌, ◌&&◌, Bool, true, false, cond, Option, Some, None, List, [], ◌∷◌, map, length, get_or, slice_set, refl, ap, sym, ◌∙◌, subst, arith, sum_by, eqb-true, ltb-true, ltb-false}
use Rattle.std.specs.Prelude.{not, is_some, slice_get, nat_lt, count_by}
use Rattle.std.specs.List.{AllByRecursion, range_with_len}
use Rattle.std.proofs.lemmas.Bool.{false_from_ne_true}
use Rattle.std.proofs.lemmas.Bool.Decides.{eqb_tells}
use Rattle.std.proofs.lemmas.List.{length-map, length-set}
use Rattle.std.proofs.lemmas.List.Sums.{sum_by-cons, sum_by-set}
use Rattle.loop_script.specs.declared.plan.Plan.{Plan}
use Rattle.loop_script.specs.References.{sizes}
use Rattle.context_core.specs.declared.context.Context.{Context}
use Rattle.post_office.specs.declared.letter.Letter.{Letter}
use Rattle.post_office.specs.declared.letter.Body.{Body}
use Rattle.post_office.specs.declared.letter.Body.TheVariants.{Attach, Complete, Cancelled, Give}
use Rattle.lane_turn.specs.declared.line.Event.TheVariants as events
use Rattle.lane_turn.specs.Replies.{Replies, replies_at}
use Rattle.lane_turn.specs.Lane.{Lane, Kept, present, context_at, is_given, is_own, next_id}
use Rattle.lane_turn.specs.Turn.{opening, turned}
use Rattle.lane_turn.specs.Deliver.{received_all}
use Rattle.lane_turn.specs.Tick.{posted_at, lanes_at}
use Rattle.lane_turn.specs.Handover.{Handing, handed_of, without_context, taken_over, let_go, handed, handed_over}
use Rattle.lane_turn.specs.Owed.{one_for, is_reply}
use Rattle.lane_turn.specs.Taken.{accounted, awaited_in, awaited, brings, brought, came_before}
use Rattle.lane_turn.proofs.Leaves.{results_other, own_within}
use Rattle.lane_turn.proofs.Taking.{AreGiven, AreFresh, IsFresh}
use Rattle.lane_turn.proofs.Moving.{IsHomed, AreHomed, turned_moves}
use Rattle.lane_turn.proofs.Turns.{turned_number}
use Rattle.lane_turn.proofs.Moves.{has_own}
use Rattle.lane_turn.specs.Holding.{holder_at}
use Rattle.lane_turn.proofs.Brought.{never, never_both, brought_cons, received_gains, open_fresh, open_awaited}
use Rattle.lane_turn.proofs.Whole.{whole}
use Rattle.lane_turn.proofs.EachLane.{each_lane}
use Rattle.lane_turn.proofs.Places.{Counted, counted_step}
use Rattle.lane_turn.proofs.Between.{Fits, AreLanes, Goes, over_all}
use Rattle.lane_turn.proofs.Holds.{Stands, held_at_tick, turns_fit, over_stands, lane_law, counted_over}

-- ---- what each lane of a run holds was given

set_given : (contexts : List (Option Context)) (all : List Replies) (o : Option Context) (es : Replies) → length all ≡ length contexts → ((i : ℕ) → AreGiven (next_id (present (slice_get contexts i))) (replies_at i all)) → AreGiven (next_id o) es
    → (c i : ℕ) → AreGiven (next_id (present (slice_get (slice_set contexts c o) i))) (replies_at i (slice_set all c es))
set_given [] [] o es l h g c i = h i
set_given [] (x ∷ all) o es l h g c i = absurd (omega (arith, l))
set_given (x ∷ contexts) [] o es l h g c i = absurd (omega (arith, l))
set_given (x ∷ contexts) (y ∷ all) o es l h g zero zero = g
set_given (x ∷ contexts) (y ∷ all) o es l h g zero (suc i) = h (suc i)
set_given (x ∷ contexts) (y ∷ all) o es l h g (suc c) zero = h zero
set_given (x ∷ contexts) (y ∷ all) o es l h g (suc c) (suc i) = set_given contexts all o es (omega (arith, l)) (λ k. h (suc k)) g c i

fresh_set : (contexts : List (Option Context)) (all : List Replies) (o : Option Context) (es : Replies) (c : ℕ) → AreFresh contexts all → AreGiven (next_id o) es → AreFresh (slice_set contexts c o) (slice_set all c es)
fresh_set contexts all o es c f g =
    let one : length (slice_set all c es) ≡ length all = simp length-set in
    let other : length (slice_set contexts c o) ≡ length contexts = simp length-set in
    record { size = one ∙ (f.size ∙ sym other); given = set_given contexts all o es f.size f.given g c }

abbrev KeptGiven : Kept → Type 0
KeptGiven kept = AreGiven (kept.context).rows.next_id kept.replies

kept_given : (lane : Lane) → IsFresh lane → (context : ℕ) (kept : Kept) → handed_of context lane ≡ Some kept → KeptGiven kept
kept_given lane f context kept e =
    let w = whole context lane kept e in
    subst (λ (es : Replies). AreGiven (kept.context).rows.next_id es) w.1 (subst (λ (o : Option Context). AreGiven (next_id o) (replies_at context lane.replies)) w.0 (f.given context))

pub fresh_takes : (tick : ℕ) (kept : Kept) (lane : Lane) → KeptGiven kept → IsFresh lane → IsFresh (taken_over tick kept lane)
fresh_takes tick kept lane k f = fresh_set lane.contexts lane.replies (Some kept.context) kept.replies kept.number f k

pub fresh_lets : (context : ℕ) (lane : Lane) → IsFresh lane → IsFresh (without_context context lane)
fresh_lets context lane f = fresh_set lane.contexts lane.replies None [] context f tt

pub fresh_delivered : (script : Plan) (tick : ℕ) (letters : List Letter) (lane : Lane) → IsFresh lane → IsFresh (received_all script tick letters lane)
fresh_delivered script tick letters lane f = (received_gains 0 0 script tick lane letters lane (λ c. refl) f).0

pub fresh_run : (script : Plan) (tick : ℕ) → AllByRecursion IsFresh (lanes_at script tick)
fresh_run script tick =
    each_lane script (λ k lane. IsFresh lane) (λ k lane. IsFresh lane) (λ k kept. KeptGiven kept) (λ n. open_fresh script n) (λ k lane f. (turned_moves 0 0 script k lane).fresh f)
    (λ k lane f context kept e. kept_given lane f context kept e) (λ k lane f kept g. fresh_takes k kept lane g f) (λ k lane f context. fresh_lets context lane f) (λ k letters lane f. fresh_delivered script k letters lane f) tick

-- ---- sums, lane by lane

pub sums_by : (f g x y : Lane → ℕ) (lanes : List Lane) → AllByRecursion (λ lane. g lane + x lane ≡ f lane + y lane) lanes → sum_by g lanes + sum_by x lanes ≡ sum_by f lanes + sum_by y lanes
sums_by f g x y [] a = refl
sums_by f g x y (lane ∷ lanes) a = omega (arith, sum_by-cons f lane lanes, sum_by-cons g lane lanes, sum_by-cons x lane lanes, sum_by-cons y lane lanes, a.0, sums_by f g x y lanes a.1)

pub sum_mapped : (f : Lane → ℕ) (t : Lane → Lane) (lanes : List Lane) → sum_by f (map t lanes) ≡ sum_by (λ lane. f (t lane)) lanes
sum_mapped f t [] = refl
sum_mapped f t (lane ∷ lanes) = omega (arith, sum_by-cons f (t lane) (map t lanes), sum_by-cons (λ (l : Lane). f (t l)) lane lanes, sum_mapped f t lanes)

abbrev at : (k w : ℕ) → Lane → ℕ
at k w lane = cond (lane.number == k) w 0

none_at : (k w a : ℕ) (lanes : List Lane) → Counted a lanes → k < a → sum_by (at k w) lanes ≡ 0
none_at k w a [] c l = refl
none_at k w a (lane ∷ lanes) c l =
    let no : at k w lane ≡ 0 = ap (λ (b : Bool). cond b w 0) (by (eqb_tells lane.number k)) in
    omega (arith, sum_by-cons (at k w) lane lanes, no, none_at k w (a + 1) lanes c.1 (omega (arith, l)))
  where
    by : ((lane.number == k) ≡ true × lane.number ≡ k) ⊎ ((lane.number == k) ≡ false × lane.number ≢ k) → (lane.number == k) ≡ false
    by (inl p) = absurd (omega (arith, p.1, c.0, l))
    by (inr p) = p.0

more_than : (a k : ℕ) → a ≢ k → a ≤ k → a + 1 ≤ k
more_than a k e l = omega (arith, e, l)

-- one lane has a number
pub one_at : (k w a : ℕ) (lanes : List Lane) → Counted a lanes → a ≤ k → k < a + length lanes → sum_by (at k w) lanes ≡ w
one_at k w a [] c l m = absurd (omega (arith, l, m))
one_at k w a (lane ∷ lanes) c l m = by (eqb_tells lane.number k) (λ n. one_at k w (a + 1) lanes c.1 n (omega (arith, m)))
  where
    by : ((lane.number == k) ≡ true × lane.number ≡ k) ⊎ ((lane.number == k) ≡ false × lane.number ≢ k) → (a + 1 ≤ k → sum_by (at k w) lanes ≡ w) → sum_by (at k w) (lane ∷ lanes) ≡ w
    by (inl p) r =
        let here : at k w lane ≡ w = ap (λ (b : Bool). cond b w 0) p.0 in
        omega (arith, sum_by-cons (at k w) lane lanes, here, none_at k w (a + 1) lanes c.1 (omega (arith, p.1, c.0)))
    by (inr p) r =
        let no : at k w lane ≡ 0 = ap (λ (b : Bool). cond b w 0) p.0 in
        omega (arith, sum_by-cons (at k w) lane lanes, no, r (more_than a k (λ e. p.1 (c.0 ∙ e)) l))

-- ---- a tick

turns_sum : (s n : ℕ) (script : Plan) (tick : ℕ) (lanes : List Lane) → sum_by (accounted s n) (map (turned script tick) lanes) ≡ sum_by (accounted s n) lanes
turns_sum s n script tick [] = refl
turns_sum s n script tick (lane ∷ lanes) =
    omega (arith, sum_by-cons (accounted s n) (turned script tick lane) (map (turned script tick) lanes), sum_by-cons (accounted s n) lane lanes, (turned_moves s n script tick lane).sum, turns_sum s n script tick lanes)

turns_fresh : (script : Plan) (tick : ℕ) (lanes : List Lane) → AllByRecursion IsFresh lanes → AllByRecursion IsFresh (map (turned script tick) lanes)
turns_fresh script tick [] f = tt
turns_fresh script tick (lane ∷ lanes) f = ((turned_moves 0 0 script tick lane).fresh f.0, turns_fresh script tick lanes f.1)

no_entries : (es : Replies) → AreGiven 0 es → es ≡ []
no_entries [] g = refl
no_entries (e ∷ es) g = absurd (omega (arith, g.0))

-- a lane that has not a context holds no reply of it
none_held : (c : ℕ) (lane : Lane) → IsFresh lane → (o : Option Context) → context_at c lane ≡ o → is_some o ≡ false → replies_at c lane.replies ≡ []
none_held c lane f None e h = no_entries (replies_at c lane.replies) (subst (λ (o : Option Context). AreGiven (next_id o) (replies_at c lane.replies)) e (f.given c))
none_held c lane f (Some x) e h = let no : true ≡ false = h in cc

replaced : (s n c : ℕ) (lane : Lane) (es : Replies) → c < length lane.replies → awaited s n (slice_set lane.replies c es) + awaited_in s n (replies_at c lane.replies) ≡ awaited s n lane.replies + awaited_in s n es
replaced s n c lane es l = omega (arith, sum_by-set (awaited_in s n) lane.replies c es [] l)

-- ---- a context that goes over

module _ (s n count tick : ℕ) (l : Letter) (ls : List Letter) (h : ℕ → ℕ) (all : List Lane) (a : AreLanes count h (l ∷ ls) all) (g : Goes count tick l ls h all) where
  abbrev hd : Handing
  hd = record { sender = l.sender; to = g.to; kept = g.kept }

  abbrev weight : ℕ
  weight = awaited_in s n (g.kept).replies

  -- what the lane of the number gives
  abbrev IsGiver : Lane → Type 0
  IsGiver lane = lane.number ≡ l.sender → handed_of g.context lane ≡ Some g.kept

  givers_beyond : (b : ℕ) (lanes : List Lane) → Counted b lanes → l.sender < b → AllByRecursion IsGiver lanes
  givers_beyond b [] c k = tt
  givers_beyond b (lane ∷ lanes) c k = ((λ e. absurd (omega (arith, e, c.0, k))), givers_beyond (b + 1) lanes c.1 (omega (arith, k)))

  givers : (b i : ℕ) (lanes : List Lane) → Counted b lanes → b + i ≡ l.sender → i < length lanes → ((d : Lane) → handed_of g.context (get_or lanes i d) ≡ Some g.kept) → AllByRecursion IsGiver lanes
  givers b i [] c e k f = tt
  givers b zero (lane ∷ lanes) c e k f = ((λ x. f lane), givers_beyond (b + 1) lanes c.1 (omega (arith, e)))
  givers b (suc i) (lane ∷ lanes) c e k f = ((λ x. absurd (omega (arith, x, c.0, e))), givers (b + 1) i lanes c.1 (omega (arith, e)) (omega (arith, k)) f)

  one_sum : (lane : Lane) → Fits count h (l ∷ ls) lane → IsFresh lane → IsGiver lane → accounted s n (handed tick hd lane) + at l.sender weight lane ≡ accounted s n lane + at g.to weight lane
  one_sum lane f fresh giver = by (lane.number == l.sender) refl ((let_go hd lane).number == g.to) refl
    where
      place : (g.kept).number < length lane.replies
      place = omega (arith, g.number, g.here, f.size, fresh.size)

      by : (x : Bool) → (lane.number == l.sender) ≡ x → (y : Bool) → ((cond x (without_context (g.kept).number lane) lane).number == g.to) ≡ y
          → accounted s n (cond y (taken_over tick g.kept (cond x (without_context (g.kept).number lane) lane)) (cond x (without_context (g.kept).number lane) lane)) + at l.sender weight lane ≡ accounted s n lane + at g.to weight lane
      by true e true q = absurd (g.other (sym (eqb-true lane.number g.to q) ∙ eqb-true lane.number l.sender e))
      by true e false q =
          let mine : at l.sender weight lane ≡ weight = ap (λ (b : Bool). cond b weight 0) e in
          let other : at g.to weight lane ≡ 0 = ap (λ (b : Bool). cond b weight 0) q in
          let w = whole g.context lane g.kept (giver (eqb-true lane.number l.sender e)) in
          let held : replies_at (g.kept).number lane.replies ≡ (g.kept).replies = ap (λ (c : ℕ). replies_at c lane.replies) g.number ∙ w.1 in
          omega (arith, mine, other, replaced s n (g.kept).number lane [] place, ap (awaited_in s n) held)
      by false e true q =
          let mine : at l.sender weight lane ≡ 0 = ap (λ (b : Bool). cond b weight 0) e in
          let other : at g.to weight lane ≡ weight = ap (λ (b : Bool). cond b weight 0) q in
          let none : is_some (context_at g.context lane) ≡ false = f.has g.context g.here ∙ (ap (λ (c : ℕ). lane.number == c) (sym g.holder) ∙ e) in
          let held : replies_at (g.kept).number lane.replies ≡ [] = ap (λ (c : ℕ). replies_at c lane.replies) g.number ∙ none_held g.context lane fresh (context_at g.context lane) refl none in
          omega (arith, mine, other, replaced s n (g.kept).number lane (g.kept).replies place, ap (awaited_in s n) held, results_other s n tick (events.Hold (g.kept).number) lane.trace refl)
      by false e false q =
          let mine : at l.sender weight lane ≡ 0 = ap (λ (b : Bool). cond b weight 0) e in
          let other : at g.to weight lane ≡ 0 = ap (λ (b : Bool). cond b weight 0) q in
          omega (arith, mine, other)

  each_sum : (lanes : List Lane) → AllByRecursion (Fits count h (l ∷ ls)) lanes → AllByRecursion IsFresh lanes → AllByRecursion IsGiver lanes → AllByRecursion (λ lane. accounted s n (handed tick hd lane) + at l.sender weight lane ≡ accounted s n lane + at g.to weight lane) lanes
  each_sum [] f r i = tt
  each_sum (lane ∷ lanes) f r i = (one_sum lane f.0 r.0 i.0, each_sum lanes f.1 r.1 i.1)

  goes_sum : AllByRecursion IsFresh all → sum_by (accounted s n) (map (handed tick hd) all) ≡ sum_by (accounted s n) all
  goes_sum fresh =
      let gives : AllByRecursion IsGiver all = givers 0 l.sender all a.counted (omega arith) g.below g.giver in
      omega (
        arith,
        sum_mapped (accounted s n) (handed tick hd) all,
        sums_by (accounted s n) (λ lane. accounted s n (handed tick hd lane)) (at l.sender weight) (at g.to weight) all (each_sum all a.each fresh gives),
        one_at l.sender weight 0 all a.counted (omega arith) (omega (arith, g.below)),
        one_at g.to weight 0 all a.counted (omega arith) (omega (arith, g.within)),
      )

  one_fresh : (lane : Lane) → KeptGiven g.kept → IsFresh lane → IsFresh (handed tick hd lane)
  one_fresh lane k f = took (let_go hd lane) (let_by (lane.number == l.sender)) ((let_go hd lane).number == g.to)
    where
      let_by : (b : Bool) → IsFresh (cond b (without_context (g.kept).number lane) lane)
      let_by true = fresh_lets (g.kept).number lane f
      let_by false = f

      took : (now : Lane) → IsFresh now → (b : Bool) → IsFresh (cond b (taken_over tick g.kept now) now)
      took now r true = fresh_takes tick g.kept now k r
      took now r false = r

  goes_fresh : (lanes : List Lane) → KeptGiven g.kept → AllByRecursion IsFresh lanes → AllByRecursion IsFresh (map (handed tick hd) lanes)
  goes_fresh [] k f = tt
  goes_fresh (lane ∷ lanes) k f = (one_fresh lane k f.0, goes_fresh lanes k f.1)

  given_kept_here : (lanes : List Lane) → AllByRecursion IsFresh lanes → (i : ℕ) → i < length lanes → ((d : Lane) → handed_of g.context (get_or lanes i d) ≡ Some g.kept) → KeptGiven g.kept
  given_kept_here [] f i k e = absurd (omega (arith, k))
  given_kept_here (lane ∷ lanes) f zero k e = kept_given lane f.0 g.context g.kept (e lane)
  given_kept_here (lane ∷ lanes) f (suc i) k e = given_kept_here lanes f.1 i (omega (arith, k)) e

-- all that letters give
over_sum : (s n count tick most : ℕ) (left : List Letter) (h : ℕ → ℕ) (all : List Lane) → AreLanes count h left all → AllByRecursion IsFresh all × (sum_by (accounted s n) all ≡ most)
    → AllByRecursion IsFresh (handed_over tick left all) × (sum_by (accounted s n) (handed_over tick left all) ≡ most)
over_sum s n count tick most left h all a q =
    over_all count tick (λ lanes. AllByRecursion IsFresh lanes × (sum_by (accounted s n) lanes ≡ most))
    (λ l ls h all a g q. (goes_fresh s n count tick l ls h all a g all (given_kept_here s n count tick l ls h all a g all q.0 l.sender g.below g.giver) q.0, goes_sum s n count tick l ls h all a g q.0 ∙ q.1))
    left h all a q

-- ---- a delivery

delivered_sum : (s n : ℕ) (script : Plan) (tick : ℕ) (letters : List Letter) (lanes : List Lane) → AllByRecursion IsFresh lanes
    → sum_by (accounted s n) (map (received_all script tick letters) lanes) ≡ sum_by (accounted s n) lanes + sum_by (λ lane. brought s n lane letters) lanes
delivered_sum s n script tick letters [] f = refl
delivered_sum s n script tick letters (lane ∷ lanes) f =
    omega (
      arith,
      sum_by-cons (accounted s n) (received_all script tick letters lane) (map (received_all script tick letters) lanes),
      sum_by-cons (accounted s n) lane lanes,
      sum_by-cons (λ (l : Lane). brought s n l letters) lane lanes,
      (received_gains s n script tick lane letters lane (λ c. refl) f.0).1,
      delivered_sum s n script tick letters lanes f.1,
    )

open_sum : (s n : ℕ) (script : Plan) (ns : List ℕ) → sum_by (accounted s n) (map (opening script) ns) ≡ 0
open_sum s n script [] = refl
open_sum s n script (i ∷ ns) = omega (arith, sum_by-cons (accounted s n) (opening script i) (map (opening script) ns), open_awaited s n (sizes script).contexts, open_sum s n script ns)

-- the lanes of a run once contexts went over: each fresh, and they account for what they did
pub went : (s n : ℕ) (script : Plan) (tick : ℕ) →
    AllByRecursion IsFresh (handed_over tick (posted_at script tick (lanes_at script tick)) (map (turned script tick) (lanes_at script tick)))
    × (sum_by (accounted s n) (handed_over tick (posted_at script tick (lanes_at script tick)) (map (turned script tick) (lanes_at script tick))) ≡ sum_by (accounted s n) (lanes_at script tick))
went s n script tick =
    let lanes : List Lane = lanes_at script tick in
    over_sum s n (sizes script).contexts tick (sum_by (accounted s n) lanes) (posted_at script tick lanes) (λ c. holder_at script c tick) (map (turned script tick) lanes)
    (turns_fit script tick (λ c. holder_at script c tick) lanes (held_at_tick script tick)) (turns_fresh script tick lanes (fresh_run script tick), turns_sum s n script tick lanes)

pub came_at : (script : Plan) (s n tick : ℕ) → sum_by (accounted s n) (lanes_at script tick) ≡ came_before script s n tick
came_at script s n zero = open_sum s n script (range_with_len 0 (length script.lanes))
came_at script s n (suc k) =
    let letters : List Letter = posted_at script k (lanes_at script k) in
    let w = went s n script k in
    omega (arith, delivered_sum s n script k letters (handed_over k letters (map (turned script k) (lanes_at script k))) w.0, w.1, came_at script s n k)

-- ---- what letters bring to all lanes together

sum_same : (f g : Lane → ℕ) (lanes : List Lane) → AllByRecursion (λ lane. f lane ≡ g lane) lanes → sum_by f lanes ≡ sum_by g lanes
sum_same f g [] a = refl
sum_same f g (lane ∷ lanes) a = omega (arith, sum_by-cons f lane lanes, sum_by-cons g lane lanes, a.0, sum_same f g lanes a.1)

sum_add : (f g k : Lane → ℕ) (lanes : List Lane) → ((lane : Lane) → f lane ≡ g lane + k lane) → sum_by f lanes ≡ sum_by g lanes + sum_by k lanes
sum_add f g k [] e = refl
sum_add f g k (lane ∷ lanes) e = omega (arith, sum_by-cons f lane lanes, sum_by-cons g lane lanes, sum_by-cons k lane lanes, e lane, sum_add f g k lanes e)

sum_none : (f : Lane → ℕ) (lanes : List Lane) → AllByRecursion (λ lane. f lane ≡ 0) lanes → sum_by f lanes ≡ 0
sum_none f [] a = refl
sum_none f (lane ∷ lanes) a = omega (arith, sum_by-cons f lane lanes, a.0, sum_none f lanes a.1)

all_lanes : (P : Lane → Type 0) → ((lane : Lane) → P lane) → (lanes : List Lane) → AllByRecursion P lanes
all_lanes P f [] = tt
all_lanes P f (lane ∷ lanes) = (f lane, all_lanes P f lanes)

-- letters that are replies of a task
abbrev pub sent : (s n : ℕ) → List Letter → ℕ
sent s n letters = count_by (λ l. (l.sender == s) && is_reply n l.body) letters

pub sent_cons : (s n : ℕ) (l : Letter) (ls : List Letter) → sent s n (l ∷ ls) ≡ one_for ((l.sender == s) && is_reply n l.body) + sent s n ls
sent_cons s n l ls = sum_by-cons (λ (l : Letter). cond ((l.sender == s) && is_reply n l.body) 1 0) l ls

-- lanes of which each context is one's
pub record Holders (count lanes : ℕ) (h : ℕ → ℕ) (all : List Lane) : Type 0 where
  pub counted : Counted 0 all
  pub length_is : length all ≡ lanes
  pub each : AllByRecursion (Fits count h []) all
  pub below : (c : ℕ) → c < count → h c < lanes

owned_by : (x y : Bool) → y ≡ false → (x && not y) ≡ x
owned_by true y e = ap not e
owned_by false y e = refl

to_one : (x y b : Bool) → one_for (x && (y && b)) ≡ cond b (one_for (x && y)) 0
to_one true true true = refl
to_one true true false = refl
to_one true false true = refl
to_one true false false = refl
to_one false y true = refl
to_one false y false = refl

-- a reply comes to the one that has its context
reply_comes : (count lanes : ℕ) (h : ℕ → ℕ) (all : List Lane) (x y : Bool) (c : ℕ) → Holders count lanes h all → c < count → sum_by (λ lane. one_for (x && (y && is_own c lane))) all ≡ one_for (x && y)
reply_comes count lanes h all x y c k l =
    sum_same (λ lane. one_for (x && (y && is_own c lane))) (at (h c) (one_for (x && y))) all (each all k.each)
    ∙ one_at (h c) (one_for (x && y)) 0 all k.counted (omega arith) (omega (arith, k.below c l, k.length_is))
  where
    each : (some : List Lane) → AllByRecursion (Fits count h []) some → AllByRecursion (λ lane. one_for (x && (y && is_own c lane)) ≡ at (h c) (one_for (x && y)) lane) some
    each [] f = tt
    each (lane ∷ some) f = (to_one x y (is_own c lane) ∙ ap (λ b. cond b (one_for (x && y)) 0) (owned_by (is_some (context_at c lane)) (is_given c lane) ((f.0).flags c) ∙ (f.0).has c l), each some f.1)

-- and to none where there is no such context
none_comes : (count lanes : ℕ) (h : ℕ → ℕ) (all : List Lane) (x y : Bool) (c : ℕ) → Holders count lanes h all → count ≤ c → sum_by (λ lane. one_for (x && (y && is_own c lane))) all ≡ 0
none_comes count lanes h all x y c k l = sum_none (λ lane. one_for (x && (y && is_own c lane))) all (each all k.each)
  where
    each : (some : List Lane) → AllByRecursion (Fits count h []) some → AllByRecursion (λ lane. one_for (x && (y && is_own c lane)) ≡ 0) some
    each [] f = tt
    each (lane ∷ some) f = (never_both x y (is_own c lane) (false_from_ne_true (is_own c lane) (λ e. absurd (omega (arith, l, (f.0).size, own_within lane.contexts c (has_own c lane e))))), each some f.1)

one_comes : (s n sender count lanes : ℕ) (h : ℕ → ℕ) (all : List Lane) (body : Body) → Holders count lanes h all → sum_by (λ lane. one_for ((sender == s) && brings n lane body)) all ≤ one_for ((sender == s) && is_reply n body)
one_comes s n sender count lanes h all (Attach context spec) k = omega (arith, sum_none (λ lane. one_for ((sender == s) && false)) all (all_lanes (λ lane. one_for ((sender == s) && false) ≡ 0) (λ lane. never (sender == s)) all))
one_comes s n sender count lanes h all (Cancelled c) k = omega (arith, sum_none (λ lane. one_for ((sender == s) && false)) all (all_lanes (λ lane. one_for ((sender == s) && false) ≡ 0) (λ lane. never (sender == s)) all))
one_comes s n sender count lanes h all (Give context to) k = omega (arith, sum_none (λ lane. one_for ((sender == s) && false)) all (all_lanes (λ lane. one_for ((sender == s) && false) ≡ 0) (λ lane. never (sender == s)) all))
one_comes s n sender count lanes h all (Complete reply) k = by (nat_lt reply.ctx count) refl
  where
    by : (b : Bool) → nat_lt reply.ctx count ≡ b → sum_by (λ lane. one_for ((sender == s) && ((reply.task == n) && is_own reply.ctx lane))) all ≤ one_for ((sender == s) && (reply.task == n))
    by true e = omega (arith, reply_comes count lanes h all (sender == s) (reply.task == n) reply.ctx k (ltb-true reply.ctx count e))
    by false e = omega (arith, none_comes count lanes h all (sender == s) (reply.task == n) reply.ctx k (ltb-false reply.ctx count e))

-- all that comes was sent
pub most_come : (s n count lanes : ℕ) (h : ℕ → ℕ) (all : List Lane) (letters : List Letter) → Holders count lanes h all → sum_by (λ lane. brought s n lane letters) all ≤ sent s n letters
most_come s n count lanes h all [] k = omega (arith, sum_none (λ lane. brought s n lane []) all (all_lanes (λ lane. brought s n lane [] ≡ 0) (λ lane. refl) all))
most_come s n count lanes h all (l ∷ ls) k =
    omega (arith, sum_add (λ lane. brought s n lane (l ∷ ls)) (λ lane. one_for ((l.sender == s) && brings n lane l.body)) (λ lane. brought s n lane ls) all (λ lane. brought_cons s n lane l ls), one_comes s n l.sender count lanes h all l.body k, most_come s n count lanes h all ls k, sent_cons s n l ls)

all_comes : (s n sender count lanes : ℕ) (h : ℕ → ℕ) (all : List Lane) (body : Body) → Holders count lanes h all → IsHomed count body → sum_by (λ lane. one_for ((sender == s) && brings n lane body)) all ≡ one_for ((sender == s) && is_reply n body)
all_comes s n sender count lanes h all (Attach context spec) k p = sum_none (λ lane. one_for ((sender == s) && false)) all (all_lanes (λ lane. one_for ((sender == s) && false) ≡ 0) (λ lane. never (sender == s)) all) ∙ sym (never (sender == s))
all_comes s n sender count lanes h all (Cancelled c) k p = sum_none (λ lane. one_for ((sender == s) && false)) all (all_lanes (λ lane. one_for ((sender == s) && false) ≡ 0) (λ lane. never (sender == s)) all) ∙ sym (never (sender == s))
all_comes s n sender count lanes h all (Give context to) k p = sum_none (λ lane. one_for ((sender == s) && false)) all (all_lanes (λ lane. one_for ((sender == s) && false) ≡ 0) (λ lane. never (sender == s)) all) ∙ sym (never (sender == s))
all_comes s n sender count lanes h all (Complete reply) k p = reply_comes count lanes h all (sender == s) (reply.task == n) reply.ctx k p

-- and where each reply goes to a context of the script, all that was sent comes
pub each_comes : (s n count lanes : ℕ) (h : ℕ → ℕ) (all : List Lane) (letters : List Letter) → Holders count lanes h all → AreHomed count letters → sum_by (λ lane. brought s n lane letters) all ≡ sent s n letters
each_comes s n count lanes h all [] k p = sum_none (λ lane. brought s n lane []) all (all_lanes (λ lane. brought s n lane [] ≡ 0) (λ lane. refl) all)
each_comes s n count lanes h all (l ∷ ls) k p =
    omega (arith, sum_add (λ lane. brought s n lane (l ∷ ls)) (λ lane. one_for ((l.sender == s) && brings n lane l.body)) (λ lane. brought s n lane ls) all (λ lane. brought_cons s n lane l ls), all_comes s n l.sender count lanes h all l.body k p.0, each_comes s n count lanes h all ls k p.1, sent_cons s n l ls)

-- the lanes of a run once contexts went over
pub holders_over : (script : Plan) (tick : ℕ) → Holders (sizes script).contexts (length script.lanes) (λ c. holder_at script c (suc tick)) (handed_over tick (posted_at script tick (lanes_at script tick)) (map (turned script tick) (lanes_at script tick)))
holders_over script tick =
    let lanes : List Lane = lanes_at script tick in
    let letters : List Letter = posted_at script tick lanes in
    let turns : List Lane = map (turned script tick) lanes in
    let a = held_at_tick script tick in
    let same : length (handed_over tick letters turns) ≡ length lanes = simp length-map in
    record {
      counted = counted_over tick letters turns (counted_step (turned script tick) (turned_number script tick) 0 lanes a.counted);
      length_is = same ∙ a.count;
      each = fits_of (handed_over tick letters turns) (over_stands script tick (λ c. holder_at script c tick) lanes a);
      below = λ c l. lane_law script (suc tick) c l;
    }
  where
    fits_of : (all : List Lane) → AllByRecursion (Stands script (λ c. holder_at script c (suc tick))) all → AllByRecursion (Fits (sizes script).contexts (λ c. holder_at script c (suc tick)) []) all
    fits_of [] f = tt
    fits_of (lane ∷ all) f = ((f.0).fits, fits_of all f.1)
