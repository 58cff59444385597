-- The fields of a tick in progress, as moves change them.
use Rattle.std.proofs.Common.{◌≡◌, ℕ, zero, suc, ◌+◌, ◌<◌, ◌≤◌, true, false, Option, Some, None, List, [], ◌∷◌, ◌++◌, map, length, take, drop, get_or, refl, ap, sym, ◌∙◌, subst, arith, is_some, ltb-true, ltb-false}
use Rattle.std.specs.Prelude.{slice_get, option_map, IfSome, nat_lt}
use Rattle.std.specs.Option.{option_copied}
use denote.Ref.{Bor}
use Rattle.std.proofs.lemmas.List.{drop_more, drop_all, take_more, take_all}
use Rattle.loop_script.specs.declared.plan.Plan.{Plan}
use Rattle.post_office.specs.declared.letter.Letter.{Letter}
use Rattle.lane_turn.specs.Lane.{Lane, State}
use Rattle.lane_turn.specs.Handover.{handing_by, handing_of, moved as gone_over}
use Rattle.lane_turn.specs.Tick.{lanes_at}
use Rattle.tick_stepper.specs.Account.{Giving, Bringing, started, moved, lanes_in}
use Rattle.account.specs.declared.turns.Begun.{Begun}
use Rattle.account.specs.declared.going.Going.{Going}
use Rattle.account.specs.declared.going.Phase.{Phase}
use Rattle.account.specs.declared.going.Phase.TheVariants as phases
use Rattle.account.specs.Within.{IsWithin, AllMayTake, polled}
use Rattle.post_office.specs.declared.letter.Body.TheVariants as mails
use Rattle.account.specs.declared.gift.Gift.{Gift}
use Rattle.account.specs.Gifts.{gift_of}
use Rattle.account.proofs.Lined.{gift_goes}
use Rattle.tick_stepper.proofs.Lined.{lanes_unspent, lined}
use Rattle.account.specs.Standing.{AreUnspent, OwnsTurn, turning_from, turning, turning_after, bringing, place_at, place_of, OwnsBegun, Stands}
use Rattle.tick_stepper.specs.Share.{unspent, lanes_in as lanes_of, AreLined}
use Rattle.account.proofs.Within.{counted_from, polls_within, moves_within, over_within, begins_within}
use Rattle.tick_stepper.proofs.Counted.{lane_count}
use Rattle.account.proofs.States.{turning_none, lanes_length, first_unspent, rest_unspent}

-- ---- parts that are the same

pub place_same : {a b : List Lane} {l m : List Letter} {o p : Option Begun} {x y : Phase} → a ≡ b → l ≡ m → o ≡ p → x ≡ y → place_at a l o x ≡ place_at b m p y
place_same ea el eo ex = λ j. place_at (ea j) (el j) (eo j) (ex j)

owns_same : {a b : List Lane} {o p : Option Begun} {x y : Phase} → a ≡ b → o ≡ p → x ≡ y → OwnsBegun a o x → OwnsBegun b p y
owns_same {a} {b} {o} {p} {x} {y} ea eo ex h =
    subst (λ (l : List Lane). OwnsBegun l p y) ea (subst (λ (q : Option Begun). OwnsBegun a q y) eo (subst (λ (z : Phase). OwnsBegun a o z) ex h))

pub within_at : (script : Plan) (tick : ℕ) (g : Going) (x : Phase) → Stands script tick g → g.phase ≡ x → IsWithin script tick (place_at (lanes_of g.lanes.items) g.letters.items g.begun x)
within_at script tick g x s e = subst (λ (z : Phase). IsWithin script tick (place_at (lanes_of g.lanes.items) g.letters.items g.begun z)) e s.within

owns_none : (lanes : List Lane) → OwnsTurn lanes None
owns_none [] = tt
owns_none (lane ∷ lanes) = tt

-- ---- what they stand for

pub stands_next : (script : Plan) (tick : ℕ) (g h : Going) → length script.lanes ≤ 64 → tick < 4096 → Stands script tick g → moved script tick (place_of g) ≡ Some (place_of h)
    → AreUnspent h.lanes.items → length h.lanes.items ≡ length g.lanes.items → OwnsBegun (lanes_of h.lanes.items) h.begun h.phase → Stands script tick h
stands_next script tick g h few low s e u c o = record { unspent = u; count = c ∙ s.count; owns = o; within = moves_within script tick (place_of g) (place_of h) few low e s.within }

-- a turn begins
pub stands_begun : (script : Plan) (tick n : ℕ) (g h : Going) (b : Begun) (states : List State) → Stands script tick g → g.phase ≡ phases.Turning n → g.begun ≡ None → h.phase ≡ phases.Turning n → h.begun ≡ Some b
    → h.letters.items ≡ g.letters.items → h.lanes.items ≡ states → turning n (lanes_of states) (Some b) g.letters.items ≡ polled script tick (turning n (lanes_of g.lanes.items) None g.letters.items)
    → OwnsTurn (drop n (lanes_of states)) (Some b) → AreUnspent states → length states ≡ length g.lanes.items → Stands script tick h
stands_begun script tick n g h b states s gp gb hp hb hl same goes own u c =
    let there : place_of h ≡ polled script tick (place_of g) =
    place_same (ap lanes_of same) hl hb hp ∙ (goes ∙ ap (polled script tick) (sym (place_same refl refl gb gp))) in
    record {
      unspent = subst AreUnspent (sym same) u;
      count = ap length same ∙ (c ∙ s.count);
      owns = owns_same (sym (ap lanes_of same)) (sym hb) (sym hp) own;
      within = subst (IsWithin script tick) (sym there) (polls_within script tick (place_of g) s.within);
    }

pub begun_place : (script : Plan) (tick n : ℕ) (g h : Going) (b : Begun) (states : List State) → g.phase ≡ phases.Turning n → g.begun ≡ None → h.phase ≡ phases.Turning n → h.begun ≡ Some b
    → h.letters.items ≡ g.letters.items → h.lanes.items ≡ states → turning n (lanes_of states) (Some b) g.letters.items ≡ polled script tick (turning n (lanes_of g.lanes.items) None g.letters.items)
    → place_of h ≡ polled script tick (place_of g)
begun_place script tick n g h b states gp gb hp hb hl same goes = place_same (ap lanes_of same) hl hb hp ∙ (goes ∙ ap (polled script tick) (sym (place_same refl refl gb gp)))

pub stepped_place : (script : Plan) (tick n : ℕ) (g h : Going) (b c : Begun) (states : List State) → g.phase ≡ phases.Turning n → g.begun ≡ Some b
    → h.phase ≡ phases.Turning n → h.begun ≡ Some c → h.letters.items ≡ g.letters.items → h.lanes.items ≡ states
    → moved script tick (turning n (lanes_of g.lanes.items) (Some b) g.letters.items) ≡ Some (turning_after true n (lanes_of states) c g.letters.items) → moved script tick (place_of g) ≡ Some (place_of h)
stepped_place script tick n g h b c states gp gb hp hb hl same goes =
    ap (moved script tick) (place_same refl refl gb gp) ∙ (goes ∙ ap Some (sym (place_same (ap lanes_of same) hl hb hp)))

pub over_place : (script : Plan) (tick n : ℕ) (g h : Going) (b c : Begun) (states : List State) → g.phase ≡ phases.Turning n → g.begun ≡ Some b
    → h.phase ≡ phases.Turning (n + 1) → h.begun ≡ None → h.letters.items ≡ g.letters.items ++ c.post → h.lanes.items ≡ states
    → moved script tick (turning n (lanes_of g.lanes.items) (Some b) g.letters.items) ≡ Some (turning_after false n (lanes_of states) c g.letters.items) → moved script tick (place_of g) ≡ Some (place_of h)
over_place script tick n g h b c states gp gb hp hb hl same goes =
    ap (moved script tick) (place_same refl refl gb gp) ∙ (goes ∙ ap Some (sym (place_same (ap lanes_of same) hl hb hp)))

pub received_place : (script : Plan) (tick n k : ℕ) (g h : Going) (states : List State) → g.phase ≡ phases.Bringing n k → h.phase ≡ phases.Bringing n (k + 1) → h.letters.items ≡ g.letters.items → h.lanes.items ≡ states
    → moved script tick (bringing n k (lanes_of g.lanes.items) g.letters.items) ≡ Some (bringing n (k + 1) (lanes_of states) g.letters.items) → moved script tick (place_of g) ≡ Some (place_of h)
received_place script tick n k g h states gp hp hl same goes =
    ap (moved script tick) (place_same refl refl refl gp) ∙ (goes ∙ ap Some (sym (place_same {p = h.begun} (ap lanes_of same) hl refl hp)))

-- it takes a step
pub stands_stepped : (script : Plan) (tick n : ℕ) (g h : Going) (b c : Begun) (states : List State) → length script.lanes ≤ 64 → tick < 4096 → Stands script tick g → g.phase ≡ phases.Turning n → g.begun ≡ Some b
    → h.phase ≡ phases.Turning n → h.begun ≡ Some c → h.letters.items ≡ g.letters.items → h.lanes.items ≡ states
    → moved script tick (turning n (lanes_of g.lanes.items) (Some b) g.letters.items) ≡ Some (turning_after true n (lanes_of states) c g.letters.items)
    → OwnsTurn (drop n (lanes_of states)) (Some c) → AreUnspent states → length states ≡ length g.lanes.items → Stands script tick h
stands_stepped script tick n g h b c states few low s gp gb hp hb hl same goes own u long =
    let there : place_of h ≡ turning n (lanes_of states) (Some c) g.letters.items = place_same (ap lanes_of same) hl hb hp in
    let was : place_of g ≡ turning n (lanes_of g.lanes.items) (Some b) g.letters.items = place_same refl refl gb gp in
    stands_next script tick g h few low s (ap (moved script tick) was ∙ (goes ∙ ap Some (sym there)))
    (subst AreUnspent (sym same) u) (ap length same ∙ long) (owns_same (sym (ap lanes_of same)) (sym hb) (sym hp) own)

-- or is over
pub stands_over : (script : Plan) (tick n : ℕ) (g h : Going) (b c : Begun) (states : List State) → length script.lanes ≤ 64 → tick < 4096 → Stands script tick g → g.phase ≡ phases.Turning n → g.begun ≡ Some b
    → h.phase ≡ phases.Turning (n + 1) → h.begun ≡ None → h.letters.items ≡ g.letters.items ++ c.post → h.lanes.items ≡ states
    → moved script tick (turning n (lanes_of g.lanes.items) (Some b) g.letters.items) ≡ Some (turning_after false n (lanes_of states) c g.letters.items)
    → AreUnspent states → length states ≡ length g.lanes.items → Stands script tick h
stands_over script tick n g h b c states few low s gp gb hp hb hl same goes u long =
    let there : place_of h ≡ turning (n + 1) (lanes_of states) None (g.letters.items ++ c.post) = place_same (ap lanes_of same) hl hb hp in
    let was : place_of g ≡ turning n (lanes_of g.lanes.items) (Some b) g.letters.items = place_same refl refl gb gp in
    stands_next script tick g h few low s (ap (moved script tick) was ∙ (goes ∙ ap Some (sym there)))
    (subst AreUnspent (sym same) u) (ap length same ∙ long) (owns_same refl (sym hb) (sym hp) (owns_none (drop (n + 1) (lanes_of h.lanes.items))))

-- ---- all turns are over

turned_all : (script : Plan) (tick n : ℕ) (lanes : List Lane) (begun : Option Begun) (letters : List Letter) → length lanes ≤ n → moved script tick (turning n lanes begun letters) ≡ Some (Giving lanes letters letters)
turned_all script tick n lanes begun letters h =
    let front : take n lanes ≡ lanes = take_all n lanes h in
    let back : drop n lanes ≡ [] = drop_all n lanes h in
    λ j. moved script tick (turning_from (front j) (back j) begun letters)

pub stands_turned : (script : Plan) (tick n : ℕ) (g h : Going) → length script.lanes ≤ 64 → tick < 4096 → Stands script tick g → g.phase ≡ phases.Turning n → length (lanes_of g.lanes.items) ≤ n
    → h.phase ≡ phases.Giving 0 → h.lanes ≡ g.lanes → h.letters ≡ g.letters → Stands script tick h
stands_turned script tick n g h few low s gp all hp hs hl =
    let there : place_of h ≡ Giving (lanes_of g.lanes.items) g.letters.items g.letters.items = place_same {p = h.begun} (ap (λ v. lanes_of v.items) hs) (ap (λ v. v.items) hl) refl hp in
    let was : place_of g ≡ turning n (lanes_of g.lanes.items) g.begun g.letters.items = place_same refl refl refl gp in
    stands_next script tick g h few low s (ap (moved script tick) was ∙ (turned_all script tick n (lanes_of g.lanes.items) g.begun g.letters.items all ∙ ap Some (sym there)))
    (subst (λ v. AreUnspent v.items) (sym hs) s.unspent) (ap (λ v. length v.items) hs) (owns_same {a = lanes_of h.lanes.items} {o = h.begun} refl refl (sym hp) tt)

-- ---- contexts go over

pub lined_at : (script : Plan) (tick k : ℕ) (g : Going) → Stands script tick g → g.phase ≡ phases.Giving k → AreLined g.lanes.items
lined_at script tick k g s e =
    let w = within_at script tick g (phases.Giving k) s e in
    subst AreLined (sym s.unspent) (lined (lanes_of g.lanes.items) (counted_from 0 (lanes_of g.lanes.items) w.places))

pub gives_at : (script : Plan) (tick k : ℕ) (lanes now : List Lane) (letters : List Letter) (one : Letter) → k < length letters → now ≡ gone_over tick (handing_of (get_or letters k one) lanes) lanes
    → moved script tick (Giving lanes (drop k letters) letters) ≡ Some (Giving now (drop (k + 1) letters) letters)
gives_at script tick k lanes now letters one h e =
    ap (λ (left : List Letter). moved script tick (Giving lanes left letters)) (drop_more letters k one h) ∙ ap (λ (ls : List Lane). Some (Giving ls (drop (k + 1) letters) letters)) (sym e)

pub stands_given : (script : Plan) (tick k : ℕ) (g h : Going) → length script.lanes ≤ 64 → tick < 4096 → Stands script tick g → moved script tick (place_of g) ≡ Some (place_of h)
    → AreUnspent h.lanes.items → length h.lanes.items ≡ length g.lanes.items → h.phase ≡ phases.Giving k → Stands script tick h
stands_given script tick k g h few low s e u c hp = stands_next script tick g h few low s e u c (owns_same {a = lanes_of h.lanes.items} {o = h.begun} refl refl (sym hp) tt)

-- all of them did
pub stands_gone : (script : Plan) (tick k : ℕ) (g h : Going) → length script.lanes ≤ 64 → tick < 4096 → Stands script tick g → g.phase ≡ phases.Giving k → length g.letters.items ≤ k
    → h.phase ≡ phases.Bringing 0 0 → h.lanes ≡ g.lanes → h.letters ≡ g.letters → Stands script tick h
stands_gone script tick k g h few low s gp all hp hs hl =
    let lanes : List Lane = lanes_of g.lanes.items in
    let letters : List Letter = g.letters.items in
    let there : place_of h ≡ Bringing [] lanes letters letters = place_same {p = h.begun} (ap (λ v. lanes_of v.items) hs) (ap (λ v. v.items) hl) refl hp in
    let was : place_of g ≡ Giving lanes (drop k letters) letters = place_same refl refl refl gp in
    let none : drop k letters ≡ [] = drop_all k letters all in
    stands_next script tick g h few low s (ap (moved script tick) was ∙ (ap (λ (left : List Letter). moved script tick (Giving lanes left letters)) none ∙ ap Some (sym there)))
    (subst (λ v. AreUnspent v.items) (sym hs) s.unspent) (ap (λ v. length v.items) hs) (owns_same {a = lanes_of h.lanes.items} {o = h.begun} refl refl (sym hp) tt)

-- ---- letters are brought

pub may_at : (script : Plan) (tick n k : ℕ) (g : Going) → Stands script tick g → g.phase ≡ phases.Bringing n k → AllMayTake script tick (drop n (lanes_of g.lanes.items)) (drop k g.letters.items) g.letters.items
may_at script tick n k g s e = (within_at script tick g (phases.Bringing n k) s e).may

pub stands_received : (script : Plan) (tick n k : ℕ) (g h : Going) (states : List State) → length script.lanes ≤ 64 → tick < 4096 → Stands script tick g → g.phase ≡ phases.Bringing n k
    → h.phase ≡ phases.Bringing n (k + 1) → h.letters.items ≡ g.letters.items → h.lanes.items ≡ states
    → moved script tick (bringing n k (lanes_of g.lanes.items) g.letters.items) ≡ Some (bringing n (k + 1) (lanes_of states) g.letters.items)
    → AreUnspent states → length states ≡ length g.lanes.items → Stands script tick h
stands_received script tick n k g h states few low s gp hp hl same goes u c =
    let there : place_of h ≡ bringing n (k + 1) (lanes_of states) g.letters.items = place_same {p = h.begun} (ap lanes_of same) hl refl hp in
    let was : place_of g ≡ bringing n k (lanes_of g.lanes.items) g.letters.items = place_same refl refl refl gp in
    stands_next script tick g h few low s (ap (moved script tick) was ∙ (goes ∙ ap Some (sym there)))
    (subst AreUnspent (sym same) u) (ap length same ∙ c) (owns_same {a = lanes_of h.lanes.items} {o = h.begun} refl refl (sym hp) tt)

-- a lane has them all
passes_at : (script : Plan) (tick n k : ℕ) (lanes : List Lane) (letters : List Letter) → n < length lanes → length letters ≤ k → moved script tick (bringing n k lanes letters) ≡ Some (bringing (n + 1) 0 lanes letters)
passes_at script tick n k [] letters h all = absurd (omega (arith, h))
passes_at script tick n k (d ∷ ds) letters h all =
    let lanes : List Lane = d ∷ ds in
    let none : drop k letters ≡ [] = drop_all k letters all in
    let here : drop n lanes ≡ get_or lanes n d ∷ drop (n + 1) lanes = drop_more lanes n d h in
    (λ j. moved script tick (Bringing (take n lanes) (here j) (none j) letters)) ∙ ap (λ (over : List Lane). Some (Bringing over (drop (n + 1) lanes) letters letters)) (sym (take_more lanes n d h))

pub stands_passed : (script : Plan) (tick n k : ℕ) (g h : Going) → length script.lanes ≤ 64 → tick < 4096 → Stands script tick g → g.phase ≡ phases.Bringing n k → n < length (lanes_of g.lanes.items) → length g.letters.items ≤ k
    → h.phase ≡ phases.Bringing (n + 1) 0 → h.lanes ≡ g.lanes → h.letters ≡ g.letters → Stands script tick h
stands_passed script tick n k g h few low s gp here all hp hs hl =
    let lanes : List Lane = lanes_of g.lanes.items in
    let letters : List Letter = g.letters.items in
    let there : place_of h ≡ bringing (n + 1) 0 lanes letters = place_same {p = h.begun} (ap (λ v. lanes_of v.items) hs) (ap (λ v. v.items) hl) refl hp in
    let was : place_of g ≡ bringing n k lanes letters = place_same refl refl refl gp in
    stands_next script tick g h few low s (ap (moved script tick) was ∙ (passes_at script tick n k lanes letters here all ∙ ap Some (sym there)))
    (subst (λ v. AreUnspent v.items) (sym hs) s.unspent) (ap (λ v. length v.items) hs) (owns_same {a = lanes_of h.lanes.items} {o = h.begun} refl refl (sym hp) tt)

-- all lanes have them
pub brought_at : (script : Plan) (tick n k : ℕ) (g : Going) → Stands script tick g → g.phase ≡ phases.Bringing n k → length (lanes_of g.lanes.items) ≤ n → lanes_of g.lanes.items ≡ lanes_at script (tick + 1)
brought_at script tick n k g s gp all =
    let lanes : List Lane = lanes_of g.lanes.items in
    let letters : List Letter = g.letters.items in
    let front : take n lanes ≡ lanes = take_all n lanes all in
    let back : drop n lanes ≡ [] = drop_all n lanes all in
    let there : bringing n k lanes letters ≡ Bringing lanes [] (drop k letters) letters = λ j. Bringing (front j) (back j) (drop k letters) letters in
    over_within script tick lanes (drop k letters) letters (subst (IsWithin script tick) there (within_at script tick g (phases.Bringing n k) s gp))

-- ---- the lanes of a place

take_drop : (n : ℕ) (lanes : List Lane) → take n lanes ++ drop n lanes ≡ lanes
take_drop zero lanes = refl
take_drop (suc n) [] = refl
take_drop (suc n) (lane ∷ lanes) = ap (λ (ls : List Lane). lane ∷ ls) (take_drop n lanes)

in_turning : (over waiting : List Lane) (begun : Option Begun) (posted : List Letter) → lanes_in (turning_from over waiting begun posted) ≡ over ++ waiting
in_turning over [] begun posted = refl
in_turning over (lane ∷ waiting) None posted = refl
in_turning over (lane ∷ waiting) (Some b) posted = refl

in_phase : (lanes : List Lane) (letters : List Letter) (begun : Option Begun) (x : Phase) → lanes_in (place_at lanes letters begun x) ≡ lanes
in_phase lanes letters begun (phases.Turning n) = in_turning (take n lanes) (drop n lanes) begun letters ∙ take_drop n lanes
in_phase lanes letters begun (phases.Giving k) = refl
in_phase lanes letters begun (phases.Bringing n k) = take_drop n lanes

pub lanes_in_place : (g : Going) → lanes_in (place_of g) ≡ lanes_of g.lanes.items
lanes_in_place g = in_phase (lanes_of g.lanes.items) g.letters.items g.begun g.phase

-- ---- a tick begins

pub starts_at : (g : Going) → g.phase ≡ phases.Turning 0 → g.begun ≡ None → g.letters.items ≡ [] → place_of g ≡ started (lanes_of g.lanes.items)
starts_at g gp gb gl = place_same refl gl gb gp ∙ turning_none [] (lanes_of g.lanes.items) []

pub stands_started : (script : Plan) (tick : ℕ) (g : Going) → length script.lanes ≤ 64 → tick ≤ 4096 → place_of g ≡ started (lanes_of g.lanes.items) → g.phase ≡ phases.Turning 0 → g.begun ≡ None → AreUnspent g.lanes.items → lanes_of g.lanes.items ≡ lanes_at script tick → Stands script tick g
stands_started script tick g few low there gp gb u e = record {
  unspent = u;
  count = sym (lanes_length g.lanes.items) ∙ (ap length e ∙ lane_count script tick);
  owns = owns_same refl (sym gb) (sym gp) (owns_none (lanes_of g.lanes.items));
  within = subst (IsWithin script tick) (sym (there ∙ ap started e)) (begins_within script tick few low);
}

-- ---- a lane of a number

pub got : {A B : Type 0} (f : A → B) (xs : List A) (n : ℕ) → option_map f (slice_get xs n) ≡ slice_get (map f xs) n
got f [] n = refl
got f (x ∷ xs) zero = refl
got f (x ∷ xs) (suc n) = got f xs n

got_unspent : (states : List State) (n : ℕ) (s : State) → AreUnspent states → slice_get states n ≡ Some s → s.spent ≡ false
got_unspent [] n s u e = cc
got_unspent (x ∷ states) zero s u e = let same : x ≡ s = cc in sym (ap (λ (k : State). k.spent) same) ∙ ap (λ (k : State). k.spent) (first_unspent x states u)
got_unspent (x ∷ states) (suc n) s u e = got_unspent states n s (rest_unspent x states u) e

pub lent_unspent : (states : List State) (n : ℕ) (o : Option (Bor State)) → AreUnspent states → option_copied o ≡ slice_get states n → IfSome o (λ s. s.now.spent ≡ false)
lent_unspent states n None u e = tt
lent_unspent states n (Some s) u e = got_unspent states n s.now u (sym e)

-- ---- what a hand over leaves

pub giving_place : (g : Going) (k : ℕ) → g.phase ≡ phases.Giving k → place_of g ≡ Giving (lanes_of g.lanes.items) (drop k g.letters.items) g.letters.items
giving_place g k e = place_same refl refl refl e

pub handed_lanes : (tick k : ℕ) (g : Going) (was states now : List State) (one : Letter) (gift : Gift) → was ≡ g.lanes.items
    → states ≡ map unspent (gone_over tick (handing_by gift.from (mails.Give gift.context gift.to) (lanes_of was)) (lanes_of was)) → gift_of (get_or g.letters.items k one) ≡ Some gift → now ≡ states
    → lanes_of now ≡ gone_over tick (handing_of (get_or g.letters.items k one) (lanes_of g.lanes.items)) (lanes_of g.lanes.items)
handed_lanes tick k g was states now one gift back went gives same =
    let lanes : List Lane = lanes_of g.lanes.items in
    ap lanes_of (same ∙ went) ∙ (lanes_unspent _
    ∙ (ap (λ (ss : List State). gone_over tick (handing_by gift.from (mails.Give gift.context gift.to) (lanes_of ss)) (lanes_of ss)) back
    ∙ ap (λ o. gone_over tick o lanes) (gift_goes (get_or g.letters.items k one) lanes gift gives)))

pub handed_place : (script : Plan) (tick k : ℕ) (g : Going) (was states now : List State) (one : Letter) (gift : Gift) → g.phase ≡ phases.Giving k → k < length g.letters.items → was ≡ g.lanes.items
    → states ≡ map unspent (gone_over tick (handing_by gift.from (mails.Give gift.context gift.to) (lanes_of was)) (lanes_of was)) → gift_of (get_or g.letters.items k one) ≡ Some gift → now ≡ states
    → moved script tick (place_of g) ≡ Some (Giving (lanes_of now) (drop (k + 1) g.letters.items) g.letters.items)
handed_place script tick k g was states now one gift gp h back went gives same =
    let lanes : List Lane = lanes_of g.lanes.items in
    let letter : Letter = get_or g.letters.items k one in
    let there : lanes_of now ≡ gone_over tick (handing_of letter lanes) lanes =
    ap lanes_of (same ∙ went) ∙ (lanes_unspent _
    ∙ (ap (λ (ss : List State). gone_over tick (handing_by gift.from (mails.Give gift.context gift.to) (lanes_of ss)) (lanes_of ss)) back
    ∙ ap (λ o. gone_over tick o lanes) (gift_goes letter lanes gift gives))) in
    ap (moved script tick) (giving_place g k gp) ∙ gives_at script tick k lanes (lanes_of now) g.letters.items one h there

pub handed_unspent : (lanes : List Lane) (states now : List State) → states ≡ map unspent lanes → now ≡ states → AreUnspent now
handed_unspent lanes states now went same = subst AreUnspent (sym (same ∙ went)) (ap (map unspent) (sym (lanes_unspent lanes)))

-- a call of `get`
get_none : (states : List State) (n : ℕ) → length states ≤ n → slice_get states n ≡ None
get_none [] n h = refl
get_none (x ∷ states) zero h = absurd (omega (arith, h))
get_none (x ∷ states) (suc n) h = get_none states n (omega (arith, h))

get_some : (states : List State) (n : ℕ) (d : State) → n < length states → slice_get states n ≡ Some (get_or states n d)
get_some [] n d h = absurd (omega (arith, h))
get_some (x ∷ states) zero d h = refl
get_some (x ∷ states) (suc n) d h = get_some states n d (omega (arith, h))

pub got_by : (states : List State) (n : ℕ) (o : Option (Bor State)) → is_some o ≡ nat_lt n (length states) → IfSome o (λ s. s.now ≡ get_or states n s.now) → option_copied o ≡ slice_get states n
got_by states n None e f = sym (get_none states n (ltb-false n (length states) (sym e)))
got_by states n (Some s) e f = ap Some f ∙ sym (get_some states n s.now (ltb-true n (length states) (sym e)))

-- ---- places of which nothing is told

pub turned_place : (script : Plan) (tick n : ℕ) (g h : Going) → g.phase ≡ phases.Turning n → length (lanes_of g.lanes.items) ≤ n → h.phase ≡ phases.Giving 0 → h.lanes ≡ g.lanes → h.letters ≡ g.letters
    → moved script tick (place_of g) ≡ Some (place_of h)
turned_place script tick n g h gp all hp hs hl =
    let there : place_of h ≡ Giving (lanes_of g.lanes.items) g.letters.items g.letters.items = place_same {p = h.begun} (ap (λ v. lanes_of v.items) hs) (ap (λ v. v.items) hl) refl hp in
    ap (moved script tick) (place_same refl refl refl gp) ∙ (turned_all script tick n (lanes_of g.lanes.items) g.begun g.letters.items all ∙ ap Some (sym there))

pub gone_place : (script : Plan) (tick k : ℕ) (g h : Going) → g.phase ≡ phases.Giving k → length g.letters.items ≤ k → h.phase ≡ phases.Bringing 0 0 → h.lanes ≡ g.lanes → h.letters ≡ g.letters
    → moved script tick (place_of g) ≡ Some (place_of h)
gone_place script tick k g h gp all hp hs hl =
    let lanes : List Lane = lanes_of g.lanes.items in
    let letters : List Letter = g.letters.items in
    let there : place_of h ≡ Bringing [] lanes letters letters = place_same {p = h.begun} (ap (λ v. lanes_of v.items) hs) (ap (λ v. v.items) hl) refl hp in
    ap (moved script tick) (giving_place g k gp) ∙ (ap (λ (left : List Letter). moved script tick (Giving lanes left letters)) (drop_all k letters all) ∙ ap Some (sym there))

pub passed_place : (script : Plan) (tick n k : ℕ) (g h : Going) → g.phase ≡ phases.Bringing n k → n < length (lanes_of g.lanes.items) → length g.letters.items ≤ k → h.phase ≡ phases.Bringing (n + 1) 0 → h.lanes ≡ g.lanes
    → h.letters ≡ g.letters → moved script tick (place_of g) ≡ Some (place_of h)
passed_place script tick n k g h gp here all hp hs hl =
    let lanes : List Lane = lanes_of g.lanes.items in
    let letters : List Letter = g.letters.items in
    let there : place_of h ≡ bringing (n + 1) 0 lanes letters = place_same {p = h.begun} (ap (λ v. lanes_of v.items) hs) (ap (λ v. v.items) hl) refl hp in
    ap (moved script tick) (place_same {p = g.begun} refl refl refl gp) ∙ (passes_at script tick n k lanes letters here all ∙ ap Some (sym there))

-- the lanes stand as they stood
pub still : (g h : Going) → lanes_of h.lanes.items ≡ lanes_of g.lanes.items → lanes_in (place_of h) ≡ lanes_in (place_of g)
still g h e = lanes_in_place h ∙ (e ∙ sym (lanes_in_place g))
