-- Lanes that stand by number: what one of them does, and what goes from one to another.
use Rattle.std.proofs.Common.{◌≡◌, ◌⊎◌, inl, inr, ℕ, zero, suc, ◌+◌, ◌<◌, ◌≤◌, ◌==◌, Bool, true, false, cond, Option, Some, None, is_some, List, [], ◌∷◌, map, length, get_or, set, option_map, refl, ap, sym, ◌∙◌, subst, arith, ltb-true, ltb-false}
use Rattle.std.specs.Prelude.{nat_lt, OnOk, Result, Ok, Err}
use Rattle.std.proofs.lemmas.Result.{on_ok_weaker}
use Rattle.context_core.specs.declared.context.Context.{Context}
use Rattle.std.specs.Option.{option_and_then}
use Rattle.std.specs.List.{cons_option, range_with_len}
use Rattle.std.proofs.lemmas.List.{length-map}
use Rattle.std.proofs.lemmas.Bool.{eq-eqb}
use Rattle.lane_turn.specs.Lane.{Lane, State, Kept, context_at, is_given}
use Rattle.lane_turn.specs.Handover.{Handing, kept_of, handed_of, left_by, without_context, taken_over, handed, all_handed, lane_of_number, handing_of, moved, handings, handed_over}
use Rattle.post_office.specs.declared.letter.Letter.{Letter}
use Rattle.tick_stepper.specs.Share.{unspent, unspent_all, lanes_in, at_number, AreLined, HasGone}
use Rattle.tick_stepper.proofs.Ready.{kept_is}
use Rattle.lane_turn.proofs.Places.{Counted, counted_step, IsOutside, tail_outside, is_other, other_number, found_none, found_at}
use Rattle.tick_stepper.proofs.Counted.{number_over}

-- ---- one lane by its number

stays : (step : Lane → Lane) (lane : Lane) (b : Bool) → b ≡ false → cond b (step lane) lane ≡ lane
stays step lane b e = ap (λ (x : Bool). cond x (step lane) lane) e

pub at_none : (step : Lane → Lane) (k a : ℕ) (lanes : List Lane) → Counted a lanes → IsOutside k a (length lanes) → map (at_number k step) lanes ≡ lanes
at_none step k a [] c h = refl
at_none step k a (lane ∷ lanes) c h =
    ap (λ (l : Lane). l ∷ map (at_number k step) lanes) (stays step lane (lane.number == k) (other_number k a lane c.0 (is_other k a (length lanes) h)))
    ∙ ap (λ (ls : List Lane). lane ∷ ls) (at_none step k (a + 1) lanes c.1 (tail_outside k a (length lanes) h))

pub at_index : (step : Lane → Lane) (k a i : ℕ) (lanes : List Lane) (d : Lane) → k ≡ a + i → Counted a lanes → i < length lanes → map (at_number k step) lanes ≡ set lanes i (step (get_or lanes i d))
at_index step k a i [] d e c h = absurd (omega (arith, h))
at_index step k a zero (lane ∷ lanes) d e c h =
    ap (λ (b : Bool). cond b (step lane) lane ∷ map (at_number k step) lanes) (eq-eqb lane.number k (omega (arith, c.0, e)))
    ∙ ap (λ (ls : List Lane). step lane ∷ ls) (at_none step k (a + 1) lanes c.1 (inl (omega (arith, e))))
at_index step k a (suc i) (lane ∷ lanes) d e c h =
    ap (λ (l : Lane). l ∷ map (at_number k step) lanes) (stays step lane (lane.number == k) (other_number k a lane c.0 (λ p. absurd (omega (arith, p, e)))))
    ∙ ap (λ (ls : List Lane). lane ∷ ls) (at_index step k (a + 1) i lanes d (omega (arith, e)) c.1 (omega (arith, h)))

-- ---- lanes in a row

pub lanes_unspent : (lanes : List Lane) → lanes_in (unspent_all lanes) ≡ lanes
lanes_unspent [] = refl
lanes_unspent (lane ∷ lanes) = ap (λ (ls : List Lane). lane ∷ ls) (lanes_unspent lanes)

places_of : (a : ℕ) (lanes : List Lane) → Counted a lanes → map (λ (l : Lane). l.number) lanes ≡ range_with_len a (length lanes)
places_of a [] c = refl
places_of a (lane ∷ lanes) c = ap (λ (n : ℕ). n ∷ map (λ (l : Lane). l.number) lanes) c.0 ∙ ap (λ (ns : List ℕ). a ∷ ns) (places_of (a + 1) lanes c.1)

pub lined : (lanes : List Lane) → Counted 0 lanes → AreLined (unspent_all lanes)
lined lanes c =
    let same : length (unspent_all lanes) ≡ length lanes = simp length-map in
    record {
      unspent = ap unspent_all (sym (lanes_unspent lanes));
      places = ap (map (λ (l : Lane). l.number)) (lanes_unspent lanes) ∙ (places_of 0 lanes c ∙ ap (range_with_len 0) (sym same));
    }

counted_of : (a n : ℕ) (lanes : List Lane) → map (λ (l : Lane). l.number) lanes ≡ range_with_len a n → Counted a lanes
counted_of a n [] e = tt
counted_of a zero (lane ∷ lanes) e = cc
counted_of a (suc n) (lane ∷ lanes) e = (first_same lane.number a _ _ e, counted_of (a + 1) n lanes (rest_same lane.number a _ _ e))
  where
    first_same : (x y : ℕ) (xs ys : List ℕ) → x ∷ xs ≡ y ∷ ys → x ≡ y
    first_same x y xs ys p = cc

    rest_same : (x y : ℕ) (xs ys : List ℕ) → x ∷ xs ≡ y ∷ ys → xs ≡ ys
    rest_same x y xs ys p = cc

pub counted_in : (states : List State) → AreLined states → Counted 0 (lanes_in states)
counted_in states l = counted_of 0 (length states) (lanes_in states) l.places

in_length : (states : List State) → length (lanes_in states) ≡ length states
in_length states = simp length-map

set_unspent : (lanes : List Lane) (i : ℕ) (lane : Lane) → set (unspent_all lanes) i (unspent lane) ≡ unspent_all (set lanes i lane)
set_unspent [] i lane = refl
set_unspent (x ∷ lanes) zero lane = refl
set_unspent (x ∷ lanes) (suc i) lane = ap (λ (all : List State). unspent x ∷ all) (set_unspent lanes i lane)

get_unspent : (lanes : List Lane) (i : ℕ) (d : State) → i < length lanes → get_or (unspent_all lanes) i d ≡ unspent (get_or lanes i d.lane)
get_unspent [] i d h = absurd (omega (arith, h))
get_unspent (x ∷ lanes) zero d h = refl
get_unspent (x ∷ lanes) (suc i) d h = get_unspent lanes i d (omega (arith, h))

-- the one in a place is in it
pub one_there : (states : List State) (i : ℕ) (d : State) → AreLined states → i < length states → get_or states i d ≡ unspent (get_or (lanes_in states) i d.lane)
one_there states i d l h = ap (λ (all : List State). get_or all i d) l.unspent ∙ get_unspent (lanes_in states) i d (omega (arith, h, in_length states))

-- no call of it was refused memory
pub unspent_there : (states : List State) (i : ℕ) (d : State) → AreLined states → i < length states → get_or states i d ≡ unspent (get_or states i d).lane
unspent_there states i d l h =
    let there = one_there states i d l h in
    there ∙ ap (λ (s : State). unspent s.lane) (sym there)

-- it takes a step
pub steps_there : (step : Lane → Lane) (states : List State) (i : ℕ) (d now : State) → AreLined states → i < length states
    → now ≡ unspent (step (get_or states i d).lane) → set states i now ≡ unspent_all (map (at_number i step) (lanes_in states))
steps_there step states i d now l h took =
    let lanes : List Lane = lanes_in states in
    let lane : Lane = get_or lanes i d.lane in
    ap (set states i) (took ∙ ap (λ (s : State). unspent (step s.lane)) (one_there states i d l h))
    ∙ (ap (λ (all : List State). set all i (unspent (step lane))) l.unspent
    ∙ (set_unspent lanes i (step lane)
    ∙ ap unspent_all (sym (at_index step i 0 i lanes d.lane (omega arith) (counted_in states l) (omega (arith, h, in_length states))))))

pub none_there : (step : Lane → Lane) (states : List State) (i : ℕ) → AreLined states → length states ≤ i → states ≡ unspent_all (map (at_number i step) (lanes_in states))
none_there step states i l h = l.unspent ∙ ap unspent_all (sym (at_none step i 0 (lanes_in states) (counted_in states l) (inr (omega (arith, h, in_length states)))))

pub found_there : (states : List State) (i : ℕ) (d : State) → AreLined states → i < length states → lane_of_number i (lanes_in states) ≡ Some (get_or states i d).lane
found_there states i d l h =
    found_at i 0 i (lanes_in states) d.lane (omega arith) (counted_in states l) (omega (arith, h, in_length states))
    ∙ ap (λ (s : State). Some s.lane) (sym (one_there states i d l h))

pub nowhere : (states : List State) (i : ℕ) → AreLined states → length states ≤ i → lane_of_number i (lanes_in states) ≡ None
nowhere states i l h = found_none i 0 (lanes_in states) (counted_in states l) (inr (omega (arith, h, in_length states)))

both_ok : {T E : Type 0} (P Q : Type 0) (r : Result T E) → OnOk r P → OnOk r Q → OnOk r (P × Q)
both_ok P Q (Ok v) p q = (p, q)
both_ok P Q (Err e) p q = tt

-- what a call of it did
pub took_there : {E : Type 0} (r : Result (Unit {0}) E) (now : State) (lane : Lane) → OnOk r (now.lane ≡ lane) → OnOk r (now.spent ≡ false) → OnOk r (now ≡ unspent lane)
took_there r now lane l s = on_ok_weaker r (λ h. kept_is now lane h.0 h.1) (both_ok (now.lane ≡ lane) (now.spent ≡ false) r l s)

-- ---- a context that goes from one lane to another

set_same : (lanes : List Lane) (i : ℕ) (d : Lane) → set lanes i (get_or lanes i d) ≡ lanes
set_same [] i d = refl
set_same (lane ∷ lanes) zero d = refl
set_same (lane ∷ lanes) (suc i) d = ap (λ (ls : List Lane). lane ∷ ls) (set_same lanes i d)

-- a lane that hands nothing over is left
pub left_none : (context : ℕ) (lane : Lane) (o : Option Kept) → o ≡ None → cond (is_some o) (without_context context lane) lane ≡ lane
left_none context lane o e = ap (λ (x : Option Kept). cond (is_some x) (without_context context lane) lane) e

pub left_some : (context : ℕ) (lane : Lane) (o : Option Kept) (kept : Kept) → o ≡ Some kept → cond (is_some o) (without_context context lane) lane ≡ without_context context lane
left_some context lane o kept e = ap (λ (x : Option Kept). cond (is_some x) (without_context context lane) lane) e

is_below : (k n : ℕ) (b : Bool) → nat_lt k n ≡ b → (k < n) ⊎ (n ≤ k)
is_below k n true e = inl (ltb-true k n e)
is_below k n false e = inr (ltb-false k n e)

abbrev gives : (sender context : ℕ) (lanes : List Lane) → Option Kept
gives sender context lanes = option_and_then (handed_of context) (lane_of_number sender lanes)

-- what the lane in a place hands over
gives_at : (sender context : ℕ) (lanes : List Lane) (d : Lane) → Counted 0 lanes → sender < length lanes → gives sender context lanes ≡ handed_of context (get_or lanes sender d)
gives_at sender context lanes d c h = ap (λ (o : Option Lane). option_and_then (handed_of context) o) (found_at sender 0 sender lanes d (omega arith) c h)

pub over_none : (sender context : ℕ) (lanes : List Lane) → Counted 0 lanes → gives sender context lanes ≡ None → map (at_number sender (left_by context)) lanes ≡ lanes
over_none sender context [] c e = refl
over_none sender context (d ∷ ds) c e = by (is_below sender (length lanes) (nat_lt sender (length lanes)) refl)
  where
    lanes : List Lane
    lanes = d ∷ ds

    by : (sender < length lanes) ⊎ (length lanes ≤ sender) → map (at_number sender (left_by context)) lanes ≡ lanes
    by (inl h) =
        let lane : Lane = get_or lanes sender d in
        at_index (left_by context) sender 0 sender lanes d (omega arith) c h
        ∙ (ap (λ (l : Lane). set lanes sender l) (left_none context lane (handed_of context lane) (sym (gives_at sender context lanes d c h) ∙ e)) ∙ set_same lanes sender d)
    by (inr h) = at_none (left_by context) sender 0 lanes c (inr (omega (arith, h)))

abbrev number_or : ℕ → Option Kept → ℕ
number_or n None = n
number_or n (Some k) = k.number

kept_number : (context : ℕ) (lane : Lane) (kept : Kept) → handed_of context lane ≡ Some kept → kept.number ≡ context
kept_number context lane kept e = by (is_given context lane) (context_at context lane) e
  where
    by : (b : Bool) (o : Option Context) → cond b (option_map (kept_of context lane) o) None ≡ Some kept → kept.number ≡ context
    by true None p = let no : false ≡ true = ap (λ (x : Option Kept). is_some x) p in cc
    by true (Some c) p = sym (ap (λ (x : Option Kept). number_or context x) p)
    by false o p = let no : false ≡ true = ap (λ (x : Option Kept). is_some x) p in cc

map_map : (f g : Lane → Lane) (lanes : List Lane) → map f (map g lanes) ≡ map (λ lane. f (g lane)) lanes
map_map f g [] = refl
map_map f g (lane ∷ lanes) = ap (λ (ls : List Lane). f (g lane) ∷ ls) (map_map f g lanes)

pub over_some : (tick sender context to : ℕ) (lanes : List Lane) (kept : Kept) → Counted 0 lanes → gives sender context lanes ≡ Some kept
    → map (at_number to (taken_over tick kept)) (map (at_number sender (left_by context)) lanes) ≡ map (handed tick (record { sender = sender; to = to; kept = kept })) lanes
over_some tick sender context to [] kept c e = refl
over_some tick sender context to (d ∷ ds) kept c e = by (is_below sender (length lanes) (nat_lt sender (length lanes)) refl)
  where
    lanes : List Lane
    lanes = d ∷ ds

    by : (sender < length lanes) ⊎ (length lanes ≤ sender) → map (at_number to (taken_over tick kept)) (map (at_number sender (left_by context)) lanes) ≡ map (handed tick (record { sender = sender; to = to; kept = kept })) lanes
    by (inl h) =
        let lane : Lane = get_or lanes sender d in
        let given : handed_of context lane ≡ Some kept = sym (gives_at sender context lanes d c h) ∙ e in
        let goes : left_by context lane ≡ without_context kept.number lane = left_some context lane (handed_of context lane) kept given ∙ ap (λ (n : ℕ). without_context n lane) (sym (kept_number context lane kept given)) in
        let lets : map (at_number sender (left_by context)) lanes ≡ map (at_number sender (without_context kept.number)) lanes =
        at_index (left_by context) sender 0 sender lanes d (omega arith) c h
        ∙ (ap (λ (l : Lane). set lanes sender l) goes ∙ sym (at_index (without_context kept.number) sender 0 sender lanes d (omega arith) c h)) in
        ap (map (at_number to (taken_over tick kept))) lets ∙ map_map (at_number to (taken_over tick kept)) (at_number sender (without_context kept.number)) lanes
    by (inr h) = let no : None ≡ Some kept = sym (ap (λ (o : Option Lane). option_and_then (handed_of context) o) (found_none sender 0 lanes c (inr (omega (arith, h))))) ∙ e in cc

counted_at_number : (k : ℕ) (step : Lane → Lane) → ((lane : Lane) → (step lane).number ≡ lane.number) → (n : ℕ) (lanes : List Lane) → Counted n lanes → Counted n (map (at_number k step) lanes)
counted_at_number k step same n lanes c = counted_step (at_number k step) (λ lane. by lane (lane.number == k)) n lanes c
  where
    by : (lane : Lane) (b : Bool) → (cond b (step lane) lane).number ≡ lane.number
    by lane true = same lane
    by lane false = refl

pub left_number : (context : ℕ) (lane : Lane) → (left_by context lane).number ≡ lane.number
left_number context lane = by (is_some (handed_of context lane))
  where
    by : (b : Bool) → (cond b (without_context context lane) lane).number ≡ lane.number
    by true = refl
    by false = refl

pub counted_left : (sender context : ℕ) (lanes : List Lane) → Counted 0 lanes → Counted 0 (map (at_number sender (left_by context)) lanes)
counted_left sender context lanes c = counted_at_number sender (left_by context) (left_number context) 0 lanes c

pub counted_moved : (tick : ℕ) (o : Option Handing) (lanes : List Lane) → Counted 0 lanes → Counted 0 (moved tick o lanes)
counted_moved tick None lanes c = c
counted_moved tick (Some h) lanes c = counted_step (handed tick h) (λ lane. number_over tick (h ∷ []) lane) 0 lanes c

-- ---- what the first letter gives goes over, and then the rest

map_after : (tick : ℕ) (h : Handing) (hs : List Handing) (lanes : List Lane) → map (all_handed tick hs) (map (handed tick h) lanes) ≡ map (all_handed tick (h ∷ hs)) lanes
map_after tick h hs lanes = map_map (all_handed tick hs) (handed tick h) lanes

pub first_over : (tick : ℕ) (o : Option Handing) (letters : List Letter) (lanes : List Lane)
    → handed_over tick letters (moved tick o lanes) ≡ map (all_handed tick (cons_option o (handings tick letters (moved tick o lanes)))) lanes
first_over tick None letters lanes = refl
first_over tick (Some h) letters lanes = map_after tick h (handings tick letters (moved tick (Some h) lanes)) lanes

pub none_left : (tick : ℕ) (lanes : List Lane) → handed_over tick [] lanes ≡ lanes
none_left tick [] = refl
none_left tick (lane ∷ lanes) = ap (λ (ls : List Lane). lane ∷ ls) (none_left tick lanes)

-- after a letter lanes stand in a row as before
pub next_lined : (tick : ℕ) (l : Letter) (states next : List State) → AreLined states → HasGone tick l states next → AreLined next
next_lined tick l states next h e =
    let o = handing_of l (lanes_in states) in
    subst AreLined (sym e.over) (lined (moved tick o (lanes_in states)) (counted_moved tick o (lanes_in states) (counted_in states h)))

-- and what the other letters give goes over as it did
pub rest_over : (tick : ℕ) (l : Letter) (rest : List Letter) (states next : List State) → HasGone tick l states next → handed_over tick rest (lanes_in next) ≡ handed_over tick (l ∷ rest) (lanes_in states)
rest_over tick l rest states next e =
    let o = handing_of l (lanes_in states) in
    ap (λ (all : List State). handed_over tick rest (lanes_in all)) e.over
    ∙ (ap (handed_over tick rest) (lanes_unspent (moved tick o (lanes_in states))) ∙ first_over tick o rest (lanes_in states))
