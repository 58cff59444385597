-- Levels whose ticks rise.
use Rattle.std.proofs.Common.{◌≡◌, ℕ, zero, suc, ◌+◌, ◌<◌, ◌≤◌, min, Bool, true, false, cond, List, [], ◌∷◌, length, map, get_or, take, drop, Some, refl, sym, ap, arith}
use Rattle.std.specs.Prelude.{nat_le, nat_lt, filter, slice_get, option_map, unwrap_or}
use Rattle.std.specs.List.{list_all, AllAdjacentBelow, AllWithin, IsAllAdjacentAnswer}
use Rattle.std.specs.List.Sorted.{IsNonDecreasingBy}
use Rattle.std.proofs.lemmas.Bool.{and_parts, and_from, and_left, and_right, ltb-true, lt-ltb, leb-false, le-ltb, leb-true}
use Rattle.loop_script.specs.declared.level.Level.{Level}
use Rattle.loop_script.specs.declared.plan.Plan.{Plan}
use Rattle.loop_script.specs.Level.{rises, come, to_come, least, change_after}
use Rattle.loop_script.specs.Rules.{plan_rules}
use Rattle.loop_script.specs.Parts.{levels_of}

abbrev above : ℕ → List Level → Bool
above n ls = list_all (λ m. nat_lt n m.tick) ls

above_more : (a b : ℕ) (ls : List Level) → nat_lt a b ≡ true → above b ls ≡ true → above a ls ≡ true
above_more a b [] h k = refl
above_more a b (m ∷ ls) h k =
    let parts = and_parts (nat_lt b m.tick) (above b ls) k in
    let here : nat_lt a m.tick ≡ true = lt-ltb a m.tick (omega (arith, ltb-true a b h, ltb-true b m.tick parts.0)) in
    and_from (nat_lt a m.tick) (above a ls) here (above_more a b ls h parts.1)

-- ---- each tick above its neighbour's is each above all before it
tail_rises : (l : Level) (ls : List Level) → AllAdjacentBelow (λ x y. true ≡ nat_lt x.tick y.tick) (l ∷ ls) (length (l ∷ ls)) → AllAdjacentBelow (λ x y. true ≡ nat_lt x.tick y.tick) ls (length ls)
tail_rises l ls h k d low = let e : suc k + 1 ≡ suc (k + 1) = omega arith in rw e at (h (suc k) d (omega arith))

first_above : (l : Level) (ls : List Level) → rises ls ≡ true → AllAdjacentBelow (λ x y. true ≡ nat_lt x.tick y.tick) (l ∷ ls) (length (l ∷ ls)) → above l.tick ls ≡ true
first_above l [] r h = refl
first_above l (m ∷ ls) r h =
    let step : nat_lt l.tick m.tick ≡ true = sym (h 0 l (omega arith)) in
    and_from (nat_lt l.tick m.tick) (above l.tick ls) step (above_more l.tick m.tick ls step (and_parts (above m.tick ls) (rises ls) r).0)

rises_true : (ls : List Level) → AllAdjacentBelow (λ x y. true ≡ nat_lt x.tick y.tick) ls (length ls) → rises ls ≡ true
rises_true [] h = refl
rises_true (l ∷ ls) h =
    let rest = rises_true ls (tail_rises l ls h) in
    and_from (above l.tick ls) (rises ls) (first_above l ls rest h) rest

first_not : (l : Level) (ls : List Level) → 1 < length (l ∷ ls) → false ≡ nat_lt l.tick (get_or (l ∷ ls) 1 l).tick → above l.tick ls ≡ false
first_not l [] low h = absurd (omega arith)
first_not l (m ∷ ls) low h = and_left (nat_lt l.tick m.tick) (above l.tick ls) (sym h)

rises_false : (ls : List Level) (k : ℕ) → k + 1 < length ls → ((d : Level) → false ≡ nat_lt (get_or ls k d).tick (get_or ls (k + 1) d).tick) → rises ls ≡ false
rises_false [] k low h = absurd (omega arith)
rises_false (l ∷ ls) zero low h = and_left (above l.tick ls) (rises ls) (first_not l ls low (h l))
rises_false (l ∷ ls) (suc k) low h =
    let e : suc k + 1 ≡ suc (k + 1) = omega arith in
    and_right (above l.tick ls) (rises ls) (rises_false ls k (omega arith) (λ d. rw e at (h d)))

pub rises_from_neighbours : (ls : List Level) (r : Bool) → IsAllAdjacentAnswer (λ (x : Level) (y : Level) (b : Bool). b ≡ nat_lt x.tick y.tick) ls r → r ≡ rises ls
rises_from_neighbours ls true h = sym (rises_true ls h)
rises_from_neighbours ls false h = sym (rises_false ls h.0 h.1 h.2)

-- ---- so a search by halves finds where the ticks to come begin
above_at : (n : ℕ) (ls : List Level) (j : ℕ) (d : Level) → above n ls ≡ true → j < length ls → n < (get_or ls j d).tick
above_at n [] j d h low = absurd (omega arith)
above_at n (l ∷ ls) zero d h low = ltb-true n l.tick (and_parts (nat_lt n l.tick) (above n ls) h).0
above_at n (l ∷ ls) (suc j) d h low = above_at n ls j d (and_parts (nat_lt n l.tick) (above n ls) h).1 (omega arith)

pub no_tick_falls : (ls : List Level) → rises ls ≡ true → IsNonDecreasingBy (λ (l : Level). l.tick) ls
no_tick_falls [] h i j d le low = absurd (omega arith)
no_tick_falls (l ∷ ls) h zero zero d le low = omega arith
no_tick_falls (l ∷ ls) h zero (suc j) d le low = let up = above_at l.tick ls j d (and_parts (above l.tick ls) (rises ls) h).0 (omega arith) in omega arith
no_tick_falls (l ∷ ls) h (suc i) zero d le low = absurd (omega arith)
no_tick_falls (l ∷ ls) h (suc i) (suc j) d le low = no_tick_falls ls (and_parts (above l.tick ls) (rises ls) h).1 i j d (omega arith) (omega arith)

-- ---- a list cut where a test begins or ceases to hold
later : {A : Type 0} (P : A → Type 0) (x : A) (xs : List A) (n : ℕ) → AllWithin P (x ∷ xs) (suc n) (length (x ∷ xs)) → AllWithin P xs n (length xs)
later P x xs n h k d low high = h (suc k) d (omega arith) (omega arith)

rest_of : {A : Type 0} (P : A → Type 0) (x : A) (xs : List A) → AllWithin P (x ∷ xs) 0 (length (x ∷ xs)) → AllWithin P xs 0 (length xs)
rest_of P x xs h k d low high = h (suc k) d (omega arith) (omega arith)

sooner : {A : Type 0} (P : A → Type 0) (x : A) (xs : List A) (n : ℕ) → AllWithin P (x ∷ xs) 0 (suc n) → AllWithin P xs 0 n
sooner P x xs n h k d low high = h (suc k) d (omega arith) (omega arith)

abbrev Cut : {A : Type 0} → (A → Bool) → List A → ℕ → Type 0
Cut p xs n = AllWithin (λ x. p x ≡ true) xs 0 n × AllWithin (λ x. p x ≡ false) xs n (length xs)

pub take_cut : {A : Type 0} (p : A → Bool) (xs : List A) (n : ℕ) → Cut p xs n → take n xs ≡ filter p xs
take_cut p [] zero h = refl
take_cut p [] (suc n) h = refl
take_cut p (x ∷ xs) zero h = rw (h.1 0 x (omega arith) (omega arith)) (take_cut p xs 0 (λ k d low high. absurd (omega arith), rest_of (λ y. p y ≡ false) x xs h.1))
take_cut p (x ∷ xs) (suc n) h = rw (h.0 0 x (omega arith) (omega arith)) (ap (λ ys. x ∷ ys) (take_cut p xs n (sooner (λ y. p y ≡ true) x xs n h.0, later (λ y. p y ≡ false) x xs n h.1)))

abbrev Joined : {A : Type 0} → (A → Bool) → List A → ℕ → Type 0
Joined p xs n = AllWithin (λ x. p x ≡ false) xs 0 n × AllWithin (λ x. p x ≡ true) xs n (length xs)

pub drop_cut : {A : Type 0} (p : A → Bool) (xs : List A) (n : ℕ) → Joined p xs n → drop n xs ≡ filter p xs
drop_cut p [] zero h = refl
drop_cut p [] (suc n) h = refl
drop_cut p (x ∷ xs) zero h = rw (h.1 0 x (omega arith) (omega arith)) (ap (λ ys. x ∷ ys) (drop_cut p xs 0 (λ k d low high. absurd (omega arith), rest_of (λ y. p y ≡ true) x xs h.1)))
drop_cut p (x ∷ xs) (suc n) h = rw (h.0 0 x (omega arith) (omega arith)) (drop_cut p xs n (sooner (λ y. p y ≡ false) x xs n h.0, later (λ y. p y ≡ true) x xs n h.1))

abbrev Come : ℕ → List Level → ℕ → Type 0
Come tick ls n = Cut (λ l. nat_le l.tick tick) ls n

pub come_is : (tick : ℕ) (ls : List Level) (n : ℕ) → Come tick ls n → take n ls ≡ come tick ls
come_is tick ls n h = take_cut (λ l. nat_le l.tick tick) ls n h

pub to_come_is : (tick : ℕ) (ls : List Level) (n : ℕ) → Come tick ls n → drop n ls ≡ to_come tick ls
to_come_is tick ls n h = drop_cut (λ l. nat_lt tick l.tick) ls n (
  λ k d low high. le-ltb tick (get_or ls k d).tick (leb-true (get_or ls k d).tick tick (h.0 k d low high)),
  λ k d low high. lt-ltb tick (get_or ls k d).tick (leb-false (get_or ls k d).tick tick (h.1 k d low high)),
)

-- ---- the least tick of those that rise is the first
least_is_above : (n d : ℕ) (ls : List Level) → above n ls ≡ true → n ≤ d → n ≤ unwrap_or (least (map (λ l. l.tick) ls)) d
least_is_above n d [] h k = k
least_is_above n d (m ∷ ms) h k =
    let parts = and_parts (nat_lt n m.tick) (above n ms) h in
    let here = ltb-true n m.tick parts.0 in
    let rest = least_is_above n m.tick ms parts.1 (omega arith) in
    omega arith

rising_least : (ls : List Level) → rises ls ≡ true → least (map (λ l. l.tick) ls) ≡ option_map (λ l. l.tick) (slice_get ls 0)
rising_least [] h = refl
rising_least (l ∷ ls) h =
    let up = least_is_above l.tick l.tick ls (and_parts (above l.tick ls) (rises ls) h).0 (omega arith) in
    let here : min l.tick (unwrap_or (least (map (λ m. m.tick) ls)) l.tick) ≡ l.tick = omega arith in
    ap Some here

kept_above : (b : Bool) (n : ℕ) (l : Level) (ls : List Level) → nat_lt n l.tick ≡ true → above n ls ≡ true → above n (cond b (l ∷ ls) ls) ≡ true
kept_above true n l ls h k = and_from (nat_lt n l.tick) (above n ls) h k
kept_above false n l ls h k = k

above_filter : (n : ℕ) (p : Level → Bool) (ls : List Level) → above n ls ≡ true → above n (filter p ls) ≡ true
above_filter n p [] h = refl
above_filter n p (l ∷ ls) h =
    let parts = and_parts (nat_lt n l.tick) (above n ls) h in
    kept_above (p l) n l (filter p ls) parts.0 (above_filter n p ls parts.1)

kept_rises : (b : Bool) (l : Level) (ls : List Level) → above l.tick ls ≡ true → rises ls ≡ true → rises (cond b (l ∷ ls) ls) ≡ true
kept_rises true l ls h k = and_from (above l.tick ls) (rises ls) h k
kept_rises false l ls h k = k

rises_filter : (p : Level → Bool) (ls : List Level) → rises ls ≡ true → rises (filter p ls) ≡ true
rises_filter p [] h = refl
rises_filter p (l ∷ ls) h =
    let parts = and_parts (above l.tick ls) (rises ls) h in
    kept_rises (p l) l (filter p ls) (above_filter l.tick p ls parts.0) (rises_filter p ls parts.1)

pub first_to_come : (tick : ℕ) (ls : List Level) → rises ls ≡ true → change_after tick ls ≡ option_map (λ l. l.tick) (slice_get (to_come tick ls) 0)
first_to_come tick ls h = rising_least (to_come tick ls) (rises_filter (λ l. nat_lt tick l.tick) ls h)

-- ---- each descriptor's levels rise
rising_among : (fds : List (List Level)) (fd : ℕ) → list_all rises fds ≡ true → rises (unwrap_or (slice_get fds fd) []) ≡ true
rising_among [] fd h = refl
rising_among (ls ∷ fds) zero h = (and_parts (rises ls) (list_all rises fds) h).0
rising_among (ls ∷ fds) (suc fd) h = rising_among fds fd (and_parts (rises ls) (list_all rises fds) h).1

pub levels_rise : (p : Plan) (fd : ℕ) → plan_rules p ≡ true → rises (levels_of p fd) ≡ true
levels_rise p fd h = rising_among p.fds fd (and_parts _ _ (and_parts _ _ h).0).0
