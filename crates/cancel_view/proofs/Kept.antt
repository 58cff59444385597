-- Handlers in their slots, with each cancellable's ids, after one more and after one less.
use Rattle.std.proofs.Common.{◌≡◌, ◌≢◌, ℕ, zero, suc, ◌+◌, ◌<◌, ◌≤◌, ◌==◌, Bool, true, false, cond, not, Option, Some, None, List, [], ◌∷◌, ◌++◌, map, length, refl, ap, sym, subst, ◌∙◌, arith}
use Rattle.std.proofs.lemmas.Bool.Decides.{nat_tests}
use Rattle.std.proofs.lemmas.List.{append-nil}
use Rattle.std.proofs.lemmas.List.Elements.{filter-append}
use Rattle.std.specs.Prelude.{is_some, slice_get, slice_set, slice_index_or, option_map, Vec}
use Rattle.std.specs.Option.{option_flatten}
use Rattle.std.specs.List.{filter, filter_map, cons_option, list_any, AllByRecursion}
use Rattle.std.specs.Ordering.{nat_cmp}
use Rattle.std.specs.Map.{lookup}
use Rattle.std.specs.BTreeMap.{BTreeMap, is_at}
use Rattle.cancel_view.specs.declared.handler.Handler.{Handler}
use Rattle.cancel_view.specs.declared.handler.Fired.{Fired}
use Rattle.cancel_view.specs.declared.handlers.Connection.{Connection}
use Rattle.cancel_view.specs.Seen.{Seen, IsRising, connected, RiseWithin, is_of, fired_as, has_id, has_other_id}
use Rattle.cancel_view.specs.Groups.{AreKept, group, listed, handlers_from, handlers_in, connection_at, emptied, fired_at}
use Rattle.cancel_view.proofs.Rising.{rise_fired}

abbrev Slots : Type 0
Slots = List (Option Connection)

tests_too : (id n : ℕ) → is_at (nat_cmp id) n ≡ (id == n)
tests_too id n = by (is_at (nat_cmp id) n) refl
  where
    by : (b : Bool) → is_at (nat_cmp id) n ≡ b → b ≡ (id == n)
    by true e = grind (arith, nat_tests)
    by false e = grind (arith, nat_tests)

are_same : (a b : ℕ) → a ≡ b → (a == b) ≡ true
are_same a b h = grind (arith, nat_tests)

are_not : (a b : ℕ) → a ≢ b → (a == b) ≡ false
are_not a b h = grind (arith, nat_tests)

is_same : (a b : ℕ) → (a == b) ≡ true → a ≡ b
is_same a b h = grind (arith, nat_tests)

-- ---- handlers by their slots

-- their ids rise
pub rise : (low first high : ℕ) (slots : Slots) → low < first → high ≡ first + length slots → RiseWithin low high (handlers_from first slots)
rise low first high [] l e = omega (arith, l, e)
rise low first high (None ∷ slots) l e = rise low (first + 1) high slots (omega (arith, l)) (omega (arith, e))
rise low first high (Some c ∷ slots) l e = (l, rise first (first + 1) high slots (omega arith) (omega (arith, e)))

pub fired_rise : (c : ℕ) (slots : Slots) → IsRising (map fired_as (filter (is_of c) (handlers_in slots)))
fired_rise c slots = rise_fired c 0 (1 + length slots) (handlers_in slots) (rise 0 1 (1 + length slots) slots (omega arith) refl)

-- none has an id below the first one
none_below : (id first : ℕ) (slots : Slots) → id < first → list_any (has_id id) (handlers_from first slots) ≡ false
none_below id first [] l = refl
none_below id first (None ∷ slots) l = none_below id (first + 1) slots (omega (arith, l))
none_below id first (Some c ∷ slots) l = rw (are_not first id (λ e. absurd (omega (arith, e, l)))) (none_below id (first + 1) slots (omega (arith, l)))

all_stay : (id first : ℕ) (slots : Slots) → id < first → filter (has_other_id id) (handlers_from first slots) ≡ handlers_from first slots
all_stay id first [] l = refl
all_stay id first (None ∷ slots) l = all_stay id (first + 1) slots (omega (arith, l))
all_stay id first (Some c ∷ slots) l =
    rw (are_not first id (λ e. absurd (omega (arith, e, l)))) (ap (λ (hs : List Handler). record { id = first; cancellable = c.cancellable; proc = c.proc } ∷ hs) (all_stay id (first + 1) slots (omega (arith, l))))

-- whether one has an id
found_from : (id first i : ℕ) (slots : Slots) → id ≡ first + i → is_some (option_flatten (slice_get slots i)) ≡ list_any (has_id id) (handlers_from first slots)
found_from id first i [] e = refl
found_from id first zero (None ∷ slots) e = sym (none_below id (first + 1) slots (omega (arith, e)))
found_from id first zero (Some c ∷ slots) e = rw (are_same first id (omega (arith, e))) refl
found_from id first (suc i) (None ∷ slots) e = found_from id (first + 1) i slots (omega (arith, e))
found_from id first (suc i) (Some c ∷ slots) e = rw (are_not first id (λ s. absurd (omega (arith, e, s)))) (found_from id (first + 1) i slots (omega (arith, e)))

pub found : (id : ℕ) (slots : Slots) → is_some (connection_at slots id) ≡ list_any (has_id id) (handlers_in slots)
found zero slots = sym (none_below 0 1 slots (omega arith))
found (suc i) slots = found_from (suc i) 1 i slots (omega arith)

-- one less
left_from : (id first i : ℕ) (slots : Slots) → id ≡ first + i → handlers_from first (slice_set slots i None) ≡ filter (has_other_id id) (handlers_from first slots)
left_from id first i [] e = refl
left_from id first zero (None ∷ slots) e = sym (all_stay id (first + 1) slots (omega (arith, e)))
left_from id first zero (Some c ∷ slots) e = rw (are_same first id (omega (arith, e))) (sym (all_stay id (first + 1) slots (omega (arith, e))))
left_from id first (suc i) (None ∷ slots) e = left_from id (first + 1) i slots (omega (arith, e))
left_from id first (suc i) (Some c ∷ slots) e =
    rw (are_not first id (λ s. absurd (omega (arith, e, s)))) (ap (λ (hs : List Handler). record { id = first; cancellable = c.cancellable; proc = c.proc } ∷ hs) (left_from id (first + 1) i slots (omega (arith, e))))

pub left : (id : ℕ) (slots : Slots) → handlers_in (emptied slots id) ≡ filter (has_other_id id) (handlers_in slots)
left zero slots = sym (all_stay 0 1 slots (omega arith))
left (suc i) slots = left_from (suc i) 1 i slots (omega arith)

same_length : (i : ℕ) (slots : Slots) → length (slice_set slots i None) ≡ length slots
same_length i [] = refl
same_length zero (s ∷ slots) = refl
same_length (suc i) (s ∷ slots) = ap suc (same_length i slots)

pub as_many : (id : ℕ) (slots : Slots) → length (emptied slots id) ≡ length slots
as_many zero slots = refl
as_many (suc i) slots = same_length i slots

-- one more
more_from : (first id : ℕ) (c : Connection) (slots : Slots) → id ≡ first + length slots → handlers_from first (slots ++ Some c ∷ []) ≡ handlers_from first slots ++ record { id = id; cancellable = c.cancellable; proc = c.proc } ∷ []
more_from first id c [] e = ap (λ (n : ℕ). record { id = n; cancellable = c.cancellable; proc = c.proc } ∷ []) (omega (arith, e))
more_from first id c (None ∷ slots) e = more_from (first + 1) id c slots (omega (arith, e))
more_from first id c (Some d ∷ slots) e = ap (λ (hs : List Handler). record { id = first; cancellable = d.cancellable; proc = d.proc } ∷ hs) (more_from (first + 1) id c slots (omega (arith, e)))

pub more : (c : Connection) (slots : Slots) → handlers_in (slots ++ Some c ∷ []) ≡ handlers_in slots ++ record { id = length slots + 1; cancellable = c.cancellable; proc = c.proc } ∷ []
more c slots = more_from 1 (length slots + 1) c slots (omega arith)

pub as_many_more : (s : Option Connection) (slots : Slots) → length (slots ++ s ∷ []) ≡ length slots + 1
as_many_more s [] = refl
as_many_more s (t ∷ slots) = omega (arith, as_many_more s slots)

-- what contracts see of a view with such slots
abbrev seen_in : List Bool → Slots → Seen
seen_in members slots = record { members = members; handlers = handlers_in slots; next_id = length slots + 1 }

-- ---- by cancellable

-- what an id leads to after one more
got_before : (i : ℕ) (s : Option Connection) (slots : Slots) → i < length slots → slice_get (slots ++ s ∷ []) i ≡ slice_get slots i
got_before i s [] l = absurd (omega (arith, l))
got_before zero s (t ∷ slots) l = refl
got_before (suc i) s (t ∷ slots) l = got_before i s slots (omega (arith, l))

got_last : (s : Option Connection) (slots : Slots) → slice_get (slots ++ s ∷ []) (length slots) ≡ Some s
got_last s [] = refl
got_last s (t ∷ slots) = got_last s slots

fired_before : (id : ℕ) (s : Option Connection) (slots : Slots) → id ≤ length slots → fired_at (slots ++ s ∷ []) id ≡ fired_at slots id
fired_before zero s slots l = refl
fired_before (suc i) s slots l = ap (λ o. option_map (λ (c : Connection). record { id = suc i; proc = c.proc }) (option_flatten o)) (got_before i s slots (omega (arith, l)))

fired_last : (id : ℕ) (at : Connection) (slots : Slots) → id ≡ suc (length slots) → fired_at (slots ++ Some at ∷ []) id ≡ Some (record { id = id; proc = at.proc })
fired_last zero at slots e = absurd (omega (arith, e))
fired_last (suc i) at slots e = ap (λ o. option_map (λ (c : Connection). record { id = suc i; proc = c.proc }) (option_flatten o)) (ap (slice_get (slots ++ Some at ∷ [])) (omega (arith, e)) ∙ got_last (Some at) slots)

all_before : (ids : List ℕ) (s : Option Connection) (slots : Slots) → AllByRecursion (λ id. id ≤ length slots) ids → filter_map (fired_at (slots ++ s ∷ [])) ids ≡ filter_map (fired_at slots) ids
all_before [] s slots k = refl
all_before (id ∷ ids) s slots k = rw (fired_before id s slots k.0) (ap (λ (fs : List Fired). cons_option (fired_at slots id) fs) (all_before ids s slots k.1))

still_known : (n m : ℕ) (ids : List ℕ) → n ≤ m → AllByRecursion (λ id. id ≤ n) ids → AllByRecursion (λ id. id ≤ m) ids
still_known n m [] l k = tt
still_known n m (id ∷ ids) l k = (omega (arith, l, k.0), still_known n m ids l k.1)

known_last : (n : ℕ) (ids : List ℕ) → AllByRecursion (λ id. id ≤ n) ids → AllByRecursion (λ id. id ≤ n + 1) (ids ++ (n + 1) ∷ [])
known_last n [] k = (omega arith, tt)
known_last n (id ∷ ids) k = (omega (arith, k.0), known_last n ids k.1)

map_both : (f : ℕ → Option Fired) (ids : List ℕ) (id : ℕ) → filter_map f (ids ++ id ∷ []) ≡ filter_map f ids ++ cons_option (f id) []
map_both f [] id = refl
map_both f (x ∷ ids) id = by (f x) (map_both f ids id)
  where
    by : (o : Option Fired) → filter_map f (ids ++ id ∷ []) ≡ filter_map f ids ++ cons_option (f id) [] → cons_option o (filter_map f (ids ++ id ∷ [])) ≡ cons_option o (filter_map f ids) ++ cons_option (f id) []
    by None h = h
    by (Some x) h = ap (λ (fs : List Fired). x ∷ fs) h

map_fired : (hs gs : List Handler) → map fired_as (hs ++ gs) ≡ map fired_as hs ++ map fired_as gs
map_fired [] gs = refl
map_fired (h ∷ hs) gs = ap (λ (fs : List Fired). fired_as h ∷ fs) (map_fired hs gs)

abbrev Groups : Type 0 → Type 0
Groups Z = BTreeMap ℕ (Vec ℕ Z)

pub kept_none : {Z : Type 0} (slots : Slots) (groups : Groups Z) → slots ≡ [] → groups.entries ≡ [] → AreKept slots groups
kept_none {Z} slots groups e k =
    let none : (c : ℕ) → group c groups ≡ [] = λ c. ap (λ (rows : List (ℕ × Vec ℕ Z)). listed (lookup (is_at (nat_cmp c)) rows)) k in
    rw e (record { known = λ c. rw (none c) tt; grouped = λ c. rw (none c) refl })

pub kept_same : {Z : Type 0} (slots new_slots : Slots) (groups new : Groups Z) → AreKept slots groups → new_slots ≡ slots → ((c : ℕ) → group c new ≡ group c groups) → AreKept new_slots new
kept_same slots new_slots groups new k e same = rw e (record { known = λ c. rw (same c) (k.known c); grouped = λ c. rw (same c) (k.grouped c) })

pub kept_more : {Z : Type 0} (at : Connection) (slots new_slots : Slots) (groups new : Groups Z) → AreKept slots groups → new_slots ≡ slots ++ Some at ∷ []
    → ((c : ℕ) → group c new ≡ cond (is_at (nat_cmp at.cancellable) c) (group c groups ++ (length slots + 1) ∷ []) (group c groups)) → AreKept new_slots new
kept_more {Z} at slots new_slots groups new k e joins =
    rw e (record {
      known = λ c. rw (joins c ∙ ap (λ b. cond b (group c groups ++ (length slots + 1) ∷ []) (group c groups)) (tests_too at.cancellable c)) (rw (as_many_more (Some at) slots) (known_by c (at.cancellable == c)));
      grouped = λ c.
          rw (joins c ∙ ap (λ b. cond b (group c groups ++ (length slots + 1) ∷ []) (group c groups)) (tests_too at.cancellable c))
          (rw (more at slots)
          (by c (at.cancellable == c) refl
          ∙ (sym (map_fired (filter (is_of c) (handlers_in slots)) (filter (is_of c) (handler ∷ [])))
          ∙ ap (map fired_as) (sym (filter-append (is_of c) (handlers_in slots) (handler ∷ []))))));
    })
  where
    handler : Handler
    handler = record { id = length slots + 1; cancellable = at.cancellable; proc = at.proc }

    known_by : (c : ℕ) (b : Bool) → AllByRecursion (λ id. id ≤ length slots + 1) (cond b (group c groups ++ (length slots + 1) ∷ []) (group c groups))
    known_by c true = known_last (length slots) (group c groups) (k.known c)
    known_by c false = still_known (length slots) (length slots + 1) (group c groups) (omega arith) (k.known c)

    last : fired_at (slots ++ Some at ∷ []) (length slots + 1) ≡ Some (fired_as handler)
    last = fired_last (length slots + 1) at slots (omega arith)

    by : (c : ℕ) (b : Bool) → (at.cancellable == c) ≡ b
        → filter_map (fired_at (slots ++ Some at ∷ [])) (cond b (group c groups ++ (length slots + 1) ∷ []) (group c groups)) ≡ map fired_as (filter (is_of c) (handlers_in slots)) ++ map fired_as (filter (is_of c) (handler ∷ []))
    by c true f =
        rw f (map_both (fired_at (slots ++ Some at ∷ [])) (group c groups) (length slots + 1)
        ∙ (ap (λ o. filter_map (fired_at (slots ++ Some at ∷ [])) (group c groups) ++ cons_option o []) last
        ∙ ap (λ fs. fs ++ fired_as handler ∷ []) (all_before (group c groups) (Some at) slots (k.known c) ∙ k.grouped c)))
    by c false f = rw f (all_before (group c groups) (Some at) slots (k.known c) ∙ (k.grouped c ∙ sym (append-nil (map fired_as (filter (is_of c) (handlers_in slots))))))

pub kept_pushed : {Z : Type 0} (at : Connection) (id : ℕ) (slots new_slots : Slots) (groups new : Groups Z) → AreKept slots groups → id ≡ length slots + 1 → new_slots ≡ slots ++ Some at ∷ []
    → ((c : ℕ) → group c new ≡ cond (is_at (nat_cmp at.cancellable) c) (group c groups ++ id ∷ []) (group c groups)) → AreKept new_slots new
kept_pushed at id slots new_slots groups new k i e joins =
    kept_more at slots new_slots groups new k e (subst (λ (n : ℕ). (c : ℕ) → group c new ≡ cond (is_at (nat_cmp at.cancellable) c) (group c groups ++ n ∷ []) (group c groups)) i joins)

pub connected_more : (c proc : ℕ) (members : List Bool) (slots new_slots : Slots) → slice_index_or members c false ≡ false → new_slots ≡ slots ++ Some (record { cancellable = c; proc = proc }) ∷ []
    → seen_in members new_slots ≡ connected c proc (seen_in members slots)
connected_more c proc members slots new_slots n e =
    rw (e, n) (rw (as_many_more (Some (record { cancellable = c; proc = proc })) slots) (ap (λ (hs : List Handler). record { members = members; handlers = hs; next_id = (length slots + 1) + 1 }) (more (record { cancellable = c; proc = proc }) slots)))

-- what an id leads to after one less
either_way : {X : Type 0} (b : Bool) (x : X) → x ≡ cond b x x
either_way true x = refl
either_way false x = refl

same_suc : (i j : ℕ) → (suc j == suc i) ≡ (j == i)
same_suc i j = by (j == i) refl
  where
    by : (b : Bool) → (j == i) ≡ b → (suc j == suc i) ≡ b
    by true e = are_same (suc j) (suc i) (ap suc (is_same j i e))
    by false e = are_not (suc j) (suc i) (λ s. let no : true ≡ false = sym (are_same j i (omega (arith, s))) ∙ e in cc)

emptied_at : (i j : ℕ) (slots : Slots) → option_flatten (slice_get (slice_set slots i None) j) ≡ cond (j == i) None (option_flatten (slice_get slots j))
emptied_at i j [] = either_way (j == i) None
emptied_at zero zero (s ∷ slots) = refl
emptied_at zero (suc j) (s ∷ slots) = rw (are_not (suc j) 0 (λ e. absurd (omega (arith, e)))) refl
emptied_at (suc i) zero (s ∷ slots) = rw (are_not 0 (suc i) (λ e. absurd (omega (arith, e)))) refl
emptied_at (suc i) (suc j) (s ∷ slots) = rw (same_suc i j) (emptied_at i j slots)

abbrev other_fired : ℕ → Fired → Bool
other_fired id f = not (f.id == id)

fired_after : (id j : ℕ) (slots : Slots) → fired_at (emptied slots id) j ≡ cond (j == id) None (fired_at slots j)
fired_after zero zero slots = refl
fired_after zero (suc j) slots = rw (are_not (suc j) 0 (λ e. absurd (omega (arith, e)))) refl
fired_after (suc i) zero slots = either_way (0 == suc i) None
fired_after (suc i) (suc j) slots = rw (same_suc i j) (ap (option_map (λ (c : Connection). record { id = suc j; proc = c.proc })) (emptied_at i j slots) ∙ by (j == i))
  where
    by : (b : Bool) → option_map (λ (c : Connection). record { id = suc j; proc = c.proc }) (cond b None (option_flatten (slice_get slots j))) ≡ cond b None (fired_at slots (suc j))
    by true = refl
    by false = refl

fired_less : (id : ℕ) (slots : Slots) (ids : List ℕ) → filter_map (fired_at (emptied slots id)) ids ≡ filter (other_fired id) (filter_map (fired_at slots) ids)
fired_less id slots [] = refl
fired_less id slots (j ∷ ids) = rw (fired_after id j slots) (by (j == id) refl (connection_at slots j) (fired_less id slots ids))
  where
    by : (b : Bool) → (j == id) ≡ b → (o : Option Connection) → filter_map (fired_at (emptied slots id)) ids ≡ filter (other_fired id) (filter_map (fired_at slots) ids)
        → cons_option (cond b None (option_map (λ (c : Connection). record { id = j; proc = c.proc }) o)) (filter_map (fired_at (emptied slots id)) ids)
        ≡ filter (other_fired id) (cons_option (option_map (λ (c : Connection). record { id = j; proc = c.proc }) o) (filter_map (fired_at slots) ids))
    by true e None h = h
    by true e (Some c) h = rw e h
    by false e None h = h
    by false e (Some c) h = rw e (ap (λ (fs : List Fired). record { id = j; proc = c.proc } ∷ fs) h)

map_filter : (id : ℕ) (hs : List Handler) → filter (other_fired id) (map fired_as hs) ≡ map fired_as (filter (has_other_id id) hs)
map_filter id [] = refl
map_filter id (h ∷ hs) = by (h.id == id) (map_filter id hs)
  where
    by : (b : Bool) → filter (other_fired id) (map fired_as hs) ≡ map fired_as (filter (has_other_id id) hs)
        → cond (not b) (fired_as h ∷ filter (other_fired id) (map fired_as hs)) (filter (other_fired id) (map fired_as hs)) ≡ map fired_as (cond (not b) (h ∷ filter (has_other_id id) hs) (filter (has_other_id id) hs))
    by true k = k
    by false k = ap (λ (fs : List Fired). fired_as h ∷ fs) k

both_ways : (p q : Handler → Bool) (hs : List Handler) → filter p (filter q hs) ≡ filter q (filter p hs)
both_ways p q [] = refl
both_ways p q (x ∷ hs) = by (both_ways p q hs) (p x) (q x) refl refl
  where
    by : filter p (filter q hs) ≡ filter q (filter p hs) → (a b : Bool) → p x ≡ a → q x ≡ b → filter p (cond b (x ∷ filter q hs) (filter q hs)) ≡ filter q (cond a (x ∷ filter p hs) (filter p hs))
    by h true true e f = rw (e, f) (ap (λ hs. x ∷ hs) h)
    by h true false e f = rw f h
    by h false true e f = rw e h
    by h false false e f = h

pub kept_less : {Z : Type 0} (id : ℕ) (slots new_slots : Slots) (groups : Groups Z) → AreKept slots groups → new_slots ≡ emptied slots id → AreKept new_slots groups
kept_less id slots new_slots groups k e =
    rw e (record {
      known = λ c. rw (as_many id slots) (k.known c);
      grouped = λ c.
          fired_less id slots (group c groups)
          ∙ (ap (filter (other_fired id)) (k.grouped c)
          ∙ (map_filter id (filter (is_of c) (handlers_in slots))
          ∙ ap (map fired_as) (both_ways (has_other_id id) (is_of c) (handlers_in slots) ∙ ap (filter (is_of c)) (sym (left id slots)))));
    })
