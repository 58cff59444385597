-- Rows looked at in order, up to the least ready priority, are those of that priority.
use Rattle.std.proofs.Common.{◌≡◌, ℕ, Bool, true, false, cond, ◌&&◌, not, ℤ, Option, Some, None, List, [], ◌∷◌, ◌⊎◌, inl, inr, map, filter, refl, ap, sym, ◌∙◌, arith}
use Rattle.std.proofs.lemmas.Int.{ints}
use Rattle.std.specs.Prelude.{int_lt}
use Rattle.std.specs.List.{AllByRecursion}
use Rattle.std.specs.declared.cmp.Ordering.{Ordering}
use Rattle.std.specs.declared.cmp.Ordering.TheVariants.{Less, Equal, Greater}
use Rattle.std.specs.Ordering.{is_lt, ordering_then, nat_cmp}
use Rattle.std.specs.Cmp.Lexicographic.{slice_cmp}
use Rattle.source_rows.specs.declared.row.Row.{Row}
use Rattle.source_rows.specs.Rows.{stands_before}
use Rattle.source_rows.specs.Order.{IsInOrder}
use Rattle.context_core.specs.Phases.{less_urgent, walk}

abbrev pub id_of : Row → ℕ
id_of r = r.id

-- at most a priority
abbrev pub upto : ℤ → Row → Bool
upto m r = not (int_lt m r.priority)

-- every ready row has at least the priority m
abbrev pub NoneBelow : (Row → Bool) → ℤ → List Row → Type 0
NoneBelow ready m rows = AllByRecursion (λ r. ready r ≡ true → int_lt r.priority m ≡ false) rows

-- some ready row has it
abbrev pub SomeAt : (Row → Bool) → ℤ → List Row → Type 0
SomeAt ready m [] = ⊥
SomeAt ready m (r ∷ rs) = ((ready r ≡ true) × (r.priority ≡ m)) ⊎ SomeAt ready m rs

-- a row that stands later is not more urgent
not_more_by : (w o : Ordering) (v : Bool) → is_lt (ordering_then (cond v Less w) o) ≡ false → v ≡ false
not_more_by w o true h = cc
not_more_by w o false h = refl

pub not_more : (q r : Row) → stands_before q r ≡ false → int_lt q.priority r.priority ≡ false
not_more q r h = not_more_by (cond (int_lt r.priority q.priority) Greater Equal) (slice_cmp nat_cmp q.path r.path) (int_lt q.priority r.priority) h

-- nothing is left behind a row that is less urgent than the least
none_left : (p : Row → Bool) (m : ℤ) (r : Row) (rs : List Row) → int_lt m r.priority ≡ true → AllByRecursion (λ q. stands_before q r ≡ false) rs → filter (λ q. upto m q && p q) rs ≡ []
none_left p m r [] h k = refl
none_left p m r (q ∷ qs) h k =
    let e : int_lt m q.priority ≡ true = grind (arith, ints, not_more q r k.0) in
    rw e (none_left p m r qs h k.1)

not_some : (ready : Row → Bool) (m : ℤ) (r : Row) (rs : List Row) → int_lt m r.priority ≡ true → AllByRecursion (λ q. stands_before q r ≡ false) rs → SomeAt ready m rs → ⊥
not_some ready m r [] h k s = s
not_some ready m r (q ∷ qs) h k (inl s) =
    let e = not_more q r k.0 in
    let f = s.1 in
    absurd (omega (arith, ints))
not_some ready m r (q ∷ qs) h k (inr s) = not_some ready m r qs h k.1 s

-- a bound that m is within
abbrev pub Reaches : (Row → Bool) → ℤ → Option ℤ → List Row → Type 0
Reaches ready m bound rs = (bound ≡ Some m) ⊎ SomeAt ready m rs

bound_stops : (bound : Option ℤ) (m p : ℤ) → less_urgent bound p ≡ true → less_urgent bound m ≡ false → int_lt m p ≡ false → ⊥
bound_stops None m p e h g = let no : false ≡ true = e in cc
bound_stops (Some b) m p e h g = let e2 : int_lt b p ≡ true = e in let h2 : int_lt b m ≡ false = h in absurd (omega (arith, ints))

too_late : (ready : Row → Bool) (m : ℤ) (bound : Option ℤ) (r : Row) (rs : List Row) → ready r ≡ true → int_lt m r.priority ≡ true → AllByRecursion (λ q. stands_before q r ≡ false) rs → less_urgent bound r.priority ≡ false → Reaches ready m bound (r ∷ rs) → ⊥
too_late ready m bound r rs f g k e (inl s) = let no = sym g ∙ (ap (λ (b : Option ℤ). less_urgent b r.priority) (sym s) ∙ e) in cc
too_late ready m bound r rs f g k e (inr (inl s)) = let same = s.1 in absurd (omega (arith, ints))
too_late ready m bound r rs f g k e (inr (inr s)) = not_some ready m r rs g k s

later : (ready : Row → Bool) (m : ℤ) (bound : Option ℤ) (r : Row) (rs : List Row) → ready r ≡ false → Reaches ready m bound (r ∷ rs) → Reaches ready m bound rs
later ready m bound r rs f (inl s) = inl s
later ready m bound r rs f (inr (inl s)) = let no = sym f ∙ s.0 in cc
later ready m bound r rs f (inr (inr s)) = inr s

is_same : (p m : ℤ) → int_lt m p ≡ false → int_lt p m ≡ false → p ≡ m
is_same p m g h = omega (arith, ints)

walk_by : (ready : Row → Bool) (m : ℤ) (bound : Option ℤ) (r : Row) (rs : List Row)
    → less_urgent bound m ≡ false → (ready r ≡ true → int_lt r.priority m ≡ false) → AllByRecursion (λ q. stands_before q r ≡ false) rs
    → Reaches ready m bound (r ∷ rs)
    → ((b : Option ℤ) → less_urgent b m ≡ false → Reaches ready m b rs → walk ready b rs ≡ map id_of (filter (λ q. upto m q && ready q) rs))
    → (u v w : Bool) → less_urgent bound r.priority ≡ u → ready r ≡ v → int_lt m r.priority ≡ w
    → cond u [] (cond v (r.id ∷ walk ready (Some r.priority) rs) (walk ready bound rs)) ≡ map id_of (cond (not w && v) (r ∷ filter (λ q. upto m q && ready q) rs) (filter (λ q. upto m q && ready q) rs))
walk_by ready m bound r rs h a k (inl reach) ih true v true e f g = rw (none_left ready m r rs g k) refl
walk_by ready m bound r rs h a k (inr (inl s)) ih true v true e f g = rw (none_left ready m r rs g k) refl
walk_by ready m bound r rs h a k (inr (inr s)) ih true v true e f g = rw (none_left ready m r rs g k) refl
walk_by ready m bound r rs h a k reach ih true v false e f g = absurd (bound_stops bound m r.priority e h g)
walk_by ready m bound r rs h a k reach ih false true true e f g = absurd (too_late ready m bound r rs f g k e reach)
walk_by ready m bound r rs h a k reach ih false true false e f g =
    let same : r.priority ≡ m = is_same r.priority m g (a f) in
    ap (λ (xs : List ℕ). r.id ∷ xs) (ih (Some r.priority) (a f) (inl (ap (λ (p : ℤ). Some p) same)))
walk_by ready m bound r rs h a k reach ih false false true e f g = ih bound h (later ready m bound r rs f reach)
walk_by ready m bound r rs h a k reach ih false false false e f g = ih bound h (later ready m bound r rs f reach)

pub walked : (ready : Row → Bool) (m : ℤ) (bound : Option ℤ) (rs : List Row) → IsInOrder rs → NoneBelow ready m rs → less_urgent bound m ≡ false → Reaches ready m bound rs
    → walk ready bound rs ≡ map id_of (filter (λ q. upto m q && ready q) rs)
walked ready m bound [] s a h reach = refl
walked ready m bound (r ∷ rs) s a h reach =
    walk_by ready m bound r rs h a.0 s.0 reach (λ b k. walked ready m b rs s.1 a.1 k) (less_urgent bound r.priority) (ready r) (int_lt m r.priority) refl refl refl
