-- A label that is given is none of the others.
use Rattle.std.proofs.Common.{◌≡◌, ◌∙◌, sym, refl, ap, subst, ℕ, ◌<◌, ◌≤◌, Bool, true, false, cond, Some, arith, unwrap_or}
use Rattle.std.specs.declared.cmp.Ordering.{Ordering}
use Rattle.std.specs.Map.{lookup}
use Rattle.std.specs.BTreeMap.{BTreeMap, get, is_at}
use Rattle.run_names.specs.declared.label.Seat.{Seat}
use Rattle.run_names.specs.declared.label.Label.{Label}
use Rattle.run_names.specs.declared.label.Origin.{Origin}
use Rattle.run_names.specs.Labelled.{label_of, is_seat, last_place, AreKept, AreApart}

-- what the orders of both tell
pub record Tell (seats : Seat → Seat → Ordering) (origins : Origin → Origin → Ordering) : Type 0 where
  pub tests : (s t : Seat) → is_at (seats s) t ≡ is_seat s t
  pub seat : (s t : Seat) → is_at (seats s) t ≡ true → s ≡ t
  pub origin : (o q : Origin) → is_at (origins o) q ≡ true → o ≡ q

some_same : {A : Type 0} (a b : A) → Some a ≡ Some b → a ≡ b
some_same a b e = ap (λ o. unwrap_or o a) e

-- labels are found as the map finds them
found : {seats : Seat → Seat → Ordering} {origins : Origin → Origin → Ordering} (tell : Tell seats origins) (s : Seat) (given : BTreeMap Seat Label) → label_of s given.entries ≡ get seats given s
found tell s given = λ i. lookup (λ t. sym (tell.tests s t) i) given.entries

-- where the place of the last of an origin has risen, each label's is still no greater than that of the last
pub raised : {seats : Seat → Seat → Ordering} {origins : Origin → Origin → Ordering} (tell : Tell seats origins) (counts counts' : BTreeMap Origin ℕ) (given : BTreeMap Seat Label) (o : Origin) (p : ℕ)
    → last_place (get origins counts o) ≤ p
    → ((q : Origin) → get origins counts' q ≡ cond (is_at (origins o) q) (Some p) (get origins counts q))
    → AreKept seats origins counts given → AreKept seats origins counts' given
raised {seats} {origins} tell counts counts' given o p low updates kept = record { counted = λ s l e. by s l e (is_at (origins o) l.origin) refl; apart = kept.apart }
  where
    by : (s : Seat) (l : Label) → get seats given s ≡ Some l → (b : Bool) → is_at (origins o) l.origin ≡ b → l.place ≤ last_place (get origins counts' l.origin)
    by s l e true h =
        let new : get origins counts' l.origin ≡ Some p = updates l.origin ∙ ap (λ b. cond b (Some p) (get origins counts l.origin)) h in
        let same : o ≡ l.origin = tell.origin o l.origin h in
        let old : l.place ≤ last_place (get origins counts o) = subst (λ q. l.place ≤ last_place (get origins counts q)) (sym same) (kept.counted s l e) in
        subst (λ x. l.place ≤ last_place x) (sym new) (omega (arith, old, low))
    by s l e false h =
        let new : get origins counts' l.origin ≡ get origins counts l.origin = updates l.origin ∙ ap (λ b. cond b (Some p) (get origins counts l.origin)) h in
        subst (λ x. l.place ≤ last_place x) (sym new) (kept.counted s l e)

-- a label behind the last of its origin is none of the others
pub placed : {seats : Seat → Seat → Ordering} {origins : Origin → Origin → Ordering} (tell : Tell seats origins) (counts counts' : BTreeMap Origin ℕ) (given given' : BTreeMap Seat Label) (seat : Seat) (label : Label)
    → last_place (get origins counts label.origin) < label.place
    → ((q : Origin) → get origins counts' q ≡ cond (is_at (origins label.origin) q) (Some label.place) (get origins counts q))
    → get origins counts' label.origin ≡ Some label.place
    → ((q : Seat) → get seats given' q ≡ cond (is_at (seats seat) q) (Some label) (get seats given q))
    → AreKept seats origins counts given → AreKept seats origins counts' given'
placed {seats} {origins} tell counts counts' given given' seat label low updates own more kept =
    record {
      counted = λ s l e. counted_by s l e (is_at (seats seat) s) refl;
      apart = λ s t l e f. apart_by s t l (sym (found tell s given') ∙ e) (sym (found tell t given') ∙ f) (is_at (seats seat) s) (is_at (seats seat) t) refl refl;
    }
  where
    before : AreKept seats origins counts' given
    before = raised tell counts counts' given label.origin label.place (omega (arith, low)) updates kept

    old : (s : Seat) (l : Label) → get seats given' s ≡ Some l → is_at (seats seat) s ≡ false → get seats given s ≡ Some l
    old s l e h = sym (more s ∙ ap (λ b. cond b (Some label) (get seats given s)) h) ∙ e

    new : (s : Seat) (l : Label) → get seats given' s ≡ Some l → is_at (seats seat) s ≡ true → label ≡ l
    new s l e h = some_same label l (sym (more s ∙ ap (λ b. cond b (Some label) (get seats given s)) h) ∙ e)

    counted_by : (s : Seat) (l : Label) → get seats given' s ≡ Some l → (b : Bool) → is_at (seats seat) s ≡ b → l.place ≤ last_place (get origins counts' l.origin)
    counted_by s l e true h = subst (λ x. x.place ≤ last_place (get origins counts' x.origin)) (new s l e h) (subst (λ x. label.place ≤ last_place x) (sym own) (omega arith))
    counted_by s l e false h = before.counted s l (old s l e h)

    apart_from : (s : Seat) (l : Label) → get seats given s ≡ Some l → label ≡ l → ⊥
    apart_from s l e h =
        let low' : l.place ≤ last_place (get origins counts l.origin) = kept.counted s l e in
        let bad : label.place ≤ last_place (get origins counts label.origin) = subst (λ x. x.place ≤ last_place (get origins counts x.origin)) (sym h) low' in
        omega (arith, low, bad)

    apart_by : (s t : Seat) (l : Label) → get seats given' s ≡ Some l → get seats given' t ≡ Some l → (a b : Bool) → is_at (seats seat) s ≡ a → is_at (seats seat) t ≡ b → s ≡ t
    apart_by s t l e f true true g h = sym (tell.seat seat s g) ∙ tell.seat seat t h
    apart_by s t l e f true false g h = absurd (apart_from t l (old t l f h) (new s l e g))
    apart_by s t l e f false true g h = absurd (apart_from s l (old s l e g) (new t l f h))
    apart_by s t l e f false false g h = kept.apart s t l (found tell s given ∙ old s l e g) (found tell t given ∙ old t l f h)

-- it speaks of what stands in the map alone
pub same_given : {seats : Seat → Seat → Ordering} {origins : Origin → Origin → Ordering} (counts : BTreeMap Origin ℕ) (given given' : BTreeMap Seat Label)
    → given'.entries ≡ given.entries → AreKept seats origins counts given → AreKept seats origins counts given'
same_given {seats} {origins} counts given given' e kept =
    record {
      counted = λ s l h. kept.counted s l (sym (ap (λ es. lookup (is_at (seats s)) es) e) ∙ h);
      apart = subst AreApart (sym e) kept.apart;
    }
