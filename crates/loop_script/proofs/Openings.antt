-- What stands in a value: the value itself, or what stands in its parts, by the tables.
use Rattle.std.proofs.Common.{◌≡◌, ◌⊎◌, ◌↔◌, inl, inr, refl, sym, subst, true, List, [], ◌∷◌, Option, Some, None}
use Rattle.serde_json.specs.Data.{Data, array, Items, no_items, item}
use Rattle.serde_json.specs.Find.{get, as_object}
use Rattle.loop_script.specs.Read.{Read}
use Rattle.loop_script.specs.Form.{Object, Form, an, Key}
use Rattle.loop_script.specs.Tables.{keys}
use Rattle.loop_script.specs.Place.{SomeOf, IsItem, IsItemOf, IsPart, StandsIn, itself, inside}
use Rattle.loop_script.specs.Misfit.{HasNotKeysAlone, LacksKey, HasOtherShape, IsOutOfRange, Somewhere, IsMisshapen, IsBeyond}
use Rattle.loop_script.proofs.Alternatives.{some_inj}
use Rattle.loop_script.proofs.Meets.{Meets, recast}

-- ---- in any form
abbrev pub InPart : (Form → Data → Type 0) → Form → Data → Type 0
InPart P f d = (g : Form) × (e : Data) × IsPart f d g e × Somewhere P g e

opened_by : (P : Form → Data → Type 0) (f h : Form) (d x : Data) → StandsIn f d h x → P h x → P f d ⊎ InPart P f d
opened_by P f h d x (itself f₁ d₁) p = inl p
opened_by P f h d x (inside f₁ g h₁ d₁ e x₁ part rest) p = inr (g, e, part, (h, x, rest, p))

pub opened : (P : Form → Data → Type 0) (f : Form) (d : Data) → Somewhere P f d ↔ (P f d ⊎ InPart P f d)
opened P f d = (λ (g, e, st, p). opened_by P f g d e st p, back)
  where
    back : P f d ⊎ InPart P f d → Somewhere P f d
    back (inl p) = (f, d, itself f d, p)
    back (inr q) = let (g, e, part, w) = q in let (h, x, st, p) = w in (h, x, inside f g h d e x part st, p)

-- a form with no parts
pub alone : (P : Form → Data → Type 0) (f : Form) (d : Data) → ((g : Form) (e : Data) → IsPart f d g e → ⊥) → P f d ↔ Somewhere P f d
alone P f d none = (λ p. (f, d, itself f d, p), λ w. only ((opened P f d).0 w))
  where
    only : P f d ⊎ InPart P f d → P f d
    only (inl p) = p
    only (inr q) = let (g, e, part, w) = q in absurd (none g e part)

-- ---- lists
abbrev pub SomeItem : (Data → Type 0) → Items → Type 0
SomeItem X no_items = ⊥
SomeItem X (item d ds) = X d ⊎ SomeItem X ds

item_so : (X : Data → Type 0) (e : Data) (ds : Items) → IsItem e ds → X e → SomeItem X ds
item_so X e no_items h x = absurd h
item_so X e (item d ds) (inl p) x = inl (subst X (sym p) x)
item_so X e (item d ds) (inr h) x = inr (item_so X e ds h x)

so_item : (X : Data → Type 0) (ds : Items) → SomeItem X ds → (e : Data) × IsItem e ds × X e
so_item X no_items h = absurd h
so_item X (item d ds) (inl x) = (d, inl refl, x)
so_item X (item d ds) (inr h) = let (e, i, x) = so_item X ds h in (e, inr i, x)

pub items_opened : (P : Form → Data → Type 0) (F f : Form) (ds : Items) → ((g : Form) (e : Data) → IsPart F (array ds) g e ↔ ((f ≡ g) × IsItemOf e (array ds))) → Somewhere P F (array ds) ↔ (P F (array ds) ⊎ SomeItem (Somewhere P f) ds)
items_opened P F f ds parts = (λ w. out ((opened P F (array ds)).0 w), λ w. (opened P F (array ds)).1 (back w))
  where
    out : P F (array ds) ⊎ InPart P F (array ds) → P F (array ds) ⊎ SomeItem (Somewhere P f) ds
    out (inl p) = inl p
    out (inr q) =
        let (g, e, part, w) = q in
        let (same, of) = (parts g e).0 part in
        let (es, has, is) = of in
        let there : IsItem e ds = subst (IsItem e) (some_inj (sym has)) is in
        let there_so : Somewhere P f e = subst (λ h. Somewhere P h e) (sym same) w in
        inr (item_so (Somewhere P f) e ds there there_so)

    back : P F (array ds) ⊎ SomeItem (Somewhere P f) ds → P F (array ds) ⊎ InPart P F (array ds)
    back (inl p) = inl p
    back (inr h) = let (e, i, w) = so_item (Somewhere P f) ds h in inr (f, e, (parts f e).1 (refl, (ds, refl, i)), w)

-- ---- objects
-- what stands under a key, or is absent
abbrev pub KeyMisfit : Key → Option Data → Type 0
KeyMisfit k None = k.needed ≡ true
KeyMisfit k (Some e) = IsMisshapen k.form e

abbrev pub KeyBeyond : Key → Option Data → Type 0
KeyBeyond k None = ⊥
KeyBeyond k (Some e) = IsBeyond k.form e

abbrev PartOf : List Key → Data → Form → Data → Type 0
PartOf ks d g e = SomeOf (λ k. (k.form ≡ g) × (get k.name d ≡ Some e)) ks

abbrev pub KeysMisfit : List Key → Data → Type 0
KeysMisfit ks d = SomeOf (λ k. KeyMisfit k (get k.name d)) ks

abbrev pub KeysBeyond : List Key → Data → Type 0
KeysBeyond ks d = SomeOf (λ k. KeyBeyond k (get k.name d)) ks

abbrev Under : (Form → Data → Type 0) → List Key → Data → Type 0
Under P ks d = (g : Form) × (e : Data) × PartOf ks d g e × Somewhere P g e

further : (P : Form → Data → Type 0) (k : Key) (ks : List Key) (d : Data) → Under P ks d → Under P (k ∷ ks) d
further P k ks d (g, e, p, w) = (g, e, inr p, w)

misfit_at : (k : Key) (ks : List Key) (d : Data) (o : Option Data) → get k.name d ≡ o → KeyMisfit k o → LacksKey (k ∷ ks) d ⊎ Under HasOtherShape (k ∷ ks) d
misfit_at k ks d None e m = inl (inl (m, e))
misfit_at k ks d (Some x) e m = inr (k.form, x, inl (refl, e), m)

misfit_out : (ks : List Key) (d : Data) → KeysMisfit ks d → LacksKey ks d ⊎ Under HasOtherShape ks d
misfit_out [] d h = absurd h
misfit_out (k ∷ ks) d (inl m) = misfit_at k ks d (get k.name d) refl m
misfit_out (k ∷ ks) d (inr h) = more (misfit_out ks d h)
  where
    more : LacksKey ks d ⊎ Under HasOtherShape ks d → LacksKey (k ∷ ks) d ⊎ Under HasOtherShape (k ∷ ks) d
    more (inl x) = inl (inr x)
    more (inr x) = inr (further HasOtherShape k ks d x)

lacks_in : (ks : List Key) (d : Data) → LacksKey ks d → KeysMisfit ks d
lacks_in [] d h = absurd h
lacks_in (k ∷ ks) d (inl h) = inl (subst (KeyMisfit k) (sym h.1) h.0)
lacks_in (k ∷ ks) d (inr h) = inr (lacks_in ks d h)

misfit_in : (ks : List Key) (d : Data) (g : Form) (e : Data) → PartOf ks d g e → IsMisshapen g e → KeysMisfit ks d
misfit_in [] d g e h w = absurd h
misfit_in (k ∷ ks) d g e (inl h) w = inl (subst (KeyMisfit k) (sym h.1) (subst (λ f. IsMisshapen f e) (sym h.0) w))
misfit_in (k ∷ ks) d g e (inr h) w = inr (misfit_in ks d g e h w)

beyond_at : (k : Key) (ks : List Key) (d : Data) (o : Option Data) → get k.name d ≡ o → KeyBeyond k o → Under IsOutOfRange (k ∷ ks) d
beyond_at k ks d None e m = absurd m
beyond_at k ks d (Some x) e m = (k.form, x, inl (refl, e), m)

beyond_out : (ks : List Key) (d : Data) → KeysBeyond ks d → Under IsOutOfRange ks d
beyond_out [] d h = absurd h
beyond_out (k ∷ ks) d (inl m) = beyond_at k ks d (get k.name d) refl m
beyond_out (k ∷ ks) d (inr h) = further IsOutOfRange k ks d (beyond_out ks d h)

beyond_in : (ks : List Key) (d : Data) (g : Form) (e : Data) → PartOf ks d g e → IsBeyond g e → KeysBeyond ks d
beyond_in [] d g e h w = absurd h
beyond_in (k ∷ ks) d g e (inl h) w = inl (subst (KeyBeyond k) (sym h.1) (subst (λ f. IsBeyond f e) (sym h.0) w))
beyond_in (k ∷ ks) d g e (inr h) w = inr (beyond_in ks d g e h w)

object_shape : (o : Object) (d : Data) → (HasNotKeysAlone (keys o) (as_object d) ⊎ KeysMisfit (keys o) d) ↔ IsMisshapen (an o) d
object_shape o d = (λ w. (opened HasOtherShape (an o) d).1 (out w), λ w. back ((opened HasOtherShape (an o) d).0 w))
  where
    parted : LacksKey (keys o) d ⊎ Under HasOtherShape (keys o) d → HasOtherShape (an o) d ⊎ InPart HasOtherShape (an o) d
    parted (inl x) = inl (inr x)
    parted (inr x) = inr x

    out : HasNotKeysAlone (keys o) (as_object d) ⊎ KeysMisfit (keys o) d → HasOtherShape (an o) d ⊎ InPart HasOtherShape (an o) d
    out (inl x) = inl (inl x)
    out (inr h) = parted (misfit_out (keys o) d h)

    back : HasOtherShape (an o) d ⊎ InPart HasOtherShape (an o) d → HasNotKeysAlone (keys o) (as_object d) ⊎ KeysMisfit (keys o) d
    back (inl (inl x)) = inl x
    back (inl (inr x)) = inr (lacks_in (keys o) d x)
    back (inr q) = let (g, e, p, w) = q in inr (misfit_in (keys o) d g e p w)

object_range : (o : Object) (d : Data) → (⊥ ⊎ KeysBeyond (keys o) d) ↔ IsBeyond (an o) d
object_range o d = (λ w. (opened IsOutOfRange (an o) d).1 (out w), λ w. back ((opened IsOutOfRange (an o) d).0 w))
  where
    out : ⊥ ⊎ KeysBeyond (keys o) d → IsOutOfRange (an o) d ⊎ InPart IsOutOfRange (an o) d
    out (inl x) = absurd x
    out (inr h) = inr (beyond_out (keys o) d h)

    back : IsOutOfRange (an o) d ⊎ InPart IsOutOfRange (an o) d → ⊥ ⊎ KeysBeyond (keys o) d
    back (inl x) = absurd x
    back (inr q) = let (g, e, p, w) = q in inr (beyond_in (keys o) d g e p w)

pub an_object : {Q A : Type 0} {V : A → Type 0} {r : Read A} (o : Object) (d : Data) → Meets Q A r (HasNotKeysAlone (keys o) (as_object d) ⊎ KeysMisfit (keys o) d) (⊥ ⊎ KeysBeyond (keys o) d) V → Meets Q A r (IsMisshapen (an o) d) (IsBeyond (an o) d) V
an_object o d h = recast (object_shape o d) (λ q. object_range o d) (λ v. v) h
