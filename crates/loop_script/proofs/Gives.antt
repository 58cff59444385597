-- The word that version 2 alone has: what is looked for is what the places say.
use Rattle.std.proofs.Common.{◌≡◌, ◌⊎◌, ◌↔◌, inl, inr, refl, ap, ℕ, zero, suc, Bool, true, false, not, ◌&&◌, ◌||◌, List, [], ◌∷◌, map, codes, Option, Some, None, option_and_then}
use Rattle.std.specs.Prelude.{unwrap_or}
use Rattle.std.specs.List.{list_any}
use Rattle.std.specs.Str.{bytes_eq}
use Rattle.std.proofs.lemmas.Slice.Eq.{bytes_eq-Decides}
use Rattle.std.proofs.lemmas.Bool.Decides.{Decides-eqb}
use Rattle.serde_json.specs.Data.{Data, null, boolean, number, string, array, object, unsigned, negative, float, Items, no_items, item}
use Rattle.serde_json.specs.Find.{get, get_item, as_number, as_u64}
use Rattle.serde_json.specs.View.{view, items_view}
use Rattle.serde_json.specs.declared.value.Value.{Value}
use Rattle.loop_script.specs.Place.{front}
use Rattle.loop_script.specs.Meaning.{under, nth}
use Rattle.loop_script.specs.Version.{IsGive, SomeAt, GivesUnder, GivesOutsideVersion2, is_two, is_version_2, begins_give, items_in, listed, list_gives, some_gives, gives_outside_version_2}
use Rattle.loop_script.proofs.Alternatives.{some_inj}
use Rattle.loop_script.proofs.Meets.{not_both}

-- ---- the items of a list of values, one by one
pub items_viewed : (vs : List Value) → items_in (items_view vs) ≡ map view vs
items_viewed [] = refl
items_viewed (v ∷ vs) = ap (λ ds. view v ∷ ds) (items_viewed vs)

pub any_viewed : (f : Data → Bool) (vs : List Value) → list_any (λ v. f (view v)) vs ≡ list_any f (map view vs)
any_viewed f [] = refl
any_viewed f (v ∷ vs) = ap (λ b. f (view v) || b) (any_viewed f vs)

-- ---- some item of a list is so exactly where at some place stands one that is
abbrev IsSo : (Data → Bool) → (Option Data → Type 0) → Type 0
IsSo f P = (e : Data) → (f e ≡ true) ↔ P (Some e)

head_or : (f : Data → Bool) (P : Option Data → Type 0) (d : Data) (ds : Items) (b : Bool) → f d ≡ b → (f d ≡ true) ↔ P (Some d) → (list_any f (items_in ds) ≡ true) ↔ ((n : ℕ) × P (get_item n ds)) → ((b || list_any f (items_in ds)) ≡ true) ↔ ((n : ℕ) × P (get_item n (item d ds)))
head_or f P d ds true e so rest = (λ h. (zero, so.0 e), λ h. refl)
head_or f P d ds false e so rest = (λ h. let (n, p) = rest.0 h in (suc n, p), back)
  where
    back : (n : ℕ) × P (get_item n (item d ds)) → list_any f (items_in ds) ≡ true
    back (zero, p) = absurd (not_both (so.1 p) e)
    back (suc n, p) = rest.1 (n, p)

any_item : (f : Data → Bool) (P : Option Data → Type 0) → IsSo f P → (P None → ⊥) → (ds : Items) → (list_any f (items_in ds) ≡ true) ↔ ((n : ℕ) × P (get_item n ds))
any_item f P so none no_items = (λ h. absurd (not_both h refl), λ (n, p). absurd (none p))
any_item f P so none (item d ds) = head_or f P d ds (f d) refl (so d) (any_item f P so none ds)

any_listed : (f : Data → Bool) (P : Option Data → Type 0) → IsSo f P → (P None → ⊥) → (o : Option Data) → (list_any f (listed o) ≡ true) ↔ ((n : ℕ) × P (nth n o))
any_listed f P so none None = (λ h. absurd (not_both h refl), λ (n, p). absurd (none p))
any_listed f P so none (Some null) = (λ h. absurd (not_both h refl), λ (n, p). absurd (none p))
any_listed f P so none (Some (boolean b)) = (λ h. absurd (not_both h refl), λ (n, p). absurd (none p))
any_listed f P so none (Some (number n)) = (λ h. absurd (not_both h refl), λ (n, p). absurd (none p))
any_listed f P so none (Some (string s)) = (λ h. absurd (not_both h refl), λ (n, p). absurd (none p))
any_listed f P so none (Some (object ms)) = (λ h. absurd (not_both h refl), λ (n, p). absurd (none p))
any_listed f P so none (Some (array ds)) = any_item f P so none ds

-- ---- the word
word_is : (o : Option (List ℕ)) → (bytes_eq (unwrap_or o []) (codes "give") ≡ true) ↔ (o ≡ Some (codes "give"))
word_is None = (λ h. absurd (not_both h refl), λ h. cc)
word_is (Some w) = let same = bytes_eq-Decides w (codes "give") in (λ h. ap Some (same.0 h), λ h. same.1 (some_inj h))

pub begins : IsSo begins_give IsGive
begins e = word_is (front e)

no_give : IsGive None → ⊥
no_give h = cc

list_is : (key : List ℕ) → IsSo (λ d. list_gives (get key d)) (λ o. SomeAt IsGive (under key o))
list_is key e = any_listed begins_give IsGive begins no_give (get key e)

some_are : (owners actions : List ℕ) (d : Data) → (some_gives actions (get owners d) ≡ true) ↔ GivesUnder owners actions d
some_are owners actions d = any_listed (λ e. list_gives (get actions e)) (λ o. SomeAt IsGive (under actions o)) (list_is actions) (λ (m, p). no_give p) (get owners d)

-- ---- the version
two_is : (o : Option Data) → (is_two (option_and_then (λ e. option_and_then as_u64 (as_number e)) o) ≡ true) ↔ (o ≡ Some (number (unsigned 2)))
two_is None = (λ h. cc, λ h. cc)
two_is (Some null) = (λ h. cc, λ h. cc)
two_is (Some (boolean b)) = (λ h. cc, λ h. cc)
two_is (Some (number (unsigned n))) = let same = Decides-eqb n 2 in (λ h. ap (λ m. Some (number (unsigned m))) (same.0 h), λ h. same.1 cc)
two_is (Some (number (negative z))) = (λ h. cc, λ h. cc)
two_is (Some (number (float x))) = (λ h. cc, λ h. cc)
two_is (Some (string s)) = (λ h. cc, λ h. cc)
two_is (Some (array ds)) = (λ h. cc, λ h. cc)
two_is (Some (object ms)) = (λ h. cc, λ h. cc)

both_are : {V A B : Type 0} (v a b : Bool) → (v ≡ true) ↔ V → (a ≡ true) ↔ A → (b ≡ true) ↔ B → ((not v && (a || b)) ≡ true) ↔ ((V → ⊥) × (A ⊎ B))
both_are true a b v x y = (λ h. absurd (not_both h refl), λ h. absurd (h.0 (v.0 refl)))
both_are false true b v x y = (λ h. (λ k. not_both (v.1 k) refl, inl (x.0 refl)), λ h. refl)
both_are {V = V} {A = A} {B = B} false false b v x y = (λ h. (λ k. not_both (v.1 k) refl, inr (y.0 h)), λ h. back h.1)
  where
    back : A ⊎ B → b ≡ true
    back (inl k) = absurd (not_both (x.1 k) refl)
    back (inr k) = y.1 k

pub outside : (d : Data) → (gives_outside_version_2 d ≡ true) ↔ GivesOutsideVersion2 d
outside d = (λ h. let (v, g) = both.0 h in record { version = v; gives = g }, λ h. both.1 (h.version, h.gives))
  where
    both : (gives_outside_version_2 d ≡ true) ↔ (((get (codes "version") d ≡ Some (number (unsigned 2))) → ⊥) × (GivesUnder (codes "lanes") (codes "start") d ⊎ GivesUnder (codes "procs") (codes "do") d))
    both = both_are (is_version_2 d) _ _ (two_is (get (codes "version") d)) (some_are (codes "lanes") (codes "start") d) (some_are (codes "procs") (codes "do") d)
