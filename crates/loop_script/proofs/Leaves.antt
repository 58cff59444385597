-- Numbers, truths, lists, and the keys of an object or the length of a list, read by their forms.
use Rattle.std.proofs.Common.{◌≡◌, ◌≢◌, ◌⊎◌, ◌↔◌, inl, inr, refl, sym, subst, ap, ℕ, suc, ℤ, pos, ◌<ℤ◌, Bool, true, false, cond, ◌&&◌, ◌||◌, List, [], ◌∷◌, length, map, Option, Some, None, arith, ◌∙◌}
use Rattle.std.specs.Prelude.{option_map, ◌==◌, ⊤, nat_le, int_le}
use Rattle.std.specs.List.{list_any}
use Rattle.std.specs.Str.{bytes_eq}
use Rattle.std.proofs.lemmas.Bool.Decides.{nat_tests}
use Rattle.std.proofs.lemmas.Bool.{eq-eqb, ne_eqb, eqb-true}
use Rattle.loop_script.specs.declared.faults.Faults.{Faults}
use Rattle.std.proofs.lemmas.Int.{ints}
use Rattle.serde_json.specs.Data.{Data, null, boolean, number, string, array, object, unsigned, negative, float, Items, no_items, item, Members, no_members, member}
use Rattle.serde_json.specs.Find.{as_array, as_object}
use Rattle.loop_script.specs.Read.{Read, done, misshapen, optional, nullable}
use Rattle.loop_script.specs.Number.{whole as whole_of, integer as integer_read, flag}
use Rattle.loop_script.specs.Object.{names, are_among, only, only_among}
use Rattle.loop_script.specs.Array.{arity, parts_are}
use Rattle.loop_script.specs.Rows.{count as rows_count, each, rows}
use Rattle.loop_script.specs.Form.{Form, whole, whole_or_null, signed, truth, list, Key}
use Rattle.loop_script.specs.Place.{count, size, IsPart, itself}
use Rattle.loop_script.specs.Misfit.{HasOtherKey, HasNotKeysAlone, HasOtherShape, IsOutside, IsOutOfRange, HasCountOutside, IsMisshapen, IsBeyond}
use Rattle.loop_script.specs.Meaning.{IsWhole, IsInteger, IsTruth, Or, OrNull, EachIs, IsList}
use Rattle.loop_script.proofs.Alternatives.{some_inj, is_none, along, either_part, turned}
use Rattle.loop_script.proofs.Meets.{Meets, meets_done, meets_misshapen, meets_beyond, meets_test, meets_shape, meets_tested, recast, next, last, not_both}
use Rattle.loop_script.proofs.Openings.{alone, SomeItem, items_opened, KeyMisfit, KeyBeyond}

-- a reading of what should have a form, there or absent
pub record Reads (g : Form) (A : Type 0) (R : Option Data → Read A) (Is : Option Data → A → Type 0) : Type 0 where
  pub there : (d : Data) → Meets (Unit {0}) A (R (Some d)) (IsMisshapen g d) (IsBeyond g d) (Is (Some d))
  pub absent : (s : Faults) → ((R None).faults s).shape ≡ true

missed : {A M B : Type 0} {V : A → Type 0} {r : Read A} → ((s : Faults) → (r.faults s).shape ≡ true) → M → Meets (Unit {0}) A r M B V
missed h m = record {
  shape = λ s. (λ x. inr m, λ x. h s);
  limit = λ s q n. absurd (n m);
  value = λ q n b. absurd (n m);
}

pub of_needed : {A : Type 0} {R : Option Data → Read A} {Is : Option Data → A → Type 0} (k : Key) → k.needed ≡ true → Reads k.form A R Is → (o : Option Data) → Meets (Unit {0}) A (R o) (KeyMisfit k o) (KeyBeyond k o) (Is o)
of_needed k e h None = missed h.absent e
of_needed k e h (Some d) = h.there d

pub of_free : {A : Type 0} {R : Option Data → Read A} {Is : Option Data → A → Type 0} (k : Key) (x : A) → k.needed ≡ false → Reads k.form A R Is → (o : Option Data) → Meets (Unit {0}) A (optional x R o) (KeyMisfit k o) (KeyBeyond k o) (Or x Is o)
of_free k x e h None = meets_done x (λ m. not_both m e) (λ b. b) refl
of_free k x e h (Some d) = h.there d

-- a form with no parts
of_leaf : {A : Type 0} {r : Read A} {V : A → Type 0} (f : Form) (d : Data) → ((g : Form) (e : Data) → IsPart f d g e → ⊥) → Meets (Unit {0}) A r (HasOtherShape f d) (IsOutOfRange f d) V → Meets (Unit {0}) A r (IsMisshapen f d) (IsBeyond f d) V
of_leaf f d none h = recast (alone HasOtherShape f d none) (λ q. alone IsOutOfRange f d none) (λ v. v) h

-- ---- numbers
between : (low high n : ℕ) → ((nat_le low n && nat_le n high) ≡ false) ↔ IsOutside low high n
between low high n = (grind (arith, nat_tests), grind (arith, nat_tests))

whole_at : (low high : ℕ) (d : Data) → Meets (Unit {0}) ℕ (whole_of low high (Some d)) (HasOtherShape (whole low high) d) (IsOutOfRange (whole low high) d) (IsWhole (Some d))
unfolding whole_of
whole_at low high null = meets_misshapen low refl
whole_at low high (boolean b) = meets_misshapen low refl
whole_at low high (number (unsigned n)) = meets_test (nat_le low n && nat_le n high) n low is_none (between low high n) refl
whole_at low high (number (negative z)) = meets_beyond low is_none tt
whole_at low high (number (float x)) = meets_misshapen low refl
whole_at low high (string s) = meets_misshapen low refl
whole_at low high (array ds) = meets_misshapen low refl
whole_at low high (object ms) = meets_misshapen low refl

pub reads_whole : (low high : ℕ) → Reads (whole low high) ℕ (whole_of low high) IsWhole
unfolding whole_of
reads_whole low high = record { there = λ d. of_leaf (whole low high) d (λ g e p. p) (whole_at low high d); absent = λ s. refl }

null_at : (low high : ℕ) (d : Data) → Meets (Unit {0}) (Option ℕ) (nullable (whole_of low high) (Some d)) (HasOtherShape (whole_or_null low high) d) (IsOutOfRange (whole_or_null low high) d) (OrNull IsWhole (Some d))
unfolding whole_of
null_at low high null = meets_done {A = Option ℕ} None (λ h. is_none h.0) (λ b. b) refl
null_at low high (boolean b) = meets_misshapen (Some low) (refl, refl)
null_at low high (number (unsigned n)) = last Some (meets_test {V = IsWhole (Some (number (unsigned n)))} (nat_le low n && nat_le n high) n low (λ h. is_none h.1) (between low high n) refl) (λ v. v)
null_at low high (number (negative z)) = meets_beyond (Some low) (λ h. is_none h.1) tt
null_at low high (number (float x)) = meets_misshapen (Some low) (refl, refl)
null_at low high (string s) = meets_misshapen (Some low) (refl, refl)
null_at low high (array ds) = meets_misshapen (Some low) (refl, refl)
null_at low high (object ms) = meets_misshapen (Some low) (refl, refl)

pub reads_null : (low high : ℕ) → Reads (whole_or_null low high) (Option ℕ) (nullable (whole_of low high)) (OrNull IsWhole)
unfolding whole_of
reads_null low high = record { there = λ d. of_leaf (whole_or_null low high) d (λ g e p. p) (null_at low high d); absent = λ s. refl }

abbrev Beyond : ℤ → ℤ → ℤ → Type 0
Beyond low high z = (z <ℤ low) ⊎ (high <ℤ z)

between_z : (low high z : ℤ) → ((int_le low z && int_le z high) ≡ false) ↔ Beyond low high z
between_z low high z = (grind (arith, ints), grind (arith, ints))

-- a number that is there is the one that is outside
the_number : (low high z : ℤ) (o : Option ℤ) → o ≡ Some z → Beyond low high z ↔ ((y : ℤ) × (o ≡ Some y) × Beyond low high y)
the_number low high z o e = (λ h. (z, e, h), λ (y, p, h). subst (Beyond low high) (some_inj (sym p ∙ e)) h)

signed_at : (low high : ℤ) (d : Data) → Meets (Unit {0}) ℤ (integer_read low high (Some d)) (HasOtherShape (signed low high) d) (IsOutOfRange (signed low high) d) (IsInteger (Some d))
unfolding integer_read
signed_at low high null = meets_misshapen low refl
signed_at low high (boolean b) = meets_misshapen low refl
signed_at low high (number (unsigned n)) = recast {V = IsInteger (Some (number (unsigned n)))} (λ h. h, λ h. h) (λ q. the_number low high (pos n) (Some (pos n)) refl) (λ v. v) (meets_test (int_le low (pos n) && int_le (pos n) high) (pos n) low is_none (between_z low high (pos n)) refl)
signed_at low high (number (negative z)) = recast {V = IsInteger (Some (number (negative z)))} (λ h. h, λ h. h) (λ q. the_number low high z (Some z) refl) (λ v. v) (meets_test (int_le low z && int_le z high) z low is_none (between_z low high z) refl)
signed_at low high (number (float x)) = meets_misshapen low refl
signed_at low high (string s) = meets_misshapen low refl
signed_at low high (array ds) = meets_misshapen low refl
signed_at low high (object ms) = meets_misshapen low refl

pub reads_signed : (low high : ℤ) → Reads (signed low high) ℤ (integer_read low high) IsInteger
unfolding integer_read
reads_signed low high = record { there = λ d. of_leaf (signed low high) d (λ g e p. p) (signed_at low high d); absent = λ s. refl }

truth_at : (b : Bool) (d : Data) → Meets (Unit {0}) Bool (flag b (Some d)) (HasOtherShape truth d) (IsOutOfRange truth d) (IsTruth (Some d))
unfolding flag
truth_at b null = meets_misshapen b refl
truth_at b (boolean c) = meets_done c is_none (λ x. x) refl
truth_at b (number n) = meets_misshapen b refl
truth_at b (string s) = meets_misshapen b refl
truth_at b (array ds) = meets_misshapen b refl
truth_at b (object ms) = meets_misshapen b refl

pub reads_truth : (b : Bool) → Reads truth Bool (flag b) IsTruth
unfolding flag
reads_truth b = record { there = λ d. of_leaf truth d (λ g e p. p) (truth_at b d); absent = λ s. refl }

-- ---- lists
pub same_count : (ds : Items) → rows_count ds ≡ count ds
same_count no_items = refl
same_count (item d ds) = ap suc (same_count ds)

pub each_count : {A : Type 0} (Is : Option Data → A → Type 0) (ds : Items) (xs : List A) → EachIs Is ds xs → length xs ≡ count ds
each_count Is no_items [] h = refl
each_count Is no_items (x ∷ xs) h = absurd h
each_count Is (item d ds) [] h = absurd h
each_count Is (item d ds) (x ∷ xs) h = ap suc (each_count Is ds xs h.1)

pub each_at : {A : Type 0} {R : Option Data → Read A} {Is : Option Data → A → Type 0} (g : Form) → Reads g A R Is → (ds : Items) → Meets (Unit {0}) (List A) (each R ds) (SomeItem (IsMisshapen g) ds) (SomeItem (IsBeyond g) ds) (EachIs Is ds)
each_at {A = A} g h no_items = meets_done {A = List A} [] (λ x. x) (λ x. x) tt
each_at {A = A} {R = R} {Is = Is} g h (item d ds) =
    next (h.there d) (last {W = λ xs. Is (Some d) (R (Some d)).value → EachIs Is (item d ds) xs} (λ xs. (R (Some d)).value ∷ xs) (each_at g h ds) (λ vs v. (v, vs)))

pub counted : {A : Type 0} (Is : Option Data → A → Type 0) (low high : ℕ) (ds : Items) (xs : List A) → EachIs Is ds xs → ((nat_le low (length xs) && nat_le (length xs) high) ≡ false) ↔ IsOutside low high (count ds)
counted Is low high ds xs h = subst (λ n. ((nat_le low (length xs) && nat_le (length xs) high) ≡ false) ↔ IsOutside low high n) (each_count Is ds xs h) (between low high (length xs))

pub the_count : (low high : ℕ) (ds : Items) → IsOutside low high (count ds) ↔ HasCountOutside low high (array ds)
the_count low high ds = (λ h. (count ds, refl, h), λ (n, p, h). subst (IsOutside low high) (some_inj (sym p)) h)

list_at : {A : Type 0} {R : Option Data → Read A} {Is : Option Data → A → Type 0} (low high : ℕ) (g : Form) → Reads g A R Is → (d : Data) → Meets (Unit {0}) (List A) (rows low high R (Some d)) (IsMisshapen (list low high g) d) (IsBeyond (list low high g) d) (IsList Is (Some d))
unfolding rows
list_at {A = A} {R = R} {Is = Is} low high g h (array ds) =
    let sh : SomeItem (IsMisshapen g) ds ↔ IsMisshapen (list low high g) (array ds) = along (either_part is_none) (items_opened HasOtherShape (list low high g) g ds (λ f e. (λ x. x, λ x. x))) in
    let ra : (SomeItem (IsBeyond g) ds ⊎ IsOutside low high (count ds)) ↔ IsBeyond (list low high g) (array ds) = along (turned (the_count low high ds)) (items_opened IsOutOfRange (list low high g) g ds (λ f e. (λ x. x, λ x. x))) in
    recast sh (λ q. ra) (λ v. (ds, refl, v)) (meets_tested (λ xs. nat_le low (length xs) && nat_le (length xs) high) [] (each_at g h ds) (counted Is low high ds (each R ds).value))
list_at {A = A} low high g h null = meets_misshapen {A = List A} [] (list low high g, null, itself (list low high g) null, refl)
list_at {A = A} low high g h (boolean b) = meets_misshapen {A = List A} [] (list low high g, boolean b, itself (list low high g) (boolean b), refl)
list_at {A = A} low high g h (number n) = meets_misshapen {A = List A} [] (list low high g, number n, itself (list low high g) (number n), refl)
list_at {A = A} low high g h (string s) = meets_misshapen {A = List A} [] (list low high g, string s, itself (list low high g) (string s), refl)
list_at {A = A} low high g h (object ms) = meets_misshapen {A = List A} [] (list low high g, object ms, itself (list low high g) (object ms), refl)

pub reads_list : {A : Type 0} {R : Option Data → Read A} {Is : Option Data → A → Type 0} (low high : ℕ) (g : Form) → Reads g A R Is → Reads (list low high g) (List A) (rows low high R) (IsList Is)
unfolding rows
reads_list low high g h = record { there = λ d. list_at low high g h d; absent = λ s. refl }

-- ---- the keys of an object
same_any : (k : List ℕ) (ks : List Key) → list_any (bytes_eq k) (map (λ key. key.name) ks) ≡ list_any (λ key. bytes_eq k key.name) ks
same_any k [] = refl
same_any k (key ∷ ks) = ap (λ b. bytes_eq k key.name || b) (same_any k ks)

some_false : (a b c : Bool) (X : Type 0) → a ≡ c → (b ≡ false) ↔ X → ((a && b) ≡ false) ↔ ((c ≡ false) ⊎ X)
some_false true b true X e h = (λ x. inr (h.0 x), back)
  where
    back : (true ≡ false) ⊎ X → b ≡ false
    back (inl x) = cc
    back (inr x) = h.1 x
some_false true b false X e h = absurd (cc)
some_false false b true X e h = absurd (cc)
some_false false b false X e h = (λ x. inl refl, λ x. refl)

other_keys : (ks : List Key) (ms : Members) → (are_among (map (λ key. key.name) ks) (names ms) ≡ false) ↔ HasOtherKey ks ms
other_keys ks no_members = (λ h. not_both refl h, λ x. absurd x)
other_keys ks (member k d ms) = some_false (list_any (bytes_eq k) (map (λ key. key.name) ks)) (are_among (map (λ key. key.name) ks) (names ms)) (list_any (λ key. bytes_eq k key.name) ks) (HasOtherKey ks ms) (same_any k ks) (other_keys ks ms)

keys_by : (ks : List Key) (o : Option Members) → Meets (Unit {0}) ⊤ (only_among (map (λ key. key.name) ks) o) (HasNotKeysAlone ks o) ⊥ (λ u. Unit {0})
keys_by ks None = meets_misshapen {A = ⊤} tt tt
keys_by ks (Some ms) = meets_shape {A = ⊤} (are_among (map (λ key. key.name) ks) (names ms)) tt (other_keys ks ms) (λ b. b) (λ e. tt)

pub keys_at : (ks : List Key) (d : Data) → Meets (Unit {0}) ⊤ (only (map (λ key. key.name) ks) (Some d)) (HasNotKeysAlone ks (as_object d)) ⊥ (λ u. Unit {0})
unfolding only
keys_at ks d = keys_by ks (as_object d)

-- ---- the length of a list
same_length : (n m : ℕ) → ((n == m) ≡ false) ↔ (Some n ≢ Some m)
same_length n m = (λ h p. not_both (eq-eqb n m (some_inj p)) h, back)
  where
    back : (Some n ≢ Some m) → (n == m) ≡ false
    back h = ne_eqb n m (λ p. h (ap Some p))

length_by : {Q : Type 0} (m : ℕ) (o : Option Items) → Meets Q ⊤ (parts_are m o) (option_map count o ≢ Some m) ⊥ (λ u. option_map count o ≡ Some m)
length_by m None = meets_misshapen {A = ⊤} tt (λ p. is_none (sym p))
length_by {Q = Q} m (Some ds) = subst (λ n. Meets Q ⊤ (cond (n == m) (done tt) (misshapen tt)) (Some (count ds) ≢ Some m) ⊥ (λ u. Some (count ds) ≡ Some m)) (sym (same_count ds)) (meets_shape {A = ⊤} (count ds == m) tt (same_length (count ds) m) (λ b. b) (λ e. ap Some (eqb-true (count ds) m e)))

pub length_at : {Q : Type 0} (m : ℕ) (d : Data) → Meets Q ⊤ (arity m (Some d)) (size d ≢ Some m) ⊥ (λ u. size d ≡ Some m)
unfolding arity
length_at m d = length_by m (as_array d)
