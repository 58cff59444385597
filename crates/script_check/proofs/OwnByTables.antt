-- What is wrong with a value itself is what the tables say of it.
use Rattle.std.proofs.Common.{◌≡◌, ◌≢◌, ◌⊎◌, ◌↔◌, ◌<◌, ◌<ℤ◌, inl, inr, refl, sym, subst, ap, ◌∙◌, ℕ, suc, ℤ, pos, Bool, true, false, not, ◌&&◌, ◌||◌, List, [], ◌∷◌, ◌++◌, length, Option, Some, None, arith}
use Rattle.std.specs.Prelude.{option_map, is_none, ◌==◌, nat_lt}
use Rattle.std.specs.List.{list_any}
use Rattle.std.specs.Str.{bytes_eq}
use Rattle.std.proofs.lemmas.Bool.Decides.{nat_tests}
use Rattle.std.proofs.lemmas.Bool.{eq-eqb, ne_eqb}
use Rattle.std.proofs.lemmas.Int.{ints}
use Rattle.std.proofs.lemmas.List.Folds.{list_any-append}
use Rattle.serde_json.specs.Data.{Data, null, boolean, number, string, array, object, unsigned, negative, float, Items, Members, no_members, member, depth}
use Rattle.serde_json.specs.Find.{get, as_bool, as_array, as_object}
use Rattle.loop_script.specs.Form.{kind, action, tree, Form, whole, whole_or_null, signed, truth, list, lanes, pair, an, one_of, Key}
use Rattle.loop_script.specs.Tables.{keys}
use Rattle.loop_script.specs.Place.{count, size, asked}
use Rattle.loop_script.specs.Misfit.{HasOtherKey, HasNotKeysAlone, LacksKey, HasOtherParts, HasOtherShape, IsOutside, contexts_in, IsOutOfRange}
use Rattle.loop_script.proofs.Alternatives.{some_inj, is_none as not_none}
use Rattle.loop_script.proofs.Meets.{not_both}
use Rattle.script_check.specs.declared.fault.Cause.{Cause}
use Rattle.script_check.specs.declared.fault.Cause.TheVariants.{OtherType, OtherLength, OtherKey, NoKey, Range, Count, Contexts, Depth}
use Rattle.script_check.specs.Own.{where_so, is_outside, is_integer_outside, of_list, of_contexts, has_size, other_keys, no_keys, of_object, of_word, own}
use Rattle.script_check.specs.Laws.{is_shape, is_limit}

-- ---- tests
abbrev Tells : (Cause → Bool) → List Cause → Type 0 → Type 0
Tells test cs P = (list_any test cs ≡ true) ↔ P

always : {P : Type 0} (b : Bool) → b ≡ true → P → (b ≡ true) ↔ P
always b e p = (λ h. p, λ h. e)

never : {P : Type 0} (b : Bool) → b ≡ false → (P → ⊥) → (b ≡ true) ↔ P
never b e n = (λ h. absurd (not_both h e), λ p. absurd (n p))

along : {P : Type 0} (a b : Bool) → a ≡ b → (b ≡ true) ↔ P → (a ≡ true) ↔ P
along a b e h = (λ x. h.0 (sym e ∙ x), λ p. e ∙ h.1 p)

either : {P Q : Type 0} (a b : Bool) → (a ≡ true) ↔ P → (b ≡ true) ↔ Q → ((a || b) ≡ true) ↔ (P ⊎ Q)
either true b f g = (λ h. inl (f.0 refl), λ h. refl)
either {P} {Q} false b f g = (λ h. inr (g.0 h), back)
  where
    back : P ⊎ Q → b ≡ true
    back (inl p) = absurd (not_both (f.1 p) refl)
    back (inr q) = g.1 q

one_so : (test : Cause → Bool) (b : Bool) (c : Cause) → test c ≡ true → list_any test (where_so b c) ≡ b
one_so test true c e = ap (λ t. t || false) e
one_so test false c e = refl

one_not : (test : Cause → Bool) (b : Bool) (c : Cause) → test c ≡ false → list_any test (where_so b c) ≡ false
one_not test true c e = ap (λ t. t || false) e
one_not test false c e = refl

both_parts : {P Q : Type 0} (test : Cause → Bool) (xs ys : List Cause) → Tells test xs P → Tells test ys Q → Tells test (xs ++ ys) (P ⊎ Q)
both_parts test xs ys f g = along (list_any test (xs ++ ys)) (list_any test xs || list_any test ys) (list_any-append test xs ys) (either (list_any test xs) (list_any test ys) f g)

none_of_both : (test : Cause → Bool) (xs ys : List Cause) → list_any test xs ≡ false → list_any test ys ≡ false → list_any test (xs ++ ys) ≡ false
none_of_both test xs ys e f = list_any-append test xs ys ∙ ap (λ a. a || list_any test ys) e ∙ f

left_alone : {P Q : Type 0} → (Q → ⊥) → (P ⊎ Q) ↔ P
left_alone {P} {Q} n = (out, inl)
  where
    out : P ⊎ Q → P
    out (inl p) = p
    out (inr q) = absurd (n q)

right_alone : {P Q : Type 0} → (P → ⊥) → (P ⊎ Q) ↔ Q
right_alone {P} {Q} n = (out, inr)
  where
    out : P ⊎ Q → Q
    out (inl p) = absurd (n p)
    out (inr q) = q

turned : {A P Q : Type 0} → A ↔ P → P ↔ Q → A ↔ Q
turned f g = (λ a. g.0 (f.0 a), λ q. f.1 (g.1 q))

-- ---- shape
size_is : (n : ℕ) (o : Option ℕ) → (not (has_size n o) ≡ true) ↔ (o ≢ Some n)
size_is n None = always true refl (λ p. not_none (sym p))
size_is n (Some m) = (there, back)
  where
    there : not (m == n) ≡ true → Some m ≢ Some n
    there h p = let e : (m == n) ≡ true = eq-eqb m n (some_inj p) in not_both h (ap not e)

    back : Some m ≢ Some n → not (m == n) ≡ true
    back h = ap not (ne_eqb m n (λ p. h (ap Some p)))

whole_shape : (low high : ℕ) (d : Data) → Tells is_shape (own (whole low high) d) (HasOtherShape (whole low high) d)
whole_shape low high null = always true refl refl
whole_shape low high (boolean b) = always true refl refl
whole_shape low high (number (unsigned n)) = never _ (one_not is_shape (is_outside low high n) Range refl) (λ h. not_none h)
whole_shape low high (number (negative z)) = never false refl (λ h. not_none h)
whole_shape low high (number (float x)) = always true refl refl
whole_shape low high (string s) = always true refl refl
whole_shape low high (array ds) = always true refl refl
whole_shape low high (object ms) = always true refl refl

null_shape : (low high : ℕ) (d : Data) → Tells is_shape (own (whole_or_null low high) d) (HasOtherShape (whole_or_null low high) d)
null_shape low high null = never false refl (λ h. not_none h.0)
null_shape low high (boolean b) = always true refl (refl, refl)
null_shape low high (number (unsigned n)) = never _ (one_not is_shape (is_outside low high n) Range refl) (λ h. not_none h.1)
null_shape low high (number (negative z)) = never false refl (λ h. not_none h.1)
null_shape low high (number (float x)) = always true refl (refl, refl)
null_shape low high (string s) = always true refl (refl, refl)
null_shape low high (array ds) = always true refl (refl, refl)
null_shape low high (object ms) = always true refl (refl, refl)

signed_shape : (low high : ℤ) (d : Data) → Tells is_shape (own (signed low high) d) (HasOtherShape (signed low high) d)
signed_shape low high null = always true refl refl
signed_shape low high (boolean b) = always true refl refl
signed_shape low high (number (unsigned n)) = never _ (one_not is_shape (is_integer_outside low high (pos n)) Range refl) (λ h. not_none h)
signed_shape low high (number (negative z)) = never _ (one_not is_shape (is_integer_outside low high z) Range refl) (λ h. not_none h)
signed_shape low high (number (float x)) = always true refl refl
signed_shape low high (string s) = always true refl refl
signed_shape low high (array ds) = always true refl refl
signed_shape low high (object ms) = always true refl refl

truth_shape : (o : Option Bool) → Tells is_shape (where_so (is_none o) OtherType) (o ≡ None)
truth_shape None = always true refl refl
truth_shape (Some b) = never false refl (λ h. not_none h)

list_shape : (low high : ℕ) (o : Option Items) → Tells is_shape (of_list low high o) (o ≡ None)
list_shape low high None = always true refl refl
list_shape low high (Some ds) = never _ (one_not is_shape (is_outside low high (count ds)) Count refl) (λ h. not_none h)

lanes_shape : (low high most : ℕ) (o : Option Items) → Tells is_shape (of_list low high o ++ of_contexts most o) (o ≡ None)
lanes_shape low high most None = always true refl refl
lanes_shape low high most (Some ds) = never _ (none_of_both is_shape (where_so (is_outside low high (count ds)) Count) (where_so (nat_lt most (contexts_in ds)) Contexts) (one_not is_shape (is_outside low high (count ds)) Count refl) (one_not is_shape (nat_lt most (contexts_in ds)) Contexts refl)) (λ h. not_none h)

length_shape : (n : ℕ) (o : Option ℕ) → Tells is_shape (where_so (not (has_size n o)) OtherLength) (o ≢ Some n)
length_shape n o = along _ (not (has_size n o)) (one_so is_shape (not (has_size n o)) OtherLength refl) (size_is n o)

not_so : (b : Bool) → (not b ≡ true) ↔ (b ≡ false)
not_so true = (λ h. sym h, λ h. sym h)
not_so false = (λ h. refl, λ h. refl)

other_shape : (ks : List Key) (n : ℕ) (ms : Members) → Tells is_shape (other_keys ks n ms) (HasOtherKey ks ms)
other_shape ks n no_members = never false refl (λ h. h)
other_shape ks n (member k d ms) =
    let known = list_any (λ key. bytes_eq k key.name) ks in
    both_parts is_shape (where_so (not known) (OtherKey n)) (other_keys ks (suc n) ms) (along _ (not known) (one_so is_shape (not known) (OtherKey n) refl) (not_so known)) (other_shape ks (suc n) ms)

lacking : (b : Bool) (o : Option Data) → ((b && is_none o) ≡ true) ↔ ((b ≡ true) × (o ≡ None))
lacking true None = always true refl (refl, refl)
lacking true (Some d) = never false refl (λ h. not_none h.1)
lacking false o = never false refl (λ h. not_both h.0 refl)

lacks_shape : (n : ℕ) (ks : List Key) (d : Data) → Tells is_shape (no_keys n ks d) (LacksKey ks d)
lacks_shape n [] d = never false refl (λ h. h)
lacks_shape n (k ∷ ks) d =
    let so = k.needed && is_none (get k.name d) in
    both_parts is_shape (where_so so (NoKey n)) (no_keys (suc n) ks d) (along _ so (one_so is_shape so (NoKey n) refl) (lacking k.needed (get k.name d))) (lacks_shape (suc n) ks d)

object_shape : (ks : List Key) (d : Data) (o : Option Members) → Tells is_shape (of_object ks d o) (HasNotKeysAlone ks o ⊎ LacksKey ks d)
object_shape ks d None = always true refl (inl tt)
object_shape ks d (Some ms) = both_parts is_shape (other_keys ks 0 ms) (no_keys 0 ks d) (other_shape ks 0 ms) (lacks_shape 0 ks d)

word_shape : (o : Option (List Form)) (d : Data) → Tells is_shape (of_word o d) (HasOtherParts o d)
word_shape None d = always true refl tt
word_shape (Some fs) d = length_shape (suc (length fs)) (size d)

tree_shape : (most : ℕ) (o : Option (List Form)) (d : Data) → Tells is_shape (of_word o d ++ where_so (nat_lt most (depth d)) Depth) (HasOtherParts o d)
tree_shape most o d = turned (both_parts {Q = ⊥} is_shape (of_word o d) (where_so (nat_lt most (depth d)) Depth) (word_shape o d) (never _ (one_not is_shape (nat_lt most (depth d)) Depth refl) (λ h. h))) (left_alone (λ h. h))

pub own_shape : (f : Form) (d : Data) → (list_any is_shape (own f d) ≡ true) ↔ HasOtherShape f d
own_shape (whole low high) d = whole_shape low high d
own_shape (whole_or_null low high) d = null_shape low high d
own_shape (signed low high) d = signed_shape low high d
own_shape truth d = truth_shape (as_bool d)
own_shape (list low high f) d = list_shape low high (as_array d)
own_shape (lanes low high most) d = lanes_shape low high most (as_array d)
own_shape pair d = length_shape 2 (size d)
own_shape (an o) d = object_shape (keys o) d (as_object d)
own_shape (one_of kind) d = word_shape (asked kind d) d
own_shape (one_of action) d = word_shape (asked action d) d
own_shape (one_of (tree most)) d = tree_shape most (asked (tree most) d) d

-- ---- range
outside_is : (low high n : ℕ) → (is_outside low high n ≡ true) ↔ IsOutside low high n
outside_is low high n = (grind (arith, nat_tests), grind (arith, nat_tests))

abbrev Beyond : ℤ → ℤ → ℤ → Type 0
Beyond low high z = (z <ℤ low) ⊎ (high <ℤ z)

integer_outside_is : (low high z : ℤ) → (is_integer_outside low high z ≡ true) ↔ Beyond low high z
integer_outside_is low high z = (grind (arith, ints), grind (arith, ints))

the_number : (low high z : ℤ) (o : Option ℤ) → o ≡ Some z → Beyond low high z ↔ ((y : ℤ) × (o ≡ Some y) × Beyond low high y)
the_number low high z o e = (λ h. (z, e, h), λ (y, p, h). subst (Beyond low high) (some_inj (sym p ∙ e)) h)

whole_range : (low high : ℕ) (d : Data) → Tells is_limit (own (whole low high) d) (IsOutOfRange (whole low high) d)
whole_range low high null = never false refl (λ h. h)
whole_range low high (boolean b) = never false refl (λ h. h)
whole_range low high (number (unsigned n)) = along _ (is_outside low high n) (one_so is_limit (is_outside low high n) Range refl) (outside_is low high n)
whole_range low high (number (negative z)) = always true refl tt
whole_range low high (number (float x)) = never false refl (λ h. h)
whole_range low high (string s) = never false refl (λ h. h)
whole_range low high (array ds) = never false refl (λ h. h)
whole_range low high (object ms) = never false refl (λ h. h)

null_range : (low high : ℕ) (d : Data) → Tells is_limit (own (whole_or_null low high) d) (IsOutOfRange (whole_or_null low high) d)
null_range low high null = never false refl (λ h. h)
null_range low high (boolean b) = never false refl (λ h. h)
null_range low high (number (unsigned n)) = along _ (is_outside low high n) (one_so is_limit (is_outside low high n) Range refl) (outside_is low high n)
null_range low high (number (negative z)) = always true refl tt
null_range low high (number (float x)) = never false refl (λ h. h)
null_range low high (string s) = never false refl (λ h. h)
null_range low high (array ds) = never false refl (λ h. h)
null_range low high (object ms) = never false refl (λ h. h)

no_number : (low high : ℤ) → ((z : ℤ) × (None ≡ Some z) × Beyond low high z) → ⊥
no_number low high (z, e, h) = not_none (sym e)

integer_range : (low high z : ℤ) → Tells is_limit (where_so (is_integer_outside low high z) Range) ((y : ℤ) × (Some z ≡ Some y) × Beyond low high y)
integer_range low high z = turned (along _ (is_integer_outside low high z) (one_so is_limit (is_integer_outside low high z) Range refl) (integer_outside_is low high z)) (the_number low high z (Some z) refl)

signed_range : (low high : ℤ) (d : Data) → Tells is_limit (own (signed low high) d) (IsOutOfRange (signed low high) d)
signed_range low high null = never false refl (no_number low high)
signed_range low high (boolean b) = never false refl (no_number low high)
signed_range low high (number (unsigned n)) = integer_range low high (pos n)
signed_range low high (number (negative z)) = integer_range low high z
signed_range low high (number (float x)) = never false refl (no_number low high)
signed_range low high (string s) = never false refl (no_number low high)
signed_range low high (array ds) = never false refl (no_number low high)
signed_range low high (object ms) = never false refl (no_number low high)

count_range : (low high : ℕ) (o : Option Items) → Tells is_limit (of_list low high o) ((n : ℕ) × (option_map count o ≡ Some n) × IsOutside low high n)
count_range low high None = never false refl (λ (n, e, h). not_none (sym e))
count_range low high (Some ds) =
    turned (along _ (is_outside low high (count ds)) (one_so is_limit (is_outside low high (count ds)) Count refl) (outside_is low high (count ds)))
    (λ h. (count ds, refl, h), λ (n, e, h). subst (IsOutside low high) (some_inj (sym e)) h)

more_is : (m n : ℕ) → (nat_lt m n ≡ true) ↔ (m < n)
more_is m n = (grind (arith, nat_tests), grind (arith, nat_tests))

contexts_range : (most : ℕ) (o : Option Items) → Tells is_limit (of_contexts most o) ((ds : Items) × (o ≡ Some ds) × (most < contexts_in ds))
contexts_range most None = never false refl (λ (ds, e, h). not_none (sym e))
contexts_range most (Some ds) =
    turned (along _ (nat_lt most (contexts_in ds)) (one_so is_limit (nat_lt most (contexts_in ds)) Contexts refl) (more_is most (contexts_in ds)))
    (λ h. (ds, refl, h), λ (es, e, h). subst (λ xs. most < contexts_in xs) (some_inj (sym e)) h)

other_range : (ks : List Key) (n : ℕ) (ms : Members) → list_any is_limit (other_keys ks n ms) ≡ false
other_range ks n no_members = refl
other_range ks n (member k d ms) =
    let known = list_any (λ key. bytes_eq k key.name) ks in
    none_of_both is_limit (where_so (not known) (OtherKey n)) (other_keys ks (suc n) ms) (one_not is_limit (not known) (OtherKey n) refl) (other_range ks (suc n) ms)

lacks_range : (n : ℕ) (ks : List Key) (d : Data) → list_any is_limit (no_keys n ks d) ≡ false
lacks_range n [] d = refl
lacks_range n (k ∷ ks) d =
    let so = k.needed && is_none (get k.name d) in
    none_of_both is_limit (where_so so (NoKey n)) (no_keys (suc n) ks d) (one_not is_limit so (NoKey n) refl) (lacks_range (suc n) ks d)

object_range : (ks : List Key) (d : Data) (o : Option Members) → list_any is_limit (of_object ks d o) ≡ false
object_range ks d None = refl
object_range ks d (Some ms) = none_of_both is_limit (other_keys ks 0 ms) (no_keys 0 ks d) (other_range ks 0 ms) (lacks_range 0 ks d)

word_range : (o : Option (List Form)) (d : Data) → list_any is_limit (of_word o d) ≡ false
word_range None d = refl
word_range (Some fs) d = one_not is_limit (not (has_size (suc (length fs)) (size d))) OtherLength refl

tree_range : (most : ℕ) (o : Option (List Form)) (d : Data) → Tells is_limit (of_word o d ++ where_so (nat_lt most (depth d)) Depth) (most < depth d)
tree_range most o d = turned (both_parts {P = ⊥} is_limit (of_word o d) (where_so (nat_lt most (depth d)) Depth) (never _ (word_range o d) (λ h. h)) (along _ (nat_lt most (depth d)) (one_so is_limit (nat_lt most (depth d)) Depth refl) (more_is most (depth d)))) (right_alone (λ h. h))

truth_range : (b : Bool) → list_any is_limit (where_so b OtherType) ≡ false
truth_range b = one_not is_limit b OtherType refl

pub own_range : (f : Form) (d : Data) → (list_any is_limit (own f d) ≡ true) ↔ IsOutOfRange f d
own_range (whole low high) d = whole_range low high d
own_range (whole_or_null low high) d = null_range low high d
own_range (signed low high) d = signed_range low high d
own_range truth d = never _ (truth_range (is_none (as_bool d))) (λ h. h)
own_range (list low high f) d = count_range low high (as_array d)
own_range (lanes low high most) d = both_parts is_limit (of_list low high (as_array d)) (of_contexts most (as_array d)) (count_range low high (as_array d)) (contexts_range most (as_array d))
own_range pair d = never _ (one_not is_limit (not (has_size 2 (size d))) OtherLength refl) (λ h. h)
own_range (an o) d = never _ (object_range (keys o) d (as_object d)) (λ h. h)
own_range (one_of kind) d = never _ (word_range (asked kind d) d) (λ h. h)
own_range (one_of action) d = never _ (word_range (asked action d) d) (λ h. h)
own_range (one_of (tree most)) d = tree_range most (asked (tree most) d) d
