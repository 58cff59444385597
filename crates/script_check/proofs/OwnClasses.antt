-- What is wrong with a value itself is of shape or of limits, and nothing else.
use Rattle.std.proofs.Common.{◌≡◌, refl, ap, ◌∙◌, ℕ, suc, ℤ, pos, Bool, true, false, not, cond, ◌&&◌, ◌||◌, List, [], ◌∷◌, ◌++◌, length, Option, Some, None}
use Rattle.std.specs.Prelude.{is_none, is_some, nat_lt}
use Rattle.std.specs.List.{list_any}
use Rattle.std.specs.Str.{bytes_eq}
use Rattle.std.proofs.lemmas.List.Folds.{list_any-append}
use Rattle.serde_json.specs.Data.{Data, Num, unsigned, negative, float, Items, Members, no_members, member, depth}
use Rattle.serde_json.specs.Find.{get, as_null, as_bool, as_number, as_array, as_object}
use Rattle.loop_script.specs.Form.{kind, action, tree, Form, whole, whole_or_null, signed, truth, list, lanes, pair, an, one_of, Key}
use Rattle.loop_script.specs.Tables.{keys}
use Rattle.loop_script.specs.Place.{count, size, asked}
use Rattle.loop_script.specs.Misfit.{contexts_in}
use Rattle.script_check.specs.declared.fault.Cause.{Cause}
use Rattle.script_check.specs.declared.fault.Cause.TheVariants.{OtherType, OtherWord, OtherLength, OtherKey, NoKey, Range, Count, Contexts, Depth}
use Rattle.script_check.specs.Own.{where_so, is_outside, is_integer_outside, of_whole, of_signed, of_list, of_contexts, has_size, other_keys, no_keys, of_object, of_word, own}

-- a class that has no fault of shape or of limits
pub record Spares (test : Cause → Bool) : Type 0 where
  pub kind : test OtherType ≡ false
  pub word : test OtherWord ≡ false
  pub length : test OtherLength ≡ false
  pub other : (n : ℕ) → test (OtherKey n) ≡ false
  pub lacking : (n : ℕ) → test (NoKey n) ≡ false
  pub range : test Range ≡ false
  pub count : test Count ≡ false
  pub contexts : test Contexts ≡ false
  pub depth : test Depth ≡ false

one : (test : Cause → Bool) (c : Cause) → test c ≡ false → list_any test (c ∷ []) ≡ false
one test c e = ap (λ b. b || false) e

where_not : (test : Cause → Bool) (b : Bool) (c : Cause) → test c ≡ false → list_any test (where_so b c) ≡ false
where_not test true c e = one test c e
where_not test false c e = refl

both : (test : Cause → Bool) (xs ys : List Cause) → list_any test xs ≡ false → list_any test ys ≡ false → list_any test (xs ++ ys) ≡ false
both test xs ys e f = list_any-append test xs ys ∙ ap (λ a. a || list_any test ys) e ∙ f

whole_not : (test : Cause → Bool) → Spares test → (low high : ℕ) (o : Option Num) → list_any test (of_whole low high o) ≡ false
whole_not test s low high None = one test OtherType s.kind
whole_not test s low high (Some (unsigned n)) = where_not test (is_outside low high n) Range s.range
whole_not test s low high (Some (negative z)) = one test Range s.range
whole_not test s low high (Some (float x)) = one test OtherType s.kind

null_not : (test : Cause → Bool) → Spares test → (low high : ℕ) (b : Bool) (o : Option Num) → list_any test (cond b [] (of_whole low high o)) ≡ false
null_not test s low high true o = refl
null_not test s low high false o = whole_not test s low high o

signed_not : (test : Cause → Bool) → Spares test → (low high : ℤ) (o : Option Num) → list_any test (of_signed low high o) ≡ false
signed_not test s low high None = one test OtherType s.kind
signed_not test s low high (Some (unsigned n)) = where_not test (is_integer_outside low high (pos n)) Range s.range
signed_not test s low high (Some (negative z)) = where_not test (is_integer_outside low high z) Range s.range
signed_not test s low high (Some (float x)) = one test OtherType s.kind

list_not : (test : Cause → Bool) → Spares test → (low high : ℕ) (o : Option Items) → list_any test (of_list low high o) ≡ false
list_not test s low high None = one test OtherType s.kind
list_not test s low high (Some ds) = where_not test (is_outside low high (count ds)) Count s.count

contexts_not : (test : Cause → Bool) → Spares test → (most : ℕ) (o : Option Items) → list_any test (of_contexts most o) ≡ false
contexts_not test s most None = refl
contexts_not test s most (Some ds) = where_not test (nat_lt most (contexts_in ds)) Contexts s.contexts

other_not : (test : Cause → Bool) → Spares test → (ks : List Key) (n : ℕ) (ms : Members) → list_any test (other_keys ks n ms) ≡ false
other_not test s ks n no_members = refl
other_not test s ks n (member k d ms) = both test _ (other_keys ks (suc n) ms) (where_not test (not (list_any (λ key. bytes_eq k key.name) ks)) (OtherKey n) (s.other n)) (other_not test s ks (suc n) ms)

lacking_not : (test : Cause → Bool) → Spares test → (n : ℕ) (ks : List Key) (d : Data) → list_any test (no_keys n ks d) ≡ false
lacking_not test s n [] d = refl
lacking_not test s n (k ∷ ks) d = both test _ (no_keys (suc n) ks d) (where_not test (k.needed && is_none (get k.name d)) (NoKey n) (s.lacking n)) (lacking_not test s (suc n) ks d)

object_not : (test : Cause → Bool) → Spares test → (ks : List Key) (d : Data) (o : Option Members) → list_any test (of_object ks d o) ≡ false
object_not test s ks d None = one test OtherType s.kind
object_not test s ks d (Some ms) = both test (other_keys ks 0 ms) (no_keys 0 ks d) (other_not test s ks 0 ms) (lacking_not test s 0 ks d)

word_not : (test : Cause → Bool) → Spares test → (o : Option (List Form)) (d : Data) → list_any test (of_word o d) ≡ false
word_not test s None d = one test OtherWord s.word
word_not test s (Some fs) d = where_not test (not (has_size (suc (length fs)) (size d))) OtherLength s.length

pub own_classes : (test : Cause → Bool) → Spares test → (f : Form) (d : Data) → list_any test (own f d) ≡ false
own_classes test s (whole low high) d = whole_not test s low high (as_number d)
own_classes test s (whole_or_null low high) d = null_not test s low high (is_some (as_null d)) (as_number d)
own_classes test s (signed low high) d = signed_not test s low high (as_number d)
own_classes test s truth d = where_not test (is_none (as_bool d)) OtherType s.kind
own_classes test s (list low high f) d = list_not test s low high (as_array d)
own_classes test s (lanes low high most) d = both test (of_list low high (as_array d)) (of_contexts most (as_array d)) (list_not test s low high (as_array d)) (contexts_not test s most (as_array d))
own_classes test s pair d = where_not test (not (has_size 2 (size d))) OtherLength s.length
own_classes test s (an o) d = object_not test s (keys o) d (as_object d)
own_classes test s (one_of kind) d = word_not test s (asked kind d) d
own_classes test s (one_of action) d = word_not test s (asked action d) d
own_classes test s (one_of (tree most)) d = both test (of_word (asked (tree most) d) d) (where_so (nat_lt most (depth d)) Depth) (word_not test s (asked (tree most) d) d) (where_not test (nat_lt most (depth d)) Depth s.depth)
