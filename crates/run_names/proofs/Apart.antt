-- Names that stand once each have the numbers of their places.
use Rattle.std.proofs.Common.{◌≡◌, ◌∙◌, sym, refl, ap, ℕ, zero, suc, ◌+◌, List, [], ◌∷◌, ◌++◌, Option, None, Bool, true, false, not, ◌&&◌, Some, IfSome, slice_get, is_some, length, nat_lt, arith, subst, option_map, String, string_bytes, unwrap_or}
use Rattle.std.proofs.lemmas.Bool.{or_parts, or_from, true≢false, cond_both, cond-true, cond-false, false_from_ne_true}
use Rattle.std.proofs.lemmas.Option.{slice_get-map}
use Rattle.std.proofs.lemmas.List.Folds.{list_any-append}
use Rattle.std.proofs.lemmas.Map.Keys.{any_passes_from_place}
use Rattle.std.proofs.lemmas.Slice.Eq.{bytes_eq-Decides}
use Rattle.std.specs.List.{list_any}
use Rattle.std.specs.Str.{bytes_eq}
use Rattle.json.specs.Json.{Json}
use Rattle.named.specs.Names.{Names, number_from, number_of, added, all_added, names_in, of_kind, declared, most}
use Rattle.named.specs.declared.sort.Kind.{Kind}
use Rattle.named.specs.declared.sort.Kind.TheVariants as kinds
use Rattle.run_names.specs.Called.{HaveNumbers, as_texts}

-- none of them stands twice
abbrev pub Apart : List (List ℕ) → Type 0
Apart [] = Unit {0}
Apart (x ∷ xs) = (list_any (λ y. bytes_eq x y) xs ≡ false) × Apart xs

same : (x : List ℕ) → bytes_eq x x ≡ true
same x = (bytes_eq-Decides x x).1 refl

-- a name that is none of them stands behind them
behind : (name : List ℕ) (xs : List (List ℕ)) → Apart xs → list_any (λ x. bytes_eq x name) xs ≡ false → Apart (xs ++ name ∷ [])
behind name [] a n = (refl, a)
behind name (x ∷ xs) a n =
    let parts = or_parts (bytes_eq x name) (list_any (λ y. bytes_eq y name) xs) n in
    let last : list_any (λ y. bytes_eq x y) (name ∷ []) ≡ false = or_from (bytes_eq x name) false parts.0 refl in (
      list_any-append (λ y. bytes_eq x y) xs (name ∷ []) ∙ or_from (list_any (λ y. bytes_eq x y) xs) (list_any (λ y. bytes_eq x y) (name ∷ [])) a.0 last,
      behind name xs a.1 parts.1,
    )

is_new : (a b : Bool) → (not a && b) ≡ true → a ≡ false
is_new true b e = sym e
is_new false b e = refl

apart_added : (limit : ℕ) (name : List ℕ) (xs : List (List ℕ)) → Apart xs → Apart (added limit name xs)
apart_added limit name xs a =
    cond_both (not (list_any (λ x. bytes_eq x name) xs) && nat_lt (length xs) limit) (xs ++ name ∷ []) xs Apart (λ e. behind name xs a (is_new (list_any (λ x. bytes_eq x name) xs) (nat_lt (length xs) limit) e)) (λ e. a)

apart_all : (limit : ℕ) (xs names : List (List ℕ)) → Apart xs → Apart (all_added limit xs names)
apart_all limit xs [] a = a
apart_all limit xs (name ∷ names) a = apart_all limit (added limit name xs) names (apart_added limit name xs a)

-- the first name of those from a number on has that number
found : (k : ℕ) (name x : List ℕ) (xs : List (List ℕ)) → x ≡ name → number_from k name (x ∷ xs) ≡ Some k
found k name x xs e = cond-true (bytes_eq x name) (Some k) (number_from (suc k) name xs) (ap (λ y. bytes_eq x y) (sym e) ∙ same x)

-- another than the first has its number among the rest
passed : (k : ℕ) (name x : List ℕ) (xs : List (List ℕ)) → bytes_eq x name ≡ false → number_from k name (x ∷ xs) ≡ number_from (suc k) name xs
passed k name x xs e = cond-false (bytes_eq x name) (Some k) (number_from (suc k) name xs) e

-- the first is none of the rest
other : (x name : List ℕ) (xs : List (List ℕ)) (n : ℕ) → list_any (λ y. bytes_eq x y) xs ≡ false → slice_get xs n ≡ Some name → bytes_eq x name ≡ false
other x name xs n a e = false_from_ne_true (bytes_eq x name) (λ y. true≢false (sym (any_passes_from_place (λ z. bytes_eq x z) xs n name e y) ∙ a))

if_some : {A : Type 0} {P : A → Type 0} (o : Option A) → ((x : A) → o ≡ Some x → P x) → IfSome o P
if_some None h = tt
if_some (Some x) h = h x refl

-- the name at a place has the number of that place
placed : (k n : ℕ) (name : List ℕ) (xs : List (List ℕ)) → Apart xs → slice_get xs n ≡ Some name → number_from k name xs ≡ Some (k + n)
placed k n name [] a e = absurd (true≢false (sym (ap is_some e)))
placed k zero name (x ∷ xs) a e = found k name x xs (ap (λ o. unwrap_or o x) e) ∙ ap Some (omega arith)
placed k (suc n) name (x ∷ xs) a e =
    passed k name x xs (other x name xs n a.0 e) ∙ placed (suc k) n name xs a.1 e ∙ ap Some (omega arith)

numbers_from_apart : (xs : List (List ℕ)) → Apart xs → (n : ℕ) → IfSome (slice_get xs n) (λ name. number_of name xs ≡ Some n)
numbers_from_apart xs a n = if_some {P = λ name. number_of name xs ≡ Some n} (slice_get xs n) (λ name e. placed 0 n name xs a e ∙ ap Some (omega arith))

each_apart : (kind : Kind) (j : Json) → Apart (of_kind kind (names_in j))
each_apart kinds.Thread j = apart_all (most kinds.Thread) [] (declared kinds.Thread j) tt
each_apart kinds.Context j = apart_all (most kinds.Context) [] (declared kinds.Context j) tt
each_apart kinds.Loop j = apart_all (most kinds.Loop) [] (declared kinds.Loop j) tt
each_apart kinds.Procedure j = apart_all (most kinds.Procedure) [] (declared kinds.Procedure j) tt
each_apart kinds.Cancellable j = apart_all (most kinds.Cancellable) [] (declared kinds.Cancellable j) tt
each_apart kinds.Descriptor j = apart_all (most kinds.Descriptor) [] (declared kinds.Descriptor j) tt
each_apart kinds.Slot j = apart_all (most kinds.Slot) [] (declared kinds.Slot j) tt
each_apart kinds.Text j = apart_all (most kinds.Text) [] (declared kinds.Text j) tt

pub names_have_numbers : (j : Json) → HaveNumbers (names_in j)
names_have_numbers j kind n = numbers_from_apart (of_kind kind (names_in j)) (each_apart kind j) n

-- names that are those of a script have their numbers
pub kept_numbers : (j : Json) (ns : Names) → ns ≡ names_in j → HaveNumbers ns
kept_numbers j ns e = subst HaveNumbers (sym e) (names_have_numbers j)

-- what stands among strings has the number of its place
pub number_at : {A : Type 0} (ns : Names) (kind : Kind) (list : List (String A)) (n : ℕ) (s : String A)
    → HaveNumbers ns → as_texts list ≡ of_kind kind ns → slice_get list n ≡ Some s → number_of (string_bytes s) (of_kind kind ns) ≡ Some n
number_at ns kind list n s h same e =
    at_some (slice_get (of_kind kind ns) n) (string_bytes s) (ap (λ xs. slice_get xs n) (sym same) ∙ slice_get-map string_bytes list n ∙ ap (option_map string_bytes) e) (h kind n)
  where
    at_some : (o : Option (List ℕ)) (x : List ℕ) → o ≡ Some x → IfSome o (λ name. number_of name (of_kind kind ns) ≡ Some n) → number_of x (of_kind kind ns) ≡ Some n
    at_some o x is k = subst (λ p. IfSome p (λ name. number_of name (of_kind kind ns) ≡ Some n)) is k
