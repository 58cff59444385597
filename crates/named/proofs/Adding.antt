-- What is added one after the other.
use Rattle.std.proofs.Common.{◌≡◌, ◌∙◌, sym, ℕ, suc, ◌+◌, ◌<◌, List, [], ◌∷◌, ◌++◌, drop, slice_index_or, refl, ap, ◌||◌, ◌&&◌, not, nat_lt, length, if◌then◌else◌}
use Rattle.std.proofs.lemmas.List.{at_drop_more, length-append}
use Rattle.std.specs.Borrow.{Bor}
use Rattle.std.specs.List.{list_any}
use Rattle.std.specs.Str.{bytes_eq}
use Rattle.json.specs.Value.{value_view, members_view}
use Rattle.json.specs.declared.value.Value.{Value}
use Rattle.named.specs.Names.{added, all_added, keys_of, contexts_of, contexts_or, under}
use Rattle.named.specs.declared.word.Word.TheVariants as word
use Rattle.named.specs.Views.{texts}

pub added_behind : (limit : ℕ) (xs ys zs : List (List ℕ)) → all_added limit xs (ys ++ zs) ≡ all_added limit (all_added limit xs ys) zs
added_behind limit xs [] zs = refl
added_behind limit xs (y ∷ ys) zs = added_behind limit (added limit y xs) ys zs

pub any_text : (name : List ℕ) (xs : List (Bor (List ℕ))) → list_any (λ x. bytes_eq x name) (texts xs) ≡ list_any (λ x. bytes_eq x.now name) xs
any_text name [] = refl
any_text name (x ∷ xs) = ap (λ b. bytes_eq x.now name || b) (any_text name xs)

pub length_texts : (xs : List (Bor (List ℕ))) → length (texts xs) ≡ length xs
length_texts [] = refl
length_texts (x ∷ xs) = ap suc (length_texts xs)

pub text_behind : (xs : List (Bor (List ℕ))) (x : Bor (List ℕ)) → texts (xs ++ x ∷ []) ≡ texts xs ++ x.now ∷ []
text_behind [] x = refl
text_behind (y ∷ xs) x = ap (λ ys. y.now ∷ ys) (text_behind xs x)

pub added_texts : (limit : ℕ) (name : List ℕ) (xs : List (Bor (List ℕ)))
    → added limit name (texts xs) ≡ (if not (list_any (λ x. bytes_eq x.now name) xs) && nat_lt (length xs) limit then texts xs ++ name ∷ [] else texts xs)
added_texts limit name xs = rw (any_text name xs, length_texts xs) refl

-- what is left of a list begins with the item that stands there
pub at_next : {X Y : Type 0} (F : List X → Y) (xs : List X) (i : ℕ) (v : X) → v ≡ slice_index_or xs i v → i < length xs → F (drop i xs) ≡ F (v ∷ drop (i + 1) xs)
at_next F xs i v is lt = at_drop_more F xs i v lt ∙ ap (λ y. F (y ∷ drop (i + 1) xs)) (sym is)

-- names that were added before the rest
pub then_rest : (limit : ℕ) (names after here rest : List (List ℕ)) → after ≡ all_added limit names here → all_added limit after rest ≡ all_added limit names (here ++ rest)
then_rest limit names after here rest h = ap (λ ns. all_added limit ns rest) h ∙ sym (added_behind limit names here rest)

pub keys_length : {A : Type 0} (ms : List (Bor (List ℕ) × Value A)) → length (keys_of (members_view ms)) ≡ length ms
keys_length [] = refl
keys_length (m ∷ ms) = ap suc (keys_length ms)

-- the contexts of the threads that are left are those of the next and of those behind it
pub contexts_next : {A : Type 0} (ts : List (Bor (List ℕ) × Value A)) (i : ℕ) (t : Bor (List ℕ) × Value A) → t ≡ slice_index_or ts i t → i < length ts
    → length (contexts_of (members_view (drop i ts))) ≡ length (contexts_or t.0.now (under word.Contexts (value_view t.1))) + length (contexts_of (members_view (drop (i + 1) ts)))
contexts_next ts i t is lt =
    at_next (λ xs. length (contexts_of (members_view xs))) ts i t is lt
    ∙ length-append (contexts_or t.0.now (under word.Contexts (value_view t.1))) (contexts_of (members_view (drop (i + 1) ts)))
