-- One more item or member is written, and what is blamed for one is blamed for all.
use Rattle.std.proofs.Common.{◌≡◌, ℕ, List, [], ◌∷◌, ◌++◌, Option, Some, None, option_map, option_and_then, refl, sym, ap, ◌∙◌, append_assoc}
use Rattle.json.specs.Json.{Json, Items, item, Members, member}
use Rattle.json.specs.Token.{Token, key, begin_array, begin_object}
use Rattle.json.specs.Tree.{json_tokens, items_tokens, members_tokens}
use Rattle.toml_names.specs.Writing.{Blames}
use Rattle.toml_names.specs.declared.fault.TomlFault.{TomlFault}
use Rattle.toml_names.specs.declared.fault.TomlFault.TheVariants.{NotToml, NoJson, TooDeep, OutOfMemory}

pub none_of_map : {A B : Type 0} (f : A → B) (o : Option A) → option_map f o ≡ None → o ≡ None
none_of_map f None h = refl
none_of_map f (Some x) h = absurd cc

pub begun_items : (old : List Token) (o : Option Items) → option_map (λ js. old ++ begin_array ∷ items_tokens js) o ≡ option_map (λ js. (old ++ begin_array ∷ []) ++ items_tokens js) o
begun_items old None = refl
begun_items old (Some js) = ap Some (sym (append_assoc old (begin_array ∷ []) (items_tokens js)))

pub begun_members : (old : List Token) (o : Option Members) → option_map (λ ms. old ++ begin_object ∷ members_tokens ms) o ≡ option_map (λ ms. (old ++ begin_object ∷ []) ++ members_tokens ms) o
begun_members old None = refl
begun_members old (Some ms) = ap Some (sym (append_assoc old (begin_object ∷ []) (members_tokens ms)))

pub add_item : (done new : List Token) (o : Option Json) (rest : Option Items) → option_map (λ j. done ++ json_tokens j) o ≡ Some new
    → option_map (λ js. done ++ items_tokens js) (option_and_then (λ j. option_map (item j) rest) o) ≡ option_map (λ js. new ++ items_tokens js) rest
add_item done new None rest h = absurd cc
add_item done new (Some j) None h = refl
add_item done new (Some j) (Some js) h = ap Some (sym (append_assoc done (json_tokens j) (items_tokens js))) ∙ ap (option_map (λ ts. ts ++ items_tokens js)) h

pub add_member : (done named new : List Token) (k : List ℕ) (o : Option Json) (rest : Option Members) → named ≡ done ++ key k ∷ [] → option_map (λ j. named ++ json_tokens j) o ≡ Some new
    → option_map (λ ms. done ++ members_tokens ms) (option_and_then (λ j. option_map (member k j) rest) o) ≡ option_map (λ ms. new ++ members_tokens ms) rest
add_member done named new k None rest e h = absurd cc
add_member done named new k (Some j) None e h = refl
add_member done named new k (Some j) (Some ms) e h =
    ap Some (sym (append_assoc done (key k ∷ []) (json_tokens j ++ members_tokens ms)) ∙ sym (append_assoc (done ++ key k ∷ []) (json_tokens j) (members_tokens ms)))
    ∙ ap (λ ts. Some ((ts ++ json_tokens j) ++ members_tokens ms)) (sym e)
    ∙ ap (option_map (λ ts. ts ++ members_tokens ms)) h

pub blames_more : (P Q : Type 0) (f : TomlFault) → (P → Q) → Blames P f → Blames Q f
blames_more P Q (NotToml e) more h = h
blames_more P Q (NoJson u p) more h = more h
blames_more P Q TooDeep more h = h
blames_more P Q OutOfMemory more h = h
