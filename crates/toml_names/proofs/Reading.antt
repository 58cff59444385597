-- What is written is read as the value that stands for the table: no JSON value nests deeper than that for which it stands.
use Rattle.std.proofs.Common.{◌≡◌, ℕ, suc, max, ◌≤◌, List, [], ◌∷◌, Option, Some, None, IsSome, option_map, option_and_then, refl, sym, ap, ◌∙◌, append-nil, arith}
use Rattle.json.specs.Json as json
use Rattle.json.specs.Json.{Json, if_last, value, max_depth, document}
use Rattle.json.specs.Lex.{tokens}
use Rattle.json.specs.Token.{Token, begin_object}
use Rattle.json.specs.Tree.{json_tokens, members_tokens, depth, items_depth, members_depth}
use Rattle.json.proofs.Printed.Trees.{value-json_tokens}
use Rattle.toml.specs.Data as toml
use Rattle.toml.specs.Parse.{parse_document}
use Rattle.toml_names.specs.Meaning.{json_of, list_of, members_of, meaning}
use Rattle.toml_names.specs.Writing.{WritesMembers}

-- what an option has is so deep
abbrev IsDeep : {A : Type 0} → (A → ℕ) → ℕ → Option A → Type 0
IsDeep f n o = option_map f o ≡ option_map (λ _. n) o

deep_array : (o : Option json.Items) (n : ℕ) → IsDeep items_depth n o → IsDeep depth (suc n) (option_map json.array o)
deep_array None n h = refl
deep_array (Some js) n h = ap (option_map suc) h

deep_object : (o : Option json.Members) (n : ℕ) → IsDeep members_depth n o → IsDeep depth (suc n) (option_map json.object o)
deep_object None n h = refl
deep_object (Some ms) n h = ap (option_map suc) h

deep_item : (o : Option Json) (rest : Option json.Items) (n m : ℕ) → IsDeep depth n o → IsDeep items_depth m rest → IsDeep items_depth (max n m) (option_and_then (λ j. option_map (json.item j) rest) o)
deep_item None rest n m h k = refl
deep_item (Some j) None n m h k = refl
deep_item (Some j) (Some js) n m h k = cc

deep_member : (name : List ℕ) (o : Option Json) (rest : Option json.Members) (n m : ℕ) → IsDeep depth n o → IsDeep members_depth m rest → IsDeep members_depth (max n m) (option_and_then (λ j. option_map (json.member name j) rest) o)
deep_member name None rest n m h k = refl
deep_member name (Some j) None n m h k = refl
deep_member name (Some j) (Some ms) n m h k = cc

mutual
  deep : (d : toml.Data) → IsDeep depth (toml.depth d) (json_of d)
  deep (toml.string s) = refl
  deep (toml.integer z) = refl
  deep (toml.float x) = refl
  deep (toml.boolean b) = refl
  deep (toml.datetime t) = refl
  deep (toml.array ds) = deep_array (list_of ds) (toml.items_depth ds) (deep_items ds)
  deep (toml.table ms) = deep_object (members_of ms) (toml.members_depth ms) (deep_members ms)

  deep_items : (ds : toml.Items) → IsDeep items_depth (toml.items_depth ds) (list_of ds)
  deep_items toml.no_items = refl
  deep_items (toml.item d ds) = deep_item (json_of d) (list_of ds) (toml.depth d) (toml.items_depth ds) (deep d) (deep_items ds)

  deep_members : (ms : toml.Members) → IsDeep members_depth (toml.members_depth ms) (members_of ms)
  deep_members toml.no_members = refl
  deep_members (toml.member k d ms) = deep_member k (json_of d) (members_of ms) (toml.depth d) (toml.members_depth ms) (deep d) (deep_members ms)

document_read : (text : List ℕ) (j : Json) → tokens text ≡ json_tokens j → depth j ≤ max_depth → document text ≡ Some j
document_read text j read shallow =
    ap (option_and_then (λ p. if_last p.0 p.1)) (ap (value max_depth) (read ∙ sym (append-nil (json_tokens j))) ∙ value-json_tokens j max_depth [] shallow)

object_read : (text : List ℕ) (o : Option json.Members) (ts : List Token) (n : ℕ) → WritesMembers [] ts o → IsDeep members_depth n o → n ≤ 127 → tokens text ≡ ts
    → IsSome (option_map json.object o) × (document text ≡ option_map json.object o)
object_read text None ts n wrote same shallow read = absurd cc
object_read text (Some ms) ts n wrote same shallow read =
    let all : begin_object ∷ members_tokens ms ≡ ts = cc in
    let inner : members_depth ms ≡ n = cc in
    (refl, document_read text (json.object ms) (read ∙ sym all) (omega arith))

pub meaning_read : (bytes text : List ℕ) (t : toml.Members) (ts : List Token) → parse_document bytes ≡ Some t → WritesMembers [] ts (members_of t) → toml.members_depth t ≤ 127 → tokens text ≡ ts
    → IsSome (meaning bytes) × (document text ≡ meaning bytes)
meaning_read bytes text t ts parsed wrote shallow read = rw parsed (object_read text (members_of t) ts (toml.members_depth t) wrote (deep_members t) shallow read)
