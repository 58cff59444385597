use Rattle.std.proofs.Common.{◌≡◌, ◌∷◌, ◌++◌, drop, option_map}
use Rattle.json.specs.Token.{begin_array, begin_object}
use Rattle.json.specs.Tree.{items_tokens, members_tokens}
use Rattle.toml.specs.View.{items_view, members_view}
use Rattle.toml_names.specs.Meaning.{list_of, members_of}
use Rattle.toml_names.proofs.value.+value.Given as goal

abbrev pub invariant-write_items-items : goal.invariant-write_items-items
invariant-write_items-items l =
    (l.writer.before ≡ l.fn.writer.before)
    × (option_map (λ js. l.fn.writer.tokens ++ begin_array ∷ items_tokens js) (list_of (items_view l.item-items))
    ≡ option_map (λ js. l.writer.tokens ++ items_tokens js) (list_of (items_view (drop l.index l.item-items))))

abbrev pub invariant-write_members-members : goal.invariant-write_members-members
invariant-write_members-members l =
    (l.writer.before ≡ l.fn.writer.before)
    × (option_map (λ ms. l.fn.writer.tokens ++ begin_object ∷ members_tokens ms) (members_of (members_view l.table.entries))
    ≡ option_map (λ ms. l.writer.tokens ++ members_tokens ms) (members_of (members_view l.key-iterator)))
