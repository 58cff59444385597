use Rattle.std.proofs.Common.{arith, ◌≡◌, [], ◌∷◌, ◌++◌, ap, ◌∙◌, option_map, string_bytes}
use Rattle.std.proofs.lemmas.Grind.{common_steps}
use Rattle.json.specs.Token.{key}
use Rattle.json.specs.Tree.{members_tokens}
use Rattle.toml.specs.View.{view, members_view}
use Rattle.toml_names.specs.Meaning.{json_of, members_of}
use Rattle.toml_names.proofs.Adding.{add_member}
use Rattle.toml_names.proofs.value.+value.Goals as goal

pub write_members-members-preserved : goal.write_members-members-preserved
write_members-members-preserved t c =
    let l = c.members in
    let name = string_bytes c.in-Some.key.now in
    let done = l.writer.tokens in
    let named : c.key.new.self.tokens ≡ done ++ key name ∷ [] = c.in_ok-key.ensures.ok ∙ ap (λ s. done ++ key s ∷ []) c.as_str-name.ensures.value in (
      c.in_ok-write_value.ensures.before ∙ c.in_ok-key.ensures.room.0 ∙ l.invariant.0,
      l.invariant.1
          ∙ ap (λ es. option_map (λ ms. done ++ members_tokens ms) (members_of (members_view es))) c.in-Some.ensures.steps
          ∙ add_member done c.key.new.self.tokens c.write_value.new.writer.tokens name (json_of (view c.in-Some.member.now)) (members_of (members_view c.next.new.self)) named c.in_ok-write_value.ensures.ok,
    )

pub write_items-items-preserved : goal.write_items-items-preserved
write_items-items-preserved t c = grind (arith, common_steps)
