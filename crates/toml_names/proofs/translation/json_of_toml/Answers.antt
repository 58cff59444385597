use Rattle.std.proofs.Common.{◌≡◌, ◌≤◌, [], IsUtf8, ap, sym, subst, ◌∙◌, rules, arith}
use Rattle.json.specs.Lex.{tokens}
use Rattle.json.specs.Print.{print}
use Rattle.toml.specs.Data.{members_depth}
use Rattle.toml.specs.View.{table_view}
use Rattle.toml_names.specs.Meaning.{members_of}
use Rattle.toml_names.specs.Writing.{WritesMembers}
use Rattle.toml_names.proofs.Reading.{meaning_read}
use Rattle.toml_names.proofs.translation.json_of_toml.Goals as goal

pub returns-clause-ok : goal.returns-clause-ok
returns-clause-ok c =
    let t = table_view c.in-Ok.table in
    let ts = c.write_members.new.writer.tokens in
    let text : c.into_inner.result.items ≡ print ts = search (rules, c.into_inner.ensures.items, c.in_ok-write_members.ensures.before, c.new-writer.ensures.before, c.new.ensures.items) in
    let wrote : WritesMembers [] ts (members_of t) = search (rules, c.in_ok-write_members.ensures.ok, c.new-writer.ensures.tokens) in
    let shallow : members_depth t ≤ 127 = grind (arith, c.members_nest_within.ensures) in
    let read : tokens c.into_inner.result.items ≡ ts = ap tokens text ∙ c.into_inner.ensures.reads_back in
    let meant = meaning_read c.args.bytes.now c.into_inner.result.items t ts c.in-Ok.ensures.ok.1 wrote shallow read in
    (c.in-Ok.ensures.ok.0, subst IsUtf8 (sym text) c.into_inner.ensures.utf8, meant.0, meant.1)
