use Rattle.std.proofs.Common.{refl, length, rules}
use Rattle.std.proofs.lemmas.Option.{slice_get_read}
use Rattle.run_names.proofs.Apart.{number_at}
use Rattle.run_names.proofs.table.Table.name.Goals as goal

pub returns-clause-number : goal.returns-clause-number
returns-clause-number c =
    let there = slice_get_read c.of_kind.result.now (length c.of_kind.result.now) c.args.number c.in_ok-name.name.now refl (search rules) c.in_ok-name.ensures.lookup.1 in
    rw c.as_str.ensures.value (number_at c.args.self.now c.args.kind c.of_kind.result.now c.args.number c.in_ok-name.name.now c.of_kind.ensures.numbers c.of_kind.ensures.texts there)
