use Rattle.std.proofs.Common.{◌≡◌, ◌-◌, ◌<◌, Some, arith, length, rules}
use Rattle.std.proofs.lemmas.Bool.Decides.{nat_tests}
use Rattle.std.specs.List.{slice_get}
use Rattle.by_id.proofs.Entries.{below_last}
use Rattle.by_id.proofs.entry.are_below.Goals as goal

pub returns-in-Some : goal.returns-in-Some
returns-in-Some g c less =
    let at : slice_get c.args.entries.now (length c.args.entries.now - 1) ≡ Some c.in-Some.last.now = search rules in
    let below : c.in-Some.last.now.id < c.args.id = grind (arith, nat_tests, less) in
    below_last c.args.id c.args.entries.now c.in-Some.last.now c.requires at below
