use Rattle.std.proofs.Common.{◌≡◌, ◌==◌, true, length, ap, sym, ◌∙◌, rules}
use Rattle.std.specs.Option.{is_some}
use Rattle.context_core.specs.Standing.{is_in_call}
use Rattle.context_core.proofs.Wait.{none_blocked}
use Rattle.context_core.proofs.Unblocked.{some_in}
use Rattle.context_core.proofs.Found.{find_or}
use Rattle.context_core.proofs.ready.outermost_blocker.Goals as goal

pub returns-then-is_empty-clause-any : goal.returns-then-is_empty-clause-any
returns-then-is_empty-clause-any c =
    let zero : (length c.args.busy.now == 0) ≡ true = search rules in
    sym (none_blocked c.args.busy.now c.args.row.now zero)

pub returns-clause-some : goal.returns-clause-some
returns-clause-some c = some_in c.args.busy.now c.args.row.now.lineage c.first_listed.result c.first_listed.ensures

pub returns-clause-any : goal.returns-clause-any
returns-clause-any c = ap is_some c.first_listed.ensures ∙ find_or (is_in_call c.args.busy.now) c.args.row.now.lineage
