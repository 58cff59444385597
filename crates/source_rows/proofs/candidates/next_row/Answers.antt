use Rattle.std.proofs.Common.{◌≡◌, ◌∙◌, sym, rules}
use Rattle.std.specs.List.{find}
use Rattle.std.specs.Option.{option_copied}
use Rattle.source_rows.specs.Rows.{in_order}
use Rattle.source_rows.specs.Steps.{wakes, nearer, parent_at}
use Rattle.source_rows.proofs.Steps.{next_step}
use Rattle.source_rows.proofs.candidates.next_row.Goals as goal

pub returns : goal.returns
returns c =
    let e : option_copied c.nearer.result ≡ nearer (find (wakes c.args.sight.now (option_copied c.args.last)) (in_order c.args.table.now)) (parent_at c.args.table.now (option_copied c.args.last)) = search rules in
    e ∙ sym (next_step c.args.table.now c.args.sight.now (option_copied c.args.last) c.requires)
