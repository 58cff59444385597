use Rattle.std.proofs.Common.{◌++◌, ◌-◌, List, Some, drop, subst, arith}
use Rattle.std.specs.Prelude.{slice_set}
use Rattle.source_rows.specs.declared.seats.Seat.{Seat}
use Rattle.source_rows.specs.Walk.{Begins, from_fork, over}
use Rattle.source_rows.proofs.Walking.{put_above, put_alone}
use Rattle.source_rows.proofs.walk.Path.push.Goals as goal
use Rattle.source_rows.proofs.walk.Path.push.Goals.{then-self-eq0, else-self-eq0}

pub returns-clause-begins : goal.returns-clause-begins
returns-clause-begins c =
    let x = Some c.args.fork in
    let above = c.self.inside.above in
    let new = c.if-self-eq0.top - 1 in
    subst (λ (old : List Seat). Begins (from_fork x ++ old) (over (drop new (slice_set above new x)))) c.self.view_is (elim c.if-self-eq0.branch [
      | then-self-eq0 w ↦ put_alone above c.self.inside.top new x (omega arith) (omega arith)
      | else-self-eq0 w ↦ put_above above c.self.inside.top new x (omega arith) (omega arith)
    ])
