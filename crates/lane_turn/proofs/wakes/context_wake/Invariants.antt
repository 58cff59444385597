use Rattle.std.proofs.Common.{◌≡◌, ℕ, ◌≤◌, length}
use Rattle.std.specs.List.{list_any}
use Rattle.task_steps.specs.Run.{IsAfter}
use Rattle.context_core.specs.Ready.{is_callable}
use Rattle.lane_turn.specs.Frames.{busy}
use Rattle.lane_turn.specs.Sources.{own_ready_at}
use Rattle.lane_turn.proofs.wakes.context_wake.Given as goal

abbrev pub invariant-loop-row : goal.invariant-loop-row
invariant-loop-row l = (k : ℕ) → l.from ≤ k → IsAfter k l.wake
    → list_any (is_callable (own_ready_at l.script k l.view) (busy l.number l.frames)) l.rows ≡ list_any (is_callable (own_ready_at l.script k l.view) (busy l.number l.frames)) l.initial.rows

abbrev pub decreases-loop-row : goal.decreases-loop-row
decreases-loop-row l = length l.rows
