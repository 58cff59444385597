use Rattle.std.proofs.Common.{◌≡◌, ℕ, drop}
use Rattle.std.specs.List.{list_any}
use Rattle.cancel_view.specs.Seen.{has}
use Rattle.task_steps.proofs.heeded.some_came.Given as goal

abbrev pub invariant-loop-c : goal.invariant-loop-c
invariant-loop-c l = list_any (λ (c : ℕ). has c l.view) l.heeded ≡ list_any (λ (c : ℕ). has c l.view) (drop l.c-index l.heeded)
