use Rattle.std.proofs.Common.{◌≡◌, drop}
use Rattle.task_steps.specs.BookInside.{is_heeded}
use Rattle.task_steps.proofs.heeded.is_heeded.Given as goal

abbrev pub invariant-loop-x : goal.invariant-loop-x
invariant-loop-x l = is_heeded l.c l.heeded ≡ is_heeded l.c (drop l.x-index l.heeded)
