use Rattle.std.proofs.Common.{◌≡◌, ℕ, ◌<◌, true, Option, Some, None}
use Rattle.loop_script.specs.End.{seen}
use Rattle.task_steps.specs.Run.{MaySet}
use Rattle.test_data.proofs.run_tests.polled_to_end.Given as goal

-- what was seen as cancelled is cancelled, and was set before
abbrev IsSeenBefore : Option ℕ → ℕ → Option ℕ → Type 0
IsSeenBefore cancel tick None = Unit {0}
IsSeenBefore cancel tick (Some from) = (seen cancel from ≡ true) × (from < tick)

abbrev pub invariant-loop-tick : goal.invariant-loop-tick
invariant-loop-tick g l = record {
  set : MaySet l.tick l.run.stage l.run.wake;
  seen : IsSeenBefore l.cancel l.tick l.run.cancelled;
}
