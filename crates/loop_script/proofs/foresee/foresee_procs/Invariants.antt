use Rattle.std.proofs.Common.{◌≡◌}
use Rattle.loop_script.proofs.foresee.foresee_procs.Given as goal

abbrev pub invariant-loop-proc : goal.invariant-loop-proc
invariant-loop-proc l = l.proc-items ≡ l.initial.proc-items
