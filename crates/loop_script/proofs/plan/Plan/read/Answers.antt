use Rattle.loop_script.specs.Plan.{plan}
use Rattle.loop_script.proofs.plan.Plan.read.Goals as goal

pub returns-clause-faults : goal.returns-clause-faults
unfolding plan
returns-clause-faults c = cc (c.only_keys.ensures, c.whole_number-version.ensures.faults, c.whole_number-ticks.ensures.faults, c.whole_number-tick_us.ensures.faults, c.in_ok-lanes.ensures.faults, c.optional_count-cancellables.ensures.faults, c.in_ok-fds.ensures.faults, c.in_ok-loops.ensures.faults, c.in_ok-procs.ensures.faults, c.field_of.ensures, c.field_of-2.ensures, c.field_of-3.ensures, c.field_of-4.ensures, c.field_of-5.ensures, c.field_of-6.ensures, c.field_of-7.ensures, c.field_of-8.ensures)
