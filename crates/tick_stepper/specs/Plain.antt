-- A script that says nothing.
use Rattle.std.specs.Prelude.{[]}
use Rattle.loop_script.specs.declared.plan.Plan.{Plan}

-- no ticks, and no lanes
abbrev pub no_plan : Plan
no_plan = record { version = 1; ticks = 0; tick_us = 0; lanes = []; cancellables = 0; fds = []; loops = []; procs = [] }
