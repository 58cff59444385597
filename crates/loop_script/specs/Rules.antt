-- What a script's parts must keep to beside one another.
use Rattle.std.specs.Prelude.{◌&&◌, ◌||◌, not, Bool, true, false, List, slice_get}
use Rattle.std.specs.List.{list_all}
use Rattle.loop_script.specs.Level.{rises}
use Rattle.loop_script.specs.Parts.{actions_of_proc, keeps}
use Rattle.loop_script.specs.declared.action.Action.{Action}
use Rattle.loop_script.specs.declared.action.Action.TheVariants.{Destroy, SetReady, Quit, Connect, Task, Invoke, Log}
use Rattle.loop_script.specs.declared.plan.Proc.{Proc}
use Rattle.loop_script.specs.declared.plan.Plan.{Plan}
use Rattle.loop_script.specs.Units.{ProcNumber}

-- what a handler may do
abbrev pub is_plain : Action → Bool
is_plain (Destroy slot) = true
is_plain (SetReady slot us) = true
is_plain (Quit loop) = true
is_plain (Log n) = true
is_plain _ = false

-- a procedure of plain actions alone
abbrev pub is_handler : List Proc → ProcNumber → Bool
is_handler procs proc = list_all is_plain (actions_of_proc (slice_get procs proc))

-- a procedure after whose first call a source goes; the number of none is one
abbrev pub goes_at_once : List Proc → ProcNumber → Bool
goes_at_once procs proc = not (keeps (slice_get procs proc) 1)

-- what is connected is a handler, what is invoked goes after its one call, and a task that returns on cancel checks its
-- cancellable
abbrev pub action_rules : List Proc → Action → Bool
action_rules procs (Connect c slot proc) = is_handler procs proc
action_rules procs (Invoke context proc) = goes_at_once procs proc
action_rules procs (Task t) = t.check || not t.return_on_cancel
action_rules procs _ = true

-- a script keeps each rule
abbrev pub plan_rules : Plan → Bool
plan_rules p =
    list_all rises p.fds
    && list_all (λ l. list_all (action_rules p.procs) l.start) p.lanes
    && list_all (λ q. list_all (action_rules p.procs) q.actions) p.procs
