-- Whether each number of a script names something of it.
use Rattle.std.specs.Prelude.{ℕ, ◌&&◌, nat_lt, true, Bool, length, sum_by, Option, Some, None}
use Rattle.std.specs.List.{list_all}
use Rattle.loop_script.specs.declared.action.Action.{Action}
use Rattle.loop_script.specs.declared.action.Action.TheVariants.{Attach, Child, Destroy, SetReady, SetPriority, Iterate, Pending, Run, Quit, Cancel, Connect, Disconnect, Task, Push, Pop, ShowDefault, Acquire, Release, Invoke, Give, Log}
use Rattle.loop_script.specs.declared.source.Kind.{Kind}
use Rattle.loop_script.specs.declared.source.Kind.TheVariants as kinds
use Rattle.loop_script.specs.declared.source.SourceSpec.{SourceSpec}
use Rattle.loop_script.specs.declared.task.TaskSpec.{TaskSpec}
use Rattle.loop_script.specs.declared.plan.Plan.{Plan}
use Rattle.loop_script.specs.declared.references.Sizes.{Sizes}

-- how many there are of what goes by a number
abbrev pub sizes : Plan → Sizes
sizes p = record {
  lanes = length p.lanes;
  contexts = sum_by (λ l. l.contexts) p.lanes;
  cancellables = p.cancellables;
  fds = length p.fds;
  loops = length p.loops;
  procs = length p.procs;
}

-- what a number names that may be absent is there
abbrev pub option_refers : ℕ → Option ℕ → Bool
option_refers n None = true
option_refers n (Some i) = nat_lt i n

-- what a kind names is there
abbrev pub kind_refers : Sizes → Kind → Bool
kind_refers n kinds.Idle = true
kind_refers n (kinds.Timeout ms) = true
kind_refers n (kinds.ReadyTime us) = true
kind_refers n (kinds.Fd fd bits) = nat_lt fd n.fds
kind_refers n (kinds.Cancel c) = nat_lt c n.cancellables

-- the same of a source
abbrev pub source_refers : Sizes → SourceSpec → Bool
source_refers n s = option_refers n.procs s.call && kind_refers n s.kind

-- the same of a task
abbrev pub task_refers : Sizes → TaskSpec → Bool
task_refers n t = nat_lt t.call n.procs && option_refers n.cancellables t.cancel

-- the same of an action
abbrev pub action_refers : Sizes → Action → Bool
action_refers n (Attach context slot spec) = nat_lt context n.contexts && source_refers n spec
action_refers n (Child parent slot spec) = source_refers n spec
action_refers n (Destroy slot) = true
action_refers n (SetReady slot us) = true
action_refers n (SetPriority slot priority) = true
action_refers n (Iterate context) = nat_lt context n.contexts
action_refers n (Pending context) = nat_lt context n.contexts
action_refers n (Run loop) = nat_lt loop n.loops
action_refers n (Quit loop) = nat_lt loop n.loops
action_refers n (Cancel c) = nat_lt c n.cancellables
action_refers n (Connect c slot proc) = nat_lt c n.cancellables && nat_lt proc n.procs
action_refers n (Disconnect slot) = true
action_refers n (Task t) = task_refers n t
action_refers n (Push context) = nat_lt context n.contexts
action_refers n (Pop context) = nat_lt context n.contexts
action_refers n ShowDefault = true
action_refers n (Acquire context) = nat_lt context n.contexts
action_refers n (Release context) = nat_lt context n.contexts
action_refers n (Invoke context proc) = nat_lt context n.contexts && nat_lt proc n.procs
action_refers n (Give context lane) = nat_lt context n.contexts && nat_lt lane n.lanes
action_refers n (Log k) = true

-- the same of all of a script
abbrev pub plan_refers : Plan → Bool
plan_refers p =
    list_all (λ l. list_all (action_refers (sizes p)) l.start) p.lanes
    && list_all (λ q. list_all (action_refers (sizes p)) q.actions) p.procs
    && list_all (λ c. nat_lt c (sizes p).contexts) p.loops
