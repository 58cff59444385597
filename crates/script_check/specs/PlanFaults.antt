-- The faults of references and of rules in a script whose shape and limits are right.
use Rattle.std.specs.Prelude.{ℕ, suc, ◌||◌, not, nat_lt, sum_by, if◌then◌else◌, List, [], ◌∷◌, ◌++◌, length, codes, Option, Some, None, slice_get}
use Rattle.loop_script.specs.Form.{Form, an, pair, task}
use Rattle.loop_script.specs.Tables.{index}
use Rattle.loop_script.specs.Parts.{actions_of_proc, keeps}
use Rattle.loop_script.specs.Rules.{is_plain}
use Rattle.loop_script.specs.declared.action.Action.{Action}
use Rattle.loop_script.specs.declared.action.Action.TheVariants.{Attach, Child, Destroy, SetReady, SetPriority, Iterate, Pending, Run, Quit, Cancel, Connect, Disconnect, Task, Push, Pop, ShowDefault, Acquire, Release, Invoke, Give, Log}
use Rattle.loop_script.specs.declared.source.Kind.{Kind}
use Rattle.loop_script.specs.declared.source.Kind.TheVariants as kinds
use Rattle.loop_script.specs.declared.source.SourceSpec.{SourceSpec}
use Rattle.loop_script.specs.declared.task.TaskSpec.{TaskSpec}
use Rattle.loop_script.specs.declared.level.Level.{Level}
use Rattle.loop_script.specs.declared.plan.LaneSpec.{LaneSpec}
use Rattle.loop_script.specs.declared.plan.Proc.{Proc}
use Rattle.loop_script.specs.declared.plan.Plan.{Plan}
use Rattle.script_check.specs.declared.fault.Cause.{Cause}
use Rattle.script_check.specs.declared.fault.Cause.TheVariants.{Missing, NotAbove, NotPlain, Stays, Unchecked}
use Rattle.script_check.specs.declared.counts.Counts.{Counts}
use Rattle.script_check.specs.declared.counts.Sort.{Sort}
use Rattle.script_check.specs.declared.counts.Sort.TheVariants as sorts
use Rattle.script_check.specs.Found.{Step, under, nth, Found}

-- how many of each a script has
abbrev pub counts_of : Plan → Counts
counts_of p = record {
  lanes = length p.lanes;
  contexts = sum_by (λ l. l.contexts) p.lanes;
  loops = length p.loops;
  cancellables = p.cancellables;
  procs = length p.procs;
  fds = length p.fds;
}

-- how many of a sort there are
abbrev pub count : Counts → Sort → ℕ
count n sorts.Lane = n.lanes
count n sorts.Context = n.contexts
count n sorts.Loop = n.loops
count n sorts.Cancellable = n.cancellables
count n sorts.Proc = n.procs
count n sorts.Descriptor = n.fds

-- a fault at a place
abbrev pub fault : List Step → Form → Cause → List Found
fault place f c = record { place = place; form = f; cause = c } ∷ []

-- ---- references
-- at a place stands a number of this sort, which is a fault where the script has not so many
abbrev pub missing : Counts → Sort → List Step → ℕ → List Found
missing n s place k = if nat_lt k (count n s) then [] else fault place index (Missing (count n s))

-- the same where the number may be absent
abbrev pub option_missing : Counts → Sort → List Step → Option ℕ → List Found
option_missing n s place None = []
option_missing n s place (Some k) = missing n s place k

abbrev pub kind_missing : Counts → List Step → Kind → List Found
kind_missing n place kinds.Idle = []
kind_missing n place (kinds.Timeout ms) = []
kind_missing n place (kinds.ReadyTime us) = []
kind_missing n place (kinds.Fd fd bits) = missing n sorts.Descriptor (place ++ nth 1 ∷ []) fd
kind_missing n place (kinds.Cancel c) = missing n sorts.Cancellable (place ++ nth 1 ∷ []) c

abbrev pub source_missing : Counts → List Step → SourceSpec → List Found
source_missing n place s = option_missing n sorts.Proc (place ++ under (codes "call") ∷ []) s.call ++ kind_missing n (place ++ under (codes "kind") ∷ []) s.kind

abbrev pub task_missing : Counts → List Step → TaskSpec → List Found
task_missing n place t = missing n sorts.Proc (place ++ under (codes "call") ∷ []) t.call ++ option_missing n sorts.Cancellable (place ++ under (codes "cancel") ∷ []) t.cancel

-- what the action at a place names that the script has not
abbrev pub action_missing : Counts → List Step → Action → List Found
action_missing n place (Attach context slot spec) = missing n sorts.Context (place ++ nth 1 ∷ []) context ++ source_missing n (place ++ nth 3 ∷ []) spec
action_missing n place (Child parent slot spec) = source_missing n (place ++ nth 3 ∷ []) spec
action_missing n place (Destroy slot) = []
action_missing n place (SetReady slot us) = []
action_missing n place (SetPriority slot priority) = []
action_missing n place (Iterate context) = missing n sorts.Context (place ++ nth 1 ∷ []) context
action_missing n place (Pending context) = missing n sorts.Context (place ++ nth 1 ∷ []) context
action_missing n place (Run loop) = missing n sorts.Loop (place ++ nth 1 ∷ []) loop
action_missing n place (Quit loop) = missing n sorts.Loop (place ++ nth 1 ∷ []) loop
action_missing n place (Cancel c) = missing n sorts.Cancellable (place ++ nth 1 ∷ []) c
action_missing n place (Connect c slot proc) = missing n sorts.Cancellable (place ++ nth 1 ∷ []) c ++ missing n sorts.Proc (place ++ nth 3 ∷ []) proc
action_missing n place (Disconnect slot) = []
action_missing n place (Task t) = task_missing n (place ++ nth 1 ∷ []) t
action_missing n place (Push context) = missing n sorts.Context (place ++ nth 1 ∷ []) context
action_missing n place (Pop context) = missing n sorts.Context (place ++ nth 1 ∷ []) context
action_missing n place ShowDefault = []
action_missing n place (Acquire context) = missing n sorts.Context (place ++ nth 1 ∷ []) context
action_missing n place (Release context) = missing n sorts.Context (place ++ nth 1 ∷ []) context
action_missing n place (Invoke context proc) = missing n sorts.Context (place ++ nth 1 ∷ []) context ++ missing n sorts.Proc (place ++ nth 2 ∷ []) proc
action_missing n place (Give context lane) = missing n sorts.Context (place ++ nth 1 ∷ []) context ++ missing n sorts.Lane (place ++ nth 2 ∷ []) lane
action_missing n place (Log k) = []

-- ---- rules
-- the first action, from the k-th on, that no handler may hold
abbrev pub first_not_plain : ℕ → List Action → Option ℕ
first_not_plain k [] = None
first_not_plain k (a ∷ rest) = if is_plain a then first_not_plain (suc k) rest else Some k

-- that a procedure is connected and holds an action that no handler may hold
abbrev pub connected : List Step → Option ℕ → List Found
connected place None = []
connected place (Some k) = fault place index (NotPlain k)

-- which rule the action at a place breaks
abbrev pub action_broken : List Proc → List Step → Action → List Found
action_broken procs place (Connect c slot proc) = connected (place ++ nth 3 ∷ []) (first_not_plain 0 (actions_of_proc (slice_get procs proc)))
action_broken procs place (Invoke context proc) = if keeps (slice_get procs proc) 1 then fault (place ++ nth 2 ∷ []) index Stays else []
action_broken procs place (Task t) = if t.check || not t.return_on_cancel then [] else fault (place ++ nth 1 ∷ []) (an task) Unchecked
action_broken procs place _ = []

-- the pairs, from the k-th on, whose tick is not above that of the pair before
abbrev pub not_above : List Step → ℕ → ℕ → List Level → List Found
not_above place before k [] = []
not_above place before k (l ∷ ls) = (if nat_lt before l.tick then [] else fault (place ++ nth k ∷ []) pair (NotAbove before)) ++ not_above place l.tick (suc k) ls

-- the pairs of a descriptor whose tick is not above that of the pair before
abbrev pub not_rising : List Step → List Level → List Found
not_rising place [] = []
not_rising place (l ∷ ls) = not_above place l.tick 1 ls

-- ---- the whole script
-- the faults of the actions of a list, from the k-th on
abbrev pub in_actions : Counts → List Proc → List Step → ℕ → List Action → List Found
in_actions n procs place k [] = []
in_actions n procs place k (a ∷ rest) = (action_missing n (place ++ nth k ∷ []) a ++ action_broken procs (place ++ nth k ∷ []) a) ++ in_actions n procs place (suc k) rest

-- the faults in the start lists of lanes, from the k-th on
abbrev pub in_lanes : Counts → List Proc → ℕ → List LaneSpec → List Found
in_lanes n procs k [] = []
in_lanes n procs k (l ∷ ls) = in_actions n procs (under (codes "lanes") ∷ nth k ∷ under (codes "start") ∷ []) 0 l.start ++ in_lanes n procs (suc k) ls

-- the faults in the lists of procedures, from the k-th on
abbrev pub in_procs : Counts → List Proc → ℕ → List Proc → List Found
in_procs n procs k [] = []
in_procs n procs k (q ∷ qs) = in_actions n procs (under (codes "procs") ∷ nth k ∷ under (codes "do") ∷ []) 0 q.actions ++ in_procs n procs (suc k) qs

-- the loops, from the k-th on, whose context the script has not
abbrev pub in_loops : Counts → ℕ → List ℕ → List Found
in_loops n k [] = []
in_loops n k (c ∷ cs) = missing n sorts.Context (under (codes "loops") ∷ nth k ∷ []) c ++ in_loops n (suc k) cs

-- the descriptors, from the k-th on, whose ticks do not rise
abbrev pub in_fds : ℕ → List (List Level) → List Found
in_fds k [] = []
in_fds k (f ∷ fs) = not_rising (under (codes "fds") ∷ nth k ∷ []) f ++ in_fds (suc k) fs

-- the faults of references and of rules in a script
unfoldable pub plan_faults : Plan → List Found
plan_faults p =
    in_lanes (counts_of p) p.procs 0 p.lanes
    ++ in_fds 0 p.fds
    ++ in_loops (counts_of p) 0 p.loops
    ++ in_procs (counts_of p) p.procs 0 p.procs
