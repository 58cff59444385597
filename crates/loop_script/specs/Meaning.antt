-- What a value means that has its form: the script that it denotes, part by part.
use Rattle.std.specs.Prelude.{◌≡◌, ℕ, ℤ, pos, Bool, true, false, List, [], ◌∷◌, codes, Option, Some, None, option_and_then}
use Rattle.serde_json.specs.Data.{Data, null, boolean, number, array, unsigned, Items, no_items, item}
use Rattle.serde_json.specs.Find.{get, at}
use Rattle.loop_script.specs.Place.{front, size}
use Rattle.loop_script.specs.Misfit.{integer_of}
use Rattle.loop_script.specs.Tree.{Tree, value, fail, sleep, check, seq, both, first, within}
use Rattle.loop_script.specs.declared.source.Kind.{Kind}
use Rattle.loop_script.specs.declared.source.Kind.TheVariants as kinds
use Rattle.loop_script.specs.declared.source.SourceSpec.{SourceSpec}
use Rattle.loop_script.specs.declared.task.TaskSpec.{TaskSpec}
use Rattle.loop_script.specs.declared.action.Action.{Action}
use Rattle.loop_script.specs.declared.action.Action.TheVariants.{Attach, Child, Destroy, SetReady, SetPriority, Iterate, Pending, Run, Quit, Cancel, Connect, Disconnect, Task, Push, Pop, ShowDefault, Acquire, Release, Invoke, Give, Log}
use Rattle.loop_script.specs.declared.level.Level.{Level}
use Rattle.loop_script.specs.declared.plan.LaneSpec.{LaneSpec}
use Rattle.loop_script.specs.declared.plan.Proc.{Proc}
use Rattle.loop_script.specs.declared.plan.Plan.{Plan}

-- what stands under a key
abbrev pub under : List ℕ → Option Data → Option Data
under k o = option_and_then (get k) o

-- what stands at a place of a list
abbrev pub nth : ℕ → Option Data → Option Data
nth n o = option_and_then (at n) o

-- a whole number from 0 on
abbrev pub IsWhole : Option Data → ℕ → Type 0
IsWhole o n = o ≡ Some (number (unsigned n))

-- a whole number, which may be below 0
abbrev pub IsInteger : Option Data → ℤ → Type 0
IsInteger o z = option_and_then integer_of o ≡ Some z

-- true or false
abbrev pub IsTruth : Option Data → Bool → Type 0
IsTruth o b = o ≡ Some (boolean b)

-- what is absent is x
abbrev pub Or : {A : Type 0} → A → (Option Data → A → Type 0) → Option Data → A → Type 0
Or x Is None a = a ≡ x
Or x Is (Some d) a = Is (Some d) a

-- null is none
abbrev pub OrNull : {A : Type 0} → (Option Data → A → Type 0) → Option Data → Option A → Type 0
OrNull Is o None = o ≡ Some null
OrNull Is o (Some a) = Is o a

-- item for item
abbrev pub EachIs : {A : Type 0} → (Option Data → A → Type 0) → Items → List A → Type 0
EachIs Is no_items [] = Unit {0}
EachIs Is no_items (x ∷ xs) = ⊥
EachIs Is (item d ds) [] = ⊥
EachIs Is (item d ds) (x ∷ xs) = Is (Some d) x × EachIs Is ds xs

-- a list, item for item
abbrev pub IsList : {A : Type 0} → (Option Data → A → Type 0) → Option Data → List A → Type 0
IsList Is o xs = (ds : Items) × (o ≡ Some (array ds)) × EachIs Is ds xs

-- a list of n parts
abbrev pub HasSize : ℕ → Option Data → Type 0
HasSize n o = option_and_then size o ≡ Some n

-- a list of n parts that begins with a word
abbrev pub Begins : List ℕ → ℕ → Option Data → Type 0
Begins w n o = (option_and_then front o ≡ Some w) × HasSize n o

-- a kind of source, by its word
abbrev pub IsKind : Option Data → Kind → Type 0
IsKind o kinds.Idle = Begins (codes "idle") 1 o
IsKind o (kinds.Timeout ms) = Begins (codes "timeout") 2 o × IsWhole (nth 1 o) ms
IsKind o (kinds.ReadyTime us) = Begins (codes "ready") 2 o × IsInteger (nth 1 o) us
IsKind o (kinds.Fd fd bits) = Begins (codes "fd") 3 o × IsWhole (nth 1 o) fd × IsWhole (nth 2 o) bits
IsKind o (kinds.Cancel c) = Begins (codes "cancel") 2 o × IsWhole (nth 1 o) c

-- the priority of a source where none is given
abbrev pub usual : Kind → ℤ
usual kinds.Idle = pos 200
usual (kinds.Timeout ms) = pos 0
usual (kinds.ReadyTime us) = pos 0
usual (kinds.Fd fd bits) = pos 0
usual (kinds.Cancel c) = pos 0

-- a source that is attached
pub record IsSource (o : Option Data) (s : SourceSpec) : Type 0 where
  pub kind : IsKind (under (codes "kind") o) s.kind
  pub priority : Or (usual s.kind) IsInteger (under (codes "priority") o) s.priority
  pub recurse : Or false IsTruth (under (codes "recurse") o) s.recurse
  pub call : Or None (OrNull IsWhole) (under (codes "call") o) s.call

-- a child has the priority of its parent; 0 stands for it
pub record IsChild (o : Option Data) (s : SourceSpec) : Type 0 where
  pub kind : IsKind (under (codes "kind") o) s.kind
  pub priority : s.priority ≡ pos 0
  pub recurse : Or false IsTruth (under (codes "recurse") o) s.recurse
  pub call : Or None (OrNull IsWhole) (under (codes "call") o) s.call

-- a task's tree, by its word
abbrev pub IsTree : Option Data → Tree → Type 0
IsTree o (value v) = Begins (codes "value") 2 o × IsInteger (nth 1 o) v
IsTree o fail = Begins (codes "fail") 1 o
IsTree o (sleep us) = Begins (codes "sleep") 2 o × IsWhole (nth 1 o) us
IsTree o check = Begins (codes "check") 1 o
IsTree o (seq a b) = Begins (codes "seq") 3 o × IsTree (nth 1 o) a × IsTree (nth 2 o) b
IsTree o (both a b) = Begins (codes "both") 3 o × IsTree (nth 1 o) a × IsTree (nth 2 o) b
IsTree o (first a b) = Begins (codes "first") 3 o × IsTree (nth 1 o) a × IsTree (nth 2 o) b
IsTree o (within us a) = Begins (codes "within") 3 o × IsWhole (nth 1 o) us × IsTree (nth 2 o) a

-- a task
pub record IsTask (o : Option Data) (t : TaskSpec) : Type 0 where
  pub tree : IsTree (under (codes "tree") o) t.tree
  pub call : IsWhole (under (codes "call") o) t.call
  pub cancel : Or None (OrNull IsWhole) (under (codes "cancel") o) t.cancel
  pub check : Or true IsTruth (under (codes "check") o) t.check
  pub return_on_cancel : Or false IsTruth (under (codes "return_on_cancel") o) t.return_on_cancel
  pub priority : Or (pos 0) IsInteger (under (codes "priority") o) t.priority

-- an action, by its word
abbrev pub IsAction : Option Data → Action → Type 0
IsAction o (Attach context slot spec) = Begins (codes "attach") 4 o × IsWhole (nth 1 o) context × IsWhole (nth 2 o) slot × IsSource (nth 3 o) spec
IsAction o (Child parent slot spec) = Begins (codes "child") 4 o × IsWhole (nth 1 o) parent × IsWhole (nth 2 o) slot × IsChild (nth 3 o) spec
IsAction o (Destroy slot) = Begins (codes "destroy") 2 o × IsWhole (nth 1 o) slot
IsAction o (SetReady slot us) = Begins (codes "set_ready") 3 o × IsWhole (nth 1 o) slot × IsInteger (nth 2 o) us
IsAction o (SetPriority slot priority) = Begins (codes "set_priority") 3 o × IsWhole (nth 1 o) slot × IsInteger (nth 2 o) priority
IsAction o (Iterate context) = Begins (codes "iterate") 2 o × IsWhole (nth 1 o) context
IsAction o (Pending context) = Begins (codes "pending") 2 o × IsWhole (nth 1 o) context
IsAction o (Run loop) = Begins (codes "run") 2 o × IsWhole (nth 1 o) loop
IsAction o (Quit loop) = Begins (codes "quit") 2 o × IsWhole (nth 1 o) loop
IsAction o (Cancel c) = Begins (codes "cancel") 2 o × IsWhole (nth 1 o) c
IsAction o (Connect c slot proc) = Begins (codes "connect") 4 o × IsWhole (nth 1 o) c × IsWhole (nth 2 o) slot × IsWhole (nth 3 o) proc
IsAction o (Disconnect slot) = Begins (codes "disconnect") 2 o × IsWhole (nth 1 o) slot
IsAction o (Task spec) = Begins (codes "task") 2 o × IsTask (nth 1 o) spec
IsAction o (Push context) = Begins (codes "push") 2 o × IsWhole (nth 1 o) context
IsAction o (Pop context) = Begins (codes "pop") 2 o × IsWhole (nth 1 o) context
IsAction o ShowDefault = Begins (codes "show_default") 1 o
IsAction o (Acquire context) = Begins (codes "acquire") 2 o × IsWhole (nth 1 o) context
IsAction o (Release context) = Begins (codes "release") 2 o × IsWhole (nth 1 o) context
IsAction o (Invoke context proc) = Begins (codes "invoke") 3 o × IsWhole (nth 1 o) context × IsWhole (nth 2 o) proc
IsAction o (Give context lane) = Begins (codes "give") 3 o × IsWhole (nth 1 o) context × IsWhole (nth 2 o) lane
IsAction o (Log n) = Begins (codes "log") 2 o × IsWhole (nth 1 o) n

-- `[tick,bits]`
pub record IsLevel (o : Option Data) (l : Level) : Type 0 where
  pub parts : HasSize 2 o
  pub tick : IsWhole (nth 0 o) l.tick
  pub bits : IsWhole (nth 1 o) l.bits

-- a procedure
pub record IsProc (o : Option Data) (p : Proc) : Type 0 where
  pub actions : IsList IsAction (under (codes "do") o) p.actions
  pub keep : Or (Some 0) (OrNull IsWhole) (under (codes "keep") o) p.keep

-- a lane
pub record IsLane (o : Option Data) (l : LaneSpec) : Type 0 where
  pub contexts : IsWhole (under (codes "contexts") o) l.contexts
  pub start : IsList IsAction (under (codes "start") o) l.start

-- the value denotes the script
pub record Denotes (o : Option Data) (p : Plan) : Type 0 where
  pub version : IsWhole (under (codes "version") o) p.version
  pub ticks : IsWhole (under (codes "ticks") o) p.ticks
  pub tick_us : IsWhole (under (codes "tick_us") o) p.tick_us
  pub lanes : IsList IsLane (under (codes "lanes") o) p.lanes
  pub cancellables : Or 0 IsWhole (under (codes "cancellables") o) p.cancellables
  pub fds : Or [] (IsList (IsList IsLevel)) (under (codes "fds") o) p.fds
  pub loops : Or [] (IsList IsWhole) (under (codes "loops") o) p.loops
  pub procs : Or [] (IsList IsProc) (under (codes "procs") o) p.procs
