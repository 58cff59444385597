-- Actions, each with its word and its parts.
use Rattle.std.specs.Prelude.{ℕ, List, [], ◌∷◌, codes, Option}
use Rattle.serde_json.specs.Data.{Data}
use Rattle.loop_script.specs.Read.{Read, done, misshapen, ◌>>=◌}
use Rattle.loop_script.specs.Number.{whole, index, slot, priority, ready_time}
use Rattle.loop_script.specs.Array.{part, arity, word}
use Rattle.loop_script.specs.Words.{choice}
use Rattle.loop_script.specs.Source.{source_spec, child_spec}
use Rattle.loop_script.specs.TaskForm.{task_spec}
use Rattle.loop_script.specs.declared.action.Action.{Action}
use Rattle.loop_script.specs.declared.action.Action.TheVariants.{Attach, Child, Destroy, SetReady, SetPriority, Iterate, Pending, Run, Quit, Cancel, Connect, Disconnect, Task, Push, Pop, ShowDefault, Acquire, Release, Invoke, Give, Log}

-- `["attach",ctx,slot,spec]`
unfoldable pub attach : Option Data → Read Action
attach d = do
  _ ← arity 4 d
  context ← index (part 1 d)
  slot ← slot (part 2 d)
  spec ← source_spec (part 3 d)
  done (Attach context slot spec)

-- `["child",parent slot,slot,spec]`
unfoldable pub child : Option Data → Read Action
child d = do
  _ ← arity 4 d
  parent ← slot (part 1 d)
  slot ← slot (part 2 d)
  spec ← child_spec (part 3 d)
  done (Child parent slot spec)

-- `["destroy",slot]`
unfoldable pub destroy : Option Data → Read Action
destroy d = do
  _ ← arity 2 d
  slot ← slot (part 1 d)
  done (Destroy slot)

-- `["set_ready",slot,us]`
unfoldable pub set_ready : Option Data → Read Action
set_ready d = do
  _ ← arity 3 d
  slot ← slot (part 1 d)
  us ← ready_time (part 2 d)
  done (SetReady slot us)

-- `["set_priority",slot,p]`
unfoldable pub set_priority : Option Data → Read Action
set_priority d = do
  _ ← arity 3 d
  slot ← slot (part 1 d)
  priority ← priority (part 2 d)
  done (SetPriority slot priority)

-- `["iterate",ctx]`
unfoldable pub iterate : Option Data → Read Action
iterate d = do
  _ ← arity 2 d
  context ← index (part 1 d)
  done (Iterate context)

-- `["pending",ctx]`
unfoldable pub pending : Option Data → Read Action
pending d = do
  _ ← arity 2 d
  context ← index (part 1 d)
  done (Pending context)

-- `["run",loop]`
unfoldable pub run : Option Data → Read Action
run d = do
  _ ← arity 2 d
  loop ← index (part 1 d)
  done (Run loop)

-- `["quit",loop]`
unfoldable pub quit : Option Data → Read Action
quit d = do
  _ ← arity 2 d
  loop ← index (part 1 d)
  done (Quit loop)

-- `["cancel",cancellable]`
unfoldable pub cancel : Option Data → Read Action
cancel d = do
  _ ← arity 2 d
  c ← index (part 1 d)
  done (Cancel c)

-- `["connect",cancellable,slot,proc]`
unfoldable pub connect : Option Data → Read Action
connect d = do
  _ ← arity 4 d
  c ← index (part 1 d)
  slot ← slot (part 2 d)
  proc ← index (part 3 d)
  done (Connect c slot proc)

-- `["disconnect",slot]`
unfoldable pub disconnect : Option Data → Read Action
disconnect d = do
  _ ← arity 2 d
  slot ← slot (part 1 d)
  done (Disconnect slot)

-- `["task",spec]`
unfoldable pub task : Option Data → Read Action
task d = do
  _ ← arity 2 d
  spec ← task_spec (part 1 d)
  done (Task spec)

-- `["push",ctx]`
unfoldable pub push : Option Data → Read Action
push d = do
  _ ← arity 2 d
  context ← index (part 1 d)
  done (Push context)

-- `["pop",ctx]`
unfoldable pub pop : Option Data → Read Action
pop d = do
  _ ← arity 2 d
  context ← index (part 1 d)
  done (Pop context)

-- `["show_default"]`
unfoldable pub show_default : Option Data → Read Action
show_default d = do
  _ ← arity 1 d
  done ShowDefault

-- `["acquire",ctx]`
unfoldable pub acquire : Option Data → Read Action
acquire d = do
  _ ← arity 2 d
  context ← index (part 1 d)
  done (Acquire context)

-- `["release",ctx]`
unfoldable pub release : Option Data → Read Action
release d = do
  _ ← arity 2 d
  context ← index (part 1 d)
  done (Release context)

-- `["invoke",ctx,proc]`
unfoldable pub invoke : Option Data → Read Action
invoke d = do
  _ ← arity 3 d
  context ← index (part 1 d)
  proc ← index (part 2 d)
  done (Invoke context proc)

-- `["give",ctx,lane]`
unfoldable pub give : Option Data → Read Action
give d = do
  _ ← arity 3 d
  context ← index (part 1 d)
  lane ← index (part 2 d)
  done (Give context lane)

-- `["log",n]`
unfoldable pub log : Option Data → Read Action
log d = do
  _ ← arity 2 d
  n ← whole 0 4294967295 (part 1 d)
  done (Log n)

-- the form of each word
abbrev pub forms : Option Data → List (List ℕ × Read Action)
forms d =
    (codes "attach", attach d)
    ∷ (codes "child", child d)
    ∷ (codes "destroy", destroy d)
    ∷ (codes "set_ready", set_ready d)
    ∷ (codes "set_priority", set_priority d)
    ∷ (codes "iterate", iterate d)
    ∷ (codes "pending", pending d)
    ∷ (codes "run", run d)
    ∷ (codes "quit", quit d)
    ∷ (codes "cancel", cancel d)
    ∷ (codes "connect", connect d)
    ∷ (codes "disconnect", disconnect d)
    ∷ (codes "task", task d)
    ∷ (codes "push", push d)
    ∷ (codes "pop", pop d)
    ∷ (codes "show_default", show_default d)
    ∷ (codes "acquire", acquire d)
    ∷ (codes "release", release d)
    ∷ (codes "invoke", invoke d)
    ∷ (codes "give", give d)
    ∷ (codes "log", log d)
    ∷ []

-- an action by its word
unfoldable pub action : Option Data → Read Action
action d = choice (word d) (forms d) (misshapen (Log 0))
