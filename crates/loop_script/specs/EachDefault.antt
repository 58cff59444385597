-- Two scripts without each key that may be absent, and what they say.
use Rattle.std.specs.Prelude.{◌≡◌, pos, true, false, List, [], ◌∷◌, codes, Some, None, Ok}
use Rattle.serde_json.specs.Data.{Data, Members, object, no_members, member}
use Rattle.loop_script.specs.EachWord.{row, n, word}
use Rattle.loop_script.specs.Script.{script_of}
use Rattle.loop_script.specs.declared.plan.Plan.{Plan}
use Rattle.loop_script.specs.declared.source.Kind.TheVariants as kinds
use Rattle.loop_script.specs.declared.action.Action.TheVariants.{Attach, Child, Task}
use Rattle.loop_script.specs.Tree.{fail}

-- {"contexts":1,"start":..}
abbrev lane : List Data → Data
lane start = object (member (codes "contexts") (n 1) (member (codes "start") (row start) no_members))

-- {..,"tick_us":1000,"ticks":2,"version":1}
abbrev timed : Members
timed = member (codes "tick_us") (n 1000) (member (codes "ticks") (n 2) (member (codes "version") (n 1) no_members))

-- {"kind":..}
abbrev of_kind : List Data → Data
of_kind kind = object (member (codes "kind") (row kind) no_members)

-- sources with a kind alone, in a script that has lanes alone
abbrev pub sources_alone : Data
sources_alone =
    let idle : Data = row (word (codes "attach") ∷ n 0 ∷ n 0 ∷ of_kind (word (codes "idle") ∷ []) ∷ []) in
    let timeout : Data = row (word (codes "attach") ∷ n 0 ∷ n 1 ∷ of_kind (word (codes "timeout") ∷ n 2 ∷ []) ∷ []) in
    let child : Data = row (word (codes "child") ∷ n 0 ∷ n 2 ∷ of_kind (word (codes "idle") ∷ []) ∷ []) in
    object (member (codes "lanes") (row (lane (idle ∷ timeout ∷ child ∷ []) ∷ [])) timed)

-- an idle source has another priority than the others; a child has its parent's, for which 0 stands
abbrev pub usual_sources : Plan
usual_sources = record {
  version = 1;
  ticks = 2;
  tick_us = 1000;
  lanes = (record {
    contexts = 1;
    start =
        Attach 0 0 (record { kind = kinds.Idle; priority = pos 200; recurse = false; call = None })
        ∷ Attach 0 1 (record { kind = kinds.Timeout 2; priority = pos 0; recurse = false; call = None })
        ∷ Child 0 2 (record { kind = kinds.Idle; priority = pos 0; recurse = false; call = None })
        ∷ [];
  }) ∷ [];
  cancellables = 0;
  fds = [];
  loops = [];
  procs = [];
}

-- {"call":0,"tree":["fail"]}, and a procedure for its reply, {"do":[]}
abbrev pub task_alone : Data
task_alone =
    let task : Data = object (member (codes "call") (n 0) (member (codes "tree") (row (word (codes "fail") ∷ [])) no_members)) in
    let procedure : Data = object (member (codes "do") (row []) no_members) in
    object (member (codes "lanes") (row (lane (row (word (codes "task") ∷ task ∷ []) ∷ []) ∷ [])) (member (codes "procs") (row (procedure ∷ [])) timed))

-- the task checks its cancellable, does not return on cancel, and has priority 0; a source that calls the procedure goes after one call
abbrev pub usual_task : Plan
usual_task = record {
  version = 1;
  ticks = 2;
  tick_us = 1000;
  lanes = (record {
    contexts = 1;
    start = Task (record { tree = fail; call = 0; cancel = None; check = true; return_on_cancel = false; priority = pos 0 }) ∷ [];
  }) ∷ [];
  cancellables = 0;
  fds = [];
  loops = [];
  procs = (record { actions = []; keep = Some 0 }) ∷ [];
}

-- the two scripts are read as those
pub record EachDefault : Type 0 where
  pub sources : script_of sources_alone ≡ Ok usual_sources
  pub task : script_of task_alone ≡ Ok usual_task
