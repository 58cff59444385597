-- Tasks as objects.
use Rattle.std.specs.Prelude.{pos, true, false, [], ◌∷◌, codes, Option, if◌then◌else◌}
use Rattle.serde_json.specs.Data.{Data}
use Rattle.loop_script.specs.Read.{Read, done, beyond, ◌>>=◌, optional}
use Rattle.loop_script.specs.Number.{priority, index, index_or_null, flag_or}
use Rattle.loop_script.specs.Object.{only, field}
use Rattle.loop_script.specs.Tree.{Tree, fail}
use Rattle.loop_script.specs.TreeDepth.{fits_in}
use Rattle.loop_script.specs.TreeForm.{tree}
use Rattle.loop_script.specs.declared.task.TaskSpec.{TaskSpec}
use Rattle.loop_script.specs.Units.{Priority}

-- a tree within its depth
abbrev pub limited : Tree → Read Tree
limited t = if fits_in 16 t then done t else beyond fail

-- a tree of depth 1 to 16
unfoldable pub shallow_tree : Option Data → Read Tree
shallow_tree d = tree d >>= limited

-- a priority, where nothing is said 0
unfoldable pub priority_or_zero : Option Data → Read Priority
priority_or_zero d = optional (pos 0) priority d

-- a task
unfoldable pub task_spec : Option Data → Read TaskSpec
task_spec d = do
  _ ← only (codes "tree" ∷ codes "call" ∷ codes "cancel" ∷ codes "check" ∷ codes "return_on_cancel" ∷ codes "priority" ∷ []) d
  tree ← shallow_tree (field (codes "tree") d)
  call ← index (field (codes "call") d)
  cancel ← index_or_null (field (codes "cancel") d)
  check ← flag_or true (field (codes "check") d)
  return_on_cancel ← flag_or false (field (codes "return_on_cancel") d)
  priority ← priority_or_zero (field (codes "priority") d)
  done (record { tree = tree; call = call; cancel = cancel; check = check; return_on_cancel = return_on_cancel; priority = priority })
