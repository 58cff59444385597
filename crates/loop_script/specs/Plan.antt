-- The grammar of a script: each object with its keys, each list with its length, each number with its range.
use Rattle.std.specs.Prelude.{ℕ, List, [], ◌∷◌, codes, Option, Some, nat_le, sum_by, if◌then◌else◌}
use Rattle.serde_json.specs.Data.{Data}
use Rattle.loop_script.specs.Read.{Read, done, beyond, ◌>>=◌, optional, nullable}
use Rattle.loop_script.specs.Number.{whole, count_or, index}
use Rattle.loop_script.specs.Object.{only, field}
use Rattle.loop_script.specs.Rows.{rows, rows_or}
use Rattle.loop_script.specs.Level.{levels}
use Rattle.loop_script.specs.Action.{action}
use Rattle.loop_script.specs.declared.action.Action.{Action}
use Rattle.loop_script.specs.declared.plan.LaneSpec.{LaneSpec}
use Rattle.loop_script.specs.declared.plan.Proc.{Proc}
use Rattle.loop_script.specs.declared.plan.Plan.{Plan}
use Rattle.loop_script.specs.Bounds.{most_lanes, most_items, most_procs, most_ticks, longest_tick}

-- a list of actions
unfoldable pub actions : Option Data → Read (List Action)
actions d = rows 0 most_items action d

-- a lane
unfoldable pub lane : Option Data → Read LaneSpec
lane d = do
  _ ← only (codes "contexts" ∷ codes "start" ∷ []) d
  contexts ← whole 1 most_items (field (codes "contexts") d)
  start ← actions (field (codes "start") d)
  done (record { contexts = contexts; start = start })

-- lanes that have few enough contexts together
abbrev pub few_contexts : List LaneSpec → Read (List LaneSpec)
few_contexts lanes = if nat_le (sum_by (λ l. l.contexts) lanes) most_items then done lanes else beyond []

-- the lanes
unfoldable pub lanes : Option Data → Read (List LaneSpec)
lanes d = rows 1 most_lanes lane d >>= few_contexts

-- how many dispatches a source stays for, or null for always; nothing said is 0
unfoldable pub keep_or : Option Data → Read (Option ℕ)
keep_or d = optional (Some 0) (nullable (whole 0 4294967295)) d

-- a procedure
unfoldable pub procedure : Option Data → Read Proc
procedure d = do
  _ ← only (codes "do" ∷ codes "keep" ∷ []) d
  actions ← actions (field (codes "do") d)
  keep ← keep_or (field (codes "keep") d)
  done (record { actions = actions; keep = keep })

-- a script
unfoldable pub plan : Option Data → Read Plan
plan d = do
  _ ← only (codes "version" ∷ codes "ticks" ∷ codes "tick_us" ∷ codes "lanes" ∷ codes "cancellables" ∷ codes "fds" ∷ codes "loops" ∷ codes "procs" ∷ []) d
  version ← whole 1 2 (field (codes "version") d)
  ticks ← whole 1 most_ticks (field (codes "ticks") d)
  tick_us ← whole 1 longest_tick (field (codes "tick_us") d)
  lanes ← lanes (field (codes "lanes") d)
  cancellables ← count_or most_items (field (codes "cancellables") d)
  fds ← rows_or most_items levels (field (codes "fds") d)
  loops ← rows_or most_items index (field (codes "loops") d)
  procs ← rows_or most_procs procedure (field (codes "procs") d)
  done (record { version = version; ticks = ticks; tick_us = tick_us; lanes = lanes; cancellables = cancellables; fds = fds; loops = loops; procs = procs })
