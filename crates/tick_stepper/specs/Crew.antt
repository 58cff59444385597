-- Workers, and which lanes are whose.
use Rattle.std.specs.Prelude.{ℕ, Bool, true, Option, Some, None, ◌==◌, ◌&&◌, ◌%◌, nat_lt, nat_le, length, slice_get, unwrap_or, if◌then◌else◌}
use Rattle.std.specs.List.{list_all}
use Rattle.loop_script.specs.declared.plan.Plan.{Plan}
use Rattle.tick_stepper.specs.declared.crew.Sharing.{Sharing}
use Rattle.tick_stepper.specs.declared.crew.Sharing.TheVariants.{Round, Fixed, Queue}
use Rattle.tick_stepper.specs.declared.crew.Crew.{Crew}
use Rattle.tick_stepper.specs.declared.fault.StepFault.{StepFault}
use Rattle.tick_stepper.specs.declared.fault.StepFault.TheVariants.{Workers, Table}
use Rattle.loop_script.specs.Units.{LaneNumber}

-- lanes go round the workers, or a table names the worker of each; a queue names none, and there this number means nothing
abbrev pub worker_by : Sharing → (workers : ℕ) (lane : LaneNumber) → ℕ
worker_by Round workers lane = lane % workers
worker_by (Fixed table) workers lane = unwrap_or (slice_get table.items lane) 0
worker_by Queue workers lane = 0

-- who takes a lane
abbrev pub worker_of : Crew → LaneNumber → ℕ
worker_of crew lane = worker_by crew.sharing crew.workers lane

-- a table has one of the workers for each lane, and no more; the other ways need none
abbrev pub names_workers : (lanes workers : ℕ) → Sharing → Bool
names_workers lanes workers Round = true
names_workers lanes workers Queue = true
names_workers lanes workers (Fixed table) = (length table.items == lanes) && list_all (λ worker. nat_lt worker workers) table.items

-- the most workers
abbrev pub most_workers : ℕ
most_workers = 64

-- why workers can't share the lanes of a script: they are none or more than the most, which is looked at first, or the table is not one for them
abbrev pub refusal_of : Plan → (workers : ℕ) → Sharing → Option StepFault
refusal_of script workers sharing =
    if nat_le 1 workers && nat_le workers most_workers
    then (if names_workers (length script.lanes) workers sharing then None else Some Table)
    else Some Workers
