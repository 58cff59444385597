-- Ticks in which only some lanes take their turn.
use Rattle.std.specs.Prelude.{◌≡◌, zero, suc, ◌+◌, ◌<◌, ◌≤◌, Bool, false, List, length, map, filter, if◌then◌else◌}
use Rattle.std.specs.List.{AllByRecursion}
use Rattle.loop_script.specs.declared.plan.Plan.{Plan}
use Rattle.lane_turn.specs.Lane.{Lane}
use Rattle.lane_turn.specs.Turn.{turned}
use Rattle.lane_turn.specs.Deliver.{delivered}
use Rattle.lane_turn.specs.Quiet.{at_tick, IsQuiet}
use Rattle.lane_turn.specs.Tick.{posted_at, opened, lanes_at}
use Rattle.loop_script.specs.Units.{Tick}

-- a lane after its turn, or left as it was
abbrev pub turned_if : Plan → Tick → (Lane → Bool) → Lane → Lane
turned_if script tick due lane = if due lane then turned script tick lane else at_tick (tick + 1) lane

-- a tick in which those lanes that are due take their turns; letters are delivered to all
abbrev pub ticked_by : Plan → Tick → (Lane → Bool) → List Lane → List Lane
ticked_by script tick due lanes = delivered script tick (posted_at script tick (filter due lanes)) (map (turned_if script tick due) lanes)

-- the lanes at a tick of a run, where `due` says which of them take their turns at each
abbrev pub sparse_at : Plan → (Tick → Lane → Bool) → Tick → List Lane
sparse_at script due zero = opened script
sparse_at script due (suc k) = ticked_by script k (due k) (sparse_at script due k)

-- the turn of each lane that takes none would be quiet
abbrev pub LeavesQuiet : Plan → (Lane → Bool) → Tick → Type 0
LeavesQuiet script due tick = AllByRecursion (λ lane. due lane ≡ false → IsQuiet script tick lane) (lanes_at script tick)

-- where the turns that are left out would be quiet, the run is the one in which all lanes take theirs
abbrev pub SparseIsDense : Type 0
SparseIsDense = (script : Plan) (due : Tick → Lane → Bool) (tick : Tick) → length script.lanes ≤ 64 → tick ≤ 4096
    → ((k : Tick) → k < tick → LeavesQuiet script (due k) k) → sparse_at script due tick ≡ lanes_at script tick
