-- A run: all lanes take their turns at a tick, then its letters are delivered.
use Rattle.std.specs.Prelude.{ℕ, zero, suc, List, length, map}
use Rattle.std.specs.List.{flat_map, range_with_len}
use Rattle.loop_script.specs.declared.plan.Plan.{Plan}
use Rattle.post_office.specs.declared.letter.Letter.{Letter}
use Rattle.lane_turn.specs.Lane.{Lane}
use Rattle.lane_turn.specs.Turn.{opening, turned, out_of, finish, begun}
use Rattle.lane_turn.specs.Deliver.{delivered}
use Rattle.loop_script.specs.Units.{Tick}

-- the letters of a tick's turns: by sender where the lanes stand by number, those of one sender by their own
abbrev pub posted_at : Plan → Tick → List Lane → List Letter
posted_at script tick lanes = flat_map (out_of script tick) lanes

-- the lanes after a tick
abbrev pub ticked : Plan → Tick → List Lane → List Lane
ticked script tick lanes = delivered script tick (posted_at script tick lanes) (map (turned script tick) lanes)

-- the lanes of a script, by number, at first
abbrev pub opened : Plan → List Lane
opened script = map (opening script) (range_with_len 0 (length script.lanes))

-- the lanes when so many ticks are over
abbrev pub lanes_at : Plan → Tick → List Lane
lanes_at script zero = opened script
lanes_at script (suc k) = ticked script k (lanes_at script k)

-- a lane after some steps of its turn at a tick
abbrev pub lane_within : Plan → (tick : Tick) (steps : ℕ) → Lane → Lane
lane_within script tick steps lane = (finish script tick steps (begun tick lane)).lane
