-- How the trace of a lane goes on.
use Rattle.std.specs.Prelude.{◌≡◌, ◌<◌, ◌≤◌, ◌++◌, Some, List, [], ◌∷◌}
use Rattle.std.specs.List.{AllByRecursion}
use Rattle.loop_script.specs.declared.plan.Plan.{Plan}
use Rattle.post_office.specs.declared.letter.Letter.{Letter}
use Rattle.lane_turn.specs.declared.line.Line.{Line}
use Rattle.lane_turn.specs.Lane.{Lane, Turn}
use Rattle.lane_turn.specs.Step.{step}
use Rattle.lane_turn.specs.Turn.{turned}
use Rattle.lane_turn.specs.Handover.{Handing, all_handed}
use Rattle.lane_turn.specs.Deliver.{received_all}
use Rattle.lane_turn.specs.Tick.{lanes_at}
use Rattle.loop_script.specs.Units.{Tick}

-- lines later on: those that stood there stand as they were, and each that was added behind them is so
pub record Grows (P : Line → Type 0) (before now : List Line) : Type 0 where
  pub more : List Line
  pub lines : now ≡ before ++ more
  pub each : AllByRecursion P more

-- a line of a tick
abbrev pub IsOf : Tick → Line → Type 0
IsOf tick line = line.tick ≡ tick

-- no line is of an earlier tick than one before it
abbrev pub NoTickFalls : List Line → Type 0
NoTickFalls [] = Unit {0}
NoTickFalls (line ∷ lines) = AllByRecursion (λ later. line.tick ≤ later.tick) lines × NoTickFalls lines

-- lines of ticks before this one
pub record IsBefore (tick : Tick) (lines : List Line) : Type 0 where
  pub past : AllByRecursion (λ line. line.tick < tick) lines
  pub rising : NoTickFalls lines

-- a trace only grows, by lines of the tick
pub record TracesGrow : Type 0 where
  -- a step, a turn, what goes over at the end of a tick, and a delivery leave the lines that there are, and add lines of their own tick alone
  pub steps : (script : Plan) (tick : Tick) (t u : Turn) → step script tick t ≡ Some u → Grows (IsOf tick) t.lane.trace u.lane.trace
  pub turns : (script : Plan) (tick : Tick) (lane : Lane) → Grows (IsOf tick) lane.trace (turned script tick lane).trace
  pub handovers : (tick : Tick) (hs : List Handing) (lane : Lane) → Grows (IsOf tick) lane.trace (all_handed tick hs lane).trace
  pub deliveries : (script : Plan) (tick : Tick) (letters : List Letter) (lane : Lane) → Grows (IsOf tick) lane.trace (received_all script tick letters lane).trace
  -- so what the lanes of a run have written when a tick begins is of the ticks before it, in their order
  pub run : (script : Plan) (tick : Tick) → AllByRecursion (λ lane. IsBefore tick lane.trace) (lanes_at script tick)
