-- What a lane that has ended or is halted still does, what contexts that go over do to a lane, and what a delivery does.
use Rattle.std.specs.Prelude.{◌≡◌, ◌≢◌, ◌⊎◌, suc, Some, None, List, [], ◌∷◌}
use Rattle.loop_script.specs.declared.plan.Plan.{Plan}
use Rattle.post_office.specs.declared.letter.Letter.{Letter}
use Rattle.lane_turn.specs.declared.line.Event.{Event}
use Rattle.lane_turn.specs.declared.line.Event.TheVariants as events
use Rattle.lane_turn.specs.declared.lane.Status.TheVariants.{GoesOn}
use Rattle.lane_turn.specs.Lane.{Lane, Turn}
use Rattle.lane_turn.specs.Step.{step}
use Rattle.lane_turn.specs.Turn.{turned}
use Rattle.lane_turn.specs.Handover.{Handing, all_handed}
use Rattle.lane_turn.specs.Deliver.{received_all}
use Rattle.lane_turn.specs.Tick.{lanes_at}
use Rattle.lane_turn.specs.Traces.{Grows}
use Rattle.loop_script.specs.Units.{Tick}

-- what a poll writes: that a task is late
abbrev pub IsLate : Event → Type 0
IsLate (events.TaskLate lane task) = Unit {0}
IsLate _ = ⊥

-- what a delivery writes: what arrives, what is cancelled, its handlers with their own lines
abbrev pub IsBrought : Event → Type 0
IsBrought (events.Arrive context id) = Unit {0}
IsBrought (events.Cancel c) = Unit {0}
IsBrought (events.Handler id) = Unit {0}
IsBrought (events.Log n) = Unit {0}
IsBrought (events.Miss word) = Unit {0}
IsBrought _ = ⊥

-- what is written where contexts go over: that one was taken over
abbrev pub IsHold : Event → Type 0
IsHold (events.Hold context) = Unit {0}
IsHold _ = ⊥

-- the lane polled its tasks, and did nothing else
pub record IsPolled (before now : Lane) : Type 0 where
  pub lines : Grows (λ line. IsLate line.event) before.trace now.trace
  pub rest : now ≡ record before { tasks = now.tasks; trace = now.trace }

-- contexts went from the lane or came to it, with the replies that their sources hold: it took no step, and is the same otherwise
pub record IsHanded (before now : Lane) : Type 0 where
  pub lines : Grows (λ line. IsHold line.event) before.trace now.trace
  pub rest : now ≡ record before { contexts = now.contexts; given = now.given; replies = now.replies; trace = now.trace }

-- letters came to the lane, which took no step: it goes on, has ended or is halted as before, in the middle of the same
pub record IsSent (before now : Lane) : Type 0 where
  pub lines : Grows (λ line. IsBrought line.event) before.trace now.trace
  pub status : now.status ≡ before.status
  pub frames : now.frames ≡ before.frames

-- what a lane that has ended or is halted may still write
abbrev pub IsAfterEnd : Event → Type 0
IsAfterEnd event = IsLate event ⊎ (IsHold event ⊎ IsBrought event)

-- a tick went by in which the lane took no step: it has ended or is halted as before, in the middle of the same
pub record IsOver (before now : Lane) : Type 0 where
  pub lines : Grows (λ line. IsAfterEnd line.event) before.trace now.trace
  pub status : now.status ≡ before.status
  pub frames : now.frames ≡ before.frames

-- each of some lanes, and the same one later on, are so
abbrev pub EachLater : (Lane → Lane → Type 0) → (lanes later : List Lane) → Type 0
EachLater R [] [] = Unit {0}
EachLater R [] (b ∷ later) = ⊥
EachLater R (a ∷ lanes) [] = ⊥
EachLater R (a ∷ lanes) (b ∷ later) = R a b × EachLater R lanes later

-- a lane that has ended or is halted takes no step
pub record EndedLanesRest : Type 0 where
  -- a lane that has ended or is halted takes no step once its tasks are polled, at any tick
  pub none : (script : Plan) (tick : Tick) (t : Turn) → t.lane.status ≢ GoesOn → t.unpolled ≡ [] → step script tick t ≡ None
  -- so each step of it is a poll, and each turn polls alone
  pub steps : (script : Plan) (tick : Tick) (t u : Turn) → t.lane.status ≢ GoesOn → step script tick t ≡ Some u → IsPolled t.lane u.lane
  pub turns : (script : Plan) (tick : Tick) (lane : Lane) → lane.status ≢ GoesOn → IsPolled lane (turned script tick lane)
  -- contexts that go over let no lane take a step, and none go on
  pub handovers : (tick : Tick) (hs : List Handing) (lane : Lane) → IsHanded lane (all_handed tick hs lane)
  -- nor does a delivery
  pub deliveries : (script : Plan) (tick : Tick) (letters : List Letter) (lane : Lane) → IsSent lane (received_all script tick letters lane)
  -- so in a run it stays as it is from tick to tick, but for its tasks, its contexts, and what it sees cancelled
  pub run : (script : Plan) (tick : Tick) → EachLater (λ lane later. lane.status ≢ GoesOn → IsOver lane later) (lanes_at script tick) (lanes_at script (suc tick))
