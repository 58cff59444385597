-- Who holds which context, and what goes over with it.
use Rattle.std.specs.Prelude.{◌≡◌, ◌≢◌, ◌++◌, zero, suc, ◌<◌, ◌==◌, Bool, true, false, Some, List, [], ◌∷◌, map, length, if◌then◌else◌}
use Rattle.std.specs.List.{AllByRecursion, range_with_len}
use Rattle.loop_script.specs.declared.plan.Plan.{Plan}
use Rattle.loop_script.specs.Gives.{GivesNone}
use Rattle.loop_script.specs.Parts.{home_of}
use Rattle.loop_script.specs.References.{sizes}
use Rattle.context_core.specs.declared.context.Context.{Context}
use Rattle.post_office.specs.declared.letter.Letter.{Letter}
use Rattle.post_office.specs.declared.letter.Body.{Body as Mail}
use Rattle.post_office.specs.declared.letter.Body.TheVariants as mails
use Rattle.lane_turn.specs.declared.line.Line.{Line}
use Rattle.lane_turn.specs.declared.line.Event.{Event}
use Rattle.lane_turn.specs.declared.line.Event.TheVariants as events
use Rattle.lane_turn.specs.Replies.{replies_at}
use Rattle.lane_turn.specs.Lane.{Lane, Turn, Kept, context_at, is_given, is_own}
use Rattle.lane_turn.specs.Turn.{turned}
use Rattle.lane_turn.specs.Handover.{handed_of, without_context, taken_over, handed_over}
use Rattle.lane_turn.specs.Deliver.{received_all}
use Rattle.lane_turn.specs.Tick.{posted_at, opened, lanes_at}
use Rattle.lane_turn.specs.Blocked.{OfEachStep}
use Rattle.lane_turn.specs.Arrivals.{arrivals, ids_for}
use Rattle.loop_script.specs.Units.{Tick, LaneNumber, ContextNumber}

-- ---- which lane has a context

-- whether a letter gives a context
abbrev pub gives_context : ContextNumber → Mail → Bool
gives_context context (mails.Give c to) = c == context
gives_context context (mails.Attach c spec) = false
gives_context context (mails.Complete reply) = false
gives_context context (mails.Cancelled c) = false

-- the lane that has a context after a letter
abbrev pub given_by : ContextNumber → Mail → LaneNumber → LaneNumber
given_by context (mails.Give c to) holder = if c == context then to else holder
given_by context (mails.Attach c spec) holder = holder
given_by context (mails.Complete reply) holder = holder
given_by context (mails.Cancelled c) holder = holder

-- the same after several
abbrev pub given_to : ContextNumber → List Letter → LaneNumber → LaneNumber
given_to context [] holder = holder
given_to context (letter ∷ letters) holder = given_to context letters (given_by context letter.body holder)

-- the lane that has a context when so many ticks are over: at first the one to which the script gives it, then the one to which it was given last
abbrev pub holder_at : Plan → ContextNumber → Tick → LaneNumber
holder_at script context zero = home_of script context
holder_at script context (suc k) = given_to context (posted_at script k (lanes_at script k)) (holder_at script context k)

-- what a lane writes at a tick: where a source is dispatched, that the lane had its context when the tick began
abbrev pub TellsHolder : Plan → LaneNumber → Tick → Event → Type 0
TellsHolder script lane tick (events.Dispatch context id priority depth) = holder_at script context tick ≡ lane
TellsHolder script lane tick _ = Unit {0}

-- the same of a line
abbrev pub IsOfHolder : Plan → LaneNumber → Line → Type 0
IsOfHolder script lane line = TellsHolder script lane line.tick line.event

-- each context is one lane's
pub record ContextsAreHeld : Type 0 where
  -- at the beginning of each tick a context is the lane's to which it was given last, and no other's
  pub held : (script : Plan) (tick : Tick) (context : ContextNumber) → context < (sizes script).contexts
      → map (is_own context) (lanes_at script tick) ≡ map (λ n. n == holder_at script context tick) (range_with_len 0 (length script.lanes))
  -- that is a lane of the script
  pub lane : (script : Plan) (tick : Tick) (context : ContextNumber) → context < (sizes script).contexts → holder_at script context tick < length script.lanes
  -- where no list gives a context that is the lane to which the script gives it, at each tick
  pub home : (script : Plan) (tick : Tick) (context : ContextNumber) → GivesNone script → holder_at script context tick ≡ home_of script context
  -- no other lane ever dispatches its sources
  pub dispatched : (script : Plan) (tick : Tick) → AllByRecursion (λ lane. AllByRecursion (IsOfHolder script lane.number) lane.trace) (lanes_at script tick)
  -- none is on its way then
  pub none : (script : Plan) (tick : Tick) → AllByRecursion (λ lane. (context : ContextNumber) → is_given context lane ≡ false) (lanes_at script tick)

-- ---- what goes over

-- a context stands as it stood before, with the replies of its sources
pub record Stands (context : ContextNumber) (before now : Lane) : Type 0 where
  pub rows : context_at context now ≡ context_at context before
  pub replies : replies_at context now.replies ≡ replies_at context before.replies

-- a context goes over whole, and no other is changed
pub record ContextsMove : Type 0 where
  -- what is handed over is the context as it stands, with its replies
  pub whole : (context : ContextNumber) (lane : Lane) (kept : Kept) → handed_of context lane ≡ Some kept → (context_at context lane ≡ Some kept.context) × (replies_at context lane.replies ≡ kept.replies)
  -- the lane that takes it over has the context so, with these replies, and its others as before
  pub taken : (tick : Tick) (kept : Kept) (lane : Lane) → kept.number < length lane.contexts → context_at kept.number (taken_over tick kept lane) ≡ Some kept.context
  pub replies : (tick : Tick) (kept : Kept) (lane : Lane) → kept.number < length lane.replies → replies_at kept.number (taken_over tick kept lane).replies ≡ kept.replies
  pub others : (tick : Tick) (kept : Kept) (lane : Lane) (context : ContextNumber) → context ≢ kept.number → Stands context lane (taken_over tick kept lane)
  -- the lane that hands it over has its others as before
  pub left : (lane : Lane) (given context : ContextNumber) → context ≢ given → Stands context lane (without_context given lane)

-- letters of a tick for a context reach the lane that has it after the handing over, once
pub record LettersFollow : Type 0 where
  pub run : (script : Plan) (tick : Tick) (context : ContextNumber) → context < (sizes script).contexts
      → AllByRecursion (λ lane. (c : Context) → is_own context lane ≡ true → context_at context lane ≡ Some c
      → arrivals context (received_all script tick (posted_at script tick (lanes_at script tick)) lane).trace ≡ arrivals context lane.trace ++ ids_for context c.rows.next_id (posted_at script tick (lanes_at script tick)))
      (handed_over tick (posted_at script tick (lanes_at script tick)) (map (turned script tick) (lanes_at script tick)))

-- a context that is given stays as it is: it is on its way still, with the rows and the replies that it had
abbrev pub StaysGiven : Turn → Turn → Type 0
StaysGiven t u = (context : ContextNumber) → is_given context t.lane ≡ true → (is_given context u.lane ≡ true) × Stands context t.lane u.lane

-- in a run a step leaves each context that was given in this tick as it stood
abbrev pub GivenContextsStand : Type 0
GivenContextsStand = (script : Plan) → OfEachStep script StaysGiven

-- ---- where none is given

-- the lanes of a run in which no context goes over
abbrev pub staying_at : Plan → Tick → List Lane
staying_at script zero = opened script
staying_at script (suc k) = map (received_all script k (posted_at script k (staying_at script k))) (map (turned script k) (staying_at script k))

-- a script that gives no context runs as it would where none goes over
abbrev pub RunsStay : Type 0
RunsStay = (script : Plan) (tick : Tick) → GivesNone script → lanes_at script tick ≡ staying_at script tick
