-- What the letters of a tick attach to contexts, with which ids and in which order.
use Rattle.std.specs.Prelude.{◌≡◌, ◌<◌, ◌==◌, Bool, true, false, pos, Option, Some, None, List, [], ◌∷◌, ◌+◌, ◌++◌, map, if◌then◌else◌}
use Rattle.std.specs.List.{AllByRecursion, filter_map}
use Rattle.loop_script.specs.declared.plan.Plan.{Plan}
use Rattle.loop_script.specs.declared.source.SourceSpec.{SourceSpec}
use Rattle.loop_script.specs.declared.source.Kind.TheVariants.{Idle}
use Rattle.loop_script.specs.Parts.{time_of}
use Rattle.source_rows.specs.declared.row.Row.{Row}
use Rattle.source_rows.specs.Row.{root_row}
use Rattle.source_rows.specs.Rows.{row_of}
use Rattle.source_rows.specs.Tree.{IdsRise}
use Rattle.context_core.specs.declared.context.Context.{Context}
use Rattle.post_office.specs.declared.letter.Letter.{Letter}
use Rattle.post_office.specs.declared.letter.Body.{Body}
use Rattle.post_office.specs.declared.letter.Body.TheVariants.{Attach, Complete, Cancelled, Give}
use Rattle.lane_turn.specs.declared.line.Line.{Line}
use Rattle.lane_turn.specs.declared.line.Event.{Event}
use Rattle.lane_turn.specs.declared.line.Event.TheVariants as events
use Rattle.lane_turn.specs.declared.replies.Awaited.{Awaited}
use Rattle.lane_turn.specs.Replies.{Replies, held_under, replies_at, reply_held}
use Rattle.lane_turn.specs.Lane.{Lane, context_at, next_id, is_own}
use Rattle.lane_turn.specs.Turn.{turned}
use Rattle.lane_turn.specs.Handover.{handed_over}
use Rattle.lane_turn.specs.Deliver.{received_all}
use Rattle.lane_turn.specs.Tick.{posted_at, lanes_at}
use Rattle.loop_script.specs.Units.{Tick, Microseconds, LaneNumber, ContextNumber, ProcNumber, SourceId, Order}

-- whether what a letter tells attaches a source to a context
abbrev pub is_for_body : ContextNumber → Body → Bool
is_for_body context (Attach c spec) = c == context
is_for_body context (Complete reply) = reply.ctx == context
is_for_body context (Cancelled k) = false
is_for_body context (Give c to) = false

-- whether a letter attaches a source to a context
abbrev pub is_for : ContextNumber → Letter → Bool
is_for context letter = is_for_body context letter.body

-- the id of the source that a line tells to have come to a context
abbrev pub arrival_of : ContextNumber → Event → Option SourceId
arrival_of context (events.Arrive c id) = if c == context then Some id else None
arrival_of context _ = None

-- the ids of the sources that came to a context, as lines tell them
abbrev pub arrivals : ContextNumber → List Line → List SourceId
arrivals context lines = filter_map (λ line. arrival_of context line.event) lines

-- the ids that the sources of letters for a context get: each the next one
abbrev pub ids_for : ContextNumber → SourceId → List Letter → List SourceId
ids_for context next [] = []
ids_for context next (letter ∷ letters) = if is_for context letter then next ∷ ids_for context (next + 1) letters else ids_for context next letters

-- a letter that attaches a source of its own attaches that of an invoke: an idle one of priority 0 that calls a procedure, without a recurse flag
abbrev pub IsOfInvoke : Body → Type 0
IsOfInvoke (Attach c spec) = (proc : ProcNumber) × (spec ≡ record { kind = Idle; priority = pos 0; recurse = false; call = Some proc })
IsOfInvoke (Complete reply) = Unit {0}
IsOfInvoke (Cancelled k) = Unit {0}
IsOfInvoke (Give c to) = Unit {0}

-- what a letter attaches: a source, and the reply that it holds. The source of an invoke holds none
pub record Coming : Type 0 where
  pub spec : SourceSpec
  pub reply : Option Awaited

-- what a letter attaches to a context: of an invoke the source that the letter tells, of a reply an idle one of its priority
abbrev pub coming_by : ContextNumber → LaneNumber → Body → Option Coming
coming_by context sender (Attach c spec) = if c == context then Some (record { spec = spec; reply = None }) else None
coming_by context sender (Complete reply) = if reply.ctx == context
    then Some (record { spec = record { kind = Idle; priority = reply.priority; recurse = false; call = Some reply.call }; reply = Some (record { sender = sender; reply = reply }) })
    else None
coming_by context sender (Cancelled k) = None
coming_by context sender (Give c to) = None

-- what letters attach to a context, in their order
abbrev pub comings : ContextNumber → List Letter → List Coming
comings context letters = filter_map (λ letter. coming_by context letter.sender letter.body) letters

-- the rows of sources that are attached one after another, with the ids and the numbers from these on
abbrev pub rows_from : Microseconds → SourceId → Order → List Coming → List Row
rows_from now id order [] = []
rows_from now id order (c ∷ cs) = root_row c.spec now id order ∷ rows_from now (id + 1) (order + 1) cs

-- each holds its reply, by the ids from this one on
abbrev pub AreHeld : SourceId → List Coming → Replies → Type 0
AreHeld id [] held = Unit {0}
AreHeld id (c ∷ cs) held = (held_under id held ≡ c.reply) × AreHeld (id + 1) cs held

-- the rows of a context
abbrev pub rows_of_context : Option Context → List Row
rows_of_context None = []
rows_of_context (Some context) = context.rows.rows

-- the order number that the next source of a context gets
abbrev pub next_order : Option Context → Order
next_order None = 0
next_order (Some context) = context.rows.next_order

-- a row is one of these, but for its ready time
abbrev pub IsAmong : List Row → Row → Type 0
IsAmong rows r = (q : Row) × (row_of r.id rows ≡ Some q) × (r ≡ record q { ready = r.ready })

-- a letter that is no cancellation, so that it calls no handler
abbrev pub CallsNone : Body → Type 0
CallsNone (Attach c spec) = Unit {0}
CallsNone (Complete reply) = Unit {0}
CallsNone (Cancelled k) = ⊥
CallsNone (Give c to) = Unit {0}

-- what a lane has after a delivery of what letters attach to a context of it
pub record AreAttached (script : Plan) (tick : Tick) (context : ContextNumber) (letters : List Letter) (lane after : Lane) : Type 0 where
  -- the rows that handlers left of those before
  pub left : List Row
  -- those, and then the rows of the letters' sources, under the next ids, in the order of the letters
  pub rows : rows_of_context (context_at context after) ≡ left ++ rows_from (time_of script tick) (next_id (context_at context lane)) (next_order (context_at context lane)) (comings context letters)
  -- each row that was left is one of those before, but for its ready time; and their ids rise
  pub among : AllByRecursion (IsAmong (rows_of_context (context_at context lane))) left
  pub rising : IdsRise left
  -- all of those before, where no letter is a cancellation
  pub whole : AllByRecursion (λ letter. CallsNone letter.body) letters → left ≡ rows_of_context (context_at context lane)
  -- the source of a reply holds the reply, that of an invoke none; and what was held is held
  pub replies : AreHeld (next_id (context_at context lane)) (comings context letters) (replies_at context after.replies)
  pub held : (id : SourceId) → id < next_id (context_at context lane) → reply_held context id after.replies ≡ reply_held context id lane.replies

-- each letter that attaches is attached once, by the lane that has its context
pub record LettersArrive : Type 0 where
  -- a letter for a context is attached once, by the lane that has it, with the next id, in the order of the letters
  pub once : (script : Plan) (tick : Tick) (context : ContextNumber) (letters : List Letter) (lane : Lane) (c : Context) → is_own context lane ≡ true → context_at context lane ≡ Some c
      → arrivals context (received_all script tick letters lane).trace ≡ arrivals context lane.trace ++ ids_for context c.rows.next_id letters
  -- and by no other
  pub others : (script : Plan) (tick : Tick) (context : ContextNumber) (letters : List Letter) (lane : Lane) → is_own context lane ≡ false
      → arrivals context (received_all script tick letters lane).trace ≡ arrivals context lane.trace
  -- what it attaches: in a run, once contexts went over, a lane gains in a context of its own the row of each letter's source, which holds the reply
  pub sources : (script : Plan) (tick : Tick) (context : ContextNumber) (letters : List Letter)
      → AllByRecursion (λ lane. is_own context lane ≡ true → AreAttached script tick context letters lane (received_all script tick letters lane)) (handed_over tick (posted_at script tick (lanes_at script tick)) (map (turned script tick) (lanes_at script tick)))
  -- and in a run a letter that tells a source tells that of an invoke
  pub invokes : (script : Plan) (tick : Tick) → AllByRecursion (λ letter. IsOfInvoke letter.body) (posted_at script tick (lanes_at script tick))
