-- What lanes do with the letters of a tick.
use Rattle.std.specs.Prelude.{Some, false, List, [], ◌∷◌, map, if◌then◌else◌}
use Rattle.loop_script.specs.declared.plan.Plan.{Plan}
use Rattle.loop_script.specs.declared.source.SourceSpec.{SourceSpec}
use Rattle.loop_script.specs.declared.source.Kind.TheVariants.{Idle}
use Rattle.loop_script.specs.Parts.{time_of}
use Rattle.source_rows.specs.Rows.{attached}
use Rattle.task_steps.specs.declared.entry.Reply.{Reply}
use Rattle.post_office.specs.declared.letter.Letter.{Letter}
use Rattle.post_office.specs.declared.letter.Body.{Body}
use Rattle.post_office.specs.declared.letter.Body.TheVariants.{Attach, Complete, Cancelled, Give}
use Rattle.lane_turn.specs.declared.line.Event.TheVariants as events
use Rattle.lane_turn.specs.Lane.{Lane, context_at, is_own, edited, next_id, written}
use Rattle.lane_turn.specs.Replies.{with_reply}
use Rattle.lane_turn.specs.Acted.{cancel}
use Rattle.lane_turn.specs.Handover.{handed_over}
use Rattle.loop_script.specs.Units.{Tick, Microseconds, LaneNumber, ContextNumber, SourceId}

-- the source of a reply: idle, and without a recurse flag
abbrev pub reply_spec : Reply → SourceSpec
reply_spec reply = record { kind = Idle; priority = reply.priority; recurse = false; call = Some reply.call }

-- a source holds a reply
abbrev pub holding : ContextNumber → SourceId → LaneNumber → Reply → Lane → Lane
holding context id sender reply lane = record lane { replies = with_reply context id (record { sender = sender; reply = reply }) lane.replies }

-- a reply is attached by the lane that has its context
abbrev pub arrived : Plan → Tick → LaneNumber → Reply → Lane → Lane
arrived script tick sender reply lane =
    if is_own reply.ctx lane
    then written tick (events.Arrive reply.ctx (next_id (context_at reply.ctx lane)))
    (holding reply.ctx (next_id (context_at reply.ctx lane)) sender reply (edited reply.ctx (attached (reply_spec reply) (time_of script tick)) lane))
    else lane

-- so is the source of an invoked procedure
abbrev pub arrived_source : Tick → Microseconds → ContextNumber → SourceSpec → Lane → Lane
arrived_source tick now context spec lane =
    if is_own context lane
    then written tick (events.Arrive context (next_id (context_at context lane))) (edited context (attached spec now) lane)
    else lane

-- what a letter tells is done: a source is attached, or a reply; a cancellation that the lane has not seen is seen, and no letter is sent
-- for it
abbrev pub received_body : Plan → Tick → LaneNumber → Body → Lane → Lane
received_body script tick sender (Attach context spec) lane = arrived_source tick (time_of script tick) context spec lane
received_body script tick sender (Complete reply) lane = arrived script tick sender reply lane
received_body script tick sender (Cancelled c) lane = cancel script tick c lane
received_body script tick sender (Give context to) lane = lane

-- a lane gets one letter
abbrev pub received : Plan → Tick → Letter → Lane → Lane
received script tick letter lane = received_body script tick letter.sender letter.body lane

-- a lane's part of a delivery: the letters in order
abbrev pub received_all : Plan → Tick → List Letter → Lane → Lane
received_all script tick [] lane = lane
received_all script tick (letter ∷ letters) lane = received_all script tick letters (received script tick letter lane)

-- letters are delivered to all lanes at once: the contexts that they give go over first
abbrev pub delivered : Plan → Tick → List Letter → List Lane → List Lane
delivered script tick letters lanes = map (received_all script tick letters) (handed_over tick letters lanes)
