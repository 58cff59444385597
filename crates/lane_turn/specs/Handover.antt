-- Contexts that are given to other lanes, and handed over at the end of the tick.
use Rattle.std.specs.Prelude.{◌==◌, ◌&&◌, not, Bool, true, false, nat_lt, Option, Some, None, is_some, slice_set, option_map, List, [], ◌∷◌, length, map, if◌then◌else◌}
use Rattle.std.specs.Option.{option_and_then}
use Rattle.std.specs.List.{find, cons_option}
use Rattle.loop_script.specs.declared.plan.Plan.{Plan}
use Rattle.context_core.specs.declared.context.Context.{Context}
use Rattle.post_office.specs.declared.letter.Letter.{Letter}
use Rattle.post_office.specs.declared.letter.Body.{Body as Mail}
use Rattle.post_office.specs.declared.letter.Body.TheVariants as mails
use Rattle.lane_turn.specs.declared.line.Event.TheVariants as events
use Rattle.lane_turn.specs.declared.line.Word.TheVariants as words
use Rattle.lane_turn.specs.Replies.{Replies, replies_at}
use Rattle.lane_turn.specs.Lane.{Lane, Kept, written, context_at, is_given, is_own}
use Rattle.lane_turn.specs.Owned.{is_owned}
use Rattle.loop_script.specs.Units.{Tick, LaneNumber, ContextNumber}

-- ---- within a turn

-- whether a number is that of another lane of the script
abbrev pub is_another : Plan → LaneNumber → Lane → Bool
is_another script to lane = nat_lt to (length script.lanes) && not (to == lane.number)

-- a context may be given where it is the lane's, which does not own it, to another lane
abbrev pub may_give : Plan → ContextNumber → LaneNumber → Lane → Bool
may_give script context to lane = is_own context lane && (not (is_owned context lane) && is_another script to lane)

-- a context is given, or is not any more: it stands as it stood
abbrev pub with_given : ContextNumber → Bool → Lane → Lane
with_given context b lane = record lane { given = slice_set lane.given context b }

-- a context is given to a lane: from then on it is not the lane's own
abbrev pub give : Plan → Tick → ContextNumber → LaneNumber → Lane → Lane
give script tick context to lane =
    if may_give script context to lane
    then written tick (events.Give context to) (with_given context true lane)
    else written tick (events.Miss words.Give) lane

-- what a `give` sends: a letter that tells whose the context will be
abbrev pub give_sends : Plan → ContextNumber → LaneNumber → Lane → Option Mail
give_sends script context to lane = if may_give script context to lane then Some (mails.Give context to) else None

-- ---- at the end of the tick

-- a context with the replies that its sources hold
abbrev pub kept_of : ContextNumber → Lane → Context → Kept
kept_of context lane c = record { number = context; context = c; replies = replies_at context lane.replies }

-- what a lane hands over of a context: none where it did not give it
abbrev pub handed_of : ContextNumber → Lane → Option Kept
handed_of context lane = if is_given context lane then option_map (kept_of context lane) (context_at context lane) else None

-- a place of the lane's contexts has another context, or none
abbrev pub with_place : ContextNumber → Option Context → Lane → Lane
with_place context o lane = record lane { contexts = slice_set lane.contexts context o }

-- the sources of a context hold other replies
abbrev pub with_replies : ContextNumber → Replies → Lane → Lane
with_replies context held lane = record lane { replies = slice_set lane.replies context held }

-- a lane without a context and its replies, in which the context is not given any more
abbrev pub without_context : ContextNumber → Lane → Lane
without_context context lane = with_given context false (with_replies context [] (with_place context None lane))

-- a lane that has handed a context over; one that has nothing to hand over is left
abbrev pub left_by : ContextNumber → Lane → Lane
left_by context lane = if is_some (handed_of context lane) then without_context context lane else lane

-- a lane that has taken a context over
abbrev pub taken_over : Tick → Kept → Lane → Lane
taken_over tick kept lane = written tick (events.Hold kept.number) (with_replies kept.number kept.replies (with_place kept.number (Some kept.context) lane))

-- what is handed over at the end of a tick: by whom, to whom, and what
pub record Handing : Type 0 where
  pub sender : LaneNumber
  pub to : LaneNumber
  pub kept : Kept

-- a lane that hands a context over lets it go
abbrev pub let_go : Handing → Lane → Lane
let_go h lane = if lane.number == h.sender then without_context h.kept.number lane else lane

-- a lane that is given a context takes it over
abbrev pub got : Tick → Handing → Lane → Lane
got tick h lane = if lane.number == h.to then taken_over tick h.kept lane else lane

-- a lane's part of one handing over
abbrev pub handed : Tick → Handing → Lane → Lane
handed tick h lane = got tick h (let_go h lane)

-- a lane's part of several, in order
abbrev pub all_handed : Tick → List Handing → Lane → Lane
all_handed tick [] lane = lane
all_handed tick (h ∷ hs) lane = all_handed tick hs (handed tick h lane)

-- ---- between all lanes

-- the lane of a number
abbrev pub lane_of_number : LaneNumber → List Lane → Option Lane
lane_of_number number lanes = find (λ lane. lane.number == number) lanes

-- the handing over of a context from one lane to another, where the first has something to hand over
abbrev pub handing : (sender to : LaneNumber) → Option Kept → Option Handing
handing sender to None = None
handing sender to (Some kept) = Some (record { sender = sender; to = to; kept = kept })

-- what the mail of a sender hands over
abbrev pub handing_by : LaneNumber → Mail → List Lane → Option Handing
handing_by sender (mails.Give context to) lanes = handing sender to (option_and_then (handed_of context) (lane_of_number sender lanes))
handing_by sender (mails.Attach context spec) lanes = None
handing_by sender (mails.Complete reply) lanes = None
handing_by sender (mails.Cancelled c) lanes = None

-- what a letter hands over, of the lane that sent it
abbrev pub handing_of : Letter → List Lane → Option Handing
handing_of letter lanes = handing_by letter.sender letter.body lanes

-- all lanes after one handing over, if there is one
abbrev pub moved : Tick → Option Handing → List Lane → List Lane
moved tick None lanes = lanes
moved tick (Some h) lanes = map (handed tick h) lanes

-- all that letters hand over, in order, each after those before it
abbrev pub handings : Tick → List Letter → List Lane → List Handing
handings tick [] lanes = []
handings tick (letter ∷ letters) lanes = cons_option (handing_of letter lanes) (handings tick letters (moved tick (handing_of letter lanes) lanes))

-- the contexts that letters give go over, between all lanes at once
abbrev pub handed_over : Tick → List Letter → List Lane → List Lane
handed_over tick letters lanes = map (all_handed tick (handings tick letters lanes)) lanes
