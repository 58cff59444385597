-- What a lane knows of cancellations, and what they call.
use Rattle.std.specs.Prelude.{◌+◌, ◌<◌, ◌==◌, ◌||◌, Bool, true, false, not, List, [], ◌∷◌, ◌++◌, map, filter, slice_index_or, slice_set, if◌then◌else◌}
use Rattle.std.specs.List.{list_any}
use Rattle.cancel_view.specs.declared.handler.Handler.{Handler}
use Rattle.cancel_view.specs.declared.handler.Fired.{Fired}
use Rattle.cancel_view.specs.declared.handler.Connected.{Connected}
use Rattle.cancel_view.specs.declared.handler.Connected.TheVariants.{Id, Already}
use Rattle.cancel_view.specs.Units.{CancellableNumber, HandlerId, ProcNumber}

-- per cancellable whether the view has it; the handlers in the order in which they were connected; and the id that the next one gets
pub record Seen : Type 0 where
  pub members : List Bool
  pub handlers : List Handler
  pub next_id : HandlerId

-- whether a cancellable is seen as cancelled
abbrev pub has : CancellableNumber → Seen → Bool
has c v = slice_index_or v.members c false

-- whether a handler is one of a cancellable
abbrev pub is_of : CancellableNumber → Handler → Bool
is_of c h = h.cancellable == c

-- what is told of a handler that is to be called
abbrev pub fired_as : Handler → Fired
fired_as h = record { id = h.id; proc = h.proc }

-- the handlers of a cancellable
abbrev pub fired : CancellableNumber → Seen → List Fired
fired c v = map fired_as (filter (is_of c) v.handlers)

-- the view after a cancellation; the handlers stay
abbrev pub cancelled : CancellableNumber → Seen → Seen
cancelled c v = if has c v then v else record v { members = slice_set v.members c true }

-- what becomes of a handler: a new id, where its cancellable is not in the view
abbrev pub connecting : CancellableNumber → Seen → Connected
connecting c v = if has c v then Already else Id v.next_id

-- the view with one more handler
abbrev pub connected : CancellableNumber → ProcNumber → Seen → Seen
connected c proc v =
    if has c v then v
    else record v { handlers = v.handlers ++ record { id = v.next_id; cancellable = c; proc = proc } ∷ []; next_id = v.next_id + 1 }

-- whether a handler has an id
abbrev pub has_id : HandlerId → Handler → Bool
has_id id h = h.id == id

-- whether a handler has another id
abbrev pub has_other_id : HandlerId → Handler → Bool
has_other_id id h = not (h.id == id)

-- whether the id is 0, or that of a handler
abbrev pub may_disconnect : HandlerId → Seen → Bool
may_disconnect id v = (id == 0) || list_any (has_id id) v.handlers

-- the view without a handler; no handler has the id 0
abbrev pub without : HandlerId → Seen → Seen
without id v = if id == 0 then v else record v { handlers = filter (has_other_id id) v.handlers }

-- ids rise, all above this one
abbrev pub RiseFrom : HandlerId → List Fired → Type 0
RiseFrom low [] = Unit {0}
RiseFrom low (f ∷ fs) = (low < f.id) × RiseFrom f.id fs

-- the ids of what is to be called rise
abbrev pub IsRising : List Fired → Type 0
IsRising fs = RiseFrom 0 fs

-- ids rise, all between these two
abbrev pub RiseWithin : (low high : HandlerId) → List Handler → Type 0
RiseWithin low high [] = low < high
RiseWithin low high (h ∷ hs) = (low < h.id) × RiseWithin h.id high hs

-- the handlers' ids rise, and none is the next one or above it
abbrev pub IsSound : Seen → Type 0
IsSound v = RiseWithin 0 v.next_id v.handlers
