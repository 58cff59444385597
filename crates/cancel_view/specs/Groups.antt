-- How handlers are kept: each in the slot of its id, and for each cancellable the ids that were connected to it.
use Rattle.std.specs.Prelude.{◌≡◌, ◌+◌, ◌≤◌, zero, suc, Option, Some, None, List, [], ◌∷◌, map, filter, length, slice_get, slice_set, option_map, Vec}
use Rattle.std.specs.Option.{option_flatten}
use Rattle.std.specs.List.{filter_map, AllByRecursion}
use Rattle.std.specs.Ordering.{nat_cmp}
use Rattle.std.specs.BTreeMap.{BTreeMap, get}
use Rattle.cancel_view.specs.declared.handler.Handler.{Handler}
use Rattle.cancel_view.specs.declared.handler.Fired.{Fired}
use Rattle.cancel_view.specs.declared.handlers.Connection.{Connection}
use Rattle.cancel_view.specs.Seen.{is_of, fired_as}
use Rattle.cancel_view.specs.Units.{CancellableNumber, HandlerId}

-- the handlers in slots, where the first one is that of an id
abbrev pub handlers_from : HandlerId → List (Option Connection) → List Handler
handlers_from id [] = []
handlers_from id (None ∷ slots) = handlers_from (id + 1) slots
handlers_from id (Some c ∷ slots) = record { id = id; cancellable = c.cancellable; proc = c.proc } ∷ handlers_from (id + 1) slots

-- the handlers in the slots of all ids
abbrev pub handlers_in : List (Option Connection) → List Handler
handlers_in slots = handlers_from 1 slots

-- what the handler with an id is connected to, where it is connected
abbrev pub connection_at : List (Option Connection) → HandlerId → Option Connection
connection_at slots zero = None
connection_at slots (suc i) = option_flatten (slice_get slots i)

-- the slots once that of an id is empty
abbrev pub emptied : List (Option Connection) → HandlerId → List (Option Connection)
emptied slots zero = slots
emptied slots (suc i) = slice_set slots i None

-- what is told of the handler with an id, where it is connected
abbrev pub fired_at : List (Option Connection) → HandlerId → Option Fired
fired_at slots id = option_map (λ c. record { id = id; proc = c.proc }) (connection_at slots id)

-- what a list of ids holds; one that is not there holds nothing
abbrev pub listed : {Z : Type 0} → Option (Vec HandlerId Z) → List HandlerId
listed None = []
listed (Some ids) = ids.items

-- the ids that were connected to a cancellable
abbrev pub group : {Z : Type 0} → CancellableNumber → BTreeMap CancellableNumber (Vec HandlerId Z) → List HandlerId
group c groups = listed (get nat_cmp groups c)

-- each cancellable's ids have a slot, and those of them that are connected are its handlers
pub record AreKept {Z : Type 0} (slots : List (Option Connection)) (groups : BTreeMap CancellableNumber (Vec HandlerId Z)) : Type 0 where
  pub known : (c : CancellableNumber) → AllByRecursion (λ id. id ≤ length slots) (group c groups)
  pub grouped : (c : CancellableNumber) → filter_map (fired_at slots) (group c groups) ≡ map fired_as (filter (is_of c) (handlers_in slots))
