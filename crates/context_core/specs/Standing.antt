-- What an iteration begun now would do with each source, and why.
use Rattle.std.specs.Prelude.{◌≡◌, ◌==◌, ◌<◌, Bool, true, false, ℤ, pos, negsuc, int_lt, Option, Some, None, List, reverse, if◌then◌else◌}
use Rattle.std.specs.List.{list_any, find, AllByRecursion}
use Rattle.loop_script.specs.declared.source.Kind.{Kind}
use Rattle.loop_script.specs.declared.source.Kind.TheVariants.{Idle, Timeout, ReadyTime, Fd, Cancel}
use Rattle.source_rows.specs.declared.row.Row.{Row}
use Rattle.source_rows.specs.Rows.{in_order, row_of}
use Rattle.source_rows.specs.Tree.{IsForest}
use Rattle.context_core.specs.declared.standing.Standing.{Standing}
use Rattle.context_core.specs.declared.standing.Standing.TheVariants.{Selected, LessUrgent, Blocked, Asleep, NotShown, NotCancelled}
use Rattle.context_core.specs.Ready.{Own, own_ready, has_bit, is_blocked, is_ready, selected}
use Rattle.loop_script.specs.Units.{Microseconds, CancellableNumber, Descriptor, Bits, SourceId}

-- ---- what holds a source

-- a call of the source with the id is in progress
abbrev pub is_in_call : List SourceId → SourceId → Bool
is_in_call busy id = list_any (λ b. b == id) busy

-- the nearest whose call in progress blocks a source: itself, else its parent, and so on up
abbrev pub blocker : List SourceId → Row → Option SourceId
blocker busy r = find (is_in_call busy) (reverse r.lineage)

-- a ready time that comes; none where it is never
abbrev pub until_of : ℤ → Option Microseconds
until_of (pos time) = Some time
until_of (negsuc n) = None

-- what a source waits for that is not ready by itself, by its kind; beside it its ready time, at which it wakes all the same
abbrev pub waiting_kind : (level : Descriptor → Bits) → Option Microseconds → Kind → Standing
waiting_kind level until Idle = Asleep until
waiting_kind level until (Timeout ms) = Asleep until
waiting_kind level until (ReadyTime us) = Asleep until
waiting_kind level until (Fd fd bits) = NotShown fd (level fd) bits until
waiting_kind level until (Cancel c) = NotCancelled c until

-- the same of a row
abbrev pub waiting : (level : Descriptor → Bits) → Row → Standing
waiting level r = waiting_kind level (until_of r.ready) r.kind

-- ---- what goes first

-- the ready row that goes first
abbrev pub first_ready : Own → List SourceId → List Row → Option Row
first_ready own busy rows = find (is_ready own busy rows) (in_order rows)

-- the row that was ready first among those before, or this one
abbrev pub first_with : Option Row → (ready : Bool) → Row → Option Row
first_with (Some q) ready r = Some q
first_with None true r = Some r
first_with None false r = None

-- a ready row is selected, but where the one that goes first is more urgent
abbrev pub standing_behind : Option Row → Row → Standing
standing_behind None r = Selected
standing_behind (Some q) r = if int_lt q.priority r.priority then LessUrgent q.id q.priority else Selected

-- a row that no call blocks; what the sources below it lend counts in its readiness
abbrev pub standing_free : (level : Descriptor → Bits) → (ready : Bool) → (first : Option Row) → Row → Standing
standing_free level true first r = standing_behind first r
standing_free level false first r = waiting level r

-- where a call blocks a row, that is what holds it
abbrev pub standing_by : (level : Descriptor → Bits) → (blocker : Option SourceId) → (ready : Bool) → (first : Option Row) → Row → Standing
standing_by level (Some by) ready first r = Blocked by
standing_by level None ready first r = standing_free level ready first r

-- what an iteration begun now would do with a row
abbrev pub standing : (level : Descriptor → Bits) → (cancelled : CancellableNumber → Bool) → Microseconds → List SourceId → List Row → Row → Standing
standing level cancelled now busy rows r =
    standing_by level (blocker busy r) (is_ready (own_ready level cancelled now) busy rows r) (first_ready (own_ready level cancelled now) busy rows) r

-- ---- laws

-- the standing of what is dispatched
abbrev pub is_selected : Standing → Bool
is_selected Selected = true
is_selected (LessUrgent than priority) = false
is_selected (Blocked by) = false
is_selected (Asleep until) = false
is_selected (NotShown fd shown asked until) = false
is_selected (NotCancelled c until) = false

-- the standing of what a call holds
abbrev pub is_held : Standing → Bool
is_held Selected = false
is_held (LessUrgent than priority) = false
is_held (Blocked by) = true
is_held (Asleep until) = false
is_held (NotShown fd shown asked until) = false
is_held (NotCancelled c until) = false

-- an id is one of a list
abbrev pub is_among : List SourceId → SourceId → Bool
is_among ids id = list_any (λ i. i == id) ids

-- which standings rows that stand in trees have
pub record StandingsTell : Type 0 where
  -- Selected exactly for what an iteration would dispatch
  pub selected : (level : Descriptor → Bits) (cancelled : CancellableNumber → Bool) (now : Microseconds) (busy : List SourceId) (rows : List Row) → IsForest rows
      → AllByRecursion (λ r. is_selected (standing level cancelled now busy rows r) ≡ is_among (selected (own_ready level cancelled now) busy rows) r.id) rows
  -- Blocked exactly where a call in progress blocks
  pub blocked : (level : Descriptor → Bits) (cancelled : CancellableNumber → Bool) (now : Microseconds) (busy : List SourceId) (rows : List Row)
      → AllByRecursion (λ r. is_held (standing level cancelled now busy rows r) ≡ is_blocked busy r) rows

-- a ready time has not come, where there is one
abbrev pub IsAhead : Microseconds → Option Microseconds → Type 0
IsAhead now None = Unit {0}
IsAhead now (Some time) = now < time

-- what a standing names is true of the row
abbrev pub IsTold : (level : Descriptor → Bits) → (cancelled : CancellableNumber → Bool) → Microseconds → List SourceId → List Row → Row → Standing → Type 0
IsTold level cancelled now busy rows r Selected = is_ready (own_ready level cancelled now) busy rows r ≡ true
IsTold level cancelled now busy rows r (LessUrgent than priority) =
    (q : Row) × (row_of than rows ≡ Some q) × (q.priority ≡ priority) × (int_lt priority r.priority ≡ true)
    × (is_among (selected (own_ready level cancelled now) busy rows) than ≡ true)
IsTold level cancelled now busy rows r (Blocked by) = (is_among r.lineage by ≡ true) × (is_in_call busy by ≡ true)
IsTold level cancelled now busy rows r (Asleep until) = (until ≡ until_of r.ready) × IsAhead now until
IsTold level cancelled now busy rows r (NotShown fd shown asked until) = (r.kind ≡ Fd fd asked) × (shown ≡ level fd) × (has_bit shown asked ≡ false) × (until ≡ until_of r.ready) × IsAhead now until
IsTold level cancelled now busy rows r (NotCancelled c until) = (r.kind ≡ Cancel c) × (cancelled c ≡ false) × (until ≡ until_of r.ready) × IsAhead now until

-- what standings name is so
abbrev pub StandingsNameWhatIsSo : Type 0
StandingsNameWhatIsSo = (level : Descriptor → Bits) (cancelled : CancellableNumber → Bool) (now : Microseconds) (busy : List SourceId) (rows : List Row) → IsForest rows
    → AllByRecursion (λ r. IsTold level cancelled now busy rows r (standing level cancelled now busy rows r)) rows
