-- Which sources of a context are dispatched next.
use Rattle.std.specs.Prelude.{◌==◌, ◌&&◌, ◌||◌, Bool, true, false, not, ℤ, pos, int_le, List, map, filter, bit_and, bit_or}
use Rattle.std.specs.List.{list_any, list_all}
use Rattle.loop_script.specs.declared.source.Kind.{Kind}
use Rattle.loop_script.specs.declared.source.Kind.TheVariants.{Idle, Timeout, ReadyTime, Fd, Cancel}
use Rattle.source_rows.specs.declared.row.Row.{Row}
use Rattle.cancel_view.specs.Seen.{Seen, has}
use Rattle.source_rows.specs.Rows.{in_order, is_under}
use Rattle.loop_script.specs.Units.{Microseconds, CancellableNumber, Descriptor, Bits, SourceId}

-- ---- what makes a source ready by itself

-- a test of a row by itself
abbrev pub Own : Type 0
Own = Row → Bool

-- its ready time has come
abbrev pub is_due : Microseconds → ℤ → Bool
is_due now ready = int_le (pos 0) ready && int_le ready (pos now)

-- an error (8), a hang-up (16) and that a descriptor is invalid (32) are told whether they are asked for or not
abbrev pub always_told : Bits
always_told = 56

-- a descriptor shows a bit that is asked for, or one that is always told
abbrev pub has_bit : Bits → Bits → Bool
has_bit level bits = not (bit_and level (bit_or bits always_told) == 0)

-- what its kind makes ready
abbrev pub kind_ready : (level : Descriptor → Bits) → (cancelled : CancellableNumber → Bool) → Kind → Bool
kind_ready level cancelled Idle = true
kind_ready level cancelled (Timeout ms) = false
kind_ready level cancelled (ReadyTime us) = false
kind_ready level cancelled (Fd fd bits) = has_bit (level fd) bits
kind_ready level cancelled (Cancel c) = cancelled c

-- the cancellables of a view
abbrev pub in_view : Seen → CancellableNumber → Bool
in_view view c = has c view

-- its kind makes it ready, or its ready time has come
abbrev pub own_ready : (level : Descriptor → Bits) → (cancelled : CancellableNumber → Bool) → Microseconds → Own
own_ready level cancelled now r = kind_ready level cancelled r.kind || is_due now r.ready

-- ---- what calls in progress and the sources below say of it

-- a call of the source, or of one above it, is in progress
abbrev pub is_blocked : List SourceId → Row → Bool
is_blocked busy r = list_any (λ id. list_any (λ b. b == id) busy) r.lineage

-- no call in progress blocks it
abbrev pub is_free : List SourceId → Row → Bool
is_free busy r = not (is_blocked busy r)

-- the source is callable: free, and ready by itself
abbrev pub is_callable : Own → List SourceId → Row → Bool
is_callable own busy r = is_free busy r && own r

-- free, and it or a source below it is callable
abbrev pub is_ready : Own → List SourceId → List Row → Row → Bool
is_ready own busy rows r = is_free busy r && list_any (λ q. is_under r.id q && is_callable own busy q) rows

-- ---- the selection

-- the rows that are ready
abbrev pub ready_rows : Own → List SourceId → List Row → List Row
ready_rows own busy rows = filter (is_ready own busy rows) rows

-- no row is more urgent
abbrev pub is_most_urgent : List Row → Row → Bool
is_most_urgent rows r = list_all (λ q. int_le r.priority q.priority) rows

-- the ids of the ready rows of the least priority, in order
abbrev pub selected : Own → List SourceId → List Row → List SourceId
selected own busy rows = map (λ r. r.id) (in_order (filter (is_most_urgent (ready_rows own busy rows)) (ready_rows own busy rows)))
