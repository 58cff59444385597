-- The three phases of an iteration.
use Rattle.std.specs.Prelude.{◌+◌, ◌-◌, ◌/◌, ◌==◌, ◌&&◌, Bool, true, false, not, ℤ, pos, negsuc, int_lt, Option, Some, None, List, [], ◌∷◌, map, filter, if◌then◌else◌}
use Rattle.std.specs.List.{find}
use Rattle.loop_script.specs.declared.source.Kind.{Kind}
use Rattle.loop_script.specs.declared.source.Kind.TheVariants.{Idle, Timeout, ReadyTime, Fd, Cancel}
use Rattle.source_rows.specs.declared.row.Row.{Row}
use Rattle.source_rows.specs.Rows.{in_order, next_ready}
use Rattle.context_core.specs.declared.interest.Interest.{Interest}
use Rattle.context_core.specs.declared.interest.Shown.{Shown}
use Rattle.context_core.specs.Ready.{own_ready, ready_rows, is_free}
use Rattle.loop_script.specs.Units.{Microseconds, CancellableNumber, Descriptor, Bits, SourceId}

-- ---- prepare

-- a priority is less urgent than the least known
abbrev pub less_urgent : Option ℤ → ℤ → Bool
less_urgent None p = false
less_urgent (Some least) p = int_lt least p

-- the least priority of rows
abbrev pub least_of : List Row → Option ℤ
least_of [] = None
least_of (r ∷ rs) = if less_urgent (least_of rs) r.priority then least_of rs else Some r.priority

-- no descriptor shows anything
abbrev pub nothing_shown : Descriptor → Bits
nothing_shown fd = 0

-- the least priority of what is ready while no descriptor shows anything
abbrev pub least_ready : (cancelled : CancellableNumber → Bool) → Microseconds → List SourceId → List Row → Option ℤ
least_ready cancelled now busy rows = least_of (ready_rows (own_ready nothing_shown cancelled now) busy rows)

-- whole milliseconds, rounded up, from a time in microseconds to another; -1 where there is no other
abbrev pub ms_until : Microseconds → Option ℤ → ℤ
ms_until now None = negsuc 0
ms_until now (Some (pos time)) = pos ((time - now + 999) / 1000)
ms_until now (Some (negsuc n)) = pos 0

-- how long a poll may wait: not at all where something is ready, else until the next ready time of a free row
abbrev pub wait_of : Microseconds → List SourceId → List Row → Option ℤ → ℤ
wait_of now busy rows (Some priority) = pos 0
wait_of now busy rows None = ms_until now (next_ready now (filter (is_free busy) rows))

-- ---- query

-- whether a source is one of a descriptor
abbrev pub is_fd : Kind → Bool
is_fd Idle = false
is_fd (Timeout ms) = false
is_fd (ReadyTime us) = false
is_fd (Fd fd bits) = true
is_fd (Cancel c) = false

-- the descriptor of a source of one
abbrev pub fd_of : Kind → Descriptor
fd_of Idle = 0
fd_of (Timeout ms) = 0
fd_of (ReadyTime us) = 0
fd_of (Fd fd bits) = fd
fd_of (Cancel c) = 0

-- the bits that a source of a descriptor asks for
abbrev pub bits_of : Kind → Bits
bits_of Idle = 0
bits_of (Timeout ms) = 0
bits_of (ReadyTime us) = 0
bits_of (Fd fd bits) = bits
bits_of (Cancel c) = 0

-- whether a row is of a descriptor, free, and not less urgent than a priority
abbrev pub is_asked : Option ℤ → List SourceId → Row → Bool
is_asked priority busy r = is_fd r.kind && (is_free busy r && not (less_urgent priority r.priority))

-- the rows that are so, in order
abbrev pub asked_rows : Option ℤ → List SourceId → List Row → List Row
asked_rows priority busy rows = filter (is_asked priority busy) (in_order rows)

-- what a row asks of its descriptor
abbrev pub interest_of : Row → Interest
interest_of r = record { fd = fd_of r.kind; bits = bits_of r.kind }

-- what is asked of descriptors, in order
abbrev pub interests : Option ℤ → List SourceId → List Row → List Interest
interests priority busy rows = map interest_of (asked_rows priority busy rows)

-- ---- check

-- the levels that descriptors show to rows
abbrev pub levels_for : (level : Descriptor → Bits) → List Row → List Bits
levels_for level rows = map (λ r. level (fd_of r.kind)) rows

-- what a list of descriptors and their levels shows of one: nothing where it is not listed
abbrev pub level_of : Option Shown → Bits
level_of None = 0
level_of (Some s) = s.level

-- the level that a list shows of a descriptor
abbrev pub shown : List Shown → Descriptor → Bits
shown list fd = level_of (find (λ s. s.fd == fd) list)

-- the descriptors of rows with the levels handed in for them
abbrev pub handed : List Row → List Bits → List Shown
handed [] levels = []
handed (r ∷ rs) [] = []
handed (r ∷ rs) (level ∷ levels) = (record { fd = fd_of r.kind; level = level }) ∷ handed rs levels

-- what is selected when rows are looked at in order, up to a bound
abbrev pub walk : (ready : Row → Bool) → Option ℤ → List Row → List SourceId
walk ready bound [] = []
walk ready bound (r ∷ rs) = if less_urgent bound r.priority then []
    else if ready r then r.id ∷ walk ready (Some r.priority) rs
    else walk ready bound rs
