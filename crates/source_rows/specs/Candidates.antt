-- The rows that may be ready in a sight, as far as kinds, marks and ready times tell.
use Rattle.std.specs.Prelude.{nat_lt, ◌&&◌, ◌^◌, Bool, not, ℤ, pos, negsuc, List, filter}
use Rattle.std.specs.List.{list_any}
use Rattle.cancel_view.specs.Marks.{Marks, cancel_number, meets, no_mark, opening}
use Rattle.cancel_view.specs.Units.{MarkNumber}
use Rattle.loop_script.specs.declared.Kind.{Kind}
use Rattle.loop_script.specs.declared.Kind.TheVariants.{Idle, Timeout, ReadyTime, Fd, Cancel}
use Rattle.source_rows.specs.declared.row.Row.{Row}
use Rattle.source_rows.specs.declared.sight.Sight.{Sight}
use Rattle.source_rows.specs.Rows.{in_order, is_under}
use Rattle.loop_script.specs.Units.{Microseconds}

-- the number of the mark of what a descriptor may open
abbrev pub descriptor_number : MarkNumber
descriptor_number = 256

-- the number of the mark of what is always open
abbrev pub always_number : MarkNumber
always_number = 257

-- the mark of what a descriptor may open
abbrev pub descriptor : Marks
descriptor = opening descriptor_number

-- the mark of what is always open
abbrev pub always : Marks
always = opening always_number

-- the number of the mark by which a source is open: it may then be ready whatever its ready time
abbrev pub mark_number : Kind → MarkNumber
mark_number Idle = always_number
mark_number (Timeout ms) = no_mark
mark_number (ReadyTime us) = no_mark
mark_number (Fd fd bits) = descriptor_number
mark_number (Cancel c) = cancel_number c

-- the marks by which a source is open
abbrev pub opened_by : Kind → Marks
opened_by k = opening (mark_number k)

-- later than any ready time
abbrev pub never : Microseconds
never = 2 ^ 63

-- when a ready time comes
abbrev pub due_at : ℤ → Microseconds
due_at (pos n) = n
due_at (negsuc n) = never

-- what is opened by some marks is closed, and is not due
abbrev pub sleeps : Sight → Marks → Microseconds → Bool
sleeps sight marks due = not (meets marks sight.marks) && nat_lt sight.now due

-- a row that may be ready as far as its kind and its ready time tell
abbrev pub is_awake : Sight → Row → Bool
is_awake sight r = not (sleeps sight (opened_by r.kind) (due_at r.ready))

-- the row itself, or one under it, may be ready
abbrev pub may_call : Sight → List Row → Row → Bool
may_call sight rows r = list_any (λ q. is_under r.id q && is_awake sight q) rows

-- the rows that may be ready, and those above them, in order
abbrev pub candidates : Sight → List Row → List Row
candidates sight rows = filter (may_call sight rows) (in_order rows)
