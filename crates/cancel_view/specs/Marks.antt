-- Marks of what opens sources, as the bits of a number: so one look tells whether any of many was seen.
use Rattle.std.specs.Prelude.{◌≡◌, ◌%◌, ◌^◌, ◌==◌, nat_lt, ℕ, Bool, true, false, not, List, bit_and, slice_index_or, if◌then◌else◌}
use Rattle.cancel_view.specs.Seen.{Seen}
use Rattle.cancel_view.specs.Units.{CancellableNumber, MarkNumber}

-- marks, each of them a bit
abbrev pub Marks : Type 0
Marks = ℕ

-- marks have numbers below this
abbrev pub no_mark : MarkNumber
no_mark = 320

-- the mark of a number, alone; none where no mark has it
abbrev pub opening : MarkNumber → Marks
opening n = if nat_lt n no_mark then 2 ^ n else 0

-- the number of the mark of a cancellable: its own, for each that a script can name
abbrev pub cancel_number : CancellableNumber → MarkNumber
cancel_number c = c % 256

-- the mark of a cancellable
abbrev pub mark_of : CancellableNumber → Marks
mark_of c = opening (cancel_number c)

-- both have a mark
abbrev pub meets : Marks → Marks → Bool
meets a b = not (bit_and a b == 0)

-- each member has its mark among these
abbrev pub AreMarked : List Bool → Marks → Type 0
AreMarked members marks = (c : CancellableNumber) → slice_index_or members c false ≡ true → meets (mark_of c) marks ≡ true

-- each cancellable that is seen as cancelled has its mark among these
abbrev pub IsMarked : Seen → Marks → Type 0
IsMarked v marks = AreMarked v.members marks
