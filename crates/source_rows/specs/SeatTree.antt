-- What a search tree of seats is seen as, and when it is balanced.
use Rattle.std.specs.Prelude.{◌≡◌, ℕ, ◌+◌, ◌≤◌, max, Option, Some, None, List, [], ◌∷◌, ◌++◌, length, Box}
use Rattle.std.specs.declared.alloc.Global.{Global}
use Rattle.loop_script.specs.Bounds.{count_end}
use Rattle.source_rows.specs.declared.seats.Fork.{Fork}
use Rattle.source_rows.specs.declared.seats.Seat.{Seat}
use Rattle.source_rows.specs.Seats.{IsLow, least_of}

-- the root of a tree, none where it has no seat
abbrev pub Root : Type 0
Root = Option (Box Fork Global)

-- the seats in order
abbrev pub seats_of : Fork → List Seat
seats_of f = f.sooner.0 ++ f.seat ∷ f.later.0

-- the seats in order, and the height that the root stores
abbrev pub seen_of : Root → List Seat × ℕ
seen_of None = ([], 0)
seen_of (Some f) = (seats_of f.value, f.value.height)

-- neither height is more than this above the other
abbrev pub DifferBy : ℕ → ℕ → ℕ → Type 0
DifferBy by a b = (a ≤ b + by) × (b ≤ a + by)

-- the stored height and the stored least times are right, and the sides differ by at most one
abbrev pub IsEvenFork : Fork → Type 0
IsEvenFork f = (f.height ≡ max f.sooner.1 f.later.1 + 1) × DifferBy 1 f.sooner.1 f.later.1 × IsLow f.sooner × IsLow f.later × (f.least ≡ least_of (seats_of f))

-- no root, or one that is so
abbrev pub IsEven : Root → Type 0
IsEven None = Unit {0}
IsEven (Some f) = IsEvenFork f.value

-- the sides differ by at most two, and there is room for a height above theirs
abbrev pub AreNearlyEven : List Seat × ℕ → List Seat × ℕ → Type 0
AreNearlyEven sooner later = DifferBy 2 sooner.1 later.1 × IsLow sooner × IsLow later × (length sooner.0 + length later.0 ≤ count_end)

-- no root, or one with such sides
abbrev pub IsNearlyEven : Root → Type 0
IsNearlyEven None = Unit {0}
IsNearlyEven (Some f) = AreNearlyEven f.value.sooner f.value.later

-- no root, or one whose marks and least time are right
abbrev pub IsNoted : Root → Type 0
IsNoted None = Unit {0}
IsNoted (Some f) = f.value.least ≡ least_of (seats_of f.value)

-- how high a tree with sides of heights a and b is once it is balanced
abbrev pub IsHeight : ℕ → ℕ → ℕ → Type 0
IsHeight a b h = (max a b ≤ h) × (h ≤ max a b + 1) × (DifferBy 1 a b → h ≡ max a b + 1)

-- the second tree is the first one in balance
abbrev pub Balances : Root → Root → Type 0
Balances None m = m ≡ None
Balances (Some f) m = IsEven m × ((seen_of m).0 ≡ seats_of f.value) × IsHeight f.value.sooner.1 f.value.later.1 (seen_of m).1

-- a height after a seat was taken out
abbrev pub IsLowered : ℕ → ℕ → Type 0
IsLowered old new = (new ≤ old) × (old ≤ new + 1)

-- the second tree has the seats of the first, but for the one at its root
abbrev pub LosesRoot : Root → Root → Type 0
LosesRoot None m = m ≡ None
LosesRoot (Some f) m = (seen_of m).0 ≡ f.value.sooner.0 ++ f.value.later.0
