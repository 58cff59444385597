-- What sources and handlers are called: labels by where they stand.
use Rattle.std.specs.Prelude.{◌≡◌, ◌≤◌, ℕ, List, Bool, ◌&&◌, ◌==◌, Option, Some, unwrap_or}
use Rattle.std.specs.declared.cmp.Ordering.{Ordering}
use Rattle.std.specs.Map.{lookup}
use Rattle.std.specs.BTreeMap.{BTreeMap, get}
use Rattle.run_names.specs.declared.label.Seat.{Seat}
use Rattle.run_names.specs.declared.label.Label.{Label}
use Rattle.run_names.specs.declared.label.Origin.{Origin}

-- whether two are the same
abbrev pub is_seat : Seat → Seat → Bool
is_seat s t = (s.home == t.home) && (s.id == t.id)

-- the label of what stands there
abbrev pub label_of : Seat → List (Seat × Label) → Option Label
label_of s labels = lookup (is_seat s) labels

-- no two are called the same
abbrev pub AreApart : List (Seat × Label) → Type 0
AreApart labels = (s t : Seat) (l : Label) → label_of s labels ≡ Some l → label_of t labels ≡ Some l → s ≡ t

-- the place of the last of an origin
abbrev pub last_place : Option ℕ → ℕ
last_place o = unwrap_or o 0

-- labels are apart: of each origin the last place is known, and none comes behind it
pub record AreKept (seats : Seat → Seat → Ordering) (origins : Origin → Origin → Ordering) (counts : BTreeMap Origin ℕ) (given : BTreeMap Seat Label) : Type 0 where
  pub counted : (s : Seat) (l : Label) → get seats given s ≡ Some l → l.place ≤ last_place (get origins counts l.origin)
  pub apart : AreApart given.entries
