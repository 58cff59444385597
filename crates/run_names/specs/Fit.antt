-- What things are called by, in a run of a script with names.
use Rattle.std.specs.Prelude.{◌≡◌, ◌<◌, ◌^◌, List, Some}
use Rattle.named.specs.Names.{Names}
use Rattle.run_names.specs.declared.label.Label.{Label}
use Rattle.run_names.specs.declared.label.Origin.{Origin}
use Rattle.run_names.specs.declared.label.Origin.TheVariants.{Slot, Reply, Invoke}
use Rattle.run_names.specs.declared.label.Seat.{Seat}
use Rattle.run_names.specs.Called.{HaveNumbers}
use Rattle.run_names.specs.Labelled.{label_of, AreApart}
use Rattle.run_names.specs.Text.{Calling}

-- the numbers of an origin, and of a label, are those of their types
abbrev pub OriginFits : Origin → Type 0
OriginFits (Slot slot) = slot < 2 ^ 64
OriginFits (Reply lane number) = (lane < 2 ^ 64) × (number < 2 ^ 64)
OriginFits (Invoke procedure) = procedure < 2 ^ 64

pub record LabelFits (l : Label) : Type 0 where
  pub origin : OriginFits l.origin
  pub place : l.place < 2 ^ 64

-- the labels of sources or of handlers: no two alike
pub record AreLabels (labels : List (Seat × Label)) : Type 0 where
  pub apart : AreApart labels
  pub fit : (s : Seat) (l : Label) → label_of s labels ≡ Some l → LabelFits l

-- of a script with names: each name has its number, and no two sources and no two handlers are called the same
pub record IsOfNames (c : Calling) (ns : Names) : Type 0 where
  pub names : c.names ≡ Some ns
  pub numbers : HaveNumbers ns
  pub sources : AreLabels c.sources
  pub handlers : AreLabels c.handlers
