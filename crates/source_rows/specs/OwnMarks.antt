-- That what opens a source has a mark of its own.
use Rattle.std.specs.Prelude.{◌≡◌, ◌<◌}
use Rattle.cancel_view.specs.Marks.{cancel_number, no_mark}
use Rattle.cancel_view.specs.Units.{CancellableNumber}
use Rattle.loop_script.specs.Bounds.{most_items}
use Rattle.source_rows.specs.Candidates.{descriptor_number, always_number}

-- Two cancellables that a script can name share no mark; none has that of descriptors or of what is always open, which are two and are marks.
pub record MarkLaws : Type 0 where
  pub apart : (c d : CancellableNumber) → c < most_items → d < most_items → cancel_number c ≡ cancel_number d → c ≡ d
  pub below : (c : CancellableNumber) → cancel_number c < descriptor_number
  pub two : descriptor_number < always_number
  pub marks : always_number < no_mark
