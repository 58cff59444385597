use Rattle.std.proofs.Common.{◌≡◌, ℕ, ◌==◌, ◌||◌, true, drop}
use Rattle.std.specs.Prelude.{IfSome}
use Rattle.std.specs.List.{list_any}
use Rattle.std.specs.Ordering.{nat_cmp}
use Rattle.std.specs.BTreeSet.{contains}
use Rattle.context_core.proofs.visit.lend.Given as goal

abbrev pub invariant-loop-id : goal.invariant-loop-id
invariant-loop-id l = record {
  ids : (i : ℕ) → (list_any (λ j. j == i) (drop l.id-index l.lineage) || contains nat_cmp l.ids i) ≡ (list_any (λ j. j == i) l.lineage || contains nat_cmp l.fn.ids i);
  last : IfSome l.last (λ j. contains nat_cmp l.ids j ≡ true);
}
