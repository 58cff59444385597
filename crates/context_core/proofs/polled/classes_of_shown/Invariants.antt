use Rattle.std.proofs.Common.{◌≡◌, ℕ, drop, min}
use Rattle.context_core.specs.Phases.{shown}
use Rattle.context_core.specs.Classes.{far, place_of, TellsFirst}
use Rattle.context_core.proofs.polled.classes_of_shown.Given as goal

abbrev pub invariant-list : goal.invariant-list
invariant-list l = record {
  place : l.place ≡ min l.one-index far;
  none : (fd : ℕ) → place_of fd l.classes ≡ 0 → shown l.list fd ≡ shown (drop l.one-index l.list) fd;
  first : TellsFirst l.list l.classes;
}
