use Rattle.std.proofs.Common.{◌≡◌, ℕ, ◌==◌, drop}
use Rattle.std.specs.List.{list_any}
use Rattle.context_core.specs.Classes.{place_of}
use Rattle.context_core.proofs.busy.classes_of_ids.Given as goal

abbrev pub invariant-ids : goal.invariant-ids
invariant-ids l = (id : ℕ) → place_of id l.classes ≡ 0 → list_any (λ b. b == id) l.ids ≡ list_any (λ b. b == id) (drop l.id-index l.ids)
