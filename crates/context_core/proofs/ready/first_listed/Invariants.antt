use Rattle.std.proofs.Common.{◌≡◌, false, drop}
use Rattle.std.specs.Prelude.{IfSome}
use Rattle.std.specs.List.{find}
use Rattle.context_core.specs.Standing.{is_in_call}
use Rattle.context_core.proofs.ready.first_listed.Given as goal

abbrev pub invariant-loop-id : goal.invariant-loop-id
invariant-loop-id l = record {
  rest : find (is_in_call l.busy) (drop l.id-index l.lineage) ≡ find (is_in_call l.busy) l.lineage;
  last : IfSome l.last (λ id. is_in_call l.busy id ≡ false);
}
