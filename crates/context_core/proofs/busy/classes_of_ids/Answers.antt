use Rattle.std.proofs.Common.{◌≡◌, ◌+◌, ◌∷◌, drop, get_or, arith}
use Rattle.std.proofs.Math.Seq.{drop-cons}
use native.Mathlib.Numerals.{unary_clauses}
use Rattle.context_core.proofs.InClasses.{some_place, passed_id}
use Rattle.context_core.proofs.busy.classes_of_ids.Goals as goal

pub ids-preserved : goal.ids-preserved
ids-preserved c =
    let ids = c.args.ids.now in
    let i = c.ids.id-index in
    let left : drop i ids ≡ get_or ids i 0 ∷ drop (i + 1) ids = simp unary_clauses (drop-cons ids i 0 (omega arith)) in
    passed_id ids _ _ _ c.next_place-place.result c.ids.classes c.note.new.self left (some_place c.ids.place c.next_place-place.result c.next_place-place.ensures) c.note.ensures c.ids.invariant
