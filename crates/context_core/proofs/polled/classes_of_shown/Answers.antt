use Rattle.std.proofs.Common.{◌≡◌, ℕ, ◌+◌, ◌∷◌, drop, get_or, min, refl, ap, ◌∙◌, arith}
use Rattle.std.proofs.Math.Seq.{drop-cons}
use Rattle.std.proofs.lemmas.Option.{slice_get-get_or}
use native.Mathlib.Numerals.{unary_clauses}
use Rattle.context_core.specs.declared.interest.Shown.{Shown}
use Rattle.context_core.specs.Classes.{far, noted}
use Rattle.context_core.proofs.InClasses.{empty_tells, some_place, next_min, passed_fd, first_fd}
use Rattle.context_core.proofs.polled.classes_of_shown.Goals as goal

pub list-init : goal.list-init
list-init c = record {
  place = refl;
  none = λ fd e. refl;
  first = rw c.new-classes.ensures (empty_tells c.args.list.now);
}

pub list-preserved : goal.list-preserved
list-preserved c =
    let list = c.args.list.now in
    let i = c.list.one-index in
    let d : Shown = record { fd = 0; level = 0 } in
    let one = get_or list i d in
    let place = c.next_place-place.result in
    let left : drop i list ≡ one ∷ drop (i + 1) list = simp unary_clauses (drop-cons list i d (omega arith)) in
    let new : c.note.new.self ≡ noted one.fd place c.list.classes = c.note.ensures ∙ ap (λ (n : ℕ). noted n place c.list.classes) c.from.ensures in
    let next : place ≡ min (i + 1) far = c.next_place-place.ensures ∙ next_min c.list.place i c.list.invariant.place in
    record {
      place = next;
      none = passed_fd list _ _ one place c.list.classes c.note.new.self left (some_place c.list.place place c.next_place-place.ensures) new c.list.invariant.none;
      first = first_fd list _ _ one i place c.list.classes c.note.new.self left (slice_get-get_or list i d (omega arith)) next new c.list.invariant.none c.list.invariant.first;
    }
