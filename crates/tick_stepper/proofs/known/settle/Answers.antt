use Rattle.std.proofs.Common.{◌≡◌, ◌∷◌, ◌++◌, length, refl, sym, ap, ◌∙◌, subst, rules}
use Rattle.std.specs.Prelude.{slice_get}
use Rattle.std.proofs.lemmas.Bool.{ltb-true}
use Rattle.std.proofs.lemmas.Option.{slice_get_read}
use Rattle.tick_stepper.specs.Known.{AreKnown}
use Rattle.tick_stepper.proofs.RestsOn.{known_there}
use Rattle.tick_stepper.proofs.known.settle.Goals as goal
use Rattle.tick_stepper.proofs.known.settle.Goals.{in-Some-get, in-None-get}

pub rest_on-requires-clause-known : goal.rest_on-requires-clause-known
rest_on-requires-clause-known c =
    let script = c.args.script.now in
    let rested = c.args.rested.now in
    let parts : c.args.lanes.items ≡ c.loop-lane.yielded ++ c.in-Some.lane ∷ c.next.new.self.rest.items = search rules in
    let known = subst (λ ls. AreKnown script c.args.tick ls rested) parts c.requires.known in
    elim c.match-get.branch [
      | in-Some-get w ↦
          let one = w.in-Some-get.known in
          let place : c.len-in-loop-lane.result ≡ length c.loop-lane.yielded = search rules in
          let there = slice_get_read rested _ c.len-in-loop-lane.result one.now refl (ltb-true _ _ (sym w.in-Some-get.ensures.lookup.0)) w.in-Some-get.ensures.lookup.1 in
          rw w.known-is (known_there script c.args.tick c.loop-lane.yielded c.in-Some.lane c.next.new.self.rest.items rested one.now known (ap (slice_get rested) (sym place) ∙ there))
      | in-None-get w ↦ rw w.known-is tt
    ]
