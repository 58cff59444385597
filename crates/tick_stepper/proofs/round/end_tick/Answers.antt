use Rattle.std.proofs.Common.{◌≡◌, ◌+◌, ◌==◌, true, length, sym, ◌∙◌, rules}
use Rattle.tick_stepper.specs.Rest.{HasPassed}
use Rattle.tick_stepper.specs.declared.rest.Resting.{Resting}
use Rattle.tick_stepper.proofs.Handed.{of_rec}
use Rattle.tick_stepper.proofs.Resting.{none_long, all_passed}
use Rattle.tick_stepper.proofs.round.end_tick.Goals as goal

pub put_back-requires-clause-none : goal.put_back-requires-clause-none
put_back-requires-clause-none c =
    let zero : (length c.args.letters.now == 0) ≡ true = search rules in
    sym c.requires.turns.letters ∙ none_long c.args.letters.now zero

pub deliver_to_all-requires-clause-passed : goal.deliver_to_all-requires-clause-passed
deliver_to_all-requires-clause-passed c =
    let P : Resting → Type 0 = HasPassed (c.args.tick + 1) in
    of_rec P _ (all_passed c.args.script.now (c.args.tick + 1) c.args.resting.items c.requires.turns.rest)
