use Rattle.std.proofs.Common.{◌≡◌, sym, ap, ◌∙◌, subst, rules}
use Rattle.std.specs.List.{AllByRecursion}
use Rattle.tick_stepper.specs.Share.{IsRound}
use Rattle.tick_stepper.specs.Rest.{is_due, all_woken, HasPassed}
use Rattle.tick_stepper.specs.declared.rest.Resting.{Resting}
use Rattle.tick_stepper.proofs.Handed.{of_rec}
use Rattle.tick_stepper.proofs.Resting.{all_kept, all_passed, round_due}
use Rattle.tick_stepper.proofs.round.begin_tick.Goals as goal

pub wake_all-requires-clause-passed : goal.wake_all-requires-clause-passed
wake_all-requires-clause-passed c =
    let P : Resting → Type 0 = HasPassed c.args.tick in
    of_rec P _ (subst (AllByRecursion P) (sym c.in_ok-due.ensures.due) (all_kept (is_due c.args.tick) P c.args.lanes.items (all_passed c.args.script.now c.args.tick c.args.lanes.items c.requires.lanes.rest)))

pub returns-clause-round : goal.returns-clause-round
returns-clause-round c =
    let woken : c.in_ok-due-2.due.items ≡ all_woken c.args.tick c.in_ok-due.due.items = search rules in
    subst (IsRound c.args.script.now c.args.tick) (sym (woken ∙ ap (all_woken c.args.tick) c.in_ok-due.ensures.due)) (round_due c.args.script.now c.args.tick c.args.lanes.items c.requires.lanes c.requires.few c.requires.tick)

pub returns-clause-parted : goal.returns-clause-parted
returns-clause-parted c =
    let woken : c.in_ok-due-2.due.items ≡ all_woken c.args.tick c.in_ok-due.due.items = search rules in
    record { due = woken ∙ ap (all_woken c.args.tick) c.in_ok-due.ensures.due; resting = c.in_ok-due.ensures.rest }
