use Rattle.std.proofs.Common.{◌≡◌, ◌+◌, ◌++◌, List, subst, rules}
use Rattle.std.specs.Prelude.{IsPermutation}
use Rattle.tick_stepper.specs.Share.{IsReadyOne}
use Rattle.tick_stepper.specs.Rest.{all_woken}
use Rattle.tick_stepper.specs.declared.rest.Resting.{Resting}
use Rattle.tick_stepper.proofs.Handed.{of_rec}
use Rattle.tick_stepper.proofs.RestsOn.{none_known}
use Rattle.tick_stepper.proofs.Resting.{done_ready, put_back_at}
use Rattle.tick_stepper.proofs.round.put_back.Goals as goal

pub settle-requires-clause-ready : goal.settle-requires-clause-ready
settle-requires-clause-ready c =
    let script = c.args.script.now in
    of_rec (IsReadyOne script (c.args.tick + 1)) c.args.done.items (done_ready script c.args.tick c.args.done.items (all_woken (c.args.tick + 1) c.args.resting.items) c.requires.few c.requires.tick c.requires.lanes)

pub settle-requires-clause-known : goal.settle-requires-clause-known
settle-requires-clause-known c = none_known c.args.script.now c.args.tick _

pub returns : goal.returns
returns c =
    let ones = c.in_ok-ones.ones.items in
    let rest = c.args.resting.items in
    let all : c.append.new.self.items ≡ ones ++ rest = search rules in
    let same = subst (λ (l : List Resting). IsPermutation l c.in_ok-by_number.field-0.items) all c.in_ok-by_number.ensures.same in
    put_back_at c.args.script.now c.args.tick c.args.done.items rest ones c.in_ok-by_number.field-0.items c.requires.few c.requires.tick c.requires.rest c.requires.lanes c.requires.none c.in_ok-ones.ensures same c.in_ok-by_number.ensures.order
