use Rattle.std.proofs.Common.{◌≡◌, ◌<◌, ap, sym, ◌∙◌, arith, rules, length}
use Rattle.post_office.specs.Merge.{concat}
use Rattle.post_office.specs.LetterQueue.{keeper}
use Rattle.post_office.proofs.Merges.{length_concat}
use Rattle.post_office.proofs.LetterQueues.{comes_back}
use Rattle.post_office.proofs.office.Office.take_back.Goals as goal

pub absorb-requires-clause-rule : goal.absorb-requires-clause-rule
absorb-requires-clause-rule c = comes_back _ c.self.inside.own.me.view.client _ c.pass.inside.seat.me.view.client (ap (λ v. v.is_own) c.self.invariant.0) (ap (λ v. v.out) c.pass.invariant.0)

pub invariant_of-self : goal.invariant_of-self
invariant_of-self c =
    let is = c.absorb.ensures.rule in
    let own_is = is ∙ sym (ap (λ v. keeper v.recorded v.drained v.out) is) in
    let counted = (λ (lt : c.saturating_add-self-inside.result < 18446744073709551615).
    let sum = c.saturating_add-self-inside.ensures in
    let a : c.self.inside.count < 18446744073709551615 = omega arith in
    let b : c.pass.inside.count < 18446744073709551615 = omega arith in
    let added : length (concat c.absorb.new.pass.me.view.client.recorded) ≡ c.saturating_add-self-inside.result = omega (arith, ap (λ v. length (concat v.recorded)) is, length_concat c.self.inside.own.me.view.client.recorded c.pass.inside.seat.me.view.client.posted, c.self.invariant.4 a, c.pass.invariant.3 b) in added) in
    search (rules, own_is, counted)
