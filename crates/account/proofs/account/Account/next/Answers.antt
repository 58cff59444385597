use Rattle.std.proofs.Common.{◌≡◌, ◌+◌, ap, sym, subst, ◌∙◌, arith, add-one}
use Rattle.std.specs.Prelude.{Ok, IfSome}
use Rattle.lane_turn.specs.Tick.{lanes_at}
use Rattle.tick_stepper.specs.Account.{started, end_of}
use Rattle.account.specs.Course.{Course}
use Rattle.account.specs.Told.{HasGone}
use Rattle.account.proofs.Quiet.{passed_on, gone_on}
use Rattle.account.proofs.account.Account.next.Goals as goal

pub returns-in-Some-clause-gone : goal.returns-in-Some-clause-gone
returns-in-Some-clause-gone c =
    let old = c.args.self.now in
    let here = c.loop-tick.self in
    let now = c.go_on.new.self in
    gone_on old here now c.in-Some.moment c.in_ok-moment.ensures.script c.loop-tick.invariant.passed (subst (λ o. IfSome o (HasGone here now)) c.in-Some.is c.in_ok-moment.ensures.gone)

pub loop-tick-preserved : goal.loop-tick-preserved
loop-tick-preserved c =
    let old = c.args.self.now in
    let here = c.loop-tick.self in
    let now = c.go_on.new.self in
    let went = c.in_ok-moment.ensures in
    let none = ap (λ o. Ok o) c.in_default.is in
    let script = went.script ∙ c.loop-tick.invariant.script in
    let tick : now.tick ≡ c.loop-tick._tick + 1 = went.over none ∙ ap (λ k. k + 1) c.loop-tick.invariant.tick in
    record {
      unspent = went.lasts;
      script = script;
      tick = tick;
      fresh = λ _. went.begins none ∙ (λ j. started (lanes_at (script j) (tick j)));
      passed = passed_on old here now went.script c.loop-tick.invariant.passed (went.passed none);
    }

pub returns-clause-leads : goal.returns-clause-leads
returns-clause-leads c =
    let here = c.loop-tick.self in
    let most : c.self.inside.script.ticks ≡ c.args.self.now.script.ticks = ap (λ (v : Course). v.script.ticks) c.self.view_is in
    let last = c.loop-tick.auto._tick-end (omega (arith, c.self.invariant.0, c.ticks-tick-end.ensures.ticks)) in
    let end : c.loop-tick._tick ≡ c.args.self.now.script.ticks = omega (arith, most, last, c.ticks-tick-end.ensures.ticks, c.loop-tick-test.false) in
    let there : here.place ≡ started (lanes_at here.script here.tick) = c.loop-tick.invariant.fresh end ∙ sym (λ j. started (lanes_at (c.loop-tick.invariant.script j) (c.loop-tick.invariant.tick j))) in
    ap (end_of here.script here.tick) there ∙ ap (lanes_at here.script) (sym (add-one here.tick))
