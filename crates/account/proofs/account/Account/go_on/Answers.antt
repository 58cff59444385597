use Rattle.std.proofs.Common.{◌≡◌, ◌+◌, ◌<◌, ◌≤◌, false, ap, subst, sym, ◌∙◌, arith}
use Rattle.std.specs.Prelude.{Ok}
use Rattle.lane_turn.specs.Tick.{lanes_at}
use Rattle.tick_stepper.specs.Account.{Place, started, lanes_in}
use Rattle.account.specs.Course.{Course}
use Rattle.account.specs.declared.going.Going.{Going}
use Rattle.account.specs.Told.{IsQuietTo, HasPassed}
use Rattle.account.specs.Standing.{place_of, AreUnspent}
use Rattle.tick_stepper.specs.Share.{lanes_in as lanes_of}
use Rattle.account.proofs.Within.{ends_within}
use Rattle.account.proofs.Goings.{stands_started, lanes_in_place, still}
use Rattle.account.proofs.Quiet.{one_more, quiet_end}
use Rattle.account.proofs.account.Account.go_on.Goals as goal

pub invariant_of-self-in_default : goal.invariant_of-self-in_default
invariant_of-self-in_default c =
    let s = c.self.inside in
    let left : s.tick < s.script.ticks = subst (λ (v : Course). v.tick < v.script.ticks) (sym c.self.view_is) c.requires.left in
    let few = c.self.invariant.1 in
    let began = c.begin_tick.ensures in
    let over : lanes_of c.next.new.self.lanes.items ≡ lanes_at s.script (s.tick + 1) = c.in_ok-moment.ensures.over (ap (λ o. Ok o) c.in_default.is) in
    let unspent = subst (λ v. AreUnspent v.items) (sym began.lanes) c.in_ok-moment.ensures.stands.unspent in
    let lanes = ap (λ v. lanes_of v.items) began.lanes ∙ over in
    let there = began.place ∙ ap (λ v. started (lanes_of v.items)) (sym began.lanes) in
    let low : s.tick + 1 ≤ 4096 = omega (arith, left, c.ticks-most.ensures.few, c.ticks-most.ensures.ticks) in (
      omega (arith, left),
      few,
      λ _. record {
        stands = stands_started s.script (s.tick + 1) c.begin_tick.new.self few low there began.phase began.begun unspent lanes;
        last = λ _. began.place ∙ ap started over;
      },
    )

pub returns-clause-leads : goal.returns-clause-leads
returns-clause-leads c = ends_within c.self.inside.script c.self.inside.tick _ c.in_ok-moment.ensures.stands.within

pub returns-in_default-clause-passed : goal.returns-in_default-clause-passed
returns-in_default-clause-passed c _ =
    let s = c.self.inside in
    let began = c.begin_tick.ensures in
    let next : Going = c.next.new.self in
    let now : Course = record { script = s.script; tick = s.tick + 1; place = place_of c.begin_tick.new.self; spent = false } in
    let none = c.in_ok-moment.ensures.passed (ap (λ o. Ok o) c.in_default.is) in
    let quiet = one_more s.script _ _ _ none.quiet (quiet_end s.script s.tick (place_of next) none.none none.last) in
    let there : started (lanes_in (place_of next)) ≡ now.place = sym (began.place ∙ ap started (sym (lanes_in_place next))) in
    let passed : HasPassed (record { script = s.script; tick = s.tick; place = place_of s.going; spent = s.spent }) now = record {
      quiet = subst (λ (p : Place). IsQuietTo s.script (record { tick = s.tick; place = place_of s.going }) (record { tick = s.tick + 1; place = p })) there quiet;
      lanes = still next c.begin_tick.new.self (ap (λ v. lanes_of v.items) began.lanes) ∙ none.lanes;
    } in
    subst (λ (v : Course). HasPassed v now) c.self.view_is passed
