use Rattle.std.proofs.Common.{◌≡◌, ℕ, ◌+◌, ◌-◌, ◌<◌, sym, subst, arith}
use Rattle.task_steps.specs.Book.{Book, passed}
use Rattle.task_steps.specs.Run.{IsAfter}
use Rattle.lane_watch.specs.Watch.{Watched, IsJoined}
use Rattle.lane_watch.proofs.Asleep.{joined_skipped, after_last}
use Rattle.lane_watch.proofs.watch.Watch.skip.Goals as goal

pub pass-requires-clause-last : goal.pass-requires-clause-last
pass-requires-clause-last c =
    let w = c.self.inside in
    let past : w.tick < c.args.tick = subst (λ (v : Watched). v.tasks.tick < c.args.tick) (sym c.self.view_is) c.requires in
    after_last w.tick (c.args.tick - 1) w.book.last (omega arith) c.self.invariant.last

pub pass-requires-clause-wake : goal.pass-requires-clause-wake
pass-requires-clause-wake c =
    let w = c.self.inside in
    let past : w.tick < c.args.tick = subst (λ (v : Watched). v.tasks.tick < c.args.tick) (sym c.self.view_is) c.requires in
    (c.self.invariant.asleep (c.args.tick - 1) (omega arith) (c.is_before.ensures.0 c.if-not-is_before.false)).0

pub invariant_of-self : goal.invariant_of-self
invariant_of-self c =
    let w = c.self.inside in
    let past : w.tick < c.args.tick = subst (λ (v : Watched). v.tasks.tick < c.args.tick) (sym c.self.view_is) c.requires in
    let last = c.args.tick - 1 in
    let before : IsAfter last w.wake = c.is_before.ensures.0 c.if-not-is_before.false in
    let to : last + 1 ≡ c.args.tick = omega arith in
    let on = joined_skipped (last - w.tick) w.tick last w.tick_us w.view w.came.items w.book w.wake (omega arith) before c.self.invariant in
    subst (λ (b : Book). IsJoined c.args.tick w.tick_us w.view w.came.items b w.wake) (sym c.pass.ensures.passed)
    (subst (λ (k : ℕ). IsJoined k w.tick_us w.view w.came.items (passed last w.book) w.wake) to on)
