use Rattle.std.proofs.Common.{◌-◌, ◌≤◌, sym, subst, arith}
use Rattle.lane_watch.specs.Watch.{Watched, GivesNothing}
use Rattle.lane_watch.proofs.Given.{gives_later}
use Rattle.lane_watch.proofs.watch.Watch.next_wake.Goals as goal

pub returns : goal.returns
returns c = λ k le a.
    let w = c.self.inside in
    let past : w.tick ≤ k = subst (λ (v : Watched). v.tasks.tick ≤ k) (sym c.self.view_is) le in
    subst (λ (v : Watched). GivesNothing k v.tasks) c.self.view_is (gives_later (k - w.tick) w.tick k w.tick_us w.view w.came.items w.book w.wake (omega arith) a c.self.invariant)
