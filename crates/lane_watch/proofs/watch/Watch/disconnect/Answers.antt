use Rattle.std.proofs.Common.{ap, ◌∙◌}
use Rattle.cancel_view.specs.Seen.{Seen}
use Rattle.lane_watch.proofs.Asleep.{joined_viewed, without_members}
use Rattle.lane_watch.proofs.watch.Watch.disconnect.Goals as goal

pub invariant_of-self : goal.invariant_of-self
invariant_of-self c =
    let v = c.self.inside.view in
    let same = ap (λ (w : Seen). w.members) c.disconnect.ensures.view ∙ without_members c.args.id v in
    joined_viewed c.self.inside.tick c.self.inside.tick_us v c.disconnect.new.self c.self.inside.came.items c.self.inside.book c.self.inside.wake same c.self.invariant
