use Rattle.std.proofs.Common.{ap, ◌∙◌}
use Rattle.std.specs.Prelude.{OnOk, OnErr, Result, Ok, Err}
use Rattle.cancel_view.specs.Seen.{Seen}
use Rattle.lane_watch.proofs.Asleep.{joined_viewed, connected_members}
use Rattle.lane_watch.proofs.watch.Watch.connect.Goals as goal

pub invariant_of-self : goal.invariant_of-self
invariant_of-self c =
    let v = c.self.inside.view in
    let same = either c.connect.result (λ e. ap (λ (w : Seen). w.members) e ∙ connected_members c.args.c c.args.proc v) (ap (λ (w : Seen). w.members)) c.connect.ensures.view c.connect.ensures.same in
    joined_viewed c.self.inside.tick c.self.inside.tick_us v c.connect.new.self c.self.inside.came.items c.self.inside.book c.self.inside.wake same c.self.invariant
  where
    either : {A E P Q R : Type 0} (r : Result A E) → (P → R) → (Q → R) → OnOk r P → OnErr r Q → R
    either (Ok a) f g p q = f p
    either (Err e) f g p q = g q
