use Rattle.std.proofs.Common.{◌+◌, length, ap, sym, ◌∙◌}
use Rattle.cancel_view.proofs.Kept.{kept_pushed}
use Rattle.cancel_view.proofs.handlers.Handlers.push.Goals as goal

pub invariant_of-self-in_default : goal.invariant_of-self-in_default
invariant_of-self-in_default c =
    let next = c.next_id-id.ensures ∙ ap (λ slots. length slots + 1) (sym c.self.view_is) in
    kept_pushed (record { cancellable = c.args.cancellable; proc = c.args.proc }) c.next_id-id.result c.self.inside.slots.items _ _ _ c.self.invariant next c.in_ok-push.ensures.items c.in_default.ensures.ok
