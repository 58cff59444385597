use Rattle.std.proofs.Common.{◌≡◌}
use Rattle.std.specs.List.{flat_map}
use Rattle.tick_stepper.specs.Call.{IsReply}
use Rattle.tick_stepper.proofs.stay.collect.Given as goal

abbrev pub invariant-loop-reply : goal.invariant-loop-reply
invariant-loop-reply g l =
    (goal.iterator-loop-reply g).can_next l.reply-iterator × (goal.iterator-loop-reply g).is_finite l.reply-iterator
    × IsReply g.J.Planned.plan l.tick l.lanes.items l.letters.items
    × (l.lanes.items ≡ flat_map (λ reply. reply.share.lanes.items) l.yielded)
