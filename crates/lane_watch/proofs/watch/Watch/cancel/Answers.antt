use Rattle.std.proofs.Common.{ℕ, ◌+◌, Some, ap, sym, ◌∙◌, subst, List, Option, true, slice_set}
use Rattle.cancel_view.specs.Seen.{Seen, has, fired}
use Rattle.lane_watch.specs.Watch.{Watched, IsJoined}
use Rattle.lane_watch.proofs.Joined.{joined_noted, not_there, was_there, cancelled_in, cancelled_out}
use Rattle.lane_watch.proofs.watch.Watch.cancel.Goals as goal

pub invariant_of-self-then-is_some : goal.invariant_of-self-then-is_some
invariant_of-self-then-is_some c =
    let now = ap (λ (w : Watched). w.tasks.tick) c.self.view_is ∙ c.requires in
    let out = not_there (has c.args.c c.self.inside.view) c.in_ok-fired.fired (fired c.args.c c.self.inside.view) c.in_ok-fired.ensures.fired c.if-is_some.ensures in
    let view = c.in_ok-fired.ensures.view ∙ cancelled_out c.args.c c.self.inside.view out in
    let P : Seen → Type 0 = λ v. IsJoined c.self.inside.tick c.self.inside.tick_us v c.note.new.came.items c.self.inside.book (Some (c.args.tick + 1)) in
    let noted : Seen = record c.self.inside.view { members = slice_set c.self.inside.view.members c.args.c true } in
    let Q : List (Option ℕ) → Type 0 = λ came. IsJoined c.self.inside.tick c.self.inside.tick_us noted came c.self.inside.book (Some (c.args.tick + 1)) in
    subst (λ (n : ℕ). IsJoined c.self.inside.tick c.self.inside.tick_us c.cancel.new.self c.note.new.came.items c.self.inside.book (Some (n + 1))) (sym c.from.ensures)
    (subst P (sym view) (subst Q (sym c.note.ensures) (joined_noted c.self.inside.tick c.self.inside.tick_us c.args.c c.args.tick c.self.inside.view c.self.inside.came.items c.self.inside.book c.self.inside.wake now out c.self.invariant)))

pub invariant_of-self-else-is_some : goal.invariant_of-self-else-is_some
invariant_of-self-else-is_some c =
    let view = c.self.inside.view in
    let there = was_there (has c.args.c view) c.in_ok-fired.fired (fired c.args.c view) c.in_ok-fired.ensures.fired (sym c.is_some.ensures ∙ c.if-is_some.false) in
    let P : Seen → Type 0 = λ v. IsJoined c.self.inside.tick c.self.inside.tick_us v c.self.inside.came.items c.self.inside.book c.self.inside.wake in
    subst P (sym (c.in_ok-fired.ensures.view ∙ cancelled_in c.args.c view there)) c.self.invariant
