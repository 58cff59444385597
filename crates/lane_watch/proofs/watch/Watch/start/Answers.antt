use Rattle.std.proofs.Common.{◌≡◌, ℕ, false, Some, ap, sym, ◌∙◌, subst}
use Rattle.std.specs.Prelude.{OnOk, is_err, Result, Ok, Err}
use Rattle.task_steps.specs.Book.{Book, IsIn, with_task}
use Rattle.task_steps.specs.declared.book.BookFault.{BookFault}
use Rattle.lane_watch.specs.Watch.{Watched, IsJoined}
use Rattle.lane_watch.proofs.Joined.{joined_started}
use Rattle.lane_watch.proofs.watch.Watch.start.Goals as goal

pub invariant_of-self-2 : goal.invariant_of-self-2
invariant_of-self-2 c =
    let now = ap (λ (w : Watched). w.tasks.tick) c.self.view_is ∙ c.requires.now in
    let known : IsIn c.self.inside.view c.args.spec.now.cancel = subst (λ (w : Watched). IsIn w.view c.args.spec.now.cancel) (sym c.self.view_is) c.requires.known in
    let P : Book → Type 0 = λ b. IsJoined c.self.inside.tick c.self.inside.tick_us c.self.inside.view c.self.inside.came.items b (Some c.self.inside.tick) in
    let is : c.start.new.self ≡ with_task c.args.spec.now c.args.ctx c.args.tick c.self.inside.book = on_ok c.start.result (sym (c.is_err.ensures.value) ∙ c.if-is_err.false) c.start.ensures.ok in
    subst (λ (n : ℕ). IsJoined c.self.inside.tick c.self.inside.tick_us c.self.inside.view c.self.inside.came.items c.start.new.self (Some n)) (sym c.from.ensures)
    (subst P (sym is) (joined_started c.self.inside.tick c.self.inside.tick_us c.args.tick c.args.ctx c.self.inside.view c.self.inside.came.items c.self.inside.book c.self.inside.wake c.args.spec.now now known c.self.invariant))
  where
    on_ok : {P : Type 0} (r : Result ℕ BookFault) → is_err r ≡ false → OnOk r P → P
    on_ok (Ok n) e h = h
    on_ok (Err f) e h = cc
