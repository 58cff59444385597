use Rattle.std.proofs.Common.{◌≡◌, ◌∙◌, ℕ, Option, false, ap, subst, sym}
use Rattle.std.specs.List.{list_any}
use Rattle.task_steps.specs.Book.{Book, IsIdle, MayComeToAll, all_noticed, replies_next}
use Rattle.task_steps.specs.BookInside.{entries_of, wake_of_all}
use Rattle.task_steps.specs.Polls.{all_shown}
use Rattle.task_steps.specs.Run.{IsAfter}
use Rattle.task_steps.specs.RunInside.{IsBy}
use Rattle.task_steps.proofs.Quiet.{idle_after}
use Rattle.task_steps.proofs.book.TaskBook.next_wake.Goals as goal

pub returns-else-owes_reply-clause-quiet : goal.returns-else-owes_reply-clause-quiet
returns-else-owes_reply-clause-quiet c = λ later f n a m.
    let b = c.self.inside in
    let es = entries_of b.tasks in
    let view = c.args.view.now in
    let last : IsBy c.args.tick b.last = subst (λ (x : Book). IsBy c.args.tick x.last) (sym c.self.view_is) c.requires.last in
    let owes : list_any (replies_next view) c.args.self.now.tasks ≡ false = sym c.owes_reply.ensures ∙ c.if-owes_reply.false in
    let none : list_any (replies_next view) (all_shown b.polled es) ≡ false = ap (λ (x : Book). list_any (replies_next view) x.tasks) c.self.view_is ∙ owes in
    let wake : IsAfter later (wake_of_all es) = subst (λ (w : Option ℕ). IsAfter later w) c.wake.ensures a in
    let may : MayComeToAll f (all_noticed later view (all_shown b.polled es)) =
    subst (λ (x : Book). MayComeToAll f (all_noticed later view x.tasks)) (sym c.self.view_is) m in
    subst (λ (x : Book). IsIdle later f x.tasks) c.self.view_is
    (idle_after c.args.tick later b.last b.polled view f es c.self.invariant.waiting c.self.invariant.past last n wake none may)
