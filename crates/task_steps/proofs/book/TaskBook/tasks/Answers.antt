use Rattle.std.proofs.Common.{◌≡◌, ◌∙◌, ◌++◌, List, map, ap, subst, sym}
use Rattle.task_steps.specs.declared.look.TaskShown.{TaskShown}
use Rattle.task_steps.specs.Book.{Book}
use Rattle.task_steps.specs.BookInside.{entries_of}
use Rattle.task_steps.specs.Polls.{all_shown}
use Rattle.task_steps.specs.Shown.{entry_shown, WakeAsShown}
use Rattle.task_steps.proofs.Shown.{wake_as_shown}
use Rattle.task_steps.proofs.book.TaskBook.tasks.Goals as goal

pub returns-clause-ends : goal.returns-clause-ends
returns-clause-ends c =
    let b = c.self.inside in
    let es = entries_of b.tasks in
    let items : c.show.new.list.items ≡ map entry_shown es = c.in_ok-show.ensures ∙ ap (λ (l : List TaskShown). l ++ map entry_shown es) c.new-list.ensures.items in
    let inside : WakeAsShown b.last (all_shown b.polled es) c.show.new.list.items =
    subst (λ (l : List TaskShown). WakeAsShown b.last (all_shown b.polled es) l) (sym items) (wake_as_shown b.tick_us b.last b.polled b.spent b.heeded.items b.of_polled b.tasks c.self.invariant) in
    subst (λ (x : Book). WakeAsShown x.last x.tasks c.show.new.list.items) c.self.view_is inside
