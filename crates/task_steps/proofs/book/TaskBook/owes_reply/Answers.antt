use Rattle.std.proofs.Common.{◌≡◌, ◌∙◌, ℕ, List, false, ap, sym, rules}
use Rattle.std.specs.List.{list_any}
use Rattle.cancel_view.specs.Seen.{has}
use Rattle.task_steps.specs.Book.{Book, replies_next}
use Rattle.task_steps.specs.BookInside.{entries_of}
use Rattle.task_steps.specs.Polls.{owes_reply}
use Rattle.task_steps.proofs.Heeding.{none_came, owes_none, owes_shown}
use Rattle.task_steps.proofs.book.TaskBook.owes_reply.Goals as goal

pub returns-then-some_came : goal.returns-then-some_came
returns-then-some_came c =
    let b = c.self.inside in
    c.reply_next.ensures ∙ (owes_shown c.args.view.now b.polled (entries_of b.tasks) ∙ ap (λ (x : Book). list_any (replies_next c.args.view.now) x.tasks) c.self.view_is)

pub returns : goal.returns
returns c =
    let b = c.self.inside in
    let view = c.args.view.now in
    let es = entries_of b.tasks in
    let listed : c.deref.result.now ≡ b.heeded.items = search rules in
    let none : list_any (λ (x : ℕ). has x view) b.heeded.items ≡ false = ap (λ (l : List ℕ). list_any (λ (x : ℕ). has x view) l) (sym listed) ∙ (sym c.some_came.ensures ∙ c.if-some_came.false) in
    let owes : list_any (owes_reply view) es ≡ false = owes_none view es (none_came view b.heeded.items es none c.self.invariant.listed) in
    sym owes ∙ (owes_shown view b.polled es ∙ ap (λ (x : Book). list_any (replies_next view) x.tasks) c.self.view_is)
