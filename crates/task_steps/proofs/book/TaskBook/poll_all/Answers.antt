use Rattle.std.proofs.Common.{◌≡◌, ◌∙◌, ℕ, List, [], take, subst, sym, ap, arith, rules}
use Rattle.std.specs.List.{list_any}
use Rattle.cancel_view.specs.Seen.{has}
use Rattle.task_steps.specs.declared.tasks.Tasks.{Tasks}
use Rattle.task_steps.specs.Book.{Book, IsNext, HasGrown}
use Rattle.task_steps.specs.BookInside.{AreListed, entries_of, wake_of_all, AreMarked}
use Rattle.task_steps.specs.Polls.{CanPollAll, NoneComes, all_shown}
use Rattle.task_steps.specs.Run.{IsUpTo}
use Rattle.std.proofs.lemmas.List.{take_all}
use Rattle.task_steps.proofs.Heeding.{none_came_once, listed_once, listed_unseen}
use Rattle.task_steps.proofs.PollAll.{can_poll_all, poll_gives}
use Rattle.task_steps.proofs.Waiting.{going_on, none_shown}
use Rattle.task_steps.proofs.book.TaskBook.poll_all.Goals as goal

pub poll-requires : goal.poll-requires
poll-requires c =
    let b = c.self.inside in
    let es = entries_of b.tasks in
    let view = c.args.view.now in
    let next : IsNext c.args.tick b.last = subst (λ (x : Book). IsNext c.args.tick x.last) (sym c.self.view_is) c.requires.last in
    let wake : IsUpTo c.args.tick (wake_of_all es) = subst (λ (x : Book). IsUpTo c.args.tick x.wake) (sym c.self.view_is) c.requires.wake in
    let grown : HasGrown view (all_shown b.polled es) = subst (λ (x : Book). HasGrown view x.tasks) (sym c.self.view_is) c.requires.view in
    let can : CanPollAll c.args.tick b.polled view es = can_poll_all c.args.tick b.last b.polled view es c.self.invariant.waiting c.self.invariant.past next wake grown in
    let listed : c.first_of.result.now ≡ take b.of_polled b.heeded.items = search rules in
    let some : c.some_came.result ≡ list_any (λ (x : ℕ). has x view) (take b.of_polled b.heeded.items) = c.some_came.ensures ∙ ap (λ (l : List ℕ). list_any (λ (x : ℕ). has x view) l) listed in
    let came : NoneComes c.some_came.result view es = λ k. none_came_once view (take b.of_polled b.heeded.items) es (sym some ∙ k) c.self.invariant.first in
    let same : c.replace-tasks.result ≡ b.tasks = c.replace-tasks.ensures.value in
    record {
      marked = subst (λ (x : Tasks). AreMarked x) (sym same) c.self.invariant.marked;
      tick = c.requires.tick;
      can = subst (λ (x : Tasks). CanPollAll c.args.tick b.polled view (entries_of x)) (sym same) can;
      came = subst (λ (x : Tasks). NoneComes c.some_came.result view (entries_of x)) (sym same) came;
    }

pub invariant_of-self-2 : goal.invariant_of-self-2
invariant_of-self-2 c =
    let b = c.self.inside in
    let view = c.args.view.now in
    let same : c.replace-tasks.result ≡ b.tasks = c.replace-tasks.ensures.value in
    let listed : AreListed b.heeded.items (entries_of c.replace-tasks.result) = subst (λ (x : Tasks). AreListed b.heeded.items (entries_of x)) (sym same) c.self.invariant.listed in
    let on : AreListed c.forget_seen.new.heeded.items (entries_of c.poll.new.self) = rw c.forget_seen.ensures (listed_unseen view b.heeded.items _ c.in-Ok.ensures.polled.noticed (c.in-Ok.ensures.polled.listed b.heeded.items listed)) in
    record {
      some = c.self.invariant.some;
      short = c.self.invariant.short;
      waiting = c.in-Ok.ensures.polled.waiting;
      past = omega arith;
      marked = c.in-Ok.ensures.marked;
      listed = on;
      first = rw (take_all c.len-self-inside.result c.forget_seen.new.heeded.items (omega arith)) (listed_once c.forget_seen.new.heeded.items (entries_of c.poll.new.self) on);
      forgotten = going_on c.if-self.false;
    }

found : (c : goal.After-from_vec-2) → all_shown c.self.inside.polled (entries_of c.replace-tasks.result) ≡ c.args.self.now.tasks
found c =
    let same : c.replace-tasks.result ≡ c.self.inside.tasks = c.replace-tasks.ensures.value in
    ap (λ (x : Tasks). all_shown c.self.inside.polled (entries_of x)) same ∙ ap (λ (x : Book). x.tasks) c.self.view_is

pub returns-clause-replies : goal.returns-clause-replies
returns-clause-replies c = λ f m.
    c.from_vec.ensures ∙ (poll_gives c.in-Ok.ensures.polled c.args.self.now.tasks (found c) c.new-replies.ensures.items c.new-late.ensures.items f m).0

pub returns-clause-late : goal.returns-clause-late
returns-clause-late c = λ f m.
    c.from_vec-2.ensures ∙ (poll_gives c.in-Ok.ensures.polled c.args.self.now.tasks (found c) c.new-replies.ensures.items c.new-late.ensures.items f m).1

pub returns-clause-tasks : goal.returns-clause-tasks
returns-clause-tasks c = λ f m.
    (poll_gives c.in-Ok.ensures.polled c.args.self.now.tasks (found c) c.new-replies.ensures.items c.new-late.ensures.items f m).2

pub returns-in_default-clause-none : goal.returns-in_default-clause-none
returns-in_default-clause-none c = λ s e.
    let b = c.self.inside in
    let same : c.replace-tasks.result ≡ b.tasks = c.replace-tasks.ensures.value in
    let shown : all_shown b.polled (entries_of b.tasks) ≡ [] = ap (λ (x : Book). x.tasks) c.self.view_is ∙ e in
    c.in_default.ensures.none (ap entries_of same ∙ none_shown b.polled (entries_of b.tasks) shown)
