use Rattle.std.proofs.Common.{◌≡◌, ◌∙◌, ◌+◌, Some, Option, ℕ, false, subst, sym, ap, ◌++◌, ◌∷◌, [], List, take}
use Rattle.task_steps.specs.declared.entry.Entry.{Entry}
use Rattle.task_steps.specs.declared.tasks.Tasks.{Tasks}
use Rattle.task_steps.specs.Wake.{sooner}
use Rattle.task_steps.specs.Task.{Task}
use Rattle.task_steps.specs.Book.{Book, IsStart, started, with_task}
use Rattle.task_steps.specs.BookInside.{AreWaiting, AreListed, AreListedOnce, entries_of, wake_of_all, heeding}
use Rattle.task_steps.specs.Polls.{all_shown}
use Rattle.task_steps.proofs.Marks.{wake_joined, sooner_none}
use Rattle.task_steps.proofs.Waiting.{waiting_added, shown_added, wake_fresh, listed_added, first_added, polled_start, going_on}
use Rattle.task_steps.proofs.book.TaskBook.add.Goals as goal

added : (c : goal.After-self-3-1) → entries_of c.push.new.self ≡ entries_of c.self.inside.tasks ++ c.in_ok-entry.entry ∷ []
added c =
    let all : entries_of c.push.new.self ≡ entries_of c.replace-tasks.result ++ c.in_ok-entry.entry ∷ [] = c.in_ok-push.ensures.entries in
    let before : c.replace-tasks.result ≡ c.self.inside.tasks = c.replace-tasks.ensures.value in
    all ∙ ap (λ (x : Tasks). entries_of x ++ c.in_ok-entry.entry ∷ []) before

pub invariant_of-self-2 : goal.invariant_of-self-2
invariant_of-self-2 c =
    let b = c.self.inside in
    let start : IsStart c.args.tick b.last = subst (λ (x : Book). IsStart c.args.tick x.last) (sym c.self.view_is) c.requires.last in
    let spent : b.spent ≡ false = subst (λ (x : Book). x.spent ≡ false) (sym c.self.view_is) c.requires.goes_on in
    let waiting : AreWaiting (c.args.tick + 1) b.polled (entries_of b.tasks ++ c.in_ok-entry.entry ∷ []) =
    waiting_added b.tick_us c.args.tick c.args.ctx b.next c.args.spec.now b.last b.polled (entries_of b.tasks) c.in_ok-entry.entry c.self.invariant.waiting start c.in_ok-entry.ensures.task c.in_ok-entry.ensures.stage in
    let cancel : c.in_ok-entry.entry.cancel ≡ c.args.spec.now.cancel = ap (λ (t : Task). t.cancel) c.in_ok-entry.ensures.task in
    let heeded : c.heed.new.heeded.items ≡ heeding c.args.spec.now.cancel b.heeded.items = c.in_ok-heed.ensures.ok in
    let listed : AreListed (heeding c.args.spec.now.cancel b.heeded.items) (entries_of b.tasks ++ c.in_ok-entry.entry ∷ []) = listed_added c.args.spec.now.cancel b.heeded.items (entries_of b.tasks) c.in_ok-entry.entry cancel c.self.invariant.listed in
    let first : AreListedOnce (take b.of_polled (heeding c.args.spec.now.cancel b.heeded.items)) (entries_of b.tasks ++ c.in_ok-entry.entry ∷ []) =
    first_added c.args.spec.now.cancel b.of_polled b.heeded.items (entries_of b.tasks) c.in_ok-entry.entry c.in_ok-entry.ensures.stage c.self.invariant.first in
    record {
      some = c.self.invariant.some;
      short = c.self.invariant.short;
      waiting = subst (λ (l : List Entry). AreWaiting (c.args.tick + 1) b.polled l) (sym (added c)) waiting;
      past = polled_start c.args.tick b.last b.polled c.self.invariant.past start;
      marked = c.in_ok-push.ensures.marked;
      listed = subst (λ (cs : List ℕ). AreListed cs (entries_of c.push.new.self)) (sym heeded) (subst (λ (l : List Entry). AreListed (heeding c.args.spec.now.cancel b.heeded.items) l) (sym (added c)) listed);
      first = subst (λ (cs : List ℕ). AreListedOnce (take b.of_polled cs) (entries_of c.push.new.self)) (sym heeded) (subst (λ (l : List Entry). AreListedOnce (take b.of_polled (heeding c.args.spec.now.cancel b.heeded.items)) l) (sym (added c)) first);
      forgotten = going_on spent;
    }

pub returns-clause-ok : goal.returns-clause-ok
returns-clause-ok c =
    let b = c.self.inside in
    let e = c.in_ok-entry.entry in
    let es = entries_of b.tasks in
    let t = started b.tick_us b.next c.args.spec.now c.args.ctx c.args.tick in
    let tasks : all_shown b.polled (entries_of c.push.new.self) ≡ all_shown b.polled es ++ t ∷ [] =
    ap (all_shown b.polled) (added c) ∙ shown_added b.polled es e t c.in_ok-entry.ensures.stage c.in_ok-entry.ensures.task in
    let wake : wake_of_all (entries_of c.push.new.self) ≡ sooner (wake_of_all es) (Some (c.args.tick + 1)) =
    ap wake_of_all (added c) ∙ (wake_joined es (e ∷ []) ∙ ap (λ (w : Option ℕ). sooner (wake_of_all es) w) (sooner_none _ ∙ wake_fresh e t c.in_ok-entry.ensures.stage c.in_ok-entry.ensures.task)) in
    (λ i. record { tick_us = b.tick_us; tasks = tasks i; next = b.next + 1; last = Some c.args.tick; wake = wake i; spent = b.spent })
    ∙ ap (with_task c.args.spec.now c.args.ctx c.args.tick) c.self.view_is
