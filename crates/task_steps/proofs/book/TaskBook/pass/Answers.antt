use Rattle.std.proofs.Common.{◌≡◌, false, subst, sym}
use Rattle.task_steps.specs.Book.{Book, IsNext, IsIdle, IsAsPolled, OwesNone, MayComeToAll, all_noticed}
use Rattle.task_steps.specs.BookInside.{entries_of, wake_of_all}
use Rattle.task_steps.specs.Polls.{all_shown}
use Rattle.task_steps.specs.Run.{IsAfter}
use Rattle.task_steps.proofs.Passed.{waiting_passed, as_polled, passed_by}
use Rattle.task_steps.proofs.Quiet.{idle_next}
use Rattle.task_steps.proofs.Waiting.{going_on}
use Rattle.task_steps.proofs.book.TaskBook.pass.Goals as goal

next_is : (c : goal.After-self-1) → IsNext c.args.tick c.self.inside.last
next_is c = subst (λ (x : Book). IsNext c.args.tick x.last) (sym c.self.view_is) c.requires.last

wake_is : (c : goal.After-self-1) → IsAfter c.args.tick (wake_of_all (entries_of c.self.inside.tasks))
wake_is c = subst (λ (x : Book). IsAfter c.args.tick x.wake) (sym c.self.view_is) c.requires.wake

pub invariant_of-self : goal.invariant_of-self
invariant_of-self c =
    let b = c.self.inside in
    let spent : b.spent ≡ false = subst (λ (x : Book). x.spent ≡ false) (sym c.self.view_is) c.requires.goes_on in
    record {
      some = c.self.invariant.some;
      short = c.self.invariant.short;
      waiting = waiting_passed c.args.tick b.last b.polled (entries_of b.tasks) c.self.invariant.waiting (next_is c) (wake_is c);
      past = passed_by c.args.tick b.last b.polled c.self.invariant.past (next_is c);
      marked = c.self.invariant.marked;
      listed = c.self.invariant.listed;
      first = c.self.invariant.first;
      forgotten = going_on spent;
    }

pub returns-clause-idle : goal.returns-clause-idle
returns-clause-idle c = λ view f none m.
    let b = c.self.inside in
    let es = entries_of b.tasks in
    let P : Book → Type 0 = λ x. OwesNone view x.tasks → MayComeToAll f (all_noticed c.args.tick view x.tasks) → IsIdle c.args.tick f x.tasks in
    let idle : OwesNone view (all_shown b.polled es) → MayComeToAll f (all_noticed c.args.tick view (all_shown b.polled es)) → IsIdle c.args.tick f (all_shown b.polled es) =
    λ o may. idle_next c.args.tick b.last b.polled view f es c.self.invariant.waiting c.self.invariant.past (next_is c) (wake_is c) o may in
    subst P c.self.view_is idle none m

pub returns-clause-same : goal.returns-clause-same
returns-clause-same c = λ view none.
    let b = c.self.inside in
    let es = entries_of b.tasks in
    let P : Book → Type 0 = λ x. OwesNone view x.tasks → IsAsPolled c.args.tick view x.tasks in
    let same : OwesNone view (all_shown b.polled es) → IsAsPolled c.args.tick view (all_shown b.polled es) =
    λ o. as_polled c.args.tick b.last b.polled view es c.self.invariant.waiting c.self.invariant.past (next_is c) o in
    subst P c.self.view_is same none
