-- What a poll gives, beside what the book's poll gives, or its pass.
use Rattle.std.proofs.Common.{◌≡◌, ℕ, zero, suc, ◌+◌, arith, subst, Option, List, [], map, filter, ap, sym, ◌∙◌}
use Rattle.cancel_view.specs.Seen.{Seen}
use Rattle.task_steps.specs.Book.{Book, goes_on, all_noticed, replies_in, late_in, MayComeToAll, IsIdle, passed}
use Rattle.task_steps.specs.Run.{IsAfter}
use Rattle.lane_watch.specs.Tasks.{Tasks}
use Rattle.lane_watch.specs.Watch.{IsJoined, GivesNothing, started_of, replies_of, late_of, polled}
use Rattle.lane_watch.proofs.Polled.{c_of, tells, may_come_all, all_of_ticks, replies_same, late_same, stays_same}
use Rattle.lane_watch.proofs.Asleep.{after_less, joined_passed, replies_unnoticed, late_unnoticed, kept_unnoticed}

-- the tasks that a lane has, by its book
abbrev pub tasks_of : (tick us : ℕ) → List (Option ℕ) → Book → Tasks
tasks_of tick us came book = record { started = map started_of book.tasks; next = book.next; tick_us = us; came = came; tick = tick }

-- when each task is first seen as cancelled, as all polls may come to see it
abbrev pub first : List (Option ℕ) → Book → ℕ → Option ℕ
first came book = c_of came book.tasks

module _ (tick us : ℕ) (view : Seen) (came : List (Option ℕ)) (book : Book) (until : Option ℕ) (j : IsJoined tick us view came book until) where
  pub may : MayComeToAll (first came book) (all_noticed tick view book.tasks)
  may = may_come_all tick us view came (first came book) book.tasks j.dated j.past j.fits (tells came 0 book.next book.tasks j.numbered)

  pub replies_given : replies_in tick (first came book) (all_noticed tick view book.tasks) ≡ replies_of tick (tasks_of tick us came book)
  replies_given = replies_same tick view (tasks_of tick us came book) (first came book) book.tasks (all_of_ticks tick us view came book.tasks j.fits) (tells came 0 book.next book.tasks j.numbered)

  pub late_given : late_in tick (first came book) (all_noticed tick view book.tasks) ≡ late_of tick (tasks_of tick us came book)
  late_given = late_same tick view (tasks_of tick us came book) (first came book) book.tasks (all_of_ticks tick us view came book.tasks j.fits) (tells came 0 book.next book.tasks j.numbered)

  pub kept_given : map started_of (filter (goes_on tick (first came book)) (all_noticed tick view book.tasks)) ≡ (polled tick (tasks_of tick us came book)).started
  kept_given = stays_same tick view (tasks_of tick us came book) (first came book) book.tasks (all_of_ticks tick us view came book.tasks j.fits) (tells came 0 book.next book.tasks j.numbered)

  -- where a poll is idle, nothing is given and all stay
  pub replies_none : IsIdle tick (first came book) book.tasks → [] ≡ replies_of tick (tasks_of tick us came book)
  replies_none i = sym i.0 ∙ (sym (replies_unnoticed tick view (first came book) book.tasks) ∙ replies_given)

  pub late_none : IsIdle tick (first came book) book.tasks → [] ≡ late_of tick (tasks_of tick us came book)
  late_none i = sym i.1 ∙ (sym (late_unnoticed tick view (first came book) book.tasks) ∙ late_given)

  pub all_stay : IsIdle tick (first came book) book.tasks → map started_of book.tasks ≡ (polled tick (tasks_of tick us came book)).started
  all_stay i = sym (ap (map started_of) i.2) ∙ (sym (kept_unnoticed tick view (first came book) book.tasks) ∙ kept_given)

  -- before the wake a poll gives nothing
  gives_now : IsAfter tick until → GivesNothing tick (tasks_of tick us came book)
  gives_now a =
      let idle : IsIdle tick (first came book) book.tasks = (j.asleep tick (omega arith) a).2 (first came book) may in
      record { replies = sym (replies_none idle); late = sym (late_none idle); stay = sym (all_stay idle) }

-- nor does a later one
gives_on : (at to us : ℕ) (came : List (Option ℕ)) (book : Book) (k : ℕ) → GivesNothing k (tasks_of to us came book) → GivesNothing k (tasks_of at us came book)
gives_on at to us came book k g = record { replies = g.replies; late = g.late; stay = g.stay }

pub gives_later : (n tick k us : ℕ) (view : Seen) (came : List (Option ℕ)) (book : Book) (wake : Option ℕ) → k ≡ tick + n → IsAfter k wake → IsJoined tick us view came book wake → GivesNothing k (tasks_of tick us came book)
gives_later zero tick k us view came book wake e a j =
    let is : tick ≡ k = omega arith in
    subst (λ (m : ℕ). GivesNothing m (tasks_of tick us came book)) is (gives_now tick us view came book wake j (after_less tick k wake (omega arith) a))
gives_later (suc n) tick k us view came book wake e a j =
    gives_on tick (tick + 1) us came book k (gives_later n (tick + 1) k us view came (passed tick book) wake (omega arith) a (joined_passed tick us view came book wake (after_less tick k wake (omega arith) a) j))
