use Rattle.std.proofs.Common.{◌≡◌, ℕ, ◌+◌, arith, Option, Some, List, [], ◌∷◌, refl, map, filter, ap, sym, ◌∙◌, subst}
use Rattle.task_steps.specs.Task.{Task}
use Rattle.task_steps.specs.declared.book.Polled.{Polled}
use Rattle.task_steps.specs.Book.{Book, goes_on, all_noticed, wake_under, IsIdle, IsQuietTo, MayComeToAll}
use Rattle.task_steps.specs.Run.{IsAfter}
use Rattle.cancel_view.specs.Seen.{Seen}
use Rattle.lane_watch.specs.Tasks.{stays_at}
use Rattle.lane_watch.specs.Watch.{Watched, IsJoined, started_of, replies_of, late_of, polled}
use Rattle.lane_watch.proofs.Noticed.{grown}
use Rattle.lane_watch.proofs.Joined.{joined_polled}
use Rattle.lane_watch.proofs.Asleep.{joined_passed}
use Rattle.lane_watch.proofs.Given.{tasks_of, first, may, replies_given, late_given, kept_given, replies_none, late_none, all_stay}
use Rattle.lane_watch.proofs.watch.Watch.poll.Goals as goal
use Rattle.lane_watch.proofs.watch.Watch.poll.Goals.{After-nothing, After-self-in-Ok-2-1}

joined_at : {n tick us : ℕ} {w : Seen} {came : List (Option ℕ)} {book : Book} {until : Option ℕ} → n ≡ tick → IsJoined n us w came book until → IsJoined tick us w came book until
joined_at {n} {tick} {us} {w} {came} {book} {until} e j = subst (λ (m : ℕ). IsJoined m us w came book until) e j

-- ---- a tick that is passed over: the watch is joined at it, and the pass says that its poll would be idle
asleep : (c : After-nothing) → IsJoined c.args.tick c.self.inside.tick_us c.self.inside.view c.self.inside.came.items c.self.inside.book c.self.inside.wake
asleep c = joined_at (ap (λ (w : Watched). w.tasks.tick) c.self.view_is ∙ c.requires.now) c.self.invariant

before : (c : After-nothing) → IsAfter c.args.tick c.self.inside.wake
before c = c.is_before.ensures.0 c.if-is_before.true

idle : (c : After-nothing) → IsIdle c.args.tick (first c.self.inside.came.items c.self.inside.book) c.self.inside.book.tasks
idle c =
    let owes = (asleep c).asleep c.args.tick (omega arith) (before c) in
    c.pass.ensures.idle c.self.inside.view (first c.self.inside.came.items c.self.inside.book) owes.1
    (may c.args.tick c.self.inside.tick_us c.self.inside.view c.self.inside.came.items c.self.inside.book c.self.inside.wake (asleep c))

pub invariant_of-self : goal.invariant_of-self
invariant_of-self c =
    subst (λ (b : Book). IsJoined (c.args.tick + 1) c.self.inside.tick_us c.self.inside.view c.self.inside.came.items b c.self.inside.wake) (sym c.pass.ensures.passed)
    (joined_passed c.args.tick c.self.inside.tick_us c.self.inside.view c.self.inside.came.items c.self.inside.book c.self.inside.wake (before c) (asleep c))

pub returns-then-is_before-clause-replies : goal.returns-then-is_before-clause-replies
returns-then-is_before-clause-replies c =
    ap (λ (p : Polled). p.replies) c.nothing.ensures
    ∙ replies_none c.args.tick c.self.inside.tick_us c.self.inside.view c.self.inside.came.items c.self.inside.book c.self.inside.wake (asleep c) (idle c)
    ∙ ap (λ (w : Watched). replies_of c.args.tick w.tasks) c.self.view_is

pub returns-then-is_before-clause-late : goal.returns-then-is_before-clause-late
returns-then-is_before-clause-late c =
    ap (λ (p : Polled). p.late) c.nothing.ensures
    ∙ late_none c.args.tick c.self.inside.tick_us c.self.inside.view c.self.inside.came.items c.self.inside.book c.self.inside.wake (asleep c) (idle c)
    ∙ ap (λ (w : Watched). late_of c.args.tick w.tasks) c.self.view_is

pub returns-then-is_before-clause-ok : goal.returns-then-is_before-clause-ok
returns-then-is_before-clause-ok c =
    let book = c.pass.ensures.passed in
    let stay : map started_of c.pass.new.self.tasks ≡ filter (stays_at c.args.tick (tasks_of c.args.tick c.self.inside.tick_us c.self.inside.came.items c.self.inside.book)) (map started_of c.self.inside.book.tasks) =
    ap (λ (b : Book). map started_of b.tasks) book ∙ all_stay c.args.tick c.self.inside.tick_us c.self.inside.view c.self.inside.came.items c.self.inside.book c.self.inside.wake (asleep c) (idle c) in
    let next = ap (λ (b : Book). b.next) book in
    (λ i. record { view = c.self.inside.view; tasks = record { started = stay i; next = next i; tick_us = c.self.inside.tick_us; came = c.self.inside.came.items; tick = c.args.tick + 1 } })
    ∙ ap (λ (w : Watched). record w { tasks = polled c.args.tick w.tasks }) c.self.view_is

-- ---- a tick that is polled
pub poll_all-requires-clause-view : goal.poll_all-requires-clause-view
poll_all-requires-clause-view c =
    grown c.self.inside.tick c.self.inside.tick_us c.self.inside.view c.self.inside.came.items c.self.inside.book.tasks c.self.invariant.dated c.self.invariant.fits

joined : (c : After-self-in-Ok-2-1) → IsJoined c.args.tick c.self.inside.tick_us c.self.inside.view c.self.inside.came.items c.self.inside.book c.self.inside.wake
joined c = joined_at (ap (λ (w : Watched). w.tasks.tick) c.self.view_is ∙ c.requires.now) c.self.invariant

abbrev whens : (c : After-self-in-Ok-2-1) → ℕ → Option ℕ
whens c = first c.self.inside.came.items c.self.inside.book

comes : (c : After-self-in-Ok-2-1) → MayComeToAll (whens c) (all_noticed c.args.tick c.self.inside.view c.self.inside.book.tasks)
comes c = may c.args.tick c.self.inside.tick_us c.self.inside.view c.self.inside.came.items c.self.inside.book c.self.inside.wake (joined c)

pub invariant_of-self-in-Ok : goal.invariant_of-self-in-Ok
invariant_of-self-in-Ok c =
    let P : Book → Type 0 = λ b. IsJoined (c.args.tick + 1) c.self.inside.tick_us c.self.inside.view c.self.inside.came.items b (wake_under c.args.tick c.self.inside.view b) in
    let is = c.in-Ok.ensures.rest ∙ ap (λ (ts : List Task). record c.self.inside.book { tasks = ts; last = Some c.args.tick; wake = c.poll_all.new.self.wake }) (c.in-Ok.ensures.tasks (whens c) (comes c)) in
    let quiet = subst (λ (b : Book). IsQuietTo (wake_under c.args.tick c.self.inside.view b) c.args.tick c.self.inside.view b.tasks) is
    (subst (λ (w : Option ℕ). IsQuietTo w c.args.tick c.self.inside.view c.poll_all.new.self.tasks) c.next_wake-self-inside.ensures.wake c.next_wake-self-inside.ensures.quiet) in
    let polled_to = subst P (sym is) (joined_polled c.args.tick c.self.inside.tick_us c.self.inside.view c.self.inside.came.items c.self.inside.book c.self.inside.wake c.poll_all.new.self.wake (goes_on c.args.tick (whens c)) (joined c) c.in-Ok.ensures.wake quiet) in
    subst (λ (w : Option ℕ). IsJoined (c.args.tick + 1) c.self.inside.tick_us c.self.inside.view c.self.inside.came.items c.poll_all.new.self w) (sym c.next_wake-self-inside.ensures.wake) polled_to

pub returns-in-Ok-clause-replies : goal.returns-in-Ok-clause-replies
returns-in-Ok-clause-replies c =
    c.in-Ok.ensures.replies (whens c) (comes c) ∙ replies_given c.args.tick c.self.inside.tick_us c.self.inside.view c.self.inside.came.items c.self.inside.book c.self.inside.wake (joined c) ∙ ap (λ (w : Watched). replies_of c.args.tick w.tasks) c.self.view_is

pub returns-in-Ok-clause-late : goal.returns-in-Ok-clause-late
returns-in-Ok-clause-late c =
    c.in-Ok.ensures.late (whens c) (comes c) ∙ late_given c.args.tick c.self.inside.tick_us c.self.inside.view c.self.inside.came.items c.self.inside.book c.self.inside.wake (joined c) ∙ ap (λ (w : Watched). late_of c.args.tick w.tasks) c.self.view_is

pub returns-in-Ok-clause-ok : goal.returns-in-Ok-clause-ok
returns-in-Ok-clause-ok c =
    let stay : map started_of c.poll_all.new.self.tasks ≡ filter (stays_at c.args.tick (tasks_of c.args.tick c.self.inside.tick_us c.self.inside.came.items c.self.inside.book)) (map started_of c.self.inside.book.tasks) =
    ap (map started_of) (c.in-Ok.ensures.tasks (whens c) (comes c)) ∙ kept_given c.args.tick c.self.inside.tick_us c.self.inside.view c.self.inside.came.items c.self.inside.book c.self.inside.wake (joined c) in
    let next = ap (λ (b : Book). b.next) c.in-Ok.ensures.rest in
    (λ i. record { view = c.self.inside.view; tasks = record { started = stay i; next = next i; tick_us = c.self.inside.tick_us; came = c.self.inside.came.items; tick = c.args.tick + 1 } })
    ∙ ap (λ (w : Watched). record w { tasks = polled c.args.tick w.tasks }) c.self.view_is

-- a book without tasks is polled without memory
none_started : (ts : List Task) → map started_of ts ≡ [] → ts ≡ []
none_started [] e = refl
none_started (t ∷ ts) e = cc

pub returns-in-Err-clause-none : goal.returns-in-Err-clause-none
returns-in-Err-clause-none c e =
    let no = c.in-Err.ensures.none c.self.invariant.sound (none_started c.self.inside.book.tasks (ap (λ (w : Watched). w.tasks.started) c.self.view_is ∙ e)) in cc
