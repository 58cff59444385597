-- A tick before the wake of a book is passed over, and later polls give the same.
use Rattle.std.proofs.Common.{◌≡◌, ℕ, ◌+◌, ◌≤◌, ◌<◌, ◌&&◌, Bool, true, false, not, Option, Some, None, is_some, List, [], ◌∷◌, cond, arith, refl, sym}
use Rattle.std.specs.List.{list_any}
use Rattle.cancel_view.specs.Seen.{Seen}
use Rattle.task_steps.specs.declared.entry.Entry.{Entry}
use Rattle.task_steps.specs.declared.stage.Stage.{Stage}
use Rattle.task_steps.specs.declared.stage.Stage.TheVariants.{Fresh, Set, Polled, Done}
use Rattle.task_steps.specs.Run.{Run, MayCome, IsAfter, StaysSet, seen_from, clear_to}
use Rattle.task_steps.specs.RunInside.{IsBy}
use Rattle.task_steps.specs.Task.{IsBefore, IsSeenExactly}
use Rattle.task_steps.specs.Book.{Book, IsNext, sees, all_noticed, HasGrown, MayComeToAll, replies_next, wake_under, OwesNone, IsAsPolled}
use Rattle.task_steps.specs.BookInside.{IsWaitingAt, AreWaiting, AreWaitingAfter, IsPolledBy, IsSeenBy, caught_clear, shown, wake_of_stage, wake_of_entry, wake_of_all}
use Rattle.task_steps.specs.Polls.{all_shown}
use Rattle.task_steps.proofs.Quiet.{or-left, or-right, not-next, after_a, after_b, before_later}

-- ---- the entries wait for the tick after it
stage-on : (next tick first : ℕ) (run : Run) (stage : Stage) → IsWaitingAt next first stage → next ≤ tick → IsAfter tick (wake_of_stage first run stage) → IsWaitingAt (tick + 1) first stage
stage-on next tick first run Fresh w n a = absurd (omega (arith, w))
stage-on next tick first run (Set begun at) w n a = absurd w
stage-on next tick first run (Polled begun at) w n a = w
stage-on next tick first run Done w n a = absurd w

waiting-on : (next tick : ℕ) (polled : Option ℕ) (es : List Entry) → AreWaiting next polled es → next ≤ tick → IsAfter tick (wake_of_all es) → AreWaiting (tick + 1) polled es
waiting-on next tick polled [] w n a = tt
waiting-on next tick polled (e ∷ es) w n a = (
  record {
    stage = stage-on next tick e.first e.run e.run.stage w.0.stage n (after_a tick (wake_of_entry e) (wake_of_all es) a);
    passed = w.0.passed;
    before = before_later next (tick + 1) e.run.cancelled (omega arith) w.0.before;
    clear = w.0.clear;
    end = w.0.end;
  },
  waiting-on next tick polled es w.1 n (after_b tick (wake_of_entry e) (wake_of_all es) a),
)

pub waiting_passed : (tick : ℕ) (last polled : Option ℕ) (es : List Entry) → AreWaitingAfter last polled es → IsNext tick last → IsAfter tick (wake_of_all es) → AreWaiting (tick + 1) polled es
waiting_passed tick None polled es w n a = rw w tt
waiting_passed tick (Some last) polled es w n a = waiting-on (last + 1) tick polled es w (omega arith) a

pub passed_by : (tick : ℕ) (last polled : Option ℕ) → IsPolledBy last polled → IsNext tick last → IsPolledBy (Some tick) polled
passed_by tick None polled p n = rw p tt
passed_by tick (Some last) None p n = tt
passed_by tick (Some last) (Some at) p n = omega arith

-- ---- what may come to a task that a poll noticed may come to it unnoticed
may-skip : (tick later : ℕ) (f g : Bool) (clear cancelled c : Option ℕ) → tick < later → IsBy tick clear → StaysSet (seen_from tick f cancelled) g
    → MayCome (clear_to later g (clear_to tick f clear)) (seen_from later g (seen_from tick f cancelled)) c → MayCome (clear_to later g clear) (seen_from later g cancelled) c
may-skip tick later true true None None c n b s m = (tt, λ t le. m.1 t (omega arith))
may-skip tick later true true (Some a) None c n b s m = (m.0, λ t le. m.1 t (omega arith))
may-skip tick later true false clear None c n b s m = absurd (cc)
may-skip tick later false true None None c n b s m = (tt, m.1)
may-skip tick later false true (Some a) None c n b s m = (λ t le. m.0 t (omega arith), m.1)
may-skip tick later false false clear None c n b s m = m
may-skip tick later f false clear (Some from) c n b s m = (m.0, m.1)
may-skip tick later true true clear (Some from) c n b s m = m
may-skip tick later false true None (Some from) c n b s m = (tt, m.1)
may-skip tick later false true (Some a) (Some from) c n b s m = (λ t le. m.0 t (omega arith), m.1)

exactly-skip : (tick later : ℕ) (f g : Bool) (cancelled c : Option ℕ) → (f && not (is_some cancelled)) ≡ false → IsSeenExactly (seen_from later g (seen_from tick f cancelled)) c → IsSeenExactly (seen_from later g cancelled) c
exactly-skip tick later true g None c s x = absurd (cc)
exactly-skip tick later false g None c s x = x
exactly-skip tick later f g (Some from) c s x = x

by-poll : (tick : ℕ) (polled clear : Option ℕ) → IsBefore tick polled → IsSeenBy polled clear → IsBy tick clear
by-poll tick polled None p s = tt
by-poll tick None (Some a) p s = absurd (cc)
by-poll tick (Some at) (Some a) p s = omega arith

pub shown_by : (tick : ℕ) (polled clear cancelled : Option ℕ) (stage : Stage) → IsBefore tick polled → IsSeenBy polled clear → IsBy tick (caught_clear polled cancelled stage clear)
shown_by tick None clear cancelled stage p s = by-poll tick None clear p s
shown_by tick (Some at) clear (Some from) stage p s = by-poll tick (Some at) clear p s
shown_by tick (Some at) clear None Fresh p s = by-poll tick (Some at) clear p s
shown_by tick (Some at) clear None (Set begun k) p s = by-poll tick (Some at) clear p s
shown_by tick (Some at) clear None (Polled begun k) p s = omega arith
shown_by tick (Some at) clear None Done p s = by-poll tick (Some at) clear p s

skip-all : (next tick later : ℕ) (polled : Option ℕ) (view after : Seen) (c : ℕ → Option ℕ) (es : List Entry) → AreWaiting next polled es → IsBefore tick polled → tick < later → list_any (replies_next view) (all_shown polled es) ≡ false
    → HasGrown after (all_noticed tick view (all_shown polled es)) → MayComeToAll c (all_noticed later after (all_noticed tick view (all_shown polled es))) → MayComeToAll c (all_noticed later after (all_shown polled es))
skip-all next tick later polled view after c [] w p l s g m = tt
skip-all next tick later polled view after c (e ∷ es) w p l s g m = (
  (
    may-skip tick later (sees view e.cancel) (sees after e.cancel) (shown polled e).clear e.run.cancelled (c e.number) l (shown_by tick polled e.run.clear e.run.cancelled e.run.stage p w.0.clear) g.1 m.0.0,
    λ r. exactly-skip tick later (sees view e.cancel) (sees after e.cancel) e.run.cancelled (c e.number) (not-next e.return_on_cancel (sees view e.cancel) (is_some e.run.cancelled) (or-left (replies_next view (shown polled e)) (list_any (replies_next view) (all_shown polled es)) s) r) (m.0.1 r),
  ),
  skip-all next tick later polled view after c es w.1 p l (or-right (replies_next view (shown polled e)) (list_any (replies_next view) (all_shown polled es)) s) g.2 m.1,
)

last-before : (tick last : ℕ) (polled : Option ℕ) → last < tick → IsPolledBy (Some last) polled → IsBefore tick polled
last-before tick last None n p = tt
last-before tick last (Some at) n p = omega arith

pub as_polled : (tick : ℕ) (last polled : Option ℕ) (view : Seen) (es : List Entry) → AreWaitingAfter last polled es → IsPolledBy last polled → IsNext tick last → OwesNone view (all_shown polled es) → IsAsPolled tick view (all_shown polled es)
as_polled tick None polled view es w p n s = rw w (λ later after c l g m. tt)
as_polled tick (Some last) polled view es w p n s = λ later after c l g m. skip-all (last + 1) tick later polled view after c es w (last-before tick last polled n p) l s g m

-- ---- which ticks may be passed over
pub may_pass : (tick later : ℕ) (view : Seen) (b : Book) → tick < later → IsAfter later (wake_under tick view b) → IsAfter later b.wake × OwesNone view b.tasks
may_pass tick later view b n a = split (list_any (replies_next view) b.tasks) refl a
  where
    split : (any : Bool) → any ≡ list_any (replies_next view) b.tasks → IsAfter later (cond any (Some (tick + 1)) b.wake) → IsAfter later b.wake × OwesNone view b.tasks
    split true e h = absurd (omega arith)
    split false e h = (h, sym e)
