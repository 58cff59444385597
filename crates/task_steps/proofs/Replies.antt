-- A poll's answer is the task's reply in that tick.
use Rattle.std.proofs.Common.{◌≡◌, ℕ, ◌≤◌, ◌<◌, ◌==◌, ◌&&◌, Bool, true, false, Option, Some, None, is_some, cond, nat_le, arith, refl, ap, ◌∙◌}
use Rattle.std.proofs.lemmas.Bool.Decides.{nat_tests}
use Rattle.loop_script.specs.declared.outcome.Outcome.{Outcome}
use Rattle.loop_script.specs.declared.outcome.Outcome.TheVariants.{Cancelled}
use Rattle.task_steps.specs.declared.stage.Stage.{Stage}
use Rattle.task_steps.specs.declared.stage.Stage.TheVariants.{Fresh, Set, Polled, Done}
use Rattle.task_steps.specs.declared.entry.Entry.{Entry}
use Rattle.loop_script.specs.End.{End, end_of, ending, seen}
use Rattle.task_steps.specs.Run.{Run, MayCome, StaysSet, IsAnswered, due, set_to, seen_from, clear_to, stage_after}
use Rattle.task_steps.specs.Task.{reply_in, is_late_in, answer_as, IsSeenExactly, IsBefore, IsBegunBy, CanPoll, IsAnswer, is_done_stage}

abbrev pub IsReplyIn : ℕ → Bool → Bool → Bool → Option ℕ → End → Option Outcome → Type 0
IsReplyIn tick rc flag before c e end =
    ((answer_as (rc && flag) before end).reply ≡ reply_in tick rc c e)
    × ((answer_as (rc && flag) before end).late ≡ is_late_in tick rc c e)
    × (is_some end ≡ (e.tick == tick))

same-due : (tick t : ℕ) (o : Outcome) → tick ≤ t → due tick (ending t o) ≡ cond (t == tick) (Some o) None
same-due tick t o k = grind (arith, nat_tests)

some-cond : (b : Bool) (o : Outcome) → is_some (cond b (Some o) None) ≡ b
some-cond true o = refl
some-cond false o = refl

same-end : (tick t : ℕ) (o : Outcome) → tick ≤ t → is_some (due tick (ending t o)) ≡ (t == tick)
same-end tick t o k = ap is_some (same-due tick t o k) ∙ some-cond (t == tick) o

plain : (tick t : ℕ) (o : Outcome) (end : Option Outcome) → end ≡ due tick (ending t o) → tick ≤ t → (end ≡ cond (t == tick) (Some o) None) × (is_some end ≡ (t == tick))
plain tick t o end h k = (h ∙ same-due tick t o k, ap is_some h ∙ same-end tick t o k)

early-true : (from t tick : ℕ) → from ≤ tick → tick ≤ t → nat_le from t ≡ true
early-true from t tick h k = grind (arith, nat_tests)

self-equal : (n : ℕ) → (n == n) ≡ true
self-equal n = grind (arith, nat_tests)

not-equal : (n m : ℕ) → n < m → (n == m) ≡ false
not-equal n m h = grind (arith, nat_tests)

later : (tick n t : ℕ) (o : Outcome) → tick < n → cond (t == tick) (Some o) None ≡ cond (nat_le n t) (cond (n == tick) (Some Cancelled) None) (cond (t == tick) (Some o) None)
later tick n t o h = grind (arith, nat_tests)

later-late : (tick n t : ℕ) → tick < n → false ≡ (nat_le n t && (t == tick))
later-late tick n t h = grind (arith, nat_tests)

not-yet : (tick n : ℕ) → seen (Some n) tick ≡ false → tick < n
not-yet tick n h = grind (arith, nat_tests)

pub reply : (tick : ℕ) (rc flag : Bool) (p clear c : Option ℕ) (t : ℕ) (o : Outcome) (end : Option Outcome) → IsBefore tick p → StaysSet p flag → MayCome (clear_to tick flag clear) (seen_from tick flag p) c → (rc ≡ true → IsSeenExactly (seen_from tick flag p) c) → end ≡ due tick (ending t o) → tick ≤ t → IsReplyIn tick rc flag (is_some p) c (ending t o) end
reply tick false flag p clear c t o end h s m x d k = let q = plain tick t o end d k in (q.0, refl, q.1)
reply tick true true None clear c t o end h s m x d k =
    let q = plain tick t o end d k in
    let is : c ≡ Some tick = x refl in
    rw is (rw (early-true tick t tick (omega arith) k, self-equal tick) (refl, q.1, q.1))
reply tick true true (Some from) clear c t o end h s m x d k =
    let q = plain tick t o end d k in
    let is : c ≡ Some from = x refl in
    rw is (rw (early-true from t tick (omega arith) k, not-equal from tick h) (refl, q.1, q.1))
reply tick true false None clear None t o end h s m x d k = let q = plain tick t o end d k in (q.0, refl, q.1)
reply tick true false None clear (Some n) t o end h s m x d k =
    let q = plain tick t o end d k in
    let after : tick < n = not-yet tick n (m.0 tick (omega arith)) in
    (q.0 ∙ later tick n t o after, later-late tick n t after, q.1)
reply tick true false (Some from) clear c t o end h s m x d k = absurd (cc)

done-after : (stage : Stage) (end : Option Outcome) → is_done_stage stage ≡ false → is_done_stage (stage_after stage end) ≡ is_some end
done-after stage (Some o) h = refl
done-after Fresh None h = refl
done-after (Set begun tick) None h = refl
done-after (Polled begun tick) None h = refl
done-after Done None h = absurd (cc)

abbrev pub set_run : ℕ → Bool → Run → Run
set_run tick flag r = record r { stage = set_to tick r.stage; clear = clear_to tick flag r.clear; cancelled = seen_from tick flag r.cancelled }

abbrev pub polled_run : Run → Option Outcome → Option ℕ → Run
polled_run r end wake = record r { stage = stage_after r.stage end; wake = wake }

begun-first : (first tick : ℕ) (stage : Stage) (r : Run) (end : Option Outcome) (c : Option ℕ) → IsBegunBy first stage tick → IsAnswered (set_to tick stage) r end → MayCome r.clear r.cancelled c → (end ≡ due tick (end_of r.tick_us r.tree first c)) × (tick ≤ (end_of r.tick_us r.tree first c).tick)
begun-first first tick Fresh r end c b a m = rw b (a c m)
begun-first first tick (Set begun at) r end c b a m = absurd b
begun-first first tick (Polled begun at) r end c b a m = rw (← b) (a c m)
begun-first first tick Done r end c b a m = absurd b

over-where-done : (first tick : ℕ) (stage : Stage) (end : Option Outcome) → IsBegunBy first stage tick → is_done_stage (stage_after (set_to tick stage) end) ≡ is_some end
over-where-done first tick Fresh end b = done-after (Set tick tick) end refl
over-where-done first tick (Set begun at) end b = absurd b
over-where-done first tick (Polled begun at) end b = done-after (Set begun tick) end refl
over-where-done first tick Done end b = absurd b

pub answered : (tick : ℕ) (flag : Bool) (e : Entry) (end : Option Outcome) (wake : Option ℕ) → CanPoll tick flag e → IsAnswered (set_to tick e.run.stage) (set_run tick flag e.run) end → IsAnswer tick (record e { run = polled_run (set_run tick flag e.run) end wake }) (answer_as (e.return_on_cancel && flag) (is_some e.run.cancelled) end)
answered tick flag e end wake can a c m =
    let d = begun-first e.first tick e.run.stage (set_run tick flag e.run) end c can.3 a m.0 in
    let x = end_of e.run.tick_us e.run.tree e.first c in
    let r = reply tick e.return_on_cancel flag e.run.cancelled e.run.clear c x.tick x.outcome end can.2 can.1 m.0 m.1 d.0 d.1 in
    (r.0, r.1, over-where-done e.first tick e.run.stage end can.3 ∙ r.2)
