-- Before the wake of a book no poll gives anything.
use Rattle.std.proofs.Common.{◌≡◌, ℕ, ◌+◌, ◌≤◌, ◌<◌, ◌==◌, ◌&&◌, ◌||◌, Bool, true, false, not, cond, Option, Some, None, is_some, List, [], ◌∷◌, arith, refl, ap}
use Rattle.std.specs.List.{list_any}
use Rattle.std.proofs.lemmas.Bool.Decides.{nat_tests}
use Rattle.cancel_view.specs.Seen.{Seen}
use Rattle.loop_script.specs.declared.outcome.Outcome.{Outcome}
use Rattle.task_steps.specs.declared.entry.Entry.{Entry}
use Rattle.task_steps.specs.declared.stage.Stage.{Stage}
use Rattle.task_steps.specs.declared.stage.Stage.TheVariants.{Fresh, Set, Polled, Done}
use Rattle.loop_script.specs.End.{ending, end_of, seen}
use Rattle.task_steps.specs.Wake.{sooner}
use Rattle.task_steps.specs.Run.{Run, NoneBefore, MayCome, IsAfter, IsLater, seen_from, clear_to}
use Rattle.task_steps.specs.RunInside.{IsBy}
use Rattle.task_steps.specs.Task.{Task, body_end, is_early, is_at, reply_in, is_late_in, IsBefore, IsSeenExactly, MayComeTo}
use Rattle.task_steps.specs.Book.{sees, noticed_in, all_noticed, MayComeToAll, replies_next, IsIdle, IsNext}
use Rattle.task_steps.specs.BookInside.{IsWaitingAt, IsWaiting, AreWaiting, AreWaitingAfter, IsPassedBy, IsPolledBy, IsSeenBy, caught_clear, shown, wake_of_stage, wake_of_entry, wake_of_all}
use Rattle.task_steps.specs.Polls.{all_shown}

-- ---- one task
above : (n m : ℕ) → n < m → (m == n) ≡ false
above n m h = grind (arith, nat_tests)

below : (n m : ℕ) → n < m → (n == m) ≡ false
below n m h = grind (arith, nat_tests)

not-yet : (tick n : ℕ) → seen (Some n) tick ≡ false → tick < n
not-yet tick n h = grind (arith, nat_tests)

cond-same : {X : Type 0} (b : Bool) (x : X) → cond b x x ≡ x
cond-same true x = refl
cond-same false x = refl

and-false : (b : Bool) → (b && false) ≡ false
and-false true = refl
and-false false = refl

not-at : (k : ℕ) (flag : Bool) (p clear c : Option ℕ) → IsBefore k p → (flag && not (is_some p)) ≡ false → MayCome (clear_to k flag clear) (seen_from k flag p) c → IsSeenExactly (seen_from k flag p) c → is_at k c ≡ false
not-at k true None clear c b s m x = absurd (cc)
not-at k false None clear None b s m x = refl
not-at k false None clear (Some n) b s m x = above k n (not-yet k n (m.0 k (omega arith)))
not-at k flag (Some from) clear c b s m x = rw x (below from k b)

no-reply : (k : ℕ) (rc : Bool) (c : Option ℕ) (t : ℕ) (o : Outcome) → k < t → (rc ≡ true → is_at k c ≡ false) → reply_in k rc c (ending t o) ≡ None
no-reply k false c t o h a = rw (above k t h) refl
no-reply k true c t o h a = rw (above k t h, a refl) (cond-same (seen c t) None)

no-late : (k : ℕ) (rc : Bool) (c : Option ℕ) (t : ℕ) (o : Outcome) → k < t → is_late_in k rc c (ending t o) ≡ false
no-late k rc c t o h = rw (above k t h) (and-false (is_early rc c (ending t o)))

-- ---- what may come to a task that the book shows may come to its run
seen-before : (k : ℕ) (polled clear : Option ℕ) → IsBefore k polled → IsSeenBy polled clear → IsBefore k clear
seen-before k None None b s = tt
seen-before k None (Some at) b s = absurd (cc)
seen-before k (Some p) None b s = tt
seen-before k (Some p) (Some at) b s = omega arith

may-run : (k : ℕ) (flag : Bool) (clear cancelled c : Option ℕ) → IsBefore k clear → MayCome (clear_to k flag clear) (seen_from k flag cancelled) c → MayCome clear cancelled c
may-run k true None None c b m = (tt, tt)
may-run k true (Some a) None c b m = (m.0, tt)
may-run k true None (Some from) c b m = (tt, m.1)
may-run k true (Some a) (Some from) c b m = m
may-run k false None None c b m = (tt, tt)
may-run k false (Some a) None c b m = (λ t le. m.0 t (omega arith), tt)
may-run k false None (Some from) c b m = (tt, m.1)
may-run k false (Some a) (Some from) c b m = (λ t le. m.0 t (omega arith), m.1)

may-caught : (k : ℕ) (flag : Bool) (polled clear cancelled c : Option ℕ) (stage : Stage) → IsSeenBy polled clear → MayCome (clear_to k flag (caught_clear polled cancelled stage clear)) (seen_from k flag cancelled) c → MayCome (clear_to k flag clear) (seen_from k flag cancelled) c
may-caught k false polled clear cancelled c stage s m = m
may-caught k true None clear cancelled c stage s m = m
may-caught k true (Some p) clear (Some from) c stage s m = m
may-caught k true (Some p) clear None c Fresh s m = m
may-caught k true (Some p) clear None c (Set begun at) s m = m
may-caught k true (Some p) None None c (Polled begun at) s m = (tt, m.1)
may-caught k true (Some p) (Some a) None c (Polled begun at) s m = (λ t le. m.0 t (omega arith), m.1)
may-caught k true (Some p) clear None c Done s m = m

pub may_run : (k : ℕ) (view : Seen) (polled : Option ℕ) (e : Entry) (c : Option ℕ) → IsBefore k polled → IsSeenBy polled e.run.clear → MayComeTo (noticed_in k view (shown polled e)) c → MayCome e.run.clear e.run.cancelled c
may_run k view polled e c p s m =
    let flag = sees view e.cancel in
    may-run k flag e.run.clear e.run.cancelled c (seen-before k polled e.run.clear p s) (may-caught k flag polled e.run.clear e.run.cancelled c e.run.stage s m.0)

-- ---- an entry's body ends after every tick before its wake
ends-polled : (first at begun k p : ℕ) (c : Option ℕ) (r : Run) (wake : Option ℕ) → begun ≡ first → IsAfter k wake → IsLater p wake → NoneBefore (record r { stage = Polled begun at }) wake → MayCome r.clear r.cancelled c → k < (end_of r.tick_us r.tree first c).tick
ends-polled first at begun k p c r None b a l n m = absurd l
ends-polled first at begun k p c r (Some wake) b a l n m =
    let least : wake ≤ (end_of r.tick_us r.tree begun c).tick = n c m in
    omega (arith, rw b at least)

ends-stage : (next first k : ℕ) (polled c : Option ℕ) (r : Run) (stage : Stage) → IsWaitingAt next first stage → next ≤ k → IsAfter k (wake_of_stage first r stage) → IsPassedBy polled r.wake stage → NoneBefore (record r { stage = stage }) r.wake → MayCome r.clear r.cancelled c → k < (end_of r.tick_us r.tree first c).tick
ends-stage next first k polled c r Fresh w n a l x m = absurd (omega (arith, w))
ends-stage next first k polled c r (Set begun at) w n a l x m = absurd w
ends-stage next first k None c r (Polled begun at) w n a l x m = absurd l
ends-stage next first k (Some p) c r (Polled begun at) w n a l x m = ends-polled first at begun k p c r r.wake w a l.1 x m
ends-stage next first k polled c r Done w n a l x m = absurd w

pub before_later : (next k : ℕ) (c : Option ℕ) → next ≤ k → IsBefore next c → IsBefore k c
before_later next k None n h = tt
before_later next k (Some from) n h = omega arith

-- ---- no poll of an entry gives anything
pub not-next : (rc flag some : Bool) → (rc && (flag && not some)) ≡ false → rc ≡ true → (flag && not some) ≡ false
not-next true flag some h r = h
not-next false flag some h r = absurd (cc)

abbrev pub IsIdleOne : ℕ → Option ℕ → Task → Type 0
IsIdleOne k c t = (reply_in k t.return_on_cancel c (body_end t c) ≡ None) × (is_late_in k t.return_on_cancel c (body_end t c) ≡ false) × ((not ((body_end t c).tick == k)) ≡ true)

pub idle_one : (next k : ℕ) (polled : Option ℕ) (view : Seen) (c : Option ℕ) (e : Entry) → IsWaiting next polled e → next ≤ k → IsBefore k polled → IsAfter k (wake_of_entry e) → replies_next view (shown polled e) ≡ false → MayComeTo (noticed_in k view (shown polled e)) c → IsIdleOne k c (shown polled e)
idle_one next k polled view c e w n p a s m =
    let flag = sees view e.cancel in
    let rc = e.return_on_cancel in
    let may = may_run k view polled e c p w.clear m in
    let later : k < (end_of e.run.tick_us e.run.tree e.first c).tick = ends-stage next e.first k polled c e.run e.run.stage w.stage n a w.passed w.end may in
    let x = end_of e.run.tick_us e.run.tree e.first c in
    let at : rc ≡ true → is_at k c ≡ false = λ r. not-at k flag e.run.cancelled (caught_clear polled e.run.cancelled e.run.stage e.run.clear) c (before_later next k e.run.cancelled n w.before) (not-next rc flag (is_some e.run.cancelled) s r) m.0 (m.1 r) in
    (no-reply k rc c x.tick x.outcome later at, no-late k rc c x.tick x.outcome later, ap not (above k x.tick later))

-- ---- nor of all
pub after_a : (tick : ℕ) (a b : Option ℕ) → IsAfter tick (sooner a b) → IsAfter tick a
after_a tick None b h = tt
after_a tick (Some a) None h = h
after_a tick (Some a) (Some b) h = omega arith

pub after_b : (tick : ℕ) (a b : Option ℕ) → IsAfter tick (sooner a b) → IsAfter tick b
after_b tick None b h = h
after_b tick (Some a) None h = tt
after_b tick (Some a) (Some b) h = omega arith

pub or-left : (a b : Bool) → (a || b) ≡ false → a ≡ false
or-left true b h = absurd (cc)
or-left false b h = refl

pub or-right : (a b : Bool) → (a || b) ≡ false → b ≡ false
or-right true b h = absurd (cc)
or-right false b h = h

idle-more : (k : ℕ) (c : ℕ → Option ℕ) (t : Task) (ts : List Task) → IsIdleOne k (c t.number) t → IsIdle k c ts → IsIdle k c (t ∷ ts)
idle-more k c t ts one all = (rw one.0 all.0, rw one.1 all.1, rw one.2 (ap (λ (l : List Task). t ∷ l) all.2))

idle-all : (next k : ℕ) (polled : Option ℕ) (view : Seen) (c : ℕ → Option ℕ) (es : List Entry) → AreWaiting next polled es → next ≤ k → IsBefore k polled → IsAfter k (wake_of_all es) → list_any (replies_next view) (all_shown polled es) ≡ false → MayComeToAll c (all_noticed k view (all_shown polled es)) → IsIdle k c (all_shown polled es)
idle-all next k polled view c [] w n p a s m = (refl, refl, refl)
idle-all next k polled view c (e ∷ es) w n p a s m =
    idle-more k c (shown polled e) (all_shown polled es)
    (idle_one next k polled view (c e.number) e w.0 n p (after_a k (wake_of_entry e) (wake_of_all es) a) (or-left (replies_next view (shown polled e)) (list_any (replies_next view) (all_shown polled es)) s) m.0)
    (idle-all next k polled view c es w.1 n p (after_b k (wake_of_entry e) (wake_of_all es) a) (or-right (replies_next view (shown polled e)) (list_any (replies_next view) (all_shown polled es)) s) m.1)

pub polled_before : (last k : ℕ) (polled : Option ℕ) → last < k → IsPolledBy (Some last) polled → IsBefore k polled
polled_before last k None n p = tt
polled_before last k (Some at) n p = omega arith

pub idle_next : (k : ℕ) (last polled : Option ℕ) (view : Seen) (c : ℕ → Option ℕ) (es : List Entry) → AreWaitingAfter last polled es → IsPolledBy last polled → IsNext k last → IsAfter k (wake_of_all es) → list_any (replies_next view) (all_shown polled es) ≡ false → MayComeToAll c (all_noticed k view (all_shown polled es)) → IsIdle k c (all_shown polled es)
idle_next k None polled view c es w p n a s m = rw w (refl, refl, refl)
idle_next k (Some last) polled view c es w p n a s m = idle-all (last + 1) k polled view c es w (omega arith) (polled_before last k polled n p) a s m

next-after : (tick k : ℕ) (last : Option ℕ) → IsBy tick last → tick < k → IsNext k last
next-after tick k None b n = tt
next-after tick k (Some last) b n = omega arith

pub idle_after : (tick k : ℕ) (last polled : Option ℕ) (view : Seen) (c : ℕ → Option ℕ) (es : List Entry) → AreWaitingAfter last polled es → IsPolledBy last polled → IsBy tick last → tick < k → IsAfter k (wake_of_all es) → list_any (replies_next view) (all_shown polled es) ≡ false → MayComeToAll c (all_noticed k view (all_shown polled es)) → IsIdle k c (all_shown polled es)
idle_after tick k last polled view c es w p b n a s m = idle_next k last polled view c es w p (next-after tick k last b n) a s m
