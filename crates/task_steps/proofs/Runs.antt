-- A body whose tick is set.
use Rattle.std.proofs.Common.{◌≡◌, ℕ, ◌≤◌, ◌<◌, Bool, true, false, Option, Some, None, arith, refl, sym, subst, ◌∙◌}
use Rattle.loop_script.specs.Tree.{Tree}
use Rattle.task_steps.specs.declared.stage.Stage.{Stage}
use Rattle.task_steps.specs.declared.stage.Stage.TheVariants.{Fresh, Set, Polled, Done}
use Rattle.task_steps.specs.declared.progress.Progress.TheVariants.{Ended, Waits}
use Rattle.loop_script.specs.End.{ending, end_of}
use Rattle.task_steps.specs.Wake.{wait_of}
use Rattle.task_steps.specs.declared.progress.Progress.{Progress}
use Rattle.task_steps.specs.Progress.{AgreeTo, SleepsTo, tick_of}
use Rattle.task_steps.specs.Run.{Run, MayCome, IsUpTo, IsLater, MaySet, StaysSet, set_to, seen_from, clear_to}
use Rattle.task_steps.specs.RunInside.{IsBy, IsClearBefore, IsKnownAt, Holds, HoldsAny, wake_noted, IsLeastAfter, KeepsLeast, IsStanding, IsHeld}
use Rattle.task_steps.proofs.Begins.{not_sooner}
use Rattle.task_steps.proofs.Ends.{by_le, by_lt, same-tick, from_on, pending_too}
use Rattle.task_steps.proofs.Sleeping.{same_wait, wait_on}

-- ---- what may come from a tick on might have come before
pub may_before : (last tick : ℕ) (flag : Bool) (clear cancelled c : Option ℕ) → last < tick → IsBy last clear → MayCome (clear_to tick flag clear) (seen_from tick flag cancelled) c → MayCome clear cancelled c
may_before last tick true None None c h k m = (tt, tt)
may_before last tick true (Some a) None c h k m = (m.0, tt)
may_before last tick true None (Some b) c h k m = (tt, m.1)
may_before last tick true (Some a) (Some b) c h k m = m
may_before last tick false None None c h k m = (tt, tt)
may_before last tick false (Some a) None c h k m = (λ t below. m.0 t (omega arith), tt)
may_before last tick false None (Some b) c h k m = (tt, m.1)
may_before last tick false (Some a) (Some b) c h k m = (λ t below. m.0 t (omega arith), m.1)

known-first : (tick : ℕ) (flag : Bool) → IsKnownAt tick (clear_to tick flag None) (seen_from tick flag None)
known-first tick true = (omega arith, tt)
known-first tick false = refl

clear-eq : (last tick : ℕ) (clear : Option ℕ) → clear ≡ Some last → last < tick → IsClearBefore tick clear
clear-eq last tick clear h k = rw h k

known-next : (last tick : ℕ) (flag : Bool) (clear cancelled : Option ℕ) → last < tick → IsKnownAt last clear cancelled → StaysSet cancelled flag → IsKnownAt tick (clear_to tick flag clear) (seen_from tick flag cancelled)
known-next last tick true clear None h k s = (omega arith, clear-eq last tick clear k h)
known-next last tick false clear None h k s = refl
known-next last tick true clear (Some from) h k s = (omega arith, k.1)
known-next last tick false clear (Some from) h k s = absurd (cc)

by-before : (last from : ℕ) (clear : Option ℕ) → from ≤ last → IsClearBefore from clear → IsBy last clear
by-before last from None h k = tt
by-before last from (Some a) h k = omega arith

known-by : (last : ℕ) (clear cancelled : Option ℕ) → IsKnownAt last clear cancelled → IsBy last clear
known-by last clear None h = rw h (omega arith)
known-by last clear (Some from) h = by-before last from clear h.0 h.1

-- ---- sleeping to a sooner tick, and when more is known of what may come
sooner-sleep : (us : ℕ) (t : Tree) (b : ℕ) (clear cancelled : Option ℕ) (w v : ℕ) → v ≤ w → SleepsTo us t b (MayCome clear cancelled) w → SleepsTo us t b (MayCome clear cancelled) v
sooner-sleep us t b clear cancelled w v le h = record {
  ends = λ c m. let late : w ≤ (end_of us t b c).tick = h.ends c m in omega arith;
  same = λ c d m n g. h.same c d m n (λ k from. g k (omega arith));
}

narrow : (us : ℕ) (t : Tree) (b : ℕ) (clear cancelled clear2 cancelled2 : Option ℕ) (w : ℕ) → ((c : Option ℕ) → MayCome clear2 cancelled2 c → MayCome clear cancelled c) → SleepsTo us t b (MayCome clear cancelled) w → SleepsTo us t b (MayCome clear2 cancelled2) w
narrow us t b clear cancelled clear2 cancelled2 w may h = record {
  ends = λ c m. h.ends c (may c m);
  same = λ c d m n g. h.same c d (may c m) (may d n) g;
}

narrow-noted : (us : ℕ) (t : Tree) (b : ℕ) (clear cancelled clear2 cancelled2 : Option ℕ) (noted : Option Progress) → ((c : Option ℕ) → MayCome clear2 cancelled2 c → MayCome clear cancelled c) → HoldsAny us t b clear cancelled noted → HoldsAny us t b clear2 cancelled2 noted
narrow-noted us t b clear cancelled clear2 cancelled2 None may h = tt
narrow-noted us t b clear cancelled clear2 cancelled2 (Some (Ended at o)) may h = λ c m. h c (may c m)
narrow-noted us t b clear cancelled clear2 cancelled2 (Some (Waits w)) may h = narrow us t b clear cancelled clear2 cancelled2 w may h

-- an end that is known is slept to
holds-sleeps : (us : ℕ) (t : Tree) (b : ℕ) (clear cancelled : Option ℕ) (noted : Progress) → Holds us t b clear cancelled noted → SleepsTo us t b (MayCome clear cancelled) (tick_of noted)
holds-sleeps us t b clear cancelled (Ended at o) h = record {
  ends = λ c m. let e : (end_of us t b c).tick ≡ at = same-tick (end_of us t b c) (ending at o) (h c m) in omega arith;
  same = λ c d m n g. h c m ∙ sym (h d n);
}
holds-sleeps us t b clear cancelled (Waits w) h = h

sleeps-up-to : (us : ℕ) (t : Tree) (b : ℕ) (clear cancelled : Option ℕ) (noted : Option Progress) (at tick : ℕ) → IsLater at (wake_noted noted) → IsUpTo tick (wake_noted noted) → HoldsAny us t b clear cancelled noted → SleepsTo us t b (MayCome clear cancelled) tick
sleeps-up-to us t b clear cancelled None at tick l u h = absurd l
sleeps-up-to us t b clear cancelled (Some noted) at tick l u h = sooner-sleep us t b clear cancelled (tick_of noted) tick u (holds-sleeps us t b clear cancelled noted h)

-- ---- the least wait stays the least
pub unseen_before : (from : ℕ) (clear : Option ℕ) → IsClearBefore from clear → MayCome clear (Some from) (Some from)
unseen_before from None h = (tt, λ t le. by_le from t le)
unseen_before from (Some last) h = (λ t le. by_lt from t (omega arith), λ t le. by_le from t le)

none-unseen : (clear : Option ℕ) → MayCome clear None None
none-unseen None = (tt, tt)
none-unseen (Some last) = (λ t le. refl, tt)

-- what was seen so far may be all that comes
may-stay : (tick : ℕ) (clear cancelled : Option ℕ) → IsKnownAt tick clear cancelled → MayCome clear cancelled cancelled
may-stay tick clear None k = none-unseen clear
may-stay tick clear (Some from) k = unseen_before from clear k.1

agree-on : (at tick : ℕ) (flag : Bool) (cancelled : Option ℕ) → at < tick → AgreeTo at cancelled (seen_from tick flag cancelled)
agree-on at tick true None lt = λ t le. sym (by_lt tick t (omega arith))
agree-on at tick false None lt = λ t le. refl
agree-on at tick flag (Some from) lt = λ t le. refl

some-wake : (v w : ℕ) → Some v ≡ Some w → v ≡ w
some-wake v w e = cc

least-noted : (us : ℕ) (t : Tree) (begun at tick : ℕ) (flag : Bool) (clear cancelled : Option ℕ) (noted : Option Progress) → begun ≤ at → at < tick → IsKnownAt at clear cancelled → IsLater at (wake_noted noted) → HoldsAny us t begun clear cancelled noted → wake_noted noted ≡ Some (wait_of us t begun cancelled at)
    → IsLeastAfter us t begun (seen_from tick flag cancelled) tick (wake_noted noted)
least-noted us t begun at tick flag clear cancelled None b lt k l h e = tt
least-noted us t begun at tick flag clear cancelled (Some noted) b lt k l h e = λ before.
    let least : tick_of noted ≡ wait_of us t begun cancelled at = some-wake (tick_of noted) (wait_of us t begun cancelled at) e in
    let by : tick_of noted ≤ (end_of us t begun cancelled).tick = (holds-sleeps us t begun clear cancelled noted h).ends cancelled (may-stay at clear cancelled k) in
    let late : at < (end_of us t begun cancelled).tick = omega arith in
    let d = seen_from tick flag cancelled in
    let agree = agree-on at tick flag cancelled lt in
    let same = same_wait us t begun at cancelled d b agree late in
    least ∙ same ∙ sym (wait_on us t begun at tick d b (omega arith) (pending_too us t begun at cancelled d agree late) (omega arith))

abbrev body_run : ℕ → Tree → Option ℕ → Option ℕ → Stage → Option Progress → Run
body_run us t clear cancelled stage noted = record { tree = t; tick_us = us; stage = stage; clear = clear; cancelled = cancelled; wake = wake_noted noted }

pub least_on : (tick us : ℕ) (flag : Bool) (t : Tree) (clear cancelled : Option ℕ) (stage : Stage) (noted : Option Progress) → IsHeld us t clear cancelled stage noted → MaySet tick stage (wake_noted noted) → KeepsLeast (body_run us t clear cancelled stage noted)
    → KeepsLeast (body_run us t (clear_to tick flag clear) (seen_from tick flag cancelled) (set_to tick stage) noted)
least_on tick us flag t clear cancelled Fresh noted h k l = subst (λ (n : Option Progress). IsLeastAfter us t tick (seen_from tick flag cancelled) tick (wake_noted n)) (sym h.standing.2) tt
least_on tick us flag t clear cancelled (Set begun at) noted h k l = absurd k
least_on tick us flag t clear cancelled (Polled begun at) noted h k l =
    let s = h.standing in
    least-noted us t begun at tick flag clear cancelled noted s.1 k.0 s.0 s.2 s.3 l
least_on tick us flag t clear cancelled Done noted h k l = absurd k

-- ---- a tick that is set
standing-on : (tick us : ℕ) (flag : Bool) (t : Tree) (clear cancelled : Option ℕ) (stage : Stage) (noted : Option Progress) → IsStanding us t clear cancelled stage noted → MaySet tick stage (wake_noted noted) → StaysSet cancelled flag
    → IsStanding us t (clear_to tick flag clear) (seen_from tick flag cancelled) (set_to tick stage) noted
standing-on tick us flag t clear cancelled Fresh noted h k stays = (
  rw (h.0, h.1) (known-first tick flag),
  omega arith,
  record { ends = λ c m. not_sooner us t tick c; same = λ c d m n g. from_on us t tick c d g },
  rw h.2 tt,
)
standing-on tick us flag t clear cancelled (Set begun at) noted h k stays = absurd k
standing-on tick us flag t clear cancelled (Polled begun at) noted h k stays =
    let may = λ (c : Option ℕ) (m : MayCome (clear_to tick flag clear) (seen_from tick flag cancelled) c). may_before at tick flag clear cancelled c k.0 (known-by at clear cancelled h.0) m in (
      known-next at tick flag clear cancelled k.0 h.0 stays,
      (let later : at < tick = k.0 in omega (arith, h.1)),
      narrow us t begun clear cancelled (clear_to tick flag clear) (seen_from tick flag cancelled) tick may (sleeps-up-to us t begun clear cancelled noted at tick h.2 k.1 h.3),
      narrow-noted us t begun clear cancelled (clear_to tick flag clear) (seen_from tick flag cancelled) noted may h.3,
    )
standing-on tick us flag t clear cancelled Done noted h k stays = absurd k

pub held_on : (tick us : ℕ) (flag : Bool) (t : Tree) (clear cancelled : Option ℕ) (stage : Stage) (noted : Option Progress) → IsHeld us t clear cancelled stage noted → MaySet tick stage (wake_noted noted) → StaysSet cancelled flag
    → IsHeld us t (clear_to tick flag clear) (seen_from tick flag cancelled) (set_to tick stage) noted
held_on tick us flag t clear cancelled stage noted h k stays = record {
  some = h.some;
  short = h.short;
  standing = standing-on tick us flag t clear cancelled stage noted h.standing k stays;
}
