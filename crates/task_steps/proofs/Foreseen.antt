-- What is noted of a body by what is known of its tree.
use Rattle.std.proofs.Common.{◌≡◌, ℕ, ◌≤◌, true, false, Option, Some, None, is_some, arith, refl, sym, ◌∙◌}
use Rattle.loop_script.specs.Tree.{Tree}
use Rattle.task_steps.specs.declared.progress.Progress.{Progress}
use Rattle.task_steps.specs.declared.progress.Progress.TheVariants.{Ended, Waits}
use Rattle.loop_script.specs.End.{end_of, seen}
use Rattle.task_steps.specs.Progress.{AgreeFrom, IsKnown, SleepsTo}
use Rattle.task_steps.specs.Run.{MayCome}
use Rattle.task_steps.specs.RunInside.{IsKnownAt, Holds}
use Rattle.task_steps.proofs.Ends.{by_le}
use Rattle.task_steps.proofs.Runs.{unseen_before}

-- ---- of one that no poll saw as cancelled
unseen : (tick : ℕ) (clear c : Option ℕ) → clear ≡ Some tick → MayCome clear None c → (t : ℕ) → t ≤ tick → seen None t ≡ seen c t
unseen tick clear c is m t le = let last = rw is at m in sym (last.0 t le)

pub holds_clear : (us : ℕ) (t : Tree) (f tick n : ℕ) (clear cancelled : Option ℕ) (p : Progress) → is_some cancelled ≡ false → IsKnownAt tick clear cancelled → IsKnown us t f None tick n p → Holds us t f clear cancelled p
holds_clear us t f tick n clear (Some from) p none k h = absurd (cc)
holds_clear us t f tick n clear None (Ended at o) none k h = λ c m. h.0 c (unseen tick clear c k m)
holds_clear us t f tick n clear None (Waits w) none k h = record {
  ends = λ c m. h.1.ends c (unseen tick clear c k m);
  same = λ c d m i from. h.1.same c d (unseen tick clear c k m) (unseen tick clear d k i) from;
}

-- ---- of one that a poll saw as cancelled: from that poll on all that may come is the same
from-tick : (from tick : ℕ) (clear c : Option ℕ) → from ≤ tick → MayCome clear (Some from) c → AgreeFrom tick c (Some from)
from-tick from tick clear c le m = λ t on. m.1 t (omega arith) ∙ sym (by_le from t (omega arith))

pub holds_seen : (us : ℕ) (t : Tree) (f tick known n : ℕ) (clear cancelled : Option ℕ) (p : Progress) → is_some cancelled ≡ true → IsKnownAt tick clear cancelled → SleepsTo us t f (MayCome clear cancelled) tick → IsKnown us t f cancelled known n p → Holds us t f clear cancelled p
holds_seen us t f tick known n clear None p some k s h = absurd (cc)
holds_seen us t f tick known n clear (Some from) (Ended at o) some k s h = λ c m.
    s.same c (Some from) m (unseen_before from clear k.1) (from-tick from tick clear c k.0 m) ∙ h.0 (Some from) (λ x le. refl)
holds_seen us t f tick known n clear (Some from) (Waits w) some k s h =
    let one = λ (c : Option ℕ) (m : MayCome clear (Some from) c). s.same c (Some from) m (unseen_before from clear k.1) (from-tick from tick clear c k.0 m) in
    record {
      ends = λ c m. let late : w ≤ (end_of us t f (Some from)).tick = h.1.ends (Some from) (λ x le. refl) in rw (one c m) late;
      same = λ c d m i on. one c m ∙ sym (one d i);
    }

-- ---- of both by a look at the tick of a poll
pub holds_now : (us : ℕ) (t : Tree) (f tick n : ℕ) (clear cancelled : Option ℕ) (p : Progress) → IsKnownAt tick clear cancelled → SleepsTo us t f (MayCome clear cancelled) tick → IsKnown us t f cancelled tick n p → Holds us t f clear cancelled p
holds_now us t f tick n clear None p k s h = holds_clear us t f tick n clear None p refl k h
holds_now us t f tick n clear (Some from) p k s h = holds_seen us t f tick tick n clear (Some from) p refl k s h
