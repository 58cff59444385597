-- What a tree comes to by its course that is cancelled from its begin on.
use Rattle.std.proofs.Common.{◌≡◌, ℕ, ◌+◌, ◌≤◌, ◌<◌, Bool, true, false, cond, min, nat_le, Option, Some, arith, refl, ap, sym, ◌∙◌}
use Rattle.loop_script.specs.Tree.{Tree}
use Rattle.loop_script.specs.End.{End, end_of, ending, seen}
use Rattle.loop_script.specs.Course.{IsCourse}
use Rattle.loop_script.specs.declared.course.Course.{Course}
use Rattle.loop_script.specs.declared.outcome.Outcome.{Outcome}
use Rattle.task_steps.specs.declared.progress.Progress.TheVariants.{Ended, Waits}
use Rattle.task_steps.specs.Progress.{IsPending, beyond, last_tick, told}
use Rattle.task_steps.specs.RunInside.{Holds}
use Rattle.task_steps.proofs.Courses.{moved_with, shifted}
use Rattle.task_steps.proofs.Ends.{by_le, le_by, lt_by}

-- where polls see it so from the tick on in which it is begun
end-cancelled : (t : Tree) (c : Course) (f : ℕ) (d : Option ℕ) → IsCourse t c → ((k : ℕ) → f ≤ k → seen d k ≡ true) → end_of c.tick_us t f d ≡ ending (f + c.cancelled.tick) c.cancelled.outcome
end-cancelled t c f d h s =
    ap (λ (k : ℕ). end_of c.tick_us t k d) (let same : f ≡ f + 0 = omega arith in same)
    ∙ moved_with c.tick_us t f 0 (Some 0) d (λ k le. s (f + k) (omega arith) ∙ sym (by_le 0 k le))
    ∙ ap (shifted f) h.cancelled

pub holds_cancelled : (t : Tree) (c : Course) (f from : ℕ) (clear : Option ℕ) → IsCourse t c → from ≤ f → Holds c.tick_us t f clear (Some from) (told (f + min c.cancelled.tick beyond) c.cancelled.outcome)
holds_cancelled t c f from clear h le = split (nat_le (f + min c.cancelled.tick beyond) last_tick) refl
  where
    split : (b : Bool) → nat_le (f + min c.cancelled.tick beyond) last_tick ≡ b → Holds c.tick_us t f clear (Some from) (cond b (Ended (f + min c.cancelled.tick beyond) c.cancelled.outcome) (Waits (f + min c.cancelled.tick beyond)))
    split true e =
        let by : f + min c.cancelled.tick beyond ≤ last_tick = le_by (f + min c.cancelled.tick beyond) last_tick e in
        let same : f + c.cancelled.tick ≡ f + min c.cancelled.tick beyond = omega arith in
        λ d m. end-cancelled t c f d h (λ k on. m.1 k (omega arith)) ∙ ap (λ (k : ℕ). ending k c.cancelled.outcome) same
    split false e = record {
      ends = λ d m.
          let at : (end_of c.tick_us t f d).tick ≡ f + c.cancelled.tick = ap (λ (x : End). x.tick) (end-cancelled t c f d h (λ k on. m.1 k (omega arith))) in
          omega arith;
      same = λ d g m i on. end-cancelled t c f d h (λ k after. m.1 k (omega arith)) ∙ sym (end-cancelled t c f g h (λ k after. i.1 k (omega arith)));
    }

pub pending_told : (at tick : ℕ) (o : Outcome) → tick ≤ last_tick → IsPending tick (told at o)
pending_told at tick o le = split (nat_le at last_tick) refl
  where
    split : (b : Bool) → nat_le at last_tick ≡ b → IsPending tick (cond b (Ended at o) (Waits at))
    split true e = tt
    split false e = let late : last_tick < at = lt_by at last_tick e in omega arith
