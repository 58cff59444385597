-- What is known of a tree by what is known of its parts, whatever comes.
use Rattle.std.proofs.Common.{◌≡◌, ℕ, ◌≤◌, cond, Option, Some, None, sym, ◌∙◌, arith}
use Rattle.loop_script.specs.Tree.{Tree, seq}
use Rattle.loop_script.specs.declared.outcome.Outcome.{Outcome}
use Rattle.task_steps.specs.declared.progress.Progress.{Progress}
use Rattle.task_steps.specs.declared.progress.Progress.TheVariants.{Ended, Waits}
use Rattle.loop_script.specs.End.{ending, is_ok, followed, end_of}
use Rattle.task_steps.specs.Progress.{IsKnown, ok_at}
use Rattle.task_steps.proofs.Begins.{not_sooner}
use Rattle.task_steps.proofs.Ends.{cond-tick, followed-same, from_on, same-tick}
use Rattle.task_steps.proofs.Parts.{ends-it, seq-end, goes-on}

-- a sequence whose first part has not ended, or has failed
pub stays_known : (us : ℕ) (a b : Tree) (f k n : ℕ) (c : Option ℕ) (p : Progress) → ok_at p ≡ None → IsKnown us a f c k n p → IsKnown us (seq a b) f c k n p
stays_known us a b f k n c (Ended at o) e h = (λ d g. seq-end us a b f d (ending at o) (h.0 d g) ∙ ends-it (is_ok o) at (end_of us b at d) (ending at o) e, h.1)
stays_known us a b f k n c (Waits w) e h = (
  h.0,
  record {
    ends = λ d g.
        let x = end_of us a f d in
        let by : w ≤ x.tick = h.1.ends d g in
        let longer : x.tick ≤ (followed x (λ t. end_of us b t d)).tick = cond-tick (is_ok x.outcome) (end_of us b x.tick d) x (not_sooner us b x.tick d) in
        omega arith;
    same = λ d e2 g i from.
        let by : w ≤ (end_of us a f d).tick = h.1.ends d g in
        followed-same (end_of us a f d) (end_of us a f e2) (λ t. end_of us b t d) (λ t. end_of us b t e2) (h.1.same d e2 g i from)
        (λ ok. from_on us b (end_of us a f d).tick d e2 (λ t le. from t (omega arith)));
  },
)

-- one whose first part has ended with ok
then : (us : ℕ) (a b : Tree) (f at t : ℕ) (o : Outcome) (d : Option ℕ) → cond (is_ok o) (Some at) None ≡ Some t → end_of us a f d ≡ ending at o → end_of us (seq a b) f d ≡ end_of us b t d
then us a b f at t o d s h = seq-end us a b f d (ending at o) h ∙ goes-on (is_ok o) at t (λ n. end_of us b n d) (ending at o) s

pub goes_known : (us : ℕ) (a b : Tree) (f k n t : ℕ) (c : Option ℕ) (p q : Progress) → ok_at p ≡ Some t → IsKnown us a f c k n p → IsKnown us b t c k n q → IsKnown us (seq a b) f c k n q
goes_known us a b f k n t c (Ended at o) (Ended s r) e h g = (λ d i. then us a b f at t o d e (h.0 d i) ∙ g.0 d i, g.1)
goes_known us a b f k n t c (Ended at o) (Waits w) e h g = (
  g.0,
  record {
    ends = λ d i.
        let same = same-tick (end_of us (seq a b) f d) (end_of us b t d) (then us a b f at t o d e (h.0 d i)) in
        let by : w ≤ (end_of us b t d).tick = g.1.ends d i in
        omega arith;
    same = λ d e2 i j from. then us a b f at t o d e (h.0 d i) ∙ (g.1.same d e2 i j from ∙ sym (then us a b f at t o e2 e (h.0 e2 j)));
  },
)
goes_known us a b f k n t c (Waits w) q e h g = absurd (cc)
