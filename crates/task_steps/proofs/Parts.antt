-- How far a tree is, by how far its first part is.
use Rattle.std.proofs.Common.{◌≡◌, ℕ, ◌≤◌, ◌<◌, Bool, true, false, cond, Option, Some, None, nat_le, refl, ap, sym, ◌∙◌, arith}
use Rattle.loop_script.specs.Tree.{Tree, seq, first}
use Rattle.loop_script.specs.declared.outcome.Outcome.{Outcome}
use Rattle.task_steps.specs.declared.progress.Progress.{Progress}
use Rattle.task_steps.specs.declared.progress.Progress.TheVariants.{Ended, Waits}
use Rattle.loop_script.specs.End.{End, ending, is_ok, followed, earlier, end_of}
use Rattle.task_steps.specs.Wake.{wait_of}
use Rattle.task_steps.specs.Progress.{EndsIn, IsKnown, IsProgress, ok_at}
use Rattle.task_steps.proofs.Begins.{not_sooner}
use Rattle.task_steps.proofs.Ends.{by_le, by_lt, same-tick, cond-tick}

-- one that has failed ends the sequence
pub ends-it : (ok : Bool) (at : ℕ) (u x : End) → cond ok (Some at) None ≡ None → cond ok u x ≡ x
ends-it true at u x h = absurd (cc)
ends-it false at u x h = refl

pub seq-end : (us : ℕ) (a b : Tree) (f : ℕ) (c : Option ℕ) (x : End) → end_of us a f c ≡ x → end_of us (seq a b) f c ≡ followed x (λ t. end_of us b t c)
seq-end us a b f c x h = ap (λ (e : End). followed e (λ t. end_of us b t c)) h

pub seq_stays : (us : ℕ) (a b : Tree) (f k : ℕ) (c : Option ℕ) (p : Progress) → ok_at p ≡ None → IsProgress us a f c k p → IsProgress us (seq a b) f c k p
seq_stays us a b f k c (Ended at o) n h = (seq-end us a b f c (ending at o) h.0 ∙ ends-it (is_ok o) at (end_of us b at c) (ending at o) n, h.1)
seq_stays us a b f k c (Waits w) n h =
    let x = end_of us a f c in
    let longer : x.tick ≤ (followed x (λ t. end_of us b t c)).tick = cond-tick (is_ok x.outcome) (end_of us b x.tick c) x (not_sooner us b x.tick c) in
    (let late : k < x.tick = h.0 in omega arith, h.1 ∙ sym (rw (by_lt (end_of us a f c).tick k h.0) refl), h.2)

-- one that is ok is followed
pub goes-on : (ok : Bool) (at t : ℕ) (u : ℕ → End) (x : End) → cond ok (Some at) None ≡ Some t → cond ok (u at) x ≡ u t
goes-on true at t u x h = let same : at ≡ t = cc in ap u same
goes-on false at t u x h = absurd (cc)

pub same-at : (ok : Bool) (at t : ℕ) → cond ok (Some at) None ≡ Some t → at ≡ t
same-at true at t h = cc
same-at false at t h = absurd (cc)

followed-by : (us : ℕ) (a b : Tree) (f k at t : ℕ) (o : Outcome) (c : Option ℕ) (q : Progress) → at ≤ k → at ≡ t → end_of us a f c ≡ ending at o → end_of us (seq a b) f c ≡ end_of us b t c → IsProgress us b t c k q → IsProgress us (seq a b) f c k q
followed-by us a b f k at t o c (Ended s p) le same e h g = (h ∙ g.0, g.1)
followed-by us a b f k at t o c (Waits w) le same e h g = (
  (let ticks : (end_of us (seq a b) f c).tick ≡ (end_of us b t c).tick = same-tick (end_of us (seq a b) f c) (end_of us b t c) h in let late : k < (end_of us b t c).tick = g.0 in rw ticks late),
  g.1 ∙ sym (ap (λ (x : End). cond (nat_le x.tick k) (wait_of us b x.tick c k) (wait_of us a f c k)) e ∙ rw (by_le at k le) (ap (λ (n : ℕ). wait_of us b n c k) same)),
  g.2,
)

pub seq_goes : (us : ℕ) (a b : Tree) (f k t : ℕ) (c : Option ℕ) (p q : Progress) → ok_at p ≡ Some t → IsProgress us a f c k p → IsProgress us b t c k q → IsProgress us (seq a b) f c k q
seq_goes us a b f k t c (Ended at o) q s h g =
    followed-by us a b f k at t o c q h.1 (same-at (is_ok o) at t s) h.0 (seq-end us a b f c (ending at o) h.0 ∙ goes-on (is_ok o) at t (λ n. end_of us b n c) (ending at o) s) g
seq_goes us a b f k t c (Waits w) q s h g = absurd (cc)

-- ---- of two parts of which the earlier end counts, one that ends where both are begun
not-later : (us : ℕ) (a b : Tree) (f at : ℕ) (o : Outcome) (c : Option ℕ) → at ≡ f → end_of us a f c ≡ ending at o → end_of us (first a b) f c ≡ ending at o
not-later us a b f at o c e h =
    let late : f ≤ (end_of us b f c).tick = not_sooner us b f c in
    ap (λ (x : End). earlier x (end_of us b f c)) h ∙ rw (by_le at (end_of us b f c).tick (omega arith)) refl

pub first_now : (us : ℕ) (a b : Tree) (f k : ℕ) (c : Option ℕ) (p : Progress) → EndsIn f p → IsProgress us a f c k p → IsProgress us (first a b) f c k p
first_now us a b f k c (Ended at o) e h = (not-later us a b f at o c e h.0, h.1)
first_now us a b f k c (Waits w) e h = absurd e

pub first_known : (us : ℕ) (a b : Tree) (f k n : ℕ) (c : Option ℕ) (p : Progress) → EndsIn f p → IsKnown us a f c k n p → IsKnown us (first a b) f c k n p
first_known us a b f k n c (Ended at o) e h = (λ d g. not-later us a b f at o d e (h.0 d g), h.1)
first_known us a b f k n c (Waits w) e h = absurd e
