-- When trees end: up to some tick the same, whatever is seen cancelled from then on.
use Rattle.std.proofs.Common.{◌≡◌, ◌⊎◌, inl, inr, ℕ, ◌+◌, ◌≤◌, Bool, true, false, cond, Some, None, refl, ap, ◌∙◌, arith, subst, leb-true, leb-false}
use Rattle.std.specs.Prelude.{nat_le}
use Rattle.loop_script.specs.Tree.{Tree, value, fail, sleep, check, seq, both, first, within}
use Rattle.loop_script.specs.declared.outcome.Outcome.TheVariants.{TimedOut}
use Rattle.loop_script.specs.End.{End, end_of, ending, checked, is_ok, ticks_of, followed, joined, earlier, limited}
use Rattle.task_steps.proofs.Begins.{followed_late, either_late, not_sooner}

-- ---- alike up to a tick

-- the same end, or both in a tick or later
abbrev pub Alike : ℕ → End → End → Type 0
Alike b x y = (x ≡ y) ⊎ ((b ≤ x.tick) × (b ≤ y.tick))

checked_alike : (b from f : ℕ) (s : Bool) → nat_le from f ≡ s → b ≤ from → Alike b (ending f (checked false)) (ending f (checked s))
checked_alike b from f true e h = let l : from ≤ f = leb-true from f e in inr (omega (arith, l, h), omega (arith, l, h))
checked_alike b from f false e h = inl refl

followed_alike : (b : ℕ) (x y : End) (f g : ℕ → End) → Alike b x y → ((tick : ℕ) → tick ≤ (f tick).tick) → ((tick : ℕ) → tick ≤ (g tick).tick) → ((tick : ℕ) → Alike b (f tick) (g tick)) → Alike b (followed x f) (followed y g)
followed_alike b x y f g (inl e) h k r = subst (λ (z : End). Alike b (followed x f) (followed z g)) e (by (is_ok x.outcome))
  where
    by : (ok : Bool) → Alike b (cond ok (f x.tick) x) (cond ok (g x.tick) x)
    by true = r x.tick
    by false = inl refl
followed_alike b x y f g (inr p) h k r =
    inr (followed_late b (is_ok x.outcome) x (f x.tick) p.0 (omega (arith, p.0, h x.tick)), followed_late b (is_ok y.outcome) y (g y.tick) p.1 (omega (arith, p.1, k y.tick)))

joined_alike : (b : ℕ) (x y v w : End) → Alike b x y → Alike b v w → Alike b (joined x v) (joined y w)
joined_alike b x y v w (inl e) (inl d) = inl (ap (λ (z : End). joined z v) e ∙ ap (joined y) d)
joined_alike b x y v w (inl e) (inr q) = inr (omega (arith, q.0), omega (arith, q.1))
joined_alike b x y v w (inr p) q = inr (omega (arith, p.0), omega (arith, p.1))

-- the sooner of two, where one is the same
sooner_left : (b : ℕ) (x v w : End) (c d : Bool) → nat_le x.tick v.tick ≡ c → nat_le x.tick w.tick ≡ d → b ≤ v.tick → b ≤ w.tick → Alike b (cond c x v) (cond d x w)
sooner_left b x v w true true e k p q = inl refl
sooner_left b x v w true false e k p q = let l = leb-false x.tick w.tick k in inr (omega (arith, l, q), q)
sooner_left b x v w false true e k p q = let l = leb-false x.tick v.tick e in inr (p, omega (arith, l, p))
sooner_left b x v w false false e k p q = inr (p, q)

sooner_right : (b : ℕ) (x y v : End) (c d : Bool) → nat_le x.tick v.tick ≡ c → nat_le y.tick v.tick ≡ d → b ≤ x.tick → b ≤ y.tick → Alike b (cond c x v) (cond d y v)
sooner_right b x y v true true e k p q = inr (p, q)
sooner_right b x y v true false e k p q = let l = leb-true x.tick v.tick e in inr (p, omega (arith, l, p))
sooner_right b x y v false true e k p q = let l = leb-true y.tick v.tick k in inr (omega (arith, l, q), q)
sooner_right b x y v false false e k p q = inl refl

earlier_alike : (b : ℕ) (x y v w : End) → Alike b x y → Alike b v w → Alike b (earlier x v) (earlier y w)
earlier_alike b x y v w (inl e) (inl d) = inl (ap (λ (z : End). earlier z v) e ∙ ap (earlier y) d)
earlier_alike b x y v w (inl e) (inr q) = subst (λ (z : End). Alike b (earlier x v) (earlier z w)) e (sooner_left b x v w (nat_le x.tick v.tick) (nat_le x.tick w.tick) refl refl q.0 q.1)
earlier_alike b x y v w (inr p) (inl d) = subst (λ (z : End). Alike b (earlier x v) (earlier y z)) d (sooner_right b x y v (nat_le x.tick v.tick) (nat_le y.tick v.tick) refl refl p.0 p.1)
earlier_alike b x y v w (inr p) (inr q) = inr (either_late b (nat_le x.tick v.tick) x v p.0 q.0, either_late b (nat_le y.tick w.tick) y w p.1 q.1)

limited_by : (b limit : ℕ) (x y : End) (c d : Bool) → nat_le x.tick limit ≡ c → nat_le y.tick limit ≡ d → b ≤ x.tick → b ≤ y.tick → Alike b (cond c x (ending limit TimedOut)) (cond d y (ending limit TimedOut))
limited_by b limit x y c d e k p q = sooner_right b x y (ending limit TimedOut) c d e k p q

limited_alike : (b limit : ℕ) (x y : End) → Alike b x y → Alike b (limited limit x) (limited limit y)
limited_alike b limit x y (inl e) = inl (ap (limited limit) e)
limited_alike b limit x y (inr p) = limited_by b limit x y (nat_le x.tick limit) (nat_le y.tick limit) refl refl p.0 p.1

-- what is seen cancelled from a tick on, and not before, changes no end before that
pub ends_alike : (tick_us b from : ℕ) → b ≤ from → (t : Tree) (f : ℕ) → Alike b (end_of tick_us t f None) (end_of tick_us t f (Some from))
ends_alike tick_us b from h (value v) f = inl refl
ends_alike tick_us b from h fail f = inl refl
ends_alike tick_us b from h (sleep us) f = inl refl
ends_alike tick_us b from h check f = checked_alike b from f (nat_le from f) refl h
ends_alike tick_us b from h (seq x y) f =
    followed_alike b (end_of tick_us x f None) (end_of tick_us x f (Some from)) (λ tick. end_of tick_us y tick None) (λ tick. end_of tick_us y tick (Some from))
    (ends_alike tick_us b from h x f) (λ tick. not_sooner tick_us y tick None) (λ tick. not_sooner tick_us y tick (Some from)) (λ tick. ends_alike tick_us b from h y tick)
ends_alike tick_us b from h (both x y) f = joined_alike b (end_of tick_us x f None) (end_of tick_us x f (Some from)) (end_of tick_us y f None) (end_of tick_us y f (Some from)) (ends_alike tick_us b from h x f) (ends_alike tick_us b from h y f)
ends_alike tick_us b from h (first x y) f = earlier_alike b (end_of tick_us x f None) (end_of tick_us x f (Some from)) (end_of tick_us y f None) (end_of tick_us y f (Some from)) (ends_alike tick_us b from h x f) (ends_alike tick_us b from h y f)
ends_alike tick_us b from h (within us x) f = limited_alike b (f + ticks_of tick_us us) (end_of tick_us x f None) (end_of tick_us x f (Some from)) (ends_alike tick_us b from h x f)
