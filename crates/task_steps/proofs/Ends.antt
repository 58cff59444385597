-- What of an end is known by a tick, and what may still change it.
use Rattle.std.proofs.Common.{◌≡◌, ℕ, ◌+◌, ◌≤◌, ◌<◌, Bool, true, false, cond, min, Option, nat_le, arith, refl, ap, sym, subst}
use Rattle.std.proofs.lemmas.Bool.Decides.{nat_tests}
use Rattle.loop_script.specs.Tree.{Tree, value, fail, sleep, check, seq, both, first, within}
use Rattle.loop_script.specs.declared.outcome.Outcome.TheVariants.{TimedOut}
use Rattle.loop_script.specs.End.{End, ending, checked, is_ok, followed, joined, earlier, limited, end_of, ticks_of}
use Rattle.task_steps.specs.Progress.{AgreeTo, AgreeFrom}
use Rattle.task_steps.proofs.Begins.{not_sooner}

pub agree_back : (k : ℕ) (c d : Option ℕ) → AgreeTo k c d → AgreeTo k d c
agree_back k c d h = λ t le. sym (h t le)

-- ---- ticks
pub le_by : (a b : ℕ) → nat_le a b ≡ true → a ≤ b
le_by a b h = grind (arith, nat_tests)

pub lt_by : (a b : ℕ) → nat_le a b ≡ false → b < a
lt_by a b h = grind (arith, nat_tests)

pub by_le : (a b : ℕ) → a ≤ b → nat_le a b ≡ true
by_le a b h = grind (arith, nat_tests)

pub by_lt : (a b : ℕ) → b < a → nat_le a b ≡ false
by_lt a b h = grind (arith, nat_tests)

pub same-tick : (x y : End) → x ≡ y → x.tick ≡ y.tick
same-tick x y h = ap (λ (e : End). e.tick) h

pub earlier_tick : (x y : End) → (earlier x y).tick ≡ min x.tick y.tick
earlier_tick x y = split (nat_le x.tick y.tick) refl
  where
    split : (p : Bool) → nat_le x.tick y.tick ≡ p → (cond p x y).tick ≡ min x.tick y.tick
    split true h = let le : x.tick ≤ y.tick = le_by x.tick y.tick h in omega arith
    split false h = let lt : y.tick < x.tick = lt_by x.tick y.tick h in omega arith

pub limited_tick : (limit : ℕ) (x : End) → (limited limit x).tick ≡ min x.tick limit
limited_tick limit x = split (nat_le x.tick limit) refl
  where
    split : (p : Bool) → nat_le x.tick limit ≡ p → (cond p x (ending limit TimedOut)).tick ≡ min x.tick limit
    split true h = let le : x.tick ≤ limit = le_by x.tick limit h in omega arith
    split false h = let lt : limit < x.tick = lt_by x.tick limit h in omega arith

-- ---- a part and what follows it
pub cond-tick : (ok : Bool) (u x : End) → x.tick ≤ u.tick → x.tick ≤ (cond ok u x).tick
cond-tick true u x h = h
cond-tick false u x h = omega arith

cond-same : (ok : Bool) (u v x : End) → (ok ≡ true → u ≡ v) → cond ok u x ≡ cond ok v x
cond-same true u v x h = h refl
cond-same false u v x h = refl

pub followed-same : (x y : End) (p q : ℕ → End) → x ≡ y → (is_ok x.outcome ≡ true → p x.tick ≡ q x.tick) → followed x p ≡ followed y q
followed-same x y p q e h = subst (λ (z : End). followed x p ≡ followed z q) e (cond-same (is_ok x.outcome) (p x.tick) (q x.tick) x h)

cond-true : (ok : Bool) (k : ℕ) (u x : End) → (cond ok u x).tick ≤ k → ok ≡ true → u.tick ≤ k
cond-true true k u x h e = h
cond-true false k u x h e = absurd (cc)

pub cond-late : (ok : Bool) (k : ℕ) (u x : End) → k < (cond ok u x).tick → ok ≡ true → k < u.tick
cond-late true k u x h e = h
cond-late false k u x h e = absurd (cc)

-- what follows a part that has ended is what a pending tree waits for
pub is-on : (ok : Bool) (k : ℕ) (u x : End) → k < (cond ok u x).tick → x.tick ≤ k → ok ≡ true
is-on true k u x h le = refl
is-on false k u x h le = absurd (omega arith)

-- ---- from the tick on in which a tree is begun
pub from_on : (us : ℕ) (t : Tree) (f : ℕ) (c d : Option ℕ) → AgreeFrom f c d → end_of us t f c ≡ end_of us t f d
from_on us (value v) f c d h = refl
from_on us fail f c d h = refl
from_on us (sleep n) f c d h = refl
from_on us check f c d h = ap (λ (b : Bool). ending f (checked b)) (h f (omega arith))
from_on us (seq a b) f c d h =
    let begins : f ≤ (end_of us a f c).tick = not_sooner us a f c in
    followed-same (end_of us a f c) (end_of us a f d) (λ t. end_of us b t c) (λ t. end_of us b t d) (from_on us a f c d h)
    (λ _. from_on us b (end_of us a f c).tick c d (λ t le. h t (omega arith)))
from_on us (both a b) f c d h = λ i. joined (from_on us a f c d h i) (from_on us b f c d h i)
from_on us (first a b) f c d h = λ i. earlier (from_on us a f c d h i) (from_on us b f c d h i)
from_on us (within n a) f c d h = λ i. limited (f + ticks_of us n) (from_on us a f c d h i)

-- ---- an end that has come
earlier-same : (k : ℕ) (a b x y : End) → (earlier a b).tick ≤ k → (a.tick ≤ k → a ≡ x) → (x.tick ≤ k → x ≡ a) → (b.tick ≤ k → b ≡ y) → (y.tick ≤ k → y ≡ b) → earlier a b ≡ earlier x y
earlier-same k a b x y e ax xa by yb = split (nat_le a.tick b.tick) (nat_le x.tick y.tick) refl refl e
  where
    split : (p q : Bool) → nat_le a.tick b.tick ≡ p → nat_le x.tick y.tick ≡ q → (cond p a b).tick ≤ k → cond p a b ≡ cond q x y
    split true true hp hq e = ax e
    split true false hp hq e =
        let le : a.tick ≤ b.tick = le_by a.tick b.tick hp in
        let lt : y.tick < x.tick = lt_by x.tick y.tick hq in
        let s : a.tick ≡ x.tick = same-tick a x (ax e) in
        let r : y.tick ≡ b.tick = same-tick y b (yb (omega arith)) in
        absurd (omega arith)
    split false true hp hq e =
        let lt : b.tick < a.tick = lt_by a.tick b.tick hp in
        let le : x.tick ≤ y.tick = le_by x.tick y.tick hq in
        let s : b.tick ≡ y.tick = same-tick b y (by e) in
        let r : x.tick ≡ a.tick = same-tick x a (xa (omega arith)) in
        absurd (omega arith)
    split false false hp hq e = by e

limited-same : (k limit : ℕ) (a x : End) → (limited limit a).tick ≤ k → (a.tick ≤ k → a ≡ x) → (x.tick ≤ k → x ≡ a) → limited limit a ≡ limited limit x
limited-same k limit a x e ax xa = split (nat_le a.tick limit) (nat_le x.tick limit) refl refl e
  where
    split : (p q : Bool) → nat_le a.tick limit ≡ p → nat_le x.tick limit ≡ q → (cond p a (ending limit TimedOut)).tick ≤ k → cond p a (ending limit TimedOut) ≡ cond q x (ending limit TimedOut)
    split true true hp hq e = ax e
    split true false hp hq e =
        let le : a.tick ≤ limit = le_by a.tick limit hp in
        let lt : limit < x.tick = lt_by x.tick limit hq in
        let s : a.tick ≡ x.tick = same-tick a x (ax e) in
        absurd (omega arith)
    split false true hp hq e =
        let lt : limit < a.tick = lt_by a.tick limit hp in
        let le : x.tick ≤ limit = le_by x.tick limit hq in
        let s : x.tick ≡ a.tick = same-tick x a (xa (omega arith)) in
        absurd (omega arith)
    split false false hp hq e = refl

-- what is seen later changes nothing
pub causal : (us : ℕ) (t : Tree) (f k : ℕ) (c d : Option ℕ) → AgreeTo k c d → (end_of us t f c).tick ≤ k → end_of us t f c ≡ end_of us t f d
causal us (value v) f k c d h e = refl
causal us fail f k c d h e = refl
causal us (sleep n) f k c d h e = refl
causal us check f k c d h e = ap (λ (b : Bool). ending f (checked b)) (h f e)
causal us (seq a b) f k c d h e =
    let x : End = end_of us a f c in
    let u : End = end_of us b x.tick c in
    let sooner : x.tick ≤ (cond (is_ok x.outcome) u x).tick = cond-tick (is_ok x.outcome) u x (not_sooner us b x.tick c) in
    followed-same x (end_of us a f d) (λ t. end_of us b t c) (λ t. end_of us b t d) (causal us a f k c d h (omega arith))
    (λ ok. causal us b x.tick k c d h (cond-true (is_ok x.outcome) k u x e ok))
causal us (both a b) f k c d h e = λ i. joined (causal us a f k c d h (omega arith) i) (causal us b f k c d h (omega arith) i)
causal us (first a b) f k c d h e =
    earlier-same k (end_of us a f c) (end_of us b f c) (end_of us a f d) (end_of us b f d) e
    (causal us a f k c d h) (causal us a f k d c (agree_back k c d h)) (causal us b f k c d h) (causal us b f k d c (agree_back k c d h))
causal us (within n a) f k c d h e =
    limited-same k (f + ticks_of us n) (end_of us a f c) (end_of us a f d) e (causal us a f k c d h) (causal us a f k d c (agree_back k c d h))

-- so an end that has not come may come under none of them
pub pending_too : (us : ℕ) (t : Tree) (f k : ℕ) (c d : Option ℕ) → AgreeTo k c d → k < (end_of us t f c).tick → k < (end_of us t f d).tick
pending_too us t f k c d h late = split (nat_le (end_of us t f d).tick k) refl
  where
    split : (p : Bool) → nat_le (end_of us t f d).tick k ≡ p → k < (end_of us t f d).tick
    split true hp =
        let same : (end_of us t f d).tick ≡ (end_of us t f c).tick = same-tick (end_of us t f d) (end_of us t f c) (causal us t f k d c (agree_back k c d h) (le_by (end_of us t f d).tick k hp)) in
        absurd (let le : (end_of us t f d).tick ≤ k = le_by (end_of us t f d).tick k hp in omega arith)
    split false hp = lt_by (end_of us t f d).tick k hp
