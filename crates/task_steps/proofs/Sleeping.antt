-- A tree that goes on sleeps to the least tick at which a wait of it ends.
use Rattle.std.proofs.Common.{◌≡◌, ℕ, ◌+◌, ◌≤◌, ◌<◌, Bool, true, false, cond, max, min, Option, nat_le, arith, refl, ap, sym, ◌∙◌}
use Rattle.loop_script.specs.Tree.{Tree, value, fail, sleep, check, seq, both, first, within}
use Rattle.loop_script.specs.End.{End, is_ok, end_of, ticks_of}
use Rattle.task_steps.specs.Wake.{wait_of}
use Rattle.task_steps.specs.Progress.{AgreeTo}
use Rattle.task_steps.proofs.Begins.{not_sooner}
use Rattle.task_steps.proofs.Ends.{agree_back, le_by, lt_by, by_le, by_lt, same-tick, earlier_tick, limited_tick, cond-tick, cond-late, is-on, causal}

-- ---- the wait of a tree that goes on is later than the tick, and not later than the end
abbrev pub IsWait : (k wait end : ℕ) → Type 0
IsWait k wait end = (k < wait) × (wait ≤ end)

lesser-waits : (p q : Bool) (k x y v w : ℕ) → nat_le x k ≡ p → nat_le y k ≡ q → k < max x y → (k < x → IsWait k v x) → (k < y → IsWait k w y) → IsWait k (cond p w (cond q v (min v w))) (max x y)
lesser-waits true true k x y v w hp hq h f g = let a : x ≤ k = le_by x k hp in let b : y ≤ k = le_by y k hq in absurd (omega arith)
lesser-waits true false k x y v w hp hq h f g = let b : k < y = lt_by y k hq in let r = g b in (r.0, omega arith)
lesser-waits false true k x y v w hp hq h f g = let a : k < x = lt_by x k hp in let r = f a in (r.0, omega arith)
lesser-waits false false k x y v w hp hq h f g = let a : k < x = lt_by x k hp in let b : k < y = lt_by y k hq in let r = f a in let s = g b in (omega arith, omega arith)

seq-waits : (p : Bool) (k : ℕ) (x u : End) (v w : ℕ) → nat_le x.tick k ≡ p → k < (cond (is_ok x.outcome) u x).tick → x.tick ≤ u.tick → (k < x.tick → IsWait k v x.tick) → (x.tick ≤ k → k < u.tick → IsWait k w u.tick) → IsWait k (cond p w v) (cond (is_ok x.outcome) u x).tick
seq-waits true k x u v w hp late longer f g =
    let over : x.tick ≤ k = le_by x.tick k hp in
    let ok : is_ok x.outcome ≡ true = is-on (is_ok x.outcome) k u x late over in
    rw ok (g over (cond-late (is_ok x.outcome) k u x late ok))
seq-waits false k x u v w hp late longer f g =
    let on = f (lt_by x.tick k hp) in
    (on.0, let by : v ≤ x.tick = on.1 in let more : x.tick ≤ (cond (is_ok x.outcome) u x).tick = cond-tick (is_ok x.outcome) u x longer in omega arith)

pub waits : (us : ℕ) (t : Tree) (f k : ℕ) (c : Option ℕ) → f ≤ k → k < (end_of us t f c).tick → IsWait k (wait_of us t f c k) (end_of us t f c).tick
waits us (value v) f k c le h = absurd (omega arith)
waits us fail f k c le h = absurd (omega arith)
waits us (sleep n) f k c le h = (h, omega arith)
waits us check f k c le h = absurd (omega arith)
waits us (seq a b) f k c le h =
    let x : End = end_of us a f c in
    seq-waits (nat_le x.tick k) k x (end_of us b x.tick c) (wait_of us a f c k) (wait_of us b x.tick c k) refl h (not_sooner us b x.tick c) (waits us a f k c le) (waits us b x.tick k c)
waits us (both a b) f k c le h =
    lesser-waits (nat_le (end_of us a f c).tick k) (nat_le (end_of us b f c).tick k) k (end_of us a f c).tick (end_of us b f c).tick (wait_of us a f c k) (wait_of us b f c k) refl refl h
    (waits us a f k c le) (waits us b f k c le)
waits us (first a b) f k c le h =
    let e = earlier_tick (end_of us a f c) (end_of us b f c) in
    let r = waits us a f k c le (omega arith) in
    let s = waits us b f k c le (omega arith) in
    (omega arith, omega arith)
waits us (within n a) f k c le h =
    let e = limited_tick (f + ticks_of us n) (end_of us a f c) in
    let r = waits us a f k c le (omega arith) in
    (omega arith, omega arith)

-- ---- it is the same for all that may come after the tick
same-over : (k : ℕ) (x y : End) → (x.tick ≤ k → x ≡ y) → (y.tick ≤ k → y ≡ x) → nat_le x.tick k ≡ nat_le y.tick k
same-over k x y f g = split (nat_le x.tick k) (nat_le y.tick k) refl refl
  where
    split : (p q : Bool) → nat_le x.tick k ≡ p → nat_le y.tick k ≡ q → p ≡ q
    split true true hp hq = refl
    split true false hp hq =
        let a : x.tick ≤ k = le_by x.tick k hp in let b : k < y.tick = lt_by y.tick k hq in let s = same-tick x y (f a) in absurd (omega arith)
    split false true hp hq =
        let a : k < x.tick = lt_by x.tick k hp in let b : y.tick ≤ k = le_by y.tick k hq in let s = same-tick y x (g b) in absurd (omega arith)
    split false false hp hq = refl

lesser-same : (p q : Bool) (k x y v w v2 w2 : ℕ) → nat_le x k ≡ p → nat_le y k ≡ q → k < max x y → (k < x → v ≡ v2) → (k < y → w ≡ w2) → cond p w (cond q v (min v w)) ≡ cond p w2 (cond q v2 (min v2 w2))
lesser-same true true k x y v w v2 w2 hp hq h f g = let a : x ≤ k = le_by x k hp in let b : y ≤ k = le_by y k hq in absurd (omega arith)
lesser-same true false k x y v w v2 w2 hp hq h f g = g (lt_by y k hq)
lesser-same false true k x y v w v2 w2 hp hq h f g = f (lt_by x k hp)
lesser-same false false k x y v w v2 w2 hp hq h f g = let a = f (lt_by x k hp) in let b = g (lt_by y k hq) in omega arith

seq-same : (p : Bool) (k : ℕ) (x y u : End) (v v2 : ℕ) (w w2 : ℕ → ℕ) → nat_le x.tick k ≡ p → nat_le x.tick k ≡ nat_le y.tick k → k < (cond (is_ok x.outcome) u x).tick → (x.tick ≤ k → x ≡ y) → (k < x.tick → v ≡ v2) → (x.tick ≤ k → k < u.tick → w x.tick ≡ w2 x.tick)
    → cond p (w x.tick) v ≡ cond (nat_le y.tick k) (w2 y.tick) v2
seq-same true k x y u v v2 w w2 hp over late same f g =
    let le : x.tick ≤ k = le_by x.tick k hp in
    let ok : is_ok x.outcome ≡ true = is-on (is_ok x.outcome) k u x late le in
    let rest = g le (cond-late (is_ok x.outcome) k u x late ok) in
    rw (sym over ∙ hp) (rest ∙ ap w2 (same-tick x y (same le)))
seq-same false k x y u v v2 w w2 hp over late same f g = rw (sym over ∙ hp) (f (lt_by x.tick k hp))

pub same_wait : (us : ℕ) (t : Tree) (f k : ℕ) (c d : Option ℕ) → f ≤ k → AgreeTo k c d → k < (end_of us t f c).tick → wait_of us t f c k ≡ wait_of us t f d k
same_wait us (value v) f k c d le h late = refl
same_wait us fail f k c d le h late = refl
same_wait us (sleep n) f k c d le h late = refl
same_wait us check f k c d le h late = refl
same_wait us (seq a b) f k c d le h late =
    let x : End = end_of us a f c in
    let y : End = end_of us a f d in
    let over = same-over k x y (causal us a f k c d h) (causal us a f k d c (agree_back k c d h)) in
    seq-same (nat_le x.tick k) k x y (end_of us b x.tick c) (wait_of us a f c k) (wait_of us a f d k) (λ t. wait_of us b t c k) (λ t. wait_of us b t d k) refl over late
    (causal us a f k c d h) (same_wait us a f k c d le h) (λ on. same_wait us b x.tick k c d on h)
same_wait us (both a b) f k c d le h late =
    let p = same-over k (end_of us a f c) (end_of us a f d) (causal us a f k c d h) (causal us a f k d c (agree_back k c d h)) in
    let q = same-over k (end_of us b f c) (end_of us b f d) (causal us b f k c d h) (causal us b f k d c (agree_back k c d h)) in
    rw (← p, ← q)
    (lesser-same (nat_le (end_of us a f c).tick k) (nat_le (end_of us b f c).tick k) k (end_of us a f c).tick (end_of us b f c).tick (wait_of us a f c k) (wait_of us b f c k) (wait_of us a f d k) (wait_of us b f d k) refl refl late
    (same_wait us a f k c d le h) (same_wait us b f k c d le h))
same_wait us (first a b) f k c d le h late =
    let e = earlier_tick (end_of us a f c) (end_of us b f c) in
    let r = same_wait us a f k c d le h (omega arith) in
    let s = same_wait us b f k c d le h (omega arith) in
    λ i. min (r i) (s i)
same_wait us (within n a) f k c d le h late =
    let e = limited_tick (f + ticks_of us n) (end_of us a f c) in
    let r = same_wait us a f k c d le h (omega arith) in
    λ i. min (f + ticks_of us n) (r i)

-- ---- until it ends it stays the least
seq-on : (p : Bool) (k m : ℕ) (x u : End) (v v2 w w2 : ℕ) → nat_le x.tick k ≡ p → k ≤ m → k < (cond (is_ok x.outcome) u x).tick → m < cond p w v → (k < x.tick → IsWait k v x.tick) → (k < x.tick → m < v → v2 ≡ v) → (x.tick ≤ k → k < u.tick → m < w → w2 ≡ w)
    → cond (nat_le x.tick m) w2 v2 ≡ cond p w v
seq-on true k m x u v v2 w w2 hp le late h wait f g =
    let over : x.tick ≤ k = le_by x.tick k hp in
    let ok : is_ok x.outcome ≡ true = is-on (is_ok x.outcome) k u x late over in
    rw (by_le x.tick m (omega arith)) (g over (cond-late (is_ok x.outcome) k u x late ok) h)
seq-on false k m x u v v2 w w2 hp le late h wait f g =
    let lt : k < x.tick = lt_by x.tick k hp in
    let by : v ≤ x.tick = (wait lt).1 in
    rw (by_lt x.tick m (omega arith)) (f lt h)

both-on : (p q : Bool) (k m x y v v2 w w2 : ℕ) → nat_le x k ≡ p → nat_le y k ≡ q → k ≤ m → k < max x y → m < cond p w (cond q v (min v w)) → (k < x → IsWait k v x) → (k < y → IsWait k w y) → (k < x → m < v → v2 ≡ v) → (k < y → m < w → w2 ≡ w)
    → cond (nat_le x m) w2 (cond (nat_le y m) v2 (min v2 w2)) ≡ cond p w (cond q v (min v w))
both-on true true k m x y v v2 w w2 hp hq le late h a b f g = let i : x ≤ k = le_by x k hp in let j : y ≤ k = le_by y k hq in absurd (omega arith)
both-on true false k m x y v v2 w w2 hp hq le late h a b f g =
    let i : x ≤ k = le_by x k hp in
    rw (by_le x m (omega arith)) (g (lt_by y k hq) h)
both-on false true k m x y v v2 w w2 hp hq le late h a b f g =
    let i : k < x = lt_by x k hp in
    let j : y ≤ k = le_by y k hq in
    let by : v ≤ x = (a i).1 in
    rw (by_lt x m (omega arith), by_le y m (omega arith)) (f i h)
both-on false false k m x y v v2 w w2 hp hq le late h a b f g =
    let i : k < x = lt_by x k hp in
    let j : k < y = lt_by y k hq in
    let one : v ≤ x = (a i).1 in
    let other : w ≤ y = (b j).1 in
    let r = f i (omega arith) in
    let s = g j (omega arith) in
    rw (by_lt x m (omega arith), by_lt y m (omega arith)) (λ t. min (r t) (s t))

pub wait_on : (us : ℕ) (t : Tree) (f k m : ℕ) (c : Option ℕ) → f ≤ k → k ≤ m → k < (end_of us t f c).tick → m < wait_of us t f c k → wait_of us t f c m ≡ wait_of us t f c k
wait_on us (value v) f k m c le on late h = refl
wait_on us fail f k m c le on late h = refl
wait_on us (sleep n) f k m c le on late h = refl
wait_on us check f k m c le on late h = refl
wait_on us (seq a b) f k m c le on late h =
    let x : End = end_of us a f c in
    seq-on (nat_le x.tick k) k m x (end_of us b x.tick c) (wait_of us a f c k) (wait_of us a f c m) (wait_of us b x.tick c k) (wait_of us b x.tick c m) refl on late h
    (waits us a f k c le) (wait_on us a f k m c le on) (λ over. wait_on us b x.tick k m c over on)
wait_on us (both a b) f k m c le on late h =
    both-on (nat_le (end_of us a f c).tick k) (nat_le (end_of us b f c).tick k) k m (end_of us a f c).tick (end_of us b f c).tick (wait_of us a f c k) (wait_of us a f c m) (wait_of us b f c k) (wait_of us b f c m) refl refl on late h
    (waits us a f k c le) (waits us b f k c le) (wait_on us a f k m c le on) (wait_on us b f k m c le on)
wait_on us (first a b) f k m c le on late h =
    let e = earlier_tick (end_of us a f c) (end_of us b f c) in
    let r = wait_on us a f k m c le on (omega arith) (omega arith) in
    let s = wait_on us b f k m c le on (omega arith) (omega arith) in
    λ t. min (r t) (s t)
wait_on us (within n a) f k m c le on late h =
    let e = limited_tick (f + ticks_of us n) (end_of us a f c) in
    let r = wait_on us a f k m c le on (omega arith) (omega arith) in
    λ t. min (f + ticks_of us n) (r t)
