-- What a tree comes to by its course: while no check before a tick sees it as cancelled, its end is the one that comes without a cancellation, or
-- not before that tick.
use Rattle.std.proofs.Common.{leb, length, get_or, ◌≡◌, ℕ, ◌+◌, ◌≤◌, ◌<◌, ◌++◌, ◌∷◌, [], Bool, true, false, cond, max, min, nat_le, pos, Option, None, List, arith, refl, ap, sym, subst, ◌∙◌}
use Rattle.std.specs.List.{All, AllByRecursion}
use Rattle.std.specs.List.Sorted.{IsNonDecreasing, IsPartitionPoint}
use Rattle.std.proofs.lemmas.List.Elements.{recursion_from_All}
use Rattle.std.proofs.lemmas.List.Sorted.{All-permutation, IsPermutation-sym}
use Rattle.loop_script.specs.Tree.{Tree, value, fail, sleep, check, seq, both, first, within}
use Rattle.loop_script.specs.End.{End, end_of, ending, checked, is_ok, followed, joined, earlier, limited, seen, ticks_of}
use Rattle.loop_script.specs.Course.{IsCourse, checks_behind, checks_of}
use Rattle.loop_script.specs.declared.course.Course.{Course}
use Rattle.loop_script.specs.declared.outcome.Outcome.{Outcome}
use Rattle.loop_script.specs.declared.outcome.Outcome.TheVariants.{Ok, TimedOut}
use Rattle.task_steps.specs.declared.progress.Progress.TheVariants.{Ended, Waits}
use Rattle.task_steps.specs.Progress.{AgreeFrom, AgreeTo, IsKnown, beyond, last_tick, told}
use Rattle.task_steps.proofs.Begins.{not_sooner}
use Rattle.task_steps.proofs.Ends.{by_le, by_lt, le_by, lt_by, cond-tick, earlier_tick, limited_tick, followed-same, from_on}

-- ---- checks
-- a cancellation is seen by none of some checks that are begun before a wake
abbrev pub Unseen : ℕ → Option ℕ → List ℕ → Type 0
Unseen w d ts = AllByRecursion (λ t. t < w → seen d t ≡ false) ts

left : (P : ℕ → Type 0) (xs ys : List ℕ) → AllByRecursion P (xs ++ ys) → AllByRecursion P xs
left P [] ys h = tt
left P (x ∷ xs) ys h = (h.0, left P xs ys h.1)

right : (P : ℕ → Type 0) (xs ys : List ℕ) → AllByRecursion P (xs ++ ys) → AllByRecursion P ys
right P [] ys h = h
right P (x ∷ xs) ys h = right P xs ys h.1

behind : (P : ℕ → Type 0) (ok : Bool) (ts : List ℕ) → AllByRecursion P (cond ok ts []) → ok ≡ true → AllByRecursion P ts
behind P true ts h e = h
behind P false ts h e = absurd (cc)

-- ---- what an end is that comes under such a cancellation
abbrev pub IsForetold : ℕ → End → End → Type 0
IsForetold w x e = (x.tick < w → e ≡ x) × (w ≤ x.tick → w ≤ e.tick)

followed-foretold : (w : ℕ) (ok : Bool) (x u v : End) → (ok ≡ true → IsForetold w u v) → IsForetold w (cond ok u x) (cond ok v x)
followed-foretold w true x u v h = h refl
followed-foretold w false x u v h = (λ lt. refl, λ le. le)

joined-foretold : (w : ℕ) (x y e d : End) → IsForetold w x e → IsForetold w y d → IsForetold w (joined x y) (joined e d)
joined-foretold w x y e d h g = (
  λ lt. let one = h.0 (omega arith) in let other = g.0 (omega arith) in λ i. joined (one i) (other i),
  λ le. split (nat_le w x.tick) refl le,
)
  where
    split : (b : Bool) → nat_le w x.tick ≡ b → w ≤ max x.tick y.tick → w ≤ max e.tick d.tick
    split true hb le = let late : w ≤ e.tick = h.1 (le_by w x.tick hb) in omega arith
    split false hb le = let lt : x.tick < w = lt_by w x.tick hb in let late : w ≤ d.tick = g.1 (omega arith) in omega arith

earlier-one : (x y : End) → x.tick ≤ y.tick → earlier x y ≡ x
earlier-one x y le = rw (by_le x.tick y.tick le) refl

earlier-other : (x y : End) → y.tick < x.tick → earlier x y ≡ y
earlier-other x y lt = rw (by_lt x.tick y.tick lt) refl

earlier-foretold : (w : ℕ) (x y e d : End) → IsForetold w x e → IsForetold w y d → IsForetold w (earlier x y) (earlier e d)
earlier-foretold w x y e d h g = (
  λ lt. split (nat_le w x.tick) (nat_le w y.tick) refl refl lt,
  λ le.
      let least : (earlier x y).tick ≡ min x.tick y.tick = earlier_tick x y in
      let others : (earlier e d).tick ≡ min e.tick d.tick = earlier_tick e d in
      let one : w ≤ e.tick = h.1 (omega arith) in
      let other : w ≤ d.tick = g.1 (omega arith) in
      omega arith,
)
  where
    split : (b c : Bool) → nat_le w x.tick ≡ b → nat_le w y.tick ≡ c → (earlier x y).tick < w → earlier e d ≡ earlier x y
    split true true hb hc lt =
        let least : (earlier x y).tick ≡ min x.tick y.tick = earlier_tick x y in
        let one : w ≤ x.tick = le_by w x.tick hb in
        let other : w ≤ y.tick = le_by w y.tick hc in
        absurd (omega arith)
    split true false hb hc lt =
        let one : w ≤ x.tick = le_by w x.tick hb in
        let other : y.tick < w = lt_by w y.tick hc in
        let late : w ≤ e.tick = h.1 one in
        ap (λ (z : End). earlier e z) (g.0 other) ∙ earlier-other e y (omega arith) ∙ sym (earlier-other x y (omega arith))
    split false true hb hc lt =
        let one : x.tick < w = lt_by w x.tick hb in
        let other : w ≤ y.tick = le_by w y.tick hc in
        let late : w ≤ d.tick = g.1 other in
        ap (λ (z : End). earlier z d) (h.0 one) ∙ earlier-one x d (omega arith) ∙ sym (earlier-one x y (omega arith))
    split false false hb hc lt = let one = h.0 (lt_by w x.tick hb) in let other = g.0 (lt_by w y.tick hc) in λ i. earlier (one i) (other i)

limited-over : (limit : ℕ) (x : End) → limit < x.tick → limited limit x ≡ ending limit TimedOut
limited-over limit x lt = rw (by_lt x.tick limit lt) refl

limited-foretold : (w limit : ℕ) (x e : End) → IsForetold w x e → IsForetold w (limited limit x) (limited limit e)
limited-foretold w limit x e h = (
  λ lt. split (nat_le w x.tick) refl lt,
  λ le.
      let least : (limited limit x).tick ≡ min x.tick limit = limited_tick limit x in
      let others : (limited limit e).tick ≡ min e.tick limit = limited_tick limit e in
      let late : w ≤ e.tick = h.1 (omega arith) in
      omega arith,
)
  where
    split : (b : Bool) → nat_le w x.tick ≡ b → (limited limit x).tick < w → limited limit e ≡ limited limit x
    split true hb lt =
        let least : (limited limit x).tick ≡ min x.tick limit = limited_tick limit x in
        let one : w ≤ x.tick = le_by w x.tick hb in
        let late : w ≤ e.tick = h.1 one in
        limited-over limit e (omega arith) ∙ sym (limited-over limit x (omega arith))
    split false hb lt = ap (limited limit) (h.0 (lt_by w x.tick hb))

seq-foretold : (us : ℕ) (b : Tree) (w : ℕ) (d : Option ℕ) (x e : End) → IsForetold w x e → (is_ok x.outcome ≡ true → IsForetold w (end_of us b x.tick None) (end_of us b x.tick d)) → IsForetold w (followed x (λ tick. end_of us b tick None)) (followed e (λ tick. end_of us b tick d))
seq-foretold us b w d x e one next = split (nat_le w x.tick) refl
  where
    split : (c : Bool) → nat_le w x.tick ≡ c → IsForetold w (followed x (λ tick. end_of us b tick None)) (followed e (λ tick. end_of us b tick d))
    split true hc =
        let late : w ≤ x.tick = le_by w x.tick hc in
        let late2 : w ≤ e.tick = one.1 late in
        let longer : x.tick ≤ (followed x (λ tick. end_of us b tick None)).tick = cond-tick (is_ok x.outcome) (end_of us b x.tick None) x (not_sooner us b x.tick None) in
        let longer2 : e.tick ≤ (followed e (λ tick. end_of us b tick d)).tick = cond-tick (is_ok e.outcome) (end_of us b e.tick d) e (not_sooner us b e.tick d) in
        (λ lt. absurd (omega arith), λ le. omega arith)
    split false hc =
        subst (λ (z : End). IsForetold w (followed x (λ tick. end_of us b tick None)) (followed z (λ tick. end_of us b tick d))) (sym (one.0 (lt_by w x.tick hc)))
        (followed-foretold w (is_ok x.outcome) x (end_of us b x.tick None) (end_of us b x.tick d) next)

pub foretold : (us : ℕ) (t : Tree) (f w : ℕ) (d : Option ℕ) → Unseen w d (checks_of us t f None) → IsForetold w (end_of us t f None) (end_of us t f d)
foretold us (value v) f w d h = (λ lt. refl, λ le. le)
foretold us fail f w d h = (λ lt. refl, λ le. le)
foretold us (sleep n) f w d h = (λ lt. refl, λ le. le)
foretold us check f w d h = (λ lt. ap (λ (b : Bool). ending f (checked b)) (h.0 lt), λ le. le)
foretold us (seq a b) f w d h =
    let P = λ (t : ℕ). t < w → seen d t ≡ false in
    let x : End = end_of us a f None in
    let rest = checks_behind x (λ tick. checks_of us b tick None) in
    seq-foretold us b w d x (end_of us a f d) (foretold us a f w d (left P (checks_of us a f None) rest h))
    (λ ok. foretold us b x.tick w d (behind P (is_ok x.outcome) (checks_of us b x.tick None) (right P (checks_of us a f None) rest h) ok))
foretold us (both a b) f w d h =
    joined-foretold w (end_of us a f None) (end_of us b f None) (end_of us a f d) (end_of us b f d)
    (foretold us a f w d (left (λ t. t < w → seen d t ≡ false) (checks_of us a f None) (checks_of us b f None) h))
    (foretold us b f w d (right (λ t. t < w → seen d t ≡ false) (checks_of us a f None) (checks_of us b f None) h))
foretold us (first a b) f w d h =
    earlier-foretold w (end_of us a f None) (end_of us b f None) (end_of us a f d) (end_of us b f d)
    (foretold us a f w d (left (λ t. t < w → seen d t ≡ false) (checks_of us a f None) (checks_of us b f None) h))
    (foretold us b f w d (right (λ t. t < w → seen d t ≡ false) (checks_of us a f None) (checks_of us b f None) h))
foretold us (within n a) f w d h = limited-foretold w (f + ticks_of us n) (end_of us a f None) (end_of us a f d) (foretold us a f w d h)

-- ---- two such cancellations that polls from the wake on don't tell apart
same-next : (us : ℕ) (b : Tree) (w : ℕ) (d e : Option ℕ) (x y : End) → IsForetold w x y → AgreeFrom w d e → (is_ok x.outcome ≡ true → end_of us b x.tick d ≡ end_of us b x.tick e) → is_ok y.outcome ≡ true → end_of us b y.tick d ≡ end_of us b y.tick e
same-next us b w d e x y one on next ok = split (nat_le w x.tick) refl
  where
    split : (c : Bool) → nat_le w x.tick ≡ c → end_of us b y.tick d ≡ end_of us b y.tick e
    split true hc = let late : w ≤ y.tick = one.1 (le_by w x.tick hc) in from_on us b y.tick d e (λ t le. on t (omega arith))
    split false hc =
        let is : y ≡ x = one.0 (lt_by w x.tick hc) in
        subst (λ (z : End). end_of us b z.tick d ≡ end_of us b z.tick e) (sym is) (next (subst (λ (z : End). is_ok z.outcome ≡ true) is ok))

pub same_from : (us : ℕ) (t : Tree) (f w : ℕ) (d e : Option ℕ) → Unseen w d (checks_of us t f None) → Unseen w e (checks_of us t f None) → AgreeFrom w d e → end_of us t f d ≡ end_of us t f e
same_from us (value v) f w d e h g on = refl
same_from us fail f w d e h g on = refl
same_from us (sleep n) f w d e h g on = refl
same_from us check f w d e h g on = ap (λ (b : Bool). ending f (checked b)) (split (nat_le w f) refl)
  where
    split : (c : Bool) → nat_le w f ≡ c → seen d f ≡ seen e f
    split true hc = on f (le_by w f hc)
    split false hc = h.0 (lt_by w f hc) ∙ sym (g.0 (lt_by w f hc))
same_from us (seq a b) f w d e h g on =
    let P = λ (t : ℕ). t < w → seen d t ≡ false in
    let Q = λ (t : ℕ). t < w → seen e t ≡ false in
    let x : End = end_of us a f None in
    let rest = checks_behind x (λ tick. checks_of us b tick None) in
    let one = left P (checks_of us a f None) rest h in
    let next = λ (ok : is_ok x.outcome ≡ true).
    same_from us b x.tick w d e (behind P (is_ok x.outcome) (checks_of us b x.tick None) (right P (checks_of us a f None) rest h) ok) (behind Q (is_ok x.outcome) (checks_of us b x.tick None) (right Q (checks_of us a f None) rest g) ok) on in
    followed-same (end_of us a f d) (end_of us a f e) (λ tick. end_of us b tick d) (λ tick. end_of us b tick e) (same_from us a f w d e one (left Q (checks_of us a f None) rest g) on)
    (same-next us b w d e x (end_of us a f d) (foretold us a f w d one) on next)
same_from us (both a b) f w d e h g on =
    let one = same_from us a f w d e (left (λ t. t < w → seen d t ≡ false) (checks_of us a f None) (checks_of us b f None) h) (left (λ t. t < w → seen e t ≡ false) (checks_of us a f None) (checks_of us b f None) g) on in
    let other = same_from us b f w d e (right (λ t. t < w → seen d t ≡ false) (checks_of us a f None) (checks_of us b f None) h) (right (λ t. t < w → seen e t ≡ false) (checks_of us a f None) (checks_of us b f None) g) on in
    λ i. joined (one i) (other i)
same_from us (first a b) f w d e h g on =
    let one = same_from us a f w d e (left (λ t. t < w → seen d t ≡ false) (checks_of us a f None) (checks_of us b f None) h) (left (λ t. t < w → seen e t ≡ false) (checks_of us a f None) (checks_of us b f None) g) on in
    let other = same_from us b f w d e (right (λ t. t < w → seen d t ≡ false) (checks_of us a f None) (checks_of us b f None) h) (right (λ t. t < w → seen e t ≡ false) (checks_of us a f None) (checks_of us b f None) g) on in
    λ i. earlier (one i) (other i)
same_from us (within n a) f w d e h g on = ap (limited (f + ticks_of us n)) (same_from us a f w d e h g on)

-- ---- a tree that is begun later
abbrev pub shifted : ℕ → End → End
shifted g x = ending (g + x.tick) x.outcome

followed-shifted : (g : ℕ) (ok : Bool) (u v x : End) → u ≡ shifted g v → cond ok u (shifted g x) ≡ shifted g (cond ok v x)
followed-shifted g true u v x h = h
followed-shifted g false u v x h = refl

earlier-shifted : (g : ℕ) (x y : End) → earlier (shifted g x) (shifted g y) ≡ shifted g (earlier x y)
earlier-shifted g x y = split (nat_le x.tick y.tick) refl
  where
    split : (b : Bool) → nat_le x.tick y.tick ≡ b → earlier (shifted g x) (shifted g y) ≡ shifted g (cond b x y)
    split true h = let le : x.tick ≤ y.tick = le_by x.tick y.tick h in earlier-one (shifted g x) (shifted g y) (omega arith)
    split false h = let lt : y.tick < x.tick = lt_by x.tick y.tick h in earlier-other (shifted g x) (shifted g y) (omega arith)

limited-shifted : (g limit : ℕ) (x : End) → limited (g + limit) (shifted g x) ≡ shifted g (limited limit x)
limited-shifted g limit x = split (nat_le x.tick limit) refl
  where
    split : (b : Bool) → nat_le x.tick limit ≡ b → limited (g + limit) (shifted g x) ≡ shifted g (cond b x (ending limit TimedOut))
    split true h = let le : x.tick ≤ limit = le_by x.tick limit h in rw (by_le (g + x.tick) (g + limit) (omega arith)) refl
    split false h = let lt : limit < x.tick = lt_by x.tick limit h in limited-over (g + limit) (shifted g x) (omega arith)

-- under a cancellation that polls of the later one see as those of the sooner one see theirs
pub moved_with : (us : ℕ) (t : Tree) (g f : ℕ) (c d : Option ℕ) → ((k : ℕ) → f ≤ k → seen d (g + k) ≡ seen c k) → end_of us t (g + f) d ≡ shifted g (end_of us t f c)
moved_with us (value v) g f c d h = refl
moved_with us fail g f c d h = refl
moved_with us (sleep n) g f c d h = ap (λ (k : ℕ). ending k (Ok (pos 0))) (let sum : g + f + ticks_of us n ≡ g + (f + ticks_of us n) = omega arith in sum)
moved_with us check g f c d h = ap (λ (b : Bool). ending (g + f) (checked b)) (h f (omega arith))
moved_with us (seq a b) g f c d h =
    let x : End = end_of us a f c in
    let begins : f ≤ x.tick = not_sooner us a f c in
    ap (λ (z : End). followed z (λ tick. end_of us b tick d)) (moved_with us a g f c d h)
    ∙ followed-shifted g (is_ok x.outcome) (end_of us b (g + x.tick) d) (end_of us b x.tick c) x (moved_with us b g x.tick c d (λ k le. h k (omega arith)))
moved_with us (both a b) g f c d h =
    let x : End = end_of us a f c in
    let y : End = end_of us b f c in
    (λ i. joined (moved_with us a g f c d h i) (moved_with us b g f c d h i))
    ∙ ap (λ (k : ℕ). record (joined x y) { tick = k }) (let sum : max (g + x.tick) (g + y.tick) ≡ g + max x.tick y.tick = omega arith in sum)
moved_with us (first a b) g f c d h = (λ i. earlier (moved_with us a g f c d h i) (moved_with us b g f c d h i)) ∙ earlier-shifted g (end_of us a f c) (end_of us b f c)
moved_with us (within n a) g f c d h =
    let sum : g + f + ticks_of us n ≡ g + (f + ticks_of us n) = omega arith in
    ap (limited (g + f + ticks_of us n)) (moved_with us a g f c d h)
    ∙ ap (λ (k : ℕ). limited k (shifted g (end_of us a f c))) sum
    ∙ limited-shifted g (f + ticks_of us n) (end_of us a f c)

-- under none
pub moved_end : (us : ℕ) (t : Tree) (g f : ℕ) → end_of us t (g + f) None ≡ shifted g (end_of us t f None)
moved_end us t g f = moved_with us t g f None None (λ k le. refl)

joined-all : (P : ℕ → Type 0) (xs ys : List ℕ) → AllByRecursion P xs → AllByRecursion P ys → AllByRecursion P (xs ++ ys)
joined-all P [] ys h g = g
joined-all P (x ∷ xs) ys h g = (h.0, joined-all P xs ys h.1 g)

behind-all : (P : ℕ → Type 0) (ok : Bool) (ts : List ℕ) → (ok ≡ true → AllByRecursion P ts) → AllByRecursion P (cond ok ts [])
behind-all P true ts h = h refl
behind-all P false ts h = tt

-- what is so of its checks
pub moved_checks : (us : ℕ) (t : Tree) (g f : ℕ) (P : ℕ → Type 0) → AllByRecursion (λ t. P (g + t)) (checks_of us t f None) → AllByRecursion P (checks_of us t (g + f) None)
moved_checks us (value v) g f P h = tt
moved_checks us fail g f P h = tt
moved_checks us (sleep n) g f P h = tt
moved_checks us check g f P h = h
moved_checks us (seq a b) g f P h =
    let x : End = end_of us a f None in
    let Q = λ (t : ℕ). P (g + t) in
    let rest = checks_behind x (λ tick. checks_of us b tick None) in
    joined-all P (checks_of us a (g + f) None) (checks_behind (end_of us a (g + f) None) (λ tick. checks_of us b tick None)) (moved_checks us a g f P (left Q (checks_of us a f None) rest h))
    (subst (λ (z : End). AllByRecursion P (checks_behind z (λ tick. checks_of us b tick None))) (sym (moved_end us a g f))
    (behind-all P (is_ok x.outcome) (checks_of us b (g + x.tick) None) (λ ok. moved_checks us b g x.tick P (behind Q (is_ok x.outcome) (checks_of us b x.tick None) (right Q (checks_of us a f None) rest h) ok))))
moved_checks us (both a b) g f P h =
    let Q = λ (t : ℕ). P (g + t) in
    joined-all P (checks_of us a (g + f) None) (checks_of us b (g + f) None) (moved_checks us a g f P (left Q (checks_of us a f None) (checks_of us b f None) h)) (moved_checks us b g f P (right Q (checks_of us a f None) (checks_of us b f None) h))
moved_checks us (first a b) g f P h =
    let Q = λ (t : ℕ). P (g + t) in
    joined-all P (checks_of us a (g + f) None) (checks_of us b (g + f) None) (moved_checks us a g f P (left Q (checks_of us a f None) (checks_of us b f None) h)) (moved_checks us b g f P (right Q (checks_of us a f None) (checks_of us b f None) h))
moved_checks us (within n a) g f P h = moved_checks us a g f P h

-- ---- what is known of a tree that no poll up to a tick sees as cancelled
-- no check is begun after a tick and before a wake
abbrev pub NoneBetween : ℕ → ℕ → List ℕ → Type 0
NoneBetween known w ts = AllByRecursion (λ t. known < t → w ≤ t) ts

unseen-by : (known w : ℕ) (d : Option ℕ) (ts : List ℕ) → AgreeTo known None d → NoneBetween known w ts → Unseen w d ts
unseen-by known w d [] h none = tt
unseen-by known w d (t ∷ ts) h none = (λ lt. split (nat_le t known) refl lt, unseen-by known w d ts h none.1)
  where
    split : (b : Bool) → nat_le t known ≡ b → t < w → seen d t ≡ false
    split true hb lt = sym (h t (le_by t known hb))
    split false hb lt = let late : w ≤ t = none.0 (lt_by t known hb) in absurd (omega arith)

wait-known : (us : ℕ) (t : Tree) (f known n w : ℕ) → known < w → NoneBetween known w (checks_of us t f None) → w ≤ (end_of us t f None).tick → IsKnown us t f None known n (Waits w)
wait-known us t f known n w lt none le = (
  lt,
  record {
    ends = λ d i. (foretold us t f w d (unseen-by known w d (checks_of us t f None) i none)).1 le;
    same = λ d e i j on. same_from us t f w d e (unseen-by known w d (checks_of us t f None) i none) (unseen-by known w e (checks_of us t f None) j none) on;
  },
)

end-known : (us : ℕ) (t : Tree) (f known n at : ℕ) (o : Outcome) → end_of us t f None ≡ ending at o → NoneBetween known (at + 1) (checks_of us t f None) → at ≤ n → IsKnown us t f None known n (Ended at o)
end-known us t f known n at o is none le = (
  λ d i.
      let same : (end_of us t f None).tick ≡ at = ap (λ (e : End). e.tick) is in
      (foretold us t f (at + 1) d (unseen-by known (at + 1) d (checks_of us t f None) i none)).0 (omega arith) ∙ is,
  le,
)

-- ---- by a course
-- of its checks, none is after a tick and before a wake, counted from the begin
abbrev pub IsFree : ℕ → ℕ → List ℕ → Type 0
IsFree passed w ts = All (λ t. passed < t → w ≤ t) ts

none-later : (t : Tree) (c : Course) (f passed w : ℕ) → IsCourse t c → IsFree passed w c.checks.items → NoneBetween (f + passed) (f + w) (checks_of c.tick_us t f None)
none-later t c f passed w h free =
    let ts = checks_of c.tick_us t 0 None in
    let own : All (λ (x : ℕ). passed < x → w ≤ x) ts = All-permutation (λ (x : ℕ). passed < x → w ≤ x) c.checks.items ts (IsPermutation-sym ts c.checks.items h.checks) free in
    let moved = moved_checks c.tick_us t f 0 (λ (x : ℕ). f + passed < x → f + w ≤ x) (onward ts (recursion_from_All (λ (x : ℕ). passed < x → w ≤ x) ts own)) in
    subst (λ (k : ℕ). NoneBetween (f + passed) (f + w) (checks_of c.tick_us t k None)) (let same : f + 0 ≡ f = omega arith in same) moved
  where
    onward : (ts : List ℕ) → AllByRecursion (λ (x : ℕ). passed < x → w ≤ x) ts → AllByRecursion (λ (x : ℕ). f + passed < f + x → f + w ≤ f + x) ts
    onward [] i = tt
    onward (x ∷ xs) i = (λ lt. let le : w ≤ x = i.0 (omega arith) in omega arith, onward xs i.1)

end-later : (t : Tree) (c : Course) (f : ℕ) → IsCourse t c → end_of c.tick_us t f None ≡ ending (f + c.end.tick) c.end.outcome
end-later t c f h =
    ap (λ (k : ℕ). end_of c.tick_us t k None) (let same : f ≡ f + 0 = omega arith in same) ∙ moved_end c.tick_us t f 0 ∙ ap (shifted f) h.end

course_waits : (t : Tree) (c : Course) (f passed w n : ℕ) → IsCourse t c → passed < w → IsFree passed w c.checks.items → w ≤ c.end.tick → IsKnown c.tick_us t f None (f + passed) n (Waits (f + w))
course_waits t c f passed w n h lt free le =
    let at : (end_of c.tick_us t f None).tick ≡ f + c.end.tick = ap (λ (e : End). e.tick) (end-later t c f h) in
    wait-known c.tick_us t f (f + passed) n (f + w) (omega arith) (none-later t c f passed w h free) (omega arith)

course_ends : (t : Tree) (c : Course) (f passed n : ℕ) → IsCourse t c → IsFree passed (c.end.tick + 1) c.checks.items → f + c.end.tick ≤ n → IsKnown c.tick_us t f None (f + passed) n (Ended (f + c.end.tick) c.end.outcome)
course_ends t c f passed n h free le =
    let none = subst (λ (k : ℕ). NoneBetween (f + passed) k (checks_of c.tick_us t f None)) (let same : f + (c.end.tick + 1) ≡ f + c.end.tick + 1 = omega arith in same) (none-later t c f passed (c.end.tick + 1) h free) in
    end-known c.tick_us t f (f + passed) n (f + c.end.tick) c.end.outcome (end-later t c f h) none le

free_less : (ts : List ℕ) (passed v w : ℕ) → v ≤ w → IsFree passed w ts → IsFree passed v ts
free_less ts passed v w le h = λ k d below lt. let late : w ≤ get_or ts k d = h k d below lt in omega arith

pub course_sleeps : (t : Tree) (c : Course) (f passed w : ℕ) → IsCourse t c → f + passed ≤ last_tick → passed < w → IsFree passed w c.checks.items → w ≤ c.end.tick → IsKnown c.tick_us t f None (f + passed) last_tick (Waits (f + min w beyond))
course_sleeps t c f passed w h le lt free by = course_waits t c f passed (min w beyond) last_tick h (omega arith) (free_less c.checks.items passed (min w beyond) w (omega arith) free) (omega arith)

pub course_told : (t : Tree) (c : Course) (f passed : ℕ) → IsCourse t c → f + passed ≤ last_tick → IsFree passed (c.end.tick + 1) c.checks.items → IsKnown c.tick_us t f None (f + passed) last_tick (told (f + min c.end.tick beyond) c.end.outcome)
course_told t c f passed h le free = split (nat_le (f + min c.end.tick beyond) last_tick) refl
  where
    split : (b : Bool) → nat_le (f + min c.end.tick beyond) last_tick ≡ b → IsKnown c.tick_us t f None (f + passed) last_tick (cond b (Ended (f + min c.end.tick beyond) c.end.outcome) (Waits (f + min c.end.tick beyond)))
    split true e =
        let by : f + min c.end.tick beyond ≤ last_tick = le_by (f + min c.end.tick beyond) last_tick e in
        let same : c.end.tick ≡ min c.end.tick beyond = omega arith in
        subst (λ (k : ℕ). IsKnown c.tick_us t f None (f + passed) last_tick (Ended (f + k) c.end.outcome)) same (course_ends t c f passed last_tick h free (omega (arith, same)))
    split false e =
        let late : last_tick < f + min c.end.tick beyond = lt_by (f + min c.end.tick beyond) last_tick e in
        course_sleeps t c f passed c.end.tick h le (omega arith) (free_less c.checks.items passed c.end.tick (c.end.tick + 1) (omega arith) free) (omega arith)

-- ---- its next check
abbrev pub IsPoint : List ℕ → ℕ → ℕ → Type 0
IsPoint ts passed i = IsPartitionPoint (λ x. leb x passed ≡ true) (λ x. leb x passed ≡ false) ts i

pub free_to : (ts : List ℕ) (passed i w : ℕ) → IsNonDecreasing ts → IsPoint ts passed i → i < length ts → ((d : ℕ) → w ≡ get_or ts i d) → IsFree passed w ts
free_to ts passed i w rising point in' is = λ k d below lt. split k d (nat_le i k) refl below lt
  where
    split : (k d : ℕ) (b : Bool) → nat_le i k ≡ b → k < length ts → passed < get_or ts k d → w ≤ get_or ts k d
    split k d true e below lt = rw (is d) (rising i k d (le_by i k e) below)
    split k d false e below lt =
        let before : get_or ts k d ≤ passed = le_by (get_or ts k d) passed (point.0 k d (omega arith) (lt_by i k e)) in
        absurd (omega arith)

pub next_passed : (ts : List ℕ) (passed i w : ℕ) → IsPoint ts passed i → i < length ts → ((d : ℕ) → w ≡ get_or ts i d) → passed < w
next_passed ts passed i w point in' is = let late : passed < get_or ts i 0 = lt_by (get_or ts i 0) passed (point.1 i 0 (omega arith) in') in rw (is 0) late

pub free_all : (ts : List ℕ) (passed i w : ℕ) → IsPoint ts passed i → length ts ≤ i → IsFree passed w ts
free_all ts passed i w point out = λ k d below lt. let before : get_or ts k d ≤ passed = le_by (get_or ts k d) passed (point.0 k d (omega arith) (omega arith)) in absurd (omega arith)

pub free_beyond : (ts : List ℕ) (passed i w v : ℕ) → IsNonDecreasing ts → IsPoint ts passed i → i < length ts → ((d : ℕ) → w ≡ get_or ts i d) → v < w → IsFree passed (v + 1) ts
free_beyond ts passed i w v rising point in' is lt = free_less ts passed (v + 1) w (omega arith) (free_to ts passed i w rising point in' is)
