-- What is counted of layers.
use Rattle.std.proofs.Common.{◌≡◌, ℕ, ◌+◌, ◌≤◌, Bool, true, false, cond, Option, Some, None, List, [], ◌∷◌, length, refl, sym, ap, ◌∙◌, arith, count_by, drop, reverse}
use Rattle.std.specs.Prelude.{slice_get, filter_map}
use Rattle.std.proofs.lemmas.List.Sums.{sum_by-cons}
use Rattle.lane_turn.specs.declared.layer.Layer.{Layer}
use Rattle.lane_turn.specs.declared.layer.Layer.TheVariants as layers
use Rattle.lane_turn.specs.declared.layer.Origin.{Origin}
use Rattle.lane_turn.specs.declared.layer.Origin.TheVariants as origins
use Rattle.lane_turn.specs.declared.tally.Tally.{Tally}
use Rattle.lane_turn.specs.Frames.{blocked_by, blocked_in, busy}
use Rattle.lane_turn.specs.Nest.{is_dispatch_layer, is_call_layer, is_blocking, is_blocking_layer, frame_of, frames_of, taken_layer, taken_layers}
use Rattle.lane_turn.specs.Tally.{one_if, more, tally_of, IsSmall, Counts}

count_more : (f : Layer → Bool) (l : Layer) (ls : List Layer) → count_by f (l ∷ ls) ≡ count_by f ls + one_if (f l)
count_more f l ls = omega (arith, sum_by-cons (λ a. one_if (f a)) l ls)

one_small : (b : Bool) → one_if b ≤ 1
one_small true = omega arith
one_small false = omega arith

count_small : (f : Layer → Bool) (ls : List Layer) → count_by f ls ≤ length ls
count_small f [] = omega arith
count_small f (l ∷ ls) = omega (arith, count_more f l ls, one_small (f l), count_small f ls)

pub dispatches_small : (ls : List Layer) → count_by is_dispatch_layer ls ≤ length ls
dispatches_small ls = count_small is_dispatch_layer ls

pub small_of : (ls : List Layer) → IsSmall (tally_of ls)
small_of ls = (count_small is_dispatch_layer ls, (count_small is_call_layer ls, count_small is_blocking_layer ls))

-- tallies of the same numbers are the same
abbrev numbers : (layers dispatches calls blocking : ℕ) → Tally
numbers a b c d = record { layers = a; dispatches = b; calls = c; blocking = d }

same_tally : (a b c d a' b' c' d' : ℕ) → a ≡ a' → b ≡ b' → c ≡ c' → d ≡ d' → numbers a b c d ≡ numbers a' b' c' d'
same_tally a b c d a' b' c' d' p q r s = rw (p, q, r, s) refl

pub more_of : (l : Layer) (ls : List Layer) → more l (tally_of ls) ≡ tally_of (l ∷ ls)
more_of l ls = same_tally _ _ _ _ _ _ _ _ (omega arith) (sym (count_more is_dispatch_layer l ls)) (sym (count_more is_call_layer l ls)) (sym (count_more is_blocking_layer l ls))

counts_of : (l : Layer) (ls : List Layer) → Counts l (tally_of (l ∷ ls))
counts_of l ls =
    (omega arith, (omega (arith, count_more is_dispatch_layer l ls), (omega (arith, count_more is_call_layer l ls), omega (arith, count_more is_blocking_layer l ls))))

less_of : (l : Layer) (ls : List Layer) (t : Tally) → more l t ≡ tally_of (l ∷ ls) → t ≡ tally_of ls
less_of l ls t e =
    same_tally _ _ _ _ _ _ _ _
    (omega (arith, ap (λ (x : Tally). x.layers) e))
    (omega (arith, ap (λ (x : Tally). x.dispatches) e, count_more is_dispatch_layer l ls))
    (omega (arith, ap (λ (x : Tally). x.calls) e, count_more is_call_layer l ls))
    (omega (arith, ap (λ (x : Tally). x.blocking) e, count_more is_blocking_layer l ls))

some_layer : (a b : Layer) → Some a ≡ Some b → b ≡ a
some_layer a b e = cc

-- the innermost is counted, and without it the rest is
pub counts_first : (ls : List Layer) (l : Layer) → Some l ≡ slice_get ls 0 → Counts l (tally_of ls)
counts_first [] l e = absurd cc
counts_first (x ∷ ls) l e = rw (some_layer l x e) (counts_of l ls)

pub less_first : (ls : List Layer) (l : Layer) (t : Tally) → Some l ≡ slice_get ls 0 → more l t ≡ tally_of ls → t ≡ tally_of (drop 1 ls)
less_first [] l t e m = absurd cc
less_first (x ∷ ls) l t e m = less_of l ls t (m ∙ ap (λ y. tally_of (y ∷ ls)) (some_layer l x e))

-- what takes its next action or id stays what it is
taken_one_same : (l : Layer) (ls : List Layer) → tally_of (taken_layer l ∷ ls) ≡ tally_of (l ∷ ls)
taken_one_same (layers.Call call) ls = sym (more_of (taken_layer (layers.Call call)) ls) ∙ more_of (layers.Call call) ls
taken_one_same (layers.Iteration i) ls = sym (more_of (taken_layer (layers.Iteration i)) ls) ∙ more_of (layers.Iteration i) ls
taken_one_same (layers.Loop number context) ls = refl

pub taken_same : (ls : List Layer) → tally_of (taken_layers ls) ≡ tally_of ls
taken_same [] = refl
taken_same (l ∷ ls) = taken_one_same l ls

-- where no call blocks its source none is busy
by_recurse : (recurse : Bool) (o : Option ℕ) → cond recurse false true ≡ false → cond recurse None o ≡ None
by_recurse true o e = refl
by_recurse false o e = absurd cc

blocked_none : (context : ℕ) (o : Origin) → is_blocking o ≡ false → blocked_by context o ≡ None
blocked_none context origins.Start e = refl
blocked_none context (origins.Source caller) e = by_recurse caller.recurse _ e
blocked_none context (origins.Invoke acquired) e = refl

frame_none : (context : ℕ) (live : List (Option ℕ)) (height : ℕ) (l : Layer) → is_blocking_layer l ≡ false → blocked_in context (frame_of live height l) ≡ None
frame_none context live height (layers.Call call) e = blocked_none context call.origin e
frame_none context live height (layers.Iteration i) e = refl
frame_none context live height (layers.Loop number c) e = refl

none_here : (b : Bool) → one_if b ≡ 0 → b ≡ false
none_here true e = absurd (omega (arith, e))
none_here false e = refl

none_blocked : (context : ℕ) (live : List (Option ℕ)) (ls : List Layer) → count_by is_blocking_layer ls ≡ 0 → filter_map (blocked_in context) (frames_of live ls) ≡ []
none_blocked context live [] e = refl
none_blocked context live (l ∷ ls) e =
    let more = count_more is_blocking_layer l ls in
    rw (frame_none context live (length ls) l (none_here _ (omega (arith, e, more)))) (none_blocked context live ls (omega (arith, e, more)))

pub none_busy : (context : ℕ) (live : List (Option ℕ)) (ls : List Layer) → count_by is_blocking_layer ls ≡ 0 → busy context (frames_of live ls) ≡ []
none_busy context live ls none = ap reverse (none_blocked context live ls none)
