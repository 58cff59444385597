-- What lies in a lane's frames while it rests, and what is asked of all of them.
use Rattle.std.proofs.Common.{◌≡◌, ℕ, suc, ◌+◌, ◌-◌, ◌≤◌, ◌==◌, ◌&&◌, ◌||◌, Bool, true, false, cond, Option, Some, None, List, [], ◌∷◌, ◌++◌, length, reverse, refl, ap, sym, ◌∙◌, arith, append-nil}
use Rattle.std.specs.Prelude.{filter_map}
use Rattle.std.specs.List.{list_any, cons_option}
use Rattle.std.proofs.lemmas.List.{reverse-append, length-reverse}
use Rattle.std.proofs.lemmas.List.Elements.{filter_map-append}
use Rattle.std.proofs.lemmas.List.Folds.{list_any-append}
use Rattle.lane_turn.specs.declared.layer.Layer.{Layer}
use Rattle.lane_turn.specs.declared.layer.Layer.TheVariants as layers
use Rattle.lane_turn.specs.Frames.{Frame, CallOf, IterOf, LoopOf, emptied, blocked_in, busy, owns}
use Rattle.lane_turn.specs.Lane.{is_any}
use Rattle.lane_turn.specs.Nest.{frame_of, frames_of, frames_from, blocked_by_layer, layer_owns}
use Rattle.lane_turn.specs.Quiet.{has_rest}

-- either end may be asked first
either_first : (a b : Bool) → (a || (b || false)) ≡ (b || a)
either_first true true = refl
either_first true false = refl
either_first false true = refl
either_first false false = refl

pub any_reverse : {X : Type 0} (p : X → Bool) (xs : List X) → list_any p (reverse xs) ≡ list_any p xs
any_reverse p [] = refl
any_reverse p (x ∷ xs) =
    ap (list_any p) (reverse-append (x ∷ []) xs)
    ∙ (list_any-append p (reverse xs) (x ∷ []) ∙ (either_first (list_any p (reverse xs)) (p x) ∙ ap (λ b. p x || b) (any_reverse p xs)))

pub filter_map-reverse : {X Y : Type 0} (h : X → Option Y) (xs : List X) → filter_map h (reverse xs) ≡ reverse (filter_map h xs)
filter_map-reverse h [] = refl
filter_map-reverse {X} {Y} h (x ∷ xs) =
    ap (filter_map h) (reverse-append (x ∷ []) xs)
    ∙ (filter_map-append h (reverse xs) (x ∷ []) ∙ (ap (λ ys. ys ++ cons_option (h x) []) (filter_map-reverse h xs) ∙ last (h x) (filter_map h xs)))
  where
    last : (o : Option Y) (ys : List Y) → reverse ys ++ cons_option o [] ≡ reverse (cons_option o ys)
    last None ys = append-nil (reverse ys)
    last (Some y) ys = sym (reverse-append (y ∷ []) ys)

-- what is asked of all frames is asked of their layers
blocked_same : (context height : ℕ) (live : List (Option ℕ)) (l : Layer) → blocked_in context (frame_of live height l) ≡ blocked_by_layer context l
blocked_same context height live (layers.Call call) = refl
blocked_same context height live (layers.Iteration i) = refl
blocked_same context height live (layers.Loop number c) = refl

blocked_layers : (context : ℕ) (live : List (Option ℕ)) (ls : List Layer) → filter_map (blocked_by_layer context) ls ≡ filter_map (blocked_in context) (frames_of live ls)
blocked_layers context live [] = refl
blocked_layers context live (l ∷ ls) = rw (blocked_same context (length ls) live l, blocked_layers context live ls) refl

pub busy_layers : (context : ℕ) (live : List (Option ℕ)) (ls : List Layer) → filter_map (blocked_by_layer context) (reverse ls) ≡ busy context (frames_of live ls)
busy_layers context live ls = filter_map-reverse (blocked_by_layer context) ls ∙ ap reverse (blocked_layers context live ls)

owns_same : (context height : ℕ) (live : List (Option ℕ)) (l : Layer) → owns context (frame_of live height l) ≡ layer_owns context l
owns_same context height live (layers.Call call) = refl
owns_same context height live (layers.Iteration i) = refl
owns_same context height live (layers.Loop number c) = refl

pub owns_layers : (context : ℕ) (live : List (Option ℕ)) (ls : List Layer) → list_any (layer_owns context) ls ≡ list_any (owns context) (frames_of live ls)
owns_layers context live [] = refl
owns_layers context live (l ∷ ls) = rw (owns_same context (length ls) live l, owns_layers context live ls) refl

-- where none is left, a newer iteration takes none from older ones
or_left : (a b : Bool) → (a || b) ≡ false → a ≡ false
or_left true b h = absurd (cc)
or_left false b h = refl

or_right : (a b : Bool) → (a || b) ≡ false → b ≡ false
or_right true b h = absurd (cc)
or_right false b h = h

none_taken : (b : Bool) (ids : List ℕ) → (b && is_any ids) ≡ false → cond b [] ids ≡ ids
none_taken true [] h = refl
none_taken true (id ∷ ids) h = absurd (cc)
none_taken false ids h = refl

pub no_rest : (context : ℕ) (frames : List Frame) → list_any (has_rest context) frames ≡ false → emptied context frames ≡ frames
no_rest context [] h = refl
no_rest context (CallOf call ∷ below) h = ap (λ (fs : List Frame). CallOf call ∷ fs) (no_rest context below h)
no_rest context (IterOf c ids asker ∷ below) h =
    let here = none_taken (c == context) ids (or_left (c == context && is_any ids) (list_any (has_rest context) below) h) in
    λ i. IterOf c (here i) asker ∷ no_rest context below (or_right (c == context && is_any ids) (list_any (has_rest context) below) h) i
no_rest context (LoopOf number c ∷ below) h = ap (λ (fs : List Frame). LoopOf number c ∷ fs) (no_rest context below h)

-- ---- from the outermost inwards

length_last : (xs : List Layer) (x : Layer) → length (xs ++ x ∷ []) ≡ suc (length xs)
length_last [] x = refl
length_last (y ∷ xs) x = ap suc (length_last xs x)

frames_split : (height : ℕ) (live : List (Option ℕ)) (xs : List Layer) (x : Layer) → frames_from height live (xs ++ x ∷ []) ≡ frames_from (height + 1) live xs ++ frame_of live height x ∷ []
frames_split height live [] x = let e : height + 0 ≡ height = omega arith in ap (λ (h : ℕ). frame_of live h x ∷ []) e
frames_split height live (y ∷ xs) x =
    let e : height + length (xs ++ x ∷ []) ≡ height + 1 + length xs = omega (arith, length_last xs x) in
    ap (λ (h : ℕ). frame_of live h y ∷ frames_from height live (xs ++ x ∷ [])) e
    ∙ ap (λ (fs : List Frame). frame_of live (height + 1 + length xs) y ∷ fs) (frames_split height live xs x)

pub first_inwards : (all left : ℕ) (live : List (Option ℕ)) (xs : List Layer) (x : Layer) → length (xs ++ x ∷ []) ≡ left → left ≤ all
    → reverse (frames_from (all - left) live (xs ++ x ∷ [])) ≡ frame_of live (all - left) x ∷ reverse (frames_from (all - (left - 1)) live xs)
first_inwards all left live xs x e h =
    let next : all - left + 1 ≡ all - (left - 1) = omega (arith, e, h, length_last xs x) in
    ap reverse (frames_split (all - left) live xs x)
    ∙ (reverse-append (frames_from (all - left + 1) live xs) (frame_of live (all - left) x ∷ [])
    ∙ ap (λ (n : ℕ). frame_of live (all - left) x ∷ reverse (frames_from n live xs)) next)

frames_are : (live : List (Option ℕ)) (ls : List Layer) → frames_from 0 live ls ≡ frames_of live ls
frames_are live [] = refl
frames_are live (l ∷ ls) = let at : 0 + length ls ≡ length ls = omega arith in λ i. frame_of live (at i) l ∷ frames_are live ls i

pub first_layer : (xs : List Layer) (x : Layer) → reverse (xs ++ x ∷ []) ≡ x ∷ reverse xs
first_layer xs x = reverse-append xs (x ∷ [])

pub first_shown : (all left : ℕ) (live : List (Option ℕ)) (x : Layer) (xs : List Layer) → length (x ∷ xs) ≡ left → left ≤ all
    → reverse (frames_from (all - left) live (reverse (x ∷ xs))) ≡ frame_of live (all - left) x ∷ reverse (frames_from (all - (left - 1)) live (reverse xs))
first_shown all left live x xs e h =
    let split = reverse-append (x ∷ []) xs in
    ap (λ (ls : List Layer). reverse (frames_from (all - left) live ls)) split
    ∙ first_inwards all left live (reverse xs) x (ap length (sym split) ∙ (length-reverse (x ∷ xs) ∙ e)) h

pub all_inwards : (live : List (Option ℕ)) (ls : List Layer) → reverse (frames_from 0 live ls) ≡ reverse (frames_of live ls)
all_inwards live ls = ap reverse (frames_are live ls)
