-- What the flat list of frames says of the boxes.
use Rattle.std.proofs.Common.{◌≡◌, ◌≢◌, ℕ, zero, suc, ◌+◌, ◌-◌, ◌<◌, ◌≤◌, Bool, true, false, cond, Option, Some, None, List, [], ◌∷◌, ◌++◌, length, drop, slice_set, refl, sym, ap, ◌∙◌, subst, arith, ◌==◌, inl, inr, count_by, ltb-false, OnOk, Result, Ok, Err}
use Rattle.std.specs.Prelude.{slice_get, nat_lt}
use Rattle.std.proofs.lemmas.Bool.{lt-ltb}
use Rattle.std.proofs.lemmas.Bool.Decides.{eqb_tells}
use Rattle.std.proofs.lemmas.List.{drop-drop}
use Rattle.std.proofs.lemmas.List.{drop_all}
use Rattle.std.proofs.lemmas.List.Sums.{sum_by-cons}
use Rattle.lane_turn.specs.declared.layer.Iteration.{Iteration}
use Rattle.lane_turn.specs.declared.layer.Top.{Top}
use Rattle.lane_turn.specs.declared.layer.Top.TheVariants as tops
use Rattle.lane_turn.specs.declared.layer.Layer.{Layer}
use Rattle.lane_turn.specs.declared.layer.Layer.TheVariants as layers
use Rattle.lane_turn.specs.Frames.{Frame, CallOf, IterOf, LoopOf, emptied, emptied_one, is_dispatch, depth, is_call, calls_in_progress, advanced, advanced_one, top_of, IsTaken}
use Rattle.lane_turn.specs.Nest.{height_at, is_height, is_live, ids_left, frame_of, frames_of, is_dispatch_layer, is_call_layer, advanced_layer, advanced_layers, taken_layers, top_of_layers, HasRoomLayers}

pub first_within : (xs : List Layer) (x : Layer) → xs ≢ [] → slice_get (xs ++ x ∷ []) 0 ≡ slice_get xs 0
first_within [] x h = absurd (h refl)
first_within (y ∷ xs) x h = refl

pub rest_of_within : (xs : List Layer) (x : Layer) → xs ≢ [] → drop 1 (xs ++ x ∷ []) ≡ drop 1 xs ++ x ∷ []
rest_of_within [] x h = absurd (h refl)
rest_of_within (y ∷ xs) x h = refl

-- a growing table of levels says the same
pub level_grown : (live : List (Option ℕ)) (c : ℕ) → height_at (live ++ None ∷ []) c ≡ height_at live c
level_grown [] zero = refl
level_grown [] (suc c) = refl
level_grown (x ∷ live) zero = refl
level_grown (x ∷ live) (suc c) = level_grown live c

got_same : (xs : List (Option ℕ)) (i height : ℕ) → i < length xs → height_at (slice_set xs i (Some height)) i ≡ Some height
got_same [] i v h = absurd (omega arith)
got_same (x ∷ xs) zero v h = refl
got_same (x ∷ xs) (suc i) v h = got_same xs i v (omega arith)

got_other : (xs : List (Option ℕ)) (i height j : ℕ) → j ≢ i → height_at (slice_set xs i (Some height)) j ≡ height_at xs j
got_other [] i v j h = refl
got_other (x ∷ xs) zero v zero h = absurd (h refl)
got_other (x ∷ xs) zero v (suc j) h = refl
got_other (x ∷ xs) (suc i) v zero h = refl
got_other (x ∷ xs) (suc i) v (suc j) h = got_other xs i v j (λ e. h (ap suc e))

pub level_set : (xs : List (Option ℕ)) (i height c : ℕ) → i < length xs → height_at (slice_set xs i (Some height)) c ≡ cond (c == i) (Some height) (height_at xs c)
level_set xs i height c h =
    elim (eqb_tells c i) [
      | inl t ↦ rw (t.0) (subst (λ (k : ℕ). height_at (slice_set xs i (Some height)) k ≡ Some height) (sym t.1) (got_same xs i height h))
      | inr f ↦ rw (f.0) (got_other xs i height c f.1)
    ]

-- what a flat list of frames says of the layers
pub length_frames : (live : List (Option ℕ)) (ls : List Layer) → length (frames_of live ls) ≡ length ls
length_frames live [] = refl
length_frames live (l ∷ ls) = ap suc (length_frames live ls)

dispatch_same : (live : List (Option ℕ)) (height : ℕ) (l : Layer) → is_dispatch (frame_of live height l) ≡ is_dispatch_layer l
dispatch_same live height (layers.Call call) = refl
dispatch_same live height (layers.Iteration i) = refl
dispatch_same live height (layers.Loop number context) = refl

abbrev one_if : Bool → ℕ
one_if b = cond b 1 0

pub depth_layers : (live : List (Option ℕ)) (ls : List Layer) → depth (frames_of live ls) ≡ count_by is_dispatch_layer ls
depth_layers live [] = refl
depth_layers live (l ∷ ls) =
    omega (arith, sum_by-cons (λ f. one_if (is_dispatch f)) (frame_of live (length ls) l) (frames_of live ls), sum_by-cons (λ a. one_if (is_dispatch_layer a)) l ls, depth_layers live ls, ap one_if (dispatch_same live (length ls) l))

call_same : (live : List (Option ℕ)) (height : ℕ) (l : Layer) → is_call (frame_of live height l) ≡ is_call_layer l
call_same live height (layers.Call call) = refl
call_same live height (layers.Iteration i) = refl
call_same live height (layers.Loop number context) = refl

pub calls_layers : (live : List (Option ℕ)) (ls : List Layer) → calls_in_progress (frames_of live ls) ≡ count_by is_call_layer ls
calls_layers live [] = refl
calls_layers live (l ∷ ls) =
    omega (arith, sum_by-cons (λ f. one_if (is_call f)) (frame_of live (length ls) l) (frames_of live ls), sum_by-cons (λ a. one_if (is_call_layer a)) l ls, calls_layers live ls, ap one_if (call_same live (length ls) l))

pub drop_frames : (live : List (Option ℕ)) (ls : List Layer) → frames_of live (drop 1 ls) ≡ drop 1 (frames_of live ls)
drop_frames live [] = refl
drop_frames live (l ∷ ls) = refl

advanced_by : (ids : List ℕ) (place : ℕ) (live within : Bool) → nat_lt place (length ids) ≡ within → cond live (drop (cond within (place + 1) place) ids) [] ≡ drop 1 (cond live (drop place ids) [])
advanced_by ids place false within e = refl
advanced_by ids place true true e = sym (drop-drop 1 place ids)
advanced_by ids place true false e = rw (drop_all place ids (ltb-false _ _ e)) refl

advance_one : (live : List (Option ℕ)) (height : ℕ) (l : Layer) → frame_of live height (advanced_layer l) ≡ advanced_one (frame_of live height l)
advance_one live height (layers.Call call) = refl
advance_one live height (layers.Iteration i) = ap (λ ids. IterOf i.context ids i.asker) (advanced_by i.ids.items i.place (is_live live height i.context) _ refl)
advance_one live height (layers.Loop number context) = refl

pub advance_frames : (live : List (Option ℕ)) (ls : List Layer) → frames_of live (advanced_layers ls) ≡ advanced (frames_of live ls)
advance_frames live [] = refl
advance_frames live (l ∷ ls) = ap (λ f. f ∷ frames_of live ls) (advance_one live (length ls) l)

-- when an inner iteration takes the context over, an outer one of it has no id left
taken_by : (o n : Option ℕ) (b : Bool) (k height : ℕ) (ids : List ℕ) → k < height → n ≡ cond b (Some height) o → cond (is_height n k) ids [] ≡ cond b [] (cond (is_height o k) ids [])
taken_by o n true k height ids h e =
    elim (eqb_tells height k) [
      | inl t ↦ absurd (omega (arith, t.1))
      | inr f ↦ rw (e, f.0) refl
    ]
taken_by o n false k height ids h e = rw e refl

frame_taken : (live new : List (Option ℕ)) (context height k : ℕ) (l : Layer) → ((c : ℕ) → height_at new c ≡ cond (c == context) (Some height) (height_at live c)) → k < height
    → frame_of new k l ≡ emptied_one context (frame_of live k l)
frame_taken live new context height k (layers.Call call) h b = refl
frame_taken live new context height k (layers.Iteration i) h b =
    ap (λ ids. IterOf i.context ids i.asker) (taken_by (height_at live i.context) (height_at new i.context) (i.context == context) k height (drop i.place i.ids.items) b (h i.context))
frame_taken live new context height k (layers.Loop number c) h b = refl

pub frames_taken : (live new : List (Option ℕ)) (context height : ℕ) (ls : List Layer) → ((c : ℕ) → height_at new c ≡ cond (c == context) (Some height) (height_at live c)) → length ls ≤ height
    → frames_of new ls ≡ emptied context (frames_of live ls)
frames_taken live new context height [] h b = refl
frames_taken live new context height (l ∷ ls) h b = rw (frame_taken live new context height (length ls) l h (omega arith), frames_taken live new context height ls h (omega arith)) refl

-- what stands below the innermost frame does not matter to what it takes next
top_below : (f : Frame) (below : List Frame) → top_of (f ∷ []) ≡ top_of (f ∷ below)
top_below (CallOf call) below = refl
top_below (IterOf context ids asker) below = refl
top_below (LoopOf number context) below = refl

pub top_none : (live : List (Option ℕ)) (ls : List Layer) → None ≡ slice_get ls 0 → tops.Nothing ≡ top_of (frames_of live ls)
top_none live [] e = refl
top_none live (l ∷ ls) e = cc

some_layer : (a b : Layer) → Some a ≡ Some b → a ≡ b
some_layer a b e = cc

pub top_some : (at live : List (Option ℕ)) (ls : List Layer) (l : Layer) (n : ℕ) → at ≡ live → Some l ≡ slice_get ls 0 → n ≡ length ls → top_of (frame_of at (n - 1) l ∷ []) ≡ top_of (frames_of live ls)
top_some at live [] l n a e k = cc
top_some at live (x ∷ ls) l n a e k =
    let height : n - 1 ≡ length ls = omega arith in
    rw (a, height, some_layer l x e) (top_below (frame_of live (length ls) x) (frames_of live ls))

live_now : (height : ℕ) (ids : List ℕ) (o : Option ℕ) → o ≡ Some height → cond (is_height o height) ids [] ≡ ids
live_now height ids o e = elim (eqb_tells height height) [ inl t ↦ rw (e, t.0) refl | inr f ↦ absurd (f.1 refl) ]

marked_at : (o : Option ℕ) (c height : ℕ) (r : Option ℕ) → r ≡ cond (c == c) (Some height) o → r ≡ Some height
marked_at o c height r e = elim (eqb_tells c c) [ inl t ↦ e ∙ rw (t.0) refl | inr f ↦ absurd (f.1 refl) ]

-- an iteration begun in the innermost layer takes its context over
pub frames_begun : (live new : List (Option ℕ)) (height : ℕ) (i : Iteration) (ls now : List Layer) → i.place ≡ 0 → height ≡ length ls → now ≡ layers.Iteration i ∷ ls
    → ((c : ℕ) → height_at new c ≡ cond (c == i.context) (Some height) (height_at live c))
    → frames_of new now ≡ IterOf i.context i.ids.items i.asker ∷ emptied i.context (frames_of live ls)
frames_begun live new height i ls now p at e h =
    let here : height_at new i.context ≡ Some (length ls) = marked_at (height_at live i.context) i.context height _ (h i.context) ∙ ap Some at in
    let ids : ids_left new (length ls) i ≡ i.ids.items = live_now (length ls) (drop i.place i.ids.items) _ here ∙ ap (λ (n : ℕ). drop n i.ids.items) p in
    rw (e, ids, frames_taken live new i.context height ls h (omega arith)) refl

pub on_ok : {T E P Q : Type 0} (r : Result T E) → (P → Q) → OnOk r P → OnOk r Q
on_ok (Ok x) f p = f p
on_ok (Err e) f p = tt

-- what the innermost takes next is that of its frame
pub top_layers : (live : List (Option ℕ)) (ls : List Layer) → top_of_layers live (length ls - 1) ls ≡ top_of (frames_of live ls)
top_layers live [] = refl
top_layers live (l ∷ ls) =
    let height : suc (length ls) - 1 ≡ length ls = omega arith in
    rw height (top_below (frame_of live (length ls) l) (frames_of live ls))

-- what is counted as taken where there is room is the same as what is advanced
taken_room : (ls : List Layer) → HasRoomLayers ls → taken_layers ls ≡ advanced_layers ls
taken_room [] h = refl
taken_room (layers.Call call ∷ ls) h = rw (lt-ltb _ _ h) refl
taken_room (layers.Iteration i ∷ ls) h = refl
taken_room (layers.Loop number context ∷ ls) h = refl

taken_frames : (live : List (Option ℕ)) (ls : List Layer) → HasRoomLayers ls → frames_of live (taken_layers ls) ≡ advanced (frames_of live ls)
taken_frames live ls h = ap (frames_of live) (taken_room ls h) ∙ advance_frames live ls

is_taken_frames : (live : List (Option ℕ)) (ls : List Layer) → IsTaken (top_of (frames_of live ls)) (frames_of live ls) (frames_of live (taken_layers ls))
is_taken_frames live [] = refl
is_taken_frames live (layers.Call call ∷ ls) = (λ h. taken_frames live (layers.Call call ∷ ls) h, refl)
is_taken_frames live (layers.Iteration i ∷ ls) = (taken_frames live (layers.Iteration i ∷ ls) tt, refl)
is_taken_frames live (layers.Loop number context ∷ ls) = refl

pub is_taken : (live : List (Option ℕ)) (ls new : List Layer) (top : Top) (old : List Frame) → top ≡ top_of old → frames_of live ls ≡ old → new ≡ taken_layers ls → IsTaken top old (frames_of live new)
is_taken live ls new top old t v n = rw (t, sym v, n) (is_taken_frames live ls)
