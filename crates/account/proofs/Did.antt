-- What is innermost, as it is seen when all of what is in progress was looked at.
use Rattle.std.proofs.Common.{◌≡◌, Option, Some, None, List, [], ◌∷◌, ◌++◌, map, reverse, refl, ap, sym, ◌∙◌, option_map}
use Rattle.std.specs.Prelude.{slice_get}
use Rattle.std.proofs.lemmas.List.{reverse-append}
use Rattle.std.specs.List.{last_or}
use Rattle.std.specs.Iterator.{Drains}
use Rattle.std.specs.Map.Iter.{TakesFirst}
use Rattle.std.proofs.iter.Yields.{gives_Drains}
use Rattle.std.proofs.lemmas.Iterator.Consumers.{YieldsList-from_rest}
use Rattle.lane_turn.specs.declared.in_progress.Activity.{Activity}
use Rattle.lane_turn.specs.declared.layer.Top.{Top}
use Rattle.lane_turn.specs.declared.layer.Top.TheVariants as tops
use Rattle.lane_turn.specs.Frames.{Frame, CallOf, IterOf, LoopOf, top_of}
use Rattle.lane_turn.specs.InProgress.{frame_shown}

-- ---- the innermost

none_of : (xs : List Activity) → map frame_shown xs ≡ [] → xs ≡ []
none_of [] e = refl
none_of (x ∷ xs) e = cc

last_is : (xs : List Activity) (ys : List Frame) (y : Frame) (o : Option Activity) → map frame_shown xs ≡ ys ++ y ∷ [] → option_map frame_shown (last_or o xs) ≡ Some y
last_is [] [] y o e = cc
last_is [] (z ∷ ys) y o e = cc
last_is (x ∷ xs) [] y o e =
    let rest : map frame_shown xs ≡ [] = cc in
    let first : frame_shown x ≡ y = cc in
    ap (λ (l : List Activity). option_map frame_shown (last_or (Some x) l)) (none_of xs rest) ∙ ap Some first
last_is (x ∷ xs) (z ∷ ys) y o e = last_is xs ys y (Some x) (let rest : map frame_shown xs ≡ ys ++ y ∷ [] = cc in rest)

pub last_shown : (xs : List Activity) (frames : List Frame) → map frame_shown xs ≡ reverse frames → option_map frame_shown (last_or None xs) ≡ slice_get frames 0
last_shown xs [] e = ap (λ (l : List Activity). option_map frame_shown (last_or None l)) (none_of xs e)
last_shown xs (frame ∷ frames) e = last_is xs (reverse frames) frame None (e ∙ reverse-append (frame ∷ []) frames)

pub top_none : (frames : List Frame) → slice_get frames 0 ≡ None → top_of frames ≡ tops.Nothing
top_none [] e = refl
top_none (frame ∷ frames) e = cc

pub top_some : (frames : List Frame) (one : Frame) → slice_get frames 0 ≡ Some one → top_of frames ≡ top_of (one ∷ [])
top_some [] one e = cc
top_some (CallOf call ∷ frames) one e = ap (λ (o : Option Frame). top_by o) e
  where
    top_by : Option Frame → Top
    top_by None = tops.Nothing
    top_by (Some f) = top_of (f ∷ [])
top_some (IterOf context ids asker ∷ frames) one e = ap (λ (o : Option Frame). top_by o) e
  where
    top_by : Option Frame → Top
    top_by None = tops.Nothing
    top_by (Some f) = top_of (f ∷ [])
top_some (LoopOf number context ∷ frames) one e = ap (λ (o : Option Frame). top_by o) e
  where
    top_by : Option Frame → Top
    top_by None = tops.Nothing
    top_by (Some f) = top_of (f ∷ [])

-- what was seen of what is in progress, when all of it was
pub drained : (s : List Frame) (xs : List Activity) → Drains (TakesFirst frame_shown) s xs → map frame_shown xs ≡ s
drained s xs d = gives_Drains (TakesFirst frame_shown) frame_shown xs s s (YieldsList-from_rest s refl).runs d

pub nothing_seen : (frames s : List Frame) (xs : List Activity) → s ≡ reverse frames → Drains (TakesFirst frame_shown) s xs → None ≡ last_or None xs → top_of frames ≡ tops.Nothing
nothing_seen frames s xs e d l = top_none frames (sym (last_shown xs frames (drained s xs d ∙ e)) ∙ ap (option_map frame_shown) (sym l))

pub seen : (frames s : List Frame) (xs : List Activity) (a : Activity) → s ≡ reverse frames → Drains (TakesFirst frame_shown) s xs → Some a ≡ last_or None xs → top_of frames ≡ top_of (frame_shown a ∷ [])
seen frames s xs a e d l = top_some frames (frame_shown a) (sym (last_shown xs frames (drained s xs d ∙ e)) ∙ ap (option_map frame_shown) (sym l))
