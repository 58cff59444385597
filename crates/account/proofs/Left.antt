-- The ids that the innermost iteration has left, as they are seen when all of what is in progress was looked at.
use Rattle.std.proofs.Common.{◌≡◌, ℕ, Option, Some, None, List, [], ◌∷◌, reverse, refl, ap, sym, ◌∙◌, option_map}
use Rattle.std.specs.Prelude.{slice_get}
use Rattle.std.specs.List.{last_or}
use Rattle.std.specs.Iterator.{Drains}
use Rattle.std.specs.Map.Iter.{TakesFirst}
use Rattle.lane_turn.specs.declared.in_progress.Activity.{Activity}
use Rattle.lane_turn.specs.Frames.{Frame, CallOf, IterOf, LoopOf}
use Rattle.lane_turn.specs.InProgress.{frame_shown}
use Rattle.account.specs.Gained.{ids_left}
use Rattle.account.proofs.Did.{drained, last_shown}

-- by the innermost alone
abbrev pub left_of : Option Frame → Option (List ℕ)
left_of None = None
left_of (Some frame) = ids_left (frame ∷ [])

innermost : (frames : List Frame) → ids_left frames ≡ left_of (slice_get frames 0)
innermost [] = refl
innermost (CallOf call ∷ below) = refl
innermost (IterOf context ids asker ∷ below) = refl
innermost (LoopOf number context ∷ below) = refl

pub left_seen : (frames s : List Frame) (xs : List Activity) (one : Option Activity) → s ≡ reverse frames → Drains (TakesFirst frame_shown) s xs → one ≡ last_or None xs → ids_left frames ≡ left_of (option_map frame_shown one)
left_seen frames s xs one e d l = innermost frames ∙ ap left_of (sym (last_shown xs frames (drained s xs d ∙ e)) ∙ ap (option_map frame_shown) (sym l))
