-- What an iteration leaves of standings.
use Rattle.std.proofs.Common.{◌≡◌, ℕ, List, [], ◌∷◌, reverse, refl, ap}
use Rattle.std.specs.Prelude.{filter_map}
use Rattle.loop_script.specs.declared.plan.Plan.{Plan}
use Rattle.lane_turn.specs.declared.layer.Asker.{Asker}
use Rattle.lane_turn.specs.Frames.{Frame, CallOf, IterOf, LoopOf, emptied, emptied_one, blocked_in}
use Rattle.lane_turn.specs.Lane.{Lane, context_at, iterating, standings}
use Rattle.lane_turn.specs.Sources.{standings_in}

one_same : (context c : ℕ) (f : Frame) → blocked_in context (emptied_one c f) ≡ blocked_in context f
one_same context c (CallOf call) = refl
one_same context c (IterOf d ids asker) = refl
one_same context c (LoopOf number d) = refl

all_same : (context c : ℕ) (frames : List Frame) → filter_map (blocked_in context) (emptied c frames) ≡ filter_map (blocked_in context) frames
all_same context c [] = refl
all_same context c (f ∷ frames) = rw (one_same context c f, all_same context c frames) refl

pub stay : (script : Plan) (tick context c : ℕ) (asker : Asker) (lane : Lane) → standings script tick context (iterating script tick c asker lane) ≡ standings script tick context lane
stay script tick context c asker lane =
    ap (λ (ids : List ℕ). standings_in script tick lane.view (reverse ids) (context_at context lane)) (all_same context c lane.frames)
