-- What a stepper holds, and what contracts see of it.
use Rattle.std.proofs.Common.{◌≡◌, ℕ, zero, suc, ◌+◌, ◌<◌, Some, List, [], ◌∷◌, length, get_or, refl, sym, ap, ◌∙◌, arith, add-one}
use Rattle.std.specs.Prelude.{slice_get, option_map}
use Rattle.std.proofs.lemmas.List.{length-map}
use Rattle.loop_script.specs.declared.plan.Plan.{Plan}
use Rattle.lane_turn.specs.Lane.{Lane}
use Rattle.lane_turn.specs.Tick.{ticked, lanes_at}
use Rattle.tick_stepper.specs.declared.rest.Resting.{Resting}
use Rattle.tick_stepper.specs.Rest.{all_at, AreAt}
use Rattle.tick_stepper.proofs.Counted.{lane_count}

pub held_count : (script : Plan) (tick : ℕ) (ones : List Resting) → AreAt script tick ones → length ones ≡ length script.lanes
held_count script tick ones h = (let same : length (all_at tick ones) ≡ length ones = simp length-map in sym same) ∙ (ap length h.lanes ∙ lane_count script tick)

-- the next tick of the run is a tick of the lanes
pub next_is : (script : Plan) (tick : ℕ) (ones : List Resting) → AreAt script tick ones → lanes_at script (tick + 1) ≡ ticked script tick (all_at tick ones)
next_is script tick ones h = ap (lanes_at script) (add-one tick) ∙ ap (ticked script tick) (sym h.lanes)

pub trace_at : (tick : ℕ) (ones : List Resting) (i : ℕ) (d : Resting) → i < length ones → option_map (λ (l : Lane). l.trace) (slice_get (all_at tick ones) i) ≡ Some (get_or ones i d).lane.lane.trace
trace_at tick [] i d h = absurd (omega arith)
trace_at tick (one ∷ ones) zero d h = refl
trace_at tick (one ∷ ones) (suc i) d h = trace_at tick ones i d (omega arith)
