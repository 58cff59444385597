-- A run in which lanes are left alone whose turns would be quiet is the run in which all take them.
use Rattle.std.proofs.Common.{◌≡◌, ℕ, zero, suc, ◌+◌, Bool, true, false, cond, List, [], ◌∷◌, ◌++◌, map, refl, sym, ap, ◌∙◌, arith}
use Rattle.std.specs.Prelude.{filter}
use Rattle.std.specs.List.{AllByRecursion}
use Rattle.loop_script.specs.declared.plan.Plan.{Plan}
use Rattle.post_office.specs.declared.letter.Letter.{Letter}
use Rattle.lane_turn.specs.Lane.{Lane}
use Rattle.lane_turn.specs.Turn.{turned, out_of}
use Rattle.lane_turn.specs.Deliver.{delivered}
use Rattle.lane_turn.specs.Tick.{posted_at, lanes_at}
use Rattle.lane_turn.specs.Sound.{IsReady}
use Rattle.lane_turn.specs.Quiet.{at_tick, IsQuiet}
use Rattle.lane_turn.proofs.Runs.{most_at, AllReady, ready_at}
use Rattle.tick_stepper.specs.Sparse.{turned_if, ticked_by, sparse_at, LeavesQuiet, SparseIsDense}

module _ (script : Plan) (tick m : ℕ) (due : Lane → Bool) where
  abbrev Quiet : Lane → Type 0
  Quiet lane = due lane ≡ false → IsQuiet script tick lane

  -- a lane of the run has the tick's clock
  now_is : (lane : Lane) → IsReady script tick m lane → at_tick tick lane ≡ lane
  now_is lane r = λ i. record lane { tasks = record lane.tasks { tick = sym r.now i } }

  turned_as : (lane : Lane) (b : Bool) → due lane ≡ b → IsReady script tick m lane → Quiet lane → cond b (turned script tick lane) (at_tick (tick + 1) lane) ≡ turned script tick lane
  turned_as lane true e r q = refl
  turned_as lane false e r q = sym (q e).stays ∙ ap (turned script tick) (now_is lane r)

  sent_as : (lane : Lane) (lanes : List Lane) (letters : List Letter) (b : Bool) → due lane ≡ b → IsReady script tick m lane → Quiet lane → posted_at script tick lanes ≡ letters
      → posted_at script tick (cond b (lane ∷ lanes) lanes) ≡ out_of script tick lane ++ letters
  sent_as lane lanes letters true e r q h = ap (λ (l : List Letter). out_of script tick lane ++ l) h
  sent_as lane lanes letters false e r q h =
      let none : out_of script tick lane ≡ [] = ap (out_of script tick) (sym (now_is lane r)) ∙ (q e).letters in
      h ∙ sym (ap (λ (l : List Letter). l ++ letters) none)

  all_turned : (lanes : List Lane) → AllReady script tick m lanes → AllByRecursion Quiet lanes → map (turned_if script tick due) lanes ≡ map (turned script tick) lanes
  all_turned [] r q = refl
  all_turned (lane ∷ lanes) r q = λ i. turned_as lane (due lane) refl r.0 q.0 i ∷ all_turned lanes r.1 q.1 i

  all_sent : (lanes : List Lane) → AllReady script tick m lanes → AllByRecursion Quiet lanes → posted_at script tick (filter due lanes) ≡ posted_at script tick lanes
  all_sent [] r q = refl
  all_sent (lane ∷ lanes) r q = sent_as lane (filter due lanes) _ (due lane) refl r.0 q.0 (all_sent lanes r.1 q.1)

pub sparse_is_dense : SparseIsDense
sparse_is_dense script due zero few low quiet = refl
sparse_is_dense script due (suc tick) few low quiet =
    let lanes : List Lane = lanes_at script tick in
    let r = ready_at script tick few (omega (arith, low)) in
    let q : LeavesQuiet script (due tick) tick = quiet tick (omega arith) in
    let before : sparse_at script due tick ≡ lanes = sparse_is_dense script due tick few (omega (arith, low)) (λ k h. quiet k (omega arith)) in
    ap (ticked_by script tick (due tick)) before
    ∙ (λ i. delivered script tick (all_sent script tick (most_at tick) (due tick) lanes r q i) (all_turned script tick (most_at tick) (due tick) lanes r q i))
