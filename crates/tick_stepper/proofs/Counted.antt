-- The lanes of a run stand by number: each at its own place.
use Rattle.std.proofs.Common.{◌≡◌, ℕ, zero, suc, ◌+◌, ◌<◌, List, [], ◌∷◌, map, length, refl, ◌∙◌, arith}
use Rattle.std.proofs.lemmas.List.{length-map}
use Rattle.std.proofs.lemmas.List.FromFn.{length-range_with_len}
use Rattle.std.specs.List.{AllByRecursion}
use Rattle.loop_script.specs.declared.plan.Plan.{Plan}
use Rattle.post_office.specs.declared.letter.Letter.{Letter}
use Rattle.lane_turn.specs.Lane.{Lane}
use Rattle.lane_turn.specs.Turn.{turned}
use Rattle.lane_turn.specs.Handover.{Handing, all_handed, handings}
use Rattle.lane_turn.proofs.GoingOver.{handed_part}
use Rattle.lane_turn.specs.Deliver.{received_all}
use Rattle.lane_turn.specs.Tick.{posted_at, lanes_at}
use Rattle.lane_turn.proofs.Turns.{turned_number}
use Rattle.lane_turn.proofs.Delivered.{received_number}
use Rattle.lane_turn.proofs.Places.{Counted, counted_step}
use Rattle.lane_turn.proofs.Holds.{counted_openings}
use Rattle.tick_stepper.specs.Order.{ByNumber}

-- what goes over leaves each lane its number
pub number_over : (tick : ℕ) (hs : List Handing) (lane : Lane) → (all_handed tick hs lane).number ≡ lane.number
number_over tick hs lane = handed_part (λ (l : Lane). l.number) tick (λ kept l. refl) (λ context l. refl) hs lane

pub counted_at : (script : Plan) (tick : ℕ) → Counted 0 (lanes_at script tick)
counted_at script zero = counted_openings script 0 (length script.lanes)
counted_at script (suc tick) =
    let lanes : List Lane = lanes_at script tick in
    let letters : List Letter = posted_at script tick lanes in
    let turns : List Lane = map (turned script tick) lanes in
    let hs : List Handing = handings tick letters turns in
    counted_step (received_all script tick letters) (received_number script tick letters) 0 (map (all_handed tick hs) turns)
    (counted_step (all_handed tick hs) (number_over tick hs) 0 turns
    (counted_step (turned script tick) (turned_number script tick) 0 lanes (counted_at script tick)))

-- after their turns too
pub counted_turned : (script : Plan) (tick : ℕ) → Counted 0 (map (turned script tick) (lanes_at script tick))
counted_turned script tick = counted_step (turned script tick) (turned_number script tick) 0 (lanes_at script tick) (counted_at script tick)

pub lane_count : (script : Plan) (tick : ℕ) → length (lanes_at script tick) ≡ length script.lanes
lane_count script zero = simp (length-map, length-range_with_len)
lane_count script (suc tick) = let e : length (lanes_at script (suc tick)) ≡ length (lanes_at script tick) = simp length-map in e ∙ lane_count script tick

above : (k n : ℕ) (lanes : List Lane) → k < n → Counted n lanes → AllByRecursion (λ later. k < later.number) lanes
above k n [] h c = tt
above k n (lane ∷ lanes) h c = ((let same = c.0 in omega arith), above k (n + 1) lanes (omega arith) c.1)

counted_rises : (n : ℕ) (lanes : List Lane) → Counted n lanes → ByNumber lanes
counted_rises n [] c = tt
counted_rises n (lane ∷ lanes) c = (above lane.number (n + 1) lanes (let same = c.0 in omega arith) c.1, counted_rises (n + 1) lanes c.1)

pub by_number_at : (script : Plan) (tick : ℕ) → ByNumber (lanes_at script tick)
by_number_at script tick = counted_rises 0 (lanes_at script tick) (counted_at script tick)

-- and each is below how many there are
pub below_count : (n most : ℕ) (lanes : List Lane) → n + length lanes ≡ most → Counted n lanes → AllByRecursion (λ lane. lane.number < most) lanes
below_count n most [] e c = tt
below_count n most (lane ∷ lanes) e c = ((let same = c.0 in omega arith), below_count (n + 1) most lanes (omega arith) c.1)
