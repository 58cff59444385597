-- What holds of each lane of a run.
use Rattle.std.proofs.Common.{◌≡◌, ℕ, zero, suc, Some, List, [], ◌∷◌, map, length}
use Rattle.std.specs.List.{AllByRecursion, range_with_len}
use Rattle.loop_script.specs.declared.plan.Plan.{Plan}
use Rattle.post_office.specs.declared.letter.Letter.{Letter}
use Rattle.lane_turn.specs.Lane.{Lane, Kept}
use Rattle.lane_turn.specs.Handover.{handed_of, without_context, taken_over, handed_over}
use Rattle.lane_turn.proofs.GoingOver.{going_over}
use Rattle.lane_turn.specs.Turn.{opening, turned}
use Rattle.lane_turn.specs.Deliver.{received_all}
use Rattle.lane_turn.specs.Tick.{posted_at, lanes_at}

openings : (script : Plan) (Q : Lane → Type 0) → ((n : ℕ) → Q (opening script n)) → (numbers : List ℕ) → AllByRecursion Q (map (opening script) numbers)
openings script Q f [] = tt
openings script Q f (n ∷ numbers) = (f n, openings script Q f numbers)

turns : (script : Plan) (tick : ℕ) (P R : Lane → Type 0) → ((lane : Lane) → P lane → R (turned script tick lane)) → (lanes : List Lane) → AllByRecursion P lanes → AllByRecursion R (map (turned script tick) lanes)
turns script tick P R f [] h = tt
turns script tick P R f (lane ∷ lanes) h = (f lane h.0, turns script tick P R f lanes h.1)

sent_to : (script : Plan) (tick : ℕ) (letters : List Letter) (R Q : Lane → Type 0) → ((lane : Lane) → R lane → Q (received_all script tick letters lane)) → (lanes : List Lane) → AllByRecursion R lanes → AllByRecursion Q (map (received_all script tick letters) lanes)
sent_to script tick letters R Q f [] h = tt
sent_to script tick letters R Q f (lane ∷ lanes) h = (f lane h.0, sent_to script tick letters R Q f lanes h.1)

-- what opening lanes are, and each tick keeps: turns lead from Q to R, which what goes over keeps, and deliveries to the next Q
pub each_lane : (script : Plan) (Q R : ℕ → Lane → Type 0) (K : ℕ → Kept → Type 0) → ((n : ℕ) → Q 0 (opening script n)) → ((tick : ℕ) (lane : Lane) → Q tick lane → R tick (turned script tick lane))
    → ((tick : ℕ) (lane : Lane) → R tick lane → (context : ℕ) (kept : Kept) → handed_of context lane ≡ Some kept → K tick kept) → ((tick : ℕ) (lane : Lane) → R tick lane → (kept : Kept) → K tick kept → R tick (taken_over tick kept lane))
    → ((tick : ℕ) (lane : Lane) → R tick lane → (context : ℕ) → R tick (without_context context lane)) → ((tick : ℕ) (letters : List Letter) (lane : Lane) → R tick lane → Q (suc tick) (received_all script tick letters lane))
    → (tick : ℕ) → AllByRecursion (Q tick) (lanes_at script tick)
each_lane script Q R K f g gives takes lets d zero = openings script (Q 0) f (range_with_len 0 (length script.lanes))
each_lane script Q R K f g gives takes lets d (suc tick) =
    let letters : List Letter = posted_at script tick (lanes_at script tick) in
    let turned_lanes : List Lane = map (turned script tick) (lanes_at script tick) in
    sent_to script tick letters (R tick) (Q (suc tick)) (d tick letters) (handed_over tick letters turned_lanes)
    (going_over tick (R tick) (K tick) (gives tick) (takes tick) (lets tick) letters turned_lanes
    (turns script tick (Q tick) (R tick) (g tick) (lanes_at script tick) (each_lane script Q R K f g gives takes lets d tick)))
