-- The bounds of all lanes over a run.
use Rattle.std.proofs.Common.{◌≡◌, ℕ, zero, suc, ◌+◌, ◌*◌, ◌^◌, ◌≤◌, List, [], ◌∷◌, map, length, ◌∙◌, arith, subst, length-append}
use Rattle.std.proofs.lemmas.List.{length-map}
use Rattle.std.proofs.lemmas.List.FromFn.{length-range_with_len}
use Rattle.std.proofs.Math.Nat.{mul-le-mul_left}
use Rattle.std.specs.List.{AllByRecursion, flat_map, range_with_len}
use Rattle.loop_script.specs.declared.plan.Plan.{Plan}
use Rattle.post_office.specs.declared.letter.Letter.{Letter}
use Rattle.lane_turn.specs.Lane.{Lane}
use Rattle.lane_turn.specs.Turn.{opening, turned, out_of}
use Rattle.lane_turn.specs.Deliver.{received_all, delivered}
use Rattle.lane_turn.specs.Handover.{handed_over}
use Rattle.lane_turn.proofs.GoingOver.{ready_over}
use Rattle.lane_turn.specs.Tick.{posted_at, lanes_at}
use Rattle.lane_turn.specs.Sound.{IsReady}
use Rattle.lane_turn.proofs.Turns.{ready-turned, few-letters}
use Rattle.lane_turn.proofs.Delivered.{ready_weaker, ready-received_all}
use Rattle.lane_turn.proofs.Opening.{opening_ready}

-- what no counter is above at a tick, for 64 lanes and 4,096 ticks
abbrev pub most_at : ℕ → ℕ
most_at tick = 1 + tick * 6000000000

abbrev pub AllReady : Plan → (tick m : ℕ) → List Lane → Type 0
AllReady script tick m lanes = AllByRecursion (IsReady script tick m) lanes

ready_openings : (script : Plan) (numbers : List ℕ) → AllReady script 0 1 (map (opening script) numbers)
ready_openings script [] = tt
ready_openings script (n ∷ numbers) = (opening_ready script n, ready_openings script numbers)

-- the letters of a tick
few_posted : (script : Plan) (tick m : ℕ) (lanes : List Lane) → AllReady script tick m lanes → length (flat_map (out_of script tick) lanes) ≤ 10000 * (tick + 1) * length lanes
few_posted script tick m [] r = omega arith
few_posted script tick m (lane ∷ lanes) r =
    omega (arith, few-letters script tick m lane r.0, few_posted script tick m lanes r.1, length-append (out_of script tick lane) (flat_map (out_of script tick) lanes))

ready_turns : (script : Plan) (tick m : ℕ) (lanes : List Lane) → AllReady script tick m lanes → AllReady script (tick + 1) (m + 20001) (map (turned script tick) lanes)
ready_turns script tick m [] r = tt
ready_turns script tick m (lane ∷ lanes) r = (ready-turned script tick m lane r.0, ready_turns script tick m lanes r.1)

ready_sent : (script : Plan) (tick next m n : ℕ) (letters : List Letter) (lanes : List Lane) → m + 2 * length letters ≤ n → AllReady script next m lanes → AllReady script next n (map (received_all script tick letters) lanes)
ready_sent script tick next m n letters [] h r = tt
ready_sent script tick next m n letters (lane ∷ lanes) h r = (ready_weaker script next (m + 2 * length letters) n _ h (ready-received_all script tick next m letters lane r.0), ready_sent script tick next m n letters lanes h r.1)

ready_each : (script : Plan) (tick m n : ℕ) (letters : List Letter) (lanes : List Lane) → m + 20001 + 2 * length letters ≤ n → AllReady script tick m lanes
    → AllReady script (tick + 1) n (delivered script tick letters (map (turned script tick) lanes))
ready_each script tick m n letters lanes h r =
    ready_sent script tick (tick + 1) (m + 20001) n letters (handed_over tick letters (map (turned script tick) lanes)) h
    (ready_over script tick (tick + 1) (m + 20001) letters (map (turned script tick) lanes) (ready_turns script tick m lanes r))

lanes_same : (script : Plan) (tick : ℕ) → length (lanes_at script tick) ≡ length script.lanes
lanes_same script zero = simp (length-map, length-range_with_len)
lanes_same script (suc tick) = let e : length (lanes_at script (suc tick)) ≡ length (lanes_at script tick) = simp length-map in e ∙ lanes_same script tick

most_posted : (script : Plan) (tick m : ℕ) → length script.lanes ≤ 64 → tick ≤ 4096 → AllReady script tick m (lanes_at script tick) → length (posted_at script tick (lanes_at script tick)) ≤ 2700000000
most_posted script tick m few h r =
    let some = few_posted script tick m (lanes_at script tick) r in
    let all : 10000 * (tick + 1) * length (lanes_at script tick) ≤ 10000 * (tick + 1) * 64 = mul-le-mul_left (10000 * (tick + 1)) (omega (arith, lanes_same script tick, few)) in
    omega (arith, some, all, h)

pub ready_at : (script : Plan) (tick : ℕ) → length script.lanes ≤ 64 → tick ≤ 4096 → AllReady script tick (most_at tick) (lanes_at script tick)
ready_at script zero few h = ready_openings script (range_with_len 0 (length script.lanes))
ready_at script (suc tick) few h =
    let lanes : List Lane = lanes_at script tick in
    let r = ready_at script tick few (omega (arith, h)) in
    let next : tick + 1 ≡ suc tick = omega arith in
    subst (λ (k : ℕ). AllReady script k (most_at (suc tick)) (lanes_at script (suc tick))) next
    (ready_each script tick (most_at tick) (most_at (suc tick)) (posted_at script tick lanes) lanes (omega (arith, most_posted script tick (most_at tick) few (omega (arith, h)) r)) r)

pub posted_fits : (script : Plan) (tick : ℕ) → length script.lanes ≤ 64 → tick ≤ 4096 → most_at tick + 20001 + 2 * length (posted_at script tick (lanes_at script tick)) ≤ 2 ^ 61
posted_fits script tick few h = omega (arith, h, most_posted script tick (most_at tick) few h (ready_at script tick few h))
