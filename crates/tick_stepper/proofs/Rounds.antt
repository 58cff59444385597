-- A round of turns: what comes back, put in order, is what one thread makes of the lanes.
use Rattle.std.proofs.Common.{◌≡◌, ℕ, ◌+◌, ◌^◌, ◌<◌, ◌≤◌, List, [], ◌∷◌, ◌++◌, map, length, refl, sym, ap, ◌∙◌, subst, arith}
use Rattle.std.specs.Prelude.{IsPermutation}
use Rattle.std.specs.List.{AllByRecursion, flat_map}
use Rattle.std.specs.List.Sorted.{IsNonDecreasingBy}
use Rattle.std.proofs.lemmas.List.Sorted.{IsPermutation-trans, IsPermutation-map}
use Rattle.loop_script.specs.declared.plan.Plan.{Plan}
use Rattle.post_office.specs.declared.letter.Letter.{Letter}
use Rattle.post_office.specs.Order.{InOrder}
use Rattle.post_office.proofs.Sorted.{order_is_one}
use Rattle.lane_turn.specs.Lane.{Lane, State}
use Rattle.lane_turn.specs.Turn.{turned, out_of}
use Rattle.lane_turn.specs.Handover.{handed_over}
use Rattle.lane_turn.proofs.GoingOver.{ready_over}
use Rattle.lane_turn.specs.Tick.{posted_at, lanes_at}
use Rattle.lane_turn.proofs.Turns.{ready-turned}
use Rattle.lane_turn.proofs.Delivered.{ready_weaker}
use Rattle.lane_turn.proofs.Runs.{most_at, AllReady, ready_at, posted_fits}
use Rattle.tick_stepper.specs.Order.{RisesBy, ByNumber}
use Rattle.tick_stepper.specs.Share.{unspent, unspent_all, lanes_in, stepped_one, turned_one, out_of_one, IsReadyOne, IsRound}
use Rattle.tick_stepper.proofs.Sorted.{sorted_is}
use Rattle.tick_stepper.proofs.Turns.{turned_in_order}
use Rattle.tick_stepper.proofs.Posted.{posted_in_order, posted_apart}
use Rattle.tick_stepper.proofs.Concats.{flat_permuted}
use Rattle.tick_stepper.proofs.Deals.{all_map}

-- ---- lanes of which no call was refused memory

pub unspent_step : (step : Lane → Lane) (lanes : List Lane) → map (stepped_one step) (unspent_all lanes) ≡ unspent_all (map step lanes)
unspent_step step [] = refl
unspent_step step (lane ∷ lanes) = ap (λ (all : List State). unspent (step lane) ∷ all) (unspent_step step lanes)

pub unspent_rise : (lanes : List Lane) → ByNumber lanes → RisesBy (λ (s : State). s.lane.number) (unspent_all lanes)
unspent_rise [] h = tt
unspent_rise (lane ∷ lanes) h = (all_map unspent (λ (s : State). lane.number < s.lane.number) lanes h.0, unspent_rise lanes h.1)

-- ---- they may take their turns, and the delivery after them

ready_each : (script : Plan) (tick m : ℕ) (lanes : List Lane) → m ≤ 2 ^ 61 → AllReady script tick m lanes → AllByRecursion (IsReadyOne script tick) (unspent_all lanes)
ready_each script tick m [] h r = tt
ready_each script tick m (lane ∷ lanes) h r = (record { unspent = refl; ready = ready_weaker script tick m (2 ^ 61) lane h r.0 }, ready_each script tick m lanes h r.1)

pub ready_turns : (script : Plan) (tick : ℕ) → length script.lanes ≤ 64 → tick < 4096 → AllByRecursion (IsReadyOne script tick) (unspent_all (lanes_at script tick))
ready_turns script tick few low =
    ready_each script tick (most_at tick) (lanes_at script tick) (omega (arith, posted_fits script tick few (omega arith))) (ready_at script tick few (omega arith))

-- and of the next tick
pub ready_next : (script : Plan) (tick : ℕ) → length script.lanes ≤ 64 → tick < 4096 → AllByRecursion (IsReadyOne script (tick + 1)) (unspent_all (lanes_at script (tick + 1)))
ready_next script tick few low =
    ready_each script (tick + 1) (most_at (tick + 1)) (lanes_at script (tick + 1)) (omega (arith, posted_fits script (tick + 1) few (omega (arith, low)))) (ready_at script (tick + 1) few (omega (arith, low)))

after_turns : (script : Plan) (tick m : ℕ) (lanes : List Lane) → AllReady script tick m lanes → AllReady script (tick + 1) (m + 20001) (map (turned script tick) lanes)
after_turns script tick m [] r = tt
after_turns script tick m (lane ∷ lanes) r = (ready-turned script tick m lane r.0, after_turns script tick m lanes r.1)

pub ready_delivery : (script : Plan) (tick : ℕ) → length script.lanes ≤ 64 → tick < 4096 → AllByRecursion (IsReadyOne script (tick + 1)) (unspent_all (map (turned script tick) (lanes_at script tick)))
ready_delivery script tick few low =
    ready_each script (tick + 1) (most_at tick + 20001) (map (turned script tick) (lanes_at script tick)) (omega (arith, posted_fits script tick few (omega arith)))
    (after_turns script tick (most_at tick) (lanes_at script tick) (ready_at script tick few (omega arith)))

pub ready_over_at : (script : Plan) (tick : ℕ) → length script.lanes ≤ 64 → tick < 4096 → AllByRecursion (IsReadyOne script (tick + 1)) (unspent_all (handed_over tick (posted_at script tick (lanes_at script tick)) (map (turned script tick) (lanes_at script tick))))
ready_over_at script tick few low =
    let letters : List Letter = posted_at script tick (lanes_at script tick) in
    let turns : List Lane = map (turned script tick) (lanes_at script tick) in
    ready_each script (tick + 1) (most_at tick + 20001) (handed_over tick letters turns) (omega (arith, posted_fits script tick few (omega arith)))
    (ready_over script tick (tick + 1) (most_at tick + 20001) letters turns (after_turns script tick (most_at tick) (lanes_at script tick) (ready_at script tick few (omega arith))))

-- ---- what comes back, in order

-- a list of lanes rises as its lanes do
lanes_rise : (states : List State) → RisesBy (λ (s : State). s.lane.number) states → ByNumber (lanes_in states)
lanes_rise [] h = tt
lanes_rise (s ∷ states) h = (all_map (λ (later : State). later.lane) (λ (lane : Lane). s.lane.number < lane.number) states h.0, lanes_rise states h.1)

each_turned : (script : Plan) (tick : ℕ) (states : List State) → unspent_all (map (turned script tick) (lanes_in states)) ≡ map (turned_one script tick) states
each_turned script tick [] = refl
each_turned script tick (s ∷ states) = ap (λ (all : List State). turned_one script tick s ∷ all) (each_turned script tick states)

-- turns keep lanes in order
rises_turned : (script : Plan) (tick : ℕ) (states : List State) → RisesBy (λ (s : State). s.lane.number) states → RisesBy (λ (s : State). s.lane.number) (map (turned_one script tick) states)
rises_turned script tick states h =
    subst (RisesBy (λ (s : State). s.lane.number)) (each_turned script tick states)
    (unspent_rise (map (turned script tick) (lanes_in states)) (turned_in_order script tick (lanes_in states) (lanes_rise states h)))

pub turned_by_number : (script : Plan) (tick : ℕ) (states taken turns sorted : List State) → RisesBy (λ (s : State). s.lane.number) states → IsPermutation states taken → turns ≡ map (turned_one script tick) taken
    → IsPermutation turns sorted → IsNonDecreasingBy (λ (s : State). s.lane.number) sorted → sorted ≡ map (turned_one script tick) states
turned_by_number script tick states taken turns sorted order split back p up =
    let all : IsPermutation (map (turned_one script tick) states) turns = subst (IsPermutation (map (turned_one script tick) states)) (sym back) (IsPermutation-map (turned_one script tick) states taken split) in
    sorted_is (λ (s : State). s.lane.number) (map (turned_one script tick) states) sorted (IsPermutation-trans _ _ _ all p) up (rises_turned script tick states order)

-- what they post is what their lanes post
lanes_post : (script : Plan) (tick : ℕ) (states : List State) → flat_map (out_of_one script tick) states ≡ posted_at script tick (lanes_in states)
lanes_post script tick [] = refl
lanes_post script tick (s ∷ states) = ap (λ (l : List Letter). out_of script tick s.lane ++ l) (lanes_post script tick states)

pub posted_by_sender : (script : Plan) (tick : ℕ) (states taken : List State) (letters merged : List Letter) → IsRound script tick states → IsPermutation states taken → IsPermutation (flat_map (out_of_one script tick) taken) letters
    → IsPermutation letters merged → InOrder merged → merged ≡ flat_map (out_of_one script tick) states
posted_by_sender script tick states taken letters merged round split sent p up =
    let lanes : List Lane = lanes_in states in
    let now : List Letter = posted_at script tick lanes in
    let order = lanes_rise states round.order in
    let all : IsPermutation now (flat_map (out_of_one script tick) taken) =
    subst (λ (l : List Letter). IsPermutation l (flat_map (out_of_one script tick) taken)) (lanes_post script tick states) (flat_permuted (out_of_one script tick) states taken split) in
    let moved : IsPermutation now merged = IsPermutation-trans _ _ _ all (IsPermutation-trans _ _ _ sent p) in
    sym (order_is_one now merged (posted_apart script tick lanes order) moved (posted_in_order script tick lanes order) up) ∙ sym (lanes_post script tick states)
