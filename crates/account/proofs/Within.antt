-- What each place in a tick of a run keeps, and where it comes to.
use Rattle.std.proofs.Common.{◌≡◌, ℕ, ◌+◌, ◌*◌, ◌^◌, ◌≤◌, ◌<◌, Option, Some, None, is_some, List, [], ◌∷◌, ◌++◌, map, length, refl, ap, sym, ◌∙◌, subst, arith, append_assoc, append-nil, add-one}
use Rattle.std.specs.List.{AllByRecursion}
use Rattle.loop_script.specs.declared.plan.Plan.{Plan}
use Rattle.post_office.specs.declared.letter.Letter.{Letter}
use Rattle.lane_turn.specs.Lane.{Lane, Turn}
use Rattle.lane_turn.specs.Step.{step}
use Rattle.lane_turn.specs.Turn.{begun, begun_with, begun_polled, finished, turned, stepped}
use Rattle.lane_turn.specs.Deliver.{received, received_all, delivered}
use Rattle.lane_turn.specs.Handover.{handed_over, handing_of, moved as gone_over}
use Rattle.lane_turn.specs.Tick.{posted_at, lanes_at}
use Rattle.lane_turn.specs.Sound.{IsReady, IsTidy}
use Rattle.lane_turn.proofs.Finish.{finished_on, finished_now}
use Rattle.lane_turn.proofs.Turns.{tidy_on, begun_tidy, ready-turned}
use Rattle.lane_turn.proofs.Polls.{polls_as_steps, polls_at_once, polls_keep}
use Rattle.lane_turn.proofs.Delivered.{ready_received, ready_weaker}
use Rattle.lane_turn.proofs.GoingOver.{ready_over}
use Rattle.lane_turn.proofs.Places.{Counted}
use Rattle.lane_turn.proofs.Runs.{most_at, AllReady, ready_at, posted_fits}
use Rattle.tick_stepper.specs.Account.{Place, Turning, Giving, Bringing, started, turned_on, moved, all_brought, end_of}
use Rattle.tick_stepper.proofs.Lined.{first_over, none_left, counted_moved}
use Rattle.tick_stepper.proofs.Counted.{counted_turned}
use Rattle.account.specs.Within.{TakesTurns, GoesOver, MayTake, AllMayTake, Brings, IsWithin, StandFrom, polled}

same_place : (p q : Place) → Some p ≡ Some q → p ≡ q
same_place p q e = cc

-- ---- lanes by number

pub stand_from : (n : ℕ) (lanes : List Lane) → Counted n lanes → StandFrom n lanes
stand_from n [] c = tt
stand_from n (lane ∷ lanes) c = (c.0, stand_from (n + 1) lanes c.1)

pub counted_from : (n : ℕ) (lanes : List Lane) → StandFrom n lanes → Counted n lanes
counted_from n [] c = tt
counted_from n (lane ∷ lanes) c = (c.0, counted_from (n + 1) lanes c.1)

-- ---- the turn in progress

abbrev Tidy : Plan → ℕ → Turn → Type 0
Tidy script tick t = IsTidy (10000 * (tick + 1)) (2 ^ 61 + 20001) (tick + 1) script.cancellables t

-- whatever turn stands for the one that is begun, where it comes to the same end
pub in_turn : (script : Plan) (tick : ℕ) (over : List Lane) (t u : Turn) (waiting : List Lane) (posted : List Letter) → finished script tick u ≡ finished script tick t → Tidy script tick u
    → TakesTurns script tick over (Some t) waiting posted → TakesTurns script tick over (Some u) waiting posted
in_turn script tick over t u waiting posted same tidy w = record {
  lanes = ap (λ (v : Turn). over ++ v.lane ∷ map (turned script tick) waiting) same ∙ w.lanes;
  letters = ap (λ (v : Turn). posted ++ (v.posted ++ posted_at script tick waiting)) same ∙ w.letters;
  bounds = tidy;
  ready = w.ready;
}

-- a turn begins
pub in_begun : (script : Plan) (tick : ℕ) (over : List Lane) (lane : Lane) (waiting : List Lane) (posted : List Letter) → TakesTurns script tick over None (lane ∷ waiting) posted → TakesTurns script tick over (Some (begun tick lane)) waiting posted
in_begun script tick over lane waiting posted w = record {
  lanes = w.lanes;
  letters = w.letters;
  bounds = begun_tidy script tick (2 ^ 61) lane w.ready.0;
  ready = w.ready.1;
}

-- and its tasks are polled
polled_end : (script : Plan) (tick : ℕ) (lane : Lane) → finished script tick (begun_polled script tick [] lane) ≡ finished script tick (begun tick lane)
polled_end script tick lane = ap (finished script tick) (polls_as_steps script tick (begun_with tick [] lane) lane.tasks.started) ∙ polls_at_once script tick (begun_with tick [] lane)

polled_tidy : (script : Plan) (tick : ℕ) (lane : Lane) → IsReady script tick (2 ^ 61) lane → Tidy script tick (begun_polled script tick [] lane)
polled_tidy script tick lane r =
    let n = 10000 * (tick + 1) in
    subst (Tidy script tick) (sym (polls_as_steps script tick (begun_with tick [] lane) lane.tasks.started))
    (polls_keep script tick (Tidy script tick) (tidy_on script n (2 ^ 61 + 20001) tick script.cancellables) (begun_with tick [] lane) (begun_tidy script tick (2 ^ 61) lane r))

pub polls_within : (script : Plan) (tick : ℕ) (p : Place) → IsWithin script tick p → IsWithin script tick (polled script tick p)
polls_within script tick (Turning over None (lane ∷ waiting) posted) w =
    in_turn script tick over (begun tick lane) (begun_polled script tick [] lane) waiting posted (polled_end script tick lane) (polled_tidy script tick lane w.ready.0) (in_begun script tick over lane waiting posted w)
polls_within script tick (Turning over None [] posted) w = w
polls_within script tick (Turning over (Some t) waiting posted) w = w
polls_within script tick (Giving lanes left letters) w = w
polls_within script tick (Bringing over waiting left letters) w = w

-- it takes a step, or is over
turn_on : (script : Plan) (tick : ℕ) (over : List Lane) (t : Turn) (waiting : List Lane) (posted : List Letter) (o : Option Turn) → step script tick t ≡ o
    → TakesTurns script tick over (Some t) waiting posted → IsWithin script tick (turned_on over t waiting posted o)
turn_on script tick over t waiting posted (Some u) e w =
    let more = ap (λ (x : Option Turn). is_some x) e in
    let next : u ≡ stepped script tick t = sym (ap (λ (x : Option Turn). step_or x t) e) in
    in_turn script tick over t u waiting posted (ap (finished script tick) next ∙ finished_on script tick t more) (tidy_on script (10000 * (tick + 1)) (2 ^ 61 + 20001) tick script.cancellables t u e w.bounds) w
  where
    step_or : Option Turn → Turn → Turn
    step_or None t = t
    step_or (Some u) t = u
turn_on script tick over t waiting posted None e w =
    let none = ap (λ (x : Option Turn). is_some x) e in
    let same : t ≡ finished script tick t = sym (finished_now script tick t none) in
    record {
      lanes = append_assoc over (t.lane ∷ []) (map (turned script tick) waiting) ∙ (ap (λ (v : Turn). over ++ v.lane ∷ map (turned script tick) waiting) same ∙ w.lanes);
      letters = append_assoc posted t.posted (posted_at script tick waiting) ∙ (ap (λ (v : Turn). posted ++ (v.posted ++ posted_at script tick waiting)) same ∙ w.letters);
      bounds = tt;
      ready = w.ready;
    }

-- ---- all turns are over

give_all : (script : Plan) (tick : ℕ) (over : List Lane) (posted : List Letter) → TakesTurns script tick over None [] posted → GoesOver script tick over posted posted
give_all script tick over posted w =
    let lanes : over ≡ map (turned script tick) (lanes_at script tick) = sym (append-nil over) ∙ w.lanes in
    record {
      sent = sym (append-nil posted) ∙ w.letters;
      comes = ap (handed_over tick posted) lanes;
      places = subst (StandFrom 0) (sym lanes) (stand_from 0 _ (counted_turned script tick));
    }

give_on : (script : Plan) (tick : ℕ) (lanes : List Lane) (letter : Letter) (left letters : List Letter) → GoesOver script tick lanes (letter ∷ left) letters → GoesOver script tick (gone_over tick (handing_of letter lanes) lanes) left letters
give_on script tick lanes letter left letters w = record {
  sent = w.sent;
  comes = first_over tick (handing_of letter lanes) left lanes ∙ w.comes;
  places = stand_from 0 _ (counted_moved tick (handing_of letter lanes) lanes (counted_from 0 lanes w.places));
}

-- ---- all contexts went over

brought_all : (script : Plan) (tick : ℕ) (letters : List Letter) (lanes : List Lane) → all_brought script tick lanes letters letters ≡ map (received_all script tick letters) lanes
brought_all script tick letters [] = refl
brought_all script tick letters (lane ∷ lanes) = refl

all_ready_turned : (script : Plan) (tick m : ℕ) (lanes : List Lane) → AllReady script tick m lanes → AllReady script (tick + 1) (m + 20001) (map (turned script tick) lanes)
all_ready_turned script tick m [] r = tt
all_ready_turned script tick m (lane ∷ lanes) r = (ready-turned script tick m lane r.0, all_ready_turned script tick m lanes r.1)

all_may : (script : Plan) (tick m : ℕ) (letters : List Letter) (lanes : List Lane) → m + 2 * length letters ≤ 2 ^ 61 → AllReady script (tick + 1) m lanes → AllByRecursion (MayTake script tick letters) lanes
all_may script tick m letters [] h r = tt
all_may script tick m letters (lane ∷ lanes) h r = (record { bound = m; fits = h; ready = r.0 }, all_may script tick m letters lanes h r.1)

-- lanes of which each may be brought all letters
from_first : (script : Plan) (tick : ℕ) (letters : List Letter) (lanes : List Lane) → AllByRecursion (MayTake script tick letters) lanes → AllMayTake script tick lanes letters letters
from_first script tick letters [] all = tt
from_first script tick letters (lane ∷ lanes) all = (all.0, all.1)

bring_all : (script : Plan) (tick : ℕ) (lanes : List Lane) (letters : List Letter) → length script.lanes ≤ 64 → tick < 4096 → GoesOver script tick lanes [] letters → Brings script tick [] lanes letters letters
bring_all script tick lanes letters few low w =
    let turns : List Lane = map (turned script tick) (lanes_at script tick) in
    let there : lanes ≡ handed_over tick letters turns = sym (none_left tick lanes) ∙ w.comes in
    let all : letters ≡ posted_at script tick (lanes_at script tick) = w.sent in
    let ready : AllReady script (tick + 1) (most_at tick + 20001) lanes =
    subst (AllReady script (tick + 1) (most_at tick + 20001)) (sym there)
    (ready_over script tick (tick + 1) (most_at tick + 20001) letters turns (all_ready_turned script tick (most_at tick) (lanes_at script tick) (ready_at script tick few (omega arith)))) in
    record {
      lanes = brought_all script tick letters lanes
          ∙ (ap (map (received_all script tick letters)) there
          ∙ (ap (λ (ls : List Letter). delivered script tick ls turns) all ∙ ap (lanes_at script) (sym (add-one tick))));
      may = from_first script tick letters lanes (all_may script tick (most_at tick + 20001) letters lanes (omega (arith, posted_fits script tick few (omega arith), ap length all)) ready);
    }

bring_on : (script : Plan) (tick : ℕ) (over : List Lane) (lane : Lane) (waiting : List Lane) (letter : Letter) (left letters : List Letter)
    → Brings script tick over (lane ∷ waiting) (letter ∷ left) letters → Brings script tick over (received script tick letter lane ∷ waiting) left letters
bring_on script tick over lane waiting letter left letters w =
    let first = w.may.0 in
    record {
      lanes = w.lanes;
      may = (record { bound = first.bound + 2; fits = omega (arith, first.fits); ready = ready_received script tick (tick + 1) first.bound letter lane first.ready }, w.may.1);
    }

bring_next : (script : Plan) (tick : ℕ) (over : List Lane) (lane : Lane) (waiting : List Lane) (letters : List Letter) → Brings script tick over (lane ∷ waiting) [] letters → Brings script tick (over ++ lane ∷ []) waiting letters letters
bring_next script tick over lane waiting letters w = record {
  lanes = append_assoc over (lane ∷ []) (all_brought script tick waiting letters letters) ∙ (ap (λ (ls : List Lane). over ++ lane ∷ ls) (brought_all script tick letters waiting) ∙ w.lanes);
  may = from_first script tick letters waiting w.may.1;
}

-- ---- each move

pub moves_within : (script : Plan) (tick : ℕ) (p q : Place) → length script.lanes ≤ 64 → tick < 4096 → moved script tick p ≡ Some q → IsWithin script tick p → IsWithin script tick q
moves_within script tick (Turning over (Some t) waiting posted) q few low e w = subst (IsWithin script tick) (same_place _ q e) (turn_on script tick over t waiting posted (step script tick t) refl w)
moves_within script tick (Turning over None (lane ∷ waiting) posted) q few low e w = subst (IsWithin script tick) (same_place _ q e) (in_begun script tick over lane waiting posted w)
moves_within script tick (Turning over None [] posted) q few low e w = subst (IsWithin script tick) (same_place _ q e) (give_all script tick over posted w)
moves_within script tick (Giving lanes (letter ∷ left) letters) q few low e w = subst (IsWithin script tick) (same_place _ q e) (give_on script tick lanes letter left letters w)
moves_within script tick (Giving lanes [] letters) q few low e w = subst (IsWithin script tick) (same_place _ q e) (bring_all script tick lanes letters few low w)
moves_within script tick (Bringing over (lane ∷ waiting) (letter ∷ left) letters) q few low e w = subst (IsWithin script tick) (same_place _ q e) (bring_on script tick over lane waiting letter left letters w)
moves_within script tick (Bringing over (lane ∷ waiting) [] letters) q few low e w = subst (IsWithin script tick) (same_place _ q e) (bring_next script tick over lane waiting letters w)
moves_within script tick (Bringing over [] left letters) q few low e w = let no : None ≡ Some q = e in cc

-- a tick begins
all_ready_half : (script : Plan) (tick m : ℕ) (lanes : List Lane) → m ≤ 2 ^ 61 → AllReady script tick m lanes → AllByRecursion (IsReady script tick (2 ^ 61)) lanes
all_ready_half script tick m [] h r = tt
all_ready_half script tick m (lane ∷ lanes) h r = (ready_weaker script tick m (2 ^ 61) lane h r.0, all_ready_half script tick m lanes h r.1)

pub begins_within : (script : Plan) (tick : ℕ) → length script.lanes ≤ 64 → tick ≤ 4096 → IsWithin script tick (started (lanes_at script tick))
begins_within script tick few low = record {
  lanes = refl;
  letters = refl;
  bounds = tt;
  ready = all_ready_half script tick (most_at tick) (lanes_at script tick) (omega (arith, posted_fits script tick few low)) (ready_at script tick few low);
}

-- ---- where it comes to

pub ends_within : (script : Plan) (tick : ℕ) (p : Place) → IsWithin script tick p → end_of script tick p ≡ lanes_at script (tick + 1)
ends_within script tick (Turning over held waiting posted) w = (λ i. delivered script tick (w.letters i) (w.lanes i)) ∙ ap (lanes_at script) (sym (add-one tick))
ends_within script tick (Giving lanes left letters) w =
    ap (map (received_all script tick letters)) w.comes
    ∙ (ap (λ (ls : List Letter). delivered script tick ls (map (turned script tick) (lanes_at script tick))) w.sent ∙ ap (lanes_at script) (sym (add-one tick)))
ends_within script tick (Bringing over waiting left letters) w = w.lanes

-- the lanes that have all letters are those after the tick
pub over_within : (script : Plan) (tick : ℕ) (over : List Lane) (left letters : List Letter) → IsWithin script tick (Bringing over [] left letters) → over ≡ lanes_at script (tick + 1)
over_within script tick over left letters w = sym (append-nil over) ∙ w.lanes
