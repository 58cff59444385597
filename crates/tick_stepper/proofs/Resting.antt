-- Lanes that rest: those whose turn comes, and those that are left alone.
use Rattle.std.proofs.Common.{◌≡◌, ◌⊎◌, inl, inr, ⊎_elim, ℕ, zero, suc, ◌+◌, ◌<◌, ◌≤◌, ◌==◌, ◌||◌, Bool, true, false, not, cond, Option, Some, None, List, [], ◌∷◌, ◌++◌, map, length, get_or, refl, sym, ap, ◌∙◌, subst, arith, rules, tests, add-one, eqb-true}
use Rattle.std.specs.Prelude.{IsPermutation}
use Rattle.std.specs.List.{AllByRecursion, filter, flat_map, list_any}
use Rattle.std.specs.List.Sorted.{IsNonDecreasingBy}
use Rattle.std.proofs.lemmas.List.{map-append, length-map, get_or-map}
use Rattle.std.proofs.lemmas.List.Sorted.{IsPermutation-refl, IsPermutation-sym, IsPermutation-trans, IsPermutation-cons, IsPermutation-middle, IsPermutation-map, All-permutation}
use Rattle.loop_script.specs.declared.plan.Plan.{Plan}
use Rattle.post_office.specs.declared.letter.Letter.{Letter}
use Rattle.task_steps.specs.Run.{IsAfter}
use Rattle.lane_watch.specs.Watch.{GivesNothing}
use Rattle.lane_turn.specs.Lane.{Lane, State}
use Rattle.lane_turn.specs.Turn.{turned, out_of}
use Rattle.lane_turn.specs.Handover.{handed_over}
use Rattle.lane_turn.specs.Deliver.{received_all, delivered}
use Rattle.lane_turn.specs.Tick.{posted_at, lanes_at}
use Rattle.lane_turn.specs.Quiet.{at_tick, IsQuiet, IsQuietUntil}
use Rattle.lane_turn.proofs.Runs.{most_at, AllReady, ready_at}
use Rattle.tick_stepper.specs.Order.{RisesBy}
use Rattle.tick_stepper.specs.declared.rest.Resting.{Resting}
use Rattle.tick_stepper.specs.Share.{unspent, unspent_all, lanes_in, stepped_one, turned_one, out_of_one, IsReadyOne, IsRound}
use Rattle.tick_stepper.specs.Rest.{lane_at, all_at, comes_by, is_due, woken, all_woken, HasPassed, Rests, IsSettled, AreAt, IsParted, AreTurned}
use Rattle.tick_stepper.proofs.Lined.{lanes_unspent, none_left}
use Rattle.tick_stepper.proofs.Handed.{rec_of, of_rec, front_of}
use Rattle.tick_stepper.proofs.Sorted.{sorted_is}
use Rattle.tick_stepper.proofs.Turns.{turned_in_order}
use Rattle.tick_stepper.proofs.Counted.{counted_at, below_count, lane_count, by_number_at}
use Rattle.tick_stepper.proofs.Rounds.{unspent_step, unspent_rise, ready_turns, ready_delivery}
use Rattle.tick_stepper.proofs.Deals.{all_append, all_map}

-- ---- what holds of all, of those that pass a test

module _ {X Y : Type 0} (p : X → Bool) (f : X → Y) where
  all_by : (P : Y → Type 0) (b : Bool) (x : X) (xs : List X) → P (f x) → AllByRecursion P (map f xs) → AllByRecursion P (map f (cond b (x ∷ xs) xs))
  all_by P true x xs h k = (h, k)
  all_by P false x xs h k = k

  pub all_passing : (P : Y → Type 0) (xs : List X) → AllByRecursion P (map f xs) → AllByRecursion P (map f (filter p xs))
  all_passing P [] h = tt
  all_passing P (x ∷ xs) h = all_by P (p x) x (filter p xs) h.0 (all_passing P xs h.1)

  rises_by : (n : Y → ℕ) (b : Bool) (x : X) (xs : List X) → AllByRecursion (λ (y : Y). n (f x) < n y) (map f xs) → RisesBy n (map f xs) → RisesBy n (map f (cond b (x ∷ xs) xs))
  rises_by n true x xs h k = (h, k)
  rises_by n false x xs h k = k

  pub rises_passing : (n : Y → ℕ) (xs : List X) → RisesBy n (map f xs) → RisesBy n (map f (filter p xs))
  rises_passing n [] h = tt
  rises_passing n (x ∷ xs) h = rises_by n (p x) x (filter p xs) (all_passing (λ (y : Y). n (f x) < n y) xs h.0) (rises_passing n xs h.1)

pub all_kept : {X : Type 0} (p : X → Bool) (P : X → Type 0) (xs : List X) → AllByRecursion P xs → AllByRecursion P (filter p xs)
all_kept p P [] h = tt
all_kept p P (x ∷ xs) h = kept_by (p x) (all_kept p P xs h.1)
  where
    kept_by : (b : Bool) → AllByRecursion P (filter p xs) → AllByRecursion P (cond b (x ∷ filter p xs) (filter p xs))
    kept_by true k = (h.0, k)
    kept_by false k = k

-- ---- lanes that are woken

pub all_passed : (script : Plan) (tick : ℕ) (ones : List Resting) → AllByRecursion (Rests script tick) ones → AllByRecursion (HasPassed tick) ones
all_passed script tick [] h = tt
all_passed script tick (one ∷ ones) h = (h.0.passed, all_passed script tick ones h.1)

woken_unspent : (tick : ℕ) (ones : List Resting) → all_woken tick ones ≡ unspent_all (all_at tick ones)
woken_unspent tick [] = refl
woken_unspent tick (one ∷ ones) = ap (λ (all : List State). woken tick one ∷ all) (woken_unspent tick ones)

-- the lanes of a run may take their turns
round_at : (script : Plan) (tick : ℕ) → length script.lanes ≤ 64 → tick < 4096 → IsRound script tick (unspent_all (lanes_at script tick))
round_at script tick few low = record {
  ready = ready_turns script tick few low;
  order = unspent_rise (lanes_at script tick) (by_number_at script tick);
  below = all_map unspent (λ (s : State). s.lane.number < length script.lanes) (lanes_at script tick)
      (below_count 0 (length script.lanes) (lanes_at script tick) (let e = lane_count script tick in omega arith) (counted_at script tick));
}

module _ (script : Plan) (tick : ℕ) (ones : List Resting) (h : AreAt script tick ones) where
  pub woken_at : all_woken tick ones ≡ unspent_all (lanes_at script tick)
  woken_at = woken_unspent tick ones ∙ ap unspent_all h.lanes

  pub round_due : length script.lanes ≤ 64 → tick < 4096 → IsRound script tick (all_woken tick (filter (is_due tick) ones))
  round_due few low =
      let all = subst (IsRound script tick) (sym woken_at) (round_at script tick few low) in
      record {
        ready = all_passing (is_due tick) (woken tick) (IsReadyOne script tick) ones all.ready;
        order = rises_passing (is_due tick) (woken tick) (λ (s : State). s.lane.number) ones all.order;
        below = all_passing (is_due tick) (woken tick) (λ (s : State). s.lane.number < length script.lanes) ones all.below;
      }

-- ---- a lane whose turn does not come

not_due : (tick : ℕ) (next : Option ℕ) → comes_by tick next ≡ false → IsAfter tick next
not_due tick None e = tt
not_due tick (Some next) e = search (rules, tests)

quiet_now : (script : Plan) (tick : ℕ) (one : Resting) → tick < script.ticks → Rests script tick one → is_due tick one ≡ false → IsQuiet script tick one.lane.lane
quiet_now script tick one left r e = r.quiet tick (omega arith) left (not_due tick one.next e)

-- what lanes post whose turns come is what all post
sent_by_due : (script : Plan) (tick : ℕ) (one : Resting) (rest : List Resting) (letters : List Letter) (b : Bool) → is_due tick one ≡ b → tick < script.ticks → Rests script tick one
    → flat_map (out_of_one script tick) (all_woken tick rest) ≡ letters → flat_map (out_of_one script tick) (all_woken tick (cond b (one ∷ rest) rest)) ≡ out_of script tick (lane_at tick one) ++ letters
sent_by_due script tick one rest letters true e left r h = ap (λ (l : List Letter). out_of script tick (lane_at tick one) ++ l) h
sent_by_due script tick one rest letters false e left r h = h ∙ sym (ap (λ (l : List Letter). l ++ letters) (quiet_now script tick one left r e).letters)

sent_due : (script : Plan) (tick : ℕ) (ones : List Resting) → tick < script.ticks → AllByRecursion (Rests script tick) ones
    → flat_map (out_of_one script tick) (all_woken tick (filter (is_due tick) ones)) ≡ posted_at script tick (all_at tick ones)
sent_due script tick [] left h = refl
sent_due script tick (one ∷ ones) left h = sent_by_due script tick one (filter (is_due tick) ones) _ (is_due tick one) refl left h.0 (sent_due script tick ones left h.1)

pub sent_at : (script : Plan) (tick : ℕ) (ones : List Resting) → tick < script.ticks → AreAt script tick ones
    → flat_map (out_of_one script tick) (all_woken tick (filter (is_due tick) ones)) ≡ posted_at script tick (lanes_at script tick)
sent_at script tick ones left h = sent_due script tick ones left h.rest ∙ ap (posted_at script tick) h.lanes

-- the turns of those that come, and the others as they are: all turns
abbrev Others : ℕ → List Resting → List Resting
Others tick ones = filter (λ one. not (is_due tick one)) ones

turns_by_due : (script : Plan) (tick : ℕ) (one : Resting) (all : List State) (due rest : List Resting) (b : Bool) → is_due tick one ≡ b → tick < script.ticks → Rests script tick one
    → IsPermutation all (map (turned_one script tick) (all_woken tick due) ++ all_woken (tick + 1) rest)
    → IsPermutation (turned_one script tick (woken tick one) ∷ all) (map (turned_one script tick) (all_woken tick (cond b (one ∷ due) due)) ++ all_woken (tick + 1) (cond (not b) (one ∷ rest) rest))
turns_by_due script tick one all due rest true e left r h = IsPermutation-cons (turned_one script tick (woken tick one)) _ _ h
turns_by_due script tick one all due rest false e left r h =
    let q = quiet_now script tick one left r e in
    let same : turned_one script tick (woken tick one) ≡ woken (tick + 1) one = ap unspent q.stays in
    let done : List State = map (turned_one script tick) (all_woken tick due) in
    let back : List State = all_woken (tick + 1) rest in
    subst (λ (x : State). IsPermutation (x ∷ all) (done ++ woken (tick + 1) one ∷ back)) (sym same)
    (IsPermutation-trans _ _ _ (IsPermutation-cons (woken (tick + 1) one) _ _ h) (IsPermutation-sym _ _ (IsPermutation-middle done (woken (tick + 1) one) back)))

turns_due : (script : Plan) (tick : ℕ) (ones : List Resting) → tick < script.ticks → AllByRecursion (Rests script tick) ones
    → IsPermutation (map (turned_one script tick) (all_woken tick ones)) (map (turned_one script tick) (all_woken tick (filter (is_due tick) ones)) ++ all_woken (tick + 1) (Others tick ones))
turns_due script tick [] left h = IsPermutation-refl []
turns_due script tick (one ∷ ones) left h =
    turns_by_due script tick one _ (filter (is_due tick) ones) (Others tick ones) (is_due tick one) refl left h.0 (turns_due script tick ones left h.1)

pub turns_at : (script : Plan) (tick : ℕ) (ones : List Resting) → tick < script.ticks → AreAt script tick ones
    → IsPermutation (unspent_all (map (turned script tick) (lanes_at script tick))) (map (turned_one script tick) (all_woken tick (filter (is_due tick) ones)) ++ all_woken (tick + 1) (Others tick ones))
turns_at script tick ones left h =
    subst (λ (l : List State). IsPermutation l (map (turned_one script tick) (all_woken tick (filter (is_due tick) ones)) ++ all_woken (tick + 1) (Others tick ones)))
    (ap (map (turned_one script tick)) (woken_at script tick ones h) ∙ unspent_step (turned script tick) (lanes_at script tick))
    (turns_due script tick ones left h.rest)

-- ---- the others rest on

lower_or_same : (k tick : ℕ) → k < tick + 1 → (k < tick) ⊎ (k ≡ tick)
lower_or_same zero zero h = inr refl
lower_or_same zero (suc tick) h = inl (omega arith)
lower_or_same (suc k) zero h = absurd (omega arith)
lower_or_same (suc k) (suc tick) h = ⊎_elim (λ (p : k < tick). inl (omega arith)) (λ (e : k ≡ tick). inr (ap suc e)) (lower_or_same k tick (omega arith))

rests_on : (script : Plan) (tick : ℕ) (one : Resting) → tick < script.ticks → Rests script tick one → is_due tick one ≡ false → Rests script (tick + 1) one
rests_on script tick one left r e =
    let q = quiet_now script tick one left r e in
    let past = r.passed.past in
    record {
      passed = record {
        unspent = r.passed.unspent;
        past = omega arith;
        tasks = λ k from to. ⊎_elim (λ (p : k < tick). r.passed.tasks k from p) (λ (s : k ≡ tick). subst (λ (m : ℕ). GivesNothing m one.lane.lane.tasks) (sym s) q.tasks) (lower_or_same k tick to);
      };
      quiet = λ k from to after. r.quiet k (omega arith) to after;
    }

on_by_due : (script : Plan) (tick : ℕ) (one : Resting) (rest : List Resting) (b : Bool) → is_due tick one ≡ b → tick < script.ticks → Rests script tick one
    → AllByRecursion (Rests script (tick + 1)) rest → AllByRecursion (Rests script (tick + 1)) (cond (not b) (one ∷ rest) rest)
on_by_due script tick one rest true e left r h = h
on_by_due script tick one rest false e left r h = (rests_on script tick one left r e, h)

pub others_rest : (script : Plan) (tick : ℕ) (ones : List Resting) → tick < script.ticks → AllByRecursion (Rests script tick) ones → AllByRecursion (Rests script (tick + 1)) (Others tick ones)
others_rest script tick [] left h = tt
others_rest script tick (one ∷ ones) left h = on_by_due script tick one (Others tick ones) (is_due tick one) refl left h.0 (others_rest script tick ones left h.1)

-- ---- all lanes are brought to the next tick

now_at : (script : Plan) (tick m : ℕ) (lanes : List Lane) → AllReady script tick m lanes → map (at_tick tick) lanes ≡ lanes
now_at script tick m [] r = refl
now_at script tick m (lane ∷ lanes) r = λ i. record lane { tasks = record lane.tasks { tick = sym r.0.now i } } ∷ now_at script tick m lanes r.1 i

brought : (tick : ℕ) (ones : List Resting) (lanes : List Lane) → map (λ (one : Resting). one.lane) ones ≡ unspent_all lanes → all_at tick ones ≡ map (at_tick tick) lanes
brought tick ones lanes e = split ones ∙ ap (map (at_tick tick)) (ap lanes_in e ∙ lanes_unspent lanes)
  where
    split : (ones : List Resting) → all_at tick ones ≡ map (at_tick tick) (lanes_in (map (λ (one : Resting). one.lane) ones))
    split [] = refl
    split (one ∷ ones) = ap (λ (ls : List Lane). lane_at tick one ∷ ls) (split ones)

pub settled_at : (script : Plan) (tick : ℕ) (ones : List Resting) → length script.lanes ≤ 64 → tick < 4096 → IsSettled script tick (unspent_all (lanes_at script (tick + 1))) ones → AreAt script (tick + 1) ones
settled_at script tick ones few low s = record {
  lanes = brought (tick + 1) ones (lanes_at script (tick + 1)) s.same ∙ now_at script (tick + 1) (most_at (tick + 1)) (lanes_at script (tick + 1)) (ready_at script (tick + 1) few (omega (arith, low)));
  rest = s.rest;
}

-- ---- put back among the others

now_turned : (script : Plan) (tick : ℕ) (lanes : List Lane) → AllByRecursion (IsReadyOne script tick) (unspent_all lanes) → map (at_tick tick) lanes ≡ lanes
now_turned script tick [] r = refl
now_turned script tick (lane ∷ lanes) r = λ i. record lane { tasks = record lane.tasks { tick = sym r.0.ready.now i } } ∷ now_turned script tick lanes r.1 i

abbrev lane_of : ℕ → State → Lane
lane_of tick s = at_tick tick s.lane

lanes_of_unspent : (tick : ℕ) (lanes : List Lane) → map (lane_of tick) (unspent_all lanes) ≡ map (at_tick tick) lanes
lanes_of_unspent tick [] = refl
lanes_of_unspent tick (lane ∷ lanes) = ap (λ (ls : List Lane). at_tick tick lane ∷ ls) (lanes_of_unspent tick lanes)

lanes_of_woken : (tick : ℕ) (ones : List Resting) → map (lane_of tick) (all_woken tick ones) ≡ all_at tick ones
lanes_of_woken tick [] = refl
lanes_of_woken tick (one ∷ ones) = ap (λ (ls : List Lane). lane_at tick one ∷ ls) (lanes_of_woken tick ones)

lanes_of_settled : (tick : ℕ) (ones : List Resting) → map (lane_of tick) (map (λ (one : Resting). one.lane) ones) ≡ all_at tick ones
lanes_of_settled tick [] = refl
lanes_of_settled tick (one ∷ ones) = ap (λ (ls : List Lane). lane_at tick one ∷ ls) (lanes_of_settled tick ones)

-- what stands in the order of a number that f of it has
pub order_seen : {X Y : Type 0} (f : X → Y) (n : Y → ℕ) (xs : List X) → IsNonDecreasingBy (λ (x : X). n (f x)) xs → IsNonDecreasingBy n (map f xs)
order_seen f n [] up i j d le lt = absurd (omega arith)
order_seen f n (x ∷ xs) up i j d le lt =
    let long : length (map f (x ∷ xs)) ≡ length (x ∷ xs) = simp length-map in
    let low : j < length (x ∷ xs) = omega arith in
    let left : n (get_or (map f (x ∷ xs)) i d) ≡ n (f (get_or (x ∷ xs) i x)) = ap n (get_or-map f (x ∷ xs) i x d (omega arith)) in
    let right : n (get_or (map f (x ∷ xs)) j d) ≡ n (f (get_or (x ∷ xs) j x)) = ap n (get_or-map f (x ∷ xs) j x d low) in
    let between = up i j x le low in
    omega arith

none_received : (script : Plan) (tick : ℕ) (lanes : List Lane) → map (received_all script tick []) lanes ≡ lanes
none_received script tick [] = refl
none_received script tick (lane ∷ lanes) = ap (λ (ls : List Lane). lane ∷ ls) (none_received script tick lanes)

none_delivered : (script : Plan) (tick : ℕ) (lanes : List Lane) → delivered script tick [] lanes ≡ lanes
none_delivered script tick lanes = none_received script tick (handed_over tick [] lanes) ∙ none_left tick lanes

pub put_back_at : (script : Plan) (tick : ℕ) (done : List State) (rest settled sorted : List Resting) → length script.lanes ≤ 64 → tick < 4096
    → AllByRecursion (Rests script (tick + 1)) rest
    → IsPermutation (unspent_all (map (turned script tick) (lanes_at script tick))) (done ++ all_woken (tick + 1) rest)
    → posted_at script tick (lanes_at script tick) ≡ [] → IsSettled script tick done settled
    → IsPermutation (settled ++ rest) sorted → IsNonDecreasingBy (λ (one : Resting). one.lane.lane.number) sorted → AreAt script (tick + 1) sorted
put_back_at script tick done rest settled sorted few low rests perm none s p up =
    let next = tick + 1 in
    let turns : List Lane = map (turned script tick) (lanes_at script tick) in
    let P : Resting → Type 0 = Rests script next in
    let all : AllByRecursion P sorted = rec_of P sorted (All-permutation P (settled ++ rest) sorted p (of_rec P (settled ++ rest) (all_append P settled rest s.rest rests))) in
    let left : map (lane_of next) (unspent_all turns) ≡ turns = lanes_of_unspent next turns ∙ now_turned script next turns (ready_delivery script tick few low) in
    let right : map (lane_of next) (done ++ all_woken next rest) ≡ all_at next (settled ++ rest) =
    map-append (lane_of next) done (all_woken next rest)
    ∙ ((λ i. (ap (map (lane_of next)) (sym s.same) ∙ lanes_of_settled next settled) i ++ lanes_of_woken next rest i)
    ∙ sym (map-append (lane_at next) settled rest)) in
    let seen : IsPermutation turns (all_at next (settled ++ rest)) =
    subst (λ (ls : List Lane). IsPermutation ls (all_at next (settled ++ rest))) left (subst (IsPermutation (map (lane_of next) (unspent_all turns))) right (IsPermutation-map (lane_of next) (unspent_all turns) (done ++ all_woken next rest) perm)) in
    let moved : IsPermutation turns (all_at next sorted) = IsPermutation-trans _ _ _ seen (IsPermutation-map (lane_at next) (settled ++ rest) sorted p) in
    let order = order_seen (lane_at next) (λ (lane : Lane). lane.number) sorted up in
    let is : all_at next sorted ≡ turns = sorted_is (λ (lane : Lane). lane.number) turns (all_at next sorted) moved order (turned_in_order script tick (lanes_at script tick) (by_number_at script tick)) in
    record {
      lanes = is ∙ (sym (ap (λ (letters : List Letter). delivered script tick letters turns) none ∙ none_delivered script tick turns) ∙ ap (lanes_at script) (sym (add-one tick)));
      rest = all;
    }

-- what is settled may take its turn
pub done_ready : (script : Plan) (tick : ℕ) (done back : List State) → length script.lanes ≤ 64 → tick < 4096
    → IsPermutation (unspent_all (map (turned script tick) (lanes_at script tick))) (done ++ back) → AllByRecursion (IsReadyOne script (tick + 1)) done
done_ready script tick done back few low perm =
    let P : State → Type 0 = IsReadyOne script (tick + 1) in
    front_of P done back (rec_of P (done ++ back) (All-permutation P (unspent_all (map (turned script tick) (lanes_at script tick))) (done ++ back) perm (of_rec P (unspent_all (map (turned script tick) (lanes_at script tick))) (ready_delivery script tick few low))))

-- what is delivered to, in order
pub sorted_turns : (script : Plan) (tick : ℕ) (lanes sorted : List State)
    → IsPermutation (unspent_all (map (turned script tick) (lanes_at script tick))) lanes → IsPermutation lanes sorted → IsNonDecreasingBy (λ (s : State). s.lane.number) sorted
    → sorted ≡ unspent_all (map (turned script tick) (lanes_at script tick))
sorted_turns script tick lanes sorted p q up =
    let turns : List Lane = map (turned script tick) (lanes_at script tick) in
    sorted_is (λ (s : State). s.lane.number) (unspent_all turns) sorted (IsPermutation-trans _ _ _ p q) up (unspent_rise turns (turned_in_order script tick (lanes_at script tick) (by_number_at script tick)))

-- ---- a tick in which no turn comes

none_due : (script : Plan) (tick : ℕ) (ones : List Resting) → AllByRecursion (λ (one : Resting). is_due tick one ≡ false) ones → Others tick ones ≡ ones
none_due script tick [] h = refl
none_due script tick (one ∷ ones) h = ap (λ (b : Bool). cond (not b) (one ∷ Others tick ones) (Others tick ones)) h.0 ∙ ap (λ (os : List Resting). one ∷ os) (none_due script tick ones h.1)

quiet_lanes : (script : Plan) (tick : ℕ) (ones : List Resting) → tick < script.ticks → AllByRecursion (Rests script tick) ones → AllByRecursion (λ (one : Resting). is_due tick one ≡ false) ones
    → (map (turned script tick) (all_at tick ones) ≡ all_at (tick + 1) ones) × (posted_at script tick (all_at tick ones) ≡ [])
quiet_lanes script tick [] left h k = (refl, refl)
quiet_lanes script tick (one ∷ ones) left h k =
    let q = quiet_now script tick one left h.0 k.0 in
    let rest = quiet_lanes script tick ones left h.1 k.1 in
    (λ i. q.stays i ∷ rest.0 i, λ i. q.letters i ++ rest.1 i)

pub idle_tick : (script : Plan) (tick : ℕ) (ones : List Resting) → tick < script.ticks → AreAt script tick ones → AllByRecursion (λ (one : Resting). is_due tick one ≡ false) ones → AreAt script (tick + 1) ones
idle_tick script tick ones left h none =
    let quiet = quiet_lanes script tick ones left h.rest none in
    let turns : map (turned script tick) (lanes_at script tick) ≡ all_at (tick + 1) ones = ap (map (turned script tick)) (sym h.lanes) ∙ quiet.0 in
    let letters : posted_at script tick (lanes_at script tick) ≡ [] = ap (posted_at script tick) (sym h.lanes) ∙ quiet.1 in
    record {
      lanes = sym ((λ i. delivered script tick (letters i) (turns i)) ∙ none_delivered script tick (all_at (tick + 1) ones)) ∙ ap (lanes_at script) (sym (add-one tick));
      rest = subst (AllByRecursion (Rests script (tick + 1))) (none_due script tick ones none) (others_rest script tick ones left h.rest);
    }

-- ---- at first

pub opening_at : (script : Plan) (ones : List Resting) → map (λ (one : Resting). one.lane) ones ≡ unspent_all (lanes_at script 0) → AllByRecursion (λ (one : Resting). one.next ≡ Some 0) ones → length script.lanes ≤ 64 → AreAt script 0 ones
opening_at script ones same due few = record {
  lanes = brought 0 ones (lanes_at script 0) same ∙ now_at script 0 (most_at 0) (lanes_at script 0) (ready_at script 0 few (omega arith));
  rest = all_rest ones (subst (AllByRecursion (IsReadyOne script 0)) (sym same) (ready_turns script 0 few (omega arith))) due;
}
  where
    all_rest : (ones : List Resting) → AllByRecursion (IsReadyOne script 0) (map (λ (one : Resting). one.lane) ones) → AllByRecursion (λ (one : Resting). one.next ≡ Some 0) ones → AllByRecursion (Rests script 0) ones
    all_rest [] r d = tt
    all_rest (one ∷ ones) r d = (
      record {
        passed = record { unspent = r.0.unspent; past = let now = r.0.ready.now in omega arith; tasks = λ k from to. absurd (omega arith) };
        quiet = λ k from to after. absurd (let no : k < 0 = subst (IsAfter k) d.0 after in omega arith);
      },
      all_rest ones r.1 d.1,
    )

-- ---- one more

pub settled_more : (script : Plan) (tick : ℕ) (lanes : List State) (ones : List Resting) (one : Resting) → IsSettled script tick lanes ones → Rests script (tick + 1) one → IsSettled script tick (lanes ++ one.lane ∷ []) (ones ++ one ∷ [])
settled_more script tick lanes ones one s r = record {
  same = map-append (λ (o : Resting). o.lane) ones (one ∷ []) ∙ ap (λ (ls : List State). ls ++ one.lane ∷ []) s.same;
  rest = all_append (Rests script (tick + 1)) ones (one ∷ []) s.rest (r, tt);
}

-- a lane that was asked for its next tick rests until then
pub rests_until : (script : Plan) (tick : ℕ) (lane : State) (next : Option ℕ) → IsReadyOne script (tick + 1) lane → IsQuietUntil script tick next lane.lane → Rests script (tick + 1) (record { lane = lane; next = next })
rests_until script tick lane next r q = record {
  passed = record { unspent = r.unspent; past = let now = r.ready.now in omega arith; tasks = λ k from to. absurd (let now = r.ready.now in omega arith) };
  quiet = λ k from to after. q k (omega arith) to after;
}

-- ---- what is delivered to leads to the next tick

-- what goes over, between lanes after their turns
pub handed_at : (script : Plan) (tick : ℕ) (shown now : List State) (letters : List Letter) → shown ≡ unspent_all (map (turned script tick) (lanes_at script tick)) → letters ≡ posted_at script tick (lanes_at script tick)
    → now ≡ unspent_all (handed_over tick letters (lanes_in shown)) → now ≡ unspent_all (handed_over tick (posted_at script tick (lanes_at script tick)) (map (turned script tick) (lanes_at script tick)))
handed_at script tick shown now letters turns sent went =
    let same : lanes_in shown ≡ map (turned script tick) (lanes_at script tick) = ap lanes_in turns ∙ lanes_unspent (map (turned script tick) (lanes_at script tick)) in
    went ∙ (λ i. unspent_all (handed_over tick (sent i) (same i)))

pub delivered_at : (script : Plan) (tick : ℕ) (shown now : List State) (letters : List Letter) → shown ≡ unspent_all (handed_over tick (posted_at script tick (lanes_at script tick)) (map (turned script tick) (lanes_at script tick))) → letters ≡ posted_at script tick (lanes_at script tick)
    → now ≡ map (stepped_one (received_all script tick letters)) shown → now ≡ unspent_all (lanes_at script (tick + 1))
delivered_at script tick shown now letters went sent took =
    let all : List Letter = posted_at script tick (lanes_at script tick) in
    let over : List Lane = handed_over tick all (map (turned script tick) (lanes_at script tick)) in
    took ∙ (λ i. map (stepped_one (received_all script tick (sent i))) (went i))
    ∙ (unspent_step (received_all script tick all) over ∙ ap (λ k. unspent_all (lanes_at script k)) (sym (add-one tick)))

-- ---- a tick after its turns, whoever took them

pub turned_parted : (script : Plan) (tick : ℕ) (lanes : List Resting) (due done : List State) (letters : List Letter) (resting : List Resting)
    → tick < script.ticks → AreAt script tick lanes → IsParted tick lanes due resting
    → done ≡ map (turned_one script tick) due → letters ≡ flat_map (out_of_one script tick) due → AreTurned script tick done letters resting
turned_parted script tick lanes due done letters resting left at p turns sent = record {
  lanes = subst (IsPermutation (unspent_all (map (turned script tick) (lanes_at script tick))))
      (λ i. sym (turns ∙ ap (map (turned_one script tick)) p.due) i ++ all_woken (tick + 1) (sym p.resting i)) (turns_at script tick lanes left at);
  letters = sent ∙ (ap (flat_map (out_of_one script tick)) p.due ∙ sent_at script tick lanes left at);
  rest = subst (AllByRecursion (Rests script (tick + 1))) (sym p.resting) (others_rest script tick lanes left at.rest);
}

-- ---- tests that tell of none

pub none_long : {X : Type 0} (xs : List X) → (length xs == 0) ≡ true → xs ≡ []
none_long [] e = refl
none_long (x ∷ xs) e = absurd (let no = eqb-true (suc (length xs)) 0 e in omega arith)

pub none_any : (tick : ℕ) (ones : List Resting) → list_any (is_due tick) ones ≡ false → AllByRecursion (λ (one : Resting). is_due tick one ≡ false) ones
none_any tick [] e = tt
none_any tick (one ∷ ones) e = (left (is_due tick one) (list_any (is_due tick) ones) e, none_any tick ones (right (is_due tick one) (list_any (is_due tick) ones) e))
  where
    left : (a b : Bool) → (a || b) ≡ false → a ≡ false
    left true b h = absurd (cc)
    left false b h = refl

    right : (a b : Bool) → (a || b) ≡ false → b ≡ false
    right true b h = absurd (cc)
    right false b h = h
