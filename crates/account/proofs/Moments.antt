-- Moves that are told, by the fields that they change.
use Rattle.std.proofs.Common.{◌≡◌, ℕ, zero, suc, ◌+◌, ◌-◌, ◌<◌, Option, Some, None, unwrap_or, List, [], ◌∷◌, length, take, drop, get_or, refl, ap, sym, ◌∙◌, subst, arith}
use Rattle.std.proofs.lemmas.List.{drop_more, length-take-le, length-drop}
use Rattle.loop_script.specs.declared.plan.Plan.{Plan}
use Rattle.post_office.specs.declared.letter.Letter.{Letter}
use Rattle.lane_turn.specs.Lane.{Lane, State, Turn}
use Rattle.lane_turn.specs.Step.{step}
use Rattle.lane_turn.specs.Turn.{begun_with, begun_polled, stepped}
use Rattle.lane_turn.specs.Traces.{Grows, IsOf}
use Rattle.lane_turn.proofs.Adds.{grows_none, grows_trans}
use Rattle.lane_turn.proofs.Traced.{of_tick}
use Rattle.lane_turn.proofs.Turns.{kept_finish}
use Rattle.tick_stepper.specs.Account.{Turning, Bringing, moved, lanes_in}
use Rattle.account.specs.declared.turns.Begun.{Begun}
use Rattle.account.specs.declared.going.Going.{Going}
use Rattle.account.specs.declared.going.Phase.TheVariants as phases
use Rattle.account.specs.declared.moment.Deed.{Deed}
use Rattle.account.specs.declared.moment.Deed.TheVariants as deeds
use Rattle.account.specs.declared.moment.Moment.{Moment}
use Rattle.account.specs.Within.{polled}
use Rattle.account.specs.Standing.{turn_in, turning_from, place_of}
use Rattle.tick_stepper.specs.Share.{lanes_in as lanes_of}
use Rattle.account.specs.Told.{did_step, told, told_move, trace_at, GrowsAt, TellsLines, IsMoment}
use Rattle.account.proofs.States.{drop_here, lanes_length}
use Rattle.account.proofs.Goings.{place_same, lanes_in_place}

-- ---- lines of a turn

pub polls_grow : (script : Plan) (tick : ℕ) (lane : Lane) → Grows (IsOf tick) lane.trace (begun_polled script tick [] lane).lane.trace
polls_grow script tick lane =
    kept_finish script tick (length lane.tasks.started) (λ (t : Turn). Grows (IsOf tick) lane.trace t.lane.trace)
    (λ t u e h. grows_trans (IsOf tick) lane.trace t.lane.trace u.lane.trace h (of_tick script tick t u e)) (begun_with tick [] lane) (grows_none (IsOf tick) lane.trace)

pub step_grows : (script : Plan) (tick : ℕ) (t : Turn) → Grows (IsOf tick) t.lane.trace (stepped script tick t).lane.trace
step_grows script tick t = by (step script tick t) refl
  where
    by : (o : Option Turn) → step script tick t ≡ o → Grows (IsOf tick) t.lane.trace (unwrap_or o t).lane.trace
    by None e = grows_none (IsOf tick) t.lane.trace
    by (Some u) e = of_tick script tick t u e

-- ---- what is told of lines

-- the moment of a lane that had written so many lines before
abbrev pub moment_of : ℕ → ℕ → Deed → List Lane → List Lane → Moment
moment_of tick n deed lanes now = record { tick = tick; lane = n; deed = deed; from = length (trace_at n lanes); to = length (trace_at n now) }

pub tells_lines : (tick n : ℕ) (deed : Deed) (g h : Going) → GrowsAt tick n (lanes_of g.lanes.items) (lanes_of h.lanes.items)
    → TellsLines (moment_of tick n deed (lanes_of g.lanes.items) (lanes_of h.lanes.items)) (lanes_in (place_of g)) (lanes_in (place_of h))
tells_lines tick n deed g h grows =
    let m : Moment = moment_of tick n deed (lanes_of g.lanes.items) (lanes_of h.lanes.items) in
    let t : TellsLines m (lanes_of g.lanes.items) (lanes_of h.lanes.items) = record { from = refl; to = refl; grows = grows } in
    subst (λ (ls : List Lane). TellsLines m ls (lanes_in (place_of h))) (sym (lanes_in_place g)) (subst (TellsLines m (lanes_of g.lanes.items)) (sym (lanes_in_place h)) t)

state_at : (states : List State) (i : ℕ) → i < length states → State
state_at [] i h = absurd (omega (arith, h))
state_at (s ∷ states) zero h = s
state_at (s ∷ states) (suc i) h = state_at states i (omega (arith, h))

front_long : (states : List State) (n : ℕ) → n < length states → length (take n (lanes_of states)) ≡ n
front_long states n h = length-take-le n (lanes_of states) (omega (arith, h, lanes_length states))

-- ---- a turn begins

pub begin_moment : (script : Plan) (tick n : ℕ) (g h : Going) → g.phase ≡ phases.Turning n → g.begun ≡ None → n < length g.lanes.items → place_of h ≡ polled script tick (place_of g)
    → GrowsAt tick n (lanes_of g.lanes.items) (lanes_of h.lanes.items) → IsMoment script tick (place_of g) (place_of h) (moment_of tick n deeds.Polled (lanes_of g.lanes.items) (lanes_of h.lanes.items))
begin_moment script tick n g h gp gb low there grows =
    let lanes : List Lane = lanes_of g.lanes.items in
    let d : State = state_at g.lanes.items n low in
    let lane : Lane = (get_or g.lanes.items n d).lane in
    let over : List Lane = take n lanes in
    let waiting : List Lane = drop (n + 1) lanes in
    let letters : List Letter = g.letters.items in
    let was : place_of g ≡ Turning over None (lane ∷ waiting) letters = place_same refl refl gb gp ∙ ap (λ (w : List Lane). turning_from over w None letters) (drop_here g.lanes.items n d low) in
    record {
      goes = ap (told_move script tick) was ∙ ap Some (sym (there ∙ ap (polled script tick) was));
      tells = ap (told script tick) was ∙ ap (λ (k : ℕ). Some (record { lane = k; deed = deeds.Polled })) (front_long g.lanes.items n low);
      when = refl;
      lines = tells_lines tick n deeds.Polled g h grows;
    }

-- ---- it takes a step, or is over

pub step_moment : (script : Plan) (tick n : ℕ) (g h : Going) (b : Begun) (d : State) (deed : Deed) → g.phase ≡ phases.Turning n → g.begun ≡ Some b → n < length g.lanes.items → moved script tick (place_of g) ≡ Some (place_of h)
    → did_step script tick (turn_in (get_or g.lanes.items n d).lane b) ≡ deed → GrowsAt tick n (lanes_of g.lanes.items) (lanes_of h.lanes.items)
    → IsMoment script tick (place_of g) (place_of h) (moment_of tick n deed (lanes_of g.lanes.items) (lanes_of h.lanes.items))
step_moment script tick n g h b d deed gp gb low goes did grows =
    let lanes : List Lane = lanes_of g.lanes.items in
    let t : Turn = turn_in (get_or g.lanes.items n d).lane b in
    let over : List Lane = take n lanes in
    let waiting : List Lane = drop (n + 1) lanes in
    let letters : List Letter = g.letters.items in
    let was : place_of g ≡ Turning over (Some t) waiting letters = place_same refl refl gb gp ∙ ap (λ (w : List Lane). turning_from over w (Some b) letters) (drop_here g.lanes.items n d low) in
    record {
      goes = ap (told_move script tick) was ∙ (ap (moved script tick) (sym was) ∙ goes);
      tells = ap (told script tick) was ∙ (λ j. Some (record { lane = front_long g.lanes.items n low j; deed = did j }));
      when = refl;
      lines = tells_lines tick n deed g h grows;
    }

-- ---- a letter is brought

pub receive_moment : (script : Plan) (tick n k : ℕ) (g h : Going) (one : Letter) → g.phase ≡ phases.Bringing n k → n < length g.lanes.items → k < length g.letters.items → moved script tick (place_of g) ≡ Some (place_of h)
    → GrowsAt tick n (lanes_of g.lanes.items) (lanes_of h.lanes.items)
    → IsMoment script tick (place_of g) (place_of h) (moment_of tick n (deeds.Received k (get_or g.letters.items k one).sender) (lanes_of g.lanes.items) (lanes_of h.lanes.items))
receive_moment script tick n k g h one gp low here goes grows =
    let lanes : List Lane = lanes_of g.lanes.items in
    let d : State = state_at g.lanes.items n low in
    let lane : Lane = (get_or g.lanes.items n d).lane in
    let over : List Lane = take n lanes in
    let waiting : List Lane = drop (n + 1) lanes in
    let letters : List Letter = g.letters.items in
    let letter : Letter = get_or letters k one in
    let left : List Letter = drop (k + 1) letters in
    let first : drop n lanes ≡ lane ∷ waiting = drop_here g.lanes.items n d low in
    let next : drop k letters ≡ letter ∷ left = drop_more letters k one here in
    let was : place_of g ≡ Bringing over (lane ∷ waiting) (letter ∷ left) letters = place_same {p = g.begun} refl refl refl gp ∙ (λ j. Bringing over (first j) (next j) letters) in
    let place : length letters - suc (length left) ≡ k = omega (arith, here, length-drop (k + 1) letters) in
    record {
      goes = ap (told_move script tick) was ∙ (ap (moved script tick) (sym was) ∙ goes);
      tells = ap (told script tick) was ∙ (λ j. Some (record { lane = front_long g.lanes.items n low j; deed = deeds.Received (place j) letter.sender }));
      when = refl;
      lines = tells_lines tick n (deeds.Received k letter.sender) g h grows;
    }

-- ---- the same lanes

pub grows_between : (tick n : ℕ) {a b c d : List State} → a ≡ b → c ≡ d → GrowsAt tick n (lanes_of a) (lanes_of c) → GrowsAt tick n (lanes_of b) (lanes_of d)
grows_between tick n {a} {b} {c} {d} old new g = subst (λ (ss : List State). GrowsAt tick n (lanes_of ss) (lanes_of d)) old (subst (λ (ss : List State). GrowsAt tick n (lanes_of a) (lanes_of ss)) new g)
