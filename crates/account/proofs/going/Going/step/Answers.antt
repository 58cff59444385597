use Rattle.std.proofs.Common.{◌≡◌, Bool, true, false, is_some, Some, length, get_or, ap, sym, ◌∙◌, subst, refl, List, arith, take_at}
use Rattle.std.specs.Vec.{with_items}
use Rattle.lane_turn.specs.Lane.{Lane, State, Turn}
use Rattle.lane_turn.specs.Frames.{top_of}
use Rattle.lane_turn.specs.Step.{step}
use Rattle.lane_turn.specs.Turn.{stepped}
use Rattle.tick_stepper.specs.Account.{moved}
use Rattle.account.specs.declared.going.Going.{Going}
use Rattle.account.specs.Standing.{turn_in, turning, turning_after, place_of, Stands}
use Rattle.tick_stepper.specs.Share.{lanes_in as lanes_of}
use Rattle.std.specs.Prelude.{if◌then◌else◌}
use Rattle.account.specs.declared.moment.Deed.TheVariants as deeds
use Rattle.account.specs.Told.{trace_at, did_step, did_top, IsMoment}
use Rattle.account.proofs.Goings.{stands_stepped, stands_over, stepped_place, over_place}
use Rattle.account.proofs.Moments.{step_moment, grows_between}
use Rattle.account.proofs.going.Going.step.Goals as goal
use Rattle.account.proofs.going.Going.step.Goals.{then-more+in-Some-1, then-more+in-None-1, else-more+in_ok-end_turn}

pub returns : goal.returns
returns c =
    let script = c.args.script.now in
    let tick = c.args.tick in
    let n = c.args.lane in
    let b = c.args.begun in
    let g : Going = record c.args.self.now { begun = Some b } in
    let h : Going = c.if-more.self in
    let states = c.step.new.lanes in
    let few = c.requires.few in
    let low = c.requires.tick in
    let phase = c.requires.phase in
    let was = c.as_mut_slice.ensures.value in
    let on : Going = record { lanes = with_items g.lanes states; letters = g.letters; phase = g.phase; begun = Some c.step.new.begun } in
    let same : on.lanes.items ≡ states = take_at states _ g.lanes.len (omega (arith, c.step.auto.lanes, c.as_mut_slice.ensures.len)) in
    let long : length states ≡ length g.lanes.items = omega (arith, c.step.auto.lanes, ap length was) in
    let ok = c.in_ok-more.ensures in
    let goes = λ (more : Bool) (e : c.in_ok-more.more ≡ more). subst
    (λ (ss : List State). moved script tick (turning n (lanes_of ss) (Some b) g.letters.items) ≡ Some (turning_after more n (lanes_of states) c.step.new.begun g.letters.items)) was
    (ok.moved g.letters.items ∙ ap (λ (x : Bool). Some (turning_after x n (lanes_of states) c.step.new.begun g.letters.items)) e) in
    let Leaves : Going → Type 0 = λ (x : Going). Stands script tick x × (moved script tick (place_of g) ≡ Some (place_of x)) × (x.lanes.items ≡ states) in
    let left : Leaves h = elim c.if-more.branch [
      | then-more+in-Some-1 w ↦ subst Leaves (sym w.self-is) (
        stands_stepped script tick n g on b c.step.new.begun states few low c.requires.stands phase refl phase refl refl same (goes true w.if-more.true) ok.own ok.unspent long,
        stepped_place script tick n g on b c.step.new.begun states phase refl phase refl refl same (goes true w.if-more.true),
        same,
      )
      | then-more+in-None-1 w ↦ subst Leaves (sym w.self-is) (
        stands_stepped script tick n g on b c.step.new.begun states few low c.requires.stands phase refl phase refl refl same (goes true w.if-more.true) ok.own ok.unspent long,
        stepped_place script tick n g on b c.step.new.begun states phase refl phase refl refl same (goes true w.if-more.true),
        same,
      )
      | else-more+in_ok-end_turn w ↦
          let end = w.in_ok-end_turn.ensures in
          let items = ap (λ v. v.items) end.lanes ∙ same in
          subst Leaves (sym w.self-is) (
            stands_over script tick n g w.end_turn.new.self b c.step.new.begun states few low c.requires.stands phase refl end.phase end.begun end.letters items (goes false w.if-more.false) ok.unspent long,
            over_place script tick n g w.end_turn.new.self b c.step.new.begun states phase refl end.phase end.begun end.letters items (goes false w.if-more.false),
            items,
          )
    ] in
    let d : State = c.index.result.now in
    let lane : Lane = (get_or g.lanes.items n d).lane in
    let t : Turn = turn_in lane b in
    let now = ap (trace_at n) (ap lanes_of same)
    ∙ (ok.trace d ∙ ap (λ (ss : List State). (stepped script tick (turn_in (get_or ss n d).lane b)).lane.trace) was) in
    let more : is_some (step script tick t) ≡ c.in_ok-more.more = sym (ok.more d ∙ ap (λ (ss : List State). is_some (step script tick (turn_in (get_or ss n d).lane b))) was) in
    let ahead : did_top script lane (top_of lane.frames) ≡ c.foreseen-ahead.result = sym (c.foreseen-ahead.ensures ∙ ap (λ (s : State). did_top script s.lane (top_of s.lane.frames)) c.index.ensures) in
    let did : did_step script tick t ≡ c.done-deed.result = (λ j. if more j then ahead j else deeds.Rests) ∙ sym c.done-deed.ensures in
    let grows = grows_between tick n was (sym left.2) ok.grows in
    let found = c.moment.ensures ∙ (λ j. record { tick = tick; lane = n; deed = c.done-deed.result; from = c.lines_of-from.ensures j; to = length (trace_at n (lanes_of h.lanes.items)) }) in
    record {
      stands = left.0;
      moment = subst (IsMoment script tick (place_of g) (place_of h)) (sym found) (step_moment script tick n g h b d c.done-deed.result phase refl c.requires.lane left.1 did grows);
    }
