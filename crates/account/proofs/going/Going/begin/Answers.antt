use Rattle.std.proofs.Common.{◌≡◌, None, Some, length, ap, sym, subst, ◌∙◌, refl, List, arith, take_at}
use Rattle.std.specs.Vec.{with_items}
use Rattle.lane_turn.specs.Lane.{State}
use Rattle.account.specs.declared.going.Going.{Going}
use Rattle.account.specs.declared.moment.Deed.TheVariants as deeds
use Rattle.account.specs.Within.{polled}
use Rattle.account.specs.Standing.{turning, place_of}
use Rattle.tick_stepper.specs.Share.{lanes_in as lanes_of}
use Rattle.account.specs.Told.{trace_at, IsMoment}
use Rattle.account.proofs.Goings.{stands_begun, begun_place}
use Rattle.account.proofs.Moments.{begin_moment, grows_between}
use Rattle.account.proofs.going.Going.begin.Goals as goal

pub returns : goal.returns
returns c =
    let script = c.args.script.now in
    let tick = c.args.tick in
    let n = c.args.lane in
    let g : Going = c.args.self.now in
    let states = c.begin.new.lanes in
    let h : Going = record { lanes = with_items g.lanes states; letters = g.letters; phase = g.phase; begun = Some c.in_ok-begun.begun } in
    let was = c.as_mut_slice.ensures.value in
    let same : h.lanes.items ≡ states = take_at states _ g.lanes.len (omega (arith, c.begin.auto.lanes, c.as_mut_slice.ensures.len)) in
    let goes = c.in_ok-begun.ensures.polled g.letters.items ∙ ap (λ (ss : List State). polled script tick (turning n (lanes_of ss) None g.letters.items)) was in
    let there = begun_place script tick n g h c.in_ok-begun.begun states c.requires.phase c.requires.begun c.requires.phase refl refl same goes in
    let grows = grows_between tick n was (sym same) c.in_ok-begun.ensures.grows in
    let found = c.moment.ensures ∙ (λ j. record { tick = tick; lane = n; deed = deeds.Polled; from = c.lines_of-from.ensures j; to = length (trace_at n (lanes_of h.lanes.items)) }) in
    record {
      stands = stands_begun script tick n g h c.in_ok-begun.begun states c.requires.stands c.requires.phase c.requires.begun c.requires.phase refl refl same goes c.in_ok-begun.ensures.own
          c.in_ok-begun.ensures.unspent (omega (arith, c.begin.auto.lanes, ap length was));
      moment = subst (IsMoment script tick (place_of g) (place_of h)) (sym found) (begin_moment script tick n g h c.requires.phase c.requires.begun c.requires.lane there grows);
    }
