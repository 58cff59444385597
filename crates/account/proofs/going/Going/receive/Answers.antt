use Rattle.std.proofs.Common.{◌≡◌, ◌+◌, Some, length, ap, sym, subst, ◌∙◌, refl, List, arith, take_at}
use Rattle.std.specs.Vec.{with_items}
use Rattle.post_office.specs.declared.letter.Letter.{Letter}
use Rattle.lane_turn.specs.Lane.{State}
use Rattle.tick_stepper.specs.Account.{moved}
use Rattle.account.specs.declared.going.Going.{Going}
use Rattle.account.specs.declared.going.Phase.TheVariants as phases
use Rattle.account.specs.declared.moment.Deed.TheVariants as deeds
use Rattle.account.specs.Standing.{bringing, place_of}
use Rattle.tick_stepper.specs.Share.{lanes_in as lanes_of}
use Rattle.account.specs.Told.{trace_at, IsMoment}
use Rattle.account.proofs.Goings.{stands_received, received_place}
use Rattle.account.proofs.Moments.{receive_moment, grows_between}
use Rattle.account.proofs.going.Going.receive.Goals as goal

pub returns : goal.returns
returns c =
    let script = c.args.script.now in
    let tick = c.args.tick in
    let n = c.args.lane in
    let k = c.args.letter in
    let g : Going = c.args.self.now in
    let states = c.receive.new.lanes in
    let h : Going = record { lanes = with_items g.lanes states; letters = g.letters; phase = phases.Bringing n (k + 1); begun = g.begun } in
    let was = c.as_mut_slice.ensures.value in
    let same : h.lanes.items ≡ states = take_at states _ g.lanes.len (omega (arith, c.receive.auto.lanes, c.as_mut_slice.ensures.len)) in
    let goes = subst (λ (ss : List State). moved script tick (bringing n k (lanes_of ss) g.letters.items) ≡ Some (bringing n (k + 1) (lanes_of states) g.letters.items)) was
    (subst (λ (ls : List Letter). moved script tick (bringing n k (lanes_of c.as_mut_slice.result.now) ls) ≡ Some (bringing n (k + 1) (lanes_of states) ls)) c.as_slice.ensures.value c.in_ok-receive.ensures.moved) in
    let there = received_place script tick n k g h states c.requires.phase refl refl same goes in
    let grows = grows_between tick n was (sym same) c.in_ok-receive.ensures.grows in
    let one = c.index.result.now in
    let sender = ap (λ (l : Letter). l.sender) c.index.ensures in
    let found = c.moment.ensures ∙ (λ j. record { tick = tick; lane = n; deed = deeds.Received k (sender j); from = c.lines_of-from.ensures j; to = length (trace_at n (lanes_of h.lanes.items)) }) in
    record {
      stands = stands_received script tick n k g h states c.requires.few c.requires.tick c.requires.stands c.requires.phase refl refl same goes c.in_ok-receive.ensures.unspent
          (omega (arith, c.receive.auto.lanes, ap length was));
      moment = subst (IsMoment script tick (place_of g) (place_of h)) (sym found) (receive_moment script tick n k g h one c.requires.phase c.requires.lane c.requires.letter there grows);
    }
