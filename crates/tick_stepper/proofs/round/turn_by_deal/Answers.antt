use Rattle.std.proofs.Common.{◌≡◌, ◌∙◌, sym, subst, List, arith, length}
use Rattle.std.specs.Prelude.{IsPermutation}
use Rattle.std.specs.List.{flat_map}
use Rattle.std.proofs.lemmas.List.Sorted.{IsPermutation-refl}
use Rattle.lane_turn.specs.Lane.{State}
use Rattle.tick_stepper.specs.Share.{handed, out_of_one}
use Rattle.tick_stepper.proofs.Crews.{some_workers, all_named}
use Rattle.tick_stepper.proofs.Handed.{all_fresh, came_back}
use Rattle.tick_stepper.proofs.Rounds.{turned_by_number, posted_by_sender}
use Rattle.tick_stepper.proofs.round.turn_by_deal.Goals as goal

pub deal-requires-clause-some : goal.deal-requires-clause-some
deal-requires-clause-some g c = some_workers c.args.script.now c.args.crew.now.workers c.args.crew.now.sharing c.requires.crew

pub deal-requires-clause-named : goal.deal-requires-clause-named
deal-requires-clause-named g c = all_named c.args.script.now c.args.crew.now c.args.lanes.items c.requires.crew c.requires.lanes.below

pub turn_shares-requires-clause-fresh : goal.turn_shares-requires-clause-fresh
turn_shares-requires-clause-fresh g c κs _ =
    let script = c.args.script.now in
    all_fresh script c.args.tick c.args.lanes.items c.in_ok-shares.shares.items c.requires.lanes.ready c.in_ok-shares.ensures.lanes c.in_ok-shares.ensures.trays

pub returns-clause-lanes : goal.returns-clause-lanes
returns-clause-lanes g c =
    let script = c.args.script.now in
    let all = c.in_ok-lanes.ensures in
    let shares = c.in_ok-shares.shares in
    let hauls = c.in_ok-hauls.hauls in
    let dealt = c.in_ok-shares.ensures.lanes in
    let long : length hauls.items ≡ length shares.items = omega (arith, c.in_ok-hauls.ensures.all, hauls.ok.0, shares.ok.0) in
    let back = came_back script c.args.tick shares.items all.shares hauls.items all.all long (λ i d e h. c.in_ok-hauls.ensures.each i d e (omega (arith, h, shares.ok.0))) in
    turned_by_number script c.args.tick c.args.lanes.items (handed shares.items) (handed all.shares) c.in_ok-lanes-2.lanes.items c.requires.lanes.order dealt back.lanes (subst (λ (l : List State). IsPermutation l c.in_ok-lanes-2.lanes.items) all.back c.in_ok-lanes-2.ensures.same) c.in_ok-lanes-2.ensures.order

pub returns-clause-letters : goal.returns-clause-letters
returns-clause-letters g c =
    let script = c.args.script.now in
    let all = c.in_ok-lanes.ensures in
    let shares = c.in_ok-shares.shares in
    let hauls = c.in_ok-hauls.hauls in
    let dealt = c.in_ok-shares.ensures.lanes in
    let long : length hauls.items ≡ length shares.items = omega (arith, c.in_ok-hauls.ensures.all, hauls.ok.0, shares.ok.0) in
    let back = came_back script c.args.tick shares.items all.shares hauls.items all.all long (λ i d e h. c.in_ok-hauls.ensures.each i d e (omega (arith, h, shares.ok.0))) in
    let sent = subst (IsPermutation (flat_map (out_of_one script c.args.tick) (handed shares.items))) (sym (all.posted ∙ back.letters)) (IsPermutation-refl _) in
    posted_by_sender script c.args.tick c.args.lanes.items (handed shares.items) c.in_ok-lanes.letters.items c.in_ok-letters.letters.items c.requires.lanes dealt sent c.in_ok-letters.ensures.letters c.in_ok-letters.ensures.order
