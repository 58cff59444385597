use Rattle.std.proofs.Common.{◌≤◌, length, refl, arith}
use Rattle.account.specs.declared.going.Going.{Going}
use Rattle.account.specs.declared.going.Phase.TheVariants as phases
use Rattle.account.specs.Standing.{place_of}
use Rattle.tick_stepper.specs.Share.{lanes_in as lanes_of}
use Rattle.account.proofs.States.{lanes_length}
use Rattle.account.proofs.Goings.{stands_turned, turned_place, still}
use Rattle.account.proofs.Quiet.{not_yet, one_more, quiet_step, turned_quiet, tells_later, nothing_later, ok_some_weaker}
use Rattle.account.proofs.going.Going.next.Goals as goal

pub give-requires-clause-stands : goal.give-requires-clause-stands
give-requires-clause-stands c =
    let g = c.args.self.now in
    let all : length (lanes_of g.lanes.items) ≤ c.in-Turning.lane = omega (arith, lanes_length g.lanes.items, g.lanes.ok.0) in
    stands_turned c.args.script.now c.args.tick c.in-Turning.lane g _ c.requires.few c.requires.tick c.requires.stands c.in-Turning.is all refl refl refl

pub returns-else-lane-len-clause-moment : goal.returns-else-lane-len-clause-moment
returns-else-lane-len-clause-moment c =
    let script = c.args.script.now in
    let tick = c.args.tick in
    let n = c.in-Turning.lane in
    let g : Going = c.args.self.now in
    let h : Going = record { lanes = g.lanes; letters = g.letters; phase = phases.Giving 0; begun = g.begun } in
    let all : length (lanes_of g.lanes.items) ≤ n = omega (arith, lanes_length g.lanes.items, g.lanes.ok.0) in
    let quiet = one_more script _ _ _ (not_yet script _) (quiet_step script tick (place_of g) (place_of h) (turned_quiet script tick n g c.in-Turning.is all) (turned_place script tick n g h c.in-Turning.is all refl refl refl)) in
    ok_some_weaker c.give.result (λ m t. tells_later script tick (place_of g) (place_of h) _ m quiet (still g h refl) t) c.give.ensures.moment

pub returns-else-lane-len-clause-passed : goal.returns-else-lane-len-clause-passed
returns-else-lane-len-clause-passed c e =
    let script = c.args.script.now in
    let tick = c.args.tick in
    let n = c.in-Turning.lane in
    let g : Going = c.args.self.now in
    let h : Going = record { lanes = g.lanes; letters = g.letters; phase = phases.Giving 0; begun = g.begun } in
    let all : length (lanes_of g.lanes.items) ≤ n = omega (arith, lanes_length g.lanes.items, g.lanes.ok.0) in
    let quiet = one_more script _ _ _ (not_yet script _) (quiet_step script tick (place_of g) (place_of h) (turned_quiet script tick n g c.in-Turning.is all) (turned_place script tick n g h c.in-Turning.is all refl refl refl)) in
    nothing_later script tick (place_of g) (place_of h) _ quiet (still g h refl) (c.give.ensures.passed e)
