use Rattle.std.proofs.Common.{◌+◌, ◌<◌, ◌≤◌, length, ap, ◌∙◌, refl, arith}
use Rattle.account.specs.declared.going.Going.{Going}
use Rattle.account.specs.declared.going.Phase.TheVariants as phases
use Rattle.account.specs.Standing.{place_of}
use Rattle.tick_stepper.specs.Share.{lanes_in as lanes_of}
use Rattle.account.proofs.States.{lanes_length}
use Rattle.account.proofs.Goings.{stands_passed, passed_place, still}
use Rattle.account.proofs.Quiet.{not_yet, one_more, quiet_step, passed_quiet, nothing_later, brought_end}
use Rattle.account.proofs.going.Going.bring.Goals as goal

pub loop-lane-init : goal.loop-lane-init
loop-lane-init c = record { stands = c.requires.stands; phase = c.requires.phase; lanes = refl; quiet = not_yet _ _; still = refl }

pub loop-lane-preserved : goal.loop-lane-preserved
loop-lane-preserved c =
    let script = c.args.script.now in
    let tick = c.args.tick in
    let n = c.loop-lane.lane in
    let k = c.loop-lane.letter in
    let g : Going = c.loop-lane.self in
    let h : Going = record { lanes = g.lanes; letters = g.letters; phase = phases.Bringing (n + 1) 0; begun = g.begun } in
    let here : n < length (lanes_of g.lanes.items) = omega (arith, lanes_length g.lanes.items, c.args.self.now.lanes.ok.0, ap (λ v. length v.items) c.loop-lane.invariant.lanes) in
    let all : length g.letters.items ≤ k = omega (arith, g.letters.ok.0) in
    let phase = c.loop-lane.invariant.phase in
    let goes = passed_place script tick n k g h phase here all refl refl refl in
    record {
      stands = stands_passed script tick n k g h c.requires.few c.requires.tick c.loop-lane.invariant.stands phase here all refl refl refl;
      phase = refl;
      lanes = c.loop-lane.invariant.lanes;
      quiet = one_more script _ _ _ c.loop-lane.invariant.quiet (quiet_step script tick (place_of g) (place_of h) (passed_quiet script tick n k g phase all) goes);
      still = still g h refl ∙ c.loop-lane.invariant.still;
    }

pub returns-then-letter-len-clause-moment : goal.returns-then-letter-len-clause-moment
returns-then-letter-len-clause-moment c = record {
  place = place_of c.loop-lane.self;
  quiet = c.loop-lane.invariant.quiet;
  lanes = c.loop-lane.invariant.still;
  is = c.in_ok-receive.ensures.moment;
}

pub returns-clause-passed : goal.returns-clause-passed
returns-clause-passed c _ =
    let g : Going = c.loop-lane.self in
    let all : length (lanes_of g.lanes.items) ≤ c.loop-lane.lane = omega (arith, lanes_length g.lanes.items, c.args.self.now.lanes.ok.0, ap (λ v. length v.items) c.loop-lane.invariant.lanes) in
    nothing_later c.args.script.now c.args.tick (place_of c.args.self.now) (place_of g) (place_of g) c.loop-lane.invariant.quiet c.loop-lane.invariant.still
    (brought_end c.args.script.now c.args.tick c.loop-lane.lane c.loop-lane.letter g c.loop-lane.invariant.phase all)
