use Rattle.std.proofs.Common.{◌+◌, ◌≤◌, length, ap, subst, ◌∙◌, refl, arith}
use Rattle.std.specs.Prelude.{Ok, IfSome}
use Rattle.loop_script.specs.declared.plan.Plan.{Plan}
use Rattle.account.specs.declared.going.Going.{Going}
use Rattle.account.specs.declared.going.Phase.TheVariants as phases
use Rattle.account.specs.Standing.{place_of}
use Rattle.account.specs.Told.{IsMoment}
use Rattle.account.proofs.Goings.{lined_at, stands_given, stands_gone, gone_place, still}
use Rattle.account.proofs.Quiet.{not_yet, one_more, quiet_step, gone_quiet, tells_later, nothing_later, ok_some_weaker}
use Rattle.account.proofs.going.Going.give.Goals as goal

pub loop-place-init : goal.loop-place-init
loop-place-init c = record { stands = c.requires.stands; phase = c.requires.phase; letters = refl; quiet = not_yet _ _; still = refl }

pub hand-requires-clause-lined : goal.hand-requires-clause-lined
hand-requires-clause-lined c = lined_at c.args.script.now c.args.tick c.loop-place.place c.loop-place.self c.loop-place.invariant.stands c.loop-place.invariant.phase

pub returns-in-Some-clause-stands : goal.returns-in-Some-clause-stands
returns-in-Some-clause-stands c =
    let went = c.in_ok-moment.ensures in
    stands_given c.args.script.now c.args.tick (c.loop-place.place + 1) c.loop-place.self c.hand.new.self c.requires.few c.requires.tick c.loop-place.invariant.stands (went.moved c.args.script.now) went.unspent went.count went.phase

pub returns-in-Some-clause-moment : goal.returns-in-Some-clause-moment
returns-in-Some-clause-moment c =
    let g : Going = c.loop-place.self in
    record {
      place = place_of g;
      quiet = c.loop-place.invariant.quiet;
      lanes = c.loop-place.invariant.still;
      is = subst (λ o. IfSome o (λ m. (script : Plan) → IsMoment script c.args.tick (place_of g) (place_of c.hand.new.self) m)) c.in-Some.is c.in_ok-moment.ensures.moment c.args.script.now;
    }

pub loop-place-preserved : goal.loop-place-preserved
loop-place-preserved c =
    let script = c.args.script.now in
    let tick = c.args.tick in
    let g : Going = c.loop-place.self in
    let h : Going = c.hand.new.self in
    let went = c.in_ok-moment.ensures in
    let none = ap (λ o. Ok o) c.in_default.is in
    record {
      stands = stands_given script tick (c.loop-place.place + 1) g h c.requires.few c.requires.tick c.loop-place.invariant.stands (went.moved script) went.unspent went.count went.phase;
      phase = went.phase;
      letters = went.letters ∙ c.loop-place.invariant.letters;
      quiet = one_more script _ _ _ c.loop-place.invariant.quiet (quiet_step script tick (place_of g) (place_of h) (went.quiet none script) (went.moved script));
      still = still g h (went.still none) ∙ c.loop-place.invariant.still;
    }

pub bring-requires-clause-stands : goal.bring-requires-clause-stands
bring-requires-clause-stands c =
    let all : length c.loop-place.self.letters.items ≤ c.loop-place.place = omega (arith, c.args.self.now.letters.ok.0, ap (λ v. length v.items) c.loop-place.invariant.letters) in
    stands_gone c.args.script.now c.args.tick c.loop-place.place c.loop-place.self _ c.requires.few c.requires.tick c.loop-place.invariant.stands c.loop-place.invariant.phase all refl refl refl

pub returns-clause-moment : goal.returns-clause-moment
returns-clause-moment c =
    let script = c.args.script.now in
    let tick = c.args.tick in
    let k = c.loop-place.place in
    let g : Going = c.loop-place.self in
    let h : Going = record { lanes = g.lanes; letters = g.letters; phase = phases.Bringing 0 0; begun = g.begun } in
    let all : length g.letters.items ≤ k = omega (arith, c.args.self.now.letters.ok.0, ap (λ v. length v.items) c.loop-place.invariant.letters) in
    let phase = c.loop-place.invariant.phase in
    let quiet = one_more script _ _ _ c.loop-place.invariant.quiet (quiet_step script tick (place_of g) (place_of h) (gone_quiet script tick k g phase all) (gone_place script tick k g h phase all refl refl refl)) in
    ok_some_weaker c.bring.result (λ m t. tells_later script tick (place_of c.args.self.now) (place_of h) _ m quiet (still g h refl ∙ c.loop-place.invariant.still) t) c.bring.ensures.moment

pub returns-clause-passed : goal.returns-clause-passed
returns-clause-passed c e =
    let script = c.args.script.now in
    let tick = c.args.tick in
    let k = c.loop-place.place in
    let g : Going = c.loop-place.self in
    let h : Going = record { lanes = g.lanes; letters = g.letters; phase = phases.Bringing 0 0; begun = g.begun } in
    let all : length g.letters.items ≤ k = omega (arith, c.args.self.now.letters.ok.0, ap (λ v. length v.items) c.loop-place.invariant.letters) in
    let phase = c.loop-place.invariant.phase in
    let quiet = one_more script _ _ _ c.loop-place.invariant.quiet (quiet_step script tick (place_of g) (place_of h) (gone_quiet script tick k g phase all) (gone_place script tick k g h phase all refl refl refl)) in
    nothing_later script tick (place_of c.args.self.now) (place_of h) _ quiet (still g h refl ∙ c.loop-place.invariant.still) (c.bring.ensures.passed e)
