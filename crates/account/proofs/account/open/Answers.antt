use Rattle.std.proofs.Common.{rules, ◌≡◌, ℕ, length, ◌+◌, ◌++◌, [], ◌∷◌, List, map, sym, ap, ◌∙◌, arith}
use Rattle.std.proofs.lemmas.List.{map_push}
use Rattle.std.proofs.lemmas.List.FromFn.{map-range_with_len_more}
use Rattle.std.specs.List.{range_with_len}
use Rattle.loop_script.specs.declared.plan.Plan.{Plan}
use Rattle.lane_turn.specs.Lane.{State}
use Rattle.lane_turn.specs.Turn.{opening}
use Rattle.lane_turn.specs.Tick.{opened}
use Rattle.tick_stepper.specs.Share.{unspent, lanes_in as lanes_of}
use Rattle.tick_stepper.proofs.Lined.{lanes_unspent}
use Rattle.account.proofs.account.open.Goals as goal

-- when the loop is over, there are all lanes
ended : (script : Plan) (n : ℕ) (states : List State) → states ≡ map unspent (map (opening script) (range_with_len 0 n)) → n ≡ length script.lanes → states ≡ map unspent (opened script)
ended script n states e k = e ∙ ap (λ (m : ℕ). map unspent (map (opening script) (range_with_len 0 m))) k

pub loop-number-preserved : goal.loop-number-preserved
loop-number-preserved c =
    let made = opening c.args.script.now in
    let n = c.loop-number.number in
    let more : map unspent (map made (range_with_len 0 (n + 1))) ≡ map unspent (map made (range_with_len 0 n)) ++ unspent (made n) ∷ [] =
    ap (map unspent) (map-range_with_len_more made 0 n n (omega arith)) ∙ map_push unspent (map made (range_with_len 0 n)) (made n) in
    let pushed : c.push.new.self.items ≡ c.loop-number.lanes.items ++ c.in_ok-lane.lane ∷ [] = search rules in
    pushed ∙ (ap (λ (ss : List State). ss ++ c.in_ok-lane.lane ∷ []) c.loop-number.invariant ∙ (ap (λ (s : State). map unspent (map made (range_with_len 0 n)) ++ s ∷ []) c.in_ok-lane.ensures.opening ∙ sym more))

pub returns-clause-lanes : goal.returns-clause-lanes
returns-clause-lanes c =
    let all = ended c.args.script.now c.loop-number.number c.loop-number.lanes.items c.loop-number.invariant (omega (arith, c.lanes-number-end.ensures.lanes)) in
    ap lanes_of all ∙ lanes_unspent (opened c.args.script.now)

pub returns-clause-unspent : goal.returns-clause-unspent
returns-clause-unspent c =
    let all = ended c.args.script.now c.loop-number.number c.loop-number.lanes.items c.loop-number.invariant (omega (arith, c.lanes-number-end.ensures.lanes)) in
    all ∙ ap (map unspent) (sym (ap lanes_of all ∙ lanes_unspent (opened c.args.script.now)))
