use Rattle.std.proofs.Common.{rules, ◌≡◌, ◌+◌, ◌++◌, [], ◌∷◌, List, Some, map, sym, ap, ◌∙◌, refl, subst, arith}
use Rattle.std.proofs.lemmas.List.{map_push}
use Rattle.std.proofs.lemmas.List.FromFn.{map-range_with_len_more}
use Rattle.std.specs.List.{range_with_len, AllByRecursion}
use Rattle.lane_turn.specs.Lane.{State}
use Rattle.lane_turn.specs.Turn.{opening}
use Rattle.tick_stepper.specs.declared.rest.Resting.{Resting}
use Rattle.tick_stepper.specs.Share.{unspent, unspent_all}
use Rattle.tick_stepper.proofs.Deals.{all_append}
use Rattle.tick_stepper.proofs.open.open_lanes.Goals as goal

pub loop-number-preserved : goal.loop-number-preserved
loop-number-preserved c =
    let made = opening c.args.script.now in
    let n = c.loop-number.number in
    let one : Resting = record { lane = c.in_ok-lane.lane; next = Some 0 } in
    let more : unspent_all (map made (range_with_len 0 (n + 1))) ≡ unspent_all (map made (range_with_len 0 n)) ++ unspent (made n) ∷ [] =
    ap unspent_all (map-range_with_len_more made 0 n n (omega arith)) ∙ map_push unspent (map made (range_with_len 0 n)) (made n) in
    let pushed : c.push.new.self.items ≡ c.loop-number.lanes.items ++ one ∷ [] = search rules in
    record {
      lanes = ap (map (λ (o : Resting). o.lane)) pushed ∙ (map_push (λ (o : Resting). o.lane) c.loop-number.lanes.items one
          ∙ (ap (λ (ls : List State). ls ++ one.lane ∷ []) c.loop-number.invariant.lanes ∙ (ap (λ (k : State). unspent_all (map made (range_with_len 0 n)) ++ k ∷ []) c.in_ok-lane.ensures.opening ∙ sym more)));
      due = subst (AllByRecursion (λ (o : Resting). o.next ≡ Some 0)) (sym pushed) (all_append (λ (o : Resting). o.next ≡ Some 0) c.loop-number.lanes.items (one ∷ []) c.loop-number.invariant.due (refl, tt));
    }
