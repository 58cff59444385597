use Rattle.std.proofs.Common.{◌≡◌, ◌+◌, ◌<◌, List, [], sym, ◌∙◌, ap, drop, length, arith}
use Rattle.std.proofs.lemmas.List.{at_drop_more, drop_all}
use Rattle.post_office.specs.declared.letter.Letter.{Letter}
use Rattle.lane_turn.specs.Handover.{handed_over}
use Rattle.tick_stepper.specs.Share.{unspent_all, lanes_in}
use Rattle.tick_stepper.proofs.Lined.{next_lined, rest_over, none_left}
use Rattle.tick_stepper.proofs.hand.hand_all.Goals as goal

pub letters-preserved : goal.letters-preserved
letters-preserved c =
    let tick = c.args.tick in
    let letters = c.args.letters.now in
    let i = c.letters.letter-index in
    let below : i < length letters = omega arith in
    record {
      same = rest_over tick _ (drop (i + 1) letters) c.letters.lanes _ c.in_ok-hand_by.ensures
          ∙ (sym (at_drop_more (λ (l : List Letter). handed_over tick l (lanes_in c.letters.lanes)) letters i _ below) ∙ c.letters.invariant.same);
      lined = next_lined tick _ c.letters.lanes _ c.letters.invariant.lined c.in_ok-hand_by.ensures;
    }

pub returns : goal.returns
returns c =
    let tick = c.args.tick in
    let letters = c.args.letters.now in
    let none : drop c.letters.letter-index letters ≡ [] = drop_all c.letters.letter-index letters (omega arith) in
    c.letters.invariant.lined.unspent
    ∙ ap unspent_all (sym (none_left tick (lanes_in c.letters.lanes)) ∙ (ap (λ (l : List Letter). handed_over tick l (lanes_in c.letters.lanes)) (sym none) ∙ c.letters.invariant.same))
