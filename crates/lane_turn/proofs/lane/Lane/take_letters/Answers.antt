use Rattle.std.proofs.Common.{List, ◌+◌, ◌^◌, ◌<◌, ap, sym, ◌∙◌, drop, length, arith}
use Rattle.std.proofs.lemmas.List.{at_drop_more}
use Rattle.post_office.specs.declared.letter.Letter.{Letter}
use Rattle.lane_turn.specs.Deliver.{received_all}
use Rattle.lane_turn.specs.Meaning.{lane_of}
use Rattle.lane_turn.proofs.Delivered.{ready_next}
use Rattle.lane_turn.proofs.lane.Lane.take_letters.Goals as goal

pub letters-preserved : goal.letters-preserved
letters-preserved c =
    let script = c.args.script.now in
    let tick = c.args.tick in
    let letters = c.args.letters.now in
    let i = c.letters.letter-index in
    let lane = lane_of c.letters.self in
    let below : i < length letters = omega arith in
    record {
      same = ap (received_all script tick (drop (i + 1) letters)) c.in_ok-receive.ensures
          ∙ (sym (at_drop_more (λ (l : List Letter). received_all script tick l lane) letters i _ below) ∙ c.letters.invariant.same);
      ready = ready_next script tick (tick + 1) (2 ^ 61) i _ _ lane _ c.in_ok-receive.ensures c.letters.invariant.ready;
    }
