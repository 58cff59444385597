use Rattle.std.proofs.Common.{map}
use Rattle.lane_turn.specs.Turn.{turned}
use Rattle.lane_turn.specs.Handover.{handed_over}
use Rattle.lane_turn.specs.Tick.{posted_at, lanes_at}
use Rattle.lane_turn.proofs.Arrivals.{follow_each}
use Rattle.lane_turn.proofs.laws.letters_follow.Goals as goal

pub returns : goal.returns
returns c = record {
  run = λ script tick context h. let letters = posted_at script tick (lanes_at script tick) in follow_each script tick context letters (handed_over tick letters (map (turned script tick) (lanes_at script tick)));
}
