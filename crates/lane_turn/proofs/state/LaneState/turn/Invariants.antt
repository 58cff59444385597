use Rattle.std.proofs.Common.{◌≡◌, ◌≢◌, ◌+◌, ◌^◌, false}
use Rattle.lane_turn.specs.declared.lane.Status.TheVariants.{GoesOn}
use Rattle.lane_turn.specs.Meaning.{turn_at, IsTurnOf}
use Rattle.lane_turn.specs.Turn.{finished, begun_with, work}
use Rattle.lane_turn.specs.Sound.{IsGoing}
use Rattle.lane_turn.proofs.state.LaneState.turn.Given as goal

abbrev pub invariant-steps : goal.invariant-steps
invariant-steps g l = record {
  unspent : l.self.spent ≡ false;
  before : l.fn.self.spent ≡ false;
  own : IsTurnOf l.self.lane l.turn;
  same : finished l.script l.tick (turn_at l.self.lane l.turn (g.P.Post.letters l.post)) ≡ finished l.script l.tick (begun_with l.tick (g.P.Post.letters l.fn.post) l.fn.self.lane);
  going : IsGoing l.script l.tick (2 ^ 61 + 20001) (turn_at l.self.lane l.turn (g.P.Post.letters l.post));
  home : g.P.Post.home l.post ≡ g.P.Post.home l.fn.post;
  rests : l.fn.self.lane.status ≢ GoesOn → l.self.lane.status ≢ GoesOn;
}

abbrev pub decreases-steps : goal.decreases-steps
decreases-steps g l = work (turn_at l.self.lane l.turn (g.P.Post.letters l.post))
