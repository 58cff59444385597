use Rattle.std.proofs.Common.{◌≡◌, ◌+◌, ◌++◌, drop, length}
use Rattle.lane_turn.specs.Polls.{letters_of}
use Rattle.lane_turn.proofs.step.Progress.send_replies.Given as goal

abbrev pub invariant-replies : goal.invariant-replies
invariant-replies g l = record {
  sent : l.self.sent + length (drop l.reply-index l.replies) ≡ l.fn.self.sent + length l.replies;
  left : l.self.left ≡ l.fn.self.left;
  iterated : l.self.iterated ≡ l.fn.self.iterated;
  letters : g.P.Post.letters l.post ++ letters_of l.tick l.sender l.self.sent (drop l.reply-index l.replies) ≡ g.P.Post.letters l.fn.post ++ letters_of l.tick l.sender l.fn.self.sent l.replies;
  home : g.P.Post.home l.post ≡ g.P.Post.home l.fn.post;
}
