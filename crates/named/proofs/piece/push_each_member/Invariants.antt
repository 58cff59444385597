-- what was found, and what is left
use Rattle.std.proofs.Common.{◌≡◌, ◌++◌, drop, map}
use Rattle.json.specs.Value.{members_view}
use Rattle.named.specs.Pieces.{member_pieces}
use Rattle.named.specs.Views.{piece_view}
use Rattle.named.proofs.piece.push_each_member.Given as goal

abbrev pub invariant-loop-member : goal.invariant-loop-member
invariant-loop-member l = map piece_view l.found.items ++ member_pieces l.sort (members_view (drop l.member-index l.members)) ≡ map piece_view l.initial.found.items ++ member_pieces l.sort (members_view l.members)
