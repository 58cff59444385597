-- what was added, and what is left
use Rattle.std.proofs.Common.{◌≡◌, drop}
use Rattle.json.specs.Value.{members_view}
use Rattle.named.specs.Names.{all_added, said_by}
use Rattle.named.specs.Views.{texts}
use Rattle.named.proofs.names.add_said_by_each.Given as goal

abbrev pub invariant-loop-member : goal.invariant-loop-member
invariant-loop-member l = all_added l.limit (texts l.names.items) (said_by l.words l.key (members_view (drop l.member-index l.members))) ≡ all_added l.limit (texts l.initial.names.items) (said_by l.words l.key (members_view l.members))
