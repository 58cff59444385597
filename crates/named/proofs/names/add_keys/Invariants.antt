-- what was added, and what is left
use Rattle.std.proofs.Common.{◌≡◌, drop}
use Rattle.json.specs.Value.{members_view}
use Rattle.named.specs.Names.{all_added, keys_of}
use Rattle.named.specs.Views.{texts}
use Rattle.named.proofs.names.add_keys.Given as goal

abbrev pub invariant-loop-member : goal.invariant-loop-member
invariant-loop-member l = all_added l.limit (texts l.names.items) (keys_of (members_view (drop l.member-index l.members))) ≡ all_added l.limit (texts l.initial.names.items) (keys_of (members_view l.members))
