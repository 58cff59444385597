-- what was added, and what is left
use Rattle.std.proofs.Common.{◌≡◌, drop}
use Rattle.json.specs.Value.{items_view}
use Rattle.named.specs.Names.{all_added, said_in}
use Rattle.named.specs.Views.{texts}
use Rattle.named.proofs.names.add_said_in.Given as goal

abbrev pub invariant-loop-action : goal.invariant-loop-action
invariant-loop-action l = all_added l.limit (texts l.names.items) (said_in l.words (items_view (drop l.action-index l.actions))) ≡ all_added l.limit (texts l.initial.names.items) (said_in l.words (items_view l.actions))
