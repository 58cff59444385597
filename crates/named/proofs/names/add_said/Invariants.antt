-- what was added, and what is left
use Rattle.std.proofs.Common.{◌≡◌, drop}
use Rattle.json.specs.Value.{value_view}
use Rattle.named.specs.Names.{all_added, said}
use Rattle.named.specs.Views.{texts}
use Rattle.named.proofs.names.add_said.Given as goal

abbrev pub invariant-loop-word : goal.invariant-loop-word
invariant-loop-word l = all_added l.limit (texts l.names.items) (said (drop l.word-index l.words) (value_view l.action)) ≡ all_added l.limit (texts l.initial.names.items) (said l.words (value_view l.action))
