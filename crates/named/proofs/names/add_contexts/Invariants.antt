-- what was added, and what is left
use Rattle.std.proofs.Common.{◌≡◌, drop}
use Rattle.json.specs.Value.{members_view}
use Rattle.named.specs.Names.{all_added, contexts_of, most}
use Rattle.named.specs.declared.sort.Kind.TheVariants as kinds
use Rattle.named.specs.Views.{texts}
use Rattle.named.proofs.names.add_contexts.Given as goal

abbrev pub invariant-loop-thread : goal.invariant-loop-thread
invariant-loop-thread l = all_added (most kinds.Context) (texts l.names.items) (contexts_of (members_view (drop l.thread-index l.threads))) ≡ all_added (most kinds.Context) (texts l.initial.names.items) (contexts_of (members_view l.threads))
