-- The replies that sources hold until they are dispatched.
use Rattle.std.specs.Prelude.{Option, List, [], slice_set, slice_index_or}
use Rattle.std.specs.Ordering.{nat_cmp}
use Rattle.std.specs.Map.{lookup, remove_entry}
use Rattle.std.specs.BTreeMap.{is_at, insert_entry}
use Rattle.lane_turn.specs.declared.replies.Awaited.{Awaited}
use Rattle.loop_script.specs.Units.{ContextNumber, SourceId}

-- a map from the id of a source of one context to the reply that it holds
abbrev pub Replies : Type 0
Replies = List (SourceId × Awaited)

-- the reply that a source of one context holds
abbrev pub held_under : SourceId → Replies → Option Awaited
held_under id held = lookup (is_at (nat_cmp id)) held

-- a source of one context holds a reply
abbrev pub held_with : SourceId → Awaited → Replies → Replies
held_with id awaited held = insert_entry nat_cmp held id awaited

-- a source of one context holds none
abbrev pub held_without : SourceId → Replies → Replies
held_without id held = remove_entry (is_at (nat_cmp id)) held

-- of the replies by context, those of one
abbrev pub replies_at : ContextNumber → List Replies → Replies
replies_at context all = slice_index_or all context []

-- the reply that a source holds
abbrev pub reply_held : ContextNumber → SourceId → List Replies → Option Awaited
reply_held context id all = held_under id (replies_at context all)

-- a source holds a reply
abbrev pub with_reply : ContextNumber → SourceId → Awaited → List Replies → List Replies
with_reply context id awaited all = slice_set all context (held_with id awaited (replies_at context all))

-- a source holds none
abbrev pub without_reply : ContextNumber → SourceId → List Replies → List Replies
without_reply context id all = slice_set all context (held_without id (replies_at context all))
