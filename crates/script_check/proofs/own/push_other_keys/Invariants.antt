-- what was found, and what is left
use Rattle.std.proofs.Common.{◌≡◌, ◌++◌, ◌+◌, length, map}
use Rattle.serde_json.specs.View.{members_view}
use Rattle.script_check.specs.Own.{other_keys}
use Rattle.script_check.specs.Views.{key_of}
use Rattle.script_check.proofs.own.push_other_keys.Given as goal

abbrev pub invariant-loop-name : goal.invariant-loop-name
invariant-loop-name l = record {
  found : l.causes.items ++ other_keys (map key_of l.keys) l.n (members_view l.name-iterator) ≡ l.initial.causes.items ++ other_keys (map key_of l.keys) 0 (members_view l.members.entries);
  counted : l.n + length l.name-iterator ≡ length l.members.entries;
}
