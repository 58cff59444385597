-- what was found, and what is left
use Rattle.std.proofs.Common.{◌≡◌, ◌++◌, drop, map}
use Rattle.serde_json.specs.View.{view}
use Rattle.script_check.specs.Own.{no_keys}
use Rattle.script_check.specs.Views.{key_of}
use Rattle.script_check.proofs.own.push_no_keys.Given as goal

abbrev pub invariant-loop-n : goal.invariant-loop-n
invariant-loop-n l =
    l.causes.items ++ no_keys l.n (map key_of (drop l.n l.keys)) (view l.value) ≡ l.initial.causes.items ++ no_keys 0 (map key_of l.keys) (view l.value)
