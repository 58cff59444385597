use Rattle.std.proofs.Common.{◌≡◌, ◌∷◌, length, map, ap, arith}
use Rattle.script_check.specs.Views.{key_of}
use Rattle.script_check.proofs.Sizes.{Entry, other_step}
use Rattle.script_check.proofs.own.push_other_keys.Goals as goal

pub loop-name-preserved : goal.loop-name-preserved
loop-name-preserved c =
    let e : Entry = (c.in-Some.name.now, c.in-Some._value.now) in
    let step : c.loop-name.name-iterator ≡ e ∷ c.next.new.self = c.in-Some.ensures.steps in
    let shorter = ap length step in
    record {
      found = other_step (map key_of c.args.keys.now) c.loop-name.n c.loop-name.name-iterator c.next.new.self e c.loop-name.causes.items c.push_where.new.causes.items _ c.as_str.result.now c.is_key.result step c.as_str.ensures.value c.is_key.ensures c.in_ok-push_where.ensures c.loop-name.invariant.found;
      counted = omega (arith, shorter);
    }
