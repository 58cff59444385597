use Rattle.std.proofs.Common.{◌<◌, ◌^◌, sym, subst, length, string_bytes}
use Rattle.inspect_text.proofs.Gathering.{next_number, next_thread}
use Rattle.inspect_text.proofs.run_text.RunText.end.Goals as goal

pub loop-text-preserved : goal.loop-text-preserved
loop-text-preserved c =
    let few : length c.as_slice-text-items.result.now < 2 ^ 32 = subst (λ xs. length xs < 2 ^ 32) (sym c.as_slice-text-items.ensures.value) c.self.invariant in (
      next_number c.loop-text.number c.loop-text.text-index (length c.as_slice-text-items.result.now) c.saturating_add-number.result c.saturating_add-number.ensures c.loop-text.invariant.0 c.loop-text-test.true few,
      next_thread c.args.names.now c.as_slice-text-items.result.now c.loop-text.number c.loop-text.text-index c.text-item.result c.as_str.result.now _ (string_bytes c.loop-text.out) (string_bytes c.push_thread.new.out) c.loop-text-test.true c.text-item.is c.loop-text.invariant.0 c.as_str.ensures.value c.loop-text.invariant.1 c.in_ok-push_thread.ensures,
    )
