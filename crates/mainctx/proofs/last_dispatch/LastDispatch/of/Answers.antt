use Rattle.std.proofs.Common.{◌++◌, arith, sym, ap, ◌∙◌, ℕ, List, to_z-of_z}
use Rattle.std.proofs.lemmas.Fmt.{length-decimal-le}
use Rattle.std.specs.Fmt.{decimal}
use Rattle.mainctx.specs.LastDispatch.{head_text, tail_text}
use Rattle.mainctx.proofs.Endings.{end_kept, line_is}
use Rattle.mainctx.proofs.last_dispatch.LastDispatch.of.Goals as goal

pub write_digits-number-requires : goal.write_digits-number-requires
write_digits-number-requires c = (omega (arith, length-decimal-le 20 c.args.source (omega arith) (omega arith) (omega arith)), omega arith)

pub put_head-start-requires : goal.put_head-start-requires
put_head-start-requires c = omega (arith, length-decimal-le 20 c.args.source (omega arith) (omega arith) (omega arith))

pub returns-clause-holds : goal.returns-clause-holds
returns-clause-holds c =
    let t = c.put_tail-tail in
    let n = c.write_digits-number in
    let h = c.put_head-start in
    let same = end_kept n.new.buf h.new.bytes (head_text c.args.tick c.args.context) h.result n.result h.ensures.written h.ensures.start in
    let text = same ∙ n.ensures.written in
    record {
      head = h.ensures.written ∙ ap (λ (l : List ℕ). head_text c.args.tick c.args.context ++ l) (sym same);
      start = h.ensures.start;
      tail = end_kept t.new.bytes h.new.bytes (decimal c.args.source) n.result t.result text n.ensures.start ∙ t.ensures.written;
      room = t.ensures.short;
      within = t.ensures.within;
      long = h.array_long;
    }

pub returns-clause-line : goal.returns-clause-line
returns-clause-line c =
    let t = c.put_tail-tail in
    let n = c.write_digits-number in
    let h = c.put_head-start in
    let back = to_z-of_z c.ranges.priority in
    h.ensures.written
    ∙ ap (λ (l : List ℕ). head_text c.args.tick c.args.context ++ l) (n.ensures.written ∙ ap (λ (l : List ℕ). decimal c.args.source ++ l) (t.ensures.written ∙ ap (λ z. tail_text z c.args.depth) back))
    ∙ line_is c.args.tick c.args.context c.args.source c.args.priority c.args.depth
