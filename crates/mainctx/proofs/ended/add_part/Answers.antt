use Rattle.std.proofs.lemmas.Grind.{common_steps}
use Rattle.std.proofs.Common.{rules, ◌≡◌, [], ◌+◌, ◌++◌, ◌∙◌, take, arith}
use Rattle.mainctx.specs.Text.{lane_text}
use Rattle.mainctx.proofs.Prefixes.{prefix_heading, prefix_line, line_more, passes_then}
use Rattle.mainctx.proofs.Alike.{alike_then}
use Rattle.mainctx.proofs.ended.add_part.Goals as goal

pub returns-in_err-add-clause-prefix : goal.returns-in_err-add-clause-prefix
returns-in_err-add-clause-prefix g c =
    let heading : c.bytes.result.now ≡ lane_text c.args.lane [] = search rules in
    let prefix = prefix_heading (g.W.Out.taken c.args.out.now) (g.W.Out.taken c.add.new.out) c.args.buffer.now c.bytes.result.now c.args.lane c.args.lines.now heading c.in_err-add.ensures.prefix in
    search (rules, prefix)

pub loop-line-preserved : goal.loop-line-preserved
loop-line-preserved g c =
    let i = c.loop-line.line-index in
    let more : lane_text c.args.lane (take (i + 1) c.args.lines.now) ≡ lane_text c.args.lane (take i c.args.lines.now) ++ c.bytes-in-loop-line.result.now = line_more c.args.lane i c.args.lines.now _ c.bytes-in-loop-line.result.now c.loop-line-test.true (c.bytes-in-loop-line.ensures.value ∙ c.print.ensures) in
    record {
      passes = passes_then (g.W.Out.taken c.args.out.now) (g.W.Out.taken c.loop-line.out) (g.W.Out.taken c.add-in-loop-line.new.out) c.args.buffer.now c.loop-line.buffer c.add-in-loop-line.new.self
          (lane_text c.args.lane (take i c.args.lines.now)) c.bytes-in-loop-line.result.now (lane_text c.args.lane (take (i + 1) c.args.lines.now)) c.loop-line.invariant.passes c.in_ok-add-2.ensures.passes more;
      clean = c.in_ok-add-2.ensures.clean ∙ c.loop-line.invariant.clean;
      alike = alike_then (g.W.Out.taken c.args.out.now) (g.W.Out.taken c.loop-line.out) (g.W.Out.taken c.add-in-loop-line.new.out) (g.W.Out.contents c.args.out.now) (g.W.Out.contents c.loop-line.out) (g.W.Out.contents c.add-in-loop-line.new.out) c.loop-line.invariant.alike c.add-in-loop-line.ensures.known;
    }

pub returns-in_err-add-2-clause-prefix : goal.returns-in_err-add-2-clause-prefix
returns-in_err-add-2-clause-prefix g c =
    let i = c.loop-line.line-index in
    let more : lane_text c.args.lane (take (i + 1) c.args.lines.now) ≡ lane_text c.args.lane (take i c.args.lines.now) ++ c.bytes-in-loop-line.result.now = line_more c.args.lane i c.args.lines.now _ c.bytes-in-loop-line.result.now c.loop-line-test.true (c.bytes-in-loop-line.ensures.value ∙ c.print.ensures) in
    let prefix = prefix_line (g.W.Out.taken c.args.out.now) (g.W.Out.taken c.loop-line.out) (g.W.Out.taken c.add-in-loop-line.new.out) c.args.buffer.now c.loop-line.buffer c.bytes-in-loop-line.result.now c.args.lane i c.args.lines.now c.loop-line.invariant.passes more c.in_err-add-2.ensures.prefix in
    search (rules, prefix)

pub returns-in_err-add-2-clause-known : goal.returns-in_err-add-2-clause-known
returns-in_err-add-2-clause-known g c = grind (arith, common_steps)

pub returns-clause-passes : goal.returns-clause-passes
returns-clause-passes g c = grind (arith, common_steps)
