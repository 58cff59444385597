use Rattle.std.proofs.Common.{rules, ◌≤◌, [], ◌+◌, ◌∙◌, length, refl, take, arith}
use Rattle.std.specs.List.{flat_map}
use Rattle.mainctx.specs.Text.{part_of, lane_text, text_of}
use Rattle.mainctx.proofs.Prefixes.{prefix_whole, passes_nothing, passes_then}
use Rattle.mainctx.proofs.Parts.{prefix_part, prefix_waits, parts_more, text_passed}
use Rattle.mainctx.proofs.Alike.{alike_kept, alike_none, alike_then}
use Rattle.mainctx.proofs.ended.Ended.write.Goals as goal

pub loop-number-init : goal.loop-number-init
loop-number-init g c = record {
  passes = passes_nothing (g.W.Out.taken c.args.out.now) c.args.buffer.now c.requires;
  clean = refl;
  alike = alike_none (g.W.Out.taken c.args.out.now) (g.W.Out.contents c.args.out.now);
}

pub loop-number-preserved : goal.loop-number-preserved
loop-number-preserved g c =
    let stepper = c.self.inside.stepper in
    let n = c.loop-number.number in
    let more = parts_more stepper.script stepper.script.ticks n stepper.lanes c.in-Ok.lines.now c.self.invariant.over c.in-Ok.ensures.trace in
    record {
      passes = passes_then (g.W.Out.taken c.args.out.now) (g.W.Out.taken c.loop-number.out) (g.W.Out.taken c.add_part.new.out) [] c.loop-number.buffer c.add_part.new.buffer
          (flat_map part_of (take n stepper.lanes)) (lane_text n c.in-Ok.lines.now) (flat_map part_of (take (n + 1) stepper.lanes)) c.loop-number.invariant.passes c.in_ok-add_part.ensures.passes more;
      clean = c.in_ok-add_part.ensures.clean ∙ c.loop-number.invariant.clean;
      alike = alike_then (g.W.Out.taken c.args.out.now) (g.W.Out.taken c.loop-number.out) (g.W.Out.taken c.add_part.new.out) (g.W.Out.contents c.args.out.now) (g.W.Out.contents c.loop-number.out) (g.W.Out.contents c.add_part.new.out) c.loop-number.invariant.alike c.add_part.ensures.known;
    }

pub returns-in_err-add_part-clause-prefix : goal.returns-in_err-add_part-clause-prefix
returns-in_err-add_part-clause-prefix g c =
    let stepper = c.self.inside.stepper in
    let n = c.loop-number.number in
    let more = parts_more stepper.script stepper.script.ticks n stepper.lanes c.in-Ok.lines.now c.self.invariant.over c.in-Ok.ensures.trace in
    let prefix = prefix_part (g.W.Out.taken c.args.out.now) (g.W.Out.taken c.loop-number.out) (g.W.Out.taken c.add_part.new.out) c.loop-number.buffer stepper.script n stepper.lanes c.in-Ok.lines.now c.self.invariant.over c.loop-number.invariant.passes more c.in_err-add_part.ensures.prefix in
    search (rules, prefix)

pub returns-in_err-add_part-clause-known : goal.returns-in_err-add_part-clause-known
returns-in_err-add_part-clause-known g c =
    alike_then (g.W.Out.taken c.args.out.now) (g.W.Out.taken c.loop-number.out) (g.W.Out.taken c.add_part.new.out) (g.W.Out.contents c.args.out.now) (g.W.Out.contents c.loop-number.out) (g.W.Out.contents c.add_part.new.out) c.loop-number.invariant.alike c.add_part.ensures.known

pub returns-in_err-hand_on-clause-prefix : goal.returns-in_err-hand_on-clause-prefix
returns-in_err-hand_on-clause-prefix g c =
    let stepper = c.self.inside.stepper in
    let few : length stepper.script.lanes ≤ c.loop-number.number = omega (arith, c.self.invariant.count, c.loop-number-test.false) in
    let prefix = prefix_waits (g.W.Out.taken c.args.out.now) (g.W.Out.taken c.loop-number.out) (g.W.Out.taken c.hand_on.new.out) c.loop-number.buffer stepper.script c.loop-number.number stepper.lanes c.self.invariant.over few c.loop-number.invariant.passes c.in_err-hand_on.ensures.prefix in
    search (rules, prefix)

pub returns-in_err-hand_on-clause-known : goal.returns-in_err-hand_on-clause-known
returns-in_err-hand_on-clause-known g c =
    alike_then (g.W.Out.taken c.args.out.now) (g.W.Out.taken c.loop-number.out) (g.W.Out.taken c.hand_on.new.out) (g.W.Out.contents c.args.out.now) (g.W.Out.contents c.loop-number.out) (g.W.Out.contents c.hand_on.new.out) c.loop-number.invariant.alike c.hand_on.ensures.known

pub returns-clause-whole : goal.returns-clause-whole
returns-clause-whole g c =
    let stepper = c.self.inside.stepper in
    let few : length stepper.script.lanes ≤ c.loop-number.number = omega (arith, c.self.invariant.count, c.loop-number-test.false) in
    let whole = text_passed (g.W.Out.taken c.args.out.now) (g.W.Out.taken c.loop-number.out) (g.W.Out.taken c.hand_on.new.out) c.loop-number.buffer stepper.script c.loop-number.number stepper.lanes c.self.invariant.over few c.loop-number.invariant.passes c.in_ok-hand_on.ensures.whole in
    search (rules, whole)

pub returns-clause-prefix : goal.returns-clause-prefix
returns-clause-prefix g c =
    let stepper = c.self.inside.stepper in
    let few : length stepper.script.lanes ≤ c.loop-number.number = omega (arith, c.self.invariant.count, c.loop-number-test.false) in
    let whole = text_passed (g.W.Out.taken c.args.out.now) (g.W.Out.taken c.loop-number.out) (g.W.Out.taken c.hand_on.new.out) c.loop-number.buffer stepper.script c.loop-number.number stepper.lanes c.self.invariant.over few c.loop-number.invariant.passes c.in_ok-hand_on.ensures.whole in
    let prefix = prefix_whole (g.W.Out.taken c.args.out.now) (g.W.Out.taken c.flush.new.self) (text_of stepper.script) (c.flush.ensures.taken ∙ whole) in
    search (rules, prefix)

pub returns-clause-known : goal.returns-clause-known
returns-clause-known g c =
    let handed = alike_then (g.W.Out.taken c.args.out.now) (g.W.Out.taken c.loop-number.out) (g.W.Out.taken c.hand_on.new.out) (g.W.Out.contents c.args.out.now) (g.W.Out.contents c.loop-number.out) (g.W.Out.contents c.hand_on.new.out) c.loop-number.invariant.alike c.hand_on.ensures.known in
    alike_kept (g.W.Out.taken c.args.out.now) (g.W.Out.taken c.hand_on.new.out) (g.W.Out.taken c.flush.new.self) (g.W.Out.contents c.args.out.now) (g.W.Out.contents c.hand_on.new.out) (g.W.Out.contents c.flush.new.self) handed c.flush.ensures.taken c.flush.ensures.known
