use Rattle.std.proofs.Common.{◌-◌, ◌<◌, List, Option, take, drop, arith, rules, length, subst, sym}
use Rattle.task_steps.specs.declared.entry.Entry.{Entry}
use Rattle.task_steps.specs.BookInside.{held, mark_of, IsQuiet}
use Rattle.task_steps.proofs.SideBySide.{as_many, is_next, quiet_more}
use Rattle.task_steps.proofs.leaf.Leaf.next_loud.Goals as goal

pub loop-at-preserved : goal.loop-at-preserved
loop-at-preserved c =
    let places = c.args.self.now.places.items in
    let lt : c.loop-at.at < length c.args.self.now.marks.items = search rules in
    let many = as_many c.args.self.now.marks.items places c.requires.known in
    let next = is_next c.args.self.now.marks.items places c.args.from c.loop-at.at c.index.result.now c.index.result.now c.requires.known c.loop-at.invariant.later lt c.index.ensures in
    let quiet = quiet_more c.args.round c.index.result.now (take (c.loop-at.at - c.args.from) (drop c.args.from places)) next.place c.loop-at.invariant.quiet (c.is_quiet.ensures.0 c.if-is_quiet.true) next.own in
    record {
      later = omega (arith, c.loop-at.invariant.later);
      there = omega (arith, many, lt);
      quiet = subst (λ (ps : List (Option Entry)). IsQuiet c.args.round (mark_of (held ps))) (sym next.more) quiet;
    }
