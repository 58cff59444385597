use Rattle.std.proofs.Common.{◌≡◌, ◌∙◌, ◌<◌, Option, Some, None, length, map, set, ap, arith, sym}
use Rattle.std.proofs.lemmas.List.{get_or-set_same, length-set, set-set}
use Rattle.task_steps.specs.declared.entry.Entry.{Entry}
use Rattle.task_steps.specs.declared.mark.Mark.{Mark}
use Rattle.task_steps.specs.BookInside.{mark_at}
use Rattle.task_steps.proofs.SideBySide.{known_set}
use Rattle.task_steps.proofs.leaf.Leaf.poll_at.Goals as goal

pub returns-then-branch-clause-known : goal.returns-then-branch-clause-known
returns-then-branch-clause-known c =
    let self = c.args.self.now in
    ap (λ (m : Mark). set self.marks.items c.args.at m) c.of_one.ensures ∙ known_set self.marks.items self.places.items c.args.at (Some c.poll_entry.new.entry) c.requires.known

pub returns-else-branch-clause-others : goal.returns-else-branch-clause-others
returns-else-branch-clause-others c =
    let places = c.args.self.now.places.items in
    let polled = set places c.args.at (Some c.poll_entry.new.entry) in
    let many : length polled ≡ length places = length-set places c.args.at (Some c.poll_entry.new.entry) in
    let lt : c.args.at < length polled = omega (arith, many, c.requires.there) in
    set-set places c.args.at (Some c.poll_entry.new.entry) None
    ∙ ap (λ (p : Option Entry). set places c.args.at p) (sym (get_or-set_same polled c.args.at None None lt))

pub returns-else-branch-clause-known : goal.returns-else-branch-clause-known
returns-else-branch-clause-known c =
    let self = c.args.self.now in
    ap (λ (m : Mark). set self.marks.items c.args.at m) c.of_none.ensures
    ∙ known_set self.marks.items self.places.items c.args.at None c.requires.known
    ∙ ap (map mark_at) (sym (set-set self.places.items c.args.at (Some c.poll_entry.new.entry) None))
