use Rattle.std.proofs.Common.{◌≡◌, ◌≤◌, ◌++◌, length, vec_capacity}
use Rattle.crossbeam_queue.specs.SegTies.{IsSegPassOf}
use Rattle.post_office.specs.Merge.{concat}
use Rattle.post_office.specs.LetterQueue.{keeper}
use Rattle.post_office.proofs.office.pop_all.Given as goal

abbrev pub invariant-loop : goal.invariant-loop
invariant-loop g l =
    let v = l.fn.own.me.view.client in
    (goal.iterator-loop g).can_next l.iterator' × (goal.iterator-loop g).is_finite l.iterator'
    × IsSegPassOf l.queue l.own × (l.own.me.view.client ≡ keeper v.recorded (v.drained ++ l.letters.items) 0) × (length (concat v.recorded) ≤ vec_capacity l.letters)
