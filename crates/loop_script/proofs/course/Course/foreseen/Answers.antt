use Rattle.std.proofs.lemmas.List.Sorted.{IsNonDecreasingBy-from_sort}
use Rattle.std.proofs.Common.{None, ◌∙◌, ◌++◌, List, ap, subst, ℕ}
use Rattle.std.specs.List.Sorted.{IsPermutation}
use Rattle.loop_script.specs.Course.{checks_of}
use Rattle.loop_script.proofs.course.Course.foreseen.Goals as goal

pub returns : goal.returns
returns c = record {
  some = c.requires.some;
  short = c.requires.short;
  checks = subst (λ (ts : List ℕ). IsPermutation ts c.sort_unstable.new.self.items) (c.in_ok-end.ensures.checks ∙ ap (λ (ts : List ℕ). ts ++ checks_of c.args.tick_us c.args.tree.now 0 None) c.new-checks.ensures.items) c.sort_unstable.ensures.permutation;
  rising = IsNonDecreasingBy-from_sort (λ x. x) _ c.sort_unstable.ensures.sorted;
  end = c.in_ok-end.ensures.end;
  cancelled = c.in_ok-cancelled.ensures.end;
}
