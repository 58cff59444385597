use Rattle.std.proofs.Common.{leb, ltb-false, rules, length, get_or, ℕ, ◌+◌, ◌≤◌, ◌<◌, ◌≡◌, min, None, List, subst, sym, arith}
use Rattle.std.specs.List.Sorted.{IsNonDecreasing}
use Rattle.std.proofs.lemmas.List.Sorted.{IsPartitionPoint-from_clause, IsPartitionedBy-leb}
use Rattle.task_steps.specs.declared.progress.Progress.TheVariants.{Waits}
use Rattle.task_steps.specs.Progress.{IsKnown, beyond, last_tick, told}
use Rattle.task_steps.proofs.Courses.{IsFree, IsPoint, course_sleeps, course_told, free_all, free_beyond, free_to, next_passed}
use Rattle.task_steps.proofs.ahead.progress_by.Goals as goal
use Rattle.task_steps.proofs.ahead.progress_by.Goals.{in_default-via-in-Some+else-check-course, in_default-via-in_default}

pub returns-in-Some : goal.returns-in-Some
returns-in-Some c = λ tree h.
    let course = c.args.course.now in
    let passed = c.from-passed.result in
    let next = c.partition_point-next.result in
    let rising = subst (λ (xs : List ℕ). IsNonDecreasing xs) (sym c.deref.ensures.value) h.rising in
    let point = IsPartitionPoint-from_clause (λ p. leb p passed) _ _ c.partition_point-next.ensures.partitioned (IsPartitionedBy-leb (λ x. x) _ passed rising) (λ a r q k. search rules) in
    let at : IsPoint course.checks.items passed next = subst (λ (xs : List ℕ). IsPoint xs passed next) c.deref.ensures.value point in
    let found = subst (λ (xs : List ℕ). (next < length xs) × ((d : ℕ) → c.in-Some.check.now ≡ get_or xs next d)) c.deref-2.ensures.value c.in-Some.ensures.lookup.3 in
    let le : c.in-Some.check.now ≤ course.end.tick = search rules in
    let free = free_to course.checks.items passed next c.in-Some.check.now h.rising at found.0 found.1 in
    let sum : c.args.begun + passed ≡ c.args.tick = omega (arith, c.from-passed.ensures, c.requires) in
    let known = course_sleeps tree course c.args.begun passed c.in-Some.check.now h (omega (arith, sum, c.ranges.tick.fits)) (next_passed course.checks.items passed next c.in-Some.check.now at found.0 found.1) free le in
    rw c.later.ensures (subst (λ (k : ℕ). IsKnown course.tick_us tree c.args.begun None k last_tick (Waits (c.args.begun + min c.in-Some.check.now beyond))) sum known)

pub returns-in_default : goal.returns-in_default
returns-in_default c = λ tree h.
    let course = c.args.course.now in
    let passed = c.from-passed.result in
    let next = c.partition_point-next.result in
    let rising = subst (λ (xs : List ℕ). IsNonDecreasing xs) (sym c.deref.ensures.value) h.rising in
    let point = IsPartitionPoint-from_clause (λ p. leb p passed) _ _ c.partition_point-next.ensures.partitioned (IsPartitionedBy-leb (λ x. x) _ passed rising) (λ a r q k. search rules) in
    let at : IsPoint course.checks.items passed next = subst (λ (xs : List ℕ). IsPoint xs passed next) c.deref.ensures.value point in
    let sum : c.args.begun + passed ≡ c.args.tick = omega (arith, c.from-passed.ensures, c.requires) in
    let free : IsFree passed (course.end.tick + 1) course.checks.items =
    elim c.in_default.branch [
      | in_default-via-in-Some+else-check-course w ↦
          let check = w.in-Some.check.now in
          let found = subst (λ (xs : List ℕ). (next < length xs) × ((d : ℕ) → check ≡ get_or xs next d)) c.deref-2.ensures.value w.in-Some.ensures.lookup.3 in
          let lt : course.end.tick < check = search rules in
          free_beyond course.checks.items passed next check course.end.tick h.rising at found.0 found.1 lt
      | in_default-via-in_default w ↦
          let out = subst (λ (xs : List ℕ). length xs ≤ next) c.deref-2.ensures.value (ltb-false _ _ (sym w.in_default.ensures.lookup.0)) in
          free_all course.checks.items passed next (course.end.tick + 1) at out
    ] in
    let known = course_told tree course c.args.begun passed h (omega (arith, sum, c.ranges.tick.fits)) free in
    rw (c.ended.ensures, c.later-in_default.ensures) (subst (λ (k : ℕ). IsKnown course.tick_us tree c.args.begun None k last_tick (told (c.args.begun + min course.end.tick beyond) course.end.outcome)) sum known)
