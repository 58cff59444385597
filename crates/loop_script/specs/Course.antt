-- What a tree comes to that nobody cancels, or that is cancelled from its begin on.
use Rattle.std.specs.Prelude.{◌≡◌, ◌<◌, ◌≤◌, ◌++◌, ◌∷◌, [], List, Option, Some, None, if◌then◌else◌}
use Rattle.std.specs.List.Sorted.{IsNonDecreasing, IsPermutation}
use Rattle.loop_script.specs.Bounds.{longest_tick}
use Rattle.loop_script.specs.Units.{Tick, Microseconds}
use Rattle.loop_script.specs.Tree.{Tree, value, fail, sleep, check, seq, both, first, within}
use Rattle.loop_script.specs.End.{End, end_of, ending, is_ok}
use Rattle.loop_script.specs.declared.course.Course.{Course}

-- where a part ends with ok, the checks of what follows it
abbrev pub checks_behind : End → (Tick → List Tick) → List Tick
checks_behind e next = if is_ok e.outcome then next e.tick else []

-- The ticks in which the checks of a tree are begun that is begun in the tick f, where polls see it as cancelled from the tick c on, with
-- those of parts that are cut short.
abbrev pub checks_of : Microseconds → Tree → Tick → Option Tick → List Tick
checks_of tick_us (value v) f c = []
checks_of tick_us fail f c = []
checks_of tick_us (sleep us) f c = []
checks_of tick_us check f c = f ∷ []
checks_of tick_us (seq a b) f c = checks_of tick_us a f c ++ checks_behind (end_of tick_us a f c) (λ tick. checks_of tick_us b tick c)
checks_of tick_us (both a b) f c = checks_of tick_us a f c ++ checks_of tick_us b f c
checks_of tick_us (first a b) f c = checks_of tick_us a f c ++ checks_of tick_us b f c
checks_of tick_us (within us a) f c = checks_of tick_us a f c

-- a course is that of a tree which is begun in the tick 0: its checks in the order of their ticks and its end, where nobody cancels it, and
-- its end where polls see it as cancelled from that tick on
pub record IsCourse (tree : Tree) (c : Course) : Type 0 where
  pub some : 0 < c.tick_us
  pub short : c.tick_us ≤ longest_tick
  pub checks : IsPermutation (checks_of c.tick_us tree 0 None) c.checks.items
  pub rising : IsNonDecreasing c.checks.items
  pub end : end_of c.tick_us tree 0 None ≡ ending c.end.tick c.end.outcome
  pub cancelled : end_of c.tick_us tree 0 (Some 0) ≡ ending c.cancelled.tick c.cancelled.outcome

-- the same, where there is a course
abbrev pub IsItsCourse : Tree → Option Course → Type 0
IsItsCourse tree None = Unit {0}
IsItsCourse tree (Some c) = IsCourse tree c
