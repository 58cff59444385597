-- Each lane of a run has one of the workers.
use Rattle.std.proofs.Common.{rules, tests, true≢false, ◌≡◌, ℕ, zero, suc, ◌<◌, ◌≤◌, ◌==◌, ◌&&◌, Bool, true, false, Some, None, List, [], ◌∷◌, length, refl, sym, arith}
use Rattle.std.specs.Prelude.{nat_lt, nat_le, slice_get, unwrap_or, if◌then◌else◌}
use Rattle.std.proofs.Math.Nat.{mod-lt}
use Rattle.tick_stepper.specs.declared.fault.StepFault.TheVariants.{Workers, Table}
use Rattle.std.specs.List.{All, AllByRecursion, list_all}
use Rattle.loop_script.specs.declared.plan.Plan.{Plan}
use Rattle.lane_turn.specs.Lane.{State}
use Rattle.tick_stepper.specs.declared.crew.Crew.{Crew}
use Rattle.tick_stepper.specs.declared.crew.Sharing.{Sharing}
use Rattle.tick_stepper.specs.declared.crew.Sharing.TheVariants.{Round, Fixed, Queue}
use Rattle.tick_stepper.specs.Crew.{worker_by, worker_of, names_workers, refusal_of}
use Rattle.tick_stepper.proofs.Handed.{of_rec}

lt_of : (a b : ℕ) → nat_lt a b ≡ true → a < b
lt_of a b e = search (rules, tests)

le_of : (a b : ℕ) → nat_le a b ≡ true → a ≤ b
le_of a b e = search (rules, tests)

eq_of : (a b : ℕ) → (a == b) ≡ true → a ≡ b
eq_of a b e = search (rules, tests)

pub both_true : (a b : Bool) → (a && b) ≡ true → (a ≡ true) × (b ≡ true)
both_true true b e = (refl, e)
both_true false b e = absurd (true≢false (sym e))

-- nothing is refused: both tests passed
passed : (a b : Bool) → (if a then (if b then None else Some Table) else Some Workers) ≡ None → (a ≡ true) × (b ≡ true)
passed true true e = (refl, refl)
passed true false e = cc
passed false b e = cc

pub some_workers : (script : Plan) (workers : ℕ) (sharing : Sharing) → refusal_of script workers sharing ≡ None → 0 < workers
some_workers script workers sharing e =
    let counts = passed (nat_le 1 workers && nat_le workers 64) (names_workers (length script.lanes) workers sharing) e in
    le_of 1 workers (both_true (nat_le 1 workers) (nat_le workers 64) counts.0).0

named_at : (workers i : ℕ) (table : List ℕ) → list_all (λ worker. nat_lt worker workers) table ≡ true → i < length table → unwrap_or (slice_get table i) 0 < workers
named_at workers i [] all h = absurd (omega arith)
named_at workers zero (w ∷ table) all h = lt_of w workers (both_true (nat_lt w workers) (list_all (λ worker. nat_lt worker workers) table) all).0
named_at workers (suc i) (w ∷ table) all h = named_at workers i table (both_true (nat_lt w workers) (list_all (λ worker. nat_lt worker workers) table) all).1 (omega arith)

named_one : (lanes workers lane : ℕ) (sharing : Sharing) → 0 < workers → names_workers lanes workers sharing ≡ true → lane < lanes → worker_by sharing workers lane < workers
named_one lanes workers lane Round some named h = mod-lt lane some
named_one lanes workers lane Queue some named h = some
named_one lanes workers lane (Fixed table) some named h =
    let tests = both_true (length table.items == lanes) (list_all (λ worker. nat_lt worker workers) table.items) named in
    let long = eq_of (length table.items) lanes tests.0 in
    named_at workers lane table.items tests.1 (omega arith)

each_named : (most : ℕ) (crew : Crew) (states : List State) → 0 < crew.workers → names_workers most crew.workers crew.sharing ≡ true → AllByRecursion (λ (s : State). s.lane.number < most) states
    → AllByRecursion (λ (s : State). worker_of crew s.lane.number < crew.workers) states
each_named most crew [] some named h = tt
each_named most crew (s ∷ states) some named h = (named_one most crew.workers s.lane.number crew.sharing some named h.0, each_named most crew states some named h.1)

pub all_named : (script : Plan) (crew : Crew) (states : List State) → refusal_of script crew.workers crew.sharing ≡ None → AllByRecursion (λ (s : State). s.lane.number < length script.lanes) states
    → All (λ s. worker_of crew s.lane.number < crew.workers) states
all_named script crew states e below =
    let named = (passed (nat_le 1 crew.workers && nat_le crew.workers 64) (names_workers (length script.lanes) crew.workers crew.sharing) e).1 in
    of_rec (λ (s : State). worker_of crew s.lane.number < crew.workers) states (each_named (length script.lanes) crew states (some_workers script crew.workers crew.sharing e) named below)
