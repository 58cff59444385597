-- The measure of a turn, over plain numbers.
use Rattle.std.proofs.Common.{◌≡◌, ℕ, suc, ◌+◌, ◌*◌, ◌<◌, ◌≤◌, Bool, true, false, cond, arith}
use Rattle.std.proofs.Math.Nat.{mul-le-mul_left, suc-mul}
use Rattle.lane_turn.specs.Turn.{work_of}

-- what an iteration of a loop is going to begin
abbrev pub to_begin : Bool → ℕ → ℕ
to_begin iterated rows = cond iterated 0 (rows + 2)

more_to_begin : (iterated : Bool) (rows rows' : ℕ) → rows' ≤ rows + 1 → to_begin iterated rows' ≤ to_begin iterated rows + 1
more_to_begin true rows rows' h = omega arith
more_to_begin false rows rows' h = omega arith

no_more_to_begin : (iterated : Bool) (rows rows' : ℕ) → rows' ≤ rows → to_begin iterated rows' ≤ to_begin iterated rows
no_more_to_begin true rows rows' h = omega arith
no_more_to_begin false rows rows' h = omega arith

-- what is counted may add a row, and as many ids as there were rows
pub pays : (n rows rows' frames frames' : ℕ) (iterated : Bool) → rows' ≤ rows + 1 → frames' ≤ frames + rows + 2
    → work_of n rows' frames' iterated < work_of (suc n) rows frames iterated
pays n rows rows' frames frames' iterated r f =
    let b = more_to_begin iterated rows rows' r in
    let m : n * (rows' + n + 4) ≤ n * (rows + suc n + 4) = mul-le-mul_left n (omega arith) in
    let e : suc n * (rows + suc n + 4) ≡ n * (rows + suc n + 4) + (rows + suc n + 4) = suc-mul n (rows + suc n + 4) in
    omega arith

-- what is not counted leaves the rows and lessens the frames
pub lessens : (n rows rows' frames frames' : ℕ) (iterated : Bool) → rows' ≤ rows → frames' < frames → work_of n rows' frames' iterated < work_of n rows frames iterated
lessens n rows rows' frames frames' iterated r f =
    let b = no_more_to_begin iterated rows rows' r in
    let m : n * (rows' + n + 4) ≤ n * (rows + n + 4) = mul-le-mul_left n (omega arith) in
    omega arith

-- a loop's iteration is paid by what was to begin
pub begins : (n rows frames frames' : ℕ) → frames' ≤ frames + rows + 1 → work_of n rows frames' true < work_of n rows frames false
begins n rows frames frames' f = omega arith
