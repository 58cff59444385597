-- No tree ends before it begins.
use Rattle.std.proofs.Common.{ℕ, ◌+◌, ◌≤◌, Bool, true, false, cond, Option, arith}
use Rattle.std.specs.Prelude.{nat_le}
use Rattle.loop_script.specs.Tree.{Tree, value, fail, sleep, check, seq, both, first, within}
use Rattle.loop_script.specs.declared.outcome.Outcome.TheVariants.{TimedOut}
use Rattle.loop_script.specs.End.{End, end_of, ending, is_ok, ticks_of}

pub followed_late : (b : ℕ) (ok : Bool) (a x : End) → b ≤ a.tick → b ≤ x.tick → b ≤ (cond ok x a).tick
followed_late b true a x h k = k
followed_late b false a x h k = h

pub either_late : (b : ℕ) (c : Bool) (x y : End) → b ≤ x.tick → b ≤ y.tick → b ≤ (cond c x y).tick
either_late b true x y h k = h
either_late b false x y h k = k

pub not_sooner : (tick_us : ℕ) (t : Tree) (f : ℕ) (c : Option ℕ) → f ≤ (end_of tick_us t f c).tick
not_sooner tick_us (value v) f c = omega arith
not_sooner tick_us fail f c = omega arith
not_sooner tick_us (sleep us) f c = omega arith
not_sooner tick_us check f c = omega arith
not_sooner tick_us (seq a b) f c =
    let x : End = end_of tick_us a f c in
    let first = not_sooner tick_us a f c in
    let then = not_sooner tick_us b x.tick c in
    followed_late f (is_ok x.outcome) x (end_of tick_us b x.tick c) first (omega (arith, first, then))
not_sooner tick_us (both a b) f c = omega (arith, not_sooner tick_us a f c)
not_sooner tick_us (first a b) f c = let x : End = end_of tick_us a f c in let y : End = end_of tick_us b f c in either_late f (nat_le x.tick y.tick) x y (not_sooner tick_us a f c) (not_sooner tick_us b f c)
not_sooner tick_us (within us a) f c =
    let x : End = end_of tick_us a f c in
    let limit : ℕ = f + ticks_of tick_us us in
    either_late f (nat_le x.tick limit) x (ending limit TimedOut) (not_sooner tick_us a f c) (omega arith)
