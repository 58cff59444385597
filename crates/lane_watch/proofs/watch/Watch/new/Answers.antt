use Rattle.std.proofs.Common.{◌≡◌, ℕ, None, Option, List, sym, subst, rules}
use Rattle.std.specs.Prelude.{replicate}
use Rattle.cancel_view.specs.Seen.{Seen}
use Rattle.task_steps.specs.Book.{Book}
use Rattle.lane_watch.specs.Watch.{IsJoined, nothing_seen}
use Rattle.lane_watch.proofs.Joined.{joined_new}
use Rattle.lane_watch.proofs.watch.Watch.new.Goals as goal

pub invariant_of-result : goal.invariant_of-result
invariant_of-result c =
    let n = c.args.n in
    let us = c.args.tick_us in
    let came : c.in_ok-vec.field-0.items ≡ replicate n None = search rules in
    let P : Seen → Type 0 = λ v. IsJoined 0 us v c.in_ok-vec.field-0.items c.new-2.result None in
    let Q : List (Option ℕ) → Type 0 = λ ts. IsJoined 0 us (nothing_seen n) ts c.new-2.result None in
    let R : Book → Type 0 = λ b. IsJoined 0 us (nothing_seen n) (replicate n None) b None in
    subst P (sym c.in_ok-new.ensures) (subst Q (sym came) (subst R (sym c.new-2.ensures) (joined_new n us c.requires.some c.requires.short)))
