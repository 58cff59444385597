-- What the workers have, read in the list of all workers.
use Rattle.std.proofs.Common.{◌≡◌, ℕ, zero, suc, ◌<◌, Some, List, [], ◌∷◌, ◌++◌, length, map, set, get_or, refl, sym, ap, ◌∙◌, arith}
use Rattle.std.specs.Prelude.{slice_get}
use Rattle.std.proofs.lemmas.List.{map-set, set-get_or}
use Rattle.tick_stepper.specs.Machine.{Worker}
use Rattle.tick_stepper.proofs.Deals.{within}

-- what a worker posts or takes, read in the list of all workers
module _ {X : Type 0} (f : Worker → List X) where
  pub at_worker : (ws : List Worker) (w : ℕ) (worker : Worker) → slice_get ws w ≡ Some worker → get_or (map f ws) w [] ≡ f worker
  at_worker [] w worker e = cc
  at_worker (v ∷ vs) zero worker e = ap f (some_is v worker e)
    where
      some_is : (v worker : Worker) → Some v ≡ Some worker → v ≡ worker
      some_is v worker e = cc
  at_worker (v ∷ vs) (suc w) worker e = at_worker vs w worker e

  pub same_lists : (ws : List Worker) (w : ℕ) (worker new : Worker) → slice_get ws w ≡ Some worker → f new ≡ f worker → map f (set ws w new) ≡ map f ws
  same_lists ws w worker new e s = map-set f ws w new ∙ ap (set (map f ws) w) (s ∙ sym (at_worker ws w worker e)) ∙ set-get_or (map f ws) w []

  pub more_lists : (ws : List Worker) (w : ℕ) (worker new : Worker) (xs : List X) → slice_get ws w ≡ Some worker → f new ≡ f worker ++ xs → map f (set ws w new) ≡ set (map f ws) w (get_or (map f ws) w [] ++ xs)
  more_lists ws w worker new xs e s = map-set f ws w new ∙ ap (set (map f ws) w) (s ∙ ap (λ (l : List X). l ++ xs) (sym (at_worker ws w worker e)))

  pub read_worker : (ws : List Worker) (w : ℕ) (worker : Worker) → slice_get ws w ≡ Some worker → slice_get (map f ws) w ≡ Some (f worker)
  read_worker [] w worker e = cc
  read_worker (v ∷ vs) zero worker e = ap (λ (u : Worker). Some (f u)) (some_is v worker e)
    where
      some_is : (v worker : Worker) → Some v ≡ Some worker → v ≡ worker
      some_is v worker e = cc
  read_worker (v ∷ vs) (suc w) worker e = read_worker vs w worker e

  mapped_length : (ws : List Worker) → length (map f ws) ≡ length ws
  mapped_length [] = refl
  mapped_length (w ∷ ws) = let r = mapped_length ws in omega arith

  pub lt_lists : (ws : List Worker) (w : ℕ) (worker : Worker) → slice_get ws w ≡ Some worker → w < length (map f ws)
  lt_lists ws w worker e = omega (arith, within ws w worker e, mapped_length ws)
