-- The text of a run, thread by thread.
use Rattle.std.specs.Prelude.{◌≡◌, ◌+◌, ℕ, List, [], ◌∷◌, ◌++◌, codes, Bool, false, slice_get, slice_set, unwrap_or}
use Rattle.account.specs.Course.{Course}
use Rattle.account.specs.declared.moment.Moment.{Moment}
use Rattle.run_names.specs.declared.thing.Thing.TheVariants as things
use Rattle.run_names.specs.Text.{Calling, full_text}
use Rattle.inspect_words.specs.Named.{TellsOf}

-- what is gathered of a run: the text of each thread, and whether notes stand in it
pub record Gathered : Type 0 where
  pub threads : List (List ℕ)
  pub notes : Bool

-- a text is added to that of a thread, where there is one
abbrev pub added : ℕ → List ℕ → List (List ℕ) → List (List ℕ)
added thread text threads = slice_set threads thread (unwrap_or (slice_get threads thread) [] ++ text)

-- what a moment wrote is added to the text of its thread, and behind it notes, where these are asked for
pub record Gathers (run : Course) (c : Calling) (m : Moment) (old new : Gathered) : Type 0 where
  pub lines : List ℕ
  pub notes : List ℕ
  pub told : TellsOf run c m lines
  pub only_lines : old.notes ≡ false → notes ≡ []
  pub threads : new.threads ≡ added m.lane notes (added m.lane lines old.threads)
  pub same : new.notes ≡ old.notes

-- the texts of the threads from a number on, each under a heading
abbrev pub from_thread : Calling → ℕ → List (List ℕ) → List ℕ
from_thread c n [] = []
from_thread c n (text ∷ texts) = full_text c (things.Thread n) ++ (codes "\n" ++ (text ++ from_thread c (n + 1) texts))
