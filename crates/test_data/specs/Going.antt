-- For tests: a book, a view and a tick that go on together.
use Rattle.std.specs.Prelude.{◌≡◌, ℕ, ◌<◌, Option, Some, None, length}
use Rattle.cancel_view.specs.Seen.{Seen}
use Rattle.task_steps.specs.Run.{IsAfter}
use Rattle.task_steps.specs.Book.{Book, IsStart, HasGrown}

-- a book in which so many tasks were started goes on at a tick
pub record GoesOn (book : Book) (view : Seen) (cancellables started tick : ℕ) : Type 0 where
  pub count : book.next ≡ started
  pub members : length view.members ≡ cancellables
  pub last : IsStart tick book.last
  pub wake : IsAfter tick book.wake
  pub grown : HasGrown view book.tasks

-- a cancellable that there is, or none
abbrev pub IsKnown : ℕ → Option ℕ → Type 0
IsKnown n None = Unit {0}
IsKnown n (Some c) = c < n
