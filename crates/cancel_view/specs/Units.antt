-- What the numbers of a view stand for.
use Rattle.std.specs.Prelude.{ℕ}

-- a cancellable by its number, from 0
abbrev pub CancellableNumber : Type 0
CancellableNumber = ℕ

-- a handler of the view, from 1
abbrev pub HandlerId : Type 0
HandlerId = ℕ

-- a procedure by its number, from 0
abbrev pub ProcNumber : Type 0
ProcNumber = ℕ

-- a mark by its number, from 0
abbrev pub MarkNumber : Type 0
MarkNumber = ℕ
