-- What the numbers of a script and its run stand for.
use Rattle.std.specs.Prelude.{ℕ, ℤ}

-- a tick of the run, from 0
abbrev pub Tick : Type 0
Tick = ℕ

-- a time of the run
abbrev pub Microseconds : Type 0
Microseconds = ℕ

-- a lane by its number in the script, from 0
abbrev pub LaneNumber : Type 0
LaneNumber = ℕ

-- a context by its number, counted over all lanes, from 0
abbrev pub ContextNumber : Type 0
ContextNumber = ℕ

-- a loop by its number, from 0
abbrev pub LoopNumber : Type 0
LoopNumber = ℕ

-- a descriptor by its number, from 0
abbrev pub Descriptor : Type 0
Descriptor = ℕ

-- the conditions of a descriptor, as a number of bits
abbrev pub Bits : Type 0
Bits = ℕ

-- a cancellable by its number, from 0
abbrev pub CancellableNumber : Type 0
CancellableNumber = ℕ

-- a procedure by its number, from 0
abbrev pub ProcNumber : Type 0
ProcNumber = ℕ

-- a slot of a lane
abbrev pub Slot : Type 0
Slot = ℕ

-- a source in its context, from 1
abbrev pub SourceId : Type 0
SourceId = ℕ

-- a handler in its lane, from 1
abbrev pub HandlerId : Type 0
HandlerId = ℕ

-- a task of a book, in the order of starting, from 0
abbrev pub TaskNumber : Type 0
TaskNumber = ℕ

-- a priority, of which the least goes first
abbrev pub Priority : Type 0
Priority = ℤ

-- an order number: the later a source was attached, or its priority set, the greater
abbrev pub Order : Type 0
Order = ℕ
