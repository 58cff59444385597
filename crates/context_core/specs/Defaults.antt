-- How often a context is acquired, and the stack of thread-default contexts.
use Rattle.std.specs.Prelude.{◌+◌, ◌-◌, ◌==◌, Bool, false, Option, Some, None, List, [], ◌∷◌, ◌++◌, length, take, slice_get, nat_lt, if◌then◌else◌}
use Rattle.std.specs.List.{list_any}
use Rattle.context_core.specs.declared.context.Context.{Context}
use Rattle.loop_script.specs.Units.{ContextNumber}

-- a context is acquired once more
abbrev pub acquired : Context → Context
acquired context = record context { acquires = context.acquires + 1 }

-- one acquire of a context is taken back
abbrev pub released : Context → Context
released context = record context { acquires = context.acquires - 1 }

-- whether an acquire is left
abbrev pub is_acquired : Context → Bool
is_acquired context = nat_lt 0 context.acquires

-- the contexts that were pushed and not popped, the last one on top
abbrev pub Defaults : Type 0
Defaults = List ContextNumber

-- the thread-default context, if one was pushed
abbrev pub top_of : Defaults → Option ContextNumber
top_of stack = slice_get stack (length stack - 1)

-- whether a context is this one
abbrev pub names : ContextNumber → Option ContextNumber → Bool
names context None = false
names context (Some top) = top == context

-- whether a context is on top of the stack
abbrev pub is_on_top : ContextNumber → Defaults → Bool
is_on_top context stack = names context (top_of stack)

-- whether a context is on the stack
abbrev pub is_pushed : ContextNumber → Defaults → Bool
is_pushed context stack = list_any (λ c. c == context) stack

-- the stack with one more context on top
abbrev pub pushed : ContextNumber → Defaults → Defaults
pushed context stack = stack ++ context ∷ []

-- what is not on top is not popped
abbrev pub popped : ContextNumber → Defaults → Defaults
popped context stack = if is_on_top context stack then take (length stack - 1) stack else stack
