-- The first class of some faults.
use Rattle.std.specs.Prelude.{Bool, if◌then◌else◌, List, Option, Some, None}
use Rattle.script_check.specs.declared.fault.Cause.{Cause}
use Rattle.script_check.specs.declared.fault.Class.{Class}
use Rattle.script_check.specs.declared.fault.Class.TheVariants.{Shape, Limit, Reference, Rule}
use Rattle.script_check.specs.Found.{Found}
use Rattle.script_check.specs.Laws.{has, is_shape, is_limit, is_reference, is_rule}

-- a cause is of a class
abbrev pub is_of : Class → Cause → Bool
is_of Shape c = is_shape c
is_of Limit c = is_limit c
is_of Reference c = is_reference c
is_of Rule c = is_rule c

-- the first class of which some fault is
abbrev pub least_class : List Found → Option Class
least_class faults =
    if has is_shape faults then Some Shape
    else if has is_limit faults then Some Limit
    else if has is_reference faults then Some Reference
    else if has is_rule faults then Some Rule
    else None
