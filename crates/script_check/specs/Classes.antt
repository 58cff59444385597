-- The class of each cause.
use Rattle.script_check.specs.declared.fault.Cause.{Cause}
use Rattle.script_check.specs.declared.fault.Cause.TheVariants.{OtherType, OtherWord, OtherVersion, OtherLength, OtherKey, NoKey, Range, Count, Contexts, Depth, Missing, NotAbove, NotPlain, Stays, Unchecked}
use Rattle.script_check.specs.declared.fault.Class.{Class}
use Rattle.script_check.specs.declared.fault.Class.TheVariants.{Shape, Limit, Reference, Rule}

abbrev pub class_of : Cause → Class
class_of OtherType = Shape
class_of OtherWord = Shape
class_of OtherVersion = Shape
class_of OtherLength = Shape
class_of (OtherKey n) = Shape
class_of (NoKey n) = Shape
class_of Range = Limit
class_of Count = Limit
class_of Contexts = Limit
class_of Depth = Limit
class_of (Missing n) = Reference
class_of (NotAbove tick) = Rule
class_of (NotPlain n) = Rule
class_of Stays = Rule
class_of Unchecked = Rule
