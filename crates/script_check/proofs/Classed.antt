-- Whether some fault is of a class, over faults and over what they are seen as.
use Rattle.std.proofs.Common.{◌≡◌, refl, ap, List, [], ◌∷◌, map, ◌||◌}
use Rattle.std.specs.List.{list_any}
use Rattle.script_check.specs.declared.fault.Class.{Class}
use Rattle.script_check.specs.declared.fault.Fault.{Fault}
use Rattle.script_check.specs.Laws.{has}
use Rattle.script_check.specs.Least.{is_of}
use Rattle.script_check.specs.Seen.{found_of}

pub any_found : (class : Class) (faults : List Fault) → list_any (λ fault. is_of class fault.cause) faults ≡ has (is_of class) (map found_of faults)
any_found class [] = refl
any_found class (x ∷ xs) = ap (λ b. is_of class x.cause || b) (any_found class xs)
