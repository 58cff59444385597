-- What writing a value adds to the tokens that were written, and what its faults say of the value.
use Rattle.std.specs.Prelude.{◌≡◌, List, ◌++◌, ◌∷◌, Option, Some, option_map}
use Rattle.json.specs.Json.{Json, Items, Members}
use Rattle.json.specs.Token.{Token, begin_array, begin_object}
use Rattle.json.specs.Tree.{json_tokens, items_tokens, members_tokens}
use Rattle.toml_names.specs.declared.fault.TomlFault.{TomlFault}
use Rattle.toml_names.specs.declared.fault.TomlFault.TheVariants.{NotToml, NoJson, TooDeep, OutOfMemory}

-- the value is one, and the tokens are now those before and its own
abbrev pub Writes : List Token → List Token → Option Json → Type 0
Writes old new o = option_map (λ j. old ++ json_tokens j) o ≡ Some new

-- the same of a list and of an object
abbrev pub WritesList : List Token → List Token → Option Items → Type 0
WritesList old new o = option_map (λ js. old ++ begin_array ∷ items_tokens js) o ≡ Some new

abbrev pub WritesMembers : List Token → List Token → Option Members → Type 0
WritesMembers old new o = option_map (λ ms. old ++ begin_object ∷ members_tokens ms) o ≡ Some new

-- memory was refused, or something holds, which is why there is no JSON value
abbrev pub Blames : Type 0 → TomlFault → Type 0
Blames P (NotToml e) = ⊥
Blames P (NoJson u p) = P
Blames P TooDeep = ⊥
Blames P OutOfMemory = Unit {0}
