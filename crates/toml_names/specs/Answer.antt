-- What is answered of bytes that are to be TOML.
use Rattle.std.specs.Prelude.{◌≡◌, ℕ, ◌<◌, List, Some, None, IsSome, IsUtf8}
use Rattle.json.specs.Json.{max_depth, document}
use Rattle.toml.specs.Data.{Members, table, depth}
use Rattle.toml.specs.Parse.{parse_document}
use Rattle.toml_names.specs.Meaning.{json_of, meaning}
use Rattle.toml_names.specs.declared.fault.TomlFault.{TomlFault}
use Rattle.toml_names.specs.declared.fault.TomlFault.TheVariants.{NotToml, NoJson, TooDeep, OutOfMemory}

-- bytes are a TOML text, and the other one is a JSON text of the value that stands for it
abbrev pub StandsFor : List ℕ → List ℕ → Type 0
StandsFor bytes text = IsUtf8 bytes × IsUtf8 text × IsSome (meaning bytes) × (document text ≡ meaning bytes)

-- bytes are a TOML text, of a table of which something holds
abbrev pub IsTable : List ℕ → (Members → Type 0) → Type 0
IsTable bytes P = (ms : Members) × IsUtf8 bytes × (parse_document bytes ≡ Some ms) × P ms

-- what a fault says of the bytes; out of memory says nothing
abbrev pub IsFaultOf : List ℕ → TomlFault → Type 0
IsFaultOf bytes (NotToml e) = IsUtf8 bytes → parse_document bytes ≡ None
IsFaultOf bytes (NoJson u p) = IsTable bytes (λ ms. json_of (table ms) ≡ None)
IsFaultOf bytes TooDeep = IsTable bytes (λ ms. max_depth < depth (table ms))
IsFaultOf bytes OutOfMemory = Unit {0}
