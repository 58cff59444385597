-- What is wrong with a script with names: of each value its own faults, then those of the values in it.
use Rattle.std.specs.Prelude.{ℕ, zero, suc, ◌==◌, List, [], ◌∷◌, ◌++◌, length, map, Bool, true, false, not, if◌then◌else◌, Option, Some, None, is_none}
use Rattle.std.specs.List.{list_any}
use Rattle.std.specs.Str.{bytes_eq}
use Rattle.json.specs.Json.{Json, Items, no_items, item, Members, no_members, member}
use Rattle.json.specs.Find.{as_array, as_object}
use Rattle.named.specs.Words.{text_of}
use Rattle.named.specs.Tables.{words, parts, beside, makes_source, fields, keys}
use Rattle.named.specs.Names.{Names, names_in, has_all}
use Rattle.named.specs.declared.sort.Kind.{Kind}
use Rattle.named.specs.declared.sort.Kind.TheVariants as kinds
use Rattle.named.specs.Leaf.{leaf}
use Rattle.named.specs.Pieces.{Step, Piece, tokens, inner, found, chosen, pieces}
use Rattle.named.specs.Written.{levels}
use Rattle.named.specs.declared.word.Word.{Word}
use Rattle.named.specs.declared.sort.Choice.{Choice}
use Rattle.named.specs.declared.sort.Choice.TheVariants as choices
use Rattle.named.specs.declared.sort.Object.{Object}
use Rattle.named.specs.declared.sort.Object.TheVariants as objects
use Rattle.named.specs.declared.sort.Sort.{Sort}
use Rattle.named.specs.declared.sort.Sort.TheVariants as sorts
use Rattle.named.specs.declared.table.At.{At}
use Rattle.named.specs.declared.table.At.TheVariants as ats
use Rattle.named.specs.declared.table.Part.{Part}
use Rattle.named.specs.declared.field.Absent.{Absent}
use Rattle.named.specs.declared.field.Absent.TheVariants as absents
use Rattle.named.specs.declared.field.Field.{Field}
use Rattle.named.specs.declared.fault.Cause.{Cause}
use Rattle.named.specs.declared.fault.Cause.TheVariants.{Unfit, NoWord, OtherType, OtherLength, OtherKey, NoKey, Twice}

-- a cause, where a test holds
abbrev pub where_so : Bool → Cause → List Cause
where_so true c = c ∷ []
where_so false c = []

-- a key that must be there and is absent
abbrev pub lack : At → Bool → List Cause
lack (ats.Key w) true = NoKey w ∷ []
lack at b = []

-- those of the parts of a word that are absent
abbrev pub lacks : List Part → Json → List Cause
lacks [] j = []
lacks (p ∷ ps) j = lack p.at (is_none (found p.at j)) ++ lacks ps j

-- whether a key must be there
abbrev pub must_be_there : Absent → Bool
must_be_there absents.Fault = true
must_be_there a = false

-- that a key of an object is absent, where it must be there
abbrev pub field_lack : Field → Json → List Cause
field_lack f j = if must_be_there f.absent then lack f.at (is_none (found f.at j)) else []

-- those of the keys of an object that are absent and must be there
abbrev pub field_lacks : List Field → Json → List Cause
field_lacks [] j = []
field_lacks (f ∷ fs) j = field_lack f j ++ field_lacks fs j

-- each member, from the n-th on, whose key is none of these
abbrev pub other_keys : List Word → ℕ → Members → List Cause
other_keys ws n no_members = []
other_keys ws n (member k d ms) = where_so (not (list_any (λ w. bytes_eq (text_of w) k) ws)) (OtherKey n) ++ other_keys ws (suc n) ms

-- the keys of a kind of source, and where none is chosen the words of all kinds
abbrev pub of_kind : Option Word → List Word
of_kind None = words choices.Source
of_kind (Some w) = w ∷ beside w

-- the keys that may stand in an action, and those of its kind of source where it makes one
abbrev pub allowed : Word → Json → List Word
allowed w j = (w ∷ beside w) ++ (if makes_source w then of_kind (chosen choices.Source j) else [])

-- the members whose keys are none of these; where none are given they are not looked at
abbrev pub unknown_in : List Word → Option Members → List Cause
unknown_in [] ms = []
unknown_in (w ∷ ws) None = []
unknown_in (w ∷ ws) (Some ms) = other_keys (w ∷ ws) 0 ms

abbrev pub count : Items → ℕ
count no_items = 0
count (item d ds) = suc (count ds)

-- a list should have n items
abbrev pub of_size : ℕ → Option Items → List Cause
of_size n None = OtherLength ∷ []
of_size n (Some ds) = where_so (not (count ds == n)) OtherLength

-- what is wrong where one word is to stand, by the one that does
abbrev pub of_word : Choice → Json → Option Word → List Cause
of_word c j None = NoWord ∷ []
of_word choices.Tree j (Some w) = of_size (suc (length (parts choices.Tree w))) (as_array j)
of_word choices.Source j (Some w) = lacks (parts choices.Source w) j
of_word choices.Action j (Some w) = lacks (parts choices.Action w) j ++ unknown_in (allowed w j) (as_object j)

-- the names of a kind are not each once, or too many
abbrev pub of_names : Kind → Names → Json → List Cause
of_names k ns j = where_so (not (has_all k ns j)) (Twice k)

-- the same of some kinds
abbrev pub twice : List Kind → Names → Json → List Cause
twice [] ns j = []
twice (k ∷ ks) ns j = of_names k ns j ++ twice ks ns j

-- the kinds whose names are declared
abbrev pub declaring : List Kind
declaring = kinds.Thread ∷ kinds.Context ∷ kinds.Loop ∷ kinds.Procedure ∷ kinds.Cancellable ∷ kinds.Descriptor ∷ []

-- what is wrong with j itself where it should be an object
abbrev pub of_object : Object → Json → List Cause
of_object o j = where_so (is_none (as_object j)) OtherType ++ (field_lacks (fields o) j ++ unknown_in (keys o) (as_object j))

-- what is wrong with j itself where it should be this
abbrev pub own : Sort → Names → Json → List Cause
own (sorts.Leaf l) ns j = where_so (is_none (leaf l ns j)) Unfit
own (sorts.OneOf c) ns j = of_word c j (chosen c j)
own (sorts.An objects.Script) ns j = of_object objects.Script j ++ twice declaring ns j
own (sorts.An o) ns j = of_object o j
own sorts.Pair ns j = of_size 2 (as_array j)
own sorts.Actions ns j = where_so (is_none (as_array j)) OtherType
own sorts.Levels ns j = where_so (is_none (as_array j)) OtherType
own s ns j = where_so (is_none (as_object j)) OtherType

-- a fault: the steps to the value that has it, what should stand there, and the cause
pub record Found : Type 0 where
  pub place : List Step
  pub sort : Sort
  pub cause : Cause

-- causes at a place, as faults
abbrev pub found_at : List Step → Sort → List Cause → List Found
found_at place s cs = map (λ c. record { place = place; sort = s; cause = c }) cs

-- the faults of a piece, where it is known which those of a value at the end of a step are
abbrev pub within : (Step → Sort → Json → List Found) → Piece → List Found
within f (tokens ts) = []
within f (inner step s d) = f step s d

-- what each piece gives, one after the other
abbrev pub together : (Piece → List Found) → List Piece → List Found
together f [] = []
together f (p ∷ ps) = f p ++ together f ps

-- the faults in j at a place; so many levels of it are looked at
unfoldable pub faults_in : ℕ → Names → List Step → Sort → Json → List Found
faults_in zero ns place s j = []
faults_in (suc n) ns place s j = found_at place s (own s ns j) ++ together (within (λ step. faults_in n ns (place ++ step ∷ []))) (pieces s ns j)

-- the faults of a whole script
abbrev pub script_faults : Json → List Found
script_faults j = faults_in levels (names_in j) [] (sorts.An objects.Script) j
