-- What a value of the form is made of in a script of numbers: tokens, and values of the form in their places.
use Rattle.std.specs.Prelude.{ℕ, suc, List, [], ◌∷◌, ◌++◌, Bool, if◌then◌else◌, Option, Some, None, option_and_then, is_some}
use Rattle.std.specs.List.{list_any}
use Rattle.std.specs.Str.{bytes_eq}
use Rattle.json.specs.Json.{Json, Items, no_items, item, Members, no_members, member}
use Rattle.json.specs.Find.{get, at, as_str}
use Rattle.json.specs.Token as token
use Rattle.json.specs.Token.{Token}
use Rattle.named.specs.Words.{text_of}
use Rattle.named.specs.Tables.{words, parts, numbered_word, fields, each, pair}
use Rattle.named.specs.Names.{Names, items_in, members_in}
use Rattle.named.specs.Leaf.{leaf, whole}
use Rattle.named.specs.declared.word.Word.{Word}
use Rattle.named.specs.declared.sort.Choice.{Choice}
use Rattle.named.specs.declared.sort.Choice.TheVariants as choices
use Rattle.named.specs.declared.sort.Sort.{Sort}
use Rattle.named.specs.declared.sort.Sort.TheVariants as sorts
use Rattle.named.specs.declared.table.At.{At}
use Rattle.named.specs.declared.table.At.TheVariants as ats
use Rattle.named.specs.declared.table.Part.{Part}
use Rattle.named.specs.declared.field.Absent.{Absent}
use Rattle.named.specs.declared.field.Absent.TheVariants as absents
use Rattle.named.specs.declared.field.Field.{Field}

-- a step into a value: what an object has under a key, an item of a list, or none
pub data Step : Type 0 where
  under : List ℕ → Step
  nth : ℕ → Step
  same : Step

-- tokens, or a value at the end of a step with what it should be
pub data Piece : Type 0 where
  tokens : List Token → Piece
  inner : Step → Sort → Json → Piece

abbrev pub one : Token → Piece
one t = tokens (t ∷ [])

-- ---- what stands where

-- the step to a part
abbrev pub step_of : At → Step
step_of (ats.Key w) = under (text_of w)
step_of (ats.Item n) = nth n
step_of ats.Same = same

-- what stands where a part is to stand
abbrev pub found : At → Json → Option Json
found (ats.Key w) j = get (text_of w) j
found (ats.Item n) j = at n j
found ats.Same j = Some j

-- ---- the word that chooses

-- whether a word stands as a key
abbrev pub stands : Json → Word → Bool
stands j w = is_some (get (text_of w) j)

-- the only one of some words that stands as a key
abbrev pub only : List Word → Json → Option Word
only [] j = None
only (w ∷ ws) j = if stands j w then if list_any (stands j) ws then None else Some w else only ws j

-- the one of some words that a text is
abbrev pub spelt : List Word → List ℕ → Option Word
spelt [] s = None
spelt (w ∷ ws) s = if bytes_eq (text_of w) s then Some w else spelt ws s

-- the word that chooses: in a tree the first item, elsewhere the only one that stands as a key
abbrev pub chosen : Choice → Json → Option Word
chosen choices.Tree j = option_and_then (spelt (words choices.Tree)) (option_and_then as_str (at 0 j))
chosen c j = only (words c) j

-- ---- pieces

-- a part of what a word says, null where it is absent
abbrev pub part_piece : Part → Option Json → Piece
part_piece p None = one token.null
part_piece p (Some d) = inner (step_of p.at) p.sort d

abbrev pub part_pieces : List Part → Json → List Piece
part_pieces [] j = []
part_pieces (p ∷ ps) j = part_piece p (found p.at j) ∷ part_pieces ps j

-- what stands for a key that is absent
abbrev pub absent_pieces : Word → Absent → List Piece
absent_pieces key (absents.Number n) = one (token.key (text_of key)) ∷ tokens (whole n) ∷ []
absent_pieces key a = []

-- a key of an object with its value, or what stands for it
abbrev pub field_piece : Field → Option Json → List Piece
field_piece f None = absent_pieces f.key f.absent
field_piece f (Some d) = one (token.key (text_of f.key)) ∷ inner (step_of f.at) f.sort d ∷ []

abbrev pub field_pieces : List Field → Json → List Piece
field_pieces [] j = []
field_pieces (f ∷ fs) j = field_piece f (found f.at j) ++ field_pieces fs j

abbrev pub item_pieces : ℕ → Sort → Items → List Piece
item_pieces n s no_items = []
item_pieces n s (item d ds) = inner (nth n) s d ∷ item_pieces (suc n) s ds

abbrev pub member_pieces : Sort → Members → List Piece
member_pieces s no_members = []
member_pieces s (member k d ms) = inner (under k) s d ∷ member_pieces s ms

abbrev pub or_null : Option (List Token) → Piece
or_null None = one token.null
or_null (Some ts) = tokens ts

abbrev pub in_list : List Piece → List Piece
in_list ps = one token.begin_array ∷ (ps ++ one token.end_array ∷ [])

abbrev pub in_object : List Piece → List Piece
in_object ps = one token.begin_object ∷ (ps ++ one token.end_object ∷ [])

-- a word with what stands behind it; null where none is chosen
abbrev pub word_pieces : Choice → Json → Option Word → List Piece
word_pieces c j None = one token.null ∷ []
word_pieces c j (Some w) = in_list (one (token.string (text_of (numbered_word w))) ∷ part_pieces (parts c w) j)

-- what stands in a list: a tick and bits, the items of a list or the members of an object
abbrev pub listed_pieces : Sort → Json → List Piece
listed_pieces sorts.Pair j = part_pieces pair j
listed_pieces sorts.Actions j = item_pieces 0 (each sorts.Actions) (items_in (Some j))
listed_pieces sorts.Levels j = item_pieces 0 (each sorts.Levels) (items_in (Some j))
listed_pieces s j = member_pieces (each s) (members_in (Some j))

-- what j is made of
abbrev pub pieces : Sort → Names → Json → List Piece
pieces (sorts.Leaf l) ns j = or_null (leaf l ns j) ∷ []
pieces (sorts.OneOf c) ns j = word_pieces c j (chosen c j)
pieces (sorts.An o) ns j = in_object (field_pieces (fields o) j)
pieces s ns j = in_list (listed_pieces s j)
