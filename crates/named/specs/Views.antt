-- The program's own values as those of the specification.
use Rattle.std.specs.Prelude.{ℕ, List, [], ◌∷◌, Option, map, option_map}
use Rattle.std.specs.Borrow.{Bor}
use Rattle.json.specs.Json.{Json}
use Rattle.json.specs.Value.{value_view}
use Rattle.json.specs.declared.value.Value.{Value}
use Rattle.json.specs.Token as token
use Rattle.json.specs.Token.{Token}
use Rattle.named.specs.Leaf.{as_it_is, whole}
use Rattle.named.specs.Names as names
use Rattle.named.specs.Words.{text_of}
use Rattle.named.specs.Pieces as pieces
use Rattle.named.specs.Pieces.{under, nth, same, tokens, inner, one}
use Rattle.named.specs.Faults.{Found}
use Rattle.named.specs.declared.fault.Fault.{Fault}
use Rattle.named.specs.declared.piece.Step.{Step}
use Rattle.named.specs.declared.piece.Step.TheVariants as steps
use Rattle.named.specs.declared.piece.Piece.{Piece}
use Rattle.named.specs.declared.piece.Piece.TheVariants as parts
use Rattle.named.specs.declared.scalar.Scalar.{Scalar}
use Rattle.named.specs.declared.scalar.Scalar.TheVariants as scalars
use Rattle.named.specs.declared.names.Names.{Names}

-- the texts of borrowed strings
abbrev pub texts : List (Bor (List ℕ)) → List (List ℕ)
texts = map (λ s. s.now)

abbrev pub names_of : Names → names.Names
names_of ns = record {
  threads = texts ns.threads.items;
  contexts = texts ns.contexts.items;
  loops = texts ns.loops.items;
  procedures = texts ns.procedures.items;
  cancellables = texts ns.cancellables.items;
  descriptors = texts ns.descriptors.items;
  slots = texts ns.slots.items;
  texts = texts ns.texts.items;
}

-- the value of a part that may be absent
abbrev pub seen : {A : Type 0} → Option (Bor (Value A)) → Option Json
seen o = option_map (λ v. value_view v.now) o

-- the tokens of a scalar
abbrev pub tokens_of : Scalar → List Token
tokens_of scalars.Nothing = []
tokens_of scalars.Null = token.null ∷ []
tokens_of (scalars.Bool b) = token.boolean b ∷ []
tokens_of (scalars.Whole n) = whole n
tokens_of (scalars.Digits s) = as_it_is s.now

abbrev pub step_view : Step → pieces.Step
step_view (steps.Key s) = under s.now
step_view (steps.Item n) = nth n
step_view steps.Same = same

abbrev pub piece_view : Piece → pieces.Piece
piece_view parts.BeginArray = one token.begin_array
piece_view parts.EndArray = one token.end_array
piece_view parts.BeginObject = one token.begin_object
piece_view parts.EndObject = one token.end_object
piece_view (parts.Key w) = one (token.key (text_of w))
piece_view (parts.Text w) = one (token.string (text_of w))
piece_view (parts.Scalar s) = tokens (tokens_of s)
piece_view (parts.Inner i) = inner (step_view i.step) i.sort (value_view i.value.now)

abbrev pub found_of : Fault → Found
found_of a = record { place = map step_view a.place.items; sort = a.sort; cause = a.cause }
