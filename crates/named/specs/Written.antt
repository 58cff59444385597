-- The script of numbers that a script with names stands for.
use Rattle.std.specs.Prelude.{ℕ, zero, suc, List, [], ◌∷◌, ◌++◌}
use Rattle.json.specs.Json.{Json}
use Rattle.json.specs.Token as token
use Rattle.json.specs.Token.{Token}
use Rattle.named.specs.Names.{Names, names_in}
use Rattle.named.specs.Pieces.{Piece, tokens, inner, pieces}
use Rattle.named.specs.declared.sort.Sort.{Sort}
use Rattle.named.specs.declared.sort.Sort.TheVariants as sorts
use Rattle.named.specs.declared.sort.Object.TheVariants as objects

-- a piece as tokens, where it is known how values are written
abbrev pub filled : (Sort → Json → List Token) → Piece → List Token
filled f (tokens ts) = ts
filled f (inner step s d) = f s d

-- the tokens of pieces, one after the other
abbrev pub together : (Piece → List Token) → List Piece → List Token
together f [] = []
together f (p ∷ ps) = f p ++ together f ps

-- j as tokens; so many levels of it are looked at
unfoldable pub written : ℕ → Names → Sort → Json → List Token
written zero ns s j = token.null ∷ []
written (suc n) ns s j = together (filled (written n ns)) (pieces s ns j)

-- no value that is read has more, with those of an action's own object
abbrev pub levels : ℕ
levels = 160

-- the tokens of a whole script
abbrev pub script_tokens : Json → List Token
script_tokens j = written levels (names_in j) (sorts.An objects.Script) j
