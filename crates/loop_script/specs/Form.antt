-- What may stand at a place of a script.
use Rattle.std.specs.Prelude.{ℕ, ℤ, Bool, List}

-- an object, by what it tells
pub data Object : Type 0 where
  script lane procedure source child task : Object

-- what the word at the front of a list is one of; a tree goes so deep at most
pub data Choice : Type 0 where
  kind action : Choice
  tree : ℕ → Choice

-- the form of a value
pub data Form : Type 0 where
  -- a whole number from the first to the second
  whole : ℕ → ℕ → Form
  -- the same, or null
  whole_or_null : ℕ → ℕ → Form
  -- a whole number from the first to the second, where it may be below 0
  signed : ℤ → ℤ → Form
  -- true or false
  truth : Form
  -- a list of as many items as the first at least and as the second at most, each of that form
  list : ℕ → ℕ → Form → Form
  -- a list of lanes, with so many at least and at most, which have so many contexts together at most
  lanes : ℕ → ℕ → ℕ → Form
  -- `[tick,bits]`
  pair : Form
  -- an object with its keys
  an : Object → Form
  -- a list that begins with one of the words, and then has the parts of that word
  one_of : Choice → Form

-- a key of an object, with the form of what stands under it
pub record Key : Type 0 where
  pub name : List ℕ
  pub form : Form
  -- whether it must be there
  pub needed : Bool

-- a word, with the forms of the parts that stand behind it
pub record Word : Type 0 where
  pub word : List ℕ
  pub parts : List Form
