-- The parts of a value that should have a form, each with its step and the form that it should have.
use Rattle.std.specs.Prelude.{ℕ, suc, List, [], ◌∷◌, ◌++◌, Option, Some, None}
use Rattle.serde_json.specs.Data.{Data, Items, no_items, item}
use Rattle.serde_json.specs.Find.{get, at, as_array}
use Rattle.loop_script.specs.Form.{Form, whole, whole_or_null, signed, truth, list, lanes, pair, an, one_of, lane, Key}
use Rattle.loop_script.specs.Tables.{keys, pair_parts}
use Rattle.loop_script.specs.Place.{asked}
use Rattle.script_check.specs.Found.{Step, under, nth}

pub record Part : Type 0 where
  pub step : Step
  pub form : Form
  pub inner : Data

-- a part, where it is there
abbrev pub there : Step → Form → Option Data → List Part
there s f None = []
there s f (Some d) = record { step = s; form = f; inner = d } ∷ []

-- items, from the n-th on
abbrev pub items_from : ℕ → Form → Items → List Part
items_from n f no_items = []
items_from n f (item d ds) = record { step = nth n; form = f; inner = d } ∷ items_from (suc n) f ds

-- the items of a list, where it is one
abbrev pub items_in : Form → Option Items → List Part
items_in f None = []
items_in f (Some ds) = items_from 0 f ds

-- the parts of a list, from the n-th on, that should have these forms
abbrev pub from : ℕ → List Form → Data → List Part
from n [] d = []
from n (f ∷ fs) d = there (nth n) f (at n d) ++ from (suc n) fs d

-- the parts behind a word, where it has some
abbrev pub behind : Option (List Form) → Data → List Part
behind None d = []
behind (Some fs) d = from 1 fs d

-- what stands under the keys of a table
abbrev pub under_keys : List Key → Data → List Part
under_keys [] d = []
under_keys (k ∷ ks) d = there (under k.name) k.form (get k.name d) ++ under_keys ks d

-- the parts of d
abbrev pub parts : Form → Data → List Part
parts (whole low high) d = []
parts (whole_or_null low high) d = []
parts (signed low high) d = []
parts truth d = []
parts (list low high f) d = items_in f (as_array d)
parts (lanes low high most) d = items_in (an lane) (as_array d)
parts pair d = from 0 pair_parts d
parts (an o) d = under_keys (keys o) d
parts (one_of c) d = behind (asked c d) d
