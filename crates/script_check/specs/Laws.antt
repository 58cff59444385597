-- What the faults of shape and of limits in a script are, by the tables: which of them stand, and where.
use Rattle.std.specs.Prelude.{◌≡◌, ◌↔◌, ◌<◌, true, false, Bool, List, [], ◌∷◌, Some}
use Rattle.std.specs.List.{list_any}
use Rattle.serde_json.specs.Data.{Data, depth}
use Rattle.loop_script.specs.Form.{Form, script, an}
use Rattle.loop_script.specs.Place.{SomeOf, StandsIn}
use Rattle.loop_script.specs.Misfit.{IsMisshapen, IsBeyond}
use Rattle.script_check.specs.declared.fault.Cause.{Cause}
use Rattle.script_check.specs.declared.fault.Cause.TheVariants.{OtherType, OtherWord, OtherVersion, OtherLength, OtherKey, NoKey, Range, Count, Contexts, Depth, Missing, NotAbove, NotPlain, Stays, Unchecked}
use Rattle.script_check.specs.Found.{Step, at_place, Found}
use Rattle.script_check.specs.Own.{own}
use Rattle.script_check.specs.Parts.{Part, parts}
use Rattle.script_check.specs.Faults.{levels, form_faults}

-- x is one of a list
abbrev pub In : {A : Type 0} → A → List A → Type 0
In x xs = SomeOf (λ y. y ≡ x) xs

-- a cause of the class shape
abbrev pub is_shape : Cause → Bool
is_shape OtherType = true
is_shape OtherWord = true
is_shape OtherVersion = true
is_shape OtherLength = true
is_shape (OtherKey n) = true
is_shape (NoKey n) = true
is_shape Range = false
is_shape Count = false
is_shape Contexts = false
is_shape Depth = false
is_shape (Missing n) = false
is_shape (NotAbove tick) = false
is_shape (NotPlain n) = false
is_shape Stays = false
is_shape Unchecked = false

-- a cause of the class limit
abbrev pub is_limit : Cause → Bool
is_limit Range = true
is_limit Count = true
is_limit Contexts = true
is_limit Depth = true
is_limit _ = false

-- a cause of the class reference
abbrev pub is_reference : Cause → Bool
is_reference (Missing n) = true
is_reference _ = false

-- a cause of the class rule
abbrev pub is_rule : Cause → Bool
is_rule (NotAbove tick) = true
is_rule (NotPlain n) = true
is_rule Stays = true
is_rule Unchecked = true
is_rule _ = false

-- some fault is of a class
abbrev pub has : (Cause → Bool) → List Found → Bool
has test fs = list_any (λ f. test f.cause) fs

-- where d should have the form f, steps lead from it to x, which should have the form h
pub data Leads : List Step → Form → Data → Form → Data → Type 0 where
  ended : (f : Form) (d : Data) → Leads [] f d f d
  into : (f : Form) (d : Data) (p : Part) (ss : List Step) (h : Form) (x : Data) → In p (parts f d) → Leads ss p.form p.inner h x → Leads (p.step ∷ ss) f d h x

-- a value that is read
abbrev pub IsShallow : Data → Type 0
IsShallow d = depth d < levels

-- the faults of shape and of limits are those of the tables, each in its place
pub record FormFaults : Type 0 where
  -- a fault of shape is told exactly where some part of the script is misshapen by the tables, and one of limits exactly where some is out of range
  pub shape : (d : Data) → IsShallow d → (has is_shape (form_faults d) ≡ true) ↔ IsMisshapen (an script) d
  pub limit : (d : Data) → IsShallow d → (has is_limit (form_faults d) ≡ true) ↔ IsBeyond (an script) d
  -- told is what is wrong at each place that steps lead to, and nothing else
  pub told : (d : Data) → IsShallow d → (x : Found) → In x (form_faults d) ↔ ((e : Data) × Leads x.place (an script) d x.form e × In x.cause (own x.form e))
  -- such steps lead to that value of the document, which stands in it by the tables
  pub place : (ss : List Step) (f g : Form) (d e : Data) → Leads ss f d g e → (at_place ss d ≡ Some e) × StandsIn f d g e
