-- What callers see of a work list, of an office, and of the passes with which threads use them.
use Rattle.std.specs.Prelude.{ℕ, ◌+◌, ◌-◌, List, [], ◌∷◌, ◌++◌}
use Rattle.post_office.specs.declared.letter.Letter.{Letter}

-- a work list: which one it is, what was put into it, what it took from itself, what each pass took that came back, and
-- how many passes are out
pub record WorkState (T : Type 0) : Type 0 where
  pub home : ℕ × ℕ
  pub put : List T
  pub taken : List T
  pub recorded : List (List T)
  pub out : ℕ

-- a pass that is out: of which list it is, what was put into that, and what the pass took
pub record Taking (T : Type 0) : Type 0 where
  pub home : ℕ × ℕ
  pub put : List T
  pub taken : List T

-- an office: which one it is, what each pass posted that came back, what was drained, and how many passes are out
pub record OfficeState : Type 0 where
  pub home : ℕ × ℕ
  pub recorded : List (List Letter)
  pub drained : List Letter
  pub out : ℕ

-- a pass that is out: of which office it is, and what it posted
pub record Posting : Type 0 where
  pub home : ℕ × ℕ
  pub posted : List Letter

module _ {T : Type 0} where
  -- a list with nothing in it
  abbrev pub new_list : ℕ × ℕ → WorkState T
  new_list home = record { home = home; put = []; taken = []; recorded = []; out = 0 }

  -- x is put
  abbrev pub puts : WorkState T → T → WorkState T
  puts list x = record list { put = list.put ++ x ∷ [] }

  -- x is taken by the list itself
  abbrev pub takes_itself : WorkState T → T → WorkState T
  takes_itself list x = record list { taken = list.taken ++ x ∷ [] }

  -- a new pass of a list
  abbrev pub new_taking : WorkState T → Taking T
  new_taking list = record { home = list.home; put = list.put; taken = [] }

  -- the list, when a pass goes out
  abbrev pub lets_out : WorkState T → WorkState T
  lets_out list = record list { out = list.out + 1 }

  -- the list, when a pass comes back, with what it took
  abbrev pub takes_in : WorkState T → Taking T → WorkState T
  takes_in list pass = record list { recorded = list.recorded ++ pass.taken ∷ []; out = list.out - 1 }

  -- a pass takes x
  abbrev pub takes : Taking T → T → Taking T
  takes pass x = record pass { taken = pass.taken ++ x ∷ [] }

-- an office with nothing in it
abbrev pub new_office : ℕ × ℕ → OfficeState
new_office home = record { home = home; recorded = []; drained = []; out = 0 }

-- a new pass of an office
abbrev pub new_posting : OfficeState → Posting
new_posting office = record { home = office.home; posted = [] }

-- the office, when a pass goes out
abbrev pub opens : OfficeState → OfficeState
opens office = record office { out = office.out + 1 }

-- the office, when a pass comes back, with what it posted
abbrev pub closes : OfficeState → Posting → OfficeState
closes office pass = record office { recorded = office.recorded ++ pass.posted ∷ []; out = office.out - 1 }

-- letters are drained
abbrev pub drains : OfficeState → List Letter → OfficeState
drains office letters = record office { drained = office.drained ++ letters }

-- a pass posts a letter
abbrev pub posts : Posting → Letter → Posting
posts pass letter = record pass { posted = pass.posted ++ letter ∷ [] }
