-- The rule of the queue of an office.
use Rattle.std.specs.Prelude.{◌≡◌, ℕ, true, false, List, [], ◌∷◌, ◌++◌, map}
use Rattle.std.specs.List.{sum_by}
use mathlib.Core.Option.{some}
use lib.ListN.{get_elem?}
use Rattle.post_office.specs.declared.letter.Letter.{Letter}
use Rattle.post_office.specs.declared.views.PostView.{PostView}
use Rattle.post_office.specs.Parts.{Mail, IsPosted}

-- what the office's own pass knows: what each pass posted that came back, what was drained, and how many passes are out
abbrev pub keeper : List (List Letter) → List Letter → ℕ → PostView
keeper recorded drained out = record { is_own = true; posted = []; recorded = recorded; drained = drained; out = out }

-- what a thread's pass knows: what it posted, and 1 where it is out
abbrev pub poster : List Letter → ℕ → PostView
poster posted out = record { is_own = false; posted = posted; recorded = []; drained = []; out = out }

-- a pass posts x
abbrev pub posted : PostView → Letter → PostView
posted v x = record { is_own = v.is_own; posted = v.posted ++ x ∷ []; recorded = v.recorded; drained = v.drained; out = v.out }

-- what each pass posted
abbrev pub posted_of : List PostView → List (List Letter)
posted_of vs = map (λ v. v.posted) vs

-- how many passes are out
abbrev pub outs : List PostView → ℕ
outs vs = sum_by (λ v. v.out) vs

-- a pass that was taken back has posted nothing
abbrev pub Fits : PostView → Type 0
Fits v = (v.is_own ≡ false) × (v.out ≡ 0 → v.posted ≡ [])

-- each pass fits
abbrev pub AllFit : List PostView → Type 0
AllFit vs = (port : ℕ) (v : PostView) → get_elem? vs port ≡ some v → Fits v

-- what was posted, by passes that were taken back and by those that are out; and all of it, from the first letter on
abbrev pub mail_of : List Letter → PostView → List PostView → Mail Letter
mail_of items own vs = record { posted = own.recorded ++ posted_of vs; office = own.drained ++ items }

-- at every moment posts led there from nothing: of what the queue holds, and of what its passes know, the office's own first
abbrev pub WasPosted : List Letter → List PostView → Type 0
WasPosted items [] = ⊥
WasPosted items (own ∷ vs) = (own.is_own ≡ true) × (own.out ≡ outs vs) × AllFit vs × IsPosted (mail_of items own vs)

-- at a moment the queue held these, and one of its passes knew this
abbrev pub WasSeen : PostView → List Letter → Type 0
WasSeen v items = (views : List PostView) × (port : ℕ) × WasPosted items views × (get_elem? views port ≡ some v)
