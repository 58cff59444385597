-- The rule of the queue of a work list.
use Rattle.std.specs.Prelude.{◌≡◌, ◌≢◌, ℕ, true, false, List, [], ◌∷◌, ◌++◌, map}
use Rattle.std.specs.List.{sum_by}
use mathlib.Core.Option.{some}
use lib.ListN.{get_elem?}
use Rattle.post_office.specs.declared.views.WorkView.{WorkView}
use Rattle.post_office.specs.Parts.{Work, IsClaimed}
use Rattle.post_office.specs.Passes.{Taking}

module _ {T : Type 0} where
  -- what the list's own pass knows: what was put, what the list took itself, what each pass took that came back, and how many passes are out
  abbrev pub keeper : List T → List T → List (List T) → ℕ → WorkView T
  keeper put taken recorded out = record { is_own = true; put = put; taken = taken; recorded = recorded; out = out }

  -- what a thread's pass knows: what was put, what it took, and 1 where it is out
  abbrev pub taker : List T → List T → ℕ → WorkView T
  taker put taken out = record { is_own = false; put = put; taken = taken; recorded = []; out = out }

  -- a pass takes x
  abbrev pub took : WorkView T → T → WorkView T
  took v x = record { is_own = v.is_own; put = v.put; taken = v.taken ++ x ∷ []; recorded = v.recorded; out = v.out }

  -- what each pass took
  abbrev pub taken_of : List (WorkView T) → List (List T)
  taken_of vs = map (λ v. v.taken) vs

  -- how many passes are out
  abbrev pub outs : List (WorkView T) → ℕ
  outs vs = sum_by (λ v. v.out) vs

  -- a pass that is out knows what was put, and one that was taken back has taken nothing
  abbrev pub Fits : List T → WorkView T → Type 0
  Fits put v = (v.is_own ≡ false) × (v.out ≡ 0 → v.taken ≡ []) × (v.out ≢ 0 → v.put ≡ put)

  -- each pass fits
  abbrev pub AllFit : List T → List (WorkView T) → Type 0
  AllFit put vs = (port : ℕ) (v : WorkView T) → get_elem? vs port ≡ some v → Fits put v

  -- what waits, and what was taken: by the list itself, by passes that were taken back, and by those that are out
  abbrev pub work_of : List T → WorkView T → List (WorkView T) → Work T
  work_of items own vs = record { waiting = items; taken = own.taken ∷ (own.recorded ++ taken_of vs) }

  -- at every moment claims led there from what was put: of what the queue holds, and of what its passes know, the list's own first
  abbrev pub WasClaimed : List T → List (WorkView T) → Type 0
  WasClaimed items [] = ⊥
  WasClaimed items (own ∷ vs) = (own.is_own ≡ true) × (own.out ≡ outs vs) × AllFit own.put vs × IsClaimed own.put (work_of items own vs)

  -- at a moment the queue held these, and one of its passes knew this
  abbrev pub WasSeen : WorkView T → List T → Type 0
  WasSeen v items = (views : List (WorkView T)) × (port : ℕ) × WasClaimed items views × (get_elem? views port ≡ some v)

  -- at a moment, the pass having taken what it has, none waited
  abbrev pub WasEmpty : Taking T → Type 0
  WasEmpty pass = WasSeen (taker pass.put pass.taken 1) []
