-- Lanes that rested in a tick whose letters tell no cancellation.
use Rattle.std.specs.Prelude.{◌≡◌, ◌+◌, ◌==◌, if◌then◌else◌, Bool, true, false, Option, Some, None, List, [], ◌∷◌, length}
use Rattle.std.specs.List.{list_all, list_any}
use Rattle.loop_script.specs.declared.plan.Plan.{Plan}
use Rattle.loop_script.specs.Units.{Tick, LaneNumber}
use Rattle.post_office.specs.declared.letter.Letter.{Letter}
use Rattle.post_office.specs.declared.letter.Body.{Body}
use Rattle.post_office.specs.declared.letter.Body.TheVariants.{Attach, Complete, Cancelled, Give}
use Rattle.lane_turn.specs.Lane.{State}
use Rattle.tick_stepper.specs.declared.known.Known.{Known}
use Rattle.tick_stepper.specs.declared.known.Rested.{Rested}
use Rattle.tick_stepper.specs.declared.rest.Resting.{Resting}
use Rattle.tick_stepper.specs.Rest.{woken, Rests}

-- whether a letter tells something else than a cancellation
abbrev pub tells_otherwise : Body → Bool
tells_otherwise (Attach context spec) = true
tells_otherwise (Complete reply) = true
tells_otherwise (Cancelled c) = false
tells_otherwise (Give context to) = true

-- whether all letters of a tick do
abbrev pub cancel_nothing : List Letter → Bool
cancel_nothing letters = list_all (λ letter. tells_otherwise letter.body) letters

-- whether the lane of a number sent one of them
abbrev pub has_sent : List Letter → LaneNumber → Bool
has_sent letters number = list_any (λ letter. number == letter.sender) letters

-- how a lane rested, if it sent none
abbrev pub rested_of : List Letter → Resting → Option Rested
rested_of letters one = if has_sent letters one.lane.lane.number then None else Some (record { next = one.next; lines = length one.lane.lane.trace })

-- a lane that took its turn
abbrev pub turned_known : State → Known
turned_known lane = record { lane = lane; rested = None }

-- a lane that rested, brought to a tick
abbrev pub rested_known : Tick → List Letter → Resting → Known
rested_known tick letters one = record { lane = woken tick one; rested = rested_of letters one }

-- so many lines has a lane that rested and sent none of these letters, and it rests from the next tick on
abbrev pub WasKnown : Plan → Tick → List Letter → State → Option Rested → Type 0
WasKnown script tick letters lane None = Unit {0}
WasKnown script tick letters lane (Some rested) =
    (has_sent letters lane.lane.number ≡ false) × (length lane.lane.trace ≡ rested.lines) × Rests script (tick + 1) (record { lane = lane; next = rested.next })

-- where a lane that rested has no line more, it rests on
abbrev pub IsKnown : Plan → Tick → State → Option Rested → Type 0
IsKnown script tick lane None = Unit {0}
IsKnown script tick lane (Some rested) = length lane.lane.trace ≡ rested.lines → Rests script (tick + 1) (record { lane = lane; next = rested.next })

-- the same of all, in their order
abbrev pub AreKnown : Plan → Tick → List State → List (Option Rested) → Type 0
AreKnown script tick [] rested = Unit {0}
AreKnown script tick (lane ∷ lanes) [] = Unit {0}
AreKnown script tick (lane ∷ lanes) (one ∷ rested) = IsKnown script tick lane one × AreKnown script tick lanes rested
