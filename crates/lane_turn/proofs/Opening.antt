-- A lane that holds its start call is within the least bound.
use Rattle.std.proofs.Common.{ℕ, zero, suc, Bool, true, false, cond, Option, Some, None, List, [], ◌∷◌, ◌++◌, ◌==◌, refl, arith}
use Rattle.std.proofs.lemmas.List.{length-replicate}
use Rattle.std.specs.List.{AllByRecursion}
use Rattle.loop_script.specs.declared.plan.Plan.{Plan}
use Rattle.loop_script.specs.Parts.{home_of}
use Rattle.loop_script.specs.References.{sizes}
use Rattle.context_core.specs.declared.context.Context.{Context}
use Rattle.lane_turn.specs.Sources.{no_sources}
use Rattle.lane_turn.specs.Turn.{opening, open_context, open_contexts_to}
use Rattle.lane_turn.specs.Sound.{Bounded, IsWithin, IsReady}

each_pushed : (P : Option Context → Type 0) (os : List (Option Context)) (o : Option Context) → AllByRecursion P os → P o → AllByRecursion P (os ++ o ∷ [])
each_pushed P [] o h p = (p, tt)
each_pushed P (x ∷ os) o h p = (h.0, each_pushed P os o h.1 p)

open_by : (script : Plan) (b : Bool) → Bounded 1 (cond b (Some (no_sources script)) None)
open_by script true = record { sources = record { id = omega arith; order = omega arith; counts = tt }; acquires = omega arith }
open_by script false = tt

open_bounded : (script : Plan) (lane n : ℕ) → AllByRecursion (Bounded 1) (open_contexts_to script lane n)
open_bounded script lane zero = tt
open_bounded script lane (suc n) = each_pushed (Bounded 1) (open_contexts_to script lane n) (open_context script lane n) (open_bounded script lane n) (open_by script (home_of script n == lane))

opening_within : (script : Plan) (lane : ℕ) → IsWithin 1 (opening script lane)
opening_within script lane = record { contexts = open_bounded script lane (sizes script).contexts; frames = omega arith; handlers = omega arith }

pub opening_ready : (script : Plan) (lane : ℕ) → IsReady script 0 1 (opening script lane)
opening_ready script lane = record { within = opening_within script lane; view = simp length-replicate; now = refl; next = omega arith; few = omega arith }
