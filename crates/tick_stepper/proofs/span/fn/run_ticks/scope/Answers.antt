use mathlib.Core.List.{[], ◌∷◌}
use mir.Syntax.{Sym, named}
use denote.Exit.{no}
use denote.RattleType.{RattleType}
use denote.Struct.Struct.{Struct}
use denote.Struct.Declared.{shape}
use denote.Struct.Field as field
use denote.Struct.Tuple.{TupleAt, type_at}
use denote.Param.{param}
use denote.Param.Send.{IsSend, struct_send, recorded_send, arg_send, param_send, sendable}
use Rattle.loop_script.specs.contracts.script.Script as Script
use Rattle.tick_stepper.specs.contracts.channels.Place as Place
use Rattle.tick_stepper.proofs.Crossing.{place_send, script_sync}
use Rattle.tick_stepper.proofs.span.fn.run_ticks.scope.Lts.{arg-9-1}
use Rattle.tick_stepper.proofs.span.fn.run_ticks.scope.Goals as goal

captured_send : (ν : Sym) (T₀ T₁ T₂ T₃ : RattleType) → IsSend T₀ → IsSend T₁ → IsSend T₂ → IsSend T₃ → IsSend (TupleAt ν (T₀ ∷ T₁ ∷ T₂ ∷ T₃ ∷ []))
captured_send ν T₀ T₁ T₂ T₃ s₀ s₁ s₂ s₃ = let T = type_at ν (T₀ ∷ T₁ ∷ T₂ ∷ T₃ ∷ []) in recorded_send (Struct (shape T)) T.D T.to T.to_one (struct_send (shape T) (s₀, (s₁, (s₂, (s₃, tt)))))

pub spawn-thread-requires-send-F : goal.spawn-thread-requires-send-F
spawn-thread-requires-send-F g c κs _ =
    let J : RattleType = param 0 g.row.J in
    let T₀ : RattleType = (field.shr_ref_field (record { mir = named 5; lft = κs.1.1.1.1.1.0 }) (param 1 g.row.R) tt).row in
    let T₁ : RattleType = (field.shr_ref_field (record { mir = named 6; lft = κs.1.1.1.1.1.1.0 }) (param 2 g.row.G) tt).row in
    let T₂ : RattleType = (field.shr_ref_field (record { mir = named 7; lft = κs.1.1.1.1.1.1.1.0 }) Script.the_row tt).row in
    param_send 1 (arg-9-1 g.row.J g.row.R g.row.G g.J.laws g.R.laws g.G.laws g.J.Planned g.J.Planned-dict g.R.Threads g.R.Threads-dict g.R.Wait g.R.Wait-dict g.G.Gate g.G.Gate-dict κs)
    (arg_send _ no _ (captured_send _ T₀ T₁ T₂ (Place.the_row J g.J.Planned)
    (search (c.requires.0, sendable) depth 20) (search (c.requires.1, sendable) depth 20) (search (script_sync, sendable) depth 20)
    (place_send J g.J.Planned)))
