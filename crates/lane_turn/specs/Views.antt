-- What lanes have seen cancelled, before and after turns and deliveries.
use Rattle.std.specs.Prelude.{◌≡◌, ◌<◌, ◌==◌, ◌||◌, Bool, false, List, length}
use Rattle.std.specs.List.{list_any, AllByRecursion}
use Rattle.loop_script.specs.declared.plan.Plan.{Plan}
use Rattle.cancel_view.specs.Seen.{has}
use Rattle.post_office.specs.declared.letter.Letter.{Letter}
use Rattle.post_office.specs.declared.letter.Body.{Body}
use Rattle.post_office.specs.declared.letter.Body.TheVariants.{Attach, Complete, Cancelled, Give}
use Rattle.lane_turn.specs.Lane.{Lane}
use Rattle.lane_turn.specs.Turn.{turned, out_of}
use Rattle.lane_turn.specs.Deliver.{received_all}
use Rattle.lane_turn.specs.Tick.{lanes_at}
use Rattle.loop_script.specs.Units.{Tick, CancellableNumber}

-- whether a letter tells that a cancellable is cancelled
abbrev pub tells_of : CancellableNumber → Body → Bool
tells_of c (Attach context spec) = false
tells_of c (Complete reply) = false
tells_of c (Cancelled k) = k == c
tells_of c (Give context to) = false

-- whether letters tell of a cancellable
abbrev pub tells : CancellableNumber → List Letter → Bool
tells c letters = list_any (λ l. tells_of c l.body) letters

-- of each cancellable all lanes say the same
abbrev pub AreAlike : List Lane → Type 0
AreAlike lanes = (c : CancellableNumber) → (b : Bool) × AllByRecursion (λ lane. has c lane.view ≡ b) lanes

-- all lanes have seen the same at the beginning of a tick
pub record ViewsAgree : Type 0 where
  -- what a lane has seen cancelled after its turn it had seen before, or it sent a letter of it
  pub turned : (script : Plan) (tick : Tick) (lane : Lane) (c : CancellableNumber) → c < length lane.view.members → has c (turned script tick lane).view ≡ (tells c (out_of script tick lane) || has c lane.view)
  -- what it has seen after a delivery it had seen before, or a letter told it
  pub received : (script : Plan) (tick : Tick) (letters : List Letter) (lane : Lane) (c : CancellableNumber) → c < length lane.view.members → has c (received_all script tick letters lane).view ≡ (tells c letters || has c lane.view)
  -- so at the beginning of each tick all lanes have seen the same
  pub same : (script : Plan) (tick : Tick) → AreAlike (lanes_at script tick)
