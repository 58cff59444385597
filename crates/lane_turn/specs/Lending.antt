-- What a lane that lends one of its contexts becomes.
use Rattle.std.specs.Prelude.{Option, Some}
use Rattle.std.specs.Borrow.{LendsIf, MutBor, Fml}
use Rattle.std.specs.Vec.{with_item}
use Rattle.loop_script.specs.Units.{ContextNumber}
use Rattle.context_core.specs.declared.context.Context.{Context}
use Rattle.context_core.specs.contracts.context.Context as contexts
use Rattle.lane_turn.specs.declared.lane.Lane.{Lane}
use Rattle.lane_turn.specs.contracts.lane.Lane.{the_row}

-- a lane that is given back a context
abbrev pub given_back : Lane → ContextNumber → Context → Lane
given_back lane number context = record lane { contexts = with_item lane.contexts number (Some context) }

-- the lane ends with the last value behind the context that it lends; where it lends none, as it was
abbrev pub LendsContext : MutBor Lane → ContextNumber → Option (MutBor Context) → Fml
LendsContext lane number r = LendsIf the_row contexts.the_row lane r (given_back lane.now number) lane.now
