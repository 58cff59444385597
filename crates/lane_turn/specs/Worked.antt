-- Two scripts whose lanes give contexts, and what these write, computed from the definitions.
use Rattle.std.specs.Prelude.{◌≡◌, List, [], ◌∷◌, map, pos, true, false, Some, None}
use Rattle.loop_script.specs.declared.plan.Plan.{Plan}
use Rattle.loop_script.specs.declared.source.Kind.TheVariants.{Idle, Timeout}
use Rattle.loop_script.specs.declared.action.Action.TheVariants.{Attach, Iterate, Run, Acquire, Release, Invoke, Give, Log}
use Rattle.lane_turn.specs.declared.line.Line.{Line}
use Rattle.lane_turn.specs.declared.line.Event.{Event}
use Rattle.lane_turn.specs.declared.line.Event.TheVariants as events
use Rattle.lane_turn.specs.declared.line.Invoked.TheVariants.{Posted}
use Rattle.lane_turn.specs.declared.line.Word.TheVariants as words
use Rattle.lane_turn.specs.Lane.{Lane}
use Rattle.lane_turn.specs.Tick.{lanes_at}
use Rattle.loop_script.specs.Units.{Tick}

-- a line of a tick
abbrev at : Tick → Event → Line
at tick event = record { tick = tick; event = event }

-- a context with a timeout goes to another lane, and a source that is invoked in the same tick follows it
abbrev pub handed_script : Plan
handed_script = record {
  version = 2;
  ticks = 3;
  tick_us = 1000;
  lanes =
      record {
        contexts = 2;
        start =
            Attach 1 0 (record { kind = Timeout 2; priority = pos 0; recurse = false; call = Some 0 })
            ∷ Give 1 1
            ∷ Attach 1 1 (record { kind = Idle; priority = pos 200; recurse = false; call = None })
            ∷ Invoke 1 1
            ∷ Run 0
            ∷ [];
      }
      ∷ record { contexts = 1; start = Attach 2 0 (record { kind = Timeout 1; priority = pos 0; recurse = false; call = Some 2 }) ∷ Run 1 ∷ [] }
      ∷ [];
  cancellables = 0;
  fds = [];
  loops = 0 ∷ 2 ∷ [];
  procs = record { actions = Log 5 ∷ []; keep = None } ∷ record { actions = Log 6 ∷ []; keep = Some 0 } ∷ record { actions = Iterate 1 ∷ []; keep = None } ∷ [];
}

-- gives that miss: of another's context, to oneself, of one that is acquired, a second time
abbrev pub missing_script : Plan
missing_script = record {
  version = 2;
  ticks = 1;
  tick_us = 1000;
  lanes = record { contexts = 1; start = Give 1 0 ∷ Give 0 0 ∷ Acquire 0 ∷ Give 0 1 ∷ Release 0 ∷ Give 0 1 ∷ Give 0 1 ∷ [] } ∷ record { contexts = 1; start = [] } ∷ [];
  cancellables = 0;
  fds = [];
  loops = 0 ∷ [];
  procs = [];
}

-- what all lanes of a script wrote
abbrev pub traces : Plan → List (List Line)
traces script = map (λ (lane : Lane). lane.trace) (lanes_at script script.ticks)

-- what these scripts write
pub record ContextsGo : Type 0 where
  pub handed : traces handed_script ≡
      (at 0 (events.Give 1 1) ∷ at 0 (events.Miss words.Attach) ∷ at 0 (events.Invoke 1 Posted) ∷ [])
      ∷ (at 0 (events.Hold 1) ∷ at 0 (events.Arrive 1 2) ∷ at 1 (events.Dispatch 2 1 (pos 0) 1) ∷ at 1 (events.Dispatch 1 2 (pos 0) 2) ∷ at 1 (events.Log 6) ∷ at 1 (events.Iterate 1 true)
      ∷ at 2 (events.Dispatch 2 1 (pos 0) 1) ∷ at 2 (events.Dispatch 1 1 (pos 0) 2) ∷ at 2 (events.Log 5) ∷ at 2 (events.Iterate 1 true) ∷ [])
      ∷ []
  pub missing : traces missing_script ≡
      (at 0 (events.Miss words.Give) ∷ at 0 (events.Miss words.Give) ∷ at 0 (events.Acquire 0 true) ∷ at 0 (events.Miss words.Give) ∷ at 0 (events.Give 0 1) ∷ at 0 (events.Miss words.Give) ∷ at 0 events.End ∷ [])
      ∷ (at 0 events.End ∷ at 0 (events.Hold 0) ∷ [])
      ∷ []
