-- A script and its text, computed from the definitions.
use Rattle.std.specs.Prelude.{◌≡◌, [], ◌∷◌, ◌++◌, codes, pos, false, Some}
use Rattle.loop_script.specs.declared.plan.Plan.{Plan}
use Rattle.loop_script.specs.declared.source.Kind.TheVariants.{Idle}
use Rattle.loop_script.specs.declared.action.Action.TheVariants.{Attach, Run, Log}
use Rattle.mainctx.specs.Text.{text_of}

-- one idle source that calls a procedure, over two ticks
abbrev pub first_script : Plan
first_script = record {
  version = 1;
  ticks = 2;
  tick_us = 1000;
  lanes = (record { contexts = 1; start = Attach 0 0 (record { kind = Idle; priority = pos 200; recurse = false; call = Some 0 }) ∷ Run 0 ∷ [] }) ∷ [];
  cancellables = 0;
  fds = [];
  loops = 0 ∷ [];
  procs = (record { actions = Log 7 ∷ []; keep = Some 0 }) ∷ [];
}

-- it is dispatched once, and destroyed
abbrev pub FirstRun : Type 0
FirstRun = text_of first_script ≡ codes "thread 0\n" ++ (codes "0 dispatch ctx 0 source 1 priority 200 depth 1\n" ++ codes "0 log 7\n")
