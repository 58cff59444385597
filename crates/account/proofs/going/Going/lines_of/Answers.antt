use Rattle.std.proofs.Common.{length, ap, sym, ◌∙◌, List}
use Rattle.lane_turn.specs.Lane.{State}
use Rattle.tick_stepper.specs.Share.{lanes_in as lanes_of}
use Rattle.account.specs.Told.{trace_at}
use Rattle.account.proofs.Lines.{lines_none, lines_some}
use Rattle.account.proofs.going.Going.lines_of.Goals as goal

pub returns-in-None : goal.returns-in-None
returns-in-None c =
    sym (ap length (ap (λ (ss : List State). trace_at c.args.lane (lanes_of ss)) (sym c.deref.ensures.value) ∙ lines_none c.deref.result.now c.args.lane c.in-None.ensures.lookup.0))

pub returns-in-Some : goal.returns-in-Some
returns-in-Some c =
    ap length (c.trace.ensures ∙ sym (ap (λ (ss : List State). trace_at c.args.lane (lanes_of ss)) (sym c.deref.ensures.value) ∙ lines_some c.deref.result.now c.args.lane c.in-Some.lane.now c.in-Some.ensures.lookup.0 c.in-Some.ensures.lookup.1))
