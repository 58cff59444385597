use Rattle.std.proofs.Common.{◌^◌, ap, sym, subst, ◌∙◌, List, arith, get_or}
use Rattle.post_office.specs.declared.letter.Letter.{Letter}
use Rattle.lane_turn.specs.Lane.{Lane, State, Turn}
use Rattle.lane_turn.specs.Turn.{begun_polled}
use Rattle.lane_turn.specs.Sound.{IsReady}
use Rattle.lane_turn.specs.Traces.{Grows, IsOf}
use Rattle.account.proofs.Lines.{grows_put}
use Rattle.account.proofs.Moments.{polls_grow}
use Rattle.account.proofs.States.{ready_here, begins_at, owns_put, held_put, unspent_put}
use Rattle.account.proofs.turns.begin.Goals as goal

pub begin_turn-requires-clause-ready : goal.begin_turn-requires-clause-ready
begin_turn-requires-clause-ready c _ =
    ready_here (IsReady c.args.script.now c.args.tick (2 ^ 61)) c.args.lanes.now c.args.at c.index-lanes-at.result (omega arith) c.requires.ready

pub returns-clause-polled : goal.returns-clause-polled
returns-clause-polled c posted =
    let d : State = c.index-lanes-at.result in
    let lane : Lane = (get_or c.args.lanes.now c.args.at d).lane in
    begins_at c.args.script.now c.args.tick c.args.lanes.now c.args.at d c.begin_turn.new.self _ posted (omega arith)
    (c.in_ok-turn.ensures.polled ∙ ap (λ (ls : List Letter). begun_polled c.args.script.now c.args.tick ls lane) c.new-post.ensures)

pub returns-clause-own : goal.returns-clause-own
returns-clause-own c = owns_put c.args.lanes.now c.args.at c.begin_turn.new.self _ (omega arith) c.in_ok-turn.ensures.own

pub returns-clause-held : goal.returns-clause-held
returns-clause-held c =
    let ready = ready_here (IsReady c.args.script.now c.args.tick (2 ^ 61)) c.args.lanes.now c.args.at c.index-lanes-at.result (omega arith) c.requires.ready in
    held_put c.args.script.now c.args.tick c.args.lanes.now c.args.at c.begin_turn.new.self _ (omega arith) (c.in_ok-turn.ensures.going (2 ^ 61) ready)

pub returns-clause-unspent : goal.returns-clause-unspent
returns-clause-unspent c = unspent_put c.args.lanes.now c.args.at c.begin_turn.new.self c.requires.unspent c.in_ok-turn.ensures.lasts

pub returns-clause-grows : goal.returns-clause-grows
returns-clause-grows c =
    let d : State = c.index-lanes-at.result in
    let script = c.args.script.now in
    let tick = c.args.tick in
    let lane : Lane = (get_or c.args.lanes.now c.args.at d).lane in
    let polled = c.in_ok-turn.ensures.polled ∙ ap (λ (ls : List Letter). begun_polled script tick ls lane) c.new-post.ensures in
    grows_put tick c.args.lanes.now c.args.at d c.begin_turn.new.self (omega arith) (subst (λ (t : Turn). Grows (IsOf tick) lane.trace t.lane.trace) (sym polled) (polls_grow script tick lane))
