use Rattle.std.proofs.Common.{sym, ap, ◌∙◌}
use Rattle.cancel_view.specs.Seen.{Seen}
use Rattle.lane_watch.specs.Watch.{viewing}
use Rattle.lane_turn.specs.Meaning.{lane_of}
use Rattle.lane_turn.proofs.Edits.{without_none, missed_else}
use Rattle.lane_turn.proofs.Layers.{on_ok}
use Rattle.lane_turn.proofs.lane.Lane.act_disconnect.Goals as goal

pub returns-else-disconnect : goal.returns-else-disconnect
returns-else-disconnect c =
    let none = sym c.disconnect.ensures.answer ∙ c.if-disconnect.false in
    let same = c.disconnect.ensures.view ∙ ap (λ (s : Seen). viewing s c.args.self.now.watch) (without_none c.in-Some.id c.args.self.now.watch.view none) in
    on_ok c.miss-else-disconnect.result (λ h. h ∙ missed_else c.args.tick c.args.slot c.in-Some.id (lane_of c.args.self.now) c.disconnect.new.self c.in-Some.ensures none same) c.miss-else-disconnect.ensures
