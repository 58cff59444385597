use Rattle.std.proofs.Common.{◌≡◌, false}
use Rattle.std.specs.Prelude.{slice_index_or}
use Rattle.cancel_view.proofs.Kept.{connected_more}
use Rattle.cancel_view.proofs.view.View.connect.Goals as goal

pub returns-clause-view : goal.returns-clause-view
returns-clause-view c =
    let not_there : slice_index_or c.self.inside.members.items c.args.c false ≡ false = cc in
    rw (← c.self.view_is) (connected_more c.args.c c.args.proc c.self.inside.members.items c.self.inside.handlers c.push.new.self not_there c.in_ok-push.ensures.ok)
