use Rattle.std.proofs.Common.{ap, ◌∙◌}
use Rattle.std.specs.List.{list_any}
use Rattle.loop_script.specs.Version.{begins_give}
use Rattle.loop_script.proofs.Gives.{any_viewed}
use Rattle.loop_script.proofs.version.list_gives.Goals as goal

pub returns : goal.returns
returns c = c.any_begins_give.ensures ∙ any_viewed begins_give c.items_of.result.now ∙ ap (list_any begins_give) c.items_of.ensures
