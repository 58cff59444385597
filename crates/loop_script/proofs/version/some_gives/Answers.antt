use Rattle.std.proofs.Common.{Bool, ap, ◌∙◌}
use Rattle.std.specs.List.{list_any}
use Rattle.serde_json.specs.Data.{Data}
use Rattle.serde_json.specs.Find.{get}
use Rattle.loop_script.specs.Version.{list_gives}
use Rattle.loop_script.proofs.Gives.{any_viewed}
use Rattle.loop_script.proofs.version.some_gives.Goals as goal

pub returns : goal.returns
returns c =
    let has : Data → Bool = λ d. list_gives (get c.args.key.now d) in
    c.any_list_gives.ensures ∙ any_viewed has c.items_of.result.now ∙ ap (list_any has) c.items_of.ensures
