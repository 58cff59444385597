use Rattle.std.proofs.Common.{◌+◌, ◌++◌, List, Option, map, ap, ◌∙◌}
use Rattle.serde_json.specs.Data.{Data}
use Rattle.std.proofs.Math.ListN.{get_or}
use Rattle.serde_json.specs.View.{view}
use Rattle.script_check.specs.Found.{nth}
use Rattle.script_check.specs.Parts.{Part, there}
use Rattle.script_check.specs.Views.{form_of}
use Rattle.script_check.specs.Seen.{part_view}
use Rattle.script_check.specs.declared.wanted.Wanted.TheVariants.{Version}
use Rattle.script_check.proofs.Steps.{from_next}
use Rattle.script_check.proofs.parts.parts_from.Goals as goal

pub loop-n-preserved : goal.loop-n-preserved
loop-n-preserved c =
    let at_n = c.args.first + c.loop-n.n in
    let added : Option Data → List Part = λ o. map part_view c.loop-n.found.items ++ there (nth at_n) (form_of (get_or c.args.wanted.now c.loop-n.n Version)) o in
    from_next c.args.first c.loop-n.n c.args.wanted.now (view c.args.value.now) (map part_view c.loop-n.found.items) (map part_view c.push_part.new.found.items) _ c.loop-n-test.true (c.in_ok-push_part.ensures ∙ ap added c.get.ensures) c.loop-n.invariant
