-- A part and a fault as contracts see them.
use Rattle.serde_json.specs.View.{view}
use Rattle.script_check.specs.Found.{Found}
use Rattle.script_check.specs.Parts.{Part}
use Rattle.script_check.specs.Views.{form_of, step_of}
use Rattle.script_check.specs.declared.fault.Fault.{Fault}
use Rattle.script_check.specs.declared.parts.PartOf.{PartOf}

abbrev pub part_view : PartOf → Part
part_view p = record { step = step_of p.step; form = form_of p.wanted; inner = view p.value.now }

abbrev pub found_of : Fault → Found
found_of a = record { place = a.place; form = form_of a.wanted; cause = a.cause }
