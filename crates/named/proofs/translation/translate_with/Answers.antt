use Rattle.std.proofs.Common.{◌≡◌, [], ap, sym, ◌∙◌, length, map, rules}
use Rattle.std.proofs.lemmas.List.{nil_from_length}
use Rattle.json.specs.Print.{print}
use Rattle.json.specs.Value.{value_view}
use Rattle.named.specs.Faults.{faults_in}
use Rattle.named.specs.Views.{found_of}
use Rattle.named.specs.Written.{levels, written}
use Rattle.named.specs.declared.sort.Object.TheVariants as objects
use Rattle.named.specs.declared.sort.Sort.TheVariants as sorts
use Rattle.named.proofs.translation.translate_with.Goals as goal

pub returns : goal.returns
returns c =
    let d = value_view c.args.script.now in
    let s = sorts.An objects.Script in
    let size : length c.in_ok-faults.faults.items ≡ 0 = search rules in
    let nil = nil_from_length c.in_ok-faults.faults.items size in
    let none = sym (c.in_ok-faults.ensures ∙ ap (λ ns. faults_in levels ns [] s d) c.requires) ∙ ap (map found_of) nil in
    (none, c.in_ok-numbered_text.ensures ∙ ap (λ ns. print (written levels ns s d)) c.requires)
