-- Put in order, what the lanes posted is what one thread posts: so its delivery is one.
use Rattle.std.proofs.Common.{◌≡◌, ◌∙◌, List, sym, ap, subst, map}
use Rattle.std.specs.Prelude.{IsPermutation}
use Rattle.std.proofs.lemmas.List.Sorted.{IsPermutation-sym, IsPermutation-trans}
use Rattle.post_office.specs.declared.letter.Letter.{Letter}
use Rattle.post_office.proofs.Sorted.{order_is_one}
use Rattle.lane_turn.specs.Turn.{turned, out_of}
use Rattle.lane_turn.specs.Deliver.{delivered}
use Rattle.lane_turn.specs.Tick.{posted_at}
use Rattle.post_office.specs.Merge.{IsMerge, concat}
use Rattle.tick_stepper.specs.Machine.{TickState, after, opening, taken_of}
use Rattle.tick_stepper.specs.Law.{sent_by, IsTurned, DeliveryIsOne, TickIsOne}
use Rattle.post_office.proofs.Merges.{merge_flat}
use Rattle.tick_stepper.proofs.Concats.{concat_flat, flat_permuted}
use Rattle.tick_stepper.proofs.Workers.{each_turned_once}
use Rattle.tick_stepper.proofs.Posted.{posted_in_order, posted_apart}

pub delivery_is_one : DeliveryIsOne
delivery_is_one script tick lanes lists office sorted order split merge p up =
    let all : List Letter = posted_at script tick lanes in
    let sent : IsPermutation all (concat (sent_by script tick lists)) =
    subst (IsPermutation all) (sym (concat_flat (out_of script tick) lists)) (flat_permuted (out_of script tick) lanes (concat lists) split) in
    let moved : IsPermutation all sorted = IsPermutation-trans _ _ _ sent (IsPermutation-trans _ _ _ (IsPermutation-sym _ _ (merge_flat _ office merge)) p) in
    let same : all ≡ sorted = order_is_one all sorted (posted_apart script tick lanes order) moved (posted_in_order script tick lanes order) up in
    ap (λ (letters : List Letter). delivered script tick letters (map (turned script tick) lanes)) (sym same)

pub tick_is_one : TickIsOne
tick_is_one script tick workers lanes moves turns letters full order back by_number mixed up =
    let s : TickState = after script tick moves (opening workers lanes) in
    let t : IsTurned script tick lanes s = each_turned_once script tick workers lanes moves full in
    ap (delivered script tick letters) (t.ends turns order back by_number)
    ∙ delivery_is_one script tick lanes (taken_of s) s.office letters order t.split (subst (λ (ls : List (List Letter)). IsMerge ls s.office) t.posted t.office) mixed up
