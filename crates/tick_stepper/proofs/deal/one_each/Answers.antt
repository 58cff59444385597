use Rattle.std.proofs.Common.{rules, ◌≡◌, ◌++◌, ◌∙◌, [], ◌∷◌, List, sym, ap, subst}
use Rattle.std.specs.List.{All}
use Rattle.tick_stepper.specs.Share.{handed}
use Rattle.tick_stepper.specs.declared.share.Share.{Share}
use Rattle.tick_stepper.proofs.Theirs.{none_more, handed_more}
use Rattle.tick_stepper.proofs.deal.one_each.Goals as goal

pub loop-lane-preserved : goal.loop-lane-preserved
loop-lane-preserved c =
    let inv = c.loop-lane.invariant in
    let shares : List Share = c.loop-lane.shares.items in
    let made : Share = record { worker = 0; lanes = c.push.new.self; tray = c.new.result } in
    let pushed : c.push-in-loop-lane.new.self.items ≡ shares ++ made ∷ [] = search rules in
    let alone : made.lanes.items ≡ c.in-Some.lane ∷ [] = search rules in
    let blank : made.tray ≡ [] = search rules in
    (tt, tt, ap handed pushed ∙ handed_more shares made ∙ (λ i. inv.2 i ++ alone i), subst (λ (l : List Share). All (λ share. share.tray ≡ []) l) (sym pushed) (none_more (λ share. share.tray ≡ []) shares made inv.3 blank))
