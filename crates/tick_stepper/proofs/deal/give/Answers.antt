use Rattle.std.proofs.Common.{◌≡◌, ◌++◌, [], ◌∷◌, List, ap, ◌∙◌, arith}
use Rattle.std.proofs.lemmas.List.Elements.{All-set}
use Rattle.tick_stepper.specs.declared.share.Share.{Share}
use Rattle.tick_stepper.proofs.Handed.{given_more}
use Rattle.tick_stepper.proofs.Theirs.{workers_set, all_theirs}
use Rattle.tick_stepper.proofs.deal.give.Goals as goal

pub returns-clause-lanes : goal.returns-clause-lanes
returns-clause-lanes c =
    let shares : List Share = c.args.shares.now.items in
    let old : Share = c.index_mut.result.now in
    let new : Share = record { worker = old.worker; lanes = c.push.new.self; tray = old.tray } in
    given_more (λ (share : Share). share.lanes.items) shares c.args.worker new old c.args.lane (omega (arith, c.requires, c.args.shares.now.ok.0)) (c.in_ok-push.ensures.items ∙ ap (λ (share : Share). share.lanes.items ++ c.args.lane ∷ []) c.index_mut.ensures.value)

pub returns-clause-trays : goal.returns-clause-trays
returns-clause-trays c all =
    let old : Share = c.index_mut.result.now in
    let new : Share = record { worker = old.worker; lanes = c.push.new.self; tray = old.tray } in
    All-set (λ (share : Share). share.tray ≡ []) c.args.shares.now.items c.args.worker new (ap (λ (share : Share). share.tray) c.index_mut.ensures.value ∙ all c.args.worker old (omega (arith, c.requires, c.args.shares.now.ok.0))) all

pub returns-clause-workers : goal.returns-clause-workers
returns-clause-workers c h =
    let old : Share = c.index_mut.result.now in
    let new : Share = record { worker = old.worker; lanes = c.push.new.self; tray = old.tray } in
    workers_set 0 c.args.shares.now.items c.args.worker new old (ap (λ (share : Share). share.worker) c.index_mut.ensures.value) h

pub returns-clause-theirs : goal.returns-clause-theirs
returns-clause-theirs c crew dealt is w h =
    let old : Share = c.index_mut.result.now in
    let new : Share = record { worker = old.worker; lanes = c.push.new.self; tray = old.tray } in
    all_theirs crew dealt c.args.lane c.args.shares.now.items c.args.worker new old is (ap (λ (share : Share). share.worker) c.index_mut.ensures.value)
    (c.in_ok-push.ensures.items ∙ ap (λ (share : Share). share.lanes.items ++ c.args.lane ∷ []) c.index_mut.ensures.value) w h
