use Rattle.std.proofs.Common.{rules, ◌≡◌, ◌++◌, ◌∙◌, [], ◌∷◌, List, sym, ap, subst, arith}
use Rattle.std.specs.List.{All}
use Rattle.tick_stepper.specs.Share.{handed, AreWorkers}
use Rattle.tick_stepper.specs.declared.share.Share.{Share}
use Rattle.tick_stepper.proofs.Theirs.{workers_more, none_more, handed_none}
use Rattle.tick_stepper.proofs.deal.empty_shares.Goals as goal

pub loop-worker-preserved : goal.loop-worker-preserved
loop-worker-preserved c =
    let inv = c.loop-worker.invariant in
    let shares : List Share = c.loop-worker.shares.items in
    let made : Share = record { worker = c.loop-worker.worker; lanes = c.new.result; tray = c.new-in-loop-worker.result } in
    let pushed : c.push.new.self.items ≡ shares ++ made ∷ [] = search rules in
    let bare : made.lanes.items ≡ [] = search rules in
    let blank : made.tray ≡ [] = search rules in
    record {
      one_each = search rules;
      lanes = ap handed pushed ∙ handed_none shares made inv.lanes bare;
      trays = subst (λ (l : List Share). All (λ share. share.tray ≡ []) l) (sym pushed) (none_more (λ share. share.tray ≡ []) shares made inv.trays blank);
      workers = subst (AreWorkers 0) (sym pushed) (workers_more 0 shares made inv.workers (omega (arith, inv.one_each, c.loop-worker.shares.ok.0)));
      none = subst (λ (l : List Share). All (λ share. share.lanes.items ≡ []) l) (sym pushed) (none_more (λ share. share.lanes.items ≡ []) shares made inv.none bare);
    }
