use Rattle.std.proofs.Common.{◌≡◌, ◌∙◌, ◌<◌, ◌++◌, ◌∷◌, [], ℕ, List, OnOk, ap, sym, subst}
use Rattle.std.specs.List.{AllByRecursion}
use Rattle.by_id.proofs.Entries.{put_behind}
use Rattle.source_rows.proofs.index.Index.push.Goals as goal

pub returns-clause-ok : goal.returns-clause-ok
returns-clause-ok c =
    let slots = c.self.inside.slots in
    let below = subst (AllByRecursion (λ e. e.0 < c.args.id)) (sym c.self.view_is) c.requires in
    let behind = put_behind c.args.id c.args.slot slots below ∙ ap (λ (l : List (ℕ × ℕ)). l ++ (c.args.id, c.args.slot) ∷ []) c.self.view_is in
    subst (λ (l : List (ℕ × ℕ)). OnOk c.put.result (c.put.new.self ≡ l)) behind c.put.ensures.ok
