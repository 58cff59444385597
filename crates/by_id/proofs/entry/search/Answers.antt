use Rattle.std.proofs.Common.{rules}
use Rattle.std.proofs.lemmas.List.Sorted.{answers_always}
use Rattle.by_id.specs.declared.entry.Entry.{Entry}
use Rattle.by_id.proofs.Entries.{found, not_found}
use Rattle.by_id.proofs.entry.search.Goals as goal

-- the closure gives an entry's id
pub returns-in-Ok-clause-some : goal.returns-in-Ok-clause-some
returns-in-Ok-clause-some g c =
    found c.args.id c.args.entries.now c.in-Ok.at c.in-Ok.ensures.bound (c.in-Ok.ensures.position (λ (e : Entry g.row.T.Denot). e.id) (answers_always _ _ _ (λ f a r h called. search rules)))

pub returns-in-Err-clause-none : goal.returns-in-Err-clause-none
returns-in-Err-clause-none g c =
    not_found c.args.id c.args.entries.now c.in-Err.field-0 c.requires (c.in-Err.ensures.position (λ (e : Entry g.row.T.Denot). e.id) (answers_always _ _ _ (λ f a r h called. search rules)))
