use Rattle.std.proofs.Common.{rules}
use Rattle.std.proofs.lemmas.List.Sorted.{answers_always}
use Rattle.by_id.specs.declared.entry.Entry.{Entry}
use Rattle.by_id.proofs.Entries.{put_at, put_between}
use Rattle.by_id.proofs.entry.put_among.Goals as goal

-- the closure gives an entry's id
pub returns-in-Ok-clause-rises : goal.returns-in-Ok-clause-rises
returns-in-Ok-clause-rises g c =
    (put_at c.args.id c.args.value c.deref.result.now c.args.entries.now.items c.in-Ok.at c.deref.ensures.value c.requires c.in-Ok.ensures.bound
    (c.in-Ok.ensures.position (λ (e : Entry g.row.T.Denot). e.id) (answers_always _ _ _ (λ f a r h called. search rules)))).rises

pub returns-in-Ok-clause-ok : goal.returns-in-Ok-clause-ok
returns-in-Ok-clause-ok g c =
    (put_at c.args.id c.args.value c.deref.result.now c.args.entries.now.items c.in-Ok.at c.deref.ensures.value c.requires c.in-Ok.ensures.bound
    (c.in-Ok.ensures.position (λ (e : Entry g.row.T.Denot). e.id) (answers_always _ _ _ (λ f a r h called. search rules)))).same

pub returns-in_ok-insert-in-Err-clause-rises : goal.returns-in_ok-insert-in-Err-clause-rises
returns-in_ok-insert-in-Err-clause-rises g c =
    rw c.in_ok-insert-in-Err.ensures.items
    (put_between c.args.id c.args.value c.deref.result.now c.args.entries.now.items c.in-Err.at c.deref.ensures.value c.requires
    (c.in-Err.ensures.position (λ (e : Entry g.row.T.Denot). e.id) (answers_always _ _ _ (λ f a r h called. search rules)))).rises

pub returns-in_ok-insert-in-Err-clause-ok : goal.returns-in_ok-insert-in-Err-clause-ok
returns-in_ok-insert-in-Err-clause-ok g c =
    rw c.in_ok-insert-in-Err.ensures.items
    (put_between c.args.id c.args.value c.deref.result.now c.args.entries.now.items c.in-Err.at c.deref.ensures.value c.requires
    (c.in-Err.ensures.position (λ (e : Entry g.row.T.Denot). e.id) (answers_always _ _ _ (λ f a r h called. search rules)))).same
