use Rattle.std.proofs.Common.{rules, ◌≡◌, [], drop, arith}
use Rattle.std.proofs.lemmas.List.{drop_all}
use Rattle.mainctx.proofs.last_dispatch.put_tail.Goals as goal

pub returns-clause-written : goal.returns-clause-written
returns-clause-written c =
    let none : drop 256 c.args.bytes.now ≡ [] = drop_all 256 c.args.bytes.now (omega arith) in
    search (rules, none)
