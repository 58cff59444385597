use Rattle.std.proofs.Common.{true, arith, ◌≡◌, ◌<◌, length, get_or}
use Rattle.inspect_text.proofs.Gathering.{added_ok}
use Rattle.inspect_text.proofs.run_text.add.Goals as goal

pub returns-in-Some-clause-text : goal.returns-in-Some-clause-text
returns-in-Some-clause-text c =
    let low : c.args.thread < length c.args.threads.now.items = omega (arith, c.in-Some.ensures.variant.0 (λ k. true), c.args.threads.now.ok.0) in
    let is : c.in-Some.out.now ≡ get_or c.args.threads.now.items c.args.thread c.in-Some.out.now = c.in-Some.ensures.value in
    added_ok c.push_str.result c.args.threads.now.items c.args.thread c.in-Some.out.now c.push_str.new.self c.args.text.now low is c.push_str.ensures.bytes
