use Rattle.std.proofs.Common.{codes, string_bytes}
use Rattle.named.specs.declared.sort.Kind.TheVariants as kinds
use Rattle.run_names.specs.Text.{within}
use Rattle.run_names.proofs.Pushed.{pushed}
use Rattle.run_names.proofs.run_names.RunNames.push_origin.Goals as goal

pub returns-in_ok-push_str-in-Reply : goal.returns-in_ok-push_str-in-Reply
returns-in_ok-push_str-in-Reply c =
    rw c.in-Reply.is
    (
    pushed c.push_within.result (string_bytes c.args.out.now) (codes "reply of task ") (string_bytes c.push_str.new.self)
    (within kinds.Thread c.in-Reply.lane c.in-Reply.number c.args.self.now.names) (string_bytes c.push_within.new.out)
    (rw c.in_ok-push_str-in-Reply.was at c.push_str.ensures.bytes) c.push_within.ensures
    )
