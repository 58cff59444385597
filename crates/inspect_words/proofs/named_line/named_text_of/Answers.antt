use Rattle.std.proofs.Common.{slice_get, string_bytes}
use Rattle.tick_stepper.specs.Account.{lanes_in}
use Rattle.inspect_words.proofs.Telling.{of_moment}
use Rattle.inspect_words.proofs.named_line.named_text_of.Goals as goal

pub returns : goal.returns
returns c live =
    of_moment (slice_get (lanes_in c.args.run.account.now.place) c.args.moment.now.lane) c.args.moment.now c.args.run.account.now.script.tick_us c.args.run.names.now c.lines_of.result.now (string_bytes c.new-text.result) (string_bytes c.push_named_lines.new.out)
    (c.lines_of.ensures live) c.new-text.ensures.bytes (rw c.in_ok-push_named_lines.was at c.push_named_lines.ensures)
