use Rattle.std.proofs.Common.{◌≡◌, ◌∙◌, option_map, sym, rules}
use Rattle.std.specs.Option.{option_copied}
use Rattle.source_rows.specs.Rows.{key_of}
use Rattle.source_rows.specs.Seats.{first_awake, in_seats}
use Rattle.source_rows.proofs.AwakeRows.{awake_row, awake_none}
use Rattle.source_rows.proofs.candidates.awake_row.Goals as goal

pub returns-in-None : goal.returns-in-None
returns-in-None c =
    let e : c.first_awake.result ≡ first_awake (option_map key_of (option_copied c.args.last)) c.args.sight.now (in_seats c.args.table.now) = search rules in
    sym (awake_none c.args.table.now (option_copied c.args.last) c.args.sight.now c.requires.apart (sym c.in-None.is ∙ e))

pub returns-in-Some : goal.returns-in-Some
returns-in-Some c =
    let e : c.first_awake.result ≡ first_awake (option_map key_of (option_copied c.args.last)) c.args.sight.now (in_seats c.args.table.now) = search rules in
    c.found.ensures ∙ awake_row c.args.table.now (option_copied c.args.last) c.args.sight.now c.requires.forest c.requires.apart c.in-Some.id (sym c.in-Some.is ∙ e)
