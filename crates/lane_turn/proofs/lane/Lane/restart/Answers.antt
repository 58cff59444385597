use Rattle.std.proofs.Common.{◌≡◌, rules, w64, ap, sym, ◌∙◌, Some}
use Rattle.std.proofs.lemmas.Int.{to_z-of_z}
use mir.Val.{SFits}
use Rattle.std.specs.Option.{option_copied}
use Rattle.source_rows.specs.Rows.{RowSet, row_of, ready_set}
use Rattle.lane_turn.specs.Sources.{due_after, restarted}
use Rattle.lane_turn.specs.Lane.{with_rows}
use Rattle.lane_turn.specs.Meaning.{lane_of}
use Rattle.lane_turn.proofs.Edits.{unchanged, edited_by, restarted_timeout}
use Rattle.lane_turn.proofs.lane.Lane.restart.Goals as goal

pub returns-in-Timeout : goal.returns-in-Timeout
returns-in-Timeout c =
    let fits : SFits w64 c.due_after.result = search rules in
    let e = simp to_z-of_z at c.set_ready.ensures.rows in
    let s : RowSet = c.in-Some.context.now.rows in
    let found : Some c.in-Some-found.row.now ≡ row_of c.args.id s.rows = sym (ap option_copied c.in-Some-found.is) ∙ (c.found.ensures ∙ ap (λ (s : RowSet). row_of c.args.id s.rows) c.rows.ensures) in
    let r = restarted_timeout c.args.now c.args.id c.in-Timeout.interval s c.in-Some-found.row.now found c.in-Timeout.is in
    edited_by (restarted c.args.now c.args.id) c.args.context (lane_of c.args.self.now) c.in-Some.context.now c.rows_mut.result.now c.set_ready.new.self c.in-Some.ensures.context c.rows_mut.ensures.rows
    (e ∙ (ap (λ t. ready_set c.args.id t c.rows_mut.result.now) c.due_after.ensures ∙ (ap (ready_set c.args.id (due_after c.in-Timeout.interval c.args.now)) c.rows_mut.ensures.rows ∙ (r ∙ ap (restarted c.args.now c.args.id) (sym c.rows_mut.ensures.rows)))))

pub returns-in_default : goal.returns-in_default
returns-in_default c = unchanged (with_rows (restarted c.args.now c.args.id)) c.args.context (lane_of c.args.self.now) c.in_default.ensures.context
