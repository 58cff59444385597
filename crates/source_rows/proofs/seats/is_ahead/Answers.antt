use Rattle.std.proofs.Common.{rules, ◌≡◌, ◌<◌, ◌^◌, length, slice_index}
use Rattle.std.proofs.lemmas.Int.{to_z-of_z}
use Rattle.std.specs.Int.{w128}
use mir.Val.{SFits}
use Rattle.std.specs.Ordering.{ordering_then, nat_cmp}
use Rattle.source_rows.proofs.Front.{fronts_tell}
use Rattle.source_rows.proofs.seats.is_ahead.Goals as goal

pub returns-else-a-b : goal.returns-else-a-b
returns-else-a-b c =
    let s = c.args.a.now in
    let t = c.args.b.now in
    let one : SFits w128 c.front.result = search rules in
    let other : SFits w128 c.front-else-a-b.result = search rules in
    let long : length s.key.1 ≡ 4 = search rules in
    let longer : length t.key.1 ≡ 4 = search rules in
    let fits : slice_index s.key.1 0 < 2 ^ 64 = search rules in
    let fit : slice_index t.key.1 0 < 2 ^ 64 = search rules in
    rw (to_z-of_z, to_z-of_z, c.front.ensures, c.front-else-a-b.ensures) (fronts_tell s.key.0 t.key.0 s.key.1 t.key.1 (ordering_then (nat_cmp s.id t.id) (ordering_then (nat_cmp s.mark t.mark) (nat_cmp s.due t.due))) long longer fits fit c.if-a-b.false)
