use Rattle.std.proofs.Common.{◌≡◌, ◌<◌, ◌++◌, [], take, length, arith, ap}
use Rattle.program_input.proofs.Inputs.{consumes_nothing, consumes_more, consumes_all}
use Rattle.program_input.proofs.bytes.read_input.Goals as goal

pub input-init : goal.input-init
input-init g c = consumes_nothing (g.R.Read.remaining c.args.input.now) c.new-bytes.result.items c.new-bytes.ensures.items

pub returns-then-n-eq0-clause-whole : goal.returns-then-n-eq0-clause-whole
returns-then-n-eq0-clause-whole g c =
    let bytes = c.in-Ok.ensures.bytes in
    let none : take c.in-Ok.n c.read.new.buf ≡ [] = ap (λ n. take n c.read.new.buf) c.if-n-eq0.true in
    let has_room : 0 < length c.read.new.buf = omega (arith, c.read.auto.buf, c.input.auto.room, c.as_mut_slice-room.ensures.len, c.in_ok-space.ensures.len) in
    consumes_all (g.R.Read.remaining c.args.input.now) (g.R.Read.remaining c.input.input) (g.R.Read.remaining c.read.new.self) c.input.bytes.items (take c.in-Ok.n c.read.new.buf) none c.input.invariant bytes.0 (bytes.1 c.if-n-eq0.true has_room)

pub input-preserved : goal.input-preserved
input-preserved g c =
    let bytes = c.in-Ok.ensures.bytes in
    let items : c.extend_from_slice.new.self.items ≡ c.input.bytes.items ++ take c.in-Ok.n c.read.new.buf = c.in_ok-extend_from_slice.ensures.items in
    consumes_more (g.R.Read.remaining c.args.input.now) (g.R.Read.remaining c.input.input) (g.R.Read.remaining c.read.new.self) c.input.bytes.items (take c.in-Ok.n c.read.new.buf) c.extend_from_slice.new.self.items items c.input.invariant bytes.0
