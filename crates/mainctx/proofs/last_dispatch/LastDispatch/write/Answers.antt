use Rattle.std.proofs.Common.{rules, ◌≡◌, ◌+◌, ◌++◌, drop, take, length, arith, refl, sym, ap, ◌∙◌, ℕ, List}
use Rattle.std.proofs.lemmas.Fmt.{length-decimal-le}
use Rattle.std.specs.Fmt.{decimal}
use Rattle.mainctx.specs.LastDispatch.{head_text, tail_text}
use Rattle.mainctx.proofs.Endings.{end_kept, prefix_kept, line_is}
use Rattle.mainctx.proofs.last_dispatch.LastDispatch.write.Goals as goal

pub write_digits-number-requires : goal.write_digits-number-requires
write_digits-number-requires c = (omega (arith, length-decimal-le 20 c.args.source (omega arith) (omega arith) (omega arith), c.requires.room), omega (arith, c.requires.within, c.requires.long))

pub put_head-self-requires : goal.put_head-self-requires
put_head-self-requires c = omega (arith, c.requires.room, c.requires.within, length-decimal-le 20 c.args.source (omega arith) (omega arith) (omega arith))

pub returns-then-number-self-clause-holds : goal.returns-then-number-self-clause-holds
returns-then-number-self-clause-holds c =
    let now = c.args.self.now in
    let n = c.write_digits-number in
    let h = c.put_head-self in
    let head : head_text c.args.tick c.args.context ≡ head_text now.tick now.context = rw (c.if-self-tick.false, c.if-self-context.false) refl in
    let same = end_kept n.new.buf h.new.bytes (head_text c.args.tick c.args.context) h.result n.result h.ensures.written h.ensures.start in
    record {
      head = h.ensures.written ∙ ap (λ (l : List ℕ). l ++ drop n.result n.new.buf) head ∙ ap (λ (l : List ℕ). head_text now.tick now.context ++ l) (sym same);
      start = ap (λ (l : List ℕ). h.result + length l) (sym head) ∙ h.ensures.start;
      tail = end_kept now.bytes h.new.bytes (decimal c.args.source) n.result now.tail (same ∙ n.ensures.written) n.ensures.start ∙ c.requires.tail;
      room = c.requires.room;
      within = c.requires.within;
      long = h.array_long;
    }

pub returns-then-number-self-clause-line : goal.returns-then-number-self-clause-line
returns-then-number-self-clause-line c =
    let now = c.args.self.now in
    let n = c.write_digits-number in
    let h = c.put_head-self in
    let p : now.priority ≡ c.args.priority = search rules in
    let tail : tail_text now.priority now.depth ≡ tail_text c.args.priority c.args.depth = rw (p, c.if-self-depth.false) refl in
    h.ensures.written
    ∙ ap (λ (l : List ℕ). head_text c.args.tick c.args.context ++ l) (n.ensures.written ∙ ap (λ (l : List ℕ). decimal c.args.source ++ l) (c.requires.tail ∙ tail))
    ∙ line_is c.args.tick c.args.context c.args.source c.args.priority c.args.depth

pub returns-else-number-self-clause-holds : goal.returns-else-number-self-clause-holds
returns-else-number-self-clause-holds c =
    let now = c.args.self.now in
    let n = c.write_digits-number in
    let at = c.if-number-self.false in
    let written : drop now.number n.new.buf ≡ decimal c.args.source ++ drop now.tail now.bytes = rw at at n.ensures.written in
    let before : take now.number n.new.buf ≡ take now.number now.bytes = rw at at n.ensures.before in
    let start : now.number + length (decimal c.args.source) ≡ now.tail = rw at at n.ensures.start in
    let long : length n.new.buf ≡ 256 = search rules in
    record {
      head = prefix_kept now.bytes n.new.buf (head_text now.tick now.context) now.start now.number before c.requires.head c.requires.start (omega (arith, c.requires.within));
      start = c.requires.start;
      tail = end_kept now.bytes n.new.buf (decimal c.args.source) now.number now.tail written start ∙ c.requires.tail;
      room = c.requires.room;
      within = c.requires.within;
      long = long;
    }

pub returns-else-number-self-clause-line : goal.returns-else-number-self-clause-line
returns-else-number-self-clause-line c =
    let now = c.args.self.now in
    let n = c.write_digits-number in
    let at = c.if-number-self.false in
    let written : drop now.number n.new.buf ≡ decimal c.args.source ++ drop now.tail now.bytes = rw at at n.ensures.written in
    let before : take now.number n.new.buf ≡ take now.number now.bytes = rw at at n.ensures.before in
    let start : now.number + length (decimal c.args.source) ≡ now.tail = rw at at n.ensures.start in
    let long : length n.new.buf ≡ 256 = search rules in
    let kept = prefix_kept now.bytes n.new.buf (head_text now.tick now.context) now.start now.number before c.requires.head c.requires.start (omega (arith, c.requires.within)) in
    let p : now.priority ≡ c.args.priority = search rules in
    let tail : tail_text now.priority now.depth ≡ tail_text c.args.priority c.args.depth = rw (p, c.if-self-depth.false) refl in
    let head : head_text now.tick now.context ≡ head_text c.args.tick c.args.context = rw (c.if-self-tick.false, c.if-self-context.false) refl in
    kept
    ∙ ap (λ (l : List ℕ). l ++ drop now.number n.new.buf) head
    ∙ ap (λ (l : List ℕ). head_text c.args.tick c.args.context ++ l) (written ∙ ap (λ (l : List ℕ). decimal c.args.source ++ l) (c.requires.tail ∙ tail))
    ∙ line_is c.args.tick c.args.context c.args.source c.args.priority c.args.depth
