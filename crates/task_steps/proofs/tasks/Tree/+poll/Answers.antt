use Rattle.std.proofs.Common.{Box, Global, ◌≡◌, ◌∙◌, ◌++◌, ◌+◌, ℕ, Option, List, ap, sym, subst, arith, rules}
use Rattle.cancel_view.specs.Seen.{Seen}
use Rattle.task_steps.specs.declared.entry.Reply.{Reply}
use Rattle.task_steps.specs.declared.entry.Entry.{Entry}
use Rattle.task_steps.specs.declared.mark.Mark.{Mark}
use Rattle.task_steps.specs.declared.mark.Round.{Round}
use Rattle.task_steps.specs.declared.tasks.Sides.{Sides}
use Rattle.task_steps.specs.declared.tasks.Tree.{Tree, Two}
use Rattle.task_steps.specs.BookInside.{entries_below, mark_of, joined_mark, IsMarked}
use Rattle.task_steps.specs.Polls.{CanPollAll, HasPolledAll, NoneComes}
use Rattle.task_steps.proofs.Nodes.{nodes}
use Rattle.task_steps.proofs.Lists.{can_split, polled_joined}
use Rattle.task_steps.proofs.Marks.{mark_joined}
use Rattle.task_steps.proofs.PollAll.{passed_quiet, comes_left, comes_right}
use Rattle.task_steps.proofs.tasks.Tree.+poll.Goals as goal

pub returns-then-is_quiet-clause-polled : goal.returns-then-is_quiet-clause-polled
returns-then-is_quiet-clause-polled t c =
    passed_quiet c.args.round c.args.view.now c.args.mark (entries_below c.args.self.now) c.args.replies.now.items c.args.late.now.items c.requires.known (c.is_quiet.ensures.0 c.if-is_quiet.true) c.requires.can c.requires.came

-- what is known of a node's sides, where it is known of the node
pub record AskedOfSides (round : Round) (view : Seen) (node : Tree) (s : Sides) : Type 0 where
  pub entries : entries_below node ≡ entries_below s.left ++ entries_below s.right
  pub all : nodes node ≡ nodes s.left + nodes s.right + 1
  pub left_mark : s.left_mark ≡ mark_of (entries_below s.left)
  pub right_mark : s.right_mark ≡ mark_of (entries_below s.right)
  pub left : IsMarked s.left
  pub right : IsMarked s.right
  pub can_left : CanPollAll round.tick round.polled view (entries_below s.left)
  pub can_right : CanPollAll round.tick round.polled view (entries_below s.right)
  pub came_left : NoneComes round.came view (entries_below s.left)
  pub came_right : NoneComes round.came view (entries_below s.right)

asked_of_sides : (round : Round) (view : Seen) (node : Tree) (b : Box Sides Global) (s : Sides) → node ≡ Two b → s ≡ b.value → IsMarked node → CanPollAll round.tick round.polled view (entries_below node) → NoneComes round.came view (entries_below node) → AskedOfSides round view node s
asked_of_sides round view node b s is same marked can came =
    let entries : entries_below node ≡ entries_below s.left ++ entries_below s.right = rw same (ap entries_below is) in
    let of_sides : IsMarked (Two b) = subst (λ (x : Tree). IsMarked x) is marked in
    let both = can_split round.tick round.polled view (entries_below s.left) (entries_below s.right) (subst (λ (l : List Entry). CanPollAll round.tick round.polled view l) entries can) in
    let came_both = subst (λ (l : List Entry). NoneComes round.came view l) entries came in
    record {
      entries = entries;
      all = rw same (ap nodes is);
      left_mark = rw same of_sides.0;
      right_mark = rw same of_sides.1;
      left = rw same of_sides.2;
      right = rw same of_sides.3;
      can_left = both.0;
      can_right = both.1;
      came_left = comes_left round.came view (entries_below s.left) (entries_below s.right) came_both;
      came_right = comes_right round.came view (entries_below s.left) (entries_below s.right) came_both;
    }

pub poll-requires : goal.poll-requires
poll-requires t c =
    let a = asked_of_sides c.args.round c.args.view.now c.args.self.now c.in-Two.sides c.deref_mut-node.result.now c.in-Two.is (search rules) c.requires.marked c.requires.can c.requires.came in
    (omega (arith, a.all, c.decreases), (a.left_mark, (a.left, (c.requires.tick, (a.can_left, a.came_left)))))

pub poll-requires-in-Two : goal.poll-requires-in-Two
poll-requires-in-Two t c =
    let a = asked_of_sides c.args.round c.args.view.now c.args.self.now c.in-Two.sides c.deref_mut-node.result.now c.in-Two.is (search rules) c.requires.marked c.requires.can c.requires.came in
    (omega (arith, a.all, c.decreases), (a.right_mark, (a.right, (c.requires.tick, (a.can_right, a.came_right)))))

-- what is polled of both sides is polled of their node
polled_node : (tick : ℕ) (polled : Option ℕ) (view : Seen) (node : Tree) (b : Box Sides Global) (s : Sides) (one other both : List Entry) (rs ss us : List Reply) (ls ms ns : List ℕ) → node ≡ Two b → s ≡ b.value
    → HasPolledAll tick polled view (entries_below s.left) one rs ss ls ms → HasPolledAll tick polled view (entries_below s.right) other ss us ms ns → both ≡ one ++ other → HasPolledAll tick polled view (entries_below node) both rs us ls ns
polled_node tick polled view node b s one other both rs ss us ls ms ns is same h k e =
    let entries : entries_below node ≡ entries_below s.left ++ entries_below s.right = rw same (ap entries_below is) in
    rw (entries, e) (polled_joined h k)

pub returns-in-Some-clause-polled : goal.returns-in-Some-clause-polled
returns-in-Some-clause-polled t c =
    polled_node c.args.round.tick c.args.round.polled c.args.view.now c.args.self.now c.in-Two.sides c.deref_mut-node.result.now (entries_below c.poll.new.self) (entries_below c.poll-in-Two.new.self) (entries_below c.in-Some.tasks) _ _ _ _ _ _ c.in-Two.is (search rules)
    c.in_ok-left_mark-in-Two.ensures.polled c.in_ok-right_mark-in-Two.ensures.polled c.in-Some.ensures.entries

pub returns-in_default-clause-polled : goal.returns-in_default-clause-polled
returns-in_default-clause-polled t c =
    let same = ap (λ (s : Sides). entries_below s.left ++ entries_below s.right) c.in_default.ensures.same in
    polled_node c.args.round.tick c.args.round.polled c.args.view.now c.args.self.now c.in-Two.sides c.deref_mut-node.result.now (entries_below c.poll.new.self) (entries_below c.poll-in-Two.new.self) (entries_below c.left_over.new.self.left ++ entries_below c.left_over.new.self.right) _ _ _ _ _ _ c.in-Two.is (search rules)
    c.in_ok-left_mark-in-Two.ensures.polled c.in_ok-right_mark-in-Two.ensures.polled same

-- the marks of both sides together are the mark of both
both_sides : (left right both : Mark) (es fs gs : List Entry) → both ≡ joined_mark left right → left ≡ mark_of es → right ≡ mark_of fs → gs ≡ es ++ fs → both ≡ mark_of gs
both_sides left right both es fs gs j a b e = j ∙ rw (a, b, e) (sym (mark_joined es fs))

pub returns-in-Some-clause-mark : goal.returns-in-Some-clause-mark
returns-in-Some-clause-mark t c =
    both_sides c.in_ok-left_mark-in-Two.field-0 c.in_ok-right_mark-in-Two.field-0 c.join-mark.result (entries_below c.poll.new.self) (entries_below c.poll-in-Two.new.self) (entries_below c.in-Some.tasks) c.join-mark.ensures c.in_ok-left_mark-in-Two.ensures.mark c.in_ok-right_mark-in-Two.ensures.mark c.in-Some.ensures.entries

pub returns-in_default-clause-mark : goal.returns-in_default-clause-mark
returns-in_default-clause-mark t c =
    let same = ap (λ (s : Sides). entries_below s.left ++ entries_below s.right) c.in_default.ensures.same in
    both_sides c.in_ok-left_mark-in-Two.field-0 c.in_ok-right_mark-in-Two.field-0 c.join-mark.result (entries_below c.poll.new.self) (entries_below c.poll-in-Two.new.self) (entries_below c.left_over.new.self.left ++ entries_below c.left_over.new.self.right) c.join-mark.ensures c.in_ok-left_mark-in-Two.ensures.mark c.in_ok-right_mark-in-Two.ensures.mark same
