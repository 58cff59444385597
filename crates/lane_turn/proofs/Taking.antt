-- What is held and taken of replies: by ids that were given, and each once.
use Rattle.std.proofs.Common.{◌≡◌, ◌≢◌, ℕ, zero, suc, ◌+◌, ◌<◌, ◌≤◌, Bool, true, false, cond, Option, Some, None, List, [], ◌∷◌, ◌++◌, length, slice_set, refl, ap, sym, ◌∙◌, arith, subst}
use Rattle.std.specs.Prelude.{nat_lt, is_some, slice_get}
use Rattle.std.specs.List.{AllByRecursion}
use Rattle.std.specs.Ordering.{nat_cmp, match_ordering}
use Rattle.std.specs.declared.cmp.Ordering.{Ordering}
use Rattle.std.specs.declared.cmp.Ordering.TheVariants.{Less, Equal, Greater}
use Rattle.std.specs.Map.{lookup, remove_entry}
use Rattle.std.specs.BTreeMap.{is_at}
use Rattle.std.proofs.lemmas.List.{length-set}
use Rattle.std.proofs.lemmas.List.Sums.{sum_by-cons, sum_by-set, sum_by-append}
use Rattle.std.proofs.lemmas.Map.Lookups.{exact_unsigned}
use Rattle.source_rows.specs.declared.row.Row.{Row}
use Rattle.source_rows.specs.Rows.{counted as counted_once}
use Rattle.context_core.specs.declared.context.Context.{Context}
use Rattle.cancel_view.specs.Seen.{Seen}
use Rattle.lane_turn.specs.declared.line.Line.{Line}
use Rattle.lane_turn.specs.declared.line.Event.TheVariants as events
use Rattle.lane_turn.specs.declared.lane.Status.TheVariants.{Halted}
use Rattle.lane_turn.specs.declared.replies.Awaited.{Awaited}
use Rattle.lane_turn.specs.Replies.{Replies, held_with, held_without, replies_at, reply_held, with_reply, without_reply}
use Rattle.lane_turn.specs.Frames.{calls_in_progress, depth}
use Rattle.lane_turn.specs.Lane.{Lane, present, next_id, edited, written, stopped, taken}
use Rattle.lane_turn.specs.Step.{dispatching, result_lines, result_of}
use Rattle.lane_turn.specs.Owed.{one_for}
use Rattle.lane_turn.specs.Taken.{is_result, results, is_awaited, awaited_in, awaited}
use Rattle.lane_turn.proofs.Leaves.{Rises, Leaves, results_push, own_within, same, line, edit, leaves_trans}

-- ---- what the sources of one context hold

held_cons : (s n : ℕ) (e : ℕ × Awaited) (es : Replies) → awaited_in s n (e ∷ es) ≡ one_for (is_awaited s n e.1) + awaited_in s n es
held_cons s n e es = sum_by-cons (λ (e : ℕ × Awaited). cond (is_awaited s n e.1) 1 0) e es

abbrev pub weight : (s n : ℕ) → Option Awaited → ℕ
weight s n None = 0
weight s n (Some a) = one_for (is_awaited s n a)

held_less : (s n : ℕ) (test : ℕ → Bool) (es : Replies) → awaited_in s n (remove_entry test es) + weight s n (lookup test es) ≡ awaited_in s n es
held_less s n test [] = refl
held_less s n test (e ∷ es) = by (held_less s n test es) (test e.0)
  where
    by : awaited_in s n (remove_entry test es) + weight s n (lookup test es) ≡ awaited_in s n es → (b : Bool) → awaited_in s n (cond b es (e ∷ remove_entry test es)) + weight s n (cond b (Some e.1) (lookup test es)) ≡ awaited_in s n (e ∷ es)
    by r true = omega (arith, held_cons s n e es)
    by r false = omega (arith, held_cons s n e es, held_cons s n e (remove_entry test es), r)

-- no entry has the id
abbrev IsNew : ℕ → Replies → Type 0
IsNew id es = AllByRecursion (λ e. nat_cmp id e.0 ≢ Equal) es

held_more : (s n id : ℕ) (a : Awaited) (es : Replies) → IsNew id es → awaited_in s n (held_with id a es) ≡ awaited_in s n es + one_for (is_awaited s n a)
held_more s n id a [] h = held_cons s n (id, a) [] ∙ omega arith
held_more s n id a (e ∷ es) h = by (held_more s n id a es h.1) (nat_cmp id e.0) h.0
  where
    by : awaited_in s n (held_with id a es) ≡ awaited_in s n es + one_for (is_awaited s n a) → (o : Ordering) → o ≢ Equal → awaited_in s n (match_ordering o ((id, a) ∷ e ∷ es) ((e.0, a) ∷ es) (e ∷ held_with id a es)) ≡ awaited_in s n (e ∷ es) + one_for (is_awaited s n a)
    by r Less g = omega (arith, held_cons s n (id, a) (e ∷ es))
    by r Equal g = absurd (g refl)
    by r Greater g = omega (arith, held_cons s n e es, held_cons s n e (held_with id a es), r)

-- ---- what those of all contexts hold

pub awaited_less : (s n context id : ℕ) (all : List Replies) → awaited s n (without_reply context id all) + weight s n (reply_held context id all) ≡ awaited s n all
awaited_less s n context id [] = refl
awaited_less s n zero id (es ∷ all) = omega (arith, sum_by-cons (awaited_in s n) es all, sum_by-cons (awaited_in s n) (held_without id es) all, held_less s n (is_at (nat_cmp id)) es)
awaited_less s n (suc context) id (es ∷ all) =
    omega (arith, sum_by-cons (awaited_in s n) es all, sum_by-cons (awaited_in s n) es (without_reply context id all), awaited_less s n context id all)

awaited_more : (s n context id : ℕ) (a : Awaited) (all : List Replies) → context < length all → IsNew id (replies_at context all) → awaited s n (with_reply context id a all) ≡ awaited s n all + one_for (is_awaited s n a)
awaited_more s n context id a all l h =
    let held : Replies = replies_at context all in
    omega (arith, sum_by-set (awaited_in s n) all context (held_with id a held) [] l, held_more s n id a held h)

-- ---- the ids of what is held were given

-- what the sources of a context hold, where its next id is given: of one that is not there nothing
abbrev pub AreGiven : ℕ → Replies → Type 0
AreGiven next es = AllByRecursion (λ e. e.0 < next) es

given_still : (before after : ℕ) → before ≤ after → (es : Replies) → AreGiven before es → AreGiven after es
given_still before after r [] h = tt
given_still before after r (e ∷ es) h = (omega (arith, h.0, r), given_still before after r es h.1)

given_without : (next : ℕ) (test : ℕ → Bool) (es : Replies) → AreGiven next es → AreGiven next (remove_entry test es)
given_without next test [] h = tt
given_without next test (e ∷ es) h = by (given_without next test es h.1) (test e.0)
  where
    by : AreGiven next (remove_entry test es) → (b : Bool) → AreGiven next (cond b es (e ∷ remove_entry test es))
    by r true = h.1
    by r false = (h.0, r)

given_with : (next id : ℕ) (a : Awaited) (es : Replies) → id < next → AreGiven next es → AreGiven next (held_with id a es)
given_with next id a [] g h = (g, tt)
given_with next id a (e ∷ es) g h = by (given_with next id a es g h.1) (nat_cmp id e.0)
  where
    by : AreGiven next (held_with id a es) → (o : Ordering) → AreGiven next (match_ordering o ((id, a) ∷ e ∷ es) ((e.0, a) ∷ es) (e ∷ held_with id a es))
    by r Less = (g, h)
    by r Equal = (h.0, h.1)
    by r Greater = (h.0, r)

-- so what is given next is new
next_new : (next : ℕ) (es : Replies) → AreGiven next es → IsNew next es
next_new next [] h = tt
next_new next (e ∷ es) h = (λ q. let p : next ≡ e.0 = exact_unsigned next e.0 q in absurd (omega (arith, p, h.0)), next_new next es h.1)

-- ---- by context

-- what holds of the replies of each context, where those of one are changed
each_set : (P : ℕ → Replies → Type 0) (all : List Replies) (context : ℕ) (es : Replies) → ((c : ℕ) → P c (replies_at c all)) → P context es → (c : ℕ) → P c (replies_at c (slice_set all context es))
each_set P [] context es h g c = h c
each_set P (x ∷ all) zero es h g zero = g
each_set P (x ∷ all) zero es h g (suc c) = h (suc c)
each_set P (x ∷ all) (suc context) es h g zero = h zero
each_set P (x ∷ all) (suc context) es h g (suc c) = each_set (λ i. P (suc i)) all context es (λ i. h (suc i)) g c

-- there is a place for the replies of each context, whose ids were given
pub record AreFresh (contexts : List (Option Context)) (all : List Replies) : Type 0 where
  pub size : length all ≡ length contexts
  pub given : (c : ℕ) → AreGiven (next_id (present (slice_get contexts c))) (replies_at c all)

pub fresh_still : (before after : List (Option Context)) (all : List Replies) → length after ≡ length before → Rises before after → AreFresh before all → AreFresh after all
fresh_still before after all l r f = record { size = f.size ∙ sym l; given = λ c. given_still _ _ (r c) (replies_at c all) (f.given c) }

fresh_less : (contexts : List (Option Context)) (context id : ℕ) (all : List Replies) → AreFresh contexts all → AreFresh contexts (without_reply context id all)
fresh_less contexts context id all f = record {
  size = simp length-set f.size;
  given = each_set (λ c es. AreGiven (next_id (present (slice_get contexts c))) es) all context (held_without id (replies_at context all)) f.given (given_without _ (is_at (nat_cmp id)) (replies_at context all) (f.given context));
}

-- a source that a context gets holds a reply
pub fresh_more : (before after : List (Option Context)) (context : ℕ) (a : Awaited) (all : List Replies) → length after ≡ length before → Rises before after
    → next_id (present (slice_get after context)) ≡ next_id (present (slice_get before context)) + 1 → AreFresh before all → AreFresh after (with_reply context (next_id (present (slice_get before context))) a all)
fresh_more before after context a all l r m f =
    let id : ℕ = next_id (present (slice_get before context)) in
    let still : AreFresh after all = fresh_still before after all l r f in
    record {
      size = simp length-set still.size;
      given = each_set (λ c es. AreGiven (next_id (present (slice_get after c))) es) all context (held_with id a (replies_at context all)) still.given (given_with _ id a (replies_at context all) (omega (arith, m)) (still.given context));
    }

pub awaited_next : (s n : ℕ) (contexts : List (Option Context)) (context : ℕ) (a : Awaited) (all : List Replies) → is_some (present (slice_get contexts context)) ≡ true → AreFresh contexts all
    → awaited s n (with_reply context (next_id (present (slice_get contexts context))) a all) ≡ awaited s n all + one_for (is_awaited s n a)
awaited_next s n contexts context a all e f =
    let id : ℕ = next_id (present (slice_get contexts context)) in
    awaited_more s n context id a all (omega (arith, own_within contexts context e, f.size)) (next_new id (replies_at context all) (f.given context))

-- ---- what moves a reply from what is held to what is told

abbrev pub IsFresh : Lane → Type 0
IsFresh lane = AreFresh lane.contexts lane.replies

pub record Moves (s n : ℕ) (lane after : Lane) : Type 0 where
  pub sum : results s n after.trace + awaited s n after.replies ≡ results s n lane.trace + awaited s n lane.replies
  pub fresh : IsFresh lane → IsFresh after

pub left : (s n : ℕ) (lane after : Lane) → Leaves s n lane after → Moves s n lane after
left s n lane after h = record {
  sum = omega (arith, h.told, ap (awaited s n) h.replies);
  fresh = λ f. fresh_still lane.contexts after.contexts after.replies h.size h.rise (subst (AreFresh lane.contexts) (sym h.replies) f);
}

pub moves_trans : (s n : ℕ) (a b c : Lane) → Moves s n a b → Moves s n b c → Moves s n a c
moves_trans s n a b c h g = record { sum = g.sum ∙ h.sum; fresh = λ f. g.fresh (h.fresh f) }

moves_either : (s n : ℕ) (lane x y : Lane) (b : Bool) → Moves s n lane x → Moves s n lane y → Moves s n lane (cond b x y)
moves_either s n lane x y true p q = p
moves_either s n lane x y false p q = q

results_append : (s n : ℕ) (xs ys : List Line) → results s n (xs ++ ys) ≡ results s n xs + results s n ys
results_append s n xs ys = sum_by-append (λ (l : Line). cond (is_result s n l.event) 1 0) xs ys

result_weight : (s n tick : ℕ) (o : Option Awaited) (view : Seen) → results s n (result_lines tick o view) ≡ weight s n o
result_weight s n tick None view = refl
result_weight s n tick (Some a) view = results_push s n tick (events.Task a.sender a.reply.task (result_of view a.reply)) [] ∙ omega arith

-- the reply that a source holds, at its dispatch
moves_dispatch : (s n tick context id : ℕ) (lane after : Lane)
    → after.trace ≡ lane.trace ++ result_lines tick (reply_held context id lane.replies) lane.view → after.replies ≡ without_reply context id lane.replies → after.contexts ≡ lane.contexts → Moves s n lane after
moves_dispatch s n tick context id lane after t r c =
    let o : Option Awaited = reply_held context id lane.replies in
    let told = ap (results s n) t ∙ results_append s n lane.trace (result_lines tick o lane.view) in
    record {
      sum = omega (arith, told, result_weight s n tick o lane.view, ap (awaited s n) r, awaited_less s n context id lane.replies);
      fresh = λ f. subst (AreFresh after.contexts) (sym r) (subst (λ (cs : List (Option Context)). AreFresh cs (without_reply context id lane.replies)) (sym c) (fresh_less lane.contexts context id lane.replies f));
    }

pub moves_dispatching : (s n tick context : ℕ) (row : Row) (lane : Lane) → Moves s n lane (dispatching tick context row lane)
moves_dispatching s n tick context row lane =
    let there : Lane = edited context (counted_once row.id) (taken lane) in
    let told : Lane = written tick (events.Dispatch context row.id row.priority (depth lane.frames + 1)) there in
    let halted : Lane = written tick events.HaltDepth lane in
    moves_either s n lane _ (stopped Halted halted) (nat_lt (calls_in_progress lane.frames) 32)
    (moves_trans s n lane told _
    (left s n lane told
    (leaves_trans s n lane (taken lane) told (same s n lane (taken lane) refl refl refl refl refl)
    (leaves_trans s n (taken lane) there told (edit s n (taken lane) context (counted_once row.id) (λ rows. omega arith)) (line s n there tick (events.Dispatch context row.id row.priority (depth lane.frames + 1)) refl))))
    (moves_dispatch s n tick context row.id told _ refl refl refl))
    (left s n lane _ (leaves_trans s n lane halted (stopped Halted halted) (line s n lane tick events.HaltDepth refl) (same s n halted (stopped Halted halted) refl refl refl refl refl)))
