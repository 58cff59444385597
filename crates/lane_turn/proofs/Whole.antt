-- What goes over with a context, and what stays.
use Rattle.std.proofs.Common.{◌≡◌, ◌≢◌, ℕ, zero, suc, ◌<◌, Bool, true, false, cond, Option, Some, None, List, [], ◌∷◌, length, slice_set, refl, ap, ◌∙◌, arith}
use Rattle.std.specs.Prelude.{is_some, slice_get, slice_index_or, option_map}
use Rattle.context_core.specs.declared.context.Context.{Context}
use Rattle.lane_turn.specs.Replies.{Replies, replies_at}
use Rattle.lane_turn.specs.Lane.{Lane, Kept, present, context_at, is_given}
use Rattle.lane_turn.specs.Handover.{kept_of, handed_of, without_context, taken_over}
use Rattle.lane_turn.specs.Holding.{Stands, ContextsMove}

pub set_here : {X : Type 0} (xs : List X) (i : ℕ) (v : X) → i < length xs → slice_get (slice_set xs i v) i ≡ Some v
set_here [] i v h = absurd (omega (arith, h))
set_here (x ∷ xs) zero v h = refl
set_here (x ∷ xs) (suc i) v h = set_here xs i v (omega (arith, h))

index_here : {X : Type 0} (xs : List X) (i : ℕ) (v d : X) → i < length xs → slice_index_or (slice_set xs i v) i d ≡ v
index_here [] i v d h = absurd (omega (arith, h))
index_here (x ∷ xs) zero v d h = refl
index_here (x ∷ xs) (suc i) v d h = index_here xs i v d (omega (arith, h))

pub set_other : {X : Type 0} (xs : List X) (i j : ℕ) (v : X) → j ≢ i → slice_get (slice_set xs i v) j ≡ slice_get xs j
set_other [] i j v h = refl
set_other (x ∷ xs) zero zero v h = absurd (h refl)
set_other (x ∷ xs) zero (suc j) v h = refl
set_other (x ∷ xs) (suc i) zero v h = refl
set_other (x ∷ xs) (suc i) (suc j) v h = set_other xs i j v (λ e. h (ap suc e))

pub index_other : {X : Type 0} (xs : List X) (i j : ℕ) (v d : X) → j ≢ i → slice_index_or (slice_set xs i v) j d ≡ slice_index_or xs j d
index_other [] i j v d h = refl
index_other (x ∷ xs) zero zero v d h = absurd (h refl)
index_other (x ∷ xs) zero (suc j) v d h = refl
index_other (x ∷ xs) (suc i) zero v d h = refl
index_other (x ∷ xs) (suc i) (suc j) v d h = index_other xs i j v d (λ e. h (ap suc e))

stands_other : (lane : Lane) (i context : ℕ) (o : Option Context) (held : Replies) (after : Lane) → context ≢ i → after.contexts ≡ slice_set lane.contexts i o → after.replies ≡ slice_set lane.replies i held → Stands context lane after
stands_other lane i context o held after h c r = record {
  rows = ap (λ (os : List (Option Context)). present (slice_get os context)) c ∙ ap present (set_other lane.contexts i context o h);
  replies = ap (λ (all : List Replies). slice_index_or all context []) r ∙ index_other lane.replies i context held [] h;
}

abbrev replies_in : Option Kept → Replies
replies_in None = []
replies_in (Some k) = k.replies

pub whole : (context : ℕ) (lane : Lane) (kept : Kept) → handed_of context lane ≡ Some kept → (context_at context lane ≡ Some kept.context) × (replies_at context lane.replies ≡ kept.replies)
whole context lane kept e = by (is_given context lane) (context_at context lane) refl e
  where
    by : (b : Bool) (o : Option Context) → context_at context lane ≡ o → cond b (option_map (kept_of context lane) o) None ≡ Some kept → (context_at context lane ≡ Some kept.context) × (replies_at context lane.replies ≡ kept.replies)
    by true (Some c) f e = (f ∙ ap (λ (o : Option Kept). option_map (λ (k : Kept). k.context) o) e, ap replies_in e)
    by true None f e = let no : false ≡ true = ap (λ (o : Option Kept). is_some o) e in cc
    by false o f e = let no : false ≡ true = ap (λ (o : Option Kept). is_some o) e in cc

pub contexts_move : ContextsMove
contexts_move = record {
  whole = whole;
  taken = λ tick kept lane h. ap present (set_here lane.contexts kept.number (Some kept.context) h);
  replies = λ tick kept lane h. index_here lane.replies kept.number kept.replies [] h;
  others = λ tick kept lane context h. stands_other lane kept.number context (Some kept.context) kept.replies (taken_over tick kept lane) h refl refl;
  left = λ lane given context h. stands_other lane given context None [] (without_context given lane) h refl refl;
}
