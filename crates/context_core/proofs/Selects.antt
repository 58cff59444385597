-- Where something is ready before any descriptor is asked, something is selected whatever descriptors show.
use Rattle.std.proofs.Common.{◌≡◌, ℕ, Bool, true, false, cond, ◌&&◌, not, ℤ, Option, Some, None, List, [], ◌∷◌, inl, inr, map, filter, refl, ap, sym, ◌∙◌, arith}
use Rattle.std.proofs.lemmas.Int.{ints}
use Rattle.std.specs.Prelude.{int_lt, IsSome}
use Rattle.std.specs.List.{AllByRecursion}
use Rattle.source_rows.specs.declared.row.Row.{Row}
use Rattle.source_rows.specs.Rows.{in_order}
use Rattle.context_core.specs.Ready.{own_ready, is_due, is_ready, is_most_urgent, selected}
use Rattle.context_core.specs.Phases.{least_of, nothing_shown, least_ready}
use Rattle.context_core.proofs.Walk.{upto, id_of, SomeAt}
use Rattle.context_core.proofs.Cutoff.{least_has, least_none, none_ready, selected_at, some_ready, some_in_order, some_more, ready_more, own_more}

kept_by : (b : ℤ) (r : Row) (xs : List Row) (u : Bool) → not (int_lt b r.priority) ≡ u → r.priority ≡ b → cond (u && true) (r ∷ xs) xs ≡ [] → ⊥
kept_by b r xs true e p k = cc
kept_by b r xs false e p k = let q : int_lt b b ≡ true = (grind (arith, ints)) in absurd (omega (arith, ints))

some_kept_by : (ready : Row → Bool) (b : ℤ) (r : Row) (xs : List Row) (u : Bool) → (filter (λ q. upto b q && ready q) xs ≡ [] → ⊥)
    → cond u (r ∷ filter (λ q. upto b q && ready q) xs) (filter (λ q. upto b q && ready q) xs) ≡ [] → ⊥
some_kept_by ready b r xs true h k = cc
some_kept_by ready b r xs false h k = h k

some_kept : (ready : Row → Bool) (b : ℤ) (xs : List Row) → SomeAt ready b xs → filter (λ q. upto b q && ready q) xs ≡ [] → ⊥
some_kept ready b [] s k = s
some_kept ready b (r ∷ xs) (inl s) k =
    kept_by b r (filter (λ q. upto b q && ready q) xs) (not (int_lt b r.priority)) refl s.1
    (ap (λ (t : Bool). cond (upto b r && t) (r ∷ filter (λ q. upto b q && ready q) xs) (filter (λ q. upto b q && ready q) xs)) (sym s.0) ∙ k)
some_kept ready b (r ∷ xs) (inr s) k = some_kept_by ready b r xs (upto b r && ready r) (some_kept ready b xs s) k

no_ids : (xs : List Row) → map id_of xs ≡ [] → xs ≡ []
no_ids [] e = refl
no_ids (x ∷ xs) e = cc

clash : (ready : Row → Bool) (m : ℤ) (xs : List Row) → SomeAt ready m xs → AllByRecursion (λ r. ready r ≡ false) xs → ⊥
clash ready m [] s h = s
clash ready m (r ∷ xs) (inl s) h = let no : true ≡ false = sym s.0 ∙ h.0 in cc
clash ready m (r ∷ xs) (inr s) h = clash ready m xs s h.1

selects_by : (ready : Row → Bool) (rows : List Row) (m : ℤ) → SomeAt ready m rows → (o : Option ℤ) → least_of (filter ready rows) ≡ o
    → map id_of (in_order (filter (is_most_urgent (filter ready rows)) (filter ready rows))) ≡ [] → ⊥
selects_by ready rows m s None k e = clash ready m rows s (none_ready ready rows (least_none (filter ready rows) k))
selects_by ready rows m s (Some b) k e =
    some_kept ready b (in_order rows) (some_in_order ready b rows (some_ready ready b rows (least_has (filter ready rows) b k))) (sym (selected_at ready rows b k) ∙ no_ids _ e)

pub something_selected : (level : ℕ → ℕ) (cancelled : ℕ → Bool) (now : ℕ) (busy : List ℕ) (rows : List Row) (m : ℤ)
    → least_ready cancelled now busy rows ≡ Some m → selected (own_ready level cancelled now) busy rows ≡ [] → ⊥
something_selected level cancelled now busy rows m e =
    let before : Row → Bool = is_ready (own_ready nothing_shown cancelled now) busy rows in
    let ready : Row → Bool = is_ready (own_ready level cancelled now) busy rows in
    selects_by ready rows m
    (some_more before ready m (ready_more (own_ready nothing_shown cancelled now) (own_ready level cancelled now) busy rows (λ r. own_more level cancelled (is_due now r.ready) r.kind)) rows
    (some_ready before m rows (least_has (filter before rows) m e)))
    (least_of (filter ready rows)) refl

pub whatever_shows : (cancelled : ℕ → Bool) (now : ℕ) (busy : List ℕ) (rows : List Row) (o : Option ℤ)
    → o ≡ least_ready cancelled now busy rows → IsSome o → (level : ℕ → ℕ) → selected (own_ready level cancelled now) busy rows ≡ [] → ⊥
whatever_shows cancelled now busy rows None e s level = let no : false ≡ true = s in cc
whatever_shows cancelled now busy rows (Some m) e s level = something_selected level cancelled now busy rows m (sym e)
