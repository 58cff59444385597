-- When a row's turn comes in a pass over the rows, all that lend to it were seen.
use Rattle.std.proofs.Common.{◌≡◌, ℕ, ◌<◌, ◌&&◌, ◌||◌, Bool, true, false, Option, Some, None, List, [], ◌∷◌, ◌++◌, filter, inl, inr, refl, ap, sym, ◌∙◌, arith, subst}
use Rattle.std.proofs.lemmas.List.{append_assoc}
use Rattle.std.proofs.lemmas.List.Folds.{list_any-append}
use Rattle.std.specs.List.{AllByRecursion, list_any}
use Rattle.std.specs.Option.{is_some}
use Rattle.source_rows.specs.declared.row.Row.{Row}
use Rattle.source_rows.specs.Rows.{in_order, stands_before, is_under}
use Rattle.source_rows.specs.Lists.{Pairs}
use Rattle.source_rows.specs.Tree.{IsForest, HasPlace}
use Rattle.source_rows.proofs.Lists.{all_of, all_back, all_filter, pairs_with, pairs_and, pairs_filter}
use Rattle.source_rows.proofs.Compared.{and_both}
use Rattle.source_rows.proofs.Order.{all_in_order, pairs_in_order, sorted_in_order}
use Rattle.source_rows.proofs.Forest.{InForest, members, shaped, found, under_root, under_down, under_self}
use Rattle.source_rows.proofs.Paths.{under}
use Rattle.source_rows.proofs.Post.{children_first, together}
use Rattle.source_rows.proofs.Band.{any_in_order}
use Rattle.context_core.specs.Ready.{Own, is_free, is_callable, is_ready}
use Rattle.context_core.specs.Lent.{lends}
use Rattle.context_core.proofs.Cutoff.{any_same}
use Rattle.context_core.proofs.Candidates.{Keeps, any_kept}

-- ---- what a row and a later one have to do with each other

-- two rows under each other are one
one_by : (rows : List Row) → AllByRecursion (InForest rows) rows → (a b : Row) → InForest rows a → InForest rows b → is_under a.id b ≡ true → is_under b.id a ≡ true
    → (o : Option ℕ) → HasPlace rows o b → a.id ≡ b.id
one_by rows all a b f g h k None p = sym (under_root a.id b p h)
one_by rows all a b f g h k (Some id) w =
    let j = found (InForest rows) id w.0 rows all w.1 in
    elim (under_down a.id w.0 b w.2 g.level (shaped rows all w.0 j) h) [
      | inl t ↦ let low = (under rows all a f w.0 j t).level in let high = (under rows all b g a f k).level in let up = w.2.level in absurd (omega (arith, low, high, up))
      | inr t ↦ sym t
    ]

later_by : (rows : List Row) → AllByRecursion (InForest rows) rows → (a b : Row) → InForest rows a → InForest rows b → stands_before b a ≡ false → (a.id ≡ b.id → ⊥)
    → (v : Bool) → is_under a.id b ≡ v → v ≡ false
later_by rows all a b f g s n false e = refl
later_by rows all a b f g s n true e =
    let over = together rows all b b a g g f (under_self b (shaped rows all b g)) (children_first rows all a b f g e) s in
    absurd (n (one_by rows all a b f g e over b.parent g.place))

root_by : (rows : List Row) (a b : Row) → HasPlace rows None a → (a.id ≡ b.id → ⊥) → (v : Bool) → is_under b.id a ≡ v → v ≡ false
root_by rows a b p n false e = refl
root_by rows a b p n true e = absurd (n (under_root b.id a p e))

child_by : (rows : List Row) (a b : Row) (o : Option ℕ) → HasPlace rows o a → (a.id ≡ b.id → ⊥) → is_under b.id a ≡ (is_some o && is_under b.id a)
child_by rows a b None p n = root_by rows a b p n (is_under b.id a) refl
child_by rows a b (Some id) p n = refl

-- the later is not under the first, which is under the later only where it is a child
abbrev Turn : Row → Row → Type 0
Turn a b = (is_under a.id b ≡ false) × (is_under b.id a ≡ (is_some a.parent && is_under b.id a))

turns : (rows : List Row) → IsForest rows → Pairs Turn (in_order rows)
turns rows forest =
    let all = members rows forest in
    let differ = pairs_in_order (λ a b. a.id ≡ b.id → ⊥) (λ a b n e. n (sym e)) rows
    (pairs_with (λ a b. a.id < b.id) (λ a b. a.id ≡ b.id → ⊥) (InForest rows) (λ a b f g less e. absurd (omega (arith, less, e))) rows all forest.rising) in
    pairs_with (λ a b. (stands_before b a ≡ false) × (a.id ≡ b.id → ⊥)) Turn (InForest rows)
    (λ a b f g h. (later_by rows all a b f g h.0 h.1 (is_under a.id b) refl, child_by rows a b a.parent f.place h.1))
    (in_order rows) (all_in_order (InForest rows) rows all) (pairs_and (λ a b. stands_before b a ≡ false) (λ a b. a.id ≡ b.id → ⊥) (in_order rows) (sorted_in_order rows) differ)

-- ---- the pass

split_at : (R : Row → Row → Type 0) (xs : List Row) (r : Row) (ys : List Row) → Pairs R (xs ++ r ∷ ys) → AllByRecursion (λ q. R q r) xs × AllByRecursion (R r) ys
split_at R [] r ys h = (tt, h.0)
split_at R (x ∷ xs) r ys h = let t = split_at R xs r ys h.1 in (((all_back (R x) xs (r ∷ ys) h.0).0, t.0), t.1)

any_none : (p : Row → Bool) (xs : List Row) → AllByRecursion (λ q. p q ≡ false) xs → list_any p xs ≡ false
any_none p [] h = refl
any_none p (x ∷ xs) h = rw h.0 (any_none p xs h.1)

or_last : (a b : Bool) → (a || b) ≡ (b || (a || false))
or_last true true = refl
or_last true false = refl
or_last false true = refl
or_last false false = refl

-- the rows that were seen, and what they lend
pub record Passed (own : Own) (busy : List ℕ) (keep : Row → Bool) (rows rest : List Row) (lent : ℕ → Bool) : Type 0 where
  pub seen : List Row
  pub split : filter keep (in_order rows) ≡ seen ++ rest
  pub lends : (id : ℕ) → lent id ≡ list_any (lends own busy id) seen

passed_more : (own : Own) (busy : List ℕ) (keep : Row → Bool) (rows it rest : List Row) (r : Row) (lent more : ℕ → Bool) → it ≡ r ∷ rest → ((id : ℕ) → more id ≡ (lends own busy id r || lent id))
    → Passed own busy keep rows it lent → Passed own busy keep rows rest more
passed_more own busy keep rows it rest r lent more e h p = record {
  seen = p.seen ++ r ∷ [];
  split = p.split ∙ (ap (λ (l : List Row). p.seen ++ l) e ∙ sym (append_assoc p.seen (r ∷ []) rest));
  lends = λ id. h id ∙ (ap (λ (b : Bool). lends own busy id r || b) (p.lends id) ∙ (or_last (lends own busy id r) (list_any (lends own busy id) p.seen) ∙ sym (list_any-append (lends own busy id) p.seen (r ∷ []))));
}

-- a row whose turn has come is ready where it calls, or where those that were seen lend to it
ready_here : (own : Own) (busy : List ℕ) (keep : Row → Bool) (rows it rest : List Row) (r : Row) (lent : ℕ → Bool) → IsForest rows → Keeps (is_callable own busy) keep rows → it ≡ r ∷ rest → Passed own busy keep rows it lent
    → (is_free busy r && (is_callable own busy r || lent r.id)) ≡ is_ready own busy rows r
ready_here own busy keep rows it rest r lent forest kept e p =
    let all = members rows forest in
    let calling : Row → Bool = λ q. is_under r.id q && is_callable own busy q in
    let whole : filter keep (in_order rows) ≡ p.seen ++ r ∷ rest = p.split ∙ ap (λ (l : List Row). p.seen ++ l) e in
    let f : InForest rows r = (all_back (InForest rows) p.seen (r ∷ rest) (subst (AllByRecursion (InForest rows)) whole (all_filter (InForest rows) keep (in_order rows) (all_in_order (InForest rows) rows all)))).0 in
    let t = split_at Turn p.seen r rest (subst (Pairs Turn) whole (pairs_filter Turn keep (in_order rows) (turns rows forest))) in
    let before : list_any calling p.seen ≡ list_any (lends own busy r.id) p.seen
    = any_same calling (lends own busy r.id) p.seen (all_of (λ q. Turn q r) (λ q. calling q ≡ lends own busy r.id q) (λ q h. ap (λ (b : Bool). b && is_callable own busy q) h.1) p.seen t.0) in
    let after : list_any calling rest ≡ false = any_none calling rest (all_of (Turn r) (λ q. calling q ≡ false) (λ q h. ap (λ (b : Bool). b && is_callable own busy q) h.0) rest t.1) in
    let here : calling r ≡ is_callable own busy r = ap (λ (b : Bool). b && is_callable own busy r) (under_self r (shaped rows all r f)) in
    let parts : list_any calling rows ≡ (list_any calling p.seen || (calling r || list_any calling rest))
    = sym (any_in_order calling rows) ∙ (sym (any_kept calling keep (in_order rows) (all_in_order (λ q. calling q ≡ true → keep q ≡ true) rows
    (all_of (λ q. is_callable own busy q ≡ true → keep q ≡ true) (λ q. calling q ≡ true → keep q ≡ true) (λ q h e. h ((and_both (is_under r.id q) (is_callable own busy q) e).1)) rows kept))) ∙ ap (list_any calling) whole ∙ list_any-append calling p.seen (r ∷ rest)) in
    ap (λ (b : Bool). is_free busy r && b)
    (ap (λ (b : Bool). is_callable own busy r || b) (p.lends r.id ∙ sym before)
    ∙ (or_last (is_callable own busy r) (list_any calling p.seen)
    ∙ sym (parts ∙ (ap (λ (b : Bool). list_any calling p.seen || (b || list_any calling rest)) here ∙ ap (λ (b : Bool). list_any calling p.seen || (is_callable own busy r || b)) after))))

-- one row further
pub stepped : (own : Own) (busy : List ℕ) (keep : Row → Bool) (rows it rest : List Row) (r : Row) (lent more : ℕ → Bool) (ready : Bool) → IsForest rows → Keeps (is_callable own busy) keep rows → it ≡ r ∷ rest → ((id : ℕ) → more id ≡ (lends own busy id r || lent id))
    → ready ≡ (is_free busy r && (is_callable own busy r || lent r.id)) → Passed own busy keep rows it lent → Passed own busy keep rows rest more × (is_ready own busy rows r ≡ ready)
stepped own busy keep rows it rest r lent more ready forest kept e h k p = (passed_more own busy keep rows it rest r lent more e h p, sym (k ∙ ready_here own busy keep rows it rest r lent forest kept e p))
