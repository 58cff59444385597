-- What is left behind a row, where the row that came last stands under it: all but what stands under it too.
use Rattle.std.proofs.Common.{◌≡◌, ◌==◌, ◌&&◌, ℕ, Bool, true, false, not, cond, Option, Some, None, List, inl, inr, filter, refl, ap, sym, ◌∙◌}
use Rattle.std.proofs.lemmas.Bool.Decides.{eqb_tells}
use Rattle.std.specs.List.{AllByRecursion}
use Rattle.source_rows.specs.declared.row.Row.{Row}
use Rattle.source_rows.specs.declared.sight.Sight.{Sight}
use Rattle.source_rows.specs.Rows.{row_of, in_order, is_under, stands_before}
use Rattle.source_rows.specs.Candidates.{is_awake, may_call}
use Rattle.source_rows.specs.Steps.{above_at, comes, follows, left_of, IsStep}
use Rattle.source_rows.proofs.Compared.{and_both}
use Rattle.source_rows.proofs.Lists.{all_of}
use Rattle.source_rows.proofs.Order.{all_in_order, before_order}
use Rattle.source_rows.proofs.Forest.{InForest, members, found}
use Rattle.source_rows.proofs.Post.{children_first, together}
use Rattle.source_rows.proofs.Walked.{filter_twice}
use Rattle.source_rows.proofs.Steps.{any_here, any_some, both_true, find_passes, follows_before, same_filter, under_all}

-- ---- the row above the last

above_by : (id : ℕ) (rows : List Row) (b : Row) (under : Bool) → cond under (row_of id rows) None ≡ Some b → (under ≡ true) × (row_of id rows ≡ Some b)
above_by id rows b true e = (refl, e)
above_by id rows b false e = cc

own_id : (id : ℕ) (rows : List Row) (b : Row) → row_of id rows ≡ Some b → b.id ≡ id
own_id id rows b e =
    let same = find_passes (λ r. r.id == id) b rows e in
    elim (eqb_tells b.id id) [ inl t ↦ t.1 | inr f ↦ let no = sym f.0 ∙ same in cc ]

above_calls : (rows : List Row) → AllByRecursion (InForest rows) rows → (sight : Sight) (b l : Row) → InForest rows l → is_under b.id l ≡ true → may_call sight rows l ≡ true → may_call sight rows b ≡ true
above_calls rows all sight b l g u h =
    let w = any_some (λ x. is_under l.id x && is_awake sight x) (InForest rows) rows all h in
    let two = and_both (is_under l.id w.0) (is_awake sight w.0) w.2 in
    any_here (λ x. is_under b.id x && is_awake sight x) rows w.0 w.1 (both_true _ _ (under_all rows all b l g u w.0 w.1 two.0) two.1)

-- ---- what stands behind it

-- before b, not behind l: what stands between is under b
behind_by : (b l r : Row) → stands_before b l ≡ false → (is_under b.id r ≡ true → stands_before b r ≡ false) → (stands_before r l ≡ false → stands_before b r ≡ false → is_under b.id r ≡ true)
    → (behind_b behind_l under : Bool) → stands_before b r ≡ behind_b → stands_before l r ≡ behind_l → is_under b.id r ≡ under → behind_b ≡ (not under && behind_l)
behind_by b l r high first near true true true p q u = let no = sym p ∙ first u in cc
behind_by b l r high first near true true false p q u = refl
behind_by b l r high first near true false under p q u = let no = sym p ∙ before_order.chain b l r high q in cc
behind_by b l r high first near false true true p q u = refl
behind_by b l r high first near false true false p q u = let no = sym u ∙ near (before_order.one_way l r q) p in cc
behind_by b l r high first near false false true p q u = refl
behind_by b l r high first near false false false p q u = refl

behind : (rows : List Row) → AllByRecursion (InForest rows) rows → (b l r : Row) → InForest rows b → InForest rows l → InForest rows r → is_under b.id l ≡ true → stands_before b r ≡ (not (is_under b.id r) && stands_before l r)
behind rows all b l r f g h u =
    behind_by b l r (children_first rows all b l f g u) (children_first rows all b r f h) (λ before not_behind. together rows all b l r f g h u before not_behind)
    (stands_before b r) (stands_before l r) (is_under b.id r) refl refl refl

moved_by : (under behind_l may : Bool) → ((not under && behind_l) && may) ≡ ((behind_l && may) && not under)
moved_by true true true = refl
moved_by true true false = refl
moved_by true false may = refl
moved_by false true true = refl
moved_by false true false = refl
moved_by false false may = refl

-- ---- both

pub left_out : (rows : List Row) (sight : Sight) (last : Option Row) (b : Row) (id : ℕ) → IsStep rows sight last → above_at rows last id ≡ Some b
    → IsStep rows sight (Some b) × (left_of sight rows (Some b) ≡ filter (λ r. not (is_under id r)) (left_of sight rows last))
left_out rows sight None b id step e = cc
left_out rows sight (Some l) b id step e =
    let all = members rows step.forest in
    let two = above_by id rows b (is_under id l) e in
    let same = own_id id rows b two.1 in
    let under : is_under b.id l ≡ true = ap (λ (n : ℕ). is_under n l) same ∙ two.0 in
    let f = found (InForest rows) id b rows all two.1 in
    let g = found (InForest rows) l.id l rows all step.valid.0 in
    let each = all_of (InForest rows) (λ r. comes sight rows (Some b) r ≡ (comes sight rows (Some l) r && not (is_under id r)))
    (λ r h. ap (λ (x : Bool). x && may_call sight rows r) (follows_before b r ∙ (behind rows all b l r f g h under ∙ ap (λ (x : Bool). not (is_under b.id r) && x) (sym (follows_before l r))))
    ∙ (moved_by (is_under b.id r) (follows (Some l) r) (may_call sight rows r) ∙ ap (λ (n : ℕ). comes sight rows (Some l) r && not (is_under n r)) same)) rows all in (
      record { forest = step.forest; apart = step.apart; valid = (f.is, above_calls rows all sight b l g under step.valid.1) },
      same_filter (comes sight rows (Some b)) (λ r. comes sight rows (Some l) r && not (is_under id r)) (in_order rows)
          (all_in_order (λ r. comes sight rows (Some b) r ≡ (comes sight rows (Some l) r && not (is_under id r))) rows each)
          ∙ sym (filter_twice (comes sight rows (Some l)) (λ r. not (is_under id r)) (in_order rows)),
    )
