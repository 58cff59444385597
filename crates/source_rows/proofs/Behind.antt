-- A row stands behind all others that are under it, and nowhere else.
use Rattle.std.proofs.Common.{◌≡◌, true, false, List, refl, sym, ap, ◌∙◌, subst}
use Rattle.std.specs.List.{AllByRecursion}
use Rattle.std.specs.declared.cmp.Ordering.{Ordering}
use Rattle.std.specs.declared.cmp.Ordering.TheVariants.{Less, Equal, Greater}
use Rattle.std.specs.Ordering.{is_lt, ordering_reverse}
use Rattle.source_rows.specs.declared.row.Row.{Row}
use Rattle.source_rows.specs.Rows.{Key, key_cmp, key_of, is_under, stands_before}
use Rattle.source_rows.specs.Tree.{IsForest, starts}
use Rattle.source_rows.proofs.Forest.{InForest, members, shaped}
use Rattle.source_rows.proofs.Lists.{all_with}
use Rattle.source_rows.proofs.Paths.{under_path, starts_self, one_under}
use Rattle.source_rows.proofs.Post.{children_first}
use Rattle.source_rows.proofs.Order.{key_total}
use Rattle.source_rows.proofs.Ahead.{same_key}

neither : (c : Ordering) → is_lt c ≡ false → is_lt (ordering_reverse c) ≡ false → c ≡ Equal
neither Less h k = cc
neither Equal h k = refl
neither Greater h k = cc

-- keys of which neither is less are one
one_key : (a b : Key) → is_lt (key_cmp a b) ≡ false → is_lt (key_cmp b a) ≡ false → a ≡ b
one_key a b h k = same_key a b (neither (key_cmp a b) h (sym (ap is_lt (key_total.antisymm b a)) ∙ k))

pub behind : (rows : List Row) → AllByRecursion (InForest rows) rows → (r q : Row) → InForest rows r → InForest rows q → is_under r.id q ≡ true → stands_before q r ≡ false → r ≡ q
behind rows all r q f g h k =
    let same = ap (λ (x : Key). x.1) (one_key (key_of r) (key_of q) (children_first rows all r q f g h) k) in
    let up = subst (λ p. starts q.level q.path p ≡ true) (sym same) (starts_self q.level q g.level (shaped rows all q g)) in
    one_under rows all r q f g h (under_path rows all q g r f up)

pub all_behind : (rows : List Row) → IsForest rows → AllByRecursion (λ r. AllByRecursion (λ q. is_under r.id q ≡ true → stands_before q r ≡ false → r ≡ q) rows) rows
all_behind rows f =
    let all = members rows f in
    all_with (λ (r : Row) (q : Row). is_under r.id q ≡ true → stands_before q r ≡ false → r ≡ q) (InForest rows) (behind rows all) rows rows all all
