-- What the rows of a tree share: their root's priority, and its order number at the front of their paths.
use Rattle.std.proofs.Common.{◌≡◌, ℕ, ◌<◌, ◌≤◌, ◌^◌, ◌==◌, true, Some, List, [], ◌∷◌, inl, inr, refl, ap, sym, ◌∙◌, arith, subst}
use Rattle.std.specs.Prelude.{slice_index}
use Rattle.std.specs.List.{AllByRecursion}
use Rattle.source_rows.specs.declared.row.Row.{Row}
use Rattle.source_rows.specs.Row.{no_number}
use Rattle.source_rows.specs.Rows.{row_of, is_under}
use Rattle.source_rows.specs.Tree.{IsForest, starts}
use Rattle.source_rows.specs.Kept.{IsBelow}
use Rattle.source_rows.proofs.Compared.{same_self}
use Rattle.source_rows.proofs.Lists.{all_of, all_and}
use Rattle.source_rows.proofs.Forest.{InForest, Shaped, members, shaped, found}
use Rattle.source_rows.proofs.Paths.{under, under_path, starts_last}

abbrev pub Shares : Row → Row → Type 0
Shares r q = (r.priority ≡ q.priority) × (slice_index r.path 0 ≡ slice_index q.path 0)

-- a path has four numbers
pub record IsPath (path : List ℕ) : Type 0 where
  pub a : ℕ
  pub b : ℕ
  pub c : ℕ
  pub d : ℕ
  pub is : path ≡ a ∷ b ∷ c ∷ d ∷ []
  pub b_fits : b ≤ no_number
  pub c_fits : c ≤ no_number
  pub d_fits : d ≤ no_number

-- what is known of a row where the tree of x moves
pub record Kin (x : Row) (n : ℕ) (r : Row) : Type 0 where
  pub shares : is_under x.id r ≡ true → Shares x r
  pub under : Shares x r → is_under x.id r ≡ true
  pub path : IsPath r.path
  pub below : IsBelow n r.path

pub path_of : (r : Row) → r.order < 2 ^ 63 → Shaped r → IsPath r.path
path_of r h (inl s) = record { a = r.order; b = no_number; c = no_number; d = no_number; is = s.2; b_fits = omega arith; c_fits = omega arith; d_fits = omega arith }
path_of r h (inr (inl s)) = record { a = s.1; b = r.order; c = no_number; d = no_number; is = s.4; b_fits = omega (arith, h); c_fits = omega arith; d_fits = omega arith }
path_of r h (inr (inr (inl s))) = let m = s.8 in record { a = s.2; b = s.3; c = r.order; d = no_number; is = s.6; b_fits = omega (arith, m); c_fits = omega (arith, h); d_fits = omega arith }
path_of r h (inr (inr (inr s))) = let m = s.10 in let k = s.11 in record { a = s.3; b = s.4; c = s.5; d = r.order; is = s.8; b_fits = omega (arith, m); c_fits = omega (arith, k); d_fits = omega (arith, h) }

starts_one : (p q : List ℕ) → IsPath p → IsPath q → slice_index p 0 ≡ slice_index q 0 → starts 1 p q ≡ true
starts_one p q s t e =
    let heads : s.a ≡ t.a = ap (λ (x : List ℕ). slice_index x 0) (sym s.is) ∙ (e ∙ ap (λ (x : List ℕ). slice_index x 0) t.is) in
    let same : (s.a == t.a) ≡ true = ap (λ (m : ℕ). m == t.a) heads ∙ same_self t.a in
    rw (s.is, t.is, same) refl

kin : (rows : List Row) → AllByRecursion (InForest rows) rows → (x : Row) (n : ℕ) → InForest rows x → x.level ≡ 1 → (r : Row) → InForest rows r → IsBelow n r.path → Kin x n r
kin rows all x n g level r f b =
    let path = path_of r f.number (shaped rows all r f) in
    let own = path_of x g.number (shaped rows all x g) in
    record {
      shares = λ u. let w = under rows all x g r f u in (sym w.priority, starts_last 0 x.path r.path (subst (λ (l : ℕ). starts l x.path r.path ≡ true) level w.path));
      under = λ s. under_path rows all x g r f (subst (λ (l : ℕ). starts l x.path r.path ≡ true) (sym level) (starts_one x.path r.path own path s.1));
      path = path;
      below = b;
    }

pub kins : (x : Row) (n : ℕ) (rows : List Row) → IsForest rows → row_of x.id rows ≡ Some x → x.level ≡ 1 → AllByRecursion (λ r. IsBelow n r.path) rows → AllByRecursion (Kin x n) rows
kins x n rows f is level below =
    let all = members rows f in
    let g = found (InForest rows) x.id x rows all is in
    all_of (λ r. InForest rows r × IsBelow n r.path) (Kin x n) (λ r h. kin rows all x n g level r h.0 h.1) rows (all_and (InForest rows) (λ r. IsBelow n r.path) rows all below)
