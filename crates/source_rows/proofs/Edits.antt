-- Rows still stand in trees after an edit.
use Rattle.std.proofs.Common.{◌≡◌, ◌≢◌, ℕ, ◌<◌, ◌≤◌, ◌+◌, ◌^◌, ◌==◌, cond, Bool, true, false, not, Option, Some, None, List, [], ◌∷◌, ◌++◌, inl, inr, map, filter, refl, ap, sym, ◌∙◌, arith, subst}
use Rattle.std.specs.List.{AllByRecursion}
use Rattle.source_rows.specs.declared.row.Row.{Row}
use Rattle.source_rows.specs.Row.{root_lineage, root_path}
use Rattle.source_rows.specs.Rows.{Key, key_of, row_of, is_under}
use Rattle.source_rows.specs.Tree.{IdsRise, OrdersDiffer, IsRoot, IsChildOf, HasPlace, IsForest}
use Rattle.source_rows.proofs.Lists.{all_of, all_push, all_map, all_passed, all_filter, pairs_push, pairs_map, pairs_filter}
use Rattle.source_rows.proofs.Forest.{InForest, members, shaped, found, lineage_same, path_same, under_up, under_down, under_root, each}

-- ---- a new row

differ_push : (rows : List Row) (n : ℕ) (r : Row) → OrdersDiffer rows → AllByRecursion (λ q. q.order < n) rows → r.order ≡ n → OrdersDiffer (rows ++ r ∷ [])
differ_push rows n r h k e = pairs_push (λ q x. q.order ≢ x.order) rows r h (all_of (λ q. q.order < n) (λ q. q.order ≢ r.order) (λ q less same. absurd (omega (arith, same, e, less))) rows k)

pub numbers_more : (n : ℕ) (rows : List Row) → AllByRecursion (λ q. q.order < n) rows → AllByRecursion (λ q. q.order < n + 1) rows
numbers_more n rows h = all_of (λ q. q.order < n) (λ q. q.order < n + 1) (λ q less. omega (arith, less)) rows h

found_push_by : (id : ℕ) (q x r : Row) (rows : List Row) (b : Bool) → (row_of id rows ≡ Some x → row_of id (rows ++ r ∷ []) ≡ Some x) → cond b (Some q) (row_of id rows) ≡ Some x → cond b (Some q) (row_of id (rows ++ r ∷ [])) ≡ Some x
found_push_by id q x r rows true ih h = h
found_push_by id q x r rows false ih h = ih h

pub found_push : (id : ℕ) (x r : Row) (rows : List Row) → row_of id rows ≡ Some x → row_of id (rows ++ r ∷ []) ≡ Some x
found_push id x r [] h = cc
found_push id x r (q ∷ rows) h = found_push_by id q x r rows (q.id == id) (found_push id x r rows) h

place_push : (rows : List Row) (r : Row) (o : Option ℕ) (q : Row) → HasPlace rows o q → HasPlace (rows ++ r ∷ []) o q
place_push rows r None q h = h
place_push rows r (Some id) q h = (h.0, found_push id h.0 r rows h.1, h.2)

pub forest_push : (rows : List Row) (n : ℕ) (r : Row) → IsForest rows → AllByRecursion (λ q. q.id < r.id) rows → AllByRecursion (λ q. q.order < n) rows → r.order ≡ n → n < 2 ^ 63 → r.level ≤ 4 → HasPlace rows r.parent r → IsForest (rows ++ r ∷ [])
forest_push rows n r f ids orders e small level place = record {
  rising = pairs_push (λ q x. q.id < x.id) rows r f.rising ids;
  placed = all_push (λ q. HasPlace (rows ++ r ∷ []) q.parent q) rows r
      (all_of (λ q. HasPlace rows q.parent q) (λ q. HasPlace (rows ++ r ∷ []) q.parent q) (λ q h. place_push rows r q.parent q h) rows f.placed)
      (place_push rows r r.parent r place);
  differ = differ_push rows n r f.differ orders e;
  numbers = all_push (λ q. q.order < 2 ^ 63) rows r f.numbers (omega (arith, e, small));
  levels = all_push (λ q. q.level ≤ 4) rows r f.levels level;
}

-- ---- a change that leaves a row in its place

pub record Stays (g : Row → Row) : Type 0 where
  pub key : (r : Row) → key_of (g r) ≡ key_of r
  pub id : (r : Row) → (g r).id ≡ r.id
  pub level : (r : Row) → (g r).level ≡ r.level
  pub order : (r : Row) → (g r).order ≡ r.order
  pub parent : (r : Row) → (g r).parent ≡ r.parent
  pub lineage : (r : Row) → (g r).lineage ≡ r.lineage

pub rise_map : (g : Row → Row) → ((r : Row) → (g r).id ≡ r.id) → (rows : List Row) → IdsRise rows → IdsRise (map g rows)
rise_map g h rows a = pairs_map (λ r q. r.id < q.id) (λ r q. r.id < q.id) g (λ r q less. let i = h r in let j = h q in omega arith) rows a

differ_map : (g : Row → Row) → Stays g → (rows : List Row) → OrdersDiffer rows → OrdersDiffer (map g rows)
differ_map g h rows a = pairs_map (λ r q. r.order ≢ q.order) (λ r q. r.order ≢ q.order) g (λ r q other same. other (sym (h.order r) ∙ (same ∙ h.order q))) rows a

found_map_by : (g : Row → Row) (id : ℕ) (q x : Row) (rows : List Row) (b : Bool) → (row_of id rows ≡ Some x → row_of id (map g rows) ≡ Some (g x)) → cond b (Some q) (row_of id rows) ≡ Some x → cond b (Some (g q)) (row_of id (map g rows)) ≡ Some (g x)
found_map_by g id q x rows true ih h = let same : q ≡ x = cc in ap (λ (r : Row). Some (g r)) same
found_map_by g id q x rows false ih h = ih h

pub found_map : (g : Row → Row) → ((r : Row) → (g r).id ≡ r.id) → (id : ℕ) (x : Row) (rows : List Row) → row_of id rows ≡ Some x → row_of id (map g rows) ≡ Some (g x)
found_map g s id x [] h = cc
found_map g s id x (q ∷ rows) h = ap (λ (n : ℕ). cond (n == id) (Some (g q)) (row_of id (map g rows))) (s q) ∙ found_map_by g id q x rows (q.id == id) (found_map g s id x rows) h

root_map : (g : Row → Row) → Stays g → (r : Row) → IsRoot r → IsRoot (g r)
root_map g s r p = record {
  level = s.level r ∙ p.level;
  lineage = s.lineage r ∙ (p.lineage ∙ ap root_lineage (sym (s.id r)));
  path = ap (λ (k : Key). k.1) (s.key r) ∙ (p.path ∙ ap root_path (sym (s.order r)));
}

child_map : (g : Row → Row) → Stays g → (q r : Row) → IsChildOf q r → IsChildOf (g q) (g r)
child_map g s q r c = record {
  level = s.level r ∙ (c.level ∙ ap (λ (n : ℕ). n + 1) (sym (s.level q)));
  lineage = s.lineage r ∙ (c.lineage ∙ lineage_same q.level (g q).level q.lineage (g q).lineage r.id (g r).id (sym (s.level q)) (sym (s.lineage q)) (sym (s.id r)));
  path = ap (λ (k : Key). k.1) (s.key r) ∙ (c.path ∙ path_same q.level (g q).level q.path (g q).path r.order (g r).order (sym (s.level q)) (sym (ap (λ (k : Key). k.1) (s.key q))) (sym (s.order r)));
  priority = ap (λ (k : Key). k.0) (s.key r) ∙ (c.priority ∙ sym (ap (λ (k : Key). k.0) (s.key q)));
}

place_map : (g : Row → Row) → Stays g → (rows : List Row) (o : Option ℕ) (r : Row) → HasPlace rows o r → HasPlace (map g rows) o (g r)
place_map g s rows None r h = root_map g s r h
place_map g s rows (Some id) r h = (g h.0, found_map g s.id id h.0 rows h.1, child_map g s h.0 r h.2)

pub forest_map : (g : Row → Row) → Stays g → (rows : List Row) → IsForest rows → IsForest (map g rows)
forest_map g s rows f = record {
  rising = rise_map g s.id rows f.rising;
  placed = all_map (λ r. HasPlace rows r.parent r) (λ r. HasPlace (map g rows) r.parent r) g
      (λ r h. subst (λ (o : Option ℕ). HasPlace (map g rows) o (g r)) (sym (s.parent r)) (place_map g s rows r.parent r h)) rows f.placed;
  differ = differ_map g s rows f.differ;
  numbers = all_map (λ r. r.order < 2 ^ 63) (λ r. r.order < 2 ^ 63) g (λ r less. let j = s.order r in omega arith) rows f.numbers;
  levels = all_map (λ r. r.level ≤ 4) (λ r. r.level ≤ 4) g (λ r less. let j = s.level r in omega arith) rows f.levels;
}

-- ---- a row and all under it gone

found_filter_by : (p : Row → Bool) (id : ℕ) (q x : Row) (rows : List Row) → p x ≡ true → (row_of id rows ≡ Some x → row_of id (filter p rows) ≡ Some x) → (b u : Bool) → (q.id == id) ≡ b → p q ≡ u → cond b (Some q) (row_of id rows) ≡ Some x → row_of id (cond u (q ∷ filter p rows) (filter p rows)) ≡ Some x
found_filter_by p id q x rows k ih true true e f h = rw e h
found_filter_by p id q x rows k ih true false e f h = let same : q ≡ x = cc in let never = sym f ∙ (ap p same ∙ k) in cc
found_filter_by p id q x rows k ih false true e f h = rw e (ih h)
found_filter_by p id q x rows k ih false false e f h = ih h

pub found_filter : (p : Row → Bool) (id : ℕ) (x : Row) (rows : List Row) → p x ≡ true → row_of id rows ≡ Some x → row_of id (filter p rows) ≡ Some x
found_filter p id x [] k h = cc
found_filter p id x (q ∷ rows) k h = found_filter_by p id q x rows k (found_filter p id x rows k) (q.id == id) (p q) refl refl h

not_false : (b : Bool) → not b ≡ true → b ≡ false
not_false true h = cc
not_false false h = refl

keeps_parent : (rows : List Row) → AllByRecursion (InForest rows) rows → (id : ℕ) (q r : Row) → InForest rows q → InForest rows r → IsChildOf q r → not (is_under id r) ≡ true → not (is_under id q) ≡ true
keeps_parent rows all id q r g f c h = by_parent (is_under id q) refl
  where
    by_parent : (b : Bool) → is_under id q ≡ b → not (is_under id q) ≡ true
    by_parent true e = let up = under_up id q r c f.level (shaped rows all q g) e in let never = sym up ∙ not_false (is_under id r) h in cc
    by_parent false e = rw e refl

place_filter : (rows : List Row) → AllByRecursion (InForest rows) rows → (id : ℕ) (r : Row) (o : Option ℕ) → InForest rows r → HasPlace rows o r → not (is_under id r) ≡ true → HasPlace (filter (λ x. not (is_under id x)) rows) o r
place_filter rows all id r None f h k = h
place_filter rows all id r (Some up) f h k =
    let g = found (InForest rows) up h.0 rows all h.1 in
    (h.0, found_filter (λ x. not (is_under id x)) up h.0 rows (keeps_parent rows all id h.0 r g f h.2 k) h.1, h.2)

pub forest_filter : (id : ℕ) (rows : List Row) → IsForest rows → IsForest (filter (λ x. not (is_under id x)) rows)
forest_filter id rows f =
    let p = λ (x : Row). not (is_under id x) in
    let all = members rows f in
    record {
      rising = pairs_filter (λ r q. r.id < q.id) p rows f.rising;
      placed = all_passed (InForest rows) (λ r. HasPlace (filter p rows) r.parent r) p (λ r g k. place_filter rows all id r r.parent g g.place k) rows all;
      differ = pairs_filter (λ r q. r.order ≢ q.order) p rows f.differ;
      numbers = all_filter (λ r. r.order < 2 ^ 63) p rows f.numbers;
      levels = all_filter (λ r. r.level ≤ 4) p rows f.levels;
    }

-- a row is under no id but those of rows
pub under_some : (rows : List Row) → AllByRecursion (InForest rows) rows → (id : ℕ) → row_of id rows ≡ None → (r : Row) → InForest rows r → is_under id r ≡ false
under_some rows all id none r f = each rows (λ x. is_under id x ≡ false) all
    (λ x g p. not_here x g (is_under id x) refl (λ h. under_root id x p h))
    (λ q x fq g c ih. child_case q x fq g c ih (is_under id x) refl)
    r f
  where
    gone : (x : Row) → InForest rows x → x.id ≡ id → ⊥
    gone x g e = let never = sym none ∙ (ap (λ (n : ℕ). row_of n rows) (sym e) ∙ g.is) in cc

    not_here : (x : Row) → InForest rows x → (b : Bool) → is_under id x ≡ b → (is_under id x ≡ true → x.id ≡ id) → is_under id x ≡ false
    not_here x g true e h = absurd (gone x g (h e))
    not_here x g false e h = e

    child_case : (q x : Row) → InForest rows q → InForest rows x → IsChildOf q x → is_under id q ≡ false → (b : Bool) → is_under id x ≡ b → is_under id x ≡ false
    child_case q x fq g c ih true e = elim (under_down id q x c g.level (shaped rows all q fq) e) [ inl t ↦ let never = sym t ∙ ih in cc | inr t ↦ absurd (gone x g t) ]
    child_case q x fq g c ih false e = e
