-- The next row that may be ready, it or one under it, is the next one that is awake or the parent of the last.
use Rattle.std.proofs.Common.{◌≡◌, ◌⊎◌, ℕ, ◌&&◌, ◌||◌, Bool, true, false, not, cond, Option, Some, None, List, [], ◌∷◌, inl, inr, filter, refl, ap, sym, ◌∙◌, subst, arith}
use Rattle.std.specs.Prelude.{IfSome}
use Rattle.std.specs.List.{AllByRecursion, find, list_any}
use Rattle.std.specs.Ordering.{is_lt}
use Rattle.std.specs.Cmp.{tied_itself}
use Rattle.source_rows.specs.declared.row.Row.{Row}
use Rattle.source_rows.specs.declared.sight.Sight.{Sight}
use Rattle.source_rows.specs.Inserted.{Rises}
use Rattle.source_rows.specs.Lists.{Pairs}
use Rattle.source_rows.specs.Order.{IsInOrder, Apart}
use Rattle.source_rows.specs.Kept.{AllApart}
use Rattle.source_rows.specs.Rows.{key_of, is_under, stands_before, placed, in_order}
use Rattle.source_rows.specs.Tree.{IsForest, IsChildOf, HasPlace, parent_of}
use Rattle.source_rows.specs.Candidates.{is_awake, may_call}
use Rattle.source_rows.specs.Steps.{follows, comes, wakes, left_of, parent_at, nearer, IsStep}
use Rattle.source_rows.proofs.Compared.{and_both}
use Rattle.source_rows.proofs.Lists.{all_of, all_both, each_with_each}
use Rattle.source_rows.proofs.Inserted.{trans}
use Rattle.source_rows.proofs.Order.{key_total, before_order, flip, all_in_order, pairs_in_order, sorted_in_order}
use Rattle.source_rows.proofs.Forest.{InForest, members, found, each, shaped, same_id, under_root, under_down, under_up, under_self}
use Rattle.source_rows.proofs.Post.{children_first, together}

-- ---- what is found in a list

same_row : (a b : Row) → Some a ≡ Some b → a ≡ b
same_row a b e = cc

holds_by : (P : Row → Type 0) (q z : Row) (o : Option Row) → P q → (o ≡ Some z → P z) → (b : Bool) → cond b (Some q) o ≡ Some z → P z
holds_by P q z o h ih true e = subst P (same_row q z e) h
holds_by P q z o h ih false e = ih e

pub find_holds : (P : Row → Type 0) (f : Row → Bool) (z : Row) (xs : List Row) → AllByRecursion P xs → find f xs ≡ Some z → P z
find_holds P f z [] h e = cc
find_holds P f z (q ∷ xs) h e = holds_by P q z (find f xs) h.0 (find_holds P f z xs h.1) (f q) e

passes_by : (f : Row → Bool) (q z : Row) (o : Option Row) → (o ≡ Some z → f z ≡ true) → (b : Bool) → f q ≡ b → cond b (Some q) o ≡ Some z → f z ≡ true
passes_by f q z o ih true k e = ap f (sym (same_row q z e)) ∙ k
passes_by f q z o ih false k e = ih e

pub find_passes : (f : Row → Bool) (z : Row) (xs : List Row) → find f xs ≡ Some z → f z ≡ true
find_passes f z [] e = cc
find_passes f z (q ∷ xs) e = passes_by f q z (find f xs) (find_passes f z xs) (f q) refl e

none_by : (f : Row → Bool) (q : Row) (xs : List Row) → (find f xs ≡ None → AllByRecursion (λ x. f x ≡ false) xs) → (b : Bool) → f q ≡ b → cond b (Some q) (find f xs) ≡ None → AllByRecursion (λ x. f x ≡ false) (q ∷ xs)
none_by f q xs ih true k e = cc
none_by f q xs ih false k e = (k, ih e)

pub find_none : (f : Row → Bool) (xs : List Row) → find f xs ≡ None → AllByRecursion (λ x. f x ≡ false) xs
find_none f [] e = tt
find_none f (q ∷ xs) e = none_by f q xs (find_none f xs) (f q) refl e

not_self : (q : Row) → stands_before q q ≡ false
not_self q = ap is_lt (tied_itself key_total (key_of q))

first_by : (f : Row → Bool) (q z : Row) (xs : List Row) → AllByRecursion (λ x. stands_before x q ≡ false) xs → (find f xs ≡ Some z → AllByRecursion (λ x. f x ≡ true → stands_before x z ≡ false) xs) → (b : Bool) → f q ≡ b
    → cond b (Some q) (find f xs) ≡ Some z → AllByRecursion (λ x. f x ≡ true → stands_before x z ≡ false) (q ∷ xs)
first_by f q z xs s ih true k e =
    subst (λ (y : Row). AllByRecursion (λ x. f x ≡ true → stands_before x y ≡ false) (q ∷ xs)) (same_row q z e)
    (λ t. not_self q, all_of (λ x. stands_before x q ≡ false) (λ x. f x ≡ true → stands_before x q ≡ false) (λ x h t. h) xs s)
first_by f q z xs s ih false k e = (λ t. let never = sym k ∙ t in cc, ih e)

pub find_first : (f : Row → Bool) (z : Row) (xs : List Row) → IsInOrder xs → find f xs ≡ Some z → AllByRecursion (λ x. f x ≡ true → stands_before x z ≡ false) xs
find_first f z [] s e = tt
find_first f z (q ∷ xs) s e = first_by f q z xs s.0 (find_first f z xs s.1) (f q) refl e

some_by : (f : Row → Bool) (P : Row → Type 0) (q : Row) (xs : List Row) → P q → (list_any f xs ≡ true → (z : Row) × P z × (f z ≡ true)) → (b : Bool) → f q ≡ b → (b || list_any f xs) ≡ true → (z : Row) × P z × (f z ≡ true)
some_by f P q xs h ih true k e = (q, h, k)
some_by f P q xs h ih false k e = ih e

pub any_some : (f : Row → Bool) (P : Row → Type 0) (xs : List Row) → AllByRecursion P xs → list_any f xs ≡ true → (z : Row) × P z × (f z ≡ true)
any_some f P [] h e = let no : false ≡ true = e in cc
any_some f P (q ∷ xs) h e = some_by f P q xs h.0 (any_some f P xs h.1) (f q) refl e

none_split : (f : Row → Bool) (q : Row) (xs : List Row) → (list_any f xs ≡ false → AllByRecursion (λ x. f x ≡ false) xs) → (b : Bool) → f q ≡ b → (b || list_any f xs) ≡ false → AllByRecursion (λ x. f x ≡ false) (q ∷ xs)
none_split f q xs ih true k e = let no : true ≡ false = e in cc
none_split f q xs ih false k e = (k, ih e)

pub any_none : (f : Row → Bool) (xs : List Row) → list_any f xs ≡ false → AllByRecursion (λ x. f x ≡ false) xs
any_none f [] e = tt
any_none f (q ∷ xs) e = none_split f q xs (any_none f xs) (f q) refl e

-- ---- rows of a forest, and those in order

all_of_placed_by : (P : Row → Type 0) (r q : Row) (qs : List Row) (b : Bool) → (AllByRecursion P (placed r qs) → AllByRecursion P (r ∷ qs)) → AllByRecursion P (cond b (r ∷ q ∷ qs) (q ∷ placed r qs)) → AllByRecursion P (r ∷ q ∷ qs)
all_of_placed_by P r q qs true ih h = h
all_of_placed_by P r q qs false ih h = let t = ih h.1 in (t.0, (h.0, t.1))

all_of_placed : (P : Row → Type 0) (r : Row) (qs : List Row) → AllByRecursion P (placed r qs) → AllByRecursion P (r ∷ qs)
all_of_placed P r [] h = h
all_of_placed P r (q ∷ qs) h = all_of_placed_by P r q qs (stands_before r q) (all_of_placed P r qs) h

all_of_order : (P : Row → Type 0) (rows : List Row) → AllByRecursion P (in_order rows) → AllByRecursion P rows
all_of_order P [] h = tt
all_of_order P (r ∷ rows) h = let t = all_of_placed P r (in_order rows) h in (t.0, all_of_order P rows t.1)

abbrev One : Row → Row → Type 0
One x y = stands_before x y ≡ false → stands_before y x ≡ false → x ≡ y

one_of : (x y : Row) → Apart x y → One x y
one_of x y (inl a) h k = let no = sym a ∙ h in cc
one_of x y (inr a) h k = let no = sym a ∙ k in cc

ones : (rows : List Row) → AllApart rows → AllByRecursion (λ x. AllByRecursion (One x) rows) rows
ones rows h = each_with_each Apart One (λ x a b. refl) one_of (λ x y a. one_of y x (flip x y a)) rows h

-- two rows that stand in one place are one
one_row : (rows : List Row) → AllApart rows → (x y : Row) → InForest rows x → InForest rows y → One x y
one_row rows apart x y f g = found (One x) y.id y rows (found (λ z. AllByRecursion (One z) rows) x.id x rows (ones rows apart) f.is) g.is

-- what passes and stands before all others that do is found first
is_first_by : (rows : List Row) → IsForest rows → AllApart rows → (f : Row → Bool) (y : Row) → InForest rows y → f y ≡ true → AllByRecursion (λ x. f x ≡ true → stands_before x y ≡ false) rows
    → (o : Option Row) → find f (in_order rows) ≡ o → o ≡ Some y
is_first_by rows forest apart f y g t h None e =
    let no = found (λ x. f x ≡ false) y.id y rows (all_of_order (λ x. f x ≡ false) rows (find_none f (in_order rows) e)) g.is in
    let never = sym no ∙ t in cc
is_first_by rows forest apart f y g t h (Some z) e =
    let all = members rows forest in
    let w = find_holds (InForest rows) f z (in_order rows) (all_in_order (InForest rows) rows all) e in
    let least = all_of_order (λ x. f x ≡ true → stands_before x z ≡ false) rows (find_first f z (in_order rows) (sorted_in_order rows) e) in
    let a = found (λ x. f x ≡ true → stands_before x z ≡ false) y.id y rows least g.is t in
    let b = found (λ x. f x ≡ true → stands_before x y ≡ false) z.id z rows h w.is (find_passes f z (in_order rows) e) in
    ap (λ (r : Row). Some r) (one_row rows apart z y w g b a)

is_first : (rows : List Row) → IsForest rows → AllApart rows → (f : Row → Bool) (y : Row) → InForest rows y → f y ≡ true → AllByRecursion (λ x. f x ≡ true → stands_before x y ≡ false) rows
    → find f (in_order rows) ≡ Some y
is_first rows forest apart f y g t h = is_first_by rows forest apart f y g t h (find f (in_order rows)) refl

all_false : (f : Row → Bool) (xs : List Row) → AllByRecursion (λ x. f x ≡ false) xs → find f xs ≡ None
all_false f [] h = refl
all_false f (x ∷ xs) h = rw h.0 (all_false f xs h.1)

any_here_by : (f : Row → Bool) (rows : List Row) (q : Row) → InForest rows q → f q ≡ true → (b : Bool) → list_any f rows ≡ b → b ≡ true
any_here_by f rows q g t true e = refl
any_here_by f rows q g t false e = let never = sym (found (λ x. f x ≡ false) q.id q rows (any_none f rows e) g.is) ∙ t in cc

pub any_here : (f : Row → Bool) (rows : List Row) (q : Row) → InForest rows q → f q ≡ true → list_any f rows ≡ true
any_here f rows q g t = any_here_by f rows q g t (list_any f rows) refl

pub both_true : (a b : Bool) → a ≡ true → b ≡ true → (a && b) ≡ true
both_true a b h k = rw (h, k) refl

-- ---- who may call

pub awake_calls : (rows : List Row) → AllByRecursion (InForest rows) rows → (sight : Sight) (q : Row) → InForest rows q → is_awake sight q ≡ true → may_call sight rows q ≡ true
awake_calls rows all sight q g h = any_here (λ x. is_under q.id x && is_awake sight x) rows q g (both_true _ _ (under_self q (shaped rows all q g)) h)

pub under_all : (rows : List Row) → AllByRecursion (InForest rows) rows → (p r : Row) → InForest rows r → is_under p.id r ≡ true → (q : Row) → InForest rows q → is_under r.id q ≡ true → is_under p.id q ≡ true
under_all rows all p r g u = each rows (λ q. is_under r.id q ≡ true → is_under p.id q ≡ true) all
    (λ q f place h. subst (λ (x : Row). is_under p.id x ≡ true) (sym (same_id rows q r f g (under_root r.id q place h))) u)
    (λ w q fw f c ih h. elim (under_down r.id w q c f.level (shaped rows all w fw) h) [
      | inl t ↦ under_up p.id w q c f.level (shaped rows all w fw) (ih t)
      | inr t ↦ subst (λ (x : Row). is_under p.id x ≡ true) (sym (same_id rows q r f g t)) u
    ])

parent_calls : (rows : List Row) → AllByRecursion (InForest rows) rows → (sight : Sight) (p r : Row) → InForest rows p → InForest rows r → IsChildOf p r → may_call sight rows r ≡ true → may_call sight rows p ≡ true
parent_calls rows all sight p r fp g c h =
    let w = any_some (λ x. is_under r.id x && is_awake sight x) (InForest rows) rows all h in
    let two = and_both (is_under r.id w.0) (is_awake sight w.0) w.2 in
    let up = under_up p.id p r c g.level (shaped rows all p fp) (under_self p (shaped rows all p fp)) in
    any_here (λ x. is_under p.id x && is_awake sight x) rows w.0 w.1 (both_true _ _ (under_all rows all p r g up w.0 w.1 two.0) two.1)

parent_behind_by : (rows : List Row) → IsForest rows → AllApart rows → (p r : Row) → InForest rows p → InForest rows r → IsChildOf p r → stands_before p r ≡ false → (b : Bool) → stands_before r p ≡ b → b ≡ true
parent_behind_by rows forest apart p r fp g c h true e = refl
parent_behind_by rows forest apart p r fp g c h false e =
    let same = ap (λ (x : Row). x.level) (one_row rows apart r p g fp e h) in
    let up = c.level in
    absurd (omega (arith, same, up))

parent_behind : (rows : List Row) → IsForest rows → AllApart rows → (p r : Row) → InForest rows p → InForest rows r → IsChildOf p r → stands_before r p ≡ true
parent_behind rows forest apart p r fp g c =
    let all = members rows forest in
    let up = under_up p.id p r c g.level (shaped rows all p fp) (under_self p (shaped rows all p fp)) in
    parent_behind_by rows forest apart p r fp g c (children_first rows all p r fp g up) (stands_before r p) refl

twice : (b : Bool) → not (not b) ≡ b
twice true = refl
twice false = refl

pub follows_before : (q r : Row) → follows (Some q) r ≡ stands_before q r
follows_before q r = twice (stands_before q r)

-- ---- what comes stands no sooner than what wakes, or than the parent of the last

abbrev Woken : List Row → Sight → Option Row → Row → Type 0
Woken rows sight last y = (q : Row) × InForest rows q × (wakes sight last q ≡ true) × (stands_before y q ≡ false)

abbrev Above : List Row → Option Row → Row → Type 0
Above rows last y = (p : Row) × (parent_at rows last ≡ Some p) × (stands_before y p ≡ false)

above_by : (rows : List Row) → AllByRecursion (InForest rows) rows → (y r : Row) → InForest rows y → InForest rows r → stands_before r y ≡ true → is_under y.id r ≡ true → (o : Option ℕ) → HasPlace rows o r → (p : Row) × (parent_of rows o ≡ Some p) × (stands_before y p ≡ false)
above_by rows all y r f g h u None place =
    let same = same_id rows r y g f (under_root y.id r place u) in
    let no = sym (subst (λ (x : Row). stands_before r x ≡ false) same (not_self r)) ∙ h in cc
above_by rows all y r f g h u (Some id) place =
    let p = place.0 in
    let fp = found (InForest rows) id p rows all place.1 in
    elim (under_down y.id p r place.2 g.level (shaped rows all p fp) u) [
      | inl t ↦ (p, place.1, children_first rows all y p f fp t)
      | inr t ↦
          let same = same_id rows r y g f t in
          let no = sym (subst (λ (x : Row). stands_before r x ≡ false) same (not_self r)) ∙ h in cc
    ]

come_by : (rows : List Row) → IsForest rows → (sight : Sight) (r y q : Row) → InForest rows r → InForest rows y → InForest rows q → stands_before r y ≡ true → is_under y.id q ≡ true → is_awake sight q ≡ true
    → (b : Bool) → stands_before r q ≡ b → Woken rows sight (Some r) y ⊎ Above rows (Some r) y
come_by rows forest sight r y q g f k h u awake true e = inl (q, k, both_true _ _ (follows_before r q ∙ e) awake, children_first rows (members rows forest) y q f k u)
come_by rows forest sight r y q g f k h u awake false e =
    let all = members rows forest in
    let over = together rows all y q r f k g u e (before_order.one_way r y h) in
    inr (above_by rows all y r f g h over r.parent g.place)

comes_from : (rows : List Row) → IsForest rows → (sight : Sight) (last : Option Row) → IfSome last (λ r. InForest rows r) → (y : Row) → InForest rows y → comes sight rows last y ≡ true → Woken rows sight last y ⊎ Above rows last y
comes_from rows forest sight None g y f h =
    let all = members rows forest in
    let two = and_both (follows None y) (may_call sight rows y) h in
    let w = any_some (λ x. is_under y.id x && is_awake sight x) (InForest rows) rows all two.1 in
    let both = and_both (is_under y.id w.0) (is_awake sight w.0) w.2 in
    inl (w.0, w.1, both.1, children_first rows all y w.0 f w.1 both.0)
comes_from rows forest sight (Some r) g y f h =
    let all = members rows forest in
    let two = and_both (follows (Some r) y) (may_call sight rows y) h in
    let w = any_some (λ x. is_under y.id x && is_awake sight x) (InForest rows) rows all two.1 in
    let both = and_both (is_under y.id w.0) (is_awake sight w.0) w.2 in
    come_by rows forest sight r y w.0 g f w.1 (sym (follows_before r y) ∙ two.0) both.0 both.1 (stands_before r w.0) refl

-- ---- the next row

later : (y q x : Row) → stands_before y q ≡ false → stands_before q x ≡ false → stands_before y x ≡ false
later y q x h k = before_order.chain y q x h k

module _ (rows : List Row) (forest : IsForest rows) (apart : AllApart rows) (sight : Sight) (last : Option Row) (there : IfSome last (λ r. InForest rows r)) (parents : (p : Row) → parent_at rows last ≡ Some p → InForest rows p × (comes sight rows last p ≡ true)) where
  woken : (q : Row) → InForest rows q → wakes sight last q ≡ true → comes sight rows last q ≡ true
  woken q g h =
      let two = and_both (follows last q) (is_awake sight q) h in
      both_true _ _ two.0 (awake_calls rows (members rows forest) sight q g two.1)

  -- none comes where none wakes and there is no parent
  nothing : find (wakes sight last) (in_order rows) ≡ None → parent_at rows last ≡ None → find (comes sight rows last) (in_order rows) ≡ None
  nothing e h = all_false (comes sight rows last) (in_order rows) (all_in_order (λ y. comes sight rows last y ≡ false) rows
      (all_of (InForest rows) (λ y. comes sight rows last y ≡ false) (λ y f. never_by y f (comes sight rows last y) refl) rows (members rows forest)))
    where
      asleep : AllByRecursion (λ y. wakes sight last y ≡ false) rows
      asleep = all_of_order (λ y. wakes sight last y ≡ false) rows (find_none (wakes sight last) (in_order rows) e)

      never_by : (y : Row) → InForest rows y → (b : Bool) → comes sight rows last y ≡ b → b ≡ false
      never_by y f false t = refl
      never_by y f true t = elim (comes_from rows forest sight last there y f t) [
        | inl w ↦ let no = sym (found (λ x. wakes sight last x ≡ false) w.0.id w.0 rows asleep w.1.is) ∙ w.2 in cc
        | inr p ↦ let no = sym h ∙ p.1 in cc
      ]

  -- a row that comes is the next where it stands no later than what wakes first and than the parent
  next_is : (y : Row) → InForest rows y → comes sight rows last y ≡ true
      → ((q : Row) → InForest rows q → wakes sight last q ≡ true → stands_before q y ≡ false) → ((p : Row) → parent_at rows last ≡ Some p → stands_before p y ≡ false)
      → find (comes sight rows last) (in_order rows) ≡ Some y
  next_is y f t h k = is_first rows forest apart (comes sight rows last) y f t
      (all_of (InForest rows) (λ x. comes sight rows last x ≡ true → stands_before x y ≡ false) (λ x g c. elim (comes_from rows forest sight last there x g c) [
        | inl w ↦ later x w.0 y w.3 (h w.0 w.1 w.2)
        | inr p ↦ later x p.0 y p.2 (k p.0 p.1)
      ]) rows (members rows forest))

  first_woken : (x q : Row) → find (wakes sight last) (in_order rows) ≡ Some x → InForest rows q → wakes sight last q ≡ true → stands_before q x ≡ false
  first_woken x q e g t =
      found (λ z. wakes sight last z ≡ true → stands_before z x ≡ false) q.id q rows
      (all_of_order (λ z. wakes sight last z ≡ true → stands_before z x ≡ false) rows (find_first (wakes sight last) x (in_order rows) (sorted_in_order rows) e)) g.is t

  there_woken : (x : Row) → find (wakes sight last) (in_order rows) ≡ Some x → InForest rows x
  there_woken x e = find_holds (InForest rows) (wakes sight last) x (in_order rows) (all_in_order (InForest rows) rows (members rows forest)) e

  passes_woken : (x : Row) → find (wakes sight last) (in_order rows) ≡ Some x → comes sight rows last x ≡ true
  passes_woken x e = woken x (there_woken x e) (find_passes (wakes sight last) x (in_order rows) e)

  nearer_by : (x p : Row) → find (wakes sight last) (in_order rows) ≡ Some x → parent_at rows last ≡ Some p → (b : Bool) → stands_before p x ≡ b → find (comes sight rows last) (in_order rows) ≡ cond b (Some p) (Some x)
  nearer_by x p e h true k =
      let is = parents p h in
      next_is p is.0 is.1 (λ q g t. later q x p (first_woken x q e g t) (before_order.one_way p x k)) (λ z u. subst (λ (y : Row). stands_before y p ≡ false) (same_row p z (sym h ∙ u)) (not_self p))
  nearer_by x p e h false k =
      next_is x (there_woken x e) (passes_woken x e) (λ q g t. first_woken x q e g t) (λ z u. subst (λ (y : Row). stands_before y x ≡ false) (same_row p z (sym h ∙ u)) k)

  none_wakes : (q : Row) → find (wakes sight last) (in_order rows) ≡ None → InForest rows q → wakes sight last q ≡ true → ⊥
  none_wakes q e g t =
      let no = sym (found (λ x. wakes sight last x ≡ false) q.id q rows (all_of_order (λ y. wakes sight last y ≡ false) rows (find_none (wakes sight last) (in_order rows) e)) g.is) ∙ t in cc

  next_by : (o p : Option Row) → find (wakes sight last) (in_order rows) ≡ o → parent_at rows last ≡ p → find (comes sight rows last) (in_order rows) ≡ nearer o p
  next_by None None e h = nothing e h
  next_by None (Some p) e h =
      let is = parents p h in
      next_is p is.0 is.1 (λ q g t. absurd (none_wakes q e g t)) (λ z u. subst (λ (y : Row). stands_before y p ≡ false) (same_row p z (sym h ∙ u)) (not_self p))
  next_by (Some x) None e h = next_is x (there_woken x e) (passes_woken x e) (λ q g t. first_woken x q e g t) (λ z u. let no = sym h ∙ u in cc)
  next_by (Some x) (Some p) e h = nearer_by x p e h (stands_before p x) refl

-- ---- the parent of the last

pub parent_comes : (rows : List Row) → IsForest rows → AllApart rows → (sight : Sight) (r : Row) → InForest rows r → may_call sight rows r ≡ true → (o : Option ℕ) → HasPlace rows o r → (p : Row) → parent_of rows o ≡ Some p
    → InForest rows p × (comes sight rows (Some r) p ≡ true)
parent_comes rows forest apart sight r g m None place p e = cc
parent_comes rows forest apart sight r g m (Some id) place p e =
    let all = members rows forest in
    let fp = found (InForest rows) id p rows all e in
    let c : IsChildOf p r = subst (λ (x : Row). IsChildOf x r) (same_row place.0 p (sym place.1 ∙ e)) place.2 in
    (fp, both_true _ _ (follows_before r p ∙ parent_behind rows forest apart p r fp g c) (parent_calls rows all sight p r fp g c m))

pub next_step : (rows : List Row) (sight : Sight) (last : Option Row) → IsStep rows sight last → find (comes sight rows last) (in_order rows) ≡ nearer (find (wakes sight last) (in_order rows)) (parent_at rows last)
next_step rows sight None h = next_by rows h.forest h.apart sight None tt (λ p e. cc) (find (wakes sight None) (in_order rows)) None refl refl
next_step rows sight (Some r) h =
    let g = found (InForest rows) r.id r rows (members rows h.forest) h.valid.0 in
    next_by rows h.forest h.apart sight (Some r) g (λ p e. parent_comes rows h.forest h.apart sight r g h.valid.1 r.parent g.place p e) (find (wakes sight (Some r)) (in_order rows)) (parent_of rows r.parent) refl refl

-- what comes is a step again
pub stepped : (rows : List Row) (sight : Sight) (last : Option Row) (y : Row) → IsStep rows sight last → find (comes sight rows last) (in_order rows) ≡ Some y → IsStep rows sight (Some y)
stepped rows sight last y h e = record {
  forest = h.forest;
  apart = h.apart;
  valid =
      let f = find_holds (InForest rows) (comes sight rows last) y (in_order rows) (all_in_order (InForest rows) rows (members rows h.forest)) e in
      (f.is, (and_both (follows last y) (may_call sight rows y) (find_passes (comes sight rows last) y (in_order rows) e)).1);
}

-- ---- the rows that are left

pub same_filter : (f g : Row → Bool) (xs : List Row) → AllByRecursion (λ x. f x ≡ g x) xs → filter f xs ≡ filter g xs
same_filter f g [] h = refl
same_filter f g (x ∷ xs) h = rw h.0 (ap (λ (ys : List Row). cond (g x) (x ∷ ys) ys) (same_filter f g xs h.1))

left_by : (g p : Row → Bool) (y q : Row) (qs : List Row) → ((a b : Row) → g a ≡ true → stands_before a b ≡ true → g b ≡ true) → AllByRecursion (λ x. stands_before q x ≡ true) qs
    → (find (λ x. g x && p x) qs ≡ Some y → filter (λ x. g x && p x) qs ≡ y ∷ filter (λ x. stands_before y x && p x) qs)
    → (b : Bool) → (g q && p q) ≡ b → cond b (Some q) (find (λ x. g x && p x) qs) ≡ Some y
    → cond b (q ∷ filter (λ x. g x && p x) qs) (filter (λ x. g x && p x) qs) ≡ y ∷ filter (λ x. stands_before y x && p x) (q ∷ qs)
left_by g p y q qs up s ih true t e =
    let here = (and_both (g q) (p q) t).0 in
    subst (λ (z : Row). q ∷ filter (λ x. g x && p x) qs ≡ z ∷ filter (λ x. stands_before z x && p x) (q ∷ qs)) (same_row q y e)
    (rw (not_self q) (ap (λ (ys : List Row). q ∷ ys)
    (same_filter (λ x. g x && p x) (λ x. stands_before q x && p x) qs
    (all_of (λ x. stands_before q x ≡ true) (λ x. (g x && p x) ≡ (stands_before q x && p x)) (λ x h. ap (λ (b : Bool). b && p x) (up q x here h ∙ sym h)) qs s))))
left_by g p y q qs up s ih false t e =
    let after = find_holds (λ x. stands_before q x ≡ true) (λ x. g x && p x) y qs s e in
    let out : stands_before y q ≡ false = before_order.one_way q y after in
    ih e ∙ rw out refl

left_step : (g p : Row → Bool) (y : Row) (xs : List Row) → ((a b : Row) → g a ≡ true → stands_before a b ≡ true → g b ≡ true) → Rises stands_before xs → find (λ x. g x && p x) xs ≡ Some y
    → filter (λ x. g x && p x) xs ≡ y ∷ filter (λ x. stands_before y x && p x) xs
left_step g p y [] up s e = cc
left_step g p y (q ∷ qs) up s e = left_by g p y q qs up s.0 (left_step g p y qs up s.1) (g q && p q) refl e

follows_up : (last : Option Row) (a b : Row) → follows last a ≡ true → stands_before a b ≡ true → follows last b ≡ true
follows_up None a b h k = refl
follows_up (Some r) a b h k = follows_before r b ∙ trans stands_before before_order r a b (sym (follows_before r a) ∙ h) k

must : (a b : Row) → Apart a b → stands_before b a ≡ false → stands_before a b ≡ true
must a b (inl h) k = h
must a b (inr h) k = let no = sym h ∙ k in cc

pub rises_in_order : (rows : List Row) → AllApart rows → Rises stands_before (in_order rows)
rises_in_order rows h = both_pairs (in_order rows) (sorted_in_order rows) (pairs_in_order Apart flip rows h)
  where
    both_pairs : (xs : List Row) → IsInOrder xs → Pairs Apart xs → Rises stands_before xs
    both_pairs [] s a = tt
    both_pairs (x ∷ xs) s a = (all_both (λ y. stands_before y x ≡ false) (Apart x) (λ y. stands_before x y ≡ true) (λ y u v. must x y v u) xs s.0 a.0, both_pairs xs s.1 a.1)

pub left_more : (rows : List Row) (sight : Sight) (last : Option Row) (y : Row) → AllApart rows → find (comes sight rows last) (in_order rows) ≡ Some y → left_of sight rows last ≡ y ∷ left_of sight rows (Some y)
left_more rows sight last y apart e =
    left_step (follows last) (may_call sight rows) y (in_order rows) (follows_up last) (rises_in_order rows apart) e
    ∙ ap (λ (ys : List Row). y ∷ ys) (same_filter (λ x. stands_before y x && may_call sight rows x) (comes sight rows (Some y)) (in_order rows)
    (all_in_order (λ x. (stands_before y x && may_call sight rows x) ≡ comes sight rows (Some y) x) rows (each_same rows)))
  where
    each_same : (xs : List Row) → AllByRecursion (λ x. (stands_before y x && may_call sight rows x) ≡ comes sight rows (Some y) x) xs
    each_same [] = tt
    each_same (x ∷ xs) = (ap (λ (b : Bool). b && may_call sight rows x) (sym (follows_before y x)), each_same xs)

pub left_none : (f : Row → Bool) (xs : List Row) → find f xs ≡ None → filter f xs ≡ []
left_none f xs e = all_out xs (find_none f xs e)
  where
    all_out : (ys : List Row) → AllByRecursion (λ x. f x ≡ false) ys → filter f ys ≡ []
    all_out [] h = refl
    all_out (y ∷ ys) h = rw h.0 (all_out ys h.1)
