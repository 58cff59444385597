-- What the loops of the phases have done, one row more at a time.
use Rattle.std.proofs.Common.{◌≡◌, ℕ, zero, suc, Bool, true, false, cond, ℤ, Option, Some, None, List, [], ◌∷◌, ◌++◌, map, filter, drop, length, length-append, refl, ap, sym, ◌∙◌, arith}
use Rattle.std.specs.Prelude.{slice_get}
use Rattle.std.proofs.lemmas.List.{append_assoc, append-nil}
use Rattle.source_rows.specs.Tree.{IsOneTree}
use Rattle.context_core.specs.declared.interest.Shown.{Shown}
use Rattle.context_core.specs.Ready.{own_ready, is_ready, selected}
use Rattle.context_core.proofs.Cutoff.{cutoff, not_asked}
use Rattle.source_rows.specs.declared.row.Row.{Row}
use Rattle.source_rows.specs.Rows.{in_order}
use Rattle.source_rows.specs.Slots.{asks}
use Rattle.source_rows.proofs.Order.{all_in_order}
use Rattle.std.specs.List.{AllByRecursion}
use Rattle.context_core.specs.declared.interest.Interest.{Interest}
use Rattle.context_core.specs.Phases.{is_asked, asked_rows, interest_of, interests, less_urgent, least_ready, levels_for, shown, handed, walk}

some_number : (a b : ℕ) → Some a ≡ Some b → a ≡ b
some_number a b e = cc

some_interest : (i j : Interest) → Some i ≡ Some j → i ≡ j
some_interest i j e = cc

asked_by : (least : Option ℤ) (busy : List ℕ) (r : Row) (rs : List Row) (list : List Interest) (i : Interest) (b : Bool) → Some i ≡ cond b (Some (interest_of r)) None
    → (list ++ i ∷ []) ++ map interest_of (filter (is_asked least busy) rs) ≡ list ++ map interest_of (cond b (r ∷ filter (is_asked least busy) rs) (filter (is_asked least busy) rs))
asked_by least busy r rs list i true e =
    let same : i ≡ interest_of r = some_interest i (interest_of r) e in
    let back : (list ++ i ∷ []) ++ map interest_of (filter (is_asked least busy) rs) ≡ list ++ i ∷ map interest_of (filter (is_asked least busy) rs) = append_assoc list (i ∷ []) _ in
    back ∙ ap (λ (x : Interest). list ++ x ∷ map interest_of (filter (is_asked least busy) rs)) same
asked_by least busy r rs list i false e = let no : Some i ≡ None = e in cc

-- an interest listed
pub asked_more : (least : Option ℤ) (busy : List ℕ) (r : Row) (rs it : List Row) (list now all : List Interest) (i : Interest)
    → Some i ≡ cond (is_asked least busy r) (Some (interest_of r)) None → now ≡ list ++ i ∷ [] → it ≡ r ∷ rs
    → list ++ map interest_of (filter (is_asked least busy) it) ≡ all → now ++ map interest_of (filter (is_asked least busy) rs) ≡ all
asked_more least busy r rs it list now all i e n s h =
    ap (λ (l : List Interest). l ++ map interest_of (filter (is_asked least busy) rs)) n
    ∙ (asked_by least busy r rs list i (is_asked least busy r) e ∙ (ap (λ (l : List Row). list ++ map interest_of (filter (is_asked least busy) l)) (sym s) ∙ h))

-- a level handed in
pub handed_none : (rs : List Row) → handed rs [] ≡ []
handed_none [] = refl
handed_none (r ∷ rs) = refl

handed_by : (least : Option ℤ) (busy : List ℕ) (r : Row) (rs : List Row) (list : List Shown) (i : Interest) (level : ℕ) (rest : List ℕ) (b : Bool) → Some i ≡ cond b (Some (interest_of r)) None
    → (list ++ (record { fd = i.fd; level = level }) ∷ []) ++ handed (filter (is_asked least busy) rs) rest
    ≡ list ++ handed (cond b (r ∷ filter (is_asked least busy) rs) (filter (is_asked least busy) rs)) (level ∷ rest)
handed_by least busy r rs list i level rest true e =
    let same : i ≡ interest_of r = some_interest i (interest_of r) e in
    let back : (list ++ (record { fd = i.fd; level = level }) ∷ []) ++ handed (filter (is_asked least busy) rs) rest ≡ list ++ (record { fd = i.fd; level = level }) ∷ handed (filter (is_asked least busy) rs) rest = append_assoc list ((record { fd = i.fd; level = level }) ∷ []) _ in
    back ∙ ap (λ (x : Interest). list ++ (record { fd = x.fd; level = level }) ∷ handed (filter (is_asked least busy) rs) rest) same
handed_by least busy r rs list i level rest false e = let no : Some i ≡ None = e in cc

drop_next : (levels : List ℕ) (n level : ℕ) → Some level ≡ slice_get levels n → drop n levels ≡ level ∷ drop (suc n) levels
drop_next [] n level e = let no : Some level ≡ None = e in cc
drop_next (l ∷ levels) zero level e = let same : level ≡ l = some_number level l e in ap (λ (x : ℕ). x ∷ levels) (sym same)
drop_next (l ∷ levels) (suc n) level e = drop_next levels n level e

pub handed_more : (least : Option ℤ) (busy levels : List ℕ) (r : Row) (rs it : List Row) (list now all : List Shown) (i : Interest) (level : ℕ)
    → Some i ≡ cond (is_asked least busy r) (Some (interest_of r)) None → Some level ≡ slice_get levels (length list) → now ≡ list ++ (record { fd = i.fd; level = level }) ∷ [] → it ≡ r ∷ rs
    → list ++ handed (filter (is_asked least busy) it) (drop (length list) levels) ≡ all → now ++ handed (filter (is_asked least busy) rs) (drop (length now) levels) ≡ all
handed_more least busy levels r rs it list now all i level e g n s h =
    let one : List Shown = (record { fd = i.fd; level = level }) ∷ [] in
    let longer : length (list ++ one) ≡ suc (length list) = omega (arith, length-append list one) in
    rw (n, longer) (handed_by least busy r rs list i level (drop (suc (length list)) levels) (is_asked least busy r) e
    ∙ (ap (λ (l : List ℕ). list ++ handed (filter (is_asked least busy) (r ∷ rs)) l) (sym (drop_next levels (length list) level g))
    ∙ (ap (λ (l : List Row). list ++ handed (filter (is_asked least busy) l) (drop (length list) levels)) (sym s) ∙ h)))

drop_over : (levels : List ℕ) (n : ℕ) → slice_get levels n ≡ None → drop n levels ≡ []
drop_over [] zero e = refl
drop_over [] (suc n) e = refl
drop_over (l ∷ levels) zero e = let no : Some l ≡ None = e in cc
drop_over (l ∷ levels) (suc n) e = drop_over levels n e

-- and no level left for one
pub handed_over : (least : Option ℤ) (busy levels : List ℕ) (rs it : List Row) (list all : List Shown) → slice_get levels (length list) ≡ None
    → list ++ handed (filter (is_asked least busy) it) (drop (length list) levels) ≡ all → list ++ handed (filter (is_asked least busy) rs) (drop (length list) levels) ≡ all
handed_over least busy levels rs it list all g h =
    let none = drop_over levels (length list) g in
    let both : (xs : List Row) → list ++ handed xs (drop (length list) levels) ≡ list = λ xs. ap (λ (l : List ℕ). list ++ handed xs l) none ∙ (ap (λ (l : List Shown). list ++ l) (handed_none xs) ∙ append-nil list) in
    both (filter (is_asked least busy) rs) ∙ (sym (both (filter (is_asked least busy) it)) ∙ h)

-- a walk that takes one more row
pub walk_taken : (ready : Row → Bool) (bound : Option ℤ) (r : Row) (rs it : List Row) (ids now all : List ℕ) → less_urgent bound r.priority ≡ false → ready r ≡ true → it ≡ r ∷ rs → now ≡ ids ++ r.id ∷ []
    → ids ++ walk ready bound it ≡ all → now ++ walk ready (Some r.priority) rs ≡ all
walk_taken ready bound r rs it ids now all u t s n h =
    let next : walk ready bound (r ∷ rs) ≡ r.id ∷ walk ready (Some r.priority) rs = rw (u, t) refl in
    ap (λ (l : List ℕ). l ++ walk ready (Some r.priority) rs) n
    ∙ (append_assoc ids (r.id ∷ []) (walk ready (Some r.priority) rs) ∙ (ap (λ (l : List ℕ). ids ++ l) (sym next) ∙ (ap (λ (l : List Row). ids ++ walk ready bound l) (sym s) ∙ h)))

-- and one that passes over a row
pub walk_passed : (ready : Row → Bool) (bound : Option ℤ) (r : Row) (rs it : List Row) (ids all : List ℕ) → less_urgent bound r.priority ≡ false → ready r ≡ false → it ≡ r ∷ rs
    → ids ++ walk ready bound it ≡ all → ids ++ walk ready bound rs ≡ all
walk_passed ready bound r rs it ids all u t s h =
    let next : walk ready bound (r ∷ rs) ≡ walk ready bound rs = rw (u, t) refl in
    ap (λ (l : List ℕ). ids ++ l) (sym next) ∙ (ap (λ (l : List Row). ids ++ walk ready bound l) (sym s) ∙ h)

-- what a check's walk finds is what is selected
pub checked : (level : ℕ → ℕ) (cancelled : ℕ → Bool) (now : ℕ) (busy : List ℕ) (rows : List Row) (bound : Option ℤ) (levels : List ℕ) (list : List Shown) → IsOneTree rows
    → bound ≡ least_ready cancelled now busy rows → levels ≡ levels_for level (asked_rows bound busy rows) → list ≡ handed (asked_rows bound busy rows) levels
    → walk (is_ready (own_ready (shown list) cancelled now) busy rows) bound (in_order rows) ≡ selected (own_ready level cancelled now) busy rows
checked level cancelled now busy rows bound levels list tree b l h =
    let asked : List Row = asked_rows (least_ready cancelled now busy rows) busy rows in
    let same : list ≡ handed asked (levels_for level asked) = rw (sym b, sym l) h in
    rw (same, b) (cutoff level cancelled now busy rows tree)

-- ---- rows of which none is one of a descriptor

none_of : (least : Option ℤ) (busy : List ℕ) (rows : List Row) → AllByRecursion (λ r. asks r.kind ≡ false) rows → filter (is_asked least busy) rows ≡ []
none_of least busy [] h = refl
none_of least busy (r ∷ rows) h = rw (not_asked least busy r h.0) (none_of least busy rows h.1)

pub none_asked : (least : Option ℤ) (busy : List ℕ) (rows : List Row) → AllByRecursion (λ r. asks r.kind ≡ false) rows → interests least busy rows ≡ []
none_asked least busy rows h = ap (map interest_of) (none_of least busy (in_order rows) (all_in_order (λ r. asks r.kind ≡ false) rows h))
