-- What the things of a run with names are called is told apart, whatever stands behind it.
use Rattle.std.proofs.Common.{◌≡◌, ◌∙◌, sym, refl, ap, subst, ℕ, ◌<◌, ◌^◌, List, [], ◌∷◌, ◌++◌, codes, Bool, true, false, ◌&&◌, ◌==◌, Option, Some, None, IfSome, arith, append_assoc, get_or, length, unwrap_or}
use Rattle.std.proofs.lemmas.Bool.{true≢false}
use Rattle.std.proofs.lemmas.Bool.Decides.{nat_tests}
use Rattle.std.proofs.lemmas.Fmt.{decimal_nonempty}
use Rattle.std.proofs.lemmas.List.{append_cancel_left}
use Rattle.std.specs.Prelude.{if◌then◌else◌}
use Rattle.std.specs.Fmt.{decimal}
use Rattle.std.specs.List.{list_all}
use Rattle.json.specs.Print.{quoted}
use Rattle.named.specs.Names.{Names, of_kind, number_of}
use Rattle.named.specs.declared.sort.Kind.{Kind}
use Rattle.named.specs.declared.sort.Kind.TheVariants as kinds
use Rattle.run_names.specs.declared.label.Label.{Label}
use Rattle.run_names.specs.declared.label.Origin.{Origin}
use Rattle.run_names.specs.declared.label.Origin.TheVariants.{Slot, Reply, Invoke}
use Rattle.run_names.specs.declared.label.Seat.{Seat}
use Rattle.run_names.specs.Called.{HaveNumbers, name_in}
use Rattle.run_names.specs.Labelled.{label_of}
use Rattle.run_names.specs.Text.{Calling, is_plain, is_bare, name_text, name_or, number_text, called, within, origin_text, place_text, label_text, label_or, id_text, seat_text, source_text, handler_text, quoted_or}
use Rattle.run_names.specs.Fit.{OriginFits, LabelFits, AreLabels, IsOfNames}
use Rattle.run_names.proofs.Peel.{Ends, peel_name, peel_decimal, peel_quoted, plain_decimal, tail_of}

-- the first byte of a text
abbrev first : List ℕ → ℕ
first t = get_or t 0 0

same_first : (t u : List ℕ) → t ≡ u → first t ≡ first u
same_first t u e = ap first e

-- a name begins as a plain text does, or with a quote: not with a mark
first_plain : (a r : List ℕ) → is_bare a ≡ true → is_plain (first (a ++ r)) ≡ true
first_plain [] r h = absurd (true≢false (sym h))
first_plain (x ∷ a) r h = both (is_plain x) (list_all is_plain a) h
  where
    both : (p q : Bool) → (p && q) ≡ true → p ≡ true
    both true q e = refl
    both false q e = absurd (true≢false (sym e))

no_mark_by : (m : Bool) (a r t : List ℕ) → is_bare a ≡ m → (if m then a else quoted a) ++ r ≡ 35 ∷ t → ⊥
no_mark_by true a r t h e = true≢false (sym (first_plain a r h) ∙ ap is_plain (same_first (a ++ r) (35 ∷ t) e))
no_mark_by false a r t h e = let bad : 34 ≡ 35 = same_first (quoted a ++ r) (35 ∷ t) e in omega (arith, bad)

pub no_mark : (a r t : List ℕ) → name_text a ++ r ≡ 35 ∷ t → ⊥
no_mark a r t e = no_mark_by (is_bare a) a r t refl e

-- a number that has no name
peel_number : (ns : Names) (m n : ℕ) (r s : List ℕ) → m < 2 ^ 64 → n < 2 ^ 64 → Ends r → Ends s → number_text (Some ns) m ++ r ≡ number_text (Some ns) n ++ s → (m ≡ n) × (r ≡ s)
peel_number ns m n r s p q f g e = peel_decimal m n r s p q f g (tail_of 35 35 (decimal m ++ r) (decimal n ++ s) e)

some_number : (kind : Kind) (ns : Names) (a : List ℕ) (m : ℕ) → HaveNumbers ns → name_in kind m (Some ns) ≡ Some a → number_of a (of_kind kind ns) ≡ Some m
some_number kind ns a m have e = subst (λ o. IfSome o (λ name. number_of name (of_kind kind ns) ≡ Some m)) e (have kind m)

called_by : (kind : Kind) (ns : Names) → HaveNumbers ns → (o u : Option (List ℕ)) (m n : ℕ) (r s : List ℕ) → name_in kind m (Some ns) ≡ o → name_in kind n (Some ns) ≡ u → m < 2 ^ 64 → n < 2 ^ 64 → Ends r → Ends s
    → name_or o (number_text (Some ns) m) ++ r ≡ name_or u (number_text (Some ns) n) ++ s → (m ≡ n) × (r ≡ s)
called_by kind ns have (Some a) (Some b) m n r s oe ue p q f g e =
    let both = peel_name a b r s f g e in
    (ap (λ o. unwrap_or o m) (sym (some_number kind ns a m have oe) ∙ ap (λ x. number_of x (of_kind kind ns)) both.0 ∙ some_number kind ns b n have ue), both.1)
called_by kind ns have (Some a) None m n r s oe ue p q f g e = absurd (no_mark a r (decimal n ++ s) e)
called_by kind ns have None (Some b) m n r s oe ue p q f g e = absurd (no_mark b s (decimal m ++ r) (sym e))
called_by kind ns have None None m n r s oe ue p q f g e = peel_number ns m n r s p q f g e

-- what has a number among those of its kind
pub peel_called : (kind : Kind) (ns : Names) → HaveNumbers ns → (m n : ℕ) (r s : List ℕ) → m < 2 ^ 64 → n < 2 ^ 64 → Ends r → Ends s → called kind m (Some ns) ++ r ≡ called kind n (Some ns) ++ s → (m ≡ n) × (r ≡ s)
peel_called kind ns have m n r s p q f g e = called_by kind ns have (name_in kind m (Some ns)) (name_in kind n (Some ns)) m n r s refl refl p q f g e

text_by : (ns : Names) → HaveNumbers ns → (o u : Option (List ℕ)) (m n : ℕ) (r s : List ℕ) → name_in kinds.Text m (Some ns) ≡ o → name_in kinds.Text n (Some ns) ≡ u → m < 2 ^ 64 → n < 2 ^ 64 → Ends r → Ends s
    → quoted_or o (number_text (Some ns) m) ++ r ≡ quoted_or u (number_text (Some ns) n) ++ s → (m ≡ n) × (r ≡ s)
text_by ns have (Some a) (Some b) m n r s oe ue p q f g e =
    let both = peel_quoted a b r s e in
    (ap (λ o. unwrap_or o m) (sym (some_number kinds.Text ns a m have oe) ∙ ap (λ x. number_of x (of_kind kinds.Text ns)) both.0 ∙ some_number kinds.Text ns b n have ue), both.1)
text_by ns have (Some a) None m n r s oe ue p q f g e = let bad : 34 ≡ 35 = same_first (quoted a ++ r) (35 ∷ (decimal n ++ s)) e in absurd (omega (arith, bad))
text_by ns have None (Some b) m n r s oe ue p q f g e = let bad : 35 ≡ 34 = same_first (35 ∷ (decimal m ++ r)) (quoted b ++ s) e in absurd (omega (arith, bad))
text_by ns have None None m n r s oe ue p q f g e = peel_number ns m n r s p q f g e

-- what a log writes
pub peel_text : (ns : Names) → HaveNumbers ns → (m n : ℕ) (r s : List ℕ) → m < 2 ^ 64 → n < 2 ^ 64 → Ends r → Ends s
    → quoted_or (name_in kinds.Text m (Some ns)) (number_text (Some ns) m) ++ r ≡ quoted_or (name_in kinds.Text n (Some ns)) (number_text (Some ns) n) ++ s → (m ≡ n) × (r ≡ s)
peel_text ns have m n r s p q f g e = text_by ns have (name_in kinds.Text m (Some ns)) (name_in kinds.Text n (Some ns)) m n r s refl refl p q f g e

-- a number behind what has it
pub peel_within : (kind : Kind) (ns : Names) → HaveNumbers ns → (h k m n : ℕ) (r s : List ℕ) → h < 2 ^ 64 → k < 2 ^ 64 → m < 2 ^ 64 → n < 2 ^ 64 → Ends r → Ends s
    → within kind h m (Some ns) ++ r ≡ within kind k n (Some ns) ++ s → (h ≡ k) × (m ≡ n) × (r ≡ s)
peel_within kind ns have h k m n r s hb kb mb nb f g e =
    let opened : called kind h (Some ns) ++ 46 ∷ (decimal m ++ r) ≡ called kind k (Some ns) ++ 46 ∷ (decimal n ++ s) = sym (append_assoc (called kind h (Some ns)) (46 ∷ decimal m) r) ∙ e ∙ append_assoc (called kind k (Some ns)) (46 ∷ decimal n) s in
    let home = peel_called kind ns have h k (46 ∷ (decimal m ++ r)) (46 ∷ (decimal n ++ s)) hb kb refl refl opened in
    let number = peel_decimal m n r s mb nb f g (tail_of 46 46 (decimal m ++ r) (decimal n ++ s) home.1) in
    (home.0, number.0, number.1)

-- ---- labels

-- what may stand behind a label: nothing that could be of it
pub record EndsLabel (r : List ℕ) : Type 0 where
  pub ends : Ends r
  pub of : get_or r 0 0 ≡ 32 → get_or r 1 0 ≡ 111 → ⊥
  pub place : get_or r 0 0 ≡ 32 → get_or r 1 0 ≡ 35 → ⊥

if_one : (p : ℕ) → (p == 1) ≡ true → p ≡ 1
if_one p h = grind (arith, nat_tests)

place_by : (a b : Bool) (p q : ℕ) (r s : List ℕ) → (p == 1) ≡ a → (q == 1) ≡ b → p < 2 ^ 64 → q < 2 ^ 64 → EndsLabel r → EndsLabel s
    → (if a then [] else codes " #" ++ decimal p) ++ r ≡ (if b then [] else codes " #" ++ decimal q) ++ s → (p ≡ q) × (r ≡ s)
place_by true true p q r s x y pb qb f g e = (if_one p x ∙ sym (if_one q y), e)
place_by true false p q r s x y pb qb f g e = absurd (f.place (ap (λ t. get_or t 0 0) e) (ap (λ t. get_or t 1 0) e))
place_by false true p q r s x y pb qb f g e = absurd (g.place (ap (λ t. get_or t 0 0) (sym e)) (ap (λ t. get_or t 1 0) (sym e)))
place_by false false p q r s x y pb qb f g e = peel_decimal p q r s pb qb f.ends g.ends (tail_of 35 35 (decimal p ++ r) (decimal q ++ s) (tail_of 32 32 (35 ∷ (decimal p ++ r)) (35 ∷ (decimal q ++ s)) e))

peel_place : (p q : ℕ) (r s : List ℕ) → p < 2 ^ 64 → q < 2 ^ 64 → EndsLabel r → EndsLabel s → place_text p ++ r ≡ place_text q ++ s → (p ≡ q) × (r ≡ s)
peel_place p q r s pb qb f g e = place_by (p == 1) (q == 1) p q r s refl refl pb qb f g e

ends_by : (a : Bool) (p : ℕ) (r : List ℕ) → EndsLabel r → Ends ((if a then [] else codes " #" ++ decimal p) ++ r)
ends_by true p r f = f.ends
ends_by false p r f = refl

ends_place : (p : ℕ) (r : List ℕ) → EndsLabel r → Ends (place_text p ++ r)
ends_place p r f = ends_by (p == 1) p r f

of_by : (a : Bool) (p : ℕ) (r : List ℕ) → EndsLabel r → get_or ((if a then [] else codes " #" ++ decimal p) ++ r) 0 0 ≡ 32 → get_or ((if a then [] else codes " #" ++ decimal p) ++ r) 1 0 ≡ 111 → ⊥
of_by true p r f x y = f.of x y
of_by false p r f x y = let bad : 35 ≡ 111 = y in omega (arith, bad)

-- a place is not what is behind a word of another origin
no_word : (p : ℕ) (r : List ℕ) → EndsLabel r → get_or (place_text p ++ r) 0 0 ≡ 32 → get_or (place_text p ++ r) 1 0 ≡ 111 → ⊥
no_word p r f x y = of_by (p == 1) p r f x y

-- a slot's name is not told as another origin's word
slot_by : (o : Option (List ℕ)) (ns : Names) (slot : ℕ) (word w t : List ℕ) → is_bare word ≡ true → Ends w → (get_or w 0 0 ≡ 32 → get_or w 1 0 ≡ 111 → ⊥) → name_or o (number_text (Some ns) slot) ++ w ≡ word ++ 32 ∷ 111 ∷ t → ⊥
slot_by (Some a) ns slot word w t bare f apart e =
    let same : name_text word ≡ word = ap (λ b. if b then word else quoted word) bare in
    let both = peel_name a word w (32 ∷ 111 ∷ t) f refl (e ∙ ap (λ x. x ++ 32 ∷ 111 ∷ t) (sym same)) in
    apart (ap (λ x. get_or x 0 0) both.1) (ap (λ x. get_or x 1 0) both.1)
slot_by None ns slot word w t bare f apart e = true≢false (sym (first_plain word (32 ∷ 111 ∷ t) bare) ∙ ap is_plain (sym (same_first (35 ∷ (decimal slot ++ w)) (word ++ 32 ∷ 111 ∷ t) e)))

not_reply : (ns : Names) (slot : ℕ) (w t : List ℕ) → Ends w → (get_or w 0 0 ≡ 32 → get_or w 1 0 ≡ 111 → ⊥) → called kinds.Slot slot (Some ns) ++ w ≡ codes "reply of task " ++ t → ⊥
not_reply ns slot w t f apart e = slot_by (name_in kinds.Slot slot (Some ns)) ns slot (codes "reply") w (codes "f task " ++ t) refl f apart e

not_invoke : (ns : Names) (slot : ℕ) (w t : List ℕ) → Ends w → (get_or w 0 0 ≡ 32 → get_or w 1 0 ≡ 111 → ⊥) → called kinds.Slot slot (Some ns) ++ w ≡ codes "invoke of " ++ t → ⊥
not_invoke ns slot w t f apart e = slot_by (name_in kinds.Slot slot (Some ns)) ns slot (codes "invoke") w (codes "f " ++ t) refl f apart e

-- what follows an origin
pub record Follows (w : List ℕ) : Type 0 where
  pub ends : Ends w
  pub apart : get_or w 0 0 ≡ 32 → get_or w 1 0 ≡ 111 → ⊥

peel_origin : (ns : Names) → HaveNumbers ns → (o u : Origin) (w v : List ℕ) → OriginFits o → OriginFits u → Follows w → Follows v → origin_text (Some ns) o ++ w ≡ origin_text (Some ns) u ++ v → (o ≡ u) × (w ≡ v)
peel_origin ns have (Slot a) (Slot b) w v p q f g e = let both = peel_called kinds.Slot ns have a b w v p q f.ends g.ends e in (ap Slot both.0, both.1)
peel_origin ns have (Slot a) (Reply l n) w v p q f g e = absurd (not_reply ns a w (within kinds.Thread l n (Some ns) ++ v) f.ends f.apart e)
peel_origin ns have (Slot a) (Invoke b) w v p q f g e = absurd (not_invoke ns a w (called kinds.Procedure b (Some ns) ++ v) f.ends f.apart e)
peel_origin ns have (Reply l n) (Slot b) w v p q f g e = absurd (not_reply ns b v (within kinds.Thread l n (Some ns) ++ w) g.ends g.apart (sym e))
peel_origin ns have (Reply l n) (Reply k m) w v p q f g e =
    let all = peel_within kinds.Thread ns have l k n m w v p.0 q.0 p.1 q.1 f.ends g.ends (append_cancel_left (codes "reply of task ") (within kinds.Thread l n (Some ns) ++ w) (within kinds.Thread k m (Some ns) ++ v) e) in
    ((λ i. Reply (all.0 i) (all.1 i)), all.2)
peel_origin ns have (Reply l n) (Invoke b) w v p q f g e = let bad : 114 ≡ 105 = ap (λ t. get_or t 0 0) e in absurd (omega (arith, bad))
peel_origin ns have (Invoke a) (Slot b) w v p q f g e = absurd (not_invoke ns b v (called kinds.Procedure a (Some ns) ++ w) g.ends g.apart (sym e))
peel_origin ns have (Invoke a) (Reply l n) w v p q f g e = let bad : 105 ≡ 114 = ap (λ t. get_or t 0 0) e in absurd (omega (arith, bad))
peel_origin ns have (Invoke a) (Invoke b) w v p q f g e =
    let both = peel_called kinds.Procedure ns have a b w v p q f.ends g.ends (append_cancel_left (codes "invoke of ") (called kinds.Procedure a (Some ns) ++ w) (called kinds.Procedure b (Some ns) ++ v) e) in
    (ap Invoke both.0, both.1)

-- what a source or a handler is called by where it comes from
pub peel_label : (ns : Names) → HaveNumbers ns → (l k : Label) (r s : List ℕ) → LabelFits l → LabelFits k → EndsLabel r → EndsLabel s → label_text (Some ns) l ++ r ≡ label_text (Some ns) k ++ s → (l ≡ k) × (r ≡ s)
peel_label ns have l k r s p q f g e =
    let opened = sym (append_assoc (origin_text (Some ns) l.origin) (place_text l.place) r) ∙ e ∙ append_assoc (origin_text (Some ns) k.origin) (place_text k.place) s in
    let origins = peel_origin ns have l.origin k.origin (place_text l.place ++ r) (place_text k.place ++ s) p.origin q.origin (record { ends = ends_place l.place r f; apart = no_word l.place r f }) (record { ends = ends_place k.place s g; apart = no_word k.place s g }) opened in
    let places = peel_place l.place k.place r s p.place q.place f g origins.1 in
    ((λ i. record { origin = origins.0 i; place = places.0 i }), places.1)

-- ---- sources and handlers

plain_first : (a r : List ℕ) → 0 < length a → list_all is_plain a ≡ true → is_plain (first (a ++ r)) ≡ true
plain_first [] r l h = absurd (omega (arith, l))
plain_first (x ∷ a) r l h = first_plain (x ∷ a) r h

slot_no_marks : (o : Option (List ℕ)) (ns : Names) (slot : ℕ) (w t : List ℕ) → slot < 2 ^ 64 → name_or o (number_text (Some ns) slot) ++ w ≡ 35 ∷ 35 ∷ t → ⊥
slot_no_marks (Some a) ns slot w t p e = no_mark a w (35 ∷ t) e
slot_no_marks None ns slot w t p e =
    let digits : decimal slot ++ w ≡ 35 ∷ t = tail_of 35 35 (decimal slot ++ w) (35 ∷ t) e in
    true≢false (sym (plain_first (decimal slot) w (decimal_nonempty slot p) (plain_decimal slot p)) ∙ ap is_plain (same_first (decimal slot ++ w) (35 ∷ t) digits))

origin_no_marks : (ns : Names) (o : Origin) (w t : List ℕ) → OriginFits o → origin_text (Some ns) o ++ w ≡ 35 ∷ 35 ∷ t → ⊥
origin_no_marks ns (Slot a) w t p e = slot_no_marks (name_in kinds.Slot a (Some ns)) ns a w t p e
origin_no_marks ns (Reply l n) w t p e = let bad : 114 ≡ 35 = ap (λ t. get_or t 0 0) e in omega (arith, bad)
origin_no_marks ns (Invoke a) w t p e = let bad : 105 ≡ 35 = ap (λ t. get_or t 0 0) e in omega (arith, bad)

label_no_marks : (ns : Names) (l : Label) (r t : List ℕ) → LabelFits l → label_text (Some ns) l ++ r ≡ 35 ∷ 35 ∷ t → ⊥
label_no_marks ns l r t p e = origin_no_marks ns l.origin (place_text l.place ++ r) t p.origin (sym (append_assoc (origin_text (Some ns) l.origin) (place_text l.place) r) ∙ e)

seats_same : (labels : List (Seat × Label)) → AreLabels labels → (s t : Seat) (l k : Label) → label_of s labels ≡ Some l → label_of t labels ≡ Some k → l ≡ k → s ≡ t
seats_same labels are s t l k a b e = are.apart s t k (a ∙ ap Some e) b

peel_seat : (ns : Names) → HaveNumbers ns → (h k m n : ℕ) (r s : List ℕ) → h < 2 ^ 64 → k < 2 ^ 64 → m < 2 ^ 64 → n < 2 ^ 64 → Ends r → Ends s → seat_text (Some ns) h m ++ r ≡ seat_text (Some ns) k n ++ s → (h ≡ k) × (m ≡ n) × (r ≡ s)
peel_seat ns have h k m n r s hb kb mb nb f g e =
    let x = codes " in " ++ called kinds.Context h (Some ns) in
    let y = codes " in " ++ called kinds.Context k (Some ns) in
    let opened : decimal m ++ (x ++ r) ≡ decimal n ++ (y ++ s) = sym (append_assoc (decimal m) x r) ∙ tail_of 35 35 ((decimal m ++ x) ++ r) ((decimal n ++ y) ++ s) (tail_of 35 35 (35 ∷ ((decimal m ++ x) ++ r)) (35 ∷ ((decimal n ++ y) ++ s)) e) ∙ append_assoc (decimal n) y s in
    let number = peel_decimal m n (x ++ r) (y ++ s) mb nb refl refl opened in
    let home = peel_called kinds.Context ns have h k r s hb kb f g (append_cancel_left (codes " in ") (called kinds.Context h (Some ns) ++ r) (called kinds.Context k (Some ns) ++ s) number.1) in
    (home.0, number.0, home.1)

source_by : (ns : Names) → HaveNumbers ns → (labels : List (Seat × Label)) → AreLabels labels → (o u : Option Label) (h k m n : ℕ) (r s : List ℕ)
    → label_of (record { home = h; id = m }) labels ≡ o → label_of (record { home = k; id = n }) labels ≡ u
    → h < 2 ^ 64 → k < 2 ^ 64 → m < 2 ^ 64 → n < 2 ^ 64 → EndsLabel r → EndsLabel s
    → label_or (Some ns) o (seat_text (Some ns) h m) ++ r ≡ label_or (Some ns) u (seat_text (Some ns) k n) ++ s → (h ≡ k) × (m ≡ n) × (r ≡ s)
source_by ns have labels are (Some l) (Some j) h k m n r s oe ue hb kb mb nb f g e =
    let both = peel_label ns have l j r s (are.fit (record { home = h; id = m }) l oe) (are.fit (record { home = k; id = n }) j ue) f g e in
    let seat = seats_same labels are (record { home = h; id = m }) (record { home = k; id = n }) l j oe ue both.0 in
    (ap (λ s. s.home) seat, ap (λ s. s.id) seat, both.1)
source_by ns have labels are (Some l) None h k m n r s oe ue hb kb mb nb f g e = absurd (label_no_marks ns l r ((decimal n ++ (codes " in " ++ called kinds.Context k (Some ns))) ++ s) (are.fit (record { home = h; id = m }) l oe) e)
source_by ns have labels are None (Some j) h k m n r s oe ue hb kb mb nb f g e = absurd (label_no_marks ns j s ((decimal m ++ (codes " in " ++ called kinds.Context h (Some ns))) ++ r) (are.fit (record { home = k; id = n }) j ue) (sym e))
source_by ns have labels are None None h k m n r s oe ue hb kb mb nb f g e = peel_seat ns have h k m n r s hb kb mb nb f.ends g.ends e

handler_by : (ns : Names) → HaveNumbers ns → (labels : List (Seat × Label)) → AreLabels labels → (o u : Option Label) (lane m n : ℕ) (r s : List ℕ)
    → label_of (record { home = lane; id = m }) labels ≡ o → label_of (record { home = lane; id = n }) labels ≡ u → m < 2 ^ 64 → n < 2 ^ 64 → EndsLabel r → EndsLabel s
    → label_or (Some ns) o (id_text (Some ns) m) ++ r ≡ label_or (Some ns) u (id_text (Some ns) n) ++ s → (m ≡ n) × (r ≡ s)
handler_by ns have labels are (Some l) (Some j) lane m n r s oe ue mb nb f g e =
    let both = peel_label ns have l j r s (are.fit (record { home = lane; id = m }) l oe) (are.fit (record { home = lane; id = n }) j ue) f g e in
    (ap (λ s. s.id) (seats_same labels are (record { home = lane; id = m }) (record { home = lane; id = n }) l j oe ue both.0), both.1)
handler_by ns have labels are (Some l) None lane m n r s oe ue mb nb f g e = absurd (label_no_marks ns l r (decimal n ++ s) (are.fit (record { home = lane; id = m }) l oe) e)
handler_by ns have labels are None (Some j) lane m n r s oe ue mb nb f g e = absurd (label_no_marks ns j s (decimal m ++ r) (are.fit (record { home = lane; id = n }) j ue) (sym e))
handler_by ns have labels are None None lane m n r s oe ue mb nb f g e = peel_decimal m n r s mb nb f.ends g.ends (tail_of 35 35 (decimal m ++ r) (decimal n ++ s) (tail_of 35 35 (35 ∷ (decimal m ++ r)) (35 ∷ (decimal n ++ s)) e))

-- what a source is called
pub peel_source : (c : Calling) (ns : Names) → IsOfNames c ns → (h k m n : ℕ) (r s : List ℕ) → h < 2 ^ 64 → k < 2 ^ 64 → m < 2 ^ 64 → n < 2 ^ 64 → EndsLabel r → EndsLabel s → source_text c h m ++ r ≡ source_text c k n ++ s → (h ≡ k) × (m ≡ n) × (r ≡ s)
peel_source c ns is h k m n r s hb kb mb nb f g e =
    source_by ns is.numbers c.sources is.sources (label_of (record { home = h; id = m }) c.sources) (label_of (record { home = k; id = n }) c.sources) h k m n r s refl refl hb kb mb nb f g
    (subst (λ o. label_or o (label_of (record { home = h; id = m }) c.sources) (seat_text o h m) ++ r ≡ label_or o (label_of (record { home = k; id = n }) c.sources) (seat_text o k n) ++ s) is.names e)

-- what a handler is called
pub peel_handler : (c : Calling) (ns : Names) → IsOfNames c ns → (lane m n : ℕ) (r s : List ℕ) → m < 2 ^ 64 → n < 2 ^ 64 → EndsLabel r → EndsLabel s → handler_text c lane m ++ r ≡ handler_text c lane n ++ s → (m ≡ n) × (r ≡ s)
peel_handler c ns is lane m n r s mb nb f g e =
    handler_by ns is.numbers c.handlers is.handlers (label_of (record { home = lane; id = m }) c.handlers) (label_of (record { home = lane; id = n }) c.handlers) lane m n r s refl refl mb nb f g
    (subst (λ o. label_or o (label_of (record { home = lane; id = m }) c.handlers) (id_text o m) ++ r ≡ label_or o (label_of (record { home = lane; id = n }) c.handlers) (id_text o n) ++ s) is.names e)
