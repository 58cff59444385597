-- Lists that begin with a word: what stands in them, by the forms behind the word.
use Rattle.std.proofs.Common.{◌≡◌, ◌≢◌, ◌⊎◌, ◌↔◌, inl, inr, refl, sym, subst, ap, ℕ, zero, suc, ◌+◌, ◌<◌, ◌≤◌, Bool, true, false, cond, List, [], ◌∷◌, length, Option, Some, None, arith}
use Rattle.std.specs.Str.{bytes_eq}
use Rattle.std.proofs.lemmas.Slice.Eq.{bytes_eq-Decides}
use Rattle.serde_json.specs.Data.{Data, null, boolean, number, string, array, object, Items, no_items, item}
use Rattle.serde_json.specs.Find.{at, get_item}
use Rattle.loop_script.specs.Read.{Read, misshapen}
use Rattle.loop_script.specs.Words.{choice}
use Rattle.loop_script.specs.Form.{Choice, Form, one_of, Key, Word}
use Rattle.loop_script.specs.Tables.{needed}
use Rattle.loop_script.specs.Place.{count, size, parts_of, asked, IsPartFrom, IsPartBehind}
use Rattle.loop_script.specs.Misfit.{HasOtherParts, HasOtherShape, IsOutOfRange, Somewhere, IsMisshapen, IsBeyond}
use Rattle.loop_script.proofs.Alternatives.{some_inj}
use Rattle.loop_script.proofs.Meets.{Meets, meets_misshapen, recast}
use Rattle.loop_script.proofs.Openings.{InPart, opened, KeyMisfit, KeyBeyond}

-- a part that must be there
abbrev pub part : Form → Key
part f = needed [] f

abbrev pub PartsMisfit : ℕ → List Form → Data → Type 0
PartsMisfit n [] d = ⊥
PartsMisfit n (f ∷ fs) d = KeyMisfit (part f) (at n d) ⊎ PartsMisfit (suc n) fs d

abbrev pub PartsBeyond : ℕ → List Form → Data → Type 0
PartsBeyond n [] d = ⊥
PartsBeyond n (f ∷ fs) d = KeyBeyond (part f) (at n d) ⊎ PartsBeyond (suc n) fs d

-- what stands in the parts from the n-th on
abbrev pub Behind : (Form → Data → Type 0) → ℕ → List Form → Data → Type 0
Behind P n fs d = (g : Form) × (e : Data) × IsPartFrom n fs d g e × Somewhere P g e

few_items : (n : ℕ) (ds : Items) → get_item n ds ≡ None → count ds ≤ n
few_items n no_items h = omega arith
few_items zero (item d ds) h = absurd (cc)
few_items (suc n) (item d ds) h = let rest = few_items n ds h in omega arith

too_short : (n m : ℕ) (d : Data) → at n d ≡ None → n < m → size d ≡ Some m → ⊥
too_short n m null h l e = cc
too_short n m (boolean b) h l e = cc
too_short n m (number k) h l e = cc
too_short n m (string s) h l e = cc
too_short n m (object ms) h l e = cc
too_short n m (array ds) h l e = let few = few_items n ds h in let same = some_inj e in omega arith

abbrev later : (P : Form → Data → Type 0) (n : ℕ) (f : Form) (fs : List Form) (d : Data) → Behind P (suc n) fs d → Behind P n (f ∷ fs) d
later P n f fs d (g, e, p, w) = (g, e, inr p, w)

misfit_from : (n m : ℕ) (f : Form) (fs : List Form) (d : Data) (o : Option Data) → at n d ≡ o → n < m → KeyMisfit (part f) o → (size d ≢ Some m) ⊎ Behind HasOtherShape n (f ∷ fs) d
misfit_from n m f fs d None e l k = inl (too_short n m d e l)
misfit_from n m f fs d (Some x) e l k = inr (f, x, inl (refl, e), k)

misfits_out : (n m : ℕ) (fs : List Form) (d : Data) → n + length fs ≤ m → PartsMisfit n fs d → (size d ≢ Some m) ⊎ Behind HasOtherShape n fs d
misfits_out n m [] d l h = absurd h
misfits_out n m (f ∷ fs) d l (inl h) = misfit_from n m f fs d (at n d) refl (omega arith) h
misfits_out n m (f ∷ fs) d l (inr h) = more (misfits_out (suc n) m fs d (omega arith) h)
  where
    more : (size d ≢ Some m) ⊎ Behind HasOtherShape (suc n) fs d → (size d ≢ Some m) ⊎ Behind HasOtherShape n (f ∷ fs) d
    more (inl x) = inl x
    more (inr x) = inr (later HasOtherShape n f fs d x)

misfits_in : (n : ℕ) (fs : List Form) (d : Data) (g : Form) (e : Data) → IsPartFrom n fs d g e → IsMisshapen g e → PartsMisfit n fs d
misfits_in n [] d g e h w = absurd h
misfits_in n (f ∷ fs) d g e (inl h) w = inl (subst (KeyMisfit (part f)) (sym h.1) (subst (λ k. IsMisshapen k e) (sym h.0) w))
misfits_in n (f ∷ fs) d g e (inr h) w = inr (misfits_in (suc n) fs d g e h w)

beyond_from : (n : ℕ) (f : Form) (fs : List Form) (d : Data) (o : Option Data) → at n d ≡ o → KeyBeyond (part f) o → Behind IsOutOfRange n (f ∷ fs) d
beyond_from n f fs d None e k = absurd k
beyond_from n f fs d (Some x) e k = (f, x, inl (refl, e), k)

beyonds_out : (n : ℕ) (fs : List Form) (d : Data) → PartsBeyond n fs d → Behind IsOutOfRange n fs d
beyonds_out n [] d h = absurd h
beyonds_out n (f ∷ fs) d (inl h) = beyond_from n f fs d (at n d) refl h
beyonds_out n (f ∷ fs) d (inr h) = later IsOutOfRange n f fs d (beyonds_out (suc n) fs d h)

beyonds_in : (n : ℕ) (fs : List Form) (d : Data) (g : Form) (e : Data) → IsPartFrom n fs d g e → IsBeyond g e → PartsBeyond n fs d
beyonds_in n [] d g e h w = absurd h
beyonds_in n (f ∷ fs) d g e (inl h) w = inl (subst (KeyBeyond (part f)) (sym h.1) (subst (λ k. IsBeyond k e) (sym h.0) w))
beyonds_in n (f ∷ fs) d g e (inr h) w = inr (beyonds_in (suc n) fs d g e h w)

pub parts_shape : (n m : ℕ) (fs : List Form) (d : Data) → n + length fs ≡ m → ((size d ≢ Some m) ⊎ PartsMisfit n fs d) ↔ ((size d ≢ Some m) ⊎ Behind HasOtherShape n fs d)
parts_shape n m fs d l = (out, back)
  where
    out : (size d ≢ Some m) ⊎ PartsMisfit n fs d → (size d ≢ Some m) ⊎ Behind HasOtherShape n fs d
    out (inl x) = inl x
    out (inr h) = misfits_out n m fs d (omega arith) h

    back : (size d ≢ Some m) ⊎ Behind HasOtherShape n fs d → (size d ≢ Some m) ⊎ PartsMisfit n fs d
    back (inl x) = inl x
    back (inr q) = let (g, e, p, w) = q in inr (misfits_in n fs d g e p w)

pub parts_range : (n : ℕ) (fs : List Form) (d : Data) → (⊥ ⊎ PartsBeyond n fs d) ↔ Behind IsOutOfRange n fs d
parts_range n fs d = (out, λ (g, e, p, w). inr (beyonds_in n fs d g e p w))
  where
    out : ⊥ ⊎ PartsBeyond n fs d → Behind IsOutOfRange n fs d
    out (inl x) = absurd x
    out (inr h) = beyonds_out n fs d h

-- ---- by the word at the front
abbrev pub BehindWord : (Form → Data → Type 0) → Option (List Form) → Data → Type 0
BehindWord P fs d = (g : Form) × (e : Data) × IsPartBehind fs d g e × Somewhere P g e

abbrev pub WordMisfit : Option (List Form) → Data → Type 0
WordMisfit fs d = HasOtherParts fs d ⊎ BehindWord HasOtherShape fs d

-- the reading of a list whose word asks for these parts
pub behind : {Q A : Type 0} {V : A → Type 0} {r : Read A} (fs : List Form) (d : Data) → Meets Q A r ((size d ≢ Some (suc (length fs))) ⊎ PartsMisfit 1 fs d) (⊥ ⊎ PartsBeyond 1 fs d) V → Meets Q A r (WordMisfit (Some fs) d) (BehindWord IsOutOfRange (Some fs) d) V
behind fs d h = recast (parts_shape 1 (suc (length fs)) fs d (omega arith)) (λ q. parts_range 1 fs d) (λ v. v) h

-- the rows of a choice of forms, beside the rows of a table
abbrev pub RowsMeet : (Q A : Type 0) (V : A → Type 0) → Data → List ℕ → List Word → List (List ℕ × Read A) → Type 0
RowsMeet Q A V d w [] [] = Unit {0}
RowsMeet Q A V d w [] (p ∷ ps) = ⊥
RowsMeet Q A V d w (v ∷ vs) [] = ⊥
RowsMeet Q A V d w (v ∷ vs) (p ∷ ps) = ((p.0 ≡ v.word) × (w ≡ v.word → Meets Q A p.1 (WordMisfit (Some v.parts) d) (BehindWord IsOutOfRange (Some v.parts) d) V)) × RowsMeet Q A V d w vs ps

at_word : {Q A : Type 0} {V : A → Type 0} (r rest : Read A) (d : Data) (fs : List Form) (gs : Option (List Form)) (w : Type 0) (c b : Bool) → b ≡ c → (c ≡ true → w) → (w → Meets Q A r (WordMisfit (Some fs) d) (BehindWord IsOutOfRange (Some fs) d) V) → Meets Q A rest (WordMisfit gs d) (BehindWord IsOutOfRange gs d) V → Meets Q A (cond b r rest) (WordMisfit (cond c (Some fs) gs) d) (BehindWord IsOutOfRange (cond c (Some fs) gs) d) V
at_word r rest d fs gs w true true e t h k = h (t refl)
at_word r rest d fs gs w true false e t h k = absurd (cc)
at_word r rest d fs gs w false true e t h k = absurd (cc)
at_word r rest d fs gs w false false e t h k = k

pub chosen : {Q A : Type 0} {V : A → Type 0} (d : Data) (w : List ℕ) (vs : List Word) (ps : List (List ℕ × Read A)) (z : A) → RowsMeet Q A V d w vs ps → Meets Q A (choice w ps (misshapen z)) (WordMisfit (parts_of vs w) d) (BehindWord IsOutOfRange (parts_of vs w) d) V
chosen d w [] [] z h = meets_misshapen z (inl tt)
chosen d w [] (p ∷ ps) z h = absurd h
chosen d w (v ∷ vs) [] z h = absurd h
chosen d w (v ∷ vs) (p ∷ ps) z h =
    at_word p.1 (choice w ps (misshapen z)) d v.parts (parts_of vs w) (w ≡ v.word) (bytes_eq w v.word) (bytes_eq w p.0) (ap (bytes_eq w) h.0.0) (bytes_eq-Decides w v.word).0 h.0.1 (chosen d w vs ps z h.1)

-- what stands in a list whose word is one of a choice
pub choice_shape : (c : Choice) (d : Data) → WordMisfit (asked c d) d ↔ IsMisshapen (one_of c) d
choice_shape c d = (λ w. (opened HasOtherShape (one_of c) d).1 w, λ w. (opened HasOtherShape (one_of c) d).0 w)

pub choice_range : (c : Choice) (d : Data) → (IsOutOfRange (one_of c) d → ⊥) → BehindWord IsOutOfRange (asked c d) d ↔ IsBeyond (one_of c) d
choice_range c d n = (λ w. (opened IsOutOfRange (one_of c) d).1 (inr w), λ w. back ((opened IsOutOfRange (one_of c) d).0 w))
  where
    back : IsOutOfRange (one_of c) d ⊎ InPart IsOutOfRange (one_of c) d → BehindWord IsOutOfRange (asked c d) d
    back (inl x) = absurd (n x)
    back (inr q) = q

pub a_choice : {Q A : Type 0} {V : A → Type 0} {r : Read A} (c : Choice) (d : Data) → (Q → IsOutOfRange (one_of c) d → ⊥) → Meets Q A r (WordMisfit (asked c d) d) (BehindWord IsOutOfRange (asked c d) d) V → Meets Q A r (IsMisshapen (one_of c) d) (IsBeyond (one_of c) d) V
a_choice c d n h = recast (choice_shape c d) (λ q. choice_range c d (n q)) (λ v. v) h
