-- Each step of a queue is a change of its part.
use Rattle.std.proofs.Common.{◌≡◌, ℕ, zero, suc, ◌+◌, Option, Some, List, [], ◌∷◌, ◌++◌, length, map, set, refl, sym, ap, ◌∙◌, append_assoc, arith}
use Rattle.std.specs.Prelude.{slice_get, slice_index_or}
use Rattle.std.proofs.lemmas.List.{map-set}
use mathlib.Core.Option.{some, some-injective, some-ne-none}
use lib.ListN.{get_elem?}
use Rattle.post_office.specs.declared.letter.Letter.{Letter}
use Rattle.post_office.specs.declared.views.WorkView.{WorkView}
use Rattle.post_office.specs.declared.views.PostView.{PostView}
use Rattle.post_office.specs.Parts.{claim_of, post_of}
use Rattle.post_office.specs.WorkQueue.{took, taker, work_of}
use Rattle.post_office.specs.LetterQueue.{posted, poster, mail_of}
use Rattle.post_office.specs.Changes.{TakesAreClaims, PushesArePosts, moved_back, ListsMoveBack}

module _ {V X : Type 0} (f : V → List X) where
  read : (vs : List V) (port : ℕ) (v : V) → get_elem? vs port ≡ some v → slice_get (map f vs) port ≡ Some (f v)
  read [] port v e = absurd (some-ne-none v (sym e))
  read (x ∷ xs) zero v e = ap (λ (u : V). Some (f u)) (some-injective x v e)
  read (x ∷ xs) (suc port) v e = read xs port v e

  read_or : (vs : List V) (port : ℕ) (v : V) → get_elem? vs port ≡ some v → slice_index_or (map f vs) port [] ≡ f v
  read_or [] port v e = absurd (some-ne-none v (sym e))
  read_or (x ∷ xs) zero v e = ap f (some-injective x v e)
  read_or (x ∷ xs) (suc port) v e = read_or xs port v e

module _ {X : Type 0} where
  move_back : (r m : List (List X)) (port : ℕ) → moved_back (length r) port (r ++ m) ≡ (r ++ slice_index_or m port [] ∷ []) ++ set m port []
  move_back [] m port = refl
  move_back (x ∷ r) m port = ap (λ l. x ∷ l) (move_back r m port)

  behind : (r m : List X) (i port : ℕ) → i ≡ length r + port → slice_get (r ++ m) i ≡ slice_get m port
  behind [] m i port e = ap (slice_get m) (let z : i ≡ port = omega arith in z)
  behind (x ∷ r) m zero port e = absurd (omega arith)
  behind (x ∷ r) m (suc i) port e = behind r m i port (omega arith)

  set_behind : (r m : List X) (i port : ℕ) (y : X) → i ≡ length r + port → set (r ++ m) i y ≡ r ++ set m port y
  set_behind [] m i port y e = ap (λ (j : ℕ). set m j y) (let z : i ≡ port = omega arith in z)
  set_behind (x ∷ r) m zero port y e = absurd (omega arith)
  set_behind (x ∷ r) m (suc i) port y e = ap (λ l. x ∷ l) (set_behind r m i port y (omega arith))

pub takes_are_claims : (T : Type 0) → TakesAreClaims T
takes_are_claims T items k vs x = (
  λ port v at.
      let i : ℕ = length k.recorded + port in
      let f : WorkView T → List T = λ v. v.taken in
      let there : slice_get (k.recorded ++ map f vs) i ≡ Some v.taken = behind k.recorded (map f vs) i port refl ∙ read f vs port v at in
      let lists : k.recorded ++ map f (set vs port (took v x)) ≡ set (k.recorded ++ map f vs) i (v.taken ++ x ∷ []) = ap (λ l. k.recorded ++ l) (map-set f vs port (took v x)) ∙ sym (set_behind k.recorded (map f vs) i port (v.taken ++ x ∷ []) refl) in
      (λ j. record { waiting = items; taken = k.taken ∷ lists j }) ∙ ap (λ (o : Option (List T)). claim_of (suc i) 0 (work_of (x ∷ items) k vs) o (Some x)) (sym there),
  refl,
)

pub pushes_are_posts : PushesArePosts
pushes_are_posts items k vs x port v at =
    let i : ℕ = length k.recorded + port in
    let f : PostView → List Letter = λ v. v.posted in
    let there : slice_get (k.recorded ++ map f vs) i ≡ Some v.posted = behind k.recorded (map f vs) i port refl ∙ read f vs port v at in
    let lists : k.recorded ++ map f (set vs port (posted v x)) ≡ set (k.recorded ++ map f vs) i (v.posted ++ x ∷ []) = ap (λ l. k.recorded ++ l) (map-set f vs port (posted v x)) ∙ sym (set_behind k.recorded (map f vs) i port (v.posted ++ x ∷ []) refl) in
    let office : k.drained ++ (items ++ x ∷ []) ≡ (k.drained ++ items) ++ x ∷ [] = sym (append_assoc k.drained items (x ∷ [])) in
    (λ j. record { posted = lists j; office = office j }) ∙ ap (post_of i x (mail_of items k vs)) (sym there)

module _ {V X : Type 0} (f : V → List X) where
  -- a list is moved behind those recorded
  lists_move : (r : List (List X)) (vs : List V) (port : ℕ) (v spent : V) → get_elem? vs port ≡ some v → f spent ≡ [] → (r ++ f v ∷ []) ++ map f (set vs port spent) ≡ moved_back (length r) port (r ++ map f vs)
  lists_move r vs port v spent at none =
      let lists : map f (set vs port spent) ≡ set (map f vs) port [] = map-set f vs port spent ∙ ap (λ l. set (map f vs) port l) none in
      (λ i. (r ++ sym (read_or f vs port v at) i ∷ []) ++ lists i) ∙ sym (move_back r (map f vs) port)

pub lists_move_back : (T : Type 0) → ListsMoveBack T
lists_move_back T = record {
  work = λ items own vs port v at. let f : WorkView T → List T = λ v. v.taken in λ i. record { waiting = items; taken = own.taken ∷ lists_move f own.recorded vs port v (taker [] [] 0) at refl i };
  mail = λ items own vs port v at. let f : PostView → List Letter = λ v. v.posted in λ i. record { posted = lists_move f own.recorded vs port v (poster [] 0) at refl i; office = own.drained ++ items };
}
