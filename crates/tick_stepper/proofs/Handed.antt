-- Lanes that are dealt out, and that come back.
use Rattle.std.proofs.Common.{◌≡◌, ℕ, zero, suc, ◌<◌, Bool, true, false, cond, Result, Ok, List, [], ◌∷◌, ◌++◌, map, length, get_or, set, refl, sym, ap, ◌∙◌, subst, arith, append_assoc, append-nil, true≢false, lt-ltb}
use Rattle.std.specs.Prelude.{IsPermutation, IfOk, nat_lt}
use Rattle.std.specs.List.{All, AllByRecursion, flat_map, filter}
use Rattle.std.proofs.lemmas.Grind.{flat_map-append}
use Rattle.std.proofs.lemmas.List.{map-append, flat_map_more}
use Rattle.std.proofs.lemmas.List.Sorted.{IsPermutation-refl, IsPermutation-sym, IsPermutation-trans, IsPermutation-cons, IsPermutation-middle, IsPermutation-append, All-permutation}
use Rattle.loop_script.specs.declared.plan.Plan.{Plan}
use Rattle.post_office.specs.declared.letter.Letter.{Letter}
use Rattle.lane_turn.specs.Lane.{State}
use Rattle.lane_turn.specs.declared.state.LaneFault.{LaneFault}
use Rattle.tick_stepper.specs.declared.share.Share.{Share}
use Rattle.tick_stepper.specs.Share.{turned_one, out_of_one, has_lanes, handed, carried, IsReadyOne, IsFresh, IsTurned, IsGathered}

-- ---- dealing

module _ {S X : Type 0} (f : S → List X) where
  pub given_more : (ss : List S) (i : ℕ) (t d : S) (x : X) → i < length ss → f t ≡ f (get_or ss i d) ++ x ∷ [] → IsPermutation (flat_map f (set ss i t)) (x ∷ flat_map f ss)
  given_more [] i t d x h e = absurd (omega arith)
  given_more (s ∷ ss) zero t d x h e =
      subst (λ (l : List X). IsPermutation l (x ∷ (f s ++ flat_map f ss))) (sym (ap (λ (l : List X). l ++ flat_map f ss) e ∙ append_assoc (f s) (x ∷ []) (flat_map f ss))) (IsPermutation-middle (f s) x (flat_map f ss))
  given_more (s ∷ ss) (suc i) t d x h e =
      IsPermutation-trans _ _ _ (IsPermutation-append (f s) (f s) _ _ (IsPermutation-refl (f s)) (given_more ss i t d x (omega arith) e)) (IsPermutation-middle (f s) x (flat_map f ss))

  -- those that gave nothing are left out
  pub filtered_same : (keeps : S → Bool) → ((s : S) → keeps s ≡ false → f s ≡ []) → (ss : List S) → flat_map f (filter keeps ss) ≡ flat_map f ss
  filtered_same keeps none [] = refl
  filtered_same keeps none (s ∷ ss) = by_test (keeps s) refl (filtered_same keeps none ss)
    where
      by_test : (b : Bool) → keeps s ≡ b → flat_map f (filter keeps ss) ≡ flat_map f ss → flat_map f (filter keeps (s ∷ ss)) ≡ flat_map f (s ∷ ss)
      by_test true e rest = ap (λ (b : Bool). flat_map f (cond b (s ∷ filter keeps ss) (filter keeps ss))) e ∙ ap (λ (l : List X). f s ++ l) rest
      by_test false e rest = ap (λ (b : Bool). flat_map f (cond b (s ∷ filter keeps ss) (filter keeps ss))) e ∙ rest ∙ ap (λ (l : List X). l ++ flat_map f ss) (sym (none s e))

-- one more is dealt out
pub dealt_more : {X : Type 0} (seen old new : List X) (x : X) → IsPermutation seen old → IsPermutation new (x ∷ old) → IsPermutation (seen ++ x ∷ []) new
dealt_more {X} seen old new x p q =
    IsPermutation-trans _ _ _ (subst (λ (l : List X). IsPermutation (seen ++ x ∷ []) (x ∷ l)) (append-nil seen) (IsPermutation-middle seen x []))
    (IsPermutation-trans _ _ _ (IsPermutation-cons x _ _ p) (IsPermutation-sym _ _ q))

module _ {X : Type 0} (P : X → Type 0) where
  pub rec_of : (xs : List X) → All P xs → AllByRecursion P xs
  rec_of [] a = tt
  rec_of (x ∷ xs) a = (a 0 x (omega arith), rec_of xs (λ k d h. a (suc k) d (omega arith)))

  pub of_rec : (xs : List X) → AllByRecursion P xs → All P xs
  of_rec [] a k d h = absurd (omega arith)
  of_rec (x ∷ xs) a zero d h = a.0
  of_rec (x ∷ xs) a (suc k) d h = of_rec xs a.1 k d (omega arith)

  pub front_of : (xs ys : List X) → AllByRecursion P (xs ++ ys) → AllByRecursion P xs
  front_of [] ys a = tt
  front_of (x ∷ xs) ys a = (a.0, front_of xs ys a.1)

  back_of : (xs ys : List X) → AllByRecursion P (xs ++ ys) → AllByRecursion P ys
  back_of [] ys a = a
  back_of (x ∷ xs) ys a = back_of xs ys a.1

  pub each_of : {S : Type 0} (f : S → List X) (ss : List S) → AllByRecursion P (flat_map f ss) → All (λ s. AllByRecursion P (f s)) ss
  each_of f [] a k d h = absurd (omega arith)
  each_of f (s ∷ ss) a zero d h = front_of (f s) (flat_map f ss) a
  each_of f (s ∷ ss) a (suc k) d h = each_of f ss (back_of (f s) (flat_map f ss) a) k d (omega arith)

-- what is dealt out of ready lanes is fresh
pub all_fresh : (script : Plan) (tick : ℕ) (states : List State) (shares : List Share) → AllByRecursion (IsReadyOne script tick) states → IsPermutation states (handed shares) → All (λ share. share.tray ≡ []) shares → All (IsFresh script tick) shares
all_fresh script tick states shares ready dealt trays k d h =
    let P : State → Type 0 = IsReadyOne script tick in
    let all : AllByRecursion P (handed shares) = rec_of P (handed shares) (All-permutation P states (handed shares) dealt (of_rec P states ready)) in
    record {
      lanes = each_of P (λ (share : Share). share.lanes.items) shares all k d h;
      tray = trays k d h;
    }

-- ---- coming back

pub gathered_more : (hauls : List (Result Share LaneFault)) (lanes lanes' : List State) (letters letters' : List Letter) (haul : Result Share LaneFault) (share : Share)
    → IsGathered hauls lanes letters → haul ≡ Ok share → lanes' ≡ lanes ++ share.lanes.items → letters' ≡ letters ++ share.tray → IsGathered (hauls ++ haul ∷ []) lanes' letters'
gathered_more hauls lanes lanes' letters letters' haul share so_far is more sent = record {
  shares = so_far.shares ++ share ∷ [];
  all = (λ i. so_far.all i ++ is i ∷ []) ∙ sym (map-append Ok so_far.shares (share ∷ []));
  back = more ∙ ap (λ (l : List State). l ++ share.lanes.items) so_far.back ∙ flat_map_more (λ (s : Share). s.lanes.items) [] so_far.shares share;
  posted = sent ∙ ap (λ (l : List Letter). l ++ share.tray) so_far.posted ∙ flat_map_more (λ (s : Share). s.tray) [] so_far.shares share;
}

-- what comes back is what was handed out, after its turns, with its letters
pub record CameBack (script : Plan) (tick : ℕ) (old new : List Share) : Type 0 where
  pub lanes : handed new ≡ map (turned_one script tick) (handed old)
  pub letters : carried new ≡ flat_map (out_of_one script tick) (handed old)

came_each : (script : Plan) (tick : ℕ) (old new : List Share) → length new ≡ length old
    → ((i : ℕ) (d : Result Share LaneFault) (e : Share) → i < length old → IfOk (get_or (map Ok new) i d) (IsTurned script tick (get_or old i e))) → CameBack script tick old new
came_each script tick [] [] same each = record { lanes = refl; letters = refl }
came_each script tick [] (n ∷ ns) same each = absurd (omega arith)
came_each script tick (o ∷ os) [] same each = absurd (omega arith)
came_each script tick (o ∷ os) (n ∷ ns) same each =
    let t : IsTurned script tick o n = each 0 (Ok n) o (omega arith) in
    let rest : CameBack script tick os ns = came_each script tick os ns (omega arith) (λ i d e h. each (suc i) d e (omega arith)) in
    record {
      lanes = (λ i. t.lanes i ++ rest.lanes i) ∙ sym (map-append (turned_one script tick) o.lanes.items (handed os));
      letters = (λ i. t.letters i ++ rest.letters i) ∙ sym (flat_map-append (out_of_one script tick) o.lanes.items (handed os));
    }

long_as : (new : List Share) → length (map {A = Share} {B = Result Share LaneFault} Ok new) ≡ length new
long_as [] = refl
long_as (n ∷ ns) = let more = long_as ns in omega arith

pub came_back : (script : Plan) (tick : ℕ) (old new : List Share) (hauls : List (Result Share LaneFault)) → hauls ≡ map Ok new → length hauls ≡ length old
    → ((i : ℕ) (d : Result Share LaneFault) (e : Share) → i < length old → IfOk (get_or hauls i d) (IsTurned script tick (get_or old i e))) → CameBack script tick old new
came_back script tick old new hauls all same each =
    let long : length new ≡ length old = sym (long_as new) ∙ sym (ap length all) ∙ same in
    came_each script tick old new long
    (λ i d e h. subst (λ (rs : List (Result Share LaneFault)). IfOk (get_or rs i d) (IsTurned script tick (get_or old i e))) all (each i d e h))

none_in : (states : List State) → nat_lt 0 (length states) ≡ false → states ≡ []
none_in [] e = refl
none_in (s ∷ states) e = absurd (true≢false (sym (lt-ltb 0 (length (s ∷ states)) (omega arith)) ∙ e))

pub none_there : (share : Share) → has_lanes share ≡ false → share.lanes.items ≡ []
none_there share e = none_in share.lanes.items e

first_kept : {S : Type 0} (keeps : S → Bool) (s : S) (ss : List S) → keeps s ≡ true → All (λ s. keeps s ≡ true) ss → All (λ s. keeps s ≡ true) (s ∷ ss)
first_kept keeps s ss e rest zero d h = e
first_kept keeps s ss e rest (suc k) d h = rest k d (omega arith)

-- each that stays passes the test
pub kept_have : {S : Type 0} (keeps : S → Bool) (ss : List S) → All (λ s. keeps s ≡ true) (filter keeps ss)
kept_have keeps [] = λ k d h. absurd (omega arith)
kept_have keeps (s ∷ ss) = by_test (keeps s) refl (kept_have keeps ss)
  where
    by_test : (b : Bool) → keeps s ≡ b → All (λ s. keeps s ≡ true) (filter keeps ss) → All (λ s. keeps s ≡ true) (filter keeps (s ∷ ss))
    by_test true e rest = subst (λ (b : Bool). All (λ s. keeps s ≡ true) (cond b (s ∷ filter keeps ss) (filter keeps ss))) (sym e) (first_kept keeps s (filter keeps ss) e rest)
    by_test false e rest = subst (λ (b : Bool). All (λ s. keeps s ≡ true) (cond b (s ∷ filter keeps ss) (filter keeps ss))) (sym e) rest
