-- Lanes that workers took from a queue, and what comes back.
use Rattle.std.proofs.Common.{◌≡◌, ℕ, suc, ◌+◌, ◌-◌, Result, Ok, Err, List, [], ◌∷◌, ◌++◌, map, length, get_or, refl, sym, ap, ◌∙◌, subst, arith, append_assoc, append-nil}
use Rattle.std.specs.Prelude.{IsPermutation, IfOk}
use Rattle.std.specs.List.{All, AllByRecursion, flat_map}
use Rattle.std.proofs.lemmas.Grind.{flat_map-append}
use Rattle.std.proofs.lemmas.List.{map-append}
use Rattle.std.proofs.lemmas.List.Sorted.{IsPermutation-sym, IsPermutation-trans, IsPermutation-append_comm}
use Rattle.loop_script.specs.declared.plan.Plan.{Plan}
use Rattle.post_office.specs.declared.letter.Letter.{Letter}
use Rattle.post_office.specs.Merge.{IsMerge, concat}
use Rattle.post_office.specs.Passes.{WorkState, Taking, OfficeState, Posting, puts, takes_in, new_office, opens, closes}
use Rattle.post_office.proofs.Merges.{merge_flat}
use Rattle.lane_turn.specs.Lane.{State}
use Rattle.tick_stepper.specs.declared.fault.OutOfMemory.{OutOfMemory}
use Rattle.tick_stepper.specs.declared.work.Hired.{Hired}
use Rattle.tick_stepper.specs.declared.work.Haul.{Haul}
use Rattle.tick_stepper.specs.Share.{turned_one, out_of_one, IsReadyOne}
use Rattle.tick_stepper.specs.Queue.{filled, IsHired, MayWork, IsHaul, IsOf, IsTakenIn}
use Rattle.tick_stepper.proofs.Concats.{map_snoc, flat_snoc}

-- ---- one more lane is put

pub filled_more : (old new : WorkState State) (lanes : List State) (lane : State) → old ≡ filled old.home lanes → new ≡ puts old lane → new ≡ filled new.home (lanes ++ lane ∷ [])
filled_more old new lanes lane so_far more =
    more ∙ ap (λ (s : WorkState State). puts s lane) so_far ∙ ap (λ (home : ℕ × ℕ). filled home (lanes ++ lane ∷ [])) (sym (ap (λ (s : WorkState State). s.home) more))

-- ---- passes that are taken back

length_snoc : {X : Type 0} (xs : List X) (x : X) → length (xs ++ x ∷ []) ≡ length xs + 1
length_snoc [] x = refl
length_snoc (y ∷ ys) x = let more = length_snoc ys x in omega arith

pub taken_more : (hauls : List (Result Haul OutOfMemory)) (list now next : WorkState State) (office desk after : OfficeState) (lanes more : List State) (result : Result Haul OutOfMemory) (haul : Haul)
    → IsTakenIn hauls list now office desk lanes → result ≡ Ok haul → next ≡ takes_in now haul.work → after ≡ closes desk haul.post → more ≡ lanes ++ haul.lanes.items → IsTakenIn (hauls ++ result ∷ []) list next office after more
taken_more hauls list now next office desk after lanes more result haul so_far is took sent all =
    let each : List Haul = so_far.each in
    let f : Haul → List State = λ h. h.work.taken in
    let g : Haul → List Letter = λ h. h.post.posted in
    let fewer : (list.out - length each) - 1 ≡ list.out - length (each ++ haul ∷ []) = omega (arith, length_snoc each haul) in
    let less : (office.out - length each) - 1 ≡ office.out - length (each ++ haul ∷ []) = omega (arith, length_snoc each haul) in
    let lists : (list.recorded ++ map f each) ++ haul.work.taken ∷ [] ≡ list.recorded ++ map f (each ++ haul ∷ []) =
    append_assoc list.recorded (map f each) (haul.work.taken ∷ []) ∙ ap (λ (l : List (List State)). list.recorded ++ l) (sym (map_snoc f each haul)) in
    let letters : (office.recorded ++ map g each) ++ haul.post.posted ∷ [] ≡ office.recorded ++ map g (each ++ haul ∷ []) =
    append_assoc office.recorded (map g each) (haul.post.posted ∷ []) ∙ ap (λ (l : List (List Letter)). office.recorded ++ l) (sym (map_snoc g each haul)) in
    record {
      each = each ++ haul ∷ [];
      all = (λ i. so_far.all i ++ is i ∷ []) ∙ sym (map-append Ok each (haul ∷ []));
      taken = took ∙ ap (λ (s : WorkState State). takes_in s haul.work) so_far.taken ∙ (λ i. record list { recorded = lists i; out = fewer i });
      posted = sent ∙ ap (λ (s : OfficeState). closes s haul.post) so_far.posted ∙ (λ i. record office { recorded = letters i; out = less i });
      back = all ∙ ap (λ (l : List State). l ++ haul.lanes.items) so_far.back ∙ sym (flat_snoc (λ (h : Haul). h.lanes.items) each haul);
    }

-- ---- what the workers bring back

module _ (P Q : Haul → Type 0) (f : (haul : Haul) → P haul → Q haul) where
  ok_weaker : (result : Result Haul OutOfMemory) → IfOk result P → IfOk result Q
  ok_weaker (Ok haul) p = f haul p
  ok_weaker (Err e) p = tt

  pub oks_weaker : (hauls : List (Result Haul OutOfMemory)) → All (λ haul. IfOk haul P) hauls → All (λ haul. IfOk haul Q) hauls
  oks_weaker hauls a k d h = ok_weaker (get_or hauls k d) (a k d h)

module _ (P : Haul → Type 0) where
  oks_each : (each : List Haul) → All (λ haul. IfOk haul P) (map {A = Haul} {B = Result Haul OutOfMemory} Ok each) → AllByRecursion P each
  oks_each [] a = tt
  oks_each (haul ∷ each) a = (a 0 (Ok haul) (omega arith), oks_each each (λ k d h. a (suc k) d (omega arith)))

  each_ok : (hauls : List (Result Haul OutOfMemory)) (each : List Haul) → hauls ≡ map Ok each → All (λ haul. IfOk haul P) hauls → AllByRecursion P each
  each_ok hauls each e a = oks_each each (subst (λ (l : List (Result Haul OutOfMemory)). All (λ haul. IfOk haul P) l) e a)

abbrev pub taken_by : List Haul → List (List State)
taken_by each = map (λ haul. haul.work.taken) each

abbrev pub posted_by : List Haul → List (List Letter)
posted_by each = map (λ haul. haul.post.posted) each

module _ (script : Plan) (tick : ℕ) (list office : ℕ × ℕ) where
  turns_of : (each : List Haul) → AllByRecursion (IsHaul script tick list office) each → flat_map (λ haul. haul.lanes.items) each ≡ map (turned_one script tick) (concat (taken_by each))
  turns_of [] a = refl
  turns_of (haul ∷ each) a = (λ i. a.0.turns i ++ turns_of each a.1 i) ∙ sym (map-append (turned_one script tick) haul.work.taken (concat (taken_by each)))

  letters_of : (each : List Haul) → AllByRecursion (IsHaul script tick list office) each → concat (posted_by each) ≡ flat_map (out_of_one script tick) (concat (taken_by each))
  letters_of [] a = refl
  letters_of (haul ∷ each) a = (λ i. a.0.letters i ++ letters_of each a.1 i) ∙ sym (flat_map-append (out_of_one script tick) haul.work.taken (concat (taken_by each)))

  -- all turns, those that the stepper took itself at last
  pub turns_all : (hauls : List (Result Haul OutOfMemory)) (each : List Haul) (own gathered turns : List State) → hauls ≡ map Ok each → All (λ haul. IfOk haul (IsHaul script tick list office)) hauls
      → gathered ≡ flat_map (λ haul. haul.lanes.items) each → turns ≡ gathered ++ map (turned_one script tick) own → turns ≡ map (turned_one script tick) (concat (taken_by each) ++ own)
  turns_all hauls each own gathered turns all good back rest =
      rest ∙ ap (λ (l : List State). l ++ map (turned_one script tick) own) (back ∙ turns_of each (each_ok (IsHaul script tick list office) hauls each all good))
      ∙ sym (map-append (turned_one script tick) (concat (taken_by each)) own)

  concat_last : (ls : List (List Letter)) (l : List Letter) → concat (ls ++ l ∷ []) ≡ concat ls ++ l
  concat_last [] l = append-nil l
  concat_last (m ∷ ls) l = ap (λ (r : List Letter). m ++ r) (concat_last ls l) ∙ sym (append_assoc m (concat ls) l)

  -- and all letters
  pub letters_all : (hauls : List (Result Haul OutOfMemory)) (each : List Haul) (own : List State) (letters : List Letter) → hauls ≡ map Ok each → All (λ haul. IfOk haul (IsHaul script tick list office)) hauls
      → IsMerge (posted_by each ++ flat_map (out_of_one script tick) own ∷ []) letters → IsPermutation (flat_map (out_of_one script tick) (concat (taken_by each) ++ own)) letters
  letters_all hauls each own letters all good merge =
      let f : State → List Letter = out_of_one script tick in
      let whole : concat (posted_by each ++ flat_map f own ∷ []) ≡ flat_map f (concat (taken_by each) ++ own) =
      concat_last (posted_by each) (flat_map f own) ∙ ap (λ (l : List Letter). l ++ flat_map f own) (letters_of each (each_ok (IsHaul script tick list office) hauls each all good)) ∙ sym (flat_map-append f (concat (taken_by each)) own) in
      IsPermutation-sym _ _ (subst (IsPermutation letters) whole (merge_flat (posted_by each ++ flat_map f own ∷ []) letters merge))

-- what the stepper took itself, at last
pub own_last : {X : Type 0} (put own taken : List X) → IsPermutation put (own ++ taken) → IsPermutation put (taken ++ own)
own_last put own taken p = IsPermutation-trans _ _ _ p (IsPermutation-append_comm own taken)

-- ---- what the list and the office come to

pub may_work : (script : Plan) (tick : ℕ) (list list' office office' : ℕ × ℕ) (lanes : List State) (all : List Hired) → list' ≡ list → office' ≡ office → AllByRecursion (IsReadyOne script tick) lanes
    → All (IsHired list office lanes) all → All (MayWork script tick list' office') all
may_work script tick list list' office office' lanes all e f ready fresh k d h =
    let one : Hired = get_or all k d in
    let is : IsHired list office lanes one = fresh k d h in
    let same : one.work.put ≡ lanes = ap (λ (t : Taking State). t.put) is.work in
    record {
      fresh = record {
        work = is.work ∙ (λ i. record { home = sym e i; put = sym same i; taken = [] });
        post = is.post ∙ (λ i. record { home = sym f i; posted = [] });
      };
      ready = subst (λ (l : List State). AllByRecursion (IsReadyOne script tick) l) (sym same) ready;
    }

pub hauls_of : (script : Plan) (tick : ℕ) (list list' office office' : ℕ × ℕ) (hauls : List (Result Haul OutOfMemory)) → list' ≡ list → office' ≡ office
    → All (λ haul. IfOk haul (IsHaul script tick list' office')) hauls → All (λ haul. IfOk haul (IsOf list office)) hauls
hauls_of script tick list list' office office' hauls e f good =
    oks_weaker (IsHaul script tick list' office') (IsOf list office) (λ haul h. record { home = h.home ∙ e; desk = h.desk ∙ f }) hauls good

pub as_many : (hauls : List (Result Haul OutOfMemory)) (each : List Haul) → hauls ≡ map Ok each → length each ≡ length hauls
as_many hauls each e = sym (ap length e ∙ mapped each)
  where
    mapped : (each : List Haul) → length (map {A = Haul} {B = Result Haul OutOfMemory} Ok each) ≡ length each
    mapped [] = refl
    mapped (haul ∷ each) = let more = mapped each in omega arith

pub gathered_list : (l0 l1 l2 : WorkState State) (lanes : List State) (workers : ℕ) (each : List Haul) → l0 ≡ filled l0.home lanes → l1 ≡ record l0 { out = l0.out + workers }
    → l2 ≡ record l1 { recorded = l1.recorded ++ taken_by each; out = l1.out - length each } → length each ≡ workers → l2 ≡ record { home = l0.home; put = lanes; taken = []; recorded = taken_by each; out = 0 }
gathered_list l0 l1 l2 lanes workers each a b e long =
    let none : (0 + workers) - length each ≡ 0 = omega (arith, long) in
    e ∙ ap (λ (s : WorkState State). record s { recorded = s.recorded ++ taken_by each; out = s.out - length each }) (b ∙ ap (λ (s : WorkState State). record s { out = s.out + workers }) a)
    ∙ (λ i. record { home = l0.home; put = lanes; taken = []; recorded = taken_by each; out = none i })

pub gathered_office : (o0 o1 o2 : OfficeState) (workers : ℕ) (each : List Haul) → o0 ≡ new_office o0.home → o1 ≡ record o0 { out = o0.out + workers }
    → o2 ≡ record o1 { recorded = o1.recorded ++ posted_by each; out = o1.out - length each } → length each ≡ workers → o2 ≡ record { home = o0.home; recorded = posted_by each; drained = []; out = 0 }
gathered_office o0 o1 o2 workers each a b e long =
    let none : (0 + workers) - length each ≡ 0 = omega (arith, long) in
    e ∙ ap (λ (s : OfficeState). record s { recorded = s.recorded ++ posted_by each; out = s.out - length each }) (b ∙ ap (λ (s : OfficeState). record s { out = s.out + workers }) a)
    ∙ (λ i. record { home = o0.home; recorded = posted_by each; drained = []; out = none i })

pub office_at_last : (o2 o3 o4 : OfficeState) (pass : Posting) (home home' : ℕ × ℕ) (sent : List (List Letter)) (own : List Letter) → o2 ≡ record { home = home; recorded = sent; drained = []; out = 0 } → o3 ≡ opens o2
    → o4 ≡ closes o3 pass → pass ≡ record { home = home'; posted = own } → o4 ≡ record { home = home; recorded = sent ++ own ∷ []; drained = []; out = 0 }
office_at_last o2 o3 o4 pass home home' sent own a b e f =
    let none : (0 + 1) - 1 ≡ 0 = omega arith in
    e ∙ (λ i. closes ((b ∙ ap opens a) i) (f i)) ∙ (λ i. record { home = home; recorded = sent ++ own ∷ []; drained = []; out = none i })

pub split_at_last : (l2 : WorkState State) (home : ℕ × ℕ) (lanes own : List State) (each : List Haul) → l2 ≡ record { home = home; put = lanes; taken = []; recorded = taken_by each; out = 0 }
    → IsPermutation l2.put (concat (own ∷ l2.recorded)) → IsPermutation lanes (concat (taken_by each) ++ own)
split_at_last l2 home lanes own each e p = own_last lanes own (concat (taken_by each)) (subst (λ (s : WorkState State). IsPermutation s.put (own ++ concat s.recorded)) e p)
