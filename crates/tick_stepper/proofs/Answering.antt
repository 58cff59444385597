-- What is known of lanes by their numbers.
use Rattle.std.proofs.Common.{◌≡◌, ◌∙◌, ℕ, zero, suc, ◌+◌, ◌<◌, ◌≤◌, Some, List, [], ◌∷◌, ◌++◌, map, length, slice_get, option_map, refl, sym, ap, subst, arith}
use Rattle.std.specs.Prelude.{IsPermutation}
use Rattle.std.specs.List.{All, AllByRecursion, flat_map}
use Rattle.std.proofs.lemmas.List.Elements.{All-map, All-weaker, All-append, All-head, All-tail, All-nil}
use Rattle.std.proofs.lemmas.List.Sorted.{All-permutation}
use Rattle.std.proofs.lemmas.Grind.{flat_map-append}
use Rattle.loop_script.specs.declared.plan.Plan.{Plan}
use Rattle.post_office.specs.declared.letter.Letter.{Letter}
use Rattle.lane_turn.specs.Lane.{Lane, State}
use Rattle.lane_turn.specs.Tick.{lanes_at}
use Rattle.lane_turn.proofs.Turns.{turned_number}
use Rattle.tick_stepper.specs.declared.share.Share.{Share}
use Rattle.tick_stepper.specs.Share.{handed, unspent, unspent_all, turned_one, out_of_one, IsReadyOne, IsFresh, IsTurned}
use Rattle.tick_stepper.specs.Call.{own_of, turned_of, posted_by, posted_of, AreOwn, IsCall, IsReply}
use Rattle.tick_stepper.specs.declared.rest.Resting.{Resting}
use Rattle.tick_stepper.specs.Rest.{is_due, woken, all_woken, AreAt, IsParted}
use Rattle.lane_turn.proofs.Places.{Counted}
use Rattle.tick_stepper.proofs.Counted.{counted_at}
use Rattle.tick_stepper.proofs.Handed.{rec_of, of_rec, each_of}
use Rattle.tick_stepper.proofs.Resting.{woken_at, all_passing}
use Rattle.tick_stepper.proofs.Rounds.{ready_turns}
use Rattle.tick_stepper.proofs.Concats.{flat_permuted}

-- ---- a lane of the run may take its turn

found_ready : (P : State → Type 0) (lanes : List Lane) (n : ℕ) (s : State) → AllByRecursion P (unspent_all lanes) → option_map unspent (slice_get lanes n) ≡ Some s → P s
found_ready P [] n s all e = cc
found_ready P (lane ∷ lanes) zero s all e = subst P (is (unspent lane) s e) all.0
  where
    is : (a b : State) → Some a ≡ Some b → a ≡ b
    is a b p = cc
found_ready P (lane ∷ lanes) (suc n) s all e = found_ready P lanes n s all.1 e

pub call_fresh : (script : Plan) (tick : ℕ) (share : Share) → IsCall script tick share → IsFresh script tick share
call_fresh script tick share call =
    let P : State → Type 0 = IsReadyOne script tick in
    record {
      lanes = rec_of P share.lanes.items
          (All-weaker (λ (s : State). own_of script tick s.lane.number ≡ Some s) P (λ s e. found_ready P (lanes_at script tick) s.lane.number s (ready_turns script tick call.few call.low) e) share.lanes.items call.own);
      tray = call.tray;
    }

-- ---- what its turn leaves is known by its number too

own_turned : (script : Plan) (tick : ℕ) (s : State) → own_of script tick s.lane.number ≡ Some s → turned_of script tick (turned_one script tick s).lane.number ≡ Some (turned_one script tick s)
own_turned script tick s e =
    ap (turned_of script tick) (turned_number script tick s.lane) ∙ ap (option_map (turned_one script tick)) e

own_posted : (script : Plan) (tick : ℕ) (s : State) → own_of script tick s.lane.number ≡ Some s → posted_of script tick (turned_one script tick s).lane.number ≡ out_of_one script tick s
own_posted script tick s e = ap (posted_of script tick) (turned_number script tick s.lane) ∙ ap (posted_by script tick) e

all_posted : (script : Plan) (tick : ℕ) (old : List State) → AreOwn script tick old → flat_map (out_of_one script tick) old ≡ flat_map (λ (s : State). posted_of script tick s.lane.number) (map (turned_one script tick) old)
all_posted script tick [] own = refl
all_posted script tick (s ∷ old) own =
    let P : State → Type 0 = λ s. own_of script tick s.lane.number ≡ Some s in
    let first = own_posted script tick s (All-head P s old own) in
    let rest = all_posted script tick old (All-tail P s old own) in
    λ i. sym first i ++ rest i

pub call_answered : (script : Plan) (tick : ℕ) (old new : Share) → IsCall script tick old → IsTurned script tick old new → IsReply script tick new.lanes.items new.tray
call_answered script tick old new call turns =
    let P : State → Type 0 = λ s. turned_of script tick s.lane.number ≡ Some s in
    record {
      turns = subst (All P) (sym turns.lanes)
          (All-map P (turned_one script tick) old.lanes.items (All-weaker (λ (s : State). own_of script tick s.lane.number ≡ Some s) (λ s. P (turned_one script tick s)) (own_turned script tick) old.lanes.items call.own));
      posted = turns.letters ∙ all_posted script tick old.lanes.items call.own ∙ ap (flat_map (λ (s : State). posted_of script tick s.lane.number)) (sym turns.lanes);
    }

-- ---- answers come together

pub none_answered : (script : Plan) (tick : ℕ) → IsReply script tick [] []
none_answered script tick = record { turns = All-nil (λ (s : State). turned_of script tick s.lane.number ≡ Some s); posted = refl }

pub answered_more : (script : Plan) (tick : ℕ) (lanes more now : List State) (letters sent mail : List Letter) → IsReply script tick lanes letters → IsReply script tick more sent → now ≡ lanes ++ more → mail ≡ letters ++ sent → IsReply script tick now mail
answered_more script tick lanes more now letters sent mail a b is post =
    let P : State → Type 0 = λ s. turned_of script tick s.lane.number ≡ Some s in
    let f : State → List Letter = λ s. posted_of script tick s.lane.number in
    let both : letters ++ sent ≡ flat_map f lanes ++ flat_map f more = λ i. a.posted i ++ b.posted i in
    record {
      turns = subst (All P) (sym is) (All-append P lanes more a.turns b.turns);
      posted = post ∙ (both ∙ (sym (flat_map-append f lanes more) ∙ ap (flat_map f) (sym is)));
    }

-- ---- by their numbers they are the turns of what was sent

number_of : State → ℕ
number_of s = s.lane.number

one_turned : (script : Plan) (tick : ℕ) (s t : State) → own_of script tick s.lane.number ≡ Some s → turned_of script tick t.lane.number ≡ Some t → t.lane.number ≡ s.lane.number → t ≡ turned_one script tick s
one_turned script tick s t own turn same =
    let here : Some t ≡ Some (turned_one script tick s) = sym turn ∙ (ap (turned_of script tick) same ∙ ap (option_map (turned_one script tick)) own) in
    inner t (turned_one script tick s) here
  where
    inner : (a b : State) → Some a ≡ Some b → a ≡ b
    inner a b p = cc

first_same : (x y : ℕ) (xs ys : List ℕ) → x ∷ xs ≡ y ∷ ys → x ≡ y
first_same x y xs ys p = cc

rest_same : (x y : ℕ) (xs ys : List ℕ) → x ∷ xs ≡ y ∷ ys → xs ≡ ys
rest_same x y xs ys p = cc

pub turns_known : (script : Plan) (tick : ℕ) (states sorted : List State) → AreOwn script tick states → All (λ (s : State). turned_of script tick s.lane.number ≡ Some s) sorted
    → map (λ (s : State). s.lane.number) sorted ≡ map (λ (s : State). s.lane.number) states → sorted ≡ map (turned_one script tick) states
turns_known script tick [] [] own turns same = refl
turns_known script tick [] (t ∷ ts) own turns same = cc
turns_known script tick (s ∷ ss) [] own turns same = cc
turns_known script tick (s ∷ ss) (t ∷ ts) own turns same =
    let P : State → Type 0 = λ s. own_of script tick s.lane.number ≡ Some s in
    let Q : State → Type 0 = λ s. turned_of script tick s.lane.number ≡ Some s in
    let first = one_turned script tick s t (All-head P s ss own) (All-head Q t ts turns) (first_same _ _ _ _ same) in
    let rest = turns_known script tick ss ts (All-tail P s ss own) (All-tail Q t ts turns) (rest_same _ _ _ _ same) in
    λ i. first i ∷ rest i

posted_known : (script : Plan) (tick : ℕ) (states sorted : List State) → AreOwn script tick states → map (λ (s : State). s.lane.number) sorted ≡ map (λ (s : State). s.lane.number) states
    → flat_map (λ (s : State). posted_of script tick s.lane.number) sorted ≡ flat_map (out_of_one script tick) states
posted_known script tick [] [] own same = refl
posted_known script tick [] (t ∷ ts) own same = cc
posted_known script tick (s ∷ ss) [] own same = cc
posted_known script tick (s ∷ ss) (t ∷ ts) own same =
    let P : State → Type 0 = λ s. own_of script tick s.lane.number ≡ Some s in
    let first : posted_of script tick t.lane.number ≡ out_of_one script tick s = ap (posted_of script tick) (first_same _ _ _ _ same) ∙ ap (posted_by script tick) (All-head P s ss own) in
    let rest = posted_known script tick ss ts (All-tail P s ss own) (rest_same _ _ _ _ same) in
    λ i. first i ++ rest i

pub turns_back : (script : Plan) (tick : ℕ) (states lanes sorted : List State) (letters : List Letter) → AreOwn script tick states → IsReply script tick lanes letters → IsPermutation lanes sorted
    → map (λ (s : State). s.lane.number) sorted ≡ map (λ (s : State). s.lane.number) states → sorted ≡ map (turned_one script tick) states
turns_back script tick states lanes sorted letters own reply p same =
    turns_known script tick states sorted own (All-permutation (λ (s : State). turned_of script tick s.lane.number ≡ Some s) lanes sorted p reply.turns) same

pub letters_back : (script : Plan) (tick : ℕ) (states lanes sorted : List State) (letters : List Letter) → AreOwn script tick states → IsReply script tick lanes letters → IsPermutation lanes sorted
    → map (λ (s : State). s.lane.number) sorted ≡ map (λ (s : State). s.lane.number) states → IsPermutation letters (flat_map (out_of_one script tick) states)
letters_back script tick states lanes sorted letters own reply p same =
    let f : State → List Letter = λ s. posted_of script tick s.lane.number in
    subst (λ (l : List Letter). IsPermutation l (flat_map (out_of_one script tick) states)) (sym reply.posted)
    (subst (IsPermutation (flat_map f lanes)) (posted_known script tick states sorted own same) (flat_permuted f lanes sorted p))

-- ---- what is sent is the run's own

own_row : (all : List Lane) (a : ℕ) (lanes : List Lane) → Counted a lanes → ((i : ℕ) → slice_get all (a + i) ≡ slice_get lanes i) → AllByRecursion (λ (s : State). option_map unspent (slice_get all s.lane.number) ≡ Some s) (unspent_all lanes)
own_row all a [] c h = tt
own_row all a (lane ∷ lanes) c h =
    let here : lane.number ≡ a + 0 = omega (arith, c.0) in
    let rest : (i : ℕ) → slice_get all (a + 1 + i) ≡ slice_get lanes i = λ i. ap (slice_get all) (let same : a + 1 + i ≡ a + suc i = omega arith in same) ∙ h (suc i) in
    (ap (λ (n : ℕ). option_map unspent (slice_get all n)) here ∙ ap (option_map unspent) (h 0), own_row all (a + 1) lanes c.1 rest)

pub own_parted : (script : Plan) (tick : ℕ) (ones : List Resting) (due : List State) (resting : List Resting) → AreAt script tick ones → IsParted tick ones due resting → AreOwn script tick due
own_parted script tick ones due resting at parted =
    let P : State → Type 0 = λ s. own_of script tick s.lane.number ≡ Some s in
    let all : AllByRecursion P (unspent_all (lanes_at script tick)) = own_row (lanes_at script tick) 0 (lanes_at script tick) (counted_at script tick) (λ i. ap (slice_get (lanes_at script tick)) (let same : 0 + i ≡ i = omega arith in same)) in
    let woke : AllByRecursion P (all_woken tick ones) = subst (AllByRecursion P) (sym (woken_at script tick ones at)) all in
    subst (AreOwn script tick) (sym parted.due) (of_rec P _ (all_passing (is_due tick) (woken tick) P ones woke))

pub all_calls : (script : Plan) (tick : ℕ) (states : List State) (shares : List Share) → tick < 4096 → length script.lanes ≤ 64 → AreOwn script tick states → IsPermutation states (handed shares) → All (λ (share : Share). share.tray ≡ []) shares
    → All (IsCall script tick) shares
all_calls script tick states shares low few own dealt trays k d h =
    let P : State → Type 0 = λ s. own_of script tick s.lane.number ≡ Some s in
    let all : AllByRecursion P (handed shares) = rec_of P (handed shares) (All-permutation P states (handed shares) dealt own) in
    record {
      low = low;
      few = few;
      own = of_rec P _ (each_of P (λ (share : Share). share.lanes.items) shares all k d h);
      tray = trays k d h;
    }
