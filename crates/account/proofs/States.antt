-- The lanes of states, and what a call of one of them does.
use Rattle.std.proofs.Common.{◌≡◌, ℕ, zero, suc, ◌+◌, ◌^◌, ◌<◌, Bool, false, Option, Some, None, is_some, unwrap_or, List, [], ◌∷◌, ◌++◌, length, take, drop, set, get_or, refl, ap, sym, ◌∙◌, subst, arith}
use Rattle.std.specs.List.{AllByRecursion}
use Rattle.std.proofs.lemmas.List.{length-map, drop_more, take-set, drop-set, drop-set-lt, take_more_set}
use Rattle.loop_script.specs.declared.plan.Plan.{Plan}
use Rattle.post_office.specs.declared.letter.Letter.{Letter}
use Rattle.lane_turn.specs.Lane.{Lane, State, Turn}
use Rattle.lane_turn.specs.Step.{step}
use Rattle.lane_turn.specs.Turn.{begun_polled, stepped}
use Rattle.lane_turn.specs.Deliver.{received, received_all}
use Rattle.lane_turn.specs.Meaning.{IsTurnOf}
use Rattle.lane_turn.specs.Sound.{IsReady, IsGoing}
use Rattle.lane_turn.proofs.Delivered.{ready_weaker}
use Rattle.tick_stepper.specs.Account.{Turning, Bringing, turned_on, moved}
use Rattle.account.specs.declared.turns.Begun.{Begun}
use Rattle.account.specs.Within.{MayTake, AllMayTake, polled}
use Rattle.account.specs.Standing.{AreUnspent, turn_in, OwnsTurn, IsInTurn, turning_from, turning, turning_after, bringing}
use Rattle.tick_stepper.specs.Share.{unspent, lanes_in as lanes_of}

-- ---- one of them

pub lanes_set : (states : List State) (i : ℕ) (s : State) → lanes_of (set states i s) ≡ set (lanes_of states) i s.lane
lanes_set [] i s = refl
lanes_set (x ∷ states) zero s = refl
lanes_set (x ∷ states) (suc i) s = ap (λ (ls : List Lane). x.lane ∷ ls) (lanes_set states i s)

pub lanes_get : (states : List State) (i : ℕ) (d : State) → get_or (lanes_of states) i d.lane ≡ (get_or states i d).lane
lanes_get [] i d = refl
lanes_get (x ∷ states) zero d = refl
lanes_get (x ∷ states) (suc i) d = lanes_get states i d

pub lanes_length : (states : List State) → length (lanes_of states) ≡ length states
lanes_length states = length-map states (λ (s : State). s.lane)

pub drop_here : (states : List State) (i : ℕ) (d : State) → i < length states → drop i (lanes_of states) ≡ (get_or states i d).lane ∷ drop (i + 1) (lanes_of states)
drop_here states i d h =
    drop_more (lanes_of states) i d.lane (omega (arith, h, lanes_length states)) ∙ ap (λ (l : Lane). l ∷ drop (i + 1) (lanes_of states)) (lanes_get states i d)

pub drop_put : (states : List State) (i : ℕ) (s : State) → i < length states → drop i (lanes_of (set states i s)) ≡ s.lane ∷ drop (i + 1) (lanes_of states)
drop_put states i s h = ap (drop i) (lanes_set states i s) ∙ drop-set (lanes_of states) i s.lane (omega (arith, h, lanes_length states))

pub take_put : (states : List State) (i : ℕ) (s : State) → take i (lanes_of (set states i s)) ≡ take i (lanes_of states)
take_put states i s = ap (take i) (lanes_set states i s) ∙ take-set (lanes_of states) i s.lane

take_past : (states : List State) (i : ℕ) (s : State) → i < length states → take (i + 1) (lanes_of (set states i s)) ≡ take i (lanes_of states) ++ s.lane ∷ []
take_past states i s h = ap (take (i + 1)) (lanes_set states i s) ∙ take_more_set (lanes_of states) i s.lane (omega (arith, h, lanes_length states))

drop_past : (states : List State) (i : ℕ) (s : State) → drop (i + 1) (lanes_of (set states i s)) ≡ drop (i + 1) (lanes_of states)
drop_past states i s = ap (drop (i + 1)) (lanes_set states i s) ∙ drop-set-lt (i + 1) (lanes_of states) i s.lane (omega arith)

-- ---- none is spent

pub rest_unspent : (x : State) (states : List State) → AreUnspent (x ∷ states) → AreUnspent states
rest_unspent x states u = cc

pub first_unspent : (x : State) (states : List State) → AreUnspent (x ∷ states) → x ≡ unspent x.lane
first_unspent x states u = cc

pub unspent_put : (states : List State) (i : ℕ) (s : State) → AreUnspent states → s.spent ≡ false → AreUnspent (set states i s)
unspent_put [] i s u f = u
unspent_put (x ∷ states) zero s u f = let rest = rest_unspent x states u in λ j. (record { lane = s.lane; spent = f j }) ∷ rest j
unspent_put (x ∷ states) (suc i) s u f =
    let first = first_unspent x states u in
    let rest = unspent_put states i s (rest_unspent x states u) f in
    λ j. first j ∷ rest j

-- ---- a turn

pub turning_none : (over waiting : List Lane) (posted : List Letter) → turning_from over waiting None posted ≡ Turning over None waiting posted
turning_none over [] posted = refl
turning_none over (lane ∷ waiting) posted = refl

turning_here : (states : List State) (i : ℕ) (d : State) (b : Begun) (posted : List Letter) → i < length states
    → turning i (lanes_of states) (Some b) posted ≡ Turning (take i (lanes_of states)) (Some (turn_in (get_or states i d).lane b)) (drop (i + 1) (lanes_of states)) posted
turning_here states i d b posted h = ap (λ (w : List Lane). turning_from (take i (lanes_of states)) w (Some b) posted) (drop_here states i d h)

turning_put : (states : List State) (i : ℕ) (s : State) (b : Begun) (posted : List Letter) → i < length states
    → turning i (lanes_of (set states i s)) (Some b) posted ≡ Turning (take i (lanes_of states)) (Some (turn_in s.lane b)) (drop (i + 1) (lanes_of states)) posted
turning_put states i s b posted h =
    let over = take_put states i s in
    let waiting = drop_put states i s h in
    λ j. turning_from (over j) (waiting j) (Some b) posted

pub begins_at : (script : Plan) (tick : ℕ) (states : List State) (i : ℕ) (d s : State) (b : Begun) (posted : List Letter) → i < length states → turn_in s.lane b ≡ begun_polled script tick [] (get_or states i d).lane
    → turning i (lanes_of (set states i s)) (Some b) posted ≡ polled script tick (turning i (lanes_of states) None posted)
begins_at script tick states i d s b posted h e =
    let over : List Lane = take i (lanes_of states) in
    let waiting : List Lane = drop (i + 1) (lanes_of states) in
    turning_put states i s b posted h
    ∙ (ap (λ (t : Turn). Turning over (Some t) waiting posted) e
    ∙ ap (λ (w : List Lane). polled script tick (turning_from over w None posted)) (sym (drop_here states i d h)))

pub owns_put : (states : List State) (i : ℕ) (s : State) (b : Begun) → i < length states → IsTurnOf s.lane b.turn → OwnsTurn (drop i (lanes_of (set states i s))) (Some b)
owns_put states i s b h own = subst (λ (w : List Lane). OwnsTurn w (Some b)) (sym (drop_put states i s h)) own

pub owns_here : (states : List State) (i : ℕ) (d : State) (b : Begun) → i < length states → OwnsTurn (drop i (lanes_of states)) (Some b) → IsTurnOf (get_or states i d).lane b.turn
owns_here states i d b h own = subst (λ (w : List Lane). OwnsTurn w (Some b)) (drop_here states i d h) own

pub held_put : (script : Plan) (tick : ℕ) (states : List State) (i : ℕ) (s : State) (b : Begun) → i < length states → IsGoing script tick (2 ^ 61 + 20001) (turn_in s.lane b) → IsInTurn script tick (drop i (lanes_of (set states i s))) b
held_put script tick states i s b h going = subst (λ (w : List Lane). IsInTurn script tick w b) (sym (drop_put states i s h)) going

pub held_here : (script : Plan) (tick : ℕ) (states : List State) (i : ℕ) (d : State) (b : Begun) → i < length states → IsInTurn script tick (drop i (lanes_of states)) b → IsGoing script tick (2 ^ 61 + 20001) (turn_in (get_or states i d).lane b)
held_here script tick states i d b h going = subst (λ (w : List Lane). IsInTurn script tick w b) (drop_here states i d h) going

pub ready_here : (P : Lane → Type 0) (states : List State) (i : ℕ) (d : State) → i < length states → AllByRecursion P (drop i (lanes_of states)) → P (get_or states i d).lane
ready_here P states i d h all = (subst (AllByRecursion P) (drop_here states i d h) all).0

-- the turn takes its next step, or is over
pub steps_at : (script : Plan) (tick : ℕ) (states : List State) (i : ℕ) (d s : State) (b c : Begun) (more : Bool) (posted : List Letter) → i < length states
    → more ≡ is_some (step script tick (turn_in (get_or states i d).lane b)) → turn_in s.lane c ≡ stepped script tick (turn_in (get_or states i d).lane b)
    → moved script tick (turning i (lanes_of states) (Some b) posted) ≡ Some (turning_after more i (lanes_of (set states i s)) c posted)
steps_at script tick states i d s b c more posted h e next =
    ap (moved script tick) (turning_here states i d b posted h)
    ∙ (by (step script tick t) refl ∙ ap (λ (m : Bool). Some (turning_after m i (lanes_of (set states i s)) c posted)) (sym e))
  where
    t : Turn
    t = turn_in (get_or states i d).lane b

    over : List Lane
    over = take i (lanes_of states)

    waiting : List Lane
    waiting = drop (i + 1) (lanes_of states)

    by : (o : Option Turn) → step script tick t ≡ o → Some (turned_on over t waiting posted o) ≡ Some (turning_after (is_some o) i (lanes_of (set states i s)) c posted)
    by (Some u) k =
        let is : turn_in s.lane c ≡ u = next ∙ ap (λ (x : Option Turn). unwrap_or x t) k in
        ap Some (sym (turning_put states i s c posted h ∙ ap (λ (v : Turn). Turning over (Some v) waiting posted) is))
    by None k =
        let is : turn_in s.lane c ≡ t = next ∙ ap (λ (x : Option Turn). unwrap_or x t) k in
        let front : take (i + 1) (lanes_of (set states i s)) ≡ over ++ t.lane ∷ [] = take_past states i s h ∙ ap (λ (v : Turn). over ++ v.lane ∷ []) is in
        let back = drop_past states i s in
        let letters : posted ++ c.post ≡ posted ++ t.posted = ap (λ (v : Turn). posted ++ v.posted) is in
        ap Some (sym (turning_none _ _ _ ∙ (λ j. Turning (front j) None (back j) (letters j))))

-- ---- a letter

pub may_here : (script : Plan) (tick : ℕ) (states : List State) (i : ℕ) (d : State) (left letters : List Letter) → i < length states → AllMayTake script tick (drop i (lanes_of states)) left letters → IsReady script (tick + 1) (2 ^ 61) (get_or states i d).lane
may_here script tick states i d left letters h all =
    let first : MayTake script tick left (get_or states i d).lane = (subst (λ (w : List Lane). AllMayTake script tick w left letters) (drop_here states i d h) all).0 in
    ready_weaker script (tick + 1) first.bound (2 ^ 61) (get_or states i d).lane (omega (arith, first.fits)) first.ready

pub receives_at : (script : Plan) (tick : ℕ) (states : List State) (i k : ℕ) (d s : State) (one : Letter) (letters sent : List Letter) → i < length states → k < length letters → sent ≡ get_or letters k one ∷ []
    → s.lane ≡ received_all script tick sent (get_or states i d).lane → moved script tick (bringing i k (lanes_of states) letters) ≡ Some (bringing i (k + 1) (lanes_of (set states i s)) letters)
receives_at script tick states i k d s one letters sent h low e took =
    let lane : Lane = (get_or states i d).lane in
    let letter : Letter = get_or letters k one in
    let over : List Lane = take i (lanes_of states) in
    let waiting : List Lane = drop (i + 1) (lanes_of states) in
    let left : List Letter = drop (k + 1) letters in
    let is : s.lane ≡ received script tick letter lane = took ∙ ap (λ (ls : List Letter). received_all script tick ls lane) e in
    let here = drop_here states i d h in
    let first = drop_more letters k one low in
    let front = take_put states i s in
    let back : drop i (lanes_of (set states i s)) ≡ received script tick letter lane ∷ waiting = drop_put states i s h ∙ ap (λ (l : Lane). l ∷ waiting) is in
    (λ j. moved script tick (Bringing over (here j) (first j) letters)) ∙ ap Some (sym (λ j. Bringing (front j) (back j) left letters))
