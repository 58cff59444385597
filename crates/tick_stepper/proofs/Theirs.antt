-- Each worker is dealt its lanes, in their order.
use Rattle.std.proofs.Common.{rules, tests, ◌≡◌, ℕ, zero, suc, ◌+◌, ◌<◌, ◌==◌, Bool, true, false, cond, List, [], ◌∷◌, ◌++◌, length, get_or, set, sym, ap, ◌∙◌, arith, append-nil}
use Rattle.std.specs.List.{All, AllByRecursion}
use Rattle.std.proofs.lemmas.List.{flat_map_more}
use Rattle.std.proofs.lemmas.List.Elements.{All-append, filter-append}
use Rattle.lane_turn.specs.Lane.{State}
use Rattle.tick_stepper.specs.Crew.{worker_of}
use Rattle.tick_stepper.specs.declared.crew.Crew.{Crew}
use Rattle.tick_stepper.specs.declared.share.Share.{Share}
use Rattle.tick_stepper.specs.Share.{handed, lanes_of, AreWorkers, HasTheirs}
use Rattle.tick_stepper.proofs.Handed.{rec_of, of_rec}

same_is : (a b : ℕ) → a ≡ b → (a == b) ≡ true
same_is a b e = search (rules, tests)

sooner_is : (a b : ℕ) → a < b → (a == b) ≡ false
sooner_is a b h = search (rules, tests)

later_is : (a b : ℕ) → b < a → (a == b) ≡ false
later_is a b h = search (rules, tests)

pub workers_more : (n : ℕ) (shares : List Share) (share : Share) → AreWorkers n shares → share.worker ≡ n + length shares → AreWorkers n (shares ++ share ∷ [])
workers_more n [] share h e = (omega (arith, e), tt)
workers_more n (s ∷ ss) share h e = (h.0, workers_more (n + 1) ss share h.1 (omega (arith, e)))

pub workers_set : (n : ℕ) (shares : List Share) (i : ℕ) (share d : Share) → share.worker ≡ (get_or shares i d).worker → AreWorkers n shares → AreWorkers n (set shares i share)
workers_set n [] i share d e h = tt
workers_set n (s ∷ ss) zero share d e h = (e ∙ h.0, h.1)
workers_set n (s ∷ ss) (suc i) share d e h = (h.0, workers_set (n + 1) ss i share d e h.1)

one_more : (crew : Crew) (worker : ℕ) (dealt : List State) (lane : State) → lanes_of crew worker (dealt ++ lane ∷ []) ≡ lanes_of crew worker dealt ++ cond (worker_of crew lane.lane.number == worker) (lane ∷ []) []
one_more crew worker dealt lane = filter-append (λ (s : State). worker_of crew s.lane.number == worker) dealt (lane ∷ [])

theirs_more : (crew : Crew) (worker : ℕ) (dealt : List State) (lane : State) → (worker_of crew lane.lane.number == worker) ≡ true → lanes_of crew worker (dealt ++ lane ∷ []) ≡ lanes_of crew worker dealt ++ lane ∷ []
theirs_more crew worker dealt lane e = one_more crew worker dealt lane ∙ ap (λ (b : Bool). lanes_of crew worker dealt ++ cond b (lane ∷ []) []) e

theirs_same : (crew : Crew) (worker : ℕ) (dealt : List State) (lane : State) → (worker_of crew lane.lane.number == worker) ≡ false → lanes_of crew worker (dealt ++ lane ∷ []) ≡ lanes_of crew worker dealt
theirs_same crew worker dealt lane e = one_more crew worker dealt lane ∙ ap (λ (b : Bool). lanes_of crew worker dealt ++ cond b (lane ∷ []) []) e ∙ append-nil (lanes_of crew worker dealt)

-- a lane of a worker before these
rest_theirs : (crew : Crew) (dealt : List State) (lane : State) (n : ℕ) (shares : List Share) → worker_of crew lane.lane.number < n → AreWorkers n shares
    → AllByRecursion (HasTheirs crew dealt) shares → AllByRecursion (HasTheirs crew (dealt ++ lane ∷ [])) shares
rest_theirs crew dealt lane n [] e w h = tt
rest_theirs crew dealt lane n (s ∷ ss) e w h =
    (h.0 ∙ sym (theirs_same crew s.worker dealt lane (sooner_is (worker_of crew lane.lane.number) s.worker (let is = w.0 in omega arith))), rest_theirs crew dealt lane (n + 1) ss (omega (arith, e)) w.1 h.1)

given_theirs : (crew : Crew) (dealt : List State) (lane : State) (n : ℕ) (shares : List Share) (i : ℕ) (share d : Share) → worker_of crew lane.lane.number ≡ n + i
    → share.worker ≡ (get_or shares i d).worker → share.lanes.items ≡ (get_or shares i d).lanes.items ++ lane ∷ []
    → AreWorkers n shares → AllByRecursion (HasTheirs crew dealt) shares → AllByRecursion (HasTheirs crew (dealt ++ lane ∷ [])) (set shares i share)
given_theirs crew dealt lane n [] i share d e same more w h = tt
given_theirs crew dealt lane n (s ∷ ss) zero share d e same more w h = (
  (more ∙ ap (λ (l : List State). l ++ lane ∷ []) h.0 ∙ sym (theirs_more crew s.worker dealt lane (same_is (worker_of crew lane.lane.number) s.worker (let is = w.0 in omega arith))))
      ∙ ap (λ (worker : ℕ). lanes_of crew worker (dealt ++ lane ∷ [])) (sym same),
  rest_theirs crew dealt lane (n + 1) ss (omega (arith, e)) w.1 h.1,
)
given_theirs crew dealt lane n (s ∷ ss) (suc i) share d e same more w h =
    (h.0 ∙ sym (theirs_same crew s.worker dealt lane (later_is (worker_of crew lane.lane.number) s.worker (let is = w.0 in omega arith))), given_theirs crew dealt lane (n + 1) ss i share d (omega (arith, e)) same more w.1 h.1)

pub all_theirs : (crew : Crew) (dealt : List State) (lane : State) (shares : List Share) (i : ℕ) (share d : Share) → worker_of crew lane.lane.number ≡ i
    → share.worker ≡ (get_or shares i d).worker → share.lanes.items ≡ (get_or shares i d).lanes.items ++ lane ∷ []
    → AreWorkers 0 shares → All (HasTheirs crew dealt) shares → All (HasTheirs crew (dealt ++ lane ∷ [])) (set shares i share)
all_theirs crew dealt lane shares i share d e same more w h =
    of_rec (HasTheirs crew (dealt ++ lane ∷ [])) (set shares i share) (given_theirs crew dealt lane 0 shares i share d (omega (arith, e)) same more w (rec_of (HasTheirs crew dealt) shares h))

-- one more without a lane
pub none_more : (P : Share → Type 0) (shares : List Share) (share : Share) → All P shares → P share → All P (shares ++ share ∷ [])
none_more P shares share h p = All-append P shares (share ∷ []) h (of_rec P (share ∷ []) (p, tt))

pub handed_more : (shares : List Share) (share : Share) → handed (shares ++ share ∷ []) ≡ handed shares ++ share.lanes.items
handed_more shares share = sym (flat_map_more (λ (s : Share). s.lanes.items) [] shares share)

pub handed_none : (shares : List Share) (share : Share) → handed shares ≡ [] → share.lanes.items ≡ [] → handed (shares ++ share ∷ []) ≡ []
handed_none shares share h e = handed_more shares share ∙ ap (λ (l : List State). l ++ share.lanes.items) h ∙ e
