-- What lanes have seen cancelled.
use Rattle.std.proofs.Common.{◌≡◌, ℕ, zero, suc, ◌<◌, ◌||◌, Bool, true, false, Option, Some, None, List, [], ◌∷◌, ◌++◌, map, length, refl, ap, sym, ◌∙◌, ◌≤◌, arith, ltb-true, ltb-false}
use Rattle.std.specs.Prelude.{slice_index_or, nat_lt, replicate}
use Rattle.std.specs.List.{AllByRecursion, flat_map, range_with_len}
use Rattle.std.proofs.lemmas.List.{length-replicate}
use Rattle.loop_script.specs.declared.plan.Plan.{Plan}
use Rattle.cancel_view.specs.Seen.{Seen, has}
use Rattle.post_office.specs.declared.letter.Letter.{Letter}
use Rattle.post_office.specs.declared.letter.Body.{Body as Mail}
use Rattle.lane_turn.specs.Lane.{Lane, Turn}
use Rattle.lane_turn.specs.Step.{posted_with, letter}
use Rattle.lane_turn.specs.Turn.{opening, begun, finished, turned, out_of}
use Rattle.lane_turn.specs.Handover.{Handing, all_handed, handings}
use Rattle.lane_turn.proofs.GoingOver.{handed_part}
use Rattle.lane_turn.specs.Deliver.{received, received_all}
use Rattle.lane_turn.specs.Tick.{lanes_at, posted_at}
use Rattle.lane_turn.specs.Views.{tells_of, tells, AreAlike}
use Rattle.lane_turn.proofs.Steady.{told_by}
use Rattle.lane_turn.proofs.Sends.{Sends, step_tells}
use Rattle.lane_turn.proofs.Delivered.{got_tells, received_steady}
use Rattle.lane_turn.proofs.Turns.{kept_finished}

-- one letter more
swapped : (a b c : Bool) → (a || (b || c)) ≡ (b || (a || c))
swapped true true c = refl
swapped true false c = refl
swapped false b c = refl

grouped : (a b c : Bool) → (a || (b || c)) ≡ ((a || b) || c)
grouped true b c = refl
grouped false b c = refl

tells_append : (c : ℕ) (xs ys : List Letter) → tells c (xs ++ ys) ≡ (tells c xs || tells c ys)
tells_append c [] ys = refl
tells_append c (x ∷ xs) ys = ap (λ b. tells_of c x.body || b) (tells_append c xs ys) ∙ grouped (tells_of c x.body) (tells c xs) (tells c ys)

last_told : (a b : Bool) → (a || (b || false)) ≡ (b || a)
last_told true true = refl
last_told true false = refl
last_told false true = refl
last_told false false = refl

tells_posted : (c tick sender number : ℕ) (ls : List Letter) (mail : Option Mail) → tells c (posted_with tick sender number ls mail) ≡ (told_by c mail || tells c ls)
tells_posted c tick sender number ls None = refl
tells_posted c tick sender number ls (Some body) = tells_append c ls (letter tick sender number body ∷ []) ∙ last_told (tells c ls) (tells_of c body)

-- a turn that has seen what its letters tell, and what was seen before
record HasSeen (before : Lane) (t : Turn) : Type 0 where
  pub size : length t.lane.view.members ≡ length before.view.members
  pub seen : (c : ℕ) → c < length before.view.members → has c t.lane.view ≡ (tells c t.posted || has c before.view)

seen_on : (script : Plan) (tick : ℕ) (before : Lane) (t u : Turn) → Sends script tick t u → HasSeen before t → HasSeen before u
seen_on script tick before t u s h = record {
  size = s.view ∙ h.size;
  seen = λ c l.
      s.seen c (omega (arith, l, h.size))
      ∙ (ap (λ b. told_by c s.mail || b) (h.seen c l)
      ∙ (grouped (told_by c s.mail) (tells c t.posted) (has c before.view)
      ∙ ap (λ b. b || has c before.view) (sym (ap (tells c) s.posted ∙ tells_posted c tick t.lane.number t.sent t.posted s.mail))));
}

turn_seen : (script : Plan) (tick : ℕ) (lane : Lane) → HasSeen lane (finished script tick (begun tick lane))
turn_seen script tick lane =
    kept_finished script tick (HasSeen lane) (λ t u e h. seen_on script tick lane t u (step_tells script tick t u e) h) (begun tick lane) (record { size = refl; seen = λ c l. refl })

pub seen_turned : (script : Plan) (tick : ℕ) (lane : Lane) (c : ℕ) → c < length lane.view.members → has c (turned script tick lane).view ≡ (tells c (out_of script tick lane) || has c lane.view)
seen_turned script tick lane c l = (turn_seen script tick lane).seen c l

-- a delivery
size_received : (script : Plan) (tick : ℕ) (letters : List Letter) (lane : Lane) → length (received_all script tick letters lane).view.members ≡ length lane.view.members
size_received script tick [] lane = refl
size_received script tick (l ∷ letters) lane = size_received script tick letters (received script tick l lane) ∙ (received_steady script tick l.sender l.body lane).view

pub seen_received : (script : Plan) (tick : ℕ) (letters : List Letter) (lane : Lane) (c : ℕ) → c < length lane.view.members → has c (received_all script tick letters lane).view ≡ (tells c letters || has c lane.view)
seen_received script tick [] lane c h = refl
seen_received script tick (l ∷ letters) lane c h =
    let s = received_steady script tick l.sender l.body lane in
    seen_received script tick letters (received script tick l lane) c (omega (arith, h, s.view))
    ∙ (ap (λ b. tells c letters || b) (s.seen c h ∙ ap (λ b. b || has c lane.view) (got_tells c l.body))
    ∙ (swapped (tells c letters) (tells_of c l.body) (has c lane.view) ∙ grouped (tells_of c l.body) (tells c letters) (has c lane.view)))

-- ---- the run

-- lanes that say the same of a cancellable, each of n cancellables
abbrev Say : (n c : ℕ) → Bool → List Lane → Type 0
Say n c b lanes = AllByRecursion (λ lane. (length lane.view.members ≡ n) × (has c lane.view ≡ b)) lanes

absorbed : (x y b : Bool) → (y ≡ true → x ≡ true) → (x || (y || b)) ≡ (x || b)
absorbed true y b f = refl
absorbed false true b f = let no : false ≡ true = f refl in cc
absorbed false false b f = refl

-- the letters of one lane are among those of all
right_too : (x y : Bool) → y ≡ true → (x || y) ≡ true
right_too true y e = refl
right_too false y e = e

left_too : (x y : Bool) → x ≡ true → (x || y) ≡ true
left_too x y e = ap (λ b. b || y) e

-- where no lane has so many cancellables, none is seen
pub beyond : (ms : List Bool) (c : ℕ) → length ms ≤ c → slice_index_or ms c false ≡ false
beyond [] c h = refl
beyond (m ∷ ms) zero h = absurd (omega (arith, h))
beyond (m ∷ ms) (suc c) h = beyond ms c (omega (arith, h))

-- what goes over leaves a view
view_over : (tick : ℕ) (hs : List Handing) (lane : Lane) → (all_handed tick hs lane).view ≡ lane.view
view_over tick hs lane = handed_part (λ (l : Lane). l.view) tick (λ kept l. refl) (λ context l. refl) hs lane

tick_one : (script : Plan) (tick n c : ℕ) (b : Bool) (letters : List Letter) (hs : List Handing) (lane : Lane) → c < n → (tells c (out_of script tick lane) ≡ true → tells c letters ≡ true) → (length lane.view.members ≡ n) × (has c lane.view ≡ b)
    → has c (received_all script tick letters (all_handed tick hs (turned script tick lane))).view ≡ (tells c letters || b)
tick_one script tick n c b letters hs lane l f h =
    let turn : Lane = turned script tick lane in
    let same = view_over tick hs turn in
    seen_received script tick letters (all_handed tick hs turn) c (omega (arith, l, h.0, (turn_seen script tick lane).size, ap (λ (v : Seen). length v.members) same))
    ∙ (ap (λ x. tells c letters || x) (ap (λ (v : Seen). has c v) same ∙ (seen_turned script tick lane c (omega (arith, l, h.0)) ∙ ap (λ x. tells c (out_of script tick lane) || x) h.1))
    ∙ absorbed (tells c letters) (tells c (out_of script tick lane)) b f)

size_one : (script : Plan) (tick n : ℕ) (letters : List Letter) (hs : List Handing) (lane : Lane) → length lane.view.members ≡ n → length (received_all script tick letters (all_handed tick hs (turned script tick lane))).view.members ≡ n
size_one script tick n letters hs lane e =
    size_received script tick letters (all_handed tick hs (turned script tick lane)) ∙ (ap (λ (v : Seen). length v.members) (view_over tick hs (turned script tick lane)) ∙ ((turn_seen script tick lane).size ∙ e))

tick_all : (script : Plan) (tick n c : ℕ) (b : Bool) (letters : List Letter) (hs : List Handing) (lanes : List Lane) → c < n → (tells c (flat_map (out_of script tick) lanes) ≡ true → tells c letters ≡ true) → Say n c b lanes
    → Say n c (tells c letters || b) (map (received_all script tick letters) (map (all_handed tick hs) (map (turned script tick) lanes)))
tick_all script tick n c b letters hs [] l f h = tt
tick_all script tick n c b letters hs (lane ∷ lanes) l f h =
    let out : List Letter = out_of script tick lane in
    let rest : List Letter = flat_map (out_of script tick) lanes in
    let both : tells c (out ++ rest) ≡ (tells c out || tells c rest) = tells_append c out rest in (
      (size_one script tick n letters hs lane h.0.0, tick_one script tick n c b letters hs lane l (λ e. f (both ∙ left_too (tells c out) (tells c rest) e)) h.0),
      tick_all script tick n c b letters hs lanes l (λ e. f (both ∙ right_too (tells c out) (tells c rest) e)) h.1,
    )

-- the lanes at first
abbrev AllOfSize : ℕ → List Lane → Type 0
AllOfSize n lanes = AllByRecursion (λ lane. length lane.view.members ≡ n) lanes

open_size : (script : Plan) (numbers : List ℕ) → AllOfSize script.cancellables (map (opening script) numbers)
open_size script [] = tt
open_size script (n ∷ numbers) = (simp length-replicate, open_size script numbers)

none_seen : (n c : ℕ) → slice_index_or (replicate n false) c false ≡ false
none_seen zero c = refl
none_seen (suc n) zero = refl
none_seen (suc n) (suc c) = none_seen n c

open_say : (script : Plan) (c : ℕ) (numbers : List ℕ) → Say script.cancellables c false (map (opening script) numbers)
open_say script c [] = tt
open_say script c (n ∷ numbers) = ((simp length-replicate, none_seen script.cancellables c), open_say script c numbers)

sizes_on : (script : Plan) (tick n : ℕ) (letters : List Letter) (hs : List Handing) (lanes : List Lane) → AllOfSize n lanes → AllOfSize n (map (received_all script tick letters) (map (all_handed tick hs) (map (turned script tick) lanes)))
sizes_on script tick n letters hs [] h = tt
sizes_on script tick n letters hs (lane ∷ lanes) h = (size_one script tick n letters hs lane h.0, sizes_on script tick n letters hs lanes h.1)

-- what letters hand over after the turns of a tick
abbrev over_at : Plan → ℕ → List Handing
over_at script tick = handings tick (posted_at script tick (lanes_at script tick)) (map (turned script tick) (lanes_at script tick))

size_at : (script : Plan) (tick : ℕ) → AllOfSize script.cancellables (lanes_at script tick)
size_at script zero = open_size script (range_with_len 0 (length script.lanes))
size_at script (suc tick) = sizes_on script tick script.cancellables (posted_at script tick (lanes_at script tick)) (over_at script tick) (lanes_at script tick) (size_at script tick)

say_at : (script : Plan) (tick c : ℕ) → c < script.cancellables → (b : Bool) × Say script.cancellables c b (lanes_at script tick)
say_at script zero c l = (false, open_say script c (range_with_len 0 (length script.lanes)))
say_at script (suc tick) c l =
    let lanes : List Lane = lanes_at script tick in
    let h = say_at script tick c l in
    (tells c (posted_at script tick lanes) || h.0, tick_all script tick script.cancellables c h.0 (posted_at script tick lanes) (over_at script tick) lanes l (λ e. e) h.1)

said : (n c : ℕ) (b : Bool) (lanes : List Lane) → Say n c b lanes → AllByRecursion (λ lane. has c lane.view ≡ b) lanes
said n c b [] h = tt
said n c b (lane ∷ lanes) h = (h.0.1, said n c b lanes h.1)

unseen : (n c : ℕ) (lanes : List Lane) → n ≤ c → AllOfSize n lanes → AllByRecursion (λ lane. has c lane.view ≡ false) lanes
unseen n c [] l h = tt
unseen n c (lane ∷ lanes) l h = (beyond lane.view.members c (omega (arith, l, h.0)), unseen n c lanes l h.1)

same_by : (script : Plan) (tick c : ℕ) (b : Bool) → nat_lt c script.cancellables ≡ b → (b : Bool) × AllByRecursion (λ lane. has c lane.view ≡ b) (lanes_at script tick)
same_by script tick c true e =
    let h = say_at script tick c (ltb-true c script.cancellables e) in
    (h.0, said script.cancellables c h.0 (lanes_at script tick) h.1)
same_by script tick c false e = (false, unseen script.cancellables c (lanes_at script tick) (ltb-false c script.cancellables e) (size_at script tick))

pub seen_same : (script : Plan) (tick : ℕ) → AreAlike (lanes_at script tick)
seen_same script tick c = same_by script tick c (nat_lt c script.cancellables) refl
