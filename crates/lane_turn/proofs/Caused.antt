-- A call of a source stands over an iteration of its context, so its context is owned.
use Rattle.std.proofs.Common.{◌≡◌, ℕ, ◌==◌, ◌||◌, inl, inr, true, Some, List, [], ◌∷◌, drop, refl, ap, sym, ◌∙◌, subst}
use Rattle.std.specs.List.{AllByRecursion, list_any}
use Rattle.std.proofs.lemmas.Bool.{eq-eqb}
use Rattle.loop_script.specs.declared.plan.Plan.{Plan}
use Rattle.lane_turn.specs.declared.layer.Origin.{Origin}
use Rattle.lane_turn.specs.declared.layer.Origin.TheVariants as origins
use Rattle.lane_turn.specs.Frames.{Frame, CallOf, IterOf, LoopOf, is_acquired_by, owns}
use Rattle.lane_turn.specs.Lane.{Turn, chosen}
use Rattle.lane_turn.specs.Step.{step}
use Rattle.lane_turn.specs.Turn.{begun}
use Rattle.lane_turn.specs.Tick.{lanes_at}
use Rattle.lane_turn.specs.Iterations.{Later, EachLater, IsCalledBy, MayBegin, Begun, FramesGoOn}
use Rattle.lane_turn.proofs.Iterations.{goes_on}
use Rattle.lane_turn.proofs.Turns.{kept_finished}
use Rattle.lane_turn.proofs.Traced.{brings_all}
use Rattle.lane_turn.proofs.EachLane.{each_lane}

-- the context of the source that a call is of is owned by what the call stands over
abbrev pub IsCaused : Origin → List Frame → Type 0
IsCaused origins.Start below = Unit {0}
IsCaused (origins.Source caller) below = list_any (owns caller.context) below ≡ true
IsCaused (origins.Invoke acquired) below = Unit {0}

-- the same of all calls
abbrev pub AreCaused : List Frame → Type 0
AreCaused [] = Unit {0}
AreCaused (CallOf call ∷ below) = IsCaused call.origin below × AreCaused below
AreCaused (IterOf context ids asker ∷ below) = AreCaused below
AreCaused (LoopOf number context ∷ below) = AreCaused below

-- ---- frames that go on

owns_later : (c : ℕ) (f g : Frame) → Later f g → owns c g ≡ owns c f
owns_later c (CallOf call) (CallOf call') h = ap (is_acquired_by c) h.0
owns_later c (IterOf d ids asker) (IterOf d' left asker') h = ap (λ (n : ℕ). n == c) (sym h.0)
owns_later c (LoopOf number d) (LoopOf number' d') h = ap (λ (n : ℕ). n == c) h.1
owns_later c (CallOf call) (IterOf d ids asker) h = absurd h
owns_later c (CallOf call) (LoopOf number d) h = absurd h
owns_later c (IterOf d ids asker) (CallOf call) h = absurd h
owns_later c (IterOf d ids asker) (LoopOf number d') h = absurd h
owns_later c (LoopOf number d) (CallOf call) h = absurd h
owns_later c (LoopOf number d) (IterOf d' ids asker) h = absurd h

owns_each : (c : ℕ) (fs gs : List Frame) → EachLater fs gs → list_any (owns c) gs ≡ list_any (owns c) fs
owns_each c [] [] h = refl
owns_each c [] (g ∷ gs) h = absurd h
owns_each c (f ∷ fs) [] h = absurd h
owns_each c (f ∷ fs) (g ∷ gs) h = ap (λ b. b || list_any (owns c) gs) (owns_later c f g h.0) ∙ ap (λ b. owns c f || b) (owns_each c fs gs h.1)

one_later : (o : Origin) (fs gs : List Frame) → EachLater fs gs → IsCaused o fs → IsCaused o gs
one_later origins.Start fs gs l h = tt
one_later (origins.Source caller) fs gs l h = owns_each caller.context fs gs l ∙ h
one_later (origins.Invoke acquired) fs gs l h = tt

caused_later : (fs gs : List Frame) → EachLater fs gs → AreCaused fs → AreCaused gs
caused_later [] [] l h = tt
caused_later [] (g ∷ gs) l h = absurd l
caused_later (f ∷ fs) [] l h = absurd l
caused_later (CallOf call ∷ fs) (CallOf call' ∷ gs) l h = (subst (λ (o : Origin). IsCaused o gs) (sym l.0.0) (one_later call.origin fs gs l.1 h.0), caused_later fs gs l.1 h.1)
caused_later (IterOf c ids asker ∷ fs) (IterOf c' left asker' ∷ gs) l h = caused_later fs gs l.1 h
caused_later (LoopOf number c ∷ fs) (LoopOf number' c' ∷ gs) l h = caused_later fs gs l.1 h
caused_later (CallOf call ∷ fs) (IterOf c ids asker ∷ gs) l h = absurd l.0
caused_later (CallOf call ∷ fs) (LoopOf number c ∷ gs) l h = absurd l.0
caused_later (IterOf c ids asker ∷ fs) (CallOf call ∷ gs) l h = absurd l.0
caused_later (IterOf c ids asker ∷ fs) (LoopOf number c' ∷ gs) l h = absurd l.0
caused_later (LoopOf number c ∷ fs) (CallOf call ∷ gs) l h = absurd l.0
caused_later (LoopOf number c ∷ fs) (IterOf c' ids asker ∷ gs) l h = absurd l.0

caused_below : (fs : List Frame) → AreCaused fs → AreCaused (drop 1 fs)
caused_below [] h = tt
caused_below (CallOf call ∷ below) h = h.1
caused_below (IterOf c ids asker ∷ below) h = h
caused_below (LoopOf number c ∷ below) h = h

-- what is dispatched stands over the iteration that dispatched it
called_over : (before now : List Frame) (o : Origin) → IsCalledBy before now o → IsCaused o now
called_over before now origins.Start h = absurd h
called_over before now (origins.Source caller) h =
    subst (λ (fs : List Frame). list_any (owns caller.context) fs ≡ true) (sym h.is) (ap (λ b. b || list_any (owns caller.context) h.below) (eq-eqb caller.context caller.context refl))
called_over before now (origins.Invoke acquired) h = tt

caused_begun : (selected : ℕ → List ℕ) (before now : List Frame) (f : Frame) → MayBegin selected before now f → AreCaused now → AreCaused (f ∷ now)
caused_begun selected before now (CallOf call) b h = (called_over before now call.origin b.1, h)
caused_begun selected before now (IterOf c ids asker) b h = h
caused_begun selected before now (LoopOf number c) b h = h

caused_begins : (selected : ℕ → List ℕ) (fs now : List Frame) → Begun selected fs now → AreCaused fs → AreCaused now
caused_begins selected fs [] b h = absurd b
caused_begins selected fs (f ∷ now) b h = caused_begun selected fs now f b.1 (caused_later fs now b.0 h)

pub frames_caused : (selected : ℕ → List ℕ) (fs now : List Frame) → FramesGoOn selected fs now → AreCaused fs → AreCaused now
frames_caused selected fs now (inl l) h = caused_later fs now l h
frames_caused selected fs now (inr (inl l)) h = caused_later (drop 1 fs) now l (caused_below fs h)
frames_caused selected fs now (inr (inr b)) h = caused_begins selected fs now b h

-- ---- a run

pub caused_step : (script : Plan) (tick : ℕ) (t u : Turn) → step script tick t ≡ Some u → AreCaused t.lane.frames → AreCaused u.lane.frames
caused_step script tick t u e h = frames_caused (λ d. chosen script tick d t.lane) t.lane.frames u.lane.frames (goes_on script tick t u e) h

pub caused_run : (script : Plan) (tick : ℕ) → AllByRecursion (λ lane. AreCaused lane.frames) (lanes_at script tick)
caused_run script tick =
    each_lane script (λ k lane. AreCaused lane.frames) (λ k lane. AreCaused lane.frames) (λ k kept. Unit {0}) (λ n. (tt, tt))
    (λ k lane h. kept_finished script k (λ t. AreCaused t.lane.frames) (caused_step script k) (begun k lane) h)
    (λ k lane h context kept e. tt) (λ k lane h kept i. h) (λ k lane h context. h)
    (λ k letters lane h. subst AreCaused (sym (brings_all script k letters lane).frames) h) tick
