-- What a lane is in the middle of is in contexts of its own: what begins an iteration, a run or a call that acquires.
use Rattle.std.proofs.Common.{◌≡◌, ◌⊎◌, inl, inr, ℕ, ◌==◌, ◌||◌, Bool, true, false, cond, Option, Some, None, List, [], ◌∷◌, drop, refl, ap, sym, ◌∙◌, subst, eqb-true, ◌+◌}
use Rattle.std.specs.Prelude.{not, ◌&&◌, is_some, nat_lt}
use Rattle.std.specs.List.{list_any}
use Rattle.loop_script.specs.declared.plan.Plan.{Plan}
use Rattle.loop_script.specs.declared.action.Action.{Action}
use Rattle.loop_script.specs.declared.body.Body.{Body}
use Rattle.loop_script.specs.Parts.{time_of, stays}
use Rattle.source_rows.specs.declared.row.Row.{Row}
use Rattle.source_rows.specs.Rows.{destroyed}
use Rattle.post_office.specs.declared.letter.Body.{Body as Mail}
use Rattle.lane_turn.proofs.Moves as moves
use Rattle.lane_turn.proofs.Moves.{Move, moved, mail_by, MayMove, IsOrNone, Law, acted_by}
use Rattle.lane_turn.specs.declared.layer.Asker.{Asker}
use Rattle.lane_turn.specs.declared.layer.Asker.TheVariants as askers
use Rattle.loop_script.specs.declared.body.Body.TheVariants as bodies
use Rattle.lane_turn.specs.declared.layer.Origin.{Origin}
use Rattle.lane_turn.specs.declared.layer.Origin.TheVariants as origins
use Rattle.lane_turn.specs.Frames.{Frame, CallOf, IterOf, LoopOf, owns, advanced, advanced_one, emptied, emptied_one, calls_in_progress}
use Rattle.lane_turn.specs.Lane.{Lane, is_own, is_any, chosen, edited}
use Rattle.lane_turn.specs.Holding.{gives_context}
use Rattle.lane_turn.specs.Acted.{acted, sends}
use Rattle.lane_turn.specs.Step.{dispatching, returned, answered, body_of}
use Rattle.lane_turn.specs.Replies.{reply_held}
use Rattle.lane_turn.specs.Sources.{restarted}
use Rattle.lane_turn.proofs.Mild.{Plain, plain_moves}

-- whether a letter that may be sent gives a context
abbrev pub gives_maybe : ℕ → Option Mail → Bool
gives_maybe c None = false
gives_maybe c (Some body) = gives_context c body

-- what frames own they owned before, or it is the lane's own, and not given
abbrev pub OwnOn : (ℕ → Bool) → Option Mail → List Frame → List Frame → Type 0
OwnOn own mail old new = (c : ℕ) → list_any (owns c) new ≡ true → (list_any (owns c) old ≡ true) ⊎ ((own c ≡ true) × (gives_maybe c mail ≡ false))

pub own_same : (own : ℕ → Bool) (mail : Option Mail) (fs : List Frame) → OwnOn own mail fs fs
own_same own mail fs c e = inl e

own_either : (own : ℕ → Bool) (mail : Option Mail) (fs : List Frame) (x y : Lane) (b : Bool) → OwnOn own mail fs x.frames → OwnOn own mail fs y.frames → OwnOn own mail fs (cond b x y).frames
own_either own mail fs x y true p q = p
own_either own mail fs x y false p q = q

-- what takes nothing of a context leaves it owned
advanced_owns : (c : ℕ) (frame : Frame) → owns c (advanced_one frame) ≡ owns c frame
advanced_owns c (CallOf call) = refl
advanced_owns c (IterOf d ids asker) = refl
advanced_owns c (LoopOf number d) = refl

pub all_advanced : (c : ℕ) (fs : List Frame) → list_any (owns c) (advanced fs) ≡ list_any (owns c) fs
all_advanced c [] = refl
all_advanced c (frame ∷ fs) = ap (λ b. b || list_any (owns c) fs) (advanced_owns c frame)

emptied_owns : (c d : ℕ) (frame : Frame) → owns c (emptied_one d frame) ≡ owns c frame
emptied_owns c d (CallOf call) = refl
emptied_owns c d (IterOf x ids asker) = refl
emptied_owns c d (LoopOf number x) = refl

all_emptied : (c d : ℕ) (fs : List Frame) → list_any (owns c) (emptied d fs) ≡ list_any (owns c) fs
all_emptied c d [] = refl
all_emptied c d (frame ∷ fs) = ap (λ b. b || list_any (owns c) (emptied d fs)) (emptied_owns c d frame) ∙ ap (λ b. owns c frame || b) (all_emptied c d fs)

pub right_or : (x y : Bool) → y ≡ true → (x || y) ≡ true
right_or true y e = refl
right_or false y e = e

pub own_advanced : (own : ℕ → Bool) (mail : Option Mail) (fs : List Frame) → OwnOn own mail fs (advanced fs)
own_advanced own mail fs c e = inl (sym (all_advanced c fs) ∙ e)

-- one more frame, of a context that is the lane's own, or of none
own_pushed : (own : ℕ → Bool) (mail : Option Mail) (fs new : List Frame) (frame : Frame) → ((c : ℕ) → owns c frame ≡ true → (own c ≡ true) × (gives_maybe c mail ≡ false)) → OwnOn own mail fs new → OwnOn own mail fs (frame ∷ new)
own_pushed own mail fs new frame f h c e = by (owns c frame) refl e
  where
    by : (b : Bool) → owns c frame ≡ b → (b || list_any (owns c) new) ≡ true → (list_any (owns c) fs ≡ true) ⊎ ((own c ≡ true) × (gives_maybe c mail ≡ false))
    by true q k = inr (f c q)
    by false q k = h c k

-- an iteration of a context
own_iterating : (own : ℕ → Bool) (mail : Option Mail) (fs : List Frame) (d : ℕ) (ids : List ℕ) (asker : Asker) → own d ≡ true → gives_maybe d mail ≡ false → OwnOn own mail fs (IterOf d ids asker ∷ emptied d fs)
own_iterating own mail fs d ids asker o g =
    own_pushed own mail fs (emptied d fs) (IterOf d ids asker) (λ c e. (subst (λ (n : ℕ). own n ≡ true) (eqb-true d c e) o, subst (λ (n : ℕ). gives_maybe n mail ≡ false) (eqb-true d c e) g)) (λ c e. inl (sym (all_emptied c d fs) ∙ e))

-- ---- each action

own_left : (own : ℕ → Bool) (mail : Option Mail) (fs old new : List Frame) → new ≡ old → OwnOn own mail fs old → OwnOn own mail fs new
own_left own mail fs old new e h = subst (OwnOn own mail fs) (sym e) h

-- a frame of a context that is the lane's own
own_begun : (context : ℕ) (frame : Frame) (lane : Lane) → is_own context lane ≡ true → ((c : ℕ) → owns c frame ≡ true → context ≡ c) → OwnOn (λ c. is_own c lane) None lane.frames (frame ∷ lane.frames)
own_begun context frame lane e f =
    own_pushed (λ c. is_own c lane) None lane.frames lane.frames frame (λ c k. (subst (λ (n : ℕ). is_own n lane ≡ true) (f c k) e, refl)) (own_same (λ c. is_own c lane) None lane.frames)

acquired_is : (context proc : ℕ) (acquires : Option ℕ) → IsOrNone acquires context → (c : ℕ) → owns c (CallOf (record { origin = origins.Invoke acquires; body = bodies.Procedure proc; place = 0 })) ≡ true → context ≡ c
acquired_is context proc None a c k = let no : false ≡ true = k in cc
acquired_is context proc (Some d) a c k = a ∙ eqb-true d c k

own_each : (script : Plan) (tick : ℕ) (move : Move) (lane : Lane) → MayMove script move lane → OwnOn (λ c. is_own c lane) (mail_by move) lane.frames (moved script tick move lane).frames
own_each script tick (moves.Iterate context) lane m = own_iterating (λ c. is_own c lane) None lane.frames context (chosen script tick context lane) (askers.Iterate (is_any (chosen script tick context lane))) m refl
own_each script tick (moves.Run number context) lane m = own_begun context (LoopOf number context) lane m (λ c k. eqb-true context c k)
own_each script tick (moves.Call context proc acquires) lane m = own_begun context (CallOf (record { origin = origins.Invoke acquires; body = bodies.Procedure proc; place = 0 })) lane m.0 (acquired_is context proc acquires m.2)
own_each script tick move lane m = own_same (λ c. is_own c lane) (mail_by move) lane.frames

pub own_acted : (script : Plan) (tick : ℕ) (action : Action) (lane : Lane) → OwnOn (λ c. is_own c lane) (sends script action lane) lane.frames (acted script tick action lane).frames
own_acted script tick action lane = acted_by law action lane
  where
    law : Law script tick Plain (λ mail a b. OwnOn (λ c. is_own c a) mail a.frames b.frames)
    law = record {
      plain = plain_moves tick;
      of = λ a b h. own_left (λ c. is_own c a) None a.frames a.frames b.frames h.frames (own_same (λ c. is_own c a) None a.frames);
      next = λ mail a b c h g. own_left (λ x. is_own x a) mail a.frames b.frames c.frames g.frames h;
      each = own_each script tick;
    }

-- ---- what else a step does

abbrev called_frame : ℕ → Row → Lane → Frame
called_frame context row lane = CallOf (record {
  origin = origins.Source (record { context = context; id = row.id; recurse = row.recurse; number = row.count + 1; once = is_some (reply_held context row.id lane.replies) });
  body = body_of row.call;
  place = 0;
})

pub own_dispatching : (own : ℕ → Bool) (tick context : ℕ) (row : Row) (lane : Lane) → OwnOn own None lane.frames (dispatching tick context row lane).frames
own_dispatching own tick context row lane =
    own_either own None lane.frames _ _ (nat_lt (calls_in_progress lane.frames) 32)
    (own_pushed own None lane.frames (advanced lane.frames) (called_frame context row lane) (λ c k. let no : false ≡ true = k in cc) (own_advanced own None lane.frames)) (own_same own None lane.frames)

pub own_returned : (own : ℕ → Bool) (script : Plan) (tick : ℕ) (body : Body) (origin : Origin) (lane : Lane) → OwnOn own None lane.frames (returned script tick body origin lane).frames
own_returned own script tick body origins.Start lane = own_same own None lane.frames
own_returned own script tick body (origins.Invoke acquired) lane = own_same own None lane.frames
own_returned own script tick body (origins.Source caller) lane =
    own_either own None lane.frames (edited caller.context (restarted (time_of script tick) caller.id) lane) (edited caller.context (destroyed caller.id) lane) (not caller.once && stays script body caller.number) (own_same own None lane.frames) (own_same own None lane.frames)

pub own_answered : (own : ℕ → Bool) (tick context : ℕ) (asker : Asker) (lane : Lane) → OwnOn own None lane.frames (answered tick context asker lane).frames
own_answered own tick context askers.Loop lane = own_same own None lane.frames
own_answered own tick context (askers.Iterate any) lane = own_same own None lane.frames

-- where nothing more is owned
abbrev pub OwnsLess : List Frame → List Frame → Type 0
OwnsLess old new = (c : ℕ) → list_any (owns c) new ≡ true → list_any (owns c) old ≡ true

pub less_dropped : (fs : List Frame) → OwnsLess fs (drop 1 fs)
less_dropped [] c e = e
less_dropped (frame ∷ fs) c e = right_or (owns c frame) (list_any (owns c) fs) e

pub less_advanced : (fs : List Frame) → OwnsLess fs (advanced fs)
less_advanced fs c e = sym (all_advanced c fs) ∙ e

pub own_after : (own : ℕ → Bool) (mail : Option Mail) (a b c : List Frame) → OwnsLess a b → OwnOn own mail b c → OwnOn own mail a c
own_after own mail a b c h g x e = by (g x e)
  where
    by : (list_any (owns x) b ≡ true) ⊎ ((own x ≡ true) × (gives_maybe x mail ≡ false)) → (list_any (owns x) a ≡ true) ⊎ ((own x ≡ true) × (gives_maybe x mail ≡ false))
    by (inl p) = inl (h x p)
    by (inr p) = inr p

-- an iteration that a loop begins, of a context that it owns
pub own_looped : (own : ℕ → Bool) (number d : ℕ) (ids : List ℕ) (asker : Asker) (below : List Frame) → OwnOn own None (LoopOf number d ∷ below) (IterOf d ids asker ∷ emptied d (LoopOf number d ∷ below))
own_looped own number d ids asker below c e = inl (by (d == c) refl e)
  where
    by : (b : Bool) → (d == c) ≡ b → (b || ((d == c) || list_any (owns c) (emptied d below))) ≡ true → ((d == c) || list_any (owns c) below) ≡ true
    by true q k = ap (λ b. b || list_any (owns c) below) q
    by false q k = ap (λ b. b || list_any (owns c) below) q ∙ (sym (all_emptied c d below) ∙ (sym (ap (λ b. b || list_any (owns c) (emptied d below)) q) ∙ k))
