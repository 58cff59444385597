-- A context that is given is owned by nothing, and stands until it goes over.
use Rattle.std.proofs.Common.{◌≡◌, ◌≢◌, ◌⊎◌, inl, inr, ℕ, zero, suc, ◌==◌, ◌||◌, ◌&&◌, Bool, true, false, Option, Some, None, List, [], ◌∷◌, slice_set, refl, ap, sym, ◌∙◌}
use Rattle.std.specs.Prelude.{not, is_some, unwrap_or, slice_get}
use Rattle.std.specs.List.{AllByRecursion, list_any}
use Rattle.std.proofs.lemmas.Bool.Decides.{eqb_tells}
use Rattle.loop_script.specs.declared.plan.Plan.{Plan}
use Rattle.context_core.specs.declared.context.Context.{Context}
use Rattle.context_core.specs.Defaults.{is_acquired, is_pushed}
use Rattle.post_office.specs.declared.letter.Body.{Body as Mail}
use Rattle.post_office.specs.declared.letter.Body.TheVariants as mails
use Rattle.lane_turn.specs.Frames.{owns}
use Rattle.lane_turn.specs.Lane.{Lane, Turn, present, context_at, is_given, is_own, taken}
use Rattle.lane_turn.specs.Owned.{has_ground, is_owned, may_release}
use Rattle.lane_turn.specs.Handover.{is_another}
use Rattle.lane_turn.specs.Step.{step}
use Rattle.lane_turn.specs.Turn.{begun}
use Rattle.lane_turn.specs.Tick.{lanes_at}
use Rattle.lane_turn.specs.Blocked.{turn_within}
use Rattle.lane_turn.specs.Holding.{StaysGiven, GivenContextsStand}
use Rattle.lane_turn.proofs.Adds.{each_as}
use Rattle.lane_turn.proofs.Steady.{given_with}
use Rattle.lane_turn.proofs.Owning.{gives_maybe}
use Rattle.lane_turn.proofs.Sends.{IsAllowed, Sends, step_tells}
use Rattle.lane_turn.proofs.Turns.{kept_finish}
use Rattle.lane_turn.proofs.Giving.{or_left}
use Rattle.lane_turn.proofs.Whole.{set_other}
use Rattle.lane_turn.proofs.Holds.{none_law}
use Rattle.lane_turn.proofs.Freed.{Owns, Rests, not_own, owns_step, rests_run}
use Rattle.lane_turn.proofs.Caused.{AreCaused, caused_step, caused_run}
use Rattle.lane_turn.proofs.Spared.{Still, still_polling}

-- what is given is not acquired
abbrev IsLoose : Lane → Type 0
IsLoose lane = (c : ℕ) → is_given c lane ≡ true → may_release (context_at c lane) ≡ false

-- what steps keep
record Keeps (lane : Lane) : Type 0 where
  owns : Owns lane
  caused : AreCaused lane.frames
  loose : IsLoose lane

still_given : (script : Plan) (tick : ℕ) (t u : Turn) (c : ℕ) → step script tick t ≡ Some u → Keeps t.lane → is_given c t.lane ≡ true → Still c t.lane u.lane
still_given script tick t u c e k g = still_polling script tick t t.unpolled u c k.caused k.owns (not_own (is_some (context_at c t.lane)) (is_given c t.lane) g) (k.loose c g) e

-- ---- which contexts are given

raised : (gs : List Bool) (d c : ℕ) → unwrap_or (slice_get gs c) false ≡ true → unwrap_or (slice_get (slice_set gs d true) c) false ≡ true
raised [] d c e = e
raised (g ∷ gs) zero zero e = refl
raised (g ∷ gs) zero (suc c) e = e
raised (g ∷ gs) (suc d) zero e = e
raised (g ∷ gs) (suc d) (suc c) e = raised gs d c e

-- what is given stays so
given_on : (mail : Option Mail) (gs : List Bool) (c : ℕ) → unwrap_or (slice_get gs c) false ≡ true → unwrap_or (slice_get (given_with mail gs) c) false ≡ true
given_on None gs c e = e
given_on (Some (mails.Attach context spec)) gs c e = e
given_on (Some (mails.Complete reply)) gs c e = e
given_on (Some (mails.Cancelled k)) gs c e = e
given_on (Some (mails.Give d to)) gs c e = raised gs d c e

-- what becomes so is given by a letter
newly : (mail : Option Mail) (gs : List Bool) (c : ℕ) → unwrap_or (slice_get gs c) false ≡ false → unwrap_or (slice_get (given_with mail gs) c) false ≡ true → gives_maybe c mail ≡ true
newly None gs c e f = let no : false ≡ true = sym e ∙ f in cc
newly (Some (mails.Attach context spec)) gs c e f = let no : false ≡ true = sym e ∙ f in cc
newly (Some (mails.Complete reply)) gs c e f = let no : false ≡ true = sym e ∙ f in cc
newly (Some (mails.Cancelled k)) gs c e f = let no : false ≡ true = sym e ∙ f in cc
newly (Some (mails.Give d to)) gs c e f = by (eqb_tells d c)
  where
    by : ((d == c) ≡ true × d ≡ c) ⊎ ((d == c) ≡ false × d ≢ c) → (d == c) ≡ true
    by (inl p) = p.0
    by (inr p) = let no : false ≡ true = sym e ∙ (sym (ap (λ (o : Option Bool). unwrap_or o false) (set_other gs d c true (λ q. p.1 (sym q)))) ∙ f) in cc

-- what may be given is not acquired
unacquired : (script : Plan) (lane : Lane) (mail : Option Mail) (c : ℕ) → IsAllowed script lane mail → gives_maybe c mail ≡ true → may_release (context_at c lane) ≡ false
unacquired script lane None c a e = let no : false ≡ true = e in cc
unacquired script lane (Some (mails.Attach context spec)) c a e = let no : false ≡ true = e in cc
unacquired script lane (Some (mails.Complete reply)) c a e = let no : false ≡ true = e in cc
unacquired script lane (Some (mails.Cancelled k)) c a e = let no : false ≡ true = e in cc
unacquired script lane (Some (mails.Give d to)) c a e = by (eqb_tells d c)
  where
    middle : (o n x : Bool) → (o && (not n && x)) ≡ true → n ≡ false
    middle true true x p = let no : false ≡ true = p in cc
    middle true false x p = refl
    middle false n x p = let no : false ≡ true = p in cc

    free : (o : Option Context) → has_ground d o lane ≡ false → may_release o ≡ false
    free None p = refl
    free (Some x) p = or_left (is_acquired x) (is_pushed d lane.defaults) (or_left (is_acquired x || is_pushed d lane.defaults) (list_any (owns d) lane.frames) p)

    by : ((d == c) ≡ true × d ≡ c) ⊎ ((d == c) ≡ false × d ≢ c) → may_release (context_at c lane) ≡ false
    by (inl p) = ap (λ (n : ℕ). may_release (context_at n lane)) (sym p.1) ∙ free (context_at d lane) (middle (is_own d lane) (is_owned d lane) (is_another script to lane) a)
    by (inr p) = let no : false ≡ true = sym p.0 ∙ e in cc

-- ---- a step

loose_step : (script : Plan) (tick : ℕ) (t u : Turn) → step script tick t ≡ Some u → Keeps t.lane → IsLoose u.lane
loose_step script tick t u e k c g = by (is_given c t.lane) refl
  where
    s : Sends script tick t u
    s = step_tells script tick t u e

    by : (b : Bool) → is_given c t.lane ≡ b → may_release (context_at c u.lane) ≡ false
    by true p = ap may_release (still_given script tick t u c e k p).0 ∙ k.loose c p
    by false p =
        let new : gives_maybe c s.mail ≡ true = newly s.mail t.lane.given c p (sym (ap (λ (gs : List Bool). unwrap_or (slice_get gs c) false) s.given) ∙ g) in
        ap (λ (os : List (Option Context)). may_release (present (slice_get os c))) (s.stands c new) ∙ unacquired script (taken t.lane) s.mail c s.allowed new

keeps_step : (script : Plan) (tick : ℕ) (t u : Turn) → step script tick t ≡ Some u → Keeps t.lane → Keeps u.lane
keeps_step script tick t u e k = record {
  owns = owns_step script tick t u e k.owns;
  caused = caused_step script tick t u e k.caused;
  loose = loose_step script tick t u e k;
}

stays_given : (script : Plan) (tick : ℕ) (t u : Turn) → step script tick t ≡ Some u → Keeps t.lane → StaysGiven t u
stays_given script tick t u e k c g =
    let s : Sends script tick t u = step_tells script tick t u e in
    let h : Still c t.lane u.lane = still_given script tick t u c e k g in
    (ap (λ (gs : List Bool). unwrap_or (slice_get gs c) false) s.given ∙ given_on s.mail t.lane.given c g, record { rows = h.0; replies = h.1 })

-- ---- a run

keeps_all : (lanes : List Lane) → AllByRecursion Rests lanes → AllByRecursion (λ lane. AreCaused lane.frames) lanes → AllByRecursion (λ lane. (c : ℕ) → is_given c lane ≡ false) lanes → AllByRecursion Keeps lanes
keeps_all [] r a n = tt
keeps_all (lane ∷ lanes) r a n = (record { owns = (r.0).owns; caused = a.0; loose = λ c g. let no : false ≡ true = sym (n.0 c) ∙ g in cc }, keeps_all lanes r.1 a.1 n.1)

keeps_within : (script : Plan) (tick steps : ℕ) (lane : Lane) → Keeps lane → Keeps (turn_within script tick steps lane).lane
keeps_within script tick steps lane k = kept_finish script tick steps (λ t. Keeps t.lane) (keeps_step script tick) (begun tick lane) (record { owns = k.owns; caused = k.caused; loose = k.loose })

pub given_contexts_stand : GivenContextsStand
given_contexts_stand script tick steps =
    each_as Keeps (λ lane. (u : Turn) → step script tick (turn_within script tick steps lane) ≡ Some u → StaysGiven (turn_within script tick steps lane) u)
    (λ lane k u e. stays_given script tick (turn_within script tick steps lane) u e (keeps_within script tick steps lane k)) (lanes_at script tick)
    (keeps_all (lanes_at script tick) (rests_run script tick) (caused_run script tick) (none_law script tick))
