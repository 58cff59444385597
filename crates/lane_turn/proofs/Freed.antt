-- In a run no source is dispatched while a call in progress blocks it.
use Rattle.std.proofs.Common.{◌≡◌, ◌≢◌, ◌⊎◌, inl, inr, ℕ, zero, suc, ◌+◌, ◌<◌, ◌==◌, ◌||◌, ◌&&◌, Bool, true, false, not, cond, Option, Some, None, List, [], ◌∷◌, ◌++◌, map, length, get_or, slice_set, option_map, refl, ap, sym, ◌∙◌, subst, arith, eqb-true}
use Rattle.std.specs.Prelude.{is_some, unwrap_or, slice_get, slice_index_or}
use Rattle.std.specs.List.{AllByRecursion, list_any, filter_map, cons_option, range_with_len}
use Rattle.std.proofs.lemmas.Bool.{eq-eqb}
use Rattle.std.proofs.lemmas.Bool.Decides.{eqb_tells}
use Rattle.std.proofs.lemmas.List.Sorted.{list_any-IsPermutation, IsPermutation-reverse}
use Rattle.loop_script.specs.declared.plan.Plan.{Plan}
use Rattle.loop_script.specs.Parts.{home_of}
use Rattle.loop_script.specs.References.{sizes}
use Rattle.source_rows.specs.declared.row.Row.{Row}
use Rattle.source_rows.proofs.Compared.{same_self}
use Rattle.source_rows.proofs.Forest.{found}
use Rattle.context_core.specs.declared.context.Context.{Context}
use Rattle.post_office.specs.declared.letter.Letter.{Letter}
use Rattle.post_office.specs.declared.letter.Body.{Body as Mail}
use Rattle.post_office.specs.declared.letter.Body.TheVariants as mails
use Rattle.context_core.specs.Defaults.{is_acquired, is_pushed}
use Rattle.lane_turn.specs.declared.line.Event.{Event}
use Rattle.lane_turn.specs.declared.line.Event.TheVariants as events
use Rattle.lane_turn.specs.declared.layer.Caller.{Caller}
use Rattle.lane_turn.specs.declared.layer.Origin.{Origin}
use Rattle.lane_turn.specs.declared.layer.Origin.TheVariants as origins
use Rattle.lane_turn.specs.Frames.{Frame, CallOf, IterOf, LoopOf, blocked_by, blocked_in, busy, owns, is_acquired_by}
use Rattle.lane_turn.specs.Sources.{no_sources}
use Rattle.lane_turn.specs.Lane.{Lane, Kept, Turn, present, context_at, is_given, is_own, row_in, row_of, taken}
use Rattle.lane_turn.specs.Owned.{has_ground, is_owned}
use Rattle.lane_turn.specs.Handover.{Handing, is_another, kept_of, handed_of, without_context, taken_over, let_go, handed, handed_over}
use Rattle.lane_turn.specs.Holding.{holder_at}
use Rattle.lane_turn.specs.Step.{step}
use Rattle.lane_turn.specs.Turn.{opening, begun, turned, open_context, open_contexts_to}
use Rattle.lane_turn.specs.Deliver.{received_all}
use Rattle.lane_turn.specs.Tick.{posted_at, lanes_at}
use Rattle.lane_turn.specs.Traces.{Grows}
use Rattle.lane_turn.specs.Depths.{caller_of, callers}
use Rattle.lane_turn.specs.Blocked.{MayRecur, IsFree, IsOfFree, turn_within, BlockedWait}
use Rattle.lane_turn.proofs.Iterations.{goes_on, row_in_id}
use Rattle.lane_turn.proofs.Follows.{FollowsIn, AllFollow}
use Rattle.lane_turn.proofs.Counts.{follow_all}
use Rattle.lane_turn.proofs.Adds.{grows_as, each_as}
use Rattle.lane_turn.proofs.Added.{IsNext, TellsNext, Told, does}
use Rattle.lane_turn.proofs.Traced.{brings_all}
use Rattle.lane_turn.proofs.Waits.{is_in, is_held, may_go, WaitsIn, AllWait, NumberedIn, not_true, wait_on, frames_wait}
use Rattle.lane_turn.proofs.Turns.{kept_finish, kept_finished}
use Rattle.lane_turn.proofs.Sends.{IsAllowed, Sends, step_tells}
use Rattle.lane_turn.proofs.Steady.{given_with}
use Rattle.lane_turn.proofs.Owning.{gives_maybe, all_advanced, right_or}
use Rattle.lane_turn.proofs.Moves.{has_own}
use Rattle.lane_turn.proofs.Arrivals.{own_held, own_same, held_received, given_received}
use Rattle.lane_turn.proofs.Whole.{whole, set_other}
use Rattle.lane_turn.proofs.Places.{Counted}
use Rattle.lane_turn.proofs.Between.{Fits, AreLanes, Goes, over_all}
use Rattle.lane_turn.proofs.Holds.{held_at_tick, turns_fit}

-- ---- what is not blocked

or_left : (a b : Bool) → (a || b) ≡ false → a ≡ false
or_left true b e = let no : true ≡ false = e in cc
or_left false b e = refl

or_right : (a b : Bool) → (a || b) ≡ false → b ≡ false
or_right true b e = let no : true ≡ false = e in cc
or_right false b e = e

abbrev Recurs : ℕ → ℕ → Caller → Type 0
Recurs c i caller = caller.context ≡ c → caller.id ≡ i → caller.recurse ≡ true

equal : (a b : ℕ) → a ≡ b → (a == b) ≡ true
equal a b e = ap (λ (n : ℕ). a == n) (sym e) ∙ same_self a

recur_source : (c i : ℕ) (caller : Caller) (xs : List ℕ) (cs : List Caller) → (list_any (λ b. b == i) xs ≡ false → AllByRecursion (Recurs c i) cs)
    → (r s : Bool) → caller.recurse ≡ r → (caller.context == c) ≡ s → list_any (λ b. b == i) (cons_option (cond r None (cond s (Some caller.id) None)) xs) ≡ false → AllByRecursion (Recurs c i) (caller ∷ cs)
recur_source c i caller xs cs ih true s r k e = (λ x y. r, ih e)
recur_source c i caller xs cs ih false true r k e = (λ x y. let no : true ≡ false = sym (equal caller.id i y) ∙ or_left (caller.id == i) (list_any (λ b. b == i) xs) e in cc, ih (or_right (caller.id == i) (list_any (λ b. b == i) xs) e))
recur_source c i caller xs cs ih false false r k e = (λ x y. let no : true ≡ false = sym (equal caller.context c x) ∙ k in cc, ih e)

recur_call : (c i : ℕ) (origin : Origin) (xs : List ℕ) (cs : List Caller) → (list_any (λ b. b == i) xs ≡ false → AllByRecursion (Recurs c i) cs)
    → list_any (λ b. b == i) (cons_option (blocked_by c origin) xs) ≡ false → AllByRecursion (Recurs c i) (cons_option (caller_of origin) cs)
recur_call c i origins.Start xs cs ih e = ih e
recur_call c i (origins.Invoke acquired) xs cs ih e = ih e
recur_call c i (origins.Source caller) xs cs ih e = recur_source c i caller xs cs ih caller.recurse (caller.context == c) refl refl e

recur_each : (c i : ℕ) (fs : List Frame) → list_any (λ b. b == i) (filter_map (blocked_in c) fs) ≡ false → MayRecur fs c i
recur_each c i [] e = tt
recur_each c i (CallOf call ∷ fs) e = recur_call c i call.origin (filter_map (blocked_in c) fs) (callers fs) (recur_each c i fs) e
recur_each c i (IterOf d ids asker ∷ fs) e = recur_each c i fs e
recur_each c i (LoopOf number d ∷ fs) e = recur_each c i fs e

recurs : (c i : ℕ) (fs : List Frame) → list_any (λ b. b == i) (busy c fs) ≡ false → MayRecur fs c i
recurs c i fs e =
    let xs : List ℕ = filter_map (blocked_in c) fs in
    recur_each c i fs (list_any-IsPermutation (λ b. b == i) xs (busy c fs) (IsPermutation-reverse xs) ∙ e)

each_recurs : (c : ℕ) (fs : List Frame) (line : List ℕ) → is_held (busy c fs) line ≡ false → AllByRecursion (MayRecur fs c) line
each_recurs c fs [] e = tt
each_recurs c fs (i ∷ line) e =
    (recurs c i fs (or_left (list_any (λ b. b == i) (busy c fs)) (is_held (busy c fs) line) e), each_recurs c fs line (or_right (list_any (λ b. b == i) (busy c fs)) (is_held (busy c fs) line) e))

held_not : (id : ℕ) (ids blocked : List ℕ) (row : Row) → row.id ≡ id → may_go (id ∷ ids) blocked row.id row.lineage ≡ true → is_held blocked row.lineage ≡ false
held_not id ids blocked row s m =
    let here : is_in row.id (id ∷ ids) ≡ true = ap (λ b. b || is_in row.id ids) (equal id row.id (sym s)) in
    not_true (is_held blocked row.lineage) (ap (λ b. cond b (not (is_held blocked row.lineage)) true) (sym here) ∙ m)

next_free : (id : ℕ) (ids blocked : List ℕ) (o : Option Context) (row : Row) → WaitsIn (id ∷ ids) blocked o → row_in id o ≡ Some row → is_held blocked row.lineage ≡ false
next_free id ids blocked None row h e = let no : None ≡ Some row = e in cc
next_free id ids blocked (Some c) row h e = held_not id ids blocked row (row_in_id id (Some c) row (sym e)) (found (λ (r : Row). may_go (id ∷ ids) blocked r.id r.lineage ≡ true) id row c.rows.rows h.free e)

-- ---- the invariant

pub record Sits (lane : Lane) : Type 0 where
  pub numbered : (i : ℕ) → NumberedIn (present (slice_get lane.contexts i))
  pub waits : AllWait lane.contexts lane.frames

numbered_in : (o p : Option Context) → FollowsIn o p → NumberedIn o → NumberedIn p
numbered_in None None f n = tt
numbered_in None (Some d) f n = absurd f
numbered_in (Some c) None f n = absurd f
numbered_in (Some c) (Some d) f n = f.numbered n

numbered_on : (before now : List (Option Context)) → AllFollow before now → ((i : ℕ) → NumberedIn (present (slice_get before i))) → (i : ℕ) → NumberedIn (present (slice_get now i))
numbered_on before now f n i = numbered_in (present (slice_get before i)) (present (slice_get now i)) (f i) (n i)

pub sits_step : (script : Plan) (tick : ℕ) (t u : Turn) → step script tick t ≡ Some u → Sits t.lane → Sits u.lane
sits_step script tick t u e h =
    let rows = (does script tick t u e).rows in
    record {
      numbered = numbered_on t.lane.contexts u.lane.contexts rows h.numbered;
      waits = wait_on t.lane.contexts u.lane.contexts rows u.lane.frames (frames_wait script tick t.lane u.lane.frames h.numbered (goes_on script tick t u e) h.waits);
    }

pub sits_received : (script : Plan) (tick : ℕ) (letters : List Letter) (lane : Lane) → Sits lane → Sits (received_all script tick letters lane)
sits_received script tick letters lane h =
    let after : Lane = received_all script tick letters lane in
    let b = brings_all script tick letters lane in
    record {
      numbered = numbered_on lane.contexts after.contexts (follow_all lane.contexts after.contexts b.adds.rows) h.numbered;
      waits = subst (AllWait after.contexts) (sym b.frames) (wait_on lane.contexts after.contexts (follow_all lane.contexts after.contexts b.adds.rows) lane.frames h.waits);
    }

numbered_pushed : (os : List (Option Context)) (o : Option Context) → ((i : ℕ) → NumberedIn (present (slice_get os i))) → NumberedIn o → (i : ℕ) → NumberedIn (present (slice_get (os ++ o ∷ []) i))
numbered_pushed [] o n p zero = p
numbered_pushed [] o n p (suc i) = tt
numbered_pushed (x ∷ os) o n p zero = n zero
numbered_pushed (x ∷ os) o n p (suc i) = numbered_pushed os o (λ j. n (suc j)) p i

numbered_open : (script : Plan) (b : Bool) → NumberedIn (cond b (Some (no_sources script)) None)
numbered_open script true = record { rising = tt; given = tt }
numbered_open script false = tt

pub numbered_all : (script : Plan) (lane n : ℕ) → (i : ℕ) → NumberedIn (present (slice_get (open_contexts_to script lane n) i))
numbered_all script lane zero i = tt
numbered_all script lane (suc n) i = numbered_pushed (open_contexts_to script lane n) (open_context script lane n) (numbered_all script lane n) (numbered_open script (home_of script n == lane)) i

-- ---- contexts of its own

-- what a lane is in the middle of is in contexts of its own
abbrev pub Owns : Lane → Type 0
Owns lane = (c : ℕ) → list_any (owns c) lane.frames ≡ true → is_own c lane ≡ true

pub no_false : (b : Bool) → b ≡ true → b ≡ false → ⊥
no_false b t f = let no : true ≡ false = sym t ∙ f in cc

-- what is owned is not given
own_kept : (script : Plan) (lane : Lane) (mail : Option Mail) (given : List Bool) (c : ℕ) → IsAllowed script lane mail → gives_maybe c mail ≡ false → unwrap_or (slice_get (given_with mail given) c) false ≡ unwrap_or (slice_get given c) false
own_kept script lane None given c a g = refl
own_kept script lane (Some (mails.Attach context spec)) given c a g = refl
own_kept script lane (Some (mails.Complete reply)) given c a g = refl
own_kept script lane (Some (mails.Cancelled k)) given c a g = refl
own_kept script lane (Some (mails.Give d to)) given c a g = ap (λ o. unwrap_or o false) (set_other given d c true (λ e. no_false (d == c) (eq-eqb d c (sym e)) g))

-- what frames own is not given
not_given : (script : Plan) (lane : Lane) (mail : Option Mail) (c : ℕ) → IsAllowed script lane mail → is_some (context_at c lane) ≡ true → list_any (owns c) lane.frames ≡ true → gives_maybe c mail ≡ false
not_given script lane None c a k e = refl
not_given script lane (Some (mails.Attach context spec)) c a k e = refl
not_given script lane (Some (mails.Complete reply)) c a k e = refl
not_given script lane (Some (mails.Cancelled x)) c a k e = refl
not_given script lane (Some (mails.Give d to)) c a k e = by (eqb_tells d c)
  where
    parts : (o n x : Bool) → (o && (n && x)) ≡ true → n ≡ true
    parts true true x p = refl
    parts true false x p = let no : false ≡ true = p in cc
    parts false n x p = let no : false ≡ true = p in cc

    ground : (o : Option Context) → context_at c lane ≡ o → is_some o ≡ true → has_ground c o lane ≡ true
    ground None q r = let no : false ≡ true = r in cc
    ground (Some x) q r = right_or (is_acquired x || is_pushed c lane.defaults) (list_any (owns c) lane.frames) e

    owned : is_owned c lane ≡ true
    owned = ground (context_at c lane) refl k

    by : ((d == c) ≡ true × d ≡ c) ⊎ ((d == c) ≡ false × d ≢ c) → (d == c) ≡ false
    by (inr p) = p.0
    by (inl p) =
        let none : not (is_owned d lane) ≡ true = parts (is_own d lane) (not (is_owned d lane)) (is_another script to lane) a in
        let no : false ≡ true = sym (ap not owned) ∙ (ap (λ (n : ℕ). not (is_owned n lane)) (sym p.1) ∙ none) in
        cc

pub owns_step : (script : Plan) (tick : ℕ) (t u : Turn) → step script tick t ≡ Some u → Owns t.lane → Owns u.lane
owns_step script tick t u e o c k = by (s.owns c k)
  where
    s : Sends script tick t u
    s = step_tells script tick t u e

    -- it is the lane's own, and not given
    stays : is_own c t.lane ≡ true → gives_maybe c s.mail ≡ false → is_own c u.lane ≡ true
    stays q g =
        ap (λ b. b && not (is_given c u.lane)) (own_held u.lane.contexts c ∙ (ap (λ bs. slice_index_or bs c false) s.holds ∙ sym (own_held t.lane.contexts c)))
        ∙ (ap (λ b. is_some (context_at c t.lane) && not b) (ap (λ (gs : List Bool). unwrap_or (slice_get gs c) false) s.given ∙ own_kept script (taken t.lane) s.mail t.lane.given c s.allowed g) ∙ q)

    by : (list_any (owns c) t.lane.frames ≡ true) ⊎ ((is_own c t.lane ≡ true) × (gives_maybe c s.mail ≡ false)) → is_own c u.lane ≡ true
    by (inl p) = stays (o c p) (not_given script (taken t.lane) s.mail c s.allowed (has_own c t.lane (o c p)) (all_advanced c t.lane.frames ∙ p))
    by (inr p) = stays p.0 p.1

owns_received : (script : Plan) (tick : ℕ) (letters : List Letter) (lane : Lane) → Owns lane → Owns (received_all script tick letters lane)
owns_received script tick letters lane o c k =
    let b = brings_all script tick letters lane in
    own_same c (received_all script tick letters lane) lane (held_received script tick letters lane) (given_received script tick letters lane)
    ∙ o c (ap (list_any (owns c)) (sym b.frames) ∙ k)

-- ---- what a lane is once a context went over

wait_set : (contexts : List (Option Context)) (d : ℕ) (o : Option Context) (fs : List Frame) → list_any (owns d) fs ≡ false → AllWait contexts fs → AllWait (slice_set contexts d o) fs
wait_set contexts d o [] e h = tt
wait_set contexts d o (CallOf call ∷ below) e h = wait_set contexts d o below (or_right (is_acquired_by d call.origin) (list_any (owns d) below) e) h
wait_set contexts d o (IterOf c ids asker ∷ below) e h =
    let other : (c == d) ≡ false = or_left (c == d) (list_any (owns d) below) e in
    (h.0, subst (λ (x : Option (Option Context)). WaitsIn ids (busy c below) (present x)) (sym (set_other contexts d c o (λ q. no_false (c == d) (eq-eqb c d q) other))) h.1, wait_set contexts d o below (or_right (c == d) (list_any (owns d) below) e) h.2)
wait_set contexts d o (LoopOf number c ∷ below) e h = wait_set contexts d o below (or_right (c == d) (list_any (owns d) below) e) h

numbered_set : (contexts : List (Option Context)) (d : ℕ) (o : Option Context) → ((i : ℕ) → NumberedIn (present (slice_get contexts i))) → NumberedIn o → (i : ℕ) → NumberedIn (present (slice_get (slice_set contexts d o) i))
numbered_set [] d o n p i = n i
numbered_set (x ∷ contexts) zero o n p zero = p
numbered_set (x ∷ contexts) zero o n p (suc i) = n (suc i)
numbered_set (x ∷ contexts) (suc d) o n p zero = n zero
numbered_set (x ∷ contexts) (suc d) o n p (suc i) = numbered_set contexts d o (λ j. n (suc j)) p i

-- a lane between turns
pub record Rests (lane : Lane) : Type 0 where
  pub sits : Sits lane
  pub owns : Owns lane

none_owned : (lane : Lane) (d : ℕ) → Owns lane → is_own d lane ≡ false → list_any (owns d) lane.frames ≡ false
none_owned lane d o e = by (list_any (owns d) lane.frames) refl
  where
    by : (b : Bool) → list_any (owns d) lane.frames ≡ b → list_any (owns d) lane.frames ≡ false
    by true q = absurd (no_false (is_own d lane) (o d q) e)
    by false q = q

-- the place of a context that frames do not own
rests_set : (lane after : Lane) (d : ℕ) (o : Option Context) → Rests lane → is_own d lane ≡ false → NumberedIn o → after.contexts ≡ slice_set lane.contexts d o → after.frames ≡ lane.frames → ((c : ℕ) → c ≢ d → is_given c after ≡ is_given c lane) → Rests after
rests_set lane after d o r e n cs fs g =
    let none : list_any (owns d) lane.frames ≡ false = none_owned lane d r.owns e in
    record {
      sits = record {
        numbered = λ i. subst (λ (all : List (Option Context)). NumberedIn (present (slice_get all i))) (sym cs) (numbered_set lane.contexts d o (r.sits).numbered n i);
        waits = subst (λ (all : List (Option Context)). AllWait all after.frames) (sym cs) (subst (AllWait (slice_set lane.contexts d o)) (sym fs) (wait_set lane.contexts d o lane.frames none (r.sits).waits));
      };
      owns = λ c k. kept c (ap (list_any (owns c)) (sym fs) ∙ k) (eqb_tells c d);
    }
  where
    kept : (c : ℕ) → list_any (owns c) lane.frames ≡ true → ((c == d) ≡ true × c ≡ d) ⊎ ((c == d) ≡ false × c ≢ d) → is_own c after ≡ true
    kept c k (inl p) = absurd (no_false (list_any (owns c) lane.frames) k (ap (λ (n : ℕ). list_any (owns n) lane.frames) p.1 ∙ none_owned lane d r.owns e))
    kept c k (inr p) =
        ap (λ b. b && not (is_given c after)) (ap (λ (all : List (Option Context)). is_some (present (slice_get all c))) cs ∙ ap (λ x. is_some (present x)) (set_other lane.contexts d c o p.1))
        ∙ (ap (λ b. is_some (context_at c lane) && not b) (g c p.1) ∙ r.owns c k)

pub not_own : (x y : Bool) → y ≡ true → (x && not y) ≡ false
not_own true y e = ap not e
not_own false y e = refl

given_of : (c : ℕ) (lane : Lane) (kept : Kept) (b : Bool) → is_given c lane ≡ b → handed_of c lane ≡ Some kept → is_given c lane ≡ true
given_of c lane kept true e h = e
given_of c lane kept false e h =
    let none : None ≡ Some kept = sym (ap (λ (b : Bool). cond b (option_map (kept_of c lane) (context_at c lane)) None) e) ∙ h in
    let no : false ≡ true = ap (λ (o : Option Kept). is_some o) none in
    cc

-- ---- all lanes, where a context goes over

module _ (count tick : ℕ) (l : Letter) (ls : List Letter) (h : ℕ → ℕ) (all : List Lane) (a : AreLanes count h (l ∷ ls) all) (g : Goes count tick l ls h all) where
  abbrev going : Handing
  going = record { sender = l.sender; to = g.to; kept = g.kept }

  abbrev Gives : Lane → Type 0
  Gives lane = lane.number ≡ l.sender → handed_of g.context lane ≡ Some g.kept

  one_goes : (lane : Lane) → NumberedIn (Some (g.kept).context) → Fits count h (l ∷ ls) lane → Gives lane → Rests lane → Rests (handed tick going lane)
  one_goes lane n f giver r = by (lane.number == l.sender) refl ((let_go going lane).number == g.to) refl
    where
      by : (x : Bool) → (lane.number == l.sender) ≡ x → (y : Bool) → ((cond x (without_context (g.kept).number lane) lane).number == g.to) ≡ y
          → Rests (cond y (taken_over tick g.kept (cond x (without_context (g.kept).number lane) lane)) (cond x (without_context (g.kept).number lane) lane))
      by true e true q = absurd (g.other (sym (eqb-true lane.number g.to q) ∙ eqb-true lane.number l.sender e))
      by true e false q =
          let given : is_given g.context lane ≡ true = given_of g.context lane g.kept (is_given g.context lane) refl (giver (eqb-true lane.number l.sender e)) in
          let none : is_own (g.kept).number lane ≡ false = ap (λ (c : ℕ). is_own c lane) g.number ∙ not_own (is_some (context_at g.context lane)) (is_given g.context lane) given in
          rests_set lane (without_context (g.kept).number lane) (g.kept).number None r none tt refl refl (λ c d. ap (λ o. unwrap_or o false) (set_other lane.given (g.kept).number c false d))
      by false e true q =
          let out : is_some (context_at g.context lane) ≡ false = f.has g.context g.here ∙ (ap (λ (c : ℕ). lane.number == c) (sym g.holder) ∙ e) in
          let none : is_own (g.kept).number lane ≡ false = ap (λ (c : ℕ). is_own c lane) g.number ∙ ap (λ b. b && not (is_given g.context lane)) out in
          rests_set lane (taken_over tick g.kept lane) (g.kept).number (Some (g.kept).context) r none n refl refl (λ c d. refl)
      by false e false q = r

  rests_each : (lanes : List Lane) → NumberedIn (Some (g.kept).context) → AllByRecursion (Fits count h (l ∷ ls)) lanes → AllByRecursion Gives lanes → AllByRecursion Rests lanes → AllByRecursion Rests (map (handed tick going) lanes)
  rests_each [] n f i r = tt
  rests_each (lane ∷ lanes) n f i r = (one_goes lane n f.0 i.0 r.0, rests_each lanes n f.1 i.1 r.1)

  beyond_sender : (b : ℕ) (lanes : List Lane) → Counted b lanes → l.sender < b → AllByRecursion Gives lanes
  beyond_sender b [] c k = tt
  beyond_sender b (lane ∷ lanes) c k = ((λ e. absurd (omega (arith, e, c.0, k))), beyond_sender (b + 1) lanes c.1 (omega (arith, k)))

  gives_each : (b i : ℕ) (lanes : List Lane) → Counted b lanes → b + i ≡ l.sender → i < length lanes → ((d : Lane) → handed_of g.context (get_or lanes i d) ≡ Some g.kept) → AllByRecursion Gives lanes
  gives_each b i [] c e k f = tt
  gives_each b zero (lane ∷ lanes) c e k f = ((λ x. f lane), beyond_sender (b + 1) lanes c.1 (omega (arith, e)))
  gives_each b (suc i) (lane ∷ lanes) c e k f = ((λ x. absurd (omega (arith, x, c.0, e))), gives_each (b + 1) i lanes c.1 (omega (arith, e)) (omega (arith, k)) f)

  kept_numbered : (lanes : List Lane) → AllByRecursion Rests lanes → (i : ℕ) → i < length lanes → ((d : Lane) → handed_of g.context (get_or lanes i d) ≡ Some g.kept) → NumberedIn (Some (g.kept).context)
  kept_numbered [] r i k e = absurd (omega (arith, k))
  kept_numbered (lane ∷ lanes) r zero k e = subst NumberedIn ((whole g.context lane g.kept (e lane)).0) (((r.0).sits).numbered g.context)
  kept_numbered (lane ∷ lanes) r (suc i) k e = kept_numbered lanes r.1 i (omega (arith, k)) e

  pub rests_over : AllByRecursion Rests all → AllByRecursion Rests (map (handed tick going) all)
  rests_over r = rests_each all (kept_numbered all r l.sender g.below g.giver) a.each (gives_each 0 l.sender all a.counted (omega arith) g.below g.giver) r

-- ---- a run

rests_turned : (script : Plan) (tick : ℕ) (lane : Lane) → Rests lane → Rests (turned script tick lane)
rests_turned script tick lane r =
    kept_finished script tick (λ t. Rests t.lane) (λ t u e q. record { sits = sits_step script tick t u e q.sits; owns = owns_step script tick t u e q.owns })
    (begun tick lane) (record { sits = record { numbered = (r.sits).numbered; waits = (r.sits).waits }; owns = r.owns })

rests_turns : (script : Plan) (tick : ℕ) (lanes : List Lane) → AllByRecursion Rests lanes → AllByRecursion Rests (map (turned script tick) lanes)
rests_turns script tick [] r = tt
rests_turns script tick (lane ∷ lanes) r = (rests_turned script tick lane r.0, rests_turns script tick lanes r.1)

rests_delivered : (script : Plan) (tick : ℕ) (letters : List Letter) (lanes : List Lane) → AllByRecursion Rests lanes → AllByRecursion Rests (map (received_all script tick letters) lanes)
rests_delivered script tick letters [] r = tt
rests_delivered script tick letters (lane ∷ lanes) r =
    (record { sits = sits_received script tick letters lane (r.0).sits; owns = owns_received script tick letters lane (r.0).owns }, rests_delivered script tick letters lanes r.1)

rests_open : (script : Plan) (ns : List ℕ) → AllByRecursion Rests (map (opening script) ns)
rests_open script [] = tt
rests_open script (n ∷ ns) = (record { sits = record { numbered = numbered_all script n (sizes script).contexts; waits = tt }; owns = λ c k. let no : false ≡ true = k in cc }, rests_open script ns)

-- the lanes of a run once contexts went over
pub rests_went : (script : Plan) (tick : ℕ) → AllByRecursion Rests (lanes_at script tick) → AllByRecursion Rests (handed_over tick (posted_at script tick (lanes_at script tick)) (map (turned script tick) (lanes_at script tick)))
rests_went script tick r =
    let lanes : List Lane = lanes_at script tick in
    over_all (sizes script).contexts tick (AllByRecursion Rests) (λ l ls h all a g q. rests_over (sizes script).contexts tick l ls h all a g q) (posted_at script tick lanes) (λ c. holder_at script c tick) (map (turned script tick) lanes)
    (turns_fit script tick (λ c. holder_at script c tick) lanes (held_at_tick script tick)) (rests_turns script tick lanes r)

pub rests_run : (script : Plan) (tick : ℕ) → AllByRecursion Rests (lanes_at script tick)
rests_run script zero = rests_open script (range_with_len 0 (length script.lanes))
rests_run script (suc tick) =
    rests_delivered script tick (posted_at script tick (lanes_at script tick)) (handed_over tick (posted_at script tick (lanes_at script tick)) (map (turned script tick) (lanes_at script tick))) (rests_went script tick (rests_run script tick))

pub sits_run : (script : Plan) (tick : ℕ) → AllByRecursion Sits (lanes_at script tick)
sits_run script tick = each_as Rests Sits (λ lane r. r.sits) (lanes_at script tick) (rests_run script tick)

pub sits_within : (script : Plan) (tick steps : ℕ) (lane : Lane) → Sits lane → Sits (turn_within script tick steps lane).lane
sits_within script tick steps lane h = kept_finish script tick steps (λ t. Sits t.lane) (sits_step script tick) (begun tick lane) (record { numbered = h.numbered; waits = h.waits })

-- ---- a dispatch

free_next : (lane : Lane) (context : ℕ) (row : Row) → Sits lane → IsNext lane context row → IsFree lane.frames context row
free_next lane context row h n =
    let w = subst (AllWait lane.contexts) n.was h.waits in
    let free = next_free row.id n.ids (busy context n.below) (context_at context lane) row w.1 n.there in
    subst (λ (fs : List Frame). IsFree fs context row) (sym n.was) (each_recurs context n.below row.lineage free)

free_told : (lane after : Lane) (event : Event) → Sits lane → TellsNext lane after event → IsOfFree lane event
free_told lane after (events.Dispatch context id priority depth) h d = (d.row, ap (λ (i : ℕ). row_of context i lane) (sym d.same) ∙ (d.next).there, free_next lane context d.row h d.next)
free_told lane after _ h d = tt

free_step : (script : Plan) (tick : ℕ) (t u : Turn) → step script tick t ≡ Some u → Sits t.lane → Grows (λ line. IsOfFree t.lane line.event) t.lane.trace u.lane.trace
free_step script tick t u e h = grows_as (Told tick t.lane u.lane) (λ l. IsOfFree t.lane l.event) (λ l p. free_told t.lane u.lane l.event h p.3) t.lane.trace u.lane.trace (does script tick t u e).lines

pub blocked_wait : BlockedWait
blocked_wait script tick steps =
    each_as Sits (λ lane. (u : Turn) → step script tick (turn_within script tick steps lane) ≡ Some u → Grows (λ line. IsOfFree (turn_within script tick steps lane).lane line.event) (turn_within script tick steps lane).lane.trace u.lane.trace)
    (λ lane h u e. free_step script tick (turn_within script tick steps lane) u e (sits_within script tick steps lane h)) (lanes_at script tick) (sits_run script tick)
