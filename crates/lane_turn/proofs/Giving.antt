-- What a turn gives: the contexts that are given are those that its letters give, each once.
use Rattle.std.proofs.Common.{◌≡◌, ◌≢◌, ◌⊎◌, inl, inr, ℕ, ◌<◌, ◌==◌, ◌||◌, ◌&&◌, Bool, true, false, Option, Some, None, List, [], ◌∷◌, ◌++◌, length, slice_set, refl, ap, sym, ◌∙◌, subst, arith, ltb-true, eqb-true}
use Rattle.std.specs.Prelude.{not, unwrap_or, is_some, slice_get, slice_index_or, nat_lt}
use Rattle.std.specs.List.{AllByRecursion, list_any}
use Rattle.std.proofs.lemmas.Bool.{eq-eqb}
use Rattle.std.proofs.lemmas.Bool.Decides.{eqb_tells}
use Rattle.std.proofs.lemmas.List.{length-map, length-set}
use Rattle.loop_script.specs.declared.plan.Plan.{Plan}
use Rattle.post_office.specs.declared.letter.Letter.{Letter}
use Rattle.post_office.specs.declared.letter.Body.{Body as Mail}
use Rattle.post_office.specs.declared.letter.Body.TheVariants as mails
use Rattle.lane_turn.specs.Lane.{Lane, Turn, context_at, is_given, is_own, taken}
use Rattle.lane_turn.specs.Owned.{is_owned}
use Rattle.lane_turn.specs.Step.{letter, posted_with}
use Rattle.lane_turn.specs.Turn.{begun, finished}
use Rattle.lane_turn.specs.Handover.{may_give}
use Rattle.lane_turn.specs.Holding.{gives_context}
use Rattle.lane_turn.proofs.Lists.{each-push}
use Rattle.lane_turn.proofs.Leaves.{own_within}
use Rattle.lane_turn.proofs.Steady.{held_of, given_by, given_with}
use Rattle.lane_turn.proofs.Sends.{IsAllowedBody, IsAllowed, Sends, step_tells}
use Rattle.lane_turn.proofs.Turns.{kept_finished}
use Rattle.lane_turn.proofs.Arrivals.{own_held}
use Rattle.lane_turn.proofs.Whole.{set_here, set_other}

-- ---- letters that give a context

abbrev pub gives_one : ℕ → Letter → Bool
gives_one c l = gives_context c l.body

-- no context is given twice
abbrev pub AreOnce : List Letter → Type 0
AreOnce [] = Unit {0}
AreOnce (l ∷ ls) = ((c : ℕ) → gives_one c l ≡ true → list_any (gives_one c) ls ≡ false) × AreOnce ls

-- a lane of a script may give a context of so many to a lane
abbrev pub CanGive : (count lanes sender : ℕ) → Mail → Type 0
CanGive count lanes sender (mails.Attach context spec) = Unit {0}
CanGive count lanes sender (mails.Complete reply) = Unit {0}
CanGive count lanes sender (mails.Cancelled c) = Unit {0}
CanGive count lanes sender (mails.Give context to) = (context < count) × ((to < lanes) × (to ≢ sender))

pub any_push : (p : Letter → Bool) (ls : List Letter) (l : Letter) → list_any p (ls ++ l ∷ []) ≡ (list_any p ls || p l)
any_push p [] l = none (p l)
  where
    none : (b : Bool) → (b || false) ≡ (false || b)
    none true = refl
    none false = refl
any_push p (x ∷ ls) l = ap (λ b. p x || b) (any_push p ls l) ∙ grouped (p x) (list_any p ls) (p l)
  where
    grouped : (x y z : Bool) → (x || (y || z)) ≡ ((x || y) || z)
    grouped true y z = refl
    grouped false y z = refl

pub or_false : (x y : Bool) → x ≡ false → y ≡ false → (x || y) ≡ false
or_false x y e f = ap (λ b. b || y) e ∙ f

pub or_left : (x y : Bool) → (x || y) ≡ false → x ≡ false
or_left true y e = let no : true ≡ false = e in cc
or_left false y e = refl

pub or_right : (x y : Bool) → (x || y) ≡ false → y ≡ false
or_right true y e = let no : true ≡ false = e in cc
or_right false y e = e

once_push : (ls : List Letter) (l : Letter) → AreOnce ls → ((c : ℕ) → gives_one c l ≡ true → list_any (gives_one c) ls ≡ false) → AreOnce (ls ++ l ∷ [])
once_push [] l o f = ((λ c h. refl), tt)
once_push (x ∷ ls) l o f = (
  (λ c h. any_push (gives_one c) ls l ∙ or_false (list_any (gives_one c) ls) (gives_one c l) (o.0 c h) (by c h (gives_one c l) refl)),
  once_push ls l o.1 (λ c h. or_right (gives_one c x) (list_any (gives_one c) ls) (f c h)),
)
  where
    by : (c : ℕ) → gives_one c x ≡ true → (b : Bool) → gives_one c l ≡ b → b ≡ false
    by c h true e = let no : true ≡ false = sym h ∙ or_left (gives_one c x) (list_any (gives_one c) ls) (f c e) in cc
    by c h false e = refl

-- ---- a turn

pub record Gave (script : Plan) (count : ℕ) (t : Turn) : Type 0 where
  pub size : length t.lane.given ≡ count
  pub contexts : length t.lane.contexts ≡ count
  -- a context is given where a letter gives it
  pub flags : (c : ℕ) → is_given c t.lane ≡ list_any (gives_one c) t.posted
  pub once : AreOnce t.posted
  pub can : AllByRecursion (λ l. CanGive count (length script.lanes) t.lane.number l.body) t.posted
  -- it is there still
  pub there : (c : ℕ) → is_given c t.lane ≡ true → is_some (context_at c t.lane) ≡ true

-- what a letter's body gives, behind those before it
record Adds (script : Plan) (count : ℕ) (t : Turn) (body : Mail) (given : List Bool) : Type 0 where
  size : length given ≡ count
  flags : (c : ℕ) → unwrap_or (slice_get given c) false ≡ (list_any (gives_one c) t.posted || gives_context c body)
  new : (c : ℕ) → gives_context c body ≡ true → list_any (gives_one c) t.posted ≡ false
  can : CanGive count (length script.lanes) t.lane.number body
  there : (c : ℕ) → unwrap_or (slice_get given c) false ≡ true → is_some (context_at c t.lane) ≡ true

nothing_more : (b : Bool) → (b || false) ≡ b
nothing_more true = refl
nothing_more false = refl

adds_none : (script : Plan) (count : ℕ) (t : Turn) (body : Mail) → Gave script count t → ((c : ℕ) → gives_context c body ≡ false) → CanGive count (length script.lanes) t.lane.number body → Adds script count t body t.lane.given
adds_none script count t body g none can = record {
  size = g.size;
  flags = λ c. g.flags c ∙ (sym (nothing_more (list_any (gives_one c) t.posted)) ∙ ap (λ b. list_any (gives_one c) t.posted || b) (sym (none c)));
  new = λ c h. let no : true ≡ false = sym h ∙ none c in cc;
  can = can;
  there = g.there;
}

-- what is allowed, part by part
parts_of : (o n a b : Bool) → (o && (n && (a && b))) ≡ true → (o ≡ true) × ((a ≡ true) × (b ≡ true))
parts_of true true true true e = (refl, (refl, refl))
parts_of true true true false e = let no : false ≡ true = e in cc
parts_of true true false b e = let no : false ≡ true = e in cc
parts_of true false a b e = let no : false ≡ true = e in cc
parts_of false n a b e = let no : false ≡ true = e in cc

both_of : (x y : Bool) → (x && not y) ≡ true → (x ≡ true) × (y ≡ false)
both_of true true e = let no : false ≡ true = e in cc
both_of true false e = (refl, refl)
both_of false y e = let no : false ≡ true = e in cc

not_same : (to number : ℕ) → not (to == number) ≡ true → to ≢ number
not_same to number e p = let no : false ≡ true = sym (ap not (eq-eqb to number p)) ∙ e in cc

adds_give : (script : Plan) (count : ℕ) (t : Turn) (d to : ℕ) → Gave script count t → may_give script d to (taken t.lane) ≡ true → Adds script count t (mails.Give d to) (slice_set t.lane.given d true)
adds_give script count t d to g a =
    let p = parts_of (is_own d t.lane) (not (is_owned d (taken t.lane))) (nat_lt to (length script.lanes)) (not (to == t.lane.number)) a in
    let own = both_of (is_some (context_at d t.lane)) (is_given d t.lane) p.0 in
    let within : d < length t.lane.contexts = own_within t.lane.contexts d own.0 in
    let place : d < length t.lane.given = omega (arith, within, g.size, g.contexts) in
    record {
      size = simp length-set g.size;
      flags = λ c. flag d to c place own.1 (eqb_tells d c);
      new = λ c h. sym (g.flags c) ∙ (ap (λ (n : ℕ). is_given n t.lane) (sym (eqb-true d c h)) ∙ own.1);
      can = (omega (arith, within, g.contexts), (ltb-true to (length script.lanes) (p.1).0, not_same to t.lane.number (p.1).1));
      there = λ c h. there_by d c own.0 h (eqb_tells d c);
    }
  where
    flag : (d to c : ℕ) → d < length t.lane.given → is_given d t.lane ≡ false → ((d == c) ≡ true × d ≡ c) ⊎ ((d == c) ≡ false × d ≢ c)
        → unwrap_or (slice_get (slice_set t.lane.given d true) c) false ≡ (list_any (gives_one c) t.posted || (d == c))
    flag d to c h e (inl q) =
        ap (λ (n : ℕ). unwrap_or (slice_get (slice_set t.lane.given d true) n) false) (sym q.1)
        ∙ (ap (λ o. unwrap_or o false) (set_here t.lane.given d true h)
        ∙ (sym (ap (λ b. b || true) (sym (g.flags c) ∙ (ap (λ (n : ℕ). is_given n t.lane) (sym q.1) ∙ e))) ∙ ap (λ b. list_any (gives_one c) t.posted || b) (sym q.0)))
    flag d to c h e (inr q) =
        ap (λ o. unwrap_or o false) (set_other t.lane.given d c true (λ r. q.1 (sym r)))
        ∙ (g.flags c ∙ (sym (nothing_more (list_any (gives_one c) t.posted)) ∙ ap (λ b. list_any (gives_one c) t.posted || b) (sym q.0)))

    there_by : (d c : ℕ) → is_some (context_at d t.lane) ≡ true → unwrap_or (slice_get (slice_set t.lane.given d true) c) false ≡ true → ((d == c) ≡ true × d ≡ c) ⊎ ((d == c) ≡ false × d ≢ c) → is_some (context_at c t.lane) ≡ true
    there_by d c h k (inl q) = ap (λ (n : ℕ). is_some (context_at n t.lane)) (sym q.1) ∙ h
    there_by d c h k (inr q) = g.there c (sym (ap (λ o. unwrap_or o false) (set_other t.lane.given d c true (λ r. q.1 (sym r)))) ∙ k)

adds : (script : Plan) (count : ℕ) (t : Turn) (body : Mail) → Gave script count t → IsAllowedBody script (taken t.lane) body → Adds script count t body (given_by body t.lane.given)
adds script count t (mails.Attach context spec) g a = adds_none script count t (mails.Attach context spec) g (λ c. refl) tt
adds script count t (mails.Complete reply) g a = adds_none script count t (mails.Complete reply) g (λ c. refl) tt
adds script count t (mails.Cancelled k) g a = adds_none script count t (mails.Cancelled k) g (λ c. refl) tt
adds script count t (mails.Give d to) g a = adds_give script count t d to g a

-- the contexts are there as they were
still_there : (t u : Turn) → held_of u.lane.contexts ≡ held_of t.lane.contexts → (c : ℕ) → is_some (context_at c u.lane) ≡ is_some (context_at c t.lane)
still_there t u h c = own_held u.lane.contexts c ∙ (ap (λ bs. slice_index_or bs c false) h ∙ sym (own_held t.lane.contexts c))

same_size : (t u : Turn) → held_of u.lane.contexts ≡ held_of t.lane.contexts → length u.lane.contexts ≡ length t.lane.contexts
same_size t u h =
    let one : length (held_of u.lane.contexts) ≡ length u.lane.contexts = simp length-map in
    let other : length (held_of t.lane.contexts) ≡ length t.lane.contexts = simp length-map in
    sym one ∙ (ap (λ (bs : List Bool). length bs) h ∙ other)

pub gave_on : (script : Plan) (count tick : ℕ) (t u : Turn) → Sends script tick t u → Gave script count t → Gave script count u
gave_on script count tick t u s g = by s.mail s.posted s.given s.allowed
  where
    kept : u.posted ≡ t.posted → u.lane.given ≡ t.lane.given → Gave script count u
    kept p f = record {
      size = ap (λ (bs : List Bool). length bs) f ∙ g.size;
      contexts = same_size t u s.holds ∙ g.contexts;
      flags = λ c. ap (λ (bs : List Bool). unwrap_or (slice_get bs c) false) f ∙ (g.flags c ∙ ap (list_any (gives_one c)) (sym p));
      once = subst AreOnce (sym p) g.once;
      can = subst (λ (n : ℕ). AllByRecursion (λ l. CanGive count (length script.lanes) n l.body) u.posted) (sym s.number) (subst (λ (ls : List Letter). AllByRecursion (λ l. CanGive count (length script.lanes) t.lane.number l.body) ls) (sym p) g.can);
      there = λ c h. still_there t u s.holds c ∙ g.there c (sym (ap (λ (bs : List Bool). unwrap_or (slice_get bs c) false) f) ∙ h);
    }

    more : (body : Mail) → u.posted ≡ t.posted ++ letter tick t.lane.number t.sent body ∷ [] → u.lane.given ≡ given_by body t.lane.given → Adds script count t body (given_by body t.lane.given) → Gave script count u
    more body p f a =
        let l : Letter = letter tick t.lane.number t.sent body in
        record {
          size = ap (λ (bs : List Bool). length bs) f ∙ a.size;
          contexts = same_size t u s.holds ∙ g.contexts;
          flags = λ c. ap (λ (bs : List Bool). unwrap_or (slice_get bs c) false) f ∙ (a.flags c ∙ (sym (any_push (gives_one c) t.posted l) ∙ ap (list_any (gives_one c)) (sym p)));
          once = subst AreOnce (sym p) (once_push t.posted l g.once a.new);
          can = subst (λ (n : ℕ). AllByRecursion (λ l. CanGive count (length script.lanes) n l.body) u.posted) (sym s.number)
              (subst (λ (ls : List Letter). AllByRecursion (λ l. CanGive count (length script.lanes) t.lane.number l.body) ls) (sym p) (each-push (λ (l : Letter). CanGive count (length script.lanes) t.lane.number l.body) t.posted l g.can a.can));
          there = λ c h. still_there t u s.holds c ∙ a.there c (sym (ap (λ (bs : List Bool). unwrap_or (slice_get bs c) false) f) ∙ h);
        }

    by : (mail : Option Mail) → u.posted ≡ posted_with tick t.lane.number t.sent t.posted mail → u.lane.given ≡ given_with mail t.lane.given → IsAllowed script (taken t.lane) mail → Gave script count u
    by None p f a = kept p f
    by (Some body) p f a = more body p f (adds script count t body g a)

-- a lane's turn, where nothing is given at first
pub turn_gave : (script : Plan) (tick count : ℕ) (lane : Lane) → length lane.given ≡ count → length lane.contexts ≡ count → ((c : ℕ) → is_given c lane ≡ false) → Gave script count (finished script tick (begun tick lane))
turn_gave script tick count lane size contexts none =
    kept_finished script tick (Gave script count) (λ t u e g. gave_on script count tick t u (step_tells script tick t u e) g) (begun tick lane)
    (record { size = size; contexts = contexts; flags = none; once = tt; can = tt; there = λ c h. let no : false ≡ true = sym (none c) ∙ h in cc })
