-- At each tick of a run each context is one lane's.
use Rattle.std.proofs.Common.{◌≡◌, ◌≢◌, ◌⊎◌, inl, inr, ℕ, zero, suc, ◌+◌, ◌<◌, ◌≤◌, ◌==◌, ◌||◌, ◌&&◌, Bool, true, false, cond, is_some, List, [], ◌∷◌, ◌++◌, map, length, get_or, refl, ap, sym, ◌∙◌, subst, arith, eqb-true, length-append}
use Rattle.std.specs.Prelude.{not, slice_get, slice_index_or, unwrap_or}
use Rattle.std.specs.List.{AllByRecursion, list_any, range_with_len}
use Rattle.std.proofs.lemmas.Bool.{eq-eqb, ne_eqb}
use Rattle.std.proofs.lemmas.Bool.Decides.{eqb_tells}
use Rattle.std.proofs.lemmas.List.{length-set, length-map}
use Rattle.std.proofs.lemmas.List.FromFn.{length-range_with_len}
use Rattle.loop_script.specs.declared.plan.Plan.{Plan}
use Rattle.loop_script.specs.Parts.{home_of}
use Rattle.loop_script.specs.References.{sizes}
use Rattle.post_office.specs.declared.letter.Letter.{Letter}
use Rattle.post_office.specs.declared.letter.Body.{Body as Mail}
use Rattle.post_office.specs.declared.letter.Body.TheVariants as mails
use Rattle.lane_turn.specs.Lane.{Lane, context_at, is_given, is_own}
use Rattle.lane_turn.specs.Turn.{opening, open_loops, begun, finished, turned, out_of}
use Rattle.lane_turn.specs.Deliver.{received_all}
use Rattle.lane_turn.specs.Tick.{posted_at, lanes_at}
use Rattle.lane_turn.specs.Letters.{AreNumbered}
use Rattle.lane_turn.specs.Handover.{Handing, all_handed, handings, handed_over}
use Rattle.lane_turn.specs.Holding.{gives_context, given_by, given_to, holder_at}
use Rattle.lane_turn.proofs.Steady.{held_of}
use Rattle.lane_turn.proofs.Turns.{out_numbered, turned_number}
use Rattle.lane_turn.proofs.Delivered.{received_number}
use Rattle.lane_turn.proofs.Arrivals.{own_held, held_turned, held_received, given_received, length_held, open_at}
use Rattle.lane_turn.proofs.GoingOver.{handed_part}
use Rattle.lane_turn.proofs.Places.{Counted, counted_step, number_at, each_at}
use Rattle.lane_turn.proofs.Giving.{gives_one, AreOnce, CanGive, Gave, turn_gave, or_false}
use Rattle.lane_turn.proofs.Between.{gives_from, IsFair, AreFair, Fits, AreLanes, over_lanes}
use Rattle.lane_turn.proofs.Homes.{none_open, home_within}

eqb_sym : (a b : ℕ) → (a == b) ≡ (b == a)
eqb_sym a b = by (eqb_tells a b)
  where
    by : ((a == b) ≡ true × a ≡ b) ⊎ ((a == b) ≡ false × a ≢ b) → (a == b) ≡ (b == a)
    by (inl p) = p.0 ∙ sym (eq-eqb b a (sym p.1))
    by (inr p) = p.0 ∙ sym (ne_eqb b a (λ r. p.1 (sym r)))

-- ---- letters of several lanes

any_append : (p : Letter → Bool) (xs ys : List Letter) → list_any p (xs ++ ys) ≡ (list_any p xs || list_any p ys)
any_append p [] ys = refl
any_append p (x ∷ xs) ys = ap (λ b. p x || b) (any_append p xs ys) ∙ grouped (p x) (list_any p xs) (list_any p ys)
  where
    grouped : (x y z : Bool) → (x || (y || z)) ≡ ((x || y) || z)
    grouped true y z = refl
    grouped false y z = refl

own_letters : (tick n c j : ℕ) (ls : List Letter) → AreNumbered tick n j ls → list_any (gives_from n c) ls ≡ list_any (gives_one c) ls
own_letters tick n c j [] h = refl
own_letters tick n c j (l ∷ ls) h =
    ap (λ b. (b && gives_one c l) || list_any (gives_from n c) ls) (eq-eqb l.sender n (h.1).0) ∙ ap (λ b. gives_one c l || b) (own_letters tick n c (j + 1) ls ((h.1).1).1)

other_letters : (tick m n c j : ℕ) (ls : List Letter) → AreNumbered tick m j ls → m ≢ n → list_any (gives_from n c) ls ≡ false
other_letters tick m n c j [] h e = refl
other_letters tick m n c j (l ∷ ls) h e =
    ap (λ b. (b && gives_one c l) || list_any (gives_from n c) ls) (ne_eqb l.sender n (λ r. e (sym (h.1).0 ∙ r))) ∙ other_letters tick m n c (j + 1) ls ((h.1).1).1 e

-- of all letters those of one lane
letters_of : (script : Plan) (tick c a i : ℕ) (lanes : List Lane) (d : Lane) → Counted a lanes → i < length lanes → list_any (gives_from (a + i) c) (posted_at script tick lanes) ≡ list_any (gives_one c) (out_of script tick (get_or lanes i d))
letters_of script tick c a i [] d h l = absurd (omega (arith, l))
letters_of script tick c a zero (lane ∷ lanes) d h l =
    any_append (gives_from (a + 0) c) (out_of script tick lane) (posted_at script tick lanes)
    ∙ (ap (λ b. b || list_any (gives_from (a + 0) c) (posted_at script tick lanes))
    (ap (λ (n : ℕ). list_any (gives_from n c) (out_of script tick lane)) (let e : a + 0 ≡ lane.number = omega (arith, h.0) in e) ∙ own_letters tick lane.number c 0 (out_of script tick lane) (out_numbered script tick lane))
    ∙ right_none (list_any (gives_one c) (out_of script tick lane)) (list_any (gives_from (a + 0) c) (posted_at script tick lanes)) (behind (a + 0) (a + 1) lanes h.1 (omega arith)))
  where
    right_none : (x y : Bool) → y ≡ false → (x || y) ≡ x
    right_none true y e = refl
    right_none false y e = e

    behind : (n b : ℕ) (ls : List Lane) → Counted b ls → n < b → list_any (gives_from n c) (posted_at script tick ls) ≡ false
    behind n b [] h e = refl
    behind n b (lane ∷ ls) h e =
        any_append (gives_from n c) (out_of script tick lane) (posted_at script tick ls)
        ∙ or_false (list_any (gives_from n c) (out_of script tick lane)) (list_any (gives_from n c) (posted_at script tick ls))
        (other_letters tick lane.number n c 0 (out_of script tick lane) (out_numbered script tick lane) (λ r. absurd (omega (arith, r, h.0, e)))) (behind n (b + 1) ls h.1 (omega (arith, e)))
letters_of script tick c a (suc i) (lane ∷ lanes) d h l =
    any_append (gives_from (a + suc i) c) (out_of script tick lane) (posted_at script tick lanes)
    ∙ (ap (λ b. b || list_any (gives_from (a + suc i) c) (posted_at script tick lanes)) (other_letters tick lane.number (a + suc i) c 0 (out_of script tick lane) (out_numbered script tick lane) (λ r. absurd (omega (arith, r, h.0))))
    ∙ (ap (λ (n : ℕ). list_any (gives_from n c) (posted_at script tick lanes)) (let e : a + suc i ≡ (a + 1) + i = omega arith in e) ∙ letters_of script tick c (a + 1) i lanes d h.1 (omega (arith, l))))

-- ---- a tick

-- a lane at a tick's beginning
pub record Stands (script : Plan) (h : ℕ → ℕ) (lane : Lane) : Type 0 where
  pub fits : Fits (sizes script).contexts h [] lane
  pub size : length lane.given ≡ (sizes script).contexts

-- what its turn gave
record HasGiven (script : Plan) (tick : ℕ) (h : ℕ → ℕ) (lane : Lane) : Type 0 where
  gave : Gave script (sizes script).contexts (finished script tick (begun tick lane))
  holds : (c : ℕ) → c < (sizes script).contexts → is_some (context_at c (turned script tick lane)) ≡ (lane.number == h c)

has_given : (script : Plan) (tick : ℕ) (h : ℕ → ℕ) (lane : Lane) → Stands script h lane → HasGiven script tick h lane
has_given script tick h lane s = record {
  gave = turn_gave script tick (sizes script).contexts lane s.size (s.fits).size (s.fits).flags;
  holds = λ c k. own_held (turned script tick lane).contexts c ∙ (ap (λ bs. slice_index_or bs c false) (held_turned script tick lane) ∙ (sym (own_held lane.contexts c) ∙ (s.fits).has c k));
}

-- what is given is one of so many
can_of : (count lanes sender c : ℕ) (ls : List Letter) → AllByRecursion (λ l. CanGive count lanes sender l.body) ls → list_any (gives_one c) ls ≡ true → c < count
can_of count lanes sender c [] a q = let no : false ≡ true = q in cc
can_of count lanes sender c (l ∷ ls) a q = by (can_of count lanes sender c ls a.1) l.body a.0 (gives_one c l) refl q
  where
    by : (list_any (gives_one c) ls ≡ true → c < count) → (body : Mail) → CanGive count lanes sender body → (b : Bool) → gives_context c body ≡ b → (b || list_any (gives_one c) ls) ≡ true → c < count
    by rest (mails.Give d to) p true r f = omega (arith, p.0, eqb-true d c r)
    by rest (mails.Give d to) p false r f = rest f
    by rest (mails.Attach context spec) p true r f = let no : false ≡ true = r in cc
    by rest (mails.Attach context spec) p false r f = rest f
    by rest (mails.Complete reply) p true r f = let no : false ≡ true = r in cc
    by rest (mails.Complete reply) p false r f = rest f
    by rest (mails.Cancelled x) p true r f = let no : false ≡ true = r in cc
    by rest (mails.Cancelled x) p false r f = rest f

-- a context that a lane gives is its own
gives_own : (script : Plan) (tick : ℕ) (h : ℕ → ℕ) (lane : Lane) (c : ℕ) → HasGiven script tick h lane → list_any (gives_one c) (out_of script tick lane) ≡ true → lane.number ≡ h c
gives_own script tick h lane c g e =
    let k : c < (sizes script).contexts = can_of (sizes script).contexts (length script.lanes) (turned script tick lane).number c (out_of script tick lane) (g.gave).can e in
    eqb-true lane.number (h c) (sym (g.holds c k) ∙ (g.gave).there c ((g.gave).flags c ∙ e))

-- ---- the letters of all lanes are fair

-- those of one lane, before others that give none of its contexts
fair_lane : (count lanes n tick j : ℕ) (h : ℕ → ℕ) (xs ys : List Letter) → n < lanes → AreNumbered tick n j xs → AllByRecursion (λ l. CanGive count lanes n l.body) xs → AreOnce xs
    → ((c : ℕ) → list_any (gives_one c) xs ≡ true → (n ≡ h c) × (list_any (gives_one c) ys ≡ false)) → AreFair count lanes h ys → AreFair count lanes h (xs ++ ys)
fair_lane count lanes n tick j h [] ys below numbered can once own fair = fair
fair_lane count lanes n tick j h (x ∷ xs) ys below numbered can once own fair =
    (one x.body can.0 (once.0) (λ c e. own c (ap (λ b. b || list_any (gives_one c) xs) e)), fair_lane count lanes n tick (j + 1) h xs ys below ((numbered.1).1).1 can.1 once.1 (λ c e. own c (ap (λ b. gives_one c x || b) e ∙ right_true (gives_one c x))) fair)
  where
    right_true : (b : Bool) → (b || true) ≡ true
    right_true true = refl
    right_true false = refl

    one : (body : Mail) → CanGive count lanes n body → ((c : ℕ) → gives_context c body ≡ true → list_any (gives_one c) xs ≡ false) → ((c : ℕ) → gives_context c body ≡ true → (n ≡ h c) × (list_any (gives_one c) ys ≡ false))
        → IsFair count lanes h x.sender body (xs ++ ys)
    one (mails.Attach context spec) p o f = tt
    one (mails.Complete reply) p o f = tt
    one (mails.Cancelled c) p o f = tt
    one (mails.Give c to) p o f =
        let is_n : x.sender ≡ n = (numbered.1).0 in
        let it : (c == c) ≡ true = eq-eqb c c refl in
        (p.0, ((p.1).0, ((λ e. (p.1).1 (e ∙ is_n)), (is_n ∙ (f c it).0, (omega (arith, is_n, below), any_append (gives_one c) xs ys ∙ or_false (list_any (gives_one c) xs) (list_any (gives_one c) ys) (o c it) (f c it).1)))))

-- a context of a lane before them no later lane gives
later_none : (script : Plan) (tick b c : ℕ) (h : ℕ → ℕ) (lanes : List Lane) → Counted b lanes → AllByRecursion (HasGiven script tick h) lanes → h c < b → list_any (gives_one c) (posted_at script tick lanes) ≡ false
later_none script tick b c h [] k g e = refl
later_none script tick b c h (lane ∷ lanes) k g e =
    any_append (gives_one c) (out_of script tick lane) (posted_at script tick lanes)
    ∙ or_false (list_any (gives_one c) (out_of script tick lane)) (list_any (gives_one c) (posted_at script tick lanes)) (by (list_any (gives_one c) (out_of script tick lane)) refl) (later_none script tick (b + 1) c h lanes k.1 g.1 (omega (arith, e)))
  where
    by : (x : Bool) → list_any (gives_one c) (out_of script tick lane) ≡ x → list_any (gives_one c) (out_of script tick lane) ≡ false
    by true q = absurd (omega (arith, e, k.0, gives_own script tick h lane c g.0 q))
    by false q = q

fair_lanes : (script : Plan) (tick a : ℕ) (h : ℕ → ℕ) (lanes : List Lane) → Counted a lanes → AllByRecursion (HasGiven script tick h) lanes → a + length lanes ≤ length script.lanes → AreFair (sizes script).contexts (length script.lanes) h (posted_at script tick lanes)
fair_lanes script tick a h [] k g l = tt
fair_lanes script tick a h (lane ∷ lanes) k g l =
    let count : ℕ = (sizes script).contexts in
    let same : (turned script tick lane).number ≡ lane.number = turned_number script tick lane in
    fair_lane count (length script.lanes) lane.number tick 0 h (out_of script tick lane) (posted_at script tick lanes) (omega (arith, k.0, l)) (out_numbered script tick lane)
    (subst (λ (n : ℕ). AllByRecursion (λ l. CanGive count (length script.lanes) n l.body) (out_of script tick lane)) same ((g.0).gave).can) ((g.0).gave).once
    (λ c e. let own = gives_own script tick h lane c g.0 e in (own, later_none script tick (a + 1) c h lanes k.1 g.1 (omega (arith, sym own, k.0))))
    (fair_lanes script tick (a + 1) h lanes k.1 g.1 (omega (arith, l)))

-- ---- all lanes, tick by tick

pub all_from : (P : Lane → Type 0) (lanes : List Lane) → ((d : Lane) (i : ℕ) → i < length lanes → P (get_or lanes i d)) → AllByRecursion P lanes
all_from P [] f = tt
all_from P (lane ∷ lanes) f = (f lane 0 (omega arith), all_from P lanes (λ d i l. f d (suc i) (omega (arith, l))))

-- lanes of a script at a tick's beginning, whose contexts are by h
pub record AreHeld (script : Plan) (h : ℕ → ℕ) (lanes : List Lane) : Type 0 where
  pub count : length lanes ≡ length script.lanes
  pub counted : Counted 0 lanes
  pub each : AllByRecursion (Stands script h) lanes

pub mapped : (P Q : Lane → Type 0) (f : Lane → Lane) → ((lane : Lane) → P lane → Q (f lane)) → (lanes : List Lane) → AllByRecursion P lanes → AllByRecursion Q (map f lanes)
mapped P Q f g [] a = tt
mapped P Q f g (lane ∷ lanes) a = (g lane a.0, mapped P Q f g lanes a.1)

each_is : (P Q : Lane → Type 0) → ((lane : Lane) → P lane → Q lane) → (lanes : List Lane) → AllByRecursion P lanes → AllByRecursion Q lanes
each_is P Q g [] a = tt
each_is P Q g (lane ∷ lanes) a = (g lane a.0, each_is P Q g lanes a.1)

-- after their turns
pub turns_fit : (script : Plan) (tick : ℕ) (h : ℕ → ℕ) (lanes : List Lane) → AreHeld script h lanes → AreLanes (sizes script).contexts h (posted_at script tick lanes) (map (turned script tick) lanes)
turns_fit script tick h lanes a =
    let given : AllByRecursion (HasGiven script tick h) lanes = each_is (Stands script h) (HasGiven script tick h) (has_given script tick h) lanes a.each in
    let same : length (map (turned script tick) lanes) ≡ length lanes = simp length-map in
    record {
      counted = counted_step (turned script tick) (turned_number script tick) 0 lanes a.counted;
      each = mapped (λ lane. Fits (sizes script).contexts h (posted_at script tick lanes) (turned script tick lane)) (Fits (sizes script).contexts h (posted_at script tick lanes)) (turned script tick) (λ lane f. f) lanes
          (all_from (λ lane. Fits (sizes script).contexts h (posted_at script tick lanes) (turned script tick lane)) lanes (λ d i l. fits d i l (each_at (HasGiven script tick h) i lanes d given l)));
      fair = subst (λ (n : ℕ). AreFair (sizes script).contexts n h (posted_at script tick lanes)) (sym (same ∙ a.count)) (fair_lanes script tick 0 h lanes a.counted given (omega (arith, a.count)));
    }
  where
    fits : (d : Lane) (i : ℕ) → i < length lanes → HasGiven script tick h (get_or lanes i d) → Fits (sizes script).contexts h (posted_at script tick lanes) (turned script tick (get_or lanes i d))
    fits d i l g =
        let lane : Lane = get_or lanes i d in
        let number : (turned script tick lane).number ≡ lane.number = turned_number script tick lane in
        let place : lane.number ≡ 0 + i = number_at 0 i lanes d a.counted l in
        record {
          size = (g.gave).contexts;
          has = λ c k. g.holds c k ∙ ap (λ (n : ℕ). n == h c) (sym number);
          flags = λ c. (g.gave).flags c ∙ (sym (letters_of script tick c 0 i lanes d a.counted l) ∙ ap (λ (n : ℕ). list_any (gives_from n c) (posted_at script tick lanes)) (sym (number ∙ place)));
        }

-- a delivery leaves whose contexts are
pub received_stands : (script : Plan) (tick : ℕ) (h : ℕ → ℕ) (letters : List Letter) (lane : Lane) → Stands script h lane → Stands script h (received_all script tick letters lane)
received_stands script tick h letters lane s =
    let after : Lane = received_all script tick letters lane in
    let number : after.number ≡ lane.number = received_number script tick letters lane in
    let given : after.given ≡ lane.given = given_received script tick letters lane in
    let held : held_of after.contexts ≡ held_of lane.contexts = held_received script tick letters lane in
    let one : length (held_of after.contexts) ≡ length after.contexts = simp length-map in
    let other : length (held_of lane.contexts) ≡ length lane.contexts = simp length-map in
    record {
      fits = record {
        size = sym one ∙ (ap (λ (bs : List Bool). length bs) held ∙ (other ∙ (s.fits).size));
        has = λ c k. own_held after.contexts c ∙ (ap (λ bs. slice_index_or bs c false) held ∙ (sym (own_held lane.contexts c) ∙ ((s.fits).has c k ∙ ap (λ (n : ℕ). n == h c) (sym number))));
        flags = λ c. ap (λ (bs : List Bool). unwrap_or (slice_get bs c) false) given ∙ (s.fits).flags c;
      };
      size = ap (λ (bs : List Bool). length bs) given ∙ s.size;
    }

zip_each : (tick : ℕ) (hs : List Handing) (script : Plan) (h : ℕ → ℕ) (ls : List Lane) → AllByRecursion (Fits (sizes script).contexts h []) (map (all_handed tick hs) ls) → AllByRecursion (λ lane. length lane.given ≡ (sizes script).contexts) ls
    → AllByRecursion (Stands script h) (map (all_handed tick hs) ls)
zip_each tick hs script h [] f s = tt
zip_each tick hs script h (lane ∷ ls) f s =
    (record { fits = f.0; size = handed_part (λ (l : Lane). length l.given) tick (λ kept l. refl) (λ c l. simp length-set) hs lane ∙ s.0 }, zip_each tick hs script h ls f.1 s.1)

-- what goes over leaves them in the hands that letters name
pub over_stands : (script : Plan) (tick : ℕ) (h : ℕ → ℕ) (lanes : List Lane) → AreHeld script h lanes
    → AllByRecursion (Stands script (λ c. given_to c (posted_at script tick lanes) (h c))) (handed_over tick (posted_at script tick lanes) (map (turned script tick) lanes))
over_stands script tick h lanes a =
    both (map (turned script tick) lanes) (over_lanes (sizes script).contexts tick (posted_at script tick lanes) h (map (turned script tick) lanes) (turns_fit script tick h lanes a))
    (turned_sizes lanes (each_is (Stands script h) (HasGiven script tick h) (has_given script tick h) lanes a.each))
  where
    hs : List Handing
    hs = handings tick (posted_at script tick lanes) (map (turned script tick) lanes)

    turned_sizes : (ls : List Lane) → AllByRecursion (HasGiven script tick h) ls → AllByRecursion (λ lane. length lane.given ≡ (sizes script).contexts) (map (turned script tick) ls)
    turned_sizes ls g = mapped (HasGiven script tick h) (λ lane. length lane.given ≡ (sizes script).contexts) (turned script tick) (λ lane x. (x.gave).size) ls g

    both : (ls : List Lane) → AllByRecursion (Fits (sizes script).contexts (λ c. given_to c (posted_at script tick lanes) (h c)) []) (map (all_handed tick hs) ls) → AllByRecursion (λ lane. length lane.given ≡ (sizes script).contexts) ls
        → AllByRecursion (Stands script (λ c. given_to c (posted_at script tick lanes) (h c))) (map (all_handed tick hs) ls)
    both ls f s = zip_each tick hs script (λ c. given_to c (posted_at script tick lanes) (h c)) ls f s

pub counted_over : (tick : ℕ) (letters : List Letter) (lanes : List Lane) → Counted 0 lanes → Counted 0 (handed_over tick letters lanes)
counted_over tick letters lanes c = counted_step (all_handed tick (handings tick letters lanes)) (λ lane. handed_part (λ (l : Lane). l.number) tick (λ kept l. refl) (λ c l. refl) (handings tick letters lanes) lane) 0 lanes c

-- ---- a run

pub counted_openings : (script : Plan) (a n : ℕ) → Counted a (map (opening script) (range_with_len a n))
counted_openings script a zero = tt
counted_openings script a (suc n) = (refl, counted_openings script (a + 1) n)

open_size : (m : ℕ) → length (open_loops m) ≡ m
open_size zero = refl
open_size (suc m) = length-append (open_loops m) (false ∷ []) ∙ omega (arith, open_size m)

opening_stands : (script : Plan) (n : ℕ) → Stands script (home_of script) (opening script n)
opening_stands script n =
    let count : ℕ = (sizes script).contexts in
    let size : length (held_of (opening script n).contexts) ≡ length (opening script n).contexts = simp length-map in
    record {
      fits = record {
        size = sym size ∙ length_held script n count;
        has = λ c k. own_held (opening script n).contexts c ∙ (open_at script n count c k ∙ eqb_sym (home_of script c) n);
        flags = λ c. none_open count c;
      };
      size = open_size count;
    }

-- the lanes of a run
pub held_at_tick : (script : Plan) (tick : ℕ) → AreHeld script (λ c. holder_at script c tick) (lanes_at script tick)
held_at_tick script zero = record {
  count = simp (length-map, length-range_with_len);
  counted = counted_openings script 0 (length script.lanes);
  each = opens (range_with_len 0 (length script.lanes));
}
  where
    opens : (ns : List ℕ) → AllByRecursion (Stands script (home_of script)) (map (opening script) ns)
    opens [] = tt
    opens (n ∷ ns) = (opening_stands script n, opens ns)
held_at_tick script (suc tick) = next (held_at_tick script tick)
  where
    next : AreHeld script (λ c. holder_at script c tick) (lanes_at script tick) → AreHeld script (λ c. holder_at script c (suc tick)) (lanes_at script (suc tick))
    next a =
        let lanes : List Lane = lanes_at script tick in
        let letters : List Letter = posted_at script tick lanes in
        let turns : List Lane = map (turned script tick) lanes in
        let hs : List Handing = handings tick letters turns in
        let same : length (lanes_at script (suc tick)) ≡ length lanes = simp length-map in
        record {
          count = same ∙ a.count;
          counted = counted_step (received_all script tick letters) (received_number script tick letters) 0 (map (all_handed tick hs) turns)
              (counted_step (all_handed tick hs) (λ lane. handed_part (λ (l : Lane). l.number) tick (λ kept l. refl) (λ c l. refl) hs lane) 0 turns
              (counted_step (turned script tick) (turned_number script tick) 0 lanes a.counted));
          each = mapped (Stands script (λ c. holder_at script c (suc tick))) (Stands script (λ c. holder_at script c (suc tick))) (received_all script tick letters)
              (received_stands script tick (λ c. holder_at script c (suc tick)) letters) (handed_over tick letters turns) (over_stands script tick (λ c. holder_at script c tick) lanes a);
        }

-- ---- the law

own_each : (script : Plan) (c : ℕ) (h : ℕ → ℕ) (a : ℕ) (lanes : List Lane) → c < (sizes script).contexts → Counted a lanes → AllByRecursion (Stands script h) lanes → map (is_own c) lanes ≡ map (λ n. n == h c) (range_with_len a (length lanes))
own_each script c h a [] k counted s = refl
own_each script c h a (lane ∷ lanes) k counted s =
    let one : is_own c lane ≡ (a == h c) = own_of (is_some (context_at c lane)) (is_given c lane) (((s.0).fits).flags c) ∙ (((s.0).fits).has c k ∙ ap (λ (n : ℕ). n == h c) counted.0) in
    ap (λ b. b ∷ map (is_own c) lanes) one ∙ ap (λ bs. (a == h c) ∷ bs) (own_each script c h (a + 1) lanes k counted.1 s.1)
  where
    own_of : (x y : Bool) → y ≡ false → (x && not y) ≡ x
    own_of true y e = ap not e
    own_of false y e = refl

pub held_law : (script : Plan) (tick context : ℕ) → context < (sizes script).contexts → map (is_own context) (lanes_at script tick) ≡ map (λ n. n == holder_at script context tick) (range_with_len 0 (length script.lanes))
held_law script tick context k =
    let a = held_at_tick script tick in
    own_each script context (λ c. holder_at script c tick) 0 (lanes_at script tick) k a.counted a.each ∙ ap (λ (n : ℕ). map (λ i. i == holder_at script context tick) (range_with_len 0 n)) a.count

given_below : (count lanes c holder : ℕ) (h : ℕ → ℕ) (letters : List Letter) → AreFair count lanes h letters → holder < lanes → given_to c letters holder < lanes
given_below count lanes c holder h [] f l = l
given_below count lanes c holder h (x ∷ letters) f l = given_below count lanes c (given_by c x.body holder) h letters f.1 (one x.body f.0)
  where
    one : (body : Mail) → IsFair count lanes h x.sender body letters → given_by c body holder < lanes
    one (mails.Attach context spec) p = l
    one (mails.Complete reply) p = l
    one (mails.Cancelled k) p = l
    one (mails.Give d to) p = by (d == c)
      where
        by : (b : Bool) → cond b to holder < lanes
        by true = (p.1).0
        by false = l

pub lane_law : (script : Plan) (tick context : ℕ) → context < (sizes script).contexts → holder_at script context tick < length script.lanes
lane_law script zero context k = omega (arith, home_within 0 script.lanes context k)
lane_law script (suc tick) context k =
    let lanes : List Lane = lanes_at script tick in
    let a = held_at_tick script tick in
    let given : AllByRecursion (HasGiven script tick (λ c. holder_at script c tick)) lanes = each_is (Stands script (λ c. holder_at script c tick)) (HasGiven script tick (λ c. holder_at script c tick)) (has_given script tick (λ c. holder_at script c tick)) lanes a.each in
    given_below (sizes script).contexts (length script.lanes) context (holder_at script context tick) (λ c. holder_at script c tick) (posted_at script tick lanes)
    (fair_lanes script tick 0 (λ c. holder_at script c tick) lanes a.counted given (omega (arith, a.count))) (lane_law script tick context k)

pub none_law : (script : Plan) (tick : ℕ) → AllByRecursion (λ lane. (context : ℕ) → is_given context lane ≡ false) (lanes_at script tick)
none_law script tick = each_is (Stands script (λ c. holder_at script c tick)) (λ lane. (context : ℕ) → is_given context lane ≡ false) (λ lane s. (s.fits).flags) (lanes_at script tick) (held_at_tick script tick).each
