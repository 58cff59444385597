-- What slots of lanes name was given, wherever its context is.
use Rattle.std.proofs.Common.{◌≡◌, ◌⊎◌, inl, inr, ℕ, zero, suc, ◌<◌, ◌≤◌, ◌==◌, Bool, true, false, cond, Option, Some, None, List, [], ◌∷◌, ◌++◌, map, length, get_or, option_map, slice_set, refl, ap, sym, ◌∙◌, arith, eqb-true, ltb-true, ltb-false}
use Rattle.std.specs.Prelude.{is_some, slice_get, nat_lt}
use Rattle.std.specs.List.{AllByRecursion, range_with_len}
use Rattle.loop_script.specs.declared.plan.Plan.{Plan}
use Rattle.loop_script.specs.References.{sizes}
use Rattle.context_core.specs.declared.context.Context.{Context}
use Rattle.post_office.specs.declared.letter.Letter.{Letter}
use Rattle.lane_turn.specs.declared.slot.Named.{Named}
use Rattle.lane_turn.specs.declared.slot.Named.TheVariants.{Source, Handler}
use Rattle.lane_turn.specs.Lane.{Lane, Kept, present, context_at, is_given, next_id}
use Rattle.lane_turn.specs.Limits.{slot_count}
use Rattle.lane_turn.specs.Turn.{opening, open_contexts_to, open_context, open_slots, begun, turned}
use Rattle.lane_turn.specs.Deliver.{received_all}
use Rattle.lane_turn.specs.Tick.{posted_at, lanes_at}
use Rattle.lane_turn.specs.Handover.{kept_of, handed_of, without_context, taken_over, handed_over}
use Rattle.lane_turn.specs.Sources.{no_sources}
use Rattle.loop_script.specs.Parts.{home_of}
use Rattle.std.proofs.lemmas.Bool.{eq-eqb}
use Rattle.lane_turn.proofs.Lists.{each-push}
use Rattle.lane_turn.specs.Holding.{holder_at}
use Rattle.lane_turn.proofs.Follows.{FollowsIn, AllFollow, follows_trans, in_same}
use Rattle.lane_turn.proofs.Counts.{follow_all}
use Rattle.lane_turn.proofs.Added.{does}
use Rattle.lane_turn.proofs.Traced.{brings_all}
use Rattle.lane_turn.proofs.Turns.{kept_finished}
use Rattle.lane_turn.proofs.Leaves.{own_within}
use Rattle.lane_turn.proofs.Whole.{whole}
use Rattle.lane_turn.proofs.GoingOver.{going_over}
use Rattle.lane_turn.proofs.Places.{Counted, number_at, each_at}
use Rattle.lane_turn.proofs.Between.{Fits}
use Rattle.lane_turn.proofs.Holds.{Stands, held_at_tick, lane_law, all_from}
use Rattle.lane_turn.proofs.Sums.{holders_over}
use Rattle.lane_turn.proofs.Slots.{IsUnder, IsPast, ArePast, past_turned, past_delivered}

-- a slot names what is below the bound of its context
abbrev IsBelow : (ℕ → ℕ) → Option Named → Type 0
IsBelow most None = Unit {0}
IsBelow most (Some (Source place)) = place.id < most place.context
IsBelow most (Some (Handler id)) = Unit {0}

-- the bounds are the next ids of the contexts that a lane has
pub record IsBound (most : ℕ → ℕ) (lane : Lane) : Type 0 where
  pub slots : AllByRecursion (IsBelow most) lane.slots
  pub next : (c : ℕ) (x : Context) → context_at c lane ≡ Some x → x.rows.next_id ≡ most c

-- within a turn
past_of : (most : ℕ → ℕ) (lane : Lane) (slots : List (Option Named)) → ((c : ℕ) (x : Context) → context_at c lane ≡ Some x → x.rows.next_id ≡ most c) → AllByRecursion (IsBelow most) slots → ArePast most lane.contexts slots
past_of most lane [] n b = tt
past_of most lane (thing ∷ slots) n b = (one thing b.0, past_of most lane slots n b.1)
  where
    under : (c id : ℕ) (o : Option Context) → context_at c lane ≡ o → id < most c → IsUnder most c o id
    under c id None e l = l
    under c id (Some x) e l = omega (arith, l, n c x e)

    one : (thing : Option Named) → IsBelow most thing → IsPast most lane.contexts thing
    one None l = tt
    one (Some (Handler id)) l = tt
    one (Some (Source place)) l = under place.context place.id (context_at place.context lane) refl l

pub past_in : (most : ℕ → ℕ) (lane : Lane) → IsBound most lane → ArePast most lane.contexts lane.slots
past_in most lane b = past_of most lane lane.slots b.next b.slots

-- and after it, by other bounds
below_of : (most more : ℕ → ℕ) (lane : Lane) (slots : List (Option Named)) → ((c : ℕ) → most c ≤ more c) → ((c : ℕ) (x : Context) → context_at c lane ≡ Some x → x.rows.next_id ≡ more c) → ArePast most lane.contexts slots → AllByRecursion (IsBelow more) slots
below_of most more lane [] r n p = tt
below_of most more lane (thing ∷ slots) r n p = (one thing p.0, below_of most more lane slots r n p.1)
  where
    below : (c id : ℕ) (o : Option Context) → context_at c lane ≡ o → IsUnder most c o id → id < more c
    below c id None e l = omega (arith, l, r c)
    below c id (Some x) e l = omega (arith, l, n c x e)

    one : (thing : Option Named) → IsPast most lane.contexts thing → IsBelow more thing
    one None l = tt
    one (Some (Handler id)) l = tt
    one (Some (Source place)) l = below place.context place.id (context_at place.context lane) refl l

-- ---- lanes of which each context is one's, and what a step of each leaves

-- whose a context is among lanes
pub record AreOwners (count : ℕ) (h : ℕ → ℕ) (lanes : List Lane) : Type 0 where
  counted : Counted 0 lanes
  below : (c : ℕ) → c < count → h c < length lanes
  has : AllByRecursion (λ lane. (length lane.contexts ≡ count) × ((c : ℕ) → c < count → is_some (context_at c lane) ≡ (lane.number == h c))) lanes

-- what a step of a lane keeps
pub record Goes (most : ℕ → ℕ) (lane after : Lane) : Type 0 where
  follow : AllFollow lane.contexts after.contexts
  past : ArePast most after.contexts after.slots

next_follows : (o p : Option Context) → FollowsIn o p → next_id o ≤ next_id p
next_follows None None f = omega arith
next_follows None (Some d) f = absurd f
next_follows (Some c) None f = absurd f
next_follows (Some c) (Some d) f = f.next

some_follows : (o p : Option Context) → FollowsIn o p → is_some p ≡ is_some o
some_follows None None f = refl
some_follows None (Some d) f = absurd f
some_follows (Some c) None f = absurd f
some_follows (Some c) (Some d) f = refl

map_get : (f : Lane → Lane) (lanes : List Lane) (i : ℕ) (d : Lane) → i < length lanes → get_or (map f lanes) i d ≡ f (get_or lanes i d)
map_get f [] i d l = absurd (omega (arith, l))
map_get f (lane ∷ lanes) zero d l = refl
map_get f (lane ∷ lanes) (suc i) d l = map_get f lanes i d (omega (arith, l))

same_get : (xs : List Lane) (i : ℕ) (x y : Lane) → i < length xs → get_or xs i x ≡ get_or xs i y
same_get [] i x y l = absurd (omega (arith, l))
same_get (lane ∷ xs) zero x y l = refl
same_get (lane ∷ xs) (suc i) x y l = same_get xs i x y (omega (arith, l))

module _ (count : ℕ) (h : ℕ → ℕ) (most : ℕ → ℕ) (d : Lane) (lanes : List Lane) (f : Lane → Lane) (a : AreOwners count h lanes) (b : AllByRecursion (IsBound most) lanes) (g : AllByRecursion (λ lane. Goes most lane (f lane)) lanes) where
  -- of a context the next id at the lane that has it
  abbrev pub more : ℕ → ℕ
  more c = cond (nat_lt c count) (next_id (context_at c (f (get_or lanes (h c) d)))) (most c)

  some_of : (o : Option Context) → is_some o ≡ true → (x : Context) × (o ≡ Some x)
  some_of None e = let no : false ≡ true = e in cc
  some_of (Some x) e = (x, refl)

  rises : (c : ℕ) (b : Bool) → nat_lt c count ≡ b → most c ≤ cond b (next_id (context_at c (f (get_or lanes (h c) d)))) (most c)
  rises c false e = omega arith
  rises c true e =
      let l : c < count = ltb-true c count e in
      let i : ℕ = h c in
      let holder : Lane = get_or lanes i d in
      let there : is_some (context_at c holder) ≡ true = (each_at (λ lane. (length lane.contexts ≡ count) × ((c : ℕ) → c < count → is_some (context_at c lane) ≡ (lane.number == h c))) i lanes d a.has (a.below c l)).1 c l
      ∙ eq-eqb holder.number (h c) (number_at 0 i lanes d a.counted (a.below c l) ∙ omega arith) in
      let x = some_of (context_at c holder) there in
      let was : next_id (context_at c holder) ≡ most c = ap next_id x.1 ∙ (each_at (IsBound most) i lanes d b (a.below c l)).next c x.0 x.1 in
      omega (arith, was, next_follows (context_at c holder) (context_at c (f holder)) ((each_at (λ lane. Goes most lane (f lane)) i lanes d g (a.below c l)).follow c))

  next_at : (e : Lane) (i : ℕ) → i < length lanes → (c : ℕ) (x : Context) → context_at c (f (get_or lanes i e)) ≡ Some x → x.rows.next_id ≡ more c
  next_at e i l c x p =
      let lane : Lane = get_or lanes i e in
      let owner = each_at (λ lane. (length lane.contexts ≡ count) × ((c : ℕ) → c < count → is_some (context_at c lane) ≡ (lane.number == h c))) i lanes e a.has l in
      let there : is_some (context_at c lane) ≡ true = sym (some_follows (context_at c lane) (context_at c (f lane)) ((each_at (λ lane. Goes most lane (f lane)) i lanes e g l).follow c)) ∙ ap (λ (o : Option Context). is_some o) p in
      let within : c < count = omega (arith, own_within lane.contexts c there, owner.0) in
      let mine : i ≡ h c = omega (arith, number_at 0 i lanes e a.counted l) ∙ eqb-true lane.number (h c) (sym (owner.1 c within) ∙ there) in
      let same : get_or lanes (h c) d ≡ lane = ap (λ (j : ℕ). get_or lanes j d) (sym mine) ∙ same_get lanes i d e l in
      sym (ap (λ (b : Bool). cond b (next_id (context_at c (f (get_or lanes (h c) d)))) (most c)) (is_lt within)
      ∙ (ap (λ (y : Lane). next_id (context_at c (f y))) same ∙ ap next_id p))
    where
      is_lt : c < count → nat_lt c count ≡ true
      is_lt k = by (nat_lt c count) refl
        where
          by : (b : Bool) → nat_lt c count ≡ b → nat_lt c count ≡ true
          by true e = e
          by false e = absurd (omega (arith, k, ltb-false c count e))

  pub bound_step : (more : ℕ → ℕ) × AllByRecursion (IsBound more) (map f lanes)
  bound_step = (
    more,
    each_mapped lanes (all_from (λ lane. IsBound more (f lane)) lanes (λ e i l. record {
      slots = below_of most more (f (get_or lanes i e)) (f (get_or lanes i e)).slots (λ c. rises c (nat_lt c count) refl) (next_at e i l) (each_at (λ lane. Goes most lane (f lane)) i lanes e g l).past;
      next = next_at e i l;
    })),
  )
    where
      each_mapped : (ls : List Lane) → AllByRecursion (λ lane. IsBound more (f lane)) ls → AllByRecursion (IsBound more) (map f ls)
      each_mapped [] x = tt
      each_mapped (lane ∷ ls) x = (x.0, each_mapped ls x.1)

-- ---- what goes over

abbrev number_or : ℕ → Option Kept → ℕ
number_or n None = n
number_or n (Some k) = k.number

handed_number_is : (c : ℕ) (lane : Lane) (kept : Kept) → handed_of c lane ≡ Some kept → kept.number ≡ c
handed_number_is c lane kept e = by (is_given c lane) (context_at c lane) e
  where
    by : (b : Bool) (o : Option Context) → cond b (option_map (kept_of c lane) o) None ≡ Some kept → kept.number ≡ c
    by true None p = let no : false ≡ true = ap (λ (x : Option Kept). is_some x) p in cc
    by true (Some x) p = sym (ap (λ (o : Option Kept). number_or c o) p)
    by false o p = let no : false ≡ true = ap (λ (x : Option Kept). is_some x) p in cc

set_is : (contexts : List (Option Context)) (k c : ℕ) (o : Option Context) (x : Context) → present (slice_get (slice_set contexts k o) c) ≡ Some x → ((c ≡ k) × (o ≡ Some x)) ⊎ (present (slice_get contexts c) ≡ Some x)
set_is [] k c o x e = inr e
set_is (y ∷ contexts) zero zero o x e = inl (refl, e)
set_is (y ∷ contexts) zero (suc c) o x e = inr e
set_is (y ∷ contexts) (suc k) zero o x e = inr e
set_is (y ∷ contexts) (suc k) (suc c) o x e = by (set_is contexts k c o x e)
  where
    by : ((c ≡ k) × (o ≡ Some x)) ⊎ (present (slice_get contexts c) ≡ Some x) → ((suc c ≡ suc k) × (o ≡ Some x)) ⊎ (present (slice_get contexts c) ≡ Some x)
    by (inl p) = inl (ap (λ (n : ℕ). suc n) p.0, p.1)
    by (inr p) = inr p

bound_over : (most : ℕ → ℕ) (tick : ℕ) (letters : List Letter) (lanes : List Lane) → AllByRecursion (IsBound most) lanes → AllByRecursion (IsBound most) (handed_over tick letters lanes)
bound_over most tick letters lanes b =
    going_over tick (IsBound most) (λ kept. (kept.context).rows.next_id ≡ most kept.number) gives takes lets letters lanes b
  where
    gives : (lane : Lane) → IsBound most lane → (context : ℕ) (kept : Kept) → handed_of context lane ≡ Some kept → (kept.context).rows.next_id ≡ most kept.number
    gives lane b context kept e = b.next context kept.context ((whole context lane kept e).0) ∙ ap most (sym (handed_number_is context lane kept e))

    takes : (lane : Lane) → IsBound most lane → (kept : Kept) → (kept.context).rows.next_id ≡ most kept.number → IsBound most (taken_over tick kept lane)
    takes lane b kept k = record {
      slots = b.slots;
      next = λ c x e. by c x (set_is lane.contexts kept.number c (Some kept.context) x e);
    }
      where
        by : (c : ℕ) (x : Context) → ((c ≡ kept.number) × (Some kept.context ≡ Some x)) ⊎ (present (slice_get lane.contexts c) ≡ Some x) → x.rows.next_id ≡ most c
        by c x (inl p) = ap (λ (o : Option Context). next_id o) (sym p.1) ∙ (k ∙ ap most (sym p.0))
        by c x (inr p) = b.next c x p

    lets : (lane : Lane) → IsBound most lane → (context : ℕ) → IsBound most (without_context context lane)
    lets lane b context = record {
      slots = b.slots;
      next = λ c x e. by c x (set_is lane.contexts context c None x e);
    }
      where
        by : (c : ℕ) (x : Context) → ((c ≡ context) × (None ≡ Some x)) ⊎ (present (slice_get lane.contexts c) ≡ Some x) → x.rows.next_id ≡ most c
        by c x (inl p) = let no : false ≡ true = ap (λ (o : Option Context). is_some o) p.1 in cc
        by c x (inr p) = b.next c x p

-- ---- a run

in_trans : (o p q : Option Context) → FollowsIn o p → FollowsIn p q → FollowsIn o q
in_trans None None None h g = tt
in_trans None None (Some c) h g = absurd g
in_trans None (Some d) q h g = absurd h
in_trans (Some c) None q h g = absurd h
in_trans (Some c) (Some d) None h g = absurd g
in_trans (Some c) (Some d) (Some e) h g = follows_trans c.rows d.rows e.rows h g

follow_turned : (script : Plan) (tick : ℕ) (lane : Lane) → AllFollow lane.contexts (turned script tick lane).contexts
follow_turned script tick lane =
    kept_finished script tick (λ t. AllFollow lane.contexts t.lane.contexts) (λ t u e q i. in_trans (present (slice_get lane.contexts i)) (present (slice_get t.lane.contexts i)) (present (slice_get u.lane.contexts i)) (q i) ((does script tick t u e).rows i)) (begun tick lane) (λ i. in_same (present (slice_get lane.contexts i)))

-- the lanes of a run once contexts went over
pub bound_went : (script : Plan) (tick : ℕ) → (most : ℕ → ℕ) × AllByRecursion (IsBound most) (lanes_at script tick) → (most : ℕ → ℕ) × AllByRecursion (IsBound most) (handed_over tick (posted_at script tick (lanes_at script tick)) (map (turned script tick) (lanes_at script tick)))
bound_went script tick b =
    let lanes : List Lane = lanes_at script tick in
    let held = held_at_tick script tick in
    let owners : AreOwners (sizes script).contexts (λ c. holder_at script c tick) lanes = record {
      counted = held.counted;
      below = λ c l. omega (arith, lane_law script tick c l, held.count);
      has = owners_of lanes held.each;
    } in
    let s = bound_step (sizes script).contexts (λ c. holder_at script c tick) b.0 (opening script 0) lanes (turned script tick) owners b.1 (goes_of lanes b.1) in
    (s.0, bound_over s.0 tick (posted_at script tick lanes) (map (turned script tick) lanes) s.1)
  where
    owners_of : (ls : List Lane) → AllByRecursion (Stands script (λ c. holder_at script c tick)) ls → AllByRecursion (λ lane. (length lane.contexts ≡ (sizes script).contexts) × ((c : ℕ) → c < (sizes script).contexts → is_some (context_at c lane) ≡ (lane.number == holder_at script c tick))) ls
    owners_of [] s = tt
    owners_of (lane ∷ ls) s = ((((s.0).fits).size, ((s.0).fits).has), owners_of ls s.1)

    goes_of : (ls : List Lane) → AllByRecursion (IsBound b.0) ls → AllByRecursion (λ lane. Goes b.0 lane (turned script tick lane)) ls
    goes_of [] x = tt
    goes_of (lane ∷ ls) x = (record { follow = follow_turned script tick lane; past = past_turned b.0 script tick lane (past_in b.0 lane x.0) }, goes_of ls x.1)

bound_delivered : (script : Plan) (tick : ℕ) → (most : ℕ → ℕ) × AllByRecursion (IsBound most) (handed_over tick (posted_at script tick (lanes_at script tick)) (map (turned script tick) (lanes_at script tick))) → (most : ℕ → ℕ) × AllByRecursion (IsBound most) (lanes_at script (suc tick))
bound_delivered script tick b =
    let letters : List Letter = posted_at script tick (lanes_at script tick) in
    let over : List Lane = handed_over tick letters (map (turned script tick) (lanes_at script tick)) in
    let holders = holders_over script tick in
    let owners : AreOwners (sizes script).contexts (λ c. holder_at script c (suc tick)) over = record {
      counted = holders.counted;
      below = λ c l. omega (arith, holders.below c l, holders.length_is);
      has = owners_of over holders.each;
    } in
    bound_step (sizes script).contexts (λ c. holder_at script c (suc tick)) b.0 (opening script 0) over (received_all script tick letters) owners b.1 (goes_of letters over b.1)
  where
    owners_of : (ls : List Lane) → AllByRecursion (Fits (sizes script).contexts (λ c. holder_at script c (suc tick)) []) ls → AllByRecursion (λ lane. (length lane.contexts ≡ (sizes script).contexts) × ((c : ℕ) → c < (sizes script).contexts → is_some (context_at c lane) ≡ (lane.number == holder_at script c (suc tick)))) ls
    owners_of [] s = tt
    owners_of (lane ∷ ls) s = (((s.0).size, (s.0).has), owners_of ls s.1)

    goes_of : (letters : List Letter) (ls : List Lane) → AllByRecursion (IsBound b.0) ls → AllByRecursion (λ lane. Goes b.0 lane (received_all script tick letters lane)) ls
    goes_of letters [] x = tt
    goes_of letters (lane ∷ ls) x =
        let after : Lane = received_all script tick letters lane in
        (record { follow = follow_all lane.contexts after.contexts (brings_all script tick letters lane).adds.rows; past = past_delivered b.0 script tick letters lane (past_in b.0 lane x.0) }, goes_of letters ls x.1)

opened_in : (script : Plan) (b : Bool) (x : Context) → cond b (Some (no_sources script)) None ≡ Some x → x.rows.next_id ≡ 1
opened_in script true x e = ap (λ (o : Option Context). next_id o) (sym e)
opened_in script false x e = let no : false ≡ true = ap (λ (o : Option Context). is_some o) e in cc

pushed_id : (os : List (Option Context)) (o : Option Context) (c : ℕ) (x : Context) → ((k : ℕ) → present (slice_get os k) ≡ Some x → x.rows.next_id ≡ 1) → (o ≡ Some x → x.rows.next_id ≡ 1) → present (slice_get (os ++ o ∷ []) c) ≡ Some x → x.rows.next_id ≡ 1
pushed_id [] o zero x n p e = p e
pushed_id [] o (suc c) x n p e = let no : false ≡ true = ap (λ (o : Option Context). is_some o) e in cc
pushed_id (y ∷ os) o zero x n p e = n zero e
pushed_id (y ∷ os) o (suc c) x n p e = pushed_id os o c x (λ k. n (suc k)) p e

opened_id : (script : Plan) (lane n c : ℕ) (x : Context) → present (slice_get (open_contexts_to script lane n) c) ≡ Some x → x.rows.next_id ≡ 1
opened_id script lane zero c x e = let no : false ≡ true = ap (λ (o : Option Context). is_some o) e in cc
opened_id script lane (suc n) c x e = pushed_id (open_contexts_to script lane n) (open_context script lane n) c x (λ k q. opened_id script lane n k x q) (λ q. opened_in script (home_of script n == lane) x q) e

bound_open : (script : Plan) (ns : List ℕ) → AllByRecursion (IsBound (λ c. 1)) (map (opening script) ns)
bound_open script [] = tt
bound_open script (n ∷ ns) = (record { slots = slots_open slot_count; next = λ c x e. first_id c x e }, bound_open script ns)
  where
    slots_open : (m : ℕ) → AllByRecursion (IsBelow (λ c. 1)) (open_slots m)
    slots_open zero = tt
    slots_open (suc m) = each-push (IsBelow (λ c. 1)) (open_slots m) None (slots_open m) tt

    first_id : (c : ℕ) (x : Context) → context_at c (opening script n) ≡ Some x → x.rows.next_id ≡ 1
    first_id c x e = opened_id script n (sizes script).contexts c x e

pub bound_run : (script : Plan) (tick : ℕ) → (most : ℕ → ℕ) × AllByRecursion (IsBound most) (lanes_at script tick)
bound_run script zero = ((λ c. 1), bound_open script (range_with_len 0 (length script.lanes)))
bound_run script (suc tick) = bound_delivered script tick (bound_went script tick (bound_run script tick))
