-- What lanes are that contexts go between: what each lane keeps, where what is handed over brings no more.
use Rattle.std.proofs.Common.{◌≡◌, ℕ, zero, suc, ◌==◌, Bool, true, false, cond, Option, Some, None, List, [], ◌∷◌, map, slice_set, refl, ap, ◌∙◌, subst, find}
use Rattle.std.specs.Prelude.{is_some}
use Rattle.std.specs.Option.{option_and_then}
use Rattle.std.specs.List.{AllByRecursion, cons_option}
use Rattle.loop_script.specs.declared.plan.Plan.{Plan}
use Rattle.context_core.specs.declared.context.Context.{Context}
use Rattle.post_office.specs.declared.letter.Letter.{Letter}
use Rattle.post_office.specs.declared.letter.Body.{Body as Mail}
use Rattle.post_office.specs.declared.letter.Body.TheVariants as mails
use Rattle.lane_turn.specs.Lane.{Lane, Kept}
use Rattle.lane_turn.specs.Handover.{Handing, handed_of, without_context, taken_over, let_go, handed, all_handed, handing, handing_by, handing_of, moved, handings, handed_over}
use Rattle.lane_turn.specs.Sound.{Bounded, IsReady}
use Rattle.lane_turn.proofs.Bounds.{bounded_at}
use Rattle.lane_turn.proofs.Whole.{whole}

-- what is so of each lane, and of what each hands over, and stays so in a lane that lets go or takes over
module _ (tick : ℕ) (P : Lane → Type 0) (K : Kept → Type 0) (gives : (lane : Lane) → P lane → (context : ℕ) (kept : Kept) → handed_of context lane ≡ Some kept → K kept)
    (takes : (lane : Lane) → P lane → (kept : Kept) → K kept → P (taken_over tick kept lane)) (lets : (lane : Lane) → P lane → (context : ℕ) → P (without_context context lane)) where
  abbrev IsGood : Option Handing → Type 0
  IsGood None = Unit {0}
  IsGood (Some h) = K h.kept

  found : (number context : ℕ) (lanes : List Lane) → AllByRecursion P lanes → (kept : Kept) → option_and_then (handed_of context) (find (λ (lane : Lane). lane.number == number) lanes) ≡ Some kept → K kept
  found number context [] all kept e = let no : false ≡ true = ap (λ (o : Option Kept). is_some o) e in cc
  found number context (lane ∷ lanes) all kept e = by (found number context lanes all.1 kept) (lane.number == number) e
    where
      by : (option_and_then (handed_of context) (find (λ (lane : Lane). lane.number == number) lanes) ≡ Some kept → K kept) → (b : Bool) → option_and_then (handed_of context) (cond b (Some lane) (find (λ (lane : Lane). lane.number == number) lanes)) ≡ Some kept → K kept
      by rest true f = gives lane all.0 context kept f
      by rest false f = rest f

  good_handing : (sender to : ℕ) (o : Option Kept) → ((kept : Kept) → o ≡ Some kept → K kept) → IsGood (handing sender to o)
  good_handing sender to None f = tt
  good_handing sender to (Some kept) f = f kept refl

  good_by : (sender : ℕ) (body : Mail) (lanes : List Lane) → AllByRecursion P lanes → IsGood (handing_by sender body lanes)
  good_by sender (mails.Give context to) lanes all = good_handing sender to _ (found sender context lanes all)
  good_by sender (mails.Attach context spec) lanes all = tt
  good_by sender (mails.Complete reply) lanes all = tt
  good_by sender (mails.Cancelled c) lanes all = tt

  goes : (h : Handing) → K h.kept → (lane : Lane) → P lane → P (handed tick h lane)
  goes h k lane p = by_to (lane.number == h.sender) (lane.number == h.to)
    where
      after : Bool → Lane
      after b = cond b (without_context h.kept.number lane) lane

      left : (b : Bool) → P (after b)
      left true = lets lane p h.kept.number
      left false = p

      same : (b : Bool) → (after b).number ≡ lane.number
      same true = refl
      same false = refl

      took : (now : Lane) → P now → (b : Bool) → P (cond b (taken_over tick h.kept now) now)
      took now q true = takes now q h.kept k
      took now q false = q

      by_to : (b c : Bool) → P (handed tick h lane)
      by_to b c = took (let_go h lane) (left (lane.number == h.sender)) ((let_go h lane).number == h.to)

  goes_all : (o : Option Handing) → IsGood o → (lanes : List Lane) → AllByRecursion P lanes → AllByRecursion P (moved tick o lanes)
  goes_all None g lanes all = all
  goes_all (Some h) g [] all = tt
  goes_all (Some h) g (lane ∷ lanes) all = (goes h g lane all.0, goes_all (Some h) g lanes all.1)

  cons_good : (o : Option Handing) (hs : List Handing) → IsGood o → AllByRecursion (λ h. K h.kept) hs → AllByRecursion (λ h. K h.kept) (cons_option o hs)
  cons_good None hs g all = all
  cons_good (Some h) hs g all = (g, all)

  all_good : (letters : List Letter) (lanes : List Lane) → AllByRecursion P lanes → AllByRecursion (λ h. K h.kept) (handings tick letters lanes)
  all_good [] lanes all = tt
  all_good (letter ∷ letters) lanes all =
      let o = handing_of letter lanes in
      let g = good_by letter.sender letter.body lanes all in
      cons_good o (handings tick letters (moved tick o lanes)) g (all_good letters (moved tick o lanes) (goes_all o g lanes all))

  pub goes_each : (hs : List Handing) → AllByRecursion (λ h. K h.kept) hs → (lane : Lane) → P lane → P (all_handed tick hs lane)
  goes_each [] g lane p = p
  goes_each (h ∷ hs) g lane p = goes_each hs g.1 (handed tick h lane) (goes h g.0 lane p)

  map_each : (hs : List Handing) → AllByRecursion (λ h. K h.kept) hs → (lanes : List Lane) → AllByRecursion P lanes → AllByRecursion P (map (all_handed tick hs) lanes)
  map_each hs g [] all = tt
  map_each hs g (lane ∷ lanes) all = (goes_each hs g lane all.0, map_each hs g lanes all.1)

  -- of lanes that are so, what comes of handing over is so too
  pub going_over : (letters : List Letter) (lanes : List Lane) → AllByRecursion P lanes → AllByRecursion P (handed_over tick letters lanes)
  going_over letters lanes all = map_each (handings tick letters lanes) (all_good letters lanes all) lanes all

-- ---- what no handing over touches

module _ {A : Type 0} (part : Lane → A) (tick : ℕ) (takes_same : (kept : Kept) (lane : Lane) → part (taken_over tick kept lane) ≡ part lane) (lets_same : (context : ℕ) (lane : Lane) → part (without_context context lane) ≡ part lane) where
  got_part : (h : Handing) (lane : Lane) (b : Bool) → part (cond b (taken_over tick h.kept lane) lane) ≡ part lane
  got_part h lane true = takes_same h.kept lane
  got_part h lane false = refl

  let_part : (h : Handing) (lane : Lane) (b : Bool) → part (cond b (without_context h.kept.number lane) lane) ≡ part lane
  let_part h lane true = lets_same h.kept.number lane
  let_part h lane false = refl

  pub handed_part : (hs : List Handing) (lane : Lane) → part (all_handed tick hs lane) ≡ part lane
  handed_part [] lane = refl
  handed_part (h ∷ hs) lane = handed_part hs (handed tick h lane) ∙ (got_part h (let_go h lane) ((let_go h lane).number == h.to) ∙ let_part h lane (lane.number == h.sender))

-- ---- the bounds of counters

set_bounded : (m : ℕ) (os : List (Option Context)) (i : ℕ) (o : Option Context) → Bounded m o → AllByRecursion (Bounded m) os → AllByRecursion (Bounded m) (slice_set os i o)
set_bounded m [] i o b all = tt
set_bounded m (x ∷ os) zero o b all = (b, all.1)
set_bounded m (x ∷ os) (suc i) o b all = (all.0, set_bounded m os i o b all.1)

abbrev KeptBounded : ℕ → Kept → Type 0
KeptBounded m kept = Bounded m (Some kept.context)

gives_bounded : (script : Plan) (next m : ℕ) (lane : Lane) → IsReady script next m lane → (context : ℕ) (kept : Kept) → handed_of context lane ≡ Some kept → KeptBounded m kept
gives_bounded script next m lane r context kept e = subst (Bounded m) ((whole context lane kept e).0) (bounded_at m lane.contexts context r.within.contexts)

takes_bounded : (script : Plan) (next m tick : ℕ) (lane : Lane) → IsReady script next m lane → (kept : Kept) → KeptBounded m kept → IsReady script next m (taken_over tick kept lane)
takes_bounded script next m tick lane r kept k = record {
  within = record { contexts = set_bounded m lane.contexts kept.number (Some kept.context) k r.within.contexts; frames = r.within.frames; handlers = r.within.handlers };
  view = r.view;
  now = r.now;
  next = r.next;
  few = r.few;
}

lets_bounded : (script : Plan) (next m : ℕ) (lane : Lane) → IsReady script next m lane → (context : ℕ) → IsReady script next m (without_context context lane)
lets_bounded script next m lane r context = record {
  within = record { contexts = set_bounded m lane.contexts context None tt r.within.contexts; frames = r.within.frames; handlers = r.within.handlers };
  view = r.view;
  now = r.now;
  next = r.next;
  few = r.few;
}

pub ready_over : (script : Plan) (tick next m : ℕ) (letters : List Letter) (lanes : List Lane) → AllByRecursion (IsReady script next m) lanes → AllByRecursion (IsReady script next m) (handed_over tick letters lanes)
ready_over script tick next m letters lanes all =
    going_over tick (IsReady script next m) (KeptBounded m) (gives_bounded script next m) (takes_bounded script next m tick) (lets_bounded script next m) letters lanes all
