-- Contexts that go between lanes: each stays one lane's.
use Rattle.std.proofs.Common.{◌≡◌, ◌≢◌, ◌⊎◌, inl, inr, ℕ, zero, suc, ◌<◌, ◌==◌, ◌||◌, ◌&&◌, Bool, true, false, cond, Option, Some, None, is_some, List, [], ◌∷◌, map, length, get_or, slice_set, option_map, refl, ap, sym, ◌∙◌, subst, arith, eqb-true}
use Rattle.std.specs.Prelude.{slice_get, unwrap_or}
use Rattle.std.specs.Option.{option_and_then}
use Rattle.std.specs.List.{AllByRecursion, list_any, cons_option}
use Rattle.std.proofs.lemmas.Bool.{eq-eqb, ne_eqb}
use Rattle.std.proofs.lemmas.Bool.Decides.{eqb_tells}
use Rattle.std.proofs.lemmas.List.{length-set, length-map}
use Rattle.context_core.specs.declared.context.Context.{Context}
use Rattle.post_office.specs.declared.letter.Letter.{Letter}
use Rattle.post_office.specs.declared.letter.Body.{Body as Mail}
use Rattle.post_office.specs.declared.letter.Body.TheVariants as mails
use Rattle.lane_turn.specs.Lane.{Lane, Kept, present, context_at, is_given}
use Rattle.lane_turn.specs.Handover.{Handing, kept_of, handed_of, without_context, taken_over, let_go, handed, all_handed, handing, handing_by, handing_of, moved, handings, handed_over}
use Rattle.lane_turn.specs.Holding.{gives_context, given_by, given_to}
use Rattle.lane_turn.proofs.Whole.{set_here, set_other}
use Rattle.lane_turn.proofs.Places.{Counted, counted_step, found_at, number_at, each_at}
use Rattle.lane_turn.proofs.Giving.{gives_one, or_left, or_right}
use Rattle.lane_turn.proofs.GoingOver.{handed_part}

-- whether a letter of a lane gives a context
abbrev pub gives_from : ℕ → ℕ → Letter → Bool
gives_from sender c l = (l.sender == sender) && gives_context c l.body

-- a letter may be carried out, and no later one gives its context
abbrev pub IsFair : (count lanes : ℕ) → (ℕ → ℕ) → ℕ → Mail → List Letter → Type 0
IsFair count lanes h sender (mails.Attach context spec) rest = Unit {0}
IsFair count lanes h sender (mails.Complete reply) rest = Unit {0}
IsFair count lanes h sender (mails.Cancelled c) rest = Unit {0}
IsFair count lanes h sender (mails.Give context to) rest =
    (context < count) × ((to < lanes) × ((to ≢ sender) × ((sender ≡ h context) × ((sender < lanes) × (list_any (gives_one context) rest ≡ false)))))

-- the same of letters, where each context is the lane's that h names
abbrev pub AreFair : (count lanes : ℕ) → (ℕ → ℕ) → List Letter → Type 0
AreFair count lanes h [] = Unit {0}
AreFair count lanes h (l ∷ ls) = IsFair count lanes h l.sender l.body ls × AreFair count lanes h ls

-- a lane between others: it has the contexts that are its own by h, and gave those that its letters give
pub record Fits (count : ℕ) (h : ℕ → ℕ) (left : List Letter) (lane : Lane) : Type 0 where
  pub size : length lane.contexts ≡ count
  pub has : (c : ℕ) → c < count → is_some (context_at c lane) ≡ (lane.number == h c)
  pub flags : (c : ℕ) → is_given c lane ≡ list_any (gives_from lane.number c) left

-- whose a context is once one is given
abbrev pub after_give : ℕ → ℕ → (ℕ → ℕ) → ℕ → ℕ
after_give c to h x = cond (c == x) to (h x)

-- ---- what one lane does

kept_here : (c : ℕ) (lane : Lane) (b : Bool) (o : Option Context) → b ≡ true → is_some o ≡ true → (kept : Kept) × (cond b (option_map (kept_of c lane) o) None ≡ Some kept) × (kept.number ≡ c)
kept_here c lane true None e h = let no : false ≡ true = h in cc
kept_here c lane true (Some x) e h = (kept_of c lane x, refl, refl)
kept_here c lane false o e h = let no : false ≡ true = e in cc

-- a flag that is taken down
lowered : (gs : List Bool) (c : ℕ) → unwrap_or (slice_get (slice_set gs c false) c) false ≡ false
lowered [] c = refl
lowered (g ∷ gs) zero = refl
lowered (g ∷ gs) (suc c) = lowered gs c

-- a letter that does not give a context
ungiven : (count n x : ℕ) (h : ℕ → ℕ) (l : Letter) (ls : List Letter) → gives_one x l ≡ false → list_any (gives_from n x) (l ∷ ls) ≡ list_any (gives_from n x) ls
ungiven count n x h l ls e = ap (λ b. b || list_any (gives_from n x) ls) (ap (λ b. (l.sender == n) && b) e ∙ none (l.sender == n))
  where
    none : (b : Bool) → (b && false) ≡ false
    none true = refl
    none false = refl

-- what no letter gives no lane's letters give
none_from : (n c : ℕ) (ls : List Letter) → list_any (gives_one c) ls ≡ false → list_any (gives_from n c) ls ≡ false
none_from n c [] e = refl
none_from n c (l ∷ ls) e = by (none_from n c ls) (gives_one c l) refl (l.sender == n) e
  where
    by : (list_any (gives_one c) ls ≡ false → list_any (gives_from n c) ls ≡ false) → (g : Bool) → gives_one c l ≡ g → (s : Bool) → (gives_one c l || list_any (gives_one c) ls) ≡ false → ((s && gives_one c l) || list_any (gives_from n c) ls) ≡ false
    by r true q s f = let no : true ≡ false = sym (ap (λ b. b || list_any (gives_one c) ls) q) ∙ f in cc
    by r false q true f = ap (λ b. b || list_any (gives_from n c) ls) q ∙ r (sym (ap (λ b. b || list_any (gives_one c) ls) q) ∙ f)
    by r false q false f = r (sym (ap (λ b. b || list_any (gives_one c) ls) q) ∙ f)

-- one lane's part of a handing over of a context c, from a lane to another
module _ (count lanes tick c to sender : ℕ) (h : ℕ → ℕ) (kept : Kept) (ls : List Letter) (l : Letter) (at : l.sender ≡ sender) (gives : l.body ≡ mails.Give c to) (here : c < count) (other : to ≢ sender) (holder : sender ≡ h c) (same : kept.number ≡ c)
    (last : list_any (gives_one c) ls ≡ false) where
  abbrev pub hd : Handing
  hd = record { sender = sender; to = to; kept = kept }

  -- the three kinds of lanes
  pub goes : (lane : Lane) → Fits count h (l ∷ ls) lane → Fits count (after_give c to h) ls (handed tick hd lane)
  goes lane f = by (lane.number == sender) refl ((let_go hd lane).number == to) refl
    where
      own : (x : ℕ) → x < count → (c == x) ≡ false → is_some (context_at x lane) ≡ (lane.number == after_give c to h x)
      own x k e = f.has x k ∙ ap (λ (n : ℕ). lane.number == n) (sym (ap (λ b. cond b to (h x)) e))

      flag : (x : ℕ) → (c == x) ≡ false → is_given x lane ≡ list_any (gives_from lane.number x) ls
      flag x e = f.flags x ∙ ungiven count lane.number x h l ls (ap (gives_context x) gives ∙ e)

      by : (s : Bool) → (lane.number == sender) ≡ s → (t : Bool) → ((cond s (without_context kept.number lane) lane).number == to) ≡ t → Fits count (after_give c to h) ls (cond t (taken_over tick kept (cond s (without_context kept.number lane) lane)) (cond s (without_context kept.number lane) lane))
      by true e true q = absurd (other (sym (eqb-true lane.number to q) ∙ eqb-true lane.number sender e))
      by true e false q = record {
        size = simp length-set f.size;
        has = λ x k. has_by x k (eqb_tells c x);
        flags = λ x. flags_by x (eqb_tells c x);
      }
        where
          has_by : (x : ℕ) → x < count → ((c == x) ≡ true × c ≡ x) ⊎ ((c == x) ≡ false × c ≢ x) → is_some (context_at x (without_context kept.number lane)) ≡ (lane.number == after_give c to h x)
          has_by x k (inl p) =
              let at_c : kept.number ≡ x = same ∙ p.1 in
              ap (λ o. is_some (present o)) (ap (λ (n : ℕ). slice_get (slice_set lane.contexts n None) x) at_c ∙ set_here lane.contexts x None (omega (arith, k, f.size)))
              ∙ sym (ap (λ (n : ℕ). lane.number == n) (ap (λ b. cond b to (h x)) p.0) ∙ q)
          has_by x k (inr p) =
              ap (λ o. is_some (present o)) (set_other lane.contexts kept.number x None (λ r. p.1 (sym same ∙ sym r))) ∙ own x k p.0

          flags_by : (x : ℕ) → ((c == x) ≡ true × c ≡ x) ⊎ ((c == x) ≡ false × c ≢ x) → is_given x (without_context kept.number lane) ≡ list_any (gives_from lane.number x) ls
          flags_by x (inl p) =
              ap (λ (n : ℕ). unwrap_or (slice_get (slice_set lane.given n false) x) false) (same ∙ p.1) ∙ (lowered lane.given x
              ∙ sym (ap (λ (n : ℕ). list_any (gives_from lane.number n) ls) (sym p.1) ∙ none_from lane.number c ls last))
          flags_by x (inr p) = ap (λ o. unwrap_or o false) (set_other lane.given kept.number x false (λ r. p.1 (sym same ∙ sym r))) ∙ flag x p.0
      by false e true q = record {
        size = simp length-set f.size;
        has = λ x k. has_by x k (eqb_tells c x);
        flags = λ x. not_mine x (eqb_tells c x);
      }
        where
          has_by : (x : ℕ) → x < count → ((c == x) ≡ true × c ≡ x) ⊎ ((c == x) ≡ false × c ≢ x) → is_some (context_at x (taken_over tick kept lane)) ≡ (lane.number == after_give c to h x)
          has_by x k (inl p) =
              ap (λ o. is_some (present o)) (ap (λ (n : ℕ). slice_get (slice_set lane.contexts n (Some kept.context)) x) (same ∙ p.1) ∙ set_here lane.contexts x (Some kept.context) (omega (arith, k, f.size)))
              ∙ sym (ap (λ (n : ℕ). lane.number == n) (ap (λ b. cond b to (h x)) p.0) ∙ q)
          has_by x k (inr p) =
              ap (λ o. is_some (present o)) (set_other lane.contexts kept.number x (Some kept.context) (λ r. p.1 (sym same ∙ sym r))) ∙ own x k p.0

          not_mine : (x : ℕ) → ((c == x) ≡ true × c ≡ x) ⊎ ((c == x) ≡ false × c ≢ x) → is_given x lane ≡ list_any (gives_from lane.number x) ls
          not_mine x (inl p) = f.flags x ∙ ap (λ b. (b && gives_context x l.body) || list_any (gives_from lane.number x) ls) (ne_eqb l.sender lane.number (λ r. let no : false ≡ true = sym e ∙ eq-eqb lane.number sender (sym r ∙ at) in cc))
          not_mine x (inr p) = flag x p.0
      by false e false q = record {
        size = f.size;
        has = λ x k. has_by x k (eqb_tells c x);
        flags = λ x. not_mine x (eqb_tells c x);
      }
        where
          has_by : (x : ℕ) → x < count → ((c == x) ≡ true × c ≡ x) ⊎ ((c == x) ≡ false × c ≢ x) → is_some (context_at x lane) ≡ (lane.number == after_give c to h x)
          has_by x k (inl p) =
              f.has x k ∙ (ap (λ (n : ℕ). lane.number == n) (ap h (sym p.1) ∙ sym holder) ∙ (e ∙ sym (ap (λ (n : ℕ). lane.number == n) (ap (λ b. cond b to (h x)) p.0) ∙ q)))
          has_by x k (inr p) = own x k p.0

          not_mine : (x : ℕ) → ((c == x) ≡ true × c ≡ x) ⊎ ((c == x) ≡ false × c ≢ x) → is_given x lane ≡ list_any (gives_from lane.number x) ls
          not_mine x (inl p) = f.flags x ∙ ap (λ b. (b && gives_context x l.body) || list_any (gives_from lane.number x) ls) (ne_eqb l.sender lane.number (λ r. let no : false ≡ true = sym e ∙ eq-eqb lane.number sender (sym r ∙ at) in cc))
          not_mine x (inr p) = flag x p.0

  pub goes_each : (all : List Lane) → AllByRecursion (Fits count h (l ∷ ls)) all → AllByRecursion (Fits count (after_give c to h) ls) (map (handed tick hd) all)
  goes_each [] f = tt
  goes_each (lane ∷ all) f = (goes lane f.0, goes_each all f.1)

handed_number : (tick : ℕ) (h : Handing) (lane : Lane) → (handed tick h lane).number ≡ lane.number
handed_number tick h lane = handed_part (λ (l : Lane). l.number) tick (λ kept l. refl) (λ c l. refl) (h ∷ []) lane

map_after : (tick : ℕ) (h : Handing) (hs : List Handing) (lanes : List Lane) → map (all_handed tick hs) (map (handed tick h) lanes) ≡ map (all_handed tick (h ∷ hs)) lanes
map_after tick h hs [] = refl
map_after tick h hs (lane ∷ lanes) = ap (λ (ls : List Lane). all_handed tick (h ∷ hs) lane ∷ ls) (map_after tick h hs lanes)

pub none_left : (tick : ℕ) (lanes : List Lane) → handed_over tick [] lanes ≡ lanes
none_left tick [] = refl
none_left tick (lane ∷ lanes) = ap (λ (ls : List Lane). lane ∷ ls) (none_left tick lanes)

-- ---- all that letters give

-- letters that do not give a context are fair whosever it is
fair_after : (count lanes c to : ℕ) (h : ℕ → ℕ) (ls : List Letter) → list_any (gives_one c) ls ≡ false → AreFair count lanes h ls → AreFair count lanes (after_give c to h) ls
fair_after count lanes c to h [] e f = tt
fair_after count lanes c to h (l ∷ ls) e f = (one l.body f.0 (or_left (gives_one c l) (list_any (gives_one c) ls) e), fair_after count lanes c to h ls (or_right (gives_one c l) (list_any (gives_one c) ls) e) f.1)
  where
    one : (body : Mail) → IsFair count lanes h l.sender body ls → gives_context c body ≡ false → IsFair count lanes (after_give c to h) l.sender body ls
    one (mails.Attach context spec) p q = tt
    one (mails.Complete reply) p q = tt
    one (mails.Cancelled k) p q = tt
    one (mails.Give d dest) p q =
        (p.0, ((p.1).0, (((p.1).1).0, ((((p.1).1).1).0 ∙ sym (ap (λ b. cond b to (h d)) (ne_eqb c d (λ r. let no : false ≡ true = sym q ∙ eq-eqb d c (sym r) in cc))), (((p.1).1).1).1))))

pub record AreLanes (count : ℕ) (h : ℕ → ℕ) (left : List Letter) (all : List Lane) : Type 0 where
  pub counted : Counted 0 all
  pub each : AllByRecursion (Fits count h left) all
  pub fair : AreFair count (length all) h left

-- whose a context is after letters
pub given_over : (count : ℕ) (left : List Letter) (h g : ℕ → ℕ) (all : List Lane) → ((c : ℕ) → g c ≡ h c) → AllByRecursion (Fits count h left) all → AllByRecursion (Fits count g left) all
given_over count left h g [] e f = tt
given_over count left h g (lane ∷ all) e f =
    (record { size = (f.0).size; has = λ c k. (f.0).has c k ∙ ap (λ (n : ℕ). lane.number == n) (sym (e c)); flags = (f.0).flags }, given_over count left h g all e f.1)

-- after a letter that gives none all is as before
pub record IsPlain (count tick : ℕ) (l : Letter) (ls : List Letter) (h : ℕ → ℕ) (all : List Lane) : Type 0 where
  pub none : handing_of l all ≡ None
  pub lanes : AreLanes count h ls all
  pub same : (c : ℕ) → given_by c l.body (h c) ≡ h c

-- a letter that gives a context: it goes over from the lane that has it to one that has it not
pub record Goes (count tick : ℕ) (l : Letter) (ls : List Letter) (h : ℕ → ℕ) (all : List Lane) : Type 0 where
  pub context : ℕ
  pub to : ℕ
  pub kept : Kept
  pub some : handing_of l all ≡ Some (record { sender = l.sender; to = to; kept = kept })
  pub lanes : AreLanes count (after_give context to h) ls (map (handed tick (record { sender = l.sender; to = to; kept = kept })) all)
  pub same : (c : ℕ) → given_by c l.body (h c) ≡ after_give context to h c
  pub number : kept.number ≡ context
  pub here : context < count
  pub below : l.sender < length all
  pub within : to < length all
  pub other : to ≢ l.sender
  pub holder : l.sender ≡ h context
  pub giver : (d : Lane) → handed_of context (get_or all l.sender d) ≡ Some kept

goes_by : (count tick : ℕ) (l : Letter) (ls : List Letter) (h : ℕ → ℕ) (d : Lane) (ds : List Lane) (c to : ℕ) → AreLanes count h (l ∷ ls) (d ∷ ds) → l.body ≡ mails.Give c to → IsFair count (length (d ∷ ds)) h l.sender (mails.Give c to) ls → Goes count tick l ls h (d ∷ ds)
goes_by count tick l ls h d ds c to a e p =
    let all : List Lane = d ∷ ds in
    let below : l.sender < length all = ((((p.1).1).1).1).0 in
    let giver : Lane = get_or all l.sender d in
    let fits : Fits count h (l ∷ ls) giver = each_at (Fits count h (l ∷ ls)) l.sender all d a.each below in
    let number : giver.number ≡ l.sender = number_at 0 l.sender all d a.counted below ∙ omega arith in
    let flag : is_given c giver ≡ true =
    fits.flags c ∙ ap (λ (b : Bool). b || list_any (gives_from giver.number c) ls) (ap (λ (b : Mail). (l.sender == giver.number) && gives_context c b) e ∙ (ap (λ b. b && (c == c)) (eq-eqb l.sender giver.number (sym number)) ∙ eq-eqb c c refl)) in
    let there : is_some (context_at c giver) ≡ true = fits.has c p.0 ∙ eq-eqb giver.number (h c) (number ∙ (((p.1).1).1).0) in
    let k = kept_here c giver (is_given c giver) (context_at c giver) flag there in
    let hd : Handing = record { sender = l.sender; to = to; kept = k.0 } in
    let same : length (map (handed tick hd) all) ≡ length all = simp length-map in
    record {
      context = c;
      to = to;
      kept = k.0;
      some = ap (λ (b : Mail). handing_by l.sender b all) e
          ∙ (ap (λ (o : Option Lane). handing l.sender to (option_and_then (handed_of c) o)) (found_at l.sender 0 l.sender all d (omega arith) a.counted below) ∙ ap (handing l.sender to) k.1);
      lanes = record {
        counted = counted_step (handed tick hd) (handed_number tick hd) 0 all a.counted;
        each = goes_each count (length all) tick c to l.sender h k.0 ls l refl e p.0 ((p.1).1).0 (((p.1).1).1).0 k.2 ((((p.1).1).1).1).1 all a.each;
        fair = subst (λ (n : ℕ). AreFair count n (after_give c to h) ls) (sym same) (fair_after count (length all) c to h ls ((((p.1).1).1).1).1 (a.fair).1);
      };
      same = λ x. ap (λ (b : Mail). given_by x b (h x)) e;
      number = k.2;
      here = p.0;
      below = below;
      within = (p.1).0;
      other = ((p.1).1).0;
      holder = (((p.1).1).1).0;
      giver = λ other. ap (handed_of c) (same_at all l.sender other d below) ∙ k.1;
    }
  where
    same_at : (xs : List Lane) (i : ℕ) (x y : Lane) → i < length xs → get_or xs i x ≡ get_or xs i y
    same_at [] i x y l = absurd (omega (arith, l))
    same_at (lane ∷ xs) zero x y l = refl
    same_at (lane ∷ xs) (suc i) x y l = same_at xs i x y (omega (arith, l))

plain_by : (count tick : ℕ) (l : Letter) (ls : List Letter) (h : ℕ → ℕ) (all : List Lane) → AreLanes count h (l ∷ ls) all → handing_of l all ≡ None → ((c : ℕ) → gives_one c l ≡ false) → ((c : ℕ) → given_by c l.body (h c) ≡ h c) → IsPlain count tick l ls h all
plain_by count tick l ls h all a none gives same = record { none = none; lanes = record { counted = a.counted; each = less all a.each; fair = (a.fair).1 }; same = same }
  where
    less : (all : List Lane) → AllByRecursion (Fits count h (l ∷ ls)) all → AllByRecursion (Fits count h ls) all
    less [] f = tt
    less (lane ∷ all) f = (record { size = (f.0).size; has = (f.0).has; flags = λ c. (f.0).flags c ∙ ungiven count lane.number c h l ls (gives c) }, less all f.1)

-- each letter does one or the other
pub by_letter : (count tick : ℕ) (l : Letter) (ls : List Letter) (h : ℕ → ℕ) (all : List Lane) → AreLanes count h (l ∷ ls) all → IsPlain count tick l ls h all ⊎ Goes count tick l ls h all
by_letter count tick l ls h all a = by all l.body refl a
  where
    plain : (all : List Lane) (body : Mail) → l.body ≡ body → AreLanes count h (l ∷ ls) all → handing_by l.sender body all ≡ None → ((c : ℕ) → gives_context c body ≡ false) → ((c : ℕ) → given_by c body (h c) ≡ h c) → IsPlain count tick l ls h all
    plain all body e a none gives same =
        plain_by count tick l ls h all a (ap (λ (b : Mail). handing_by l.sender b all) e ∙ none) (λ c. ap (gives_context c) e ∙ gives c) (λ c. ap (λ (b : Mail). given_by c b (h c)) e ∙ same c)

    by : (all : List Lane) (body : Mail) → l.body ≡ body → AreLanes count h (l ∷ ls) all → IsPlain count tick l ls h all ⊎ Goes count tick l ls h all
    by all (mails.Attach context spec) e a = inl (plain all (mails.Attach context spec) e a refl (λ c. refl) (λ c. refl))
    by all (mails.Complete reply) e a = inl (plain all (mails.Complete reply) e a refl (λ c. refl) (λ c. refl))
    by all (mails.Cancelled k) e a = inl (plain all (mails.Cancelled k) e a refl (λ c. refl) (λ c. refl))
    by [] (mails.Give c to) e a = let p = subst (λ (b : Mail). IsFair count 0 h l.sender b ls) e (a.fair).0 in absurd (omega (arith, ((((p.1).1).1).1).0))
    by (d ∷ ds) (mails.Give c to) e a = inr (goes_by count tick l ls h d ds c to a e (subst (λ (b : Mail). IsFair count (length (d ∷ ds)) h l.sender b ls) e (a.fair).0))

-- the first letter, and then the rest
over_by : (tick : ℕ) (l : Letter) (ls : List Letter) (all : List Lane) (o : Option Handing) → handing_of l all ≡ o → handed_over tick ls (moved tick o all) ≡ handed_over tick (l ∷ ls) all
over_by tick l ls all None e = ap (λ (o : Option Handing). map (all_handed tick (cons_option o (handings tick ls (moved tick o all)))) all) (sym e)
over_by tick l ls all (Some hd) e =
    map_after tick hd (handings tick ls (map (handed tick hd) all)) all ∙ ap (λ (o : Option Handing). map (all_handed tick (cons_option o (handings tick ls (moved tick o all)))) all) (sym e)

-- what is so of all lanes, and stays so where one context goes over, is so when all went
pub over_all : (count tick : ℕ) (Q : List Lane → Type 0) → ((l : Letter) (ls : List Letter) (h : ℕ → ℕ) (all : List Lane) → AreLanes count h (l ∷ ls) all → (g : Goes count tick l ls h all) → Q all → Q (map (handed tick (record { sender = l.sender; to = g.to; kept = g.kept })) all))
    → (left : List Letter) (h : ℕ → ℕ) (all : List Lane) → AreLanes count h left all → Q all → Q (handed_over tick left all)
over_all count tick Q f [] h all a q = subst Q (sym (none_left tick all)) q
over_all count tick Q f (l ∷ ls) h all a q = by (over_all count tick Q f ls) (by_letter count tick l ls h all a)
  where
    by : ((h : ℕ → ℕ) (all : List Lane) → AreLanes count h ls all → Q all → Q (handed_over tick ls all)) → IsPlain count tick l ls h all ⊎ Goes count tick l ls h all → Q (handed_over tick (l ∷ ls) all)
    by rest (inl p) = subst Q (over_by tick l ls all None p.none) (rest h all p.lanes q)
    by rest (inr g) =
        subst Q (over_by tick l ls all (Some (record { sender = l.sender; to = g.to; kept = g.kept })) g.some)
        (rest (after_give g.context g.to h) (map (handed tick (record { sender = l.sender; to = g.to; kept = g.kept })) all) g.lanes (f l ls h all a g q))

-- and each context is then the lane's to which letters gave it
pub over_lanes : (count tick : ℕ) (left : List Letter) (h : ℕ → ℕ) (all : List Lane) → AreLanes count h left all → AllByRecursion (Fits count (λ c. given_to c left (h c)) []) (handed_over tick left all)
over_lanes count tick [] h all a = subst (AllByRecursion (Fits count h [])) (sym (none_left tick all)) a.each
over_lanes count tick (l ∷ ls) h all a = by (over_lanes count tick ls) (by_letter count tick l ls h all a)
  where
    by : ((h : ℕ → ℕ) (all : List Lane) → AreLanes count h ls all → AllByRecursion (Fits count (λ c. given_to c ls (h c)) []) (handed_over tick ls all)) → IsPlain count tick l ls h all ⊎ Goes count tick l ls h all
        → AllByRecursion (Fits count (λ c. given_to c ls (given_by c l.body (h c))) []) (handed_over tick (l ∷ ls) all)
    by rest (inl p) =
        given_over count [] (λ c. given_to c ls (h c)) (λ c. given_to c ls (given_by c l.body (h c))) (handed_over tick (l ∷ ls) all) (λ c. ap (given_to c ls) (p.same c))
        (subst (AllByRecursion (Fits count (λ c. given_to c ls (h c)) [])) (over_by tick l ls all None p.none) (rest h all p.lanes))
    by rest (inr g) =
        let hd : Handing = record { sender = l.sender; to = g.to; kept = g.kept } in
        given_over count [] (λ c. given_to c ls (after_give g.context g.to h c)) (λ c. given_to c ls (given_by c l.body (h c))) (handed_over tick (l ∷ ls) all) (λ c. ap (given_to c ls) (g.same c))
        (subst (AllByRecursion (Fits count (λ c. given_to c ls (after_give g.context g.to h c)) [])) (over_by tick l ls all (Some hd) g.some) (rest (after_give g.context g.to h) (map (handed tick hd) all) g.lanes))
