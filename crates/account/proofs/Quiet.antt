-- Moves of which nothing is told.
use Rattle.std.proofs.Common.{◌≡◌, ℕ, zero, suc, ◌+◌, ◌<◌, ◌≤◌, true, false, Option, Some, None, is_some, List, [], ◌∷◌, length, take, drop, get_or, refl, ap, sym, ◌∙◌, subst}
use Rattle.std.specs.Prelude.{Result, Ok, Err, IfOk, IfSome}
use Rattle.std.specs.Option.{option_and_then}
use Rattle.std.proofs.lemmas.List.{drop_more, drop_all}
use Rattle.loop_script.specs.declared.plan.Plan.{Plan}
use Rattle.post_office.specs.declared.letter.Letter.{Letter}
use Rattle.post_office.specs.declared.letter.Body.TheVariants as mails
use Rattle.lane_turn.specs.Lane.{Lane, Kept}
use Rattle.lane_turn.specs.Handover.{Handing, handing, handing_by, handing_of, moved as gone_over}
use Rattle.tick_stepper.specs.Account.{Place, Giving, Bringing, started, moved, lanes_in}
use Rattle.account.specs.declared.going.Going.{Going}
use Rattle.account.specs.declared.going.Phase.TheVariants as phases
use Rattle.account.specs.declared.gift.Gift.{Gift}
use Rattle.account.specs.declared.moment.Deed.TheVariants as deeds
use Rattle.account.specs.declared.moment.Moment.{Moment}
use Rattle.account.specs.Gifts.{gift_of}
use Rattle.account.specs.Within.{StandFrom}
use Rattle.account.specs.Standing.{turning_from, place_of}
use Rattle.tick_stepper.specs.Share.{lanes_in as lanes_of}
use Rattle.account.specs.Told.{told, told_gift, told_move, Spot, goes_on, quiet_by, quiet, quiet_moves, IsQuietTo, GrowsAt, TellsNext, TellsNothing, IsMoment, spot_of, HasPassed, HasGone}
use Rattle.account.specs.Course.{Course}
use Rattle.account.proofs.Lined.{gift_goes}
use Rattle.account.proofs.Lines.{grows_over}
use Rattle.account.proofs.Moments.{moment_of, tells_lines}
use Rattle.account.proofs.Goings.{place_same, giving_place}

-- ---- one after another

pub not_yet : (script : Plan) (s : Spot) → IsQuietTo script s s
not_yet script s = record { moves = 0; comes = refl }

pub one_more : (script : Plan) (a b c : Spot) → IsQuietTo script a b → quiet script b ≡ Some c → IsQuietTo script a c
one_more script a b c q e = record { moves = suc q.moves; comes = ap (option_and_then (quiet script)) q.comes ∙ e }

pub both_ways : (script : Plan) (a b c : Spot) → IsQuietTo script a b → IsQuietTo script b c → IsQuietTo script a c
both_ways script a b c q r = by r.moves c r.comes
  where
    same_spot : (s t : Spot) → Some s ≡ Some t → s ≡ t
    same_spot s t e = cc

    last : (t : Spot) (o : Option Spot) → ((s : Spot) → o ≡ Some s → IsQuietTo script a s) → option_and_then (quiet script) o ≡ Some t → IsQuietTo script a t
    last t None f e = let no : None ≡ Some t = e in cc
    last t (Some s) f e = one_more script a s t (f s refl) e

    by : (n : ℕ) (t : Spot) → quiet_moves script n b ≡ Some t → IsQuietTo script a t
    by zero t e = subst (IsQuietTo script a) (same_spot b t e) q
    by (suc n) t e = last t (quiet_moves script n b) (λ s k. by n s k) e

pub quiet_step : (script : Plan) (tick : ℕ) (p q : Place) → told script tick p ≡ None → moved script tick p ≡ Some q → quiet script (record { tick = tick; place = p }) ≡ Some (record { tick = tick; place = q })
quiet_step script tick p q none goes = ap (quiet_by script tick p) none ∙ ap (λ (o : Option Place). Some (goes_on tick p o)) goes

pub quiet_end : (script : Plan) (tick : ℕ) (p : Place) → told script tick p ≡ None → moved script tick p ≡ None → quiet script (record { tick = tick; place = p }) ≡ Some (record { tick = tick + 1; place = started (lanes_in p) })
quiet_end script tick p none last = ap (quiet_by script tick p) none ∙ ap (λ (o : Option Place). Some (goes_on tick p o)) last

-- ---- what is told after a quiet beginning

pub tells_later : (script : Plan) (tick : ℕ) (before between now : Place) (m : Moment) → IsQuietTo script (record { tick = tick; place = before }) (record { tick = tick; place = between }) → lanes_in between ≡ lanes_in before
    → TellsNext script tick between now m → TellsNext script tick before now m
tells_later script tick before between now m q same t = record { place = t.place; quiet = both_ways script _ _ _ q t.quiet; lanes = t.lanes ∙ same; is = t.is }

pub nothing_later : (script : Plan) (tick : ℕ) (before between now : Place) → IsQuietTo script (record { tick = tick; place = before }) (record { tick = tick; place = between }) → lanes_in between ≡ lanes_in before
    → TellsNothing script tick between now → TellsNothing script tick before now
nothing_later script tick before between now q same t = record { quiet = both_ways script _ _ _ q t.quiet; lanes = t.lanes ∙ same; none = t.none; last = t.last }

pub tells_now : (script : Plan) (tick : ℕ) (before now : Place) (m : Moment) → IsMoment script tick before now m → TellsNext script tick before now m
tells_now script tick before now m is = record { place = before; quiet = not_yet script _; lanes = refl; is = is }

-- ---- when nothing is told

pub turned_quiet : (script : Plan) (tick n : ℕ) (g : Going) → g.phase ≡ phases.Turning n → length (lanes_of g.lanes.items) ≤ n → told script tick (place_of g) ≡ None
turned_quiet script tick n g gp all =
    let lanes : List Lane = lanes_of g.lanes.items in
    ap (told script tick) (place_same refl refl refl gp ∙ ap (λ (w : List Lane). turning_from (take n lanes) w g.begun g.letters.items) (drop_all n lanes all))

pub gone_quiet : (script : Plan) (tick k : ℕ) (g : Going) → g.phase ≡ phases.Giving k → length g.letters.items ≤ k → told script tick (place_of g) ≡ None
gone_quiet script tick k g gp all = ap (told script tick) (giving_place g k gp ∙ ap (λ (left : List Letter). Giving (lanes_of g.lanes.items) left g.letters.items) (drop_all k g.letters.items all))

pub passed_quiet : (script : Plan) (tick n k : ℕ) (g : Going) → g.phase ≡ phases.Bringing n k → length g.letters.items ≤ k → told script tick (place_of g) ≡ None
passed_quiet script tick n k g gp all =
    ap (told script tick) (place_same {p = g.begun} refl refl refl gp ∙ ap (λ (left : List Letter). Bringing (take n (lanes_of g.lanes.items)) (drop n (lanes_of g.lanes.items)) left g.letters.items) (drop_all k g.letters.items all))
    ∙ by (drop n (lanes_of g.lanes.items))
  where
    by : (w : List Lane) → told script tick (Bringing (take n (lanes_of g.lanes.items)) w [] g.letters.items) ≡ None
    by [] = refl
    by (lane ∷ w) = refl

-- all lanes have all letters
pub brought_end : (script : Plan) (tick n k : ℕ) (g : Going) → g.phase ≡ phases.Bringing n k → length (lanes_of g.lanes.items) ≤ n → TellsNothing script tick (place_of g) (place_of g)
brought_end script tick n k g gp all =
    let lanes : List Lane = lanes_of g.lanes.items in
    let was : place_of g ≡ Bringing (take n lanes) [] (drop k g.letters.items) g.letters.items =
    place_same {p = g.begun} refl refl refl gp ∙ ap (λ (w : List Lane). Bringing (take n lanes) w (drop k g.letters.items) g.letters.items) (drop_all n lanes all) in
    record { quiet = not_yet script _; lanes = refl; none = ap (told script tick) was; last = ap (moved script tick) was }

-- ---- a letter that gives a context

giving_first : (g : Going) (k : ℕ) (one : Letter) → g.phase ≡ phases.Giving k → k < length g.letters.items
    → place_of g ≡ Giving (lanes_of g.lanes.items) (get_or g.letters.items k one ∷ drop (k + 1) g.letters.items) g.letters.items
giving_first g k one gp h = giving_place g k gp ∙ ap (λ (left : List Letter). Giving (lanes_of g.lanes.items) left g.letters.items) (drop_more g.letters.items k one h)

-- it gives none
pub hand_quiet : (script : Plan) (tick k : ℕ) (g : Going) (one : Letter) → g.phase ≡ phases.Giving k → k < length g.letters.items → gift_of (get_or g.letters.items k one) ≡ None → told script tick (place_of g) ≡ None
hand_quiet script tick k g one gp h none =
    ap (told script tick) (giving_first g k one gp h) ∙ ap (λ (o : Option Gift). told_gift o (handing_of (get_or g.letters.items k one) (lanes_of g.lanes.items))) none

handed_to : (sender to : ℕ) (o : Option Kept) (h : Handing) → handing sender to o ≡ Some h → h.to ≡ to
handed_to sender to None h e = let no : None ≡ Some h = e in cc
handed_to sender to (Some kept) h e = sym (ap (λ (o : Option Handing). to_of o) e)
  where
    to_of : Option Handing → ℕ
    to_of None = to
    to_of (Some x) = x.to

-- it hands one over
pub hand_moment : (script : Plan) (tick k : ℕ) (g h : Going) (one : Letter) (gift : Gift) → g.phase ≡ phases.Giving k → k < length g.letters.items → gift_of (get_or g.letters.items k one) ≡ Some gift
    → is_some (handing_by gift.from (mails.Give gift.context gift.to) (lanes_of g.lanes.items)) ≡ true → moved script tick (place_of g) ≡ Some (place_of h)
    → lanes_of h.lanes.items ≡ gone_over tick (handing_of (get_or g.letters.items k one) (lanes_of g.lanes.items)) (lanes_of g.lanes.items) → StandFrom 0 (lanes_of g.lanes.items)
    → IsMoment script tick (place_of g) (place_of h) (moment_of tick gift.to (deeds.HandedOver gift.context gift.from) (lanes_of g.lanes.items) (lanes_of h.lanes.items))
hand_moment script tick k g h one gift gp low gives went goes there stand = by (handing_of letter lanes) refl
  where
    lanes : List Lane
    lanes = lanes_of g.lanes.items

    letter : Letter
    letter = get_or g.letters.items k one

    same : handing_by gift.from (mails.Give gift.context gift.to) lanes ≡ handing_of letter lanes
    same = gift_goes letter lanes gift gives

    by : (o : Option Handing) → handing_of letter lanes ≡ o → IsMoment script tick (place_of g) (place_of h) (moment_of tick gift.to (deeds.HandedOver gift.context gift.from) lanes (lanes_of h.lanes.items))
    by None e = let no : false ≡ true = sym (ap (λ (o : Option Handing). is_some o) (same ∙ e)) ∙ went in cc
    by (Some hd) e =
        let was = giving_first g k one gp low in
        let to : hd.to ≡ gift.to = handed_to gift.from gift.to _ hd (same ∙ e) in
        let over : GrowsAt tick gift.to lanes (gone_over tick (Some hd) lanes) = subst (λ (n : ℕ). GrowsAt tick n lanes (gone_over tick (Some hd) lanes)) to (grows_over tick hd lanes stand) in
        let grows : GrowsAt tick gift.to lanes (lanes_of h.lanes.items) = subst (GrowsAt tick gift.to lanes) (sym (there ∙ ap (λ (o : Option Handing). gone_over tick o lanes) e)) over in
        record {
          goes = ap (told_move script tick) was ∙ (ap (moved script tick) (sym was) ∙ goes);
          tells = ap (told script tick) was ∙ (λ j. told_gift (gives j) (e j));
          when = refl;
          lines = tells_lines tick gift.to (deeds.HandedOver gift.context gift.from) g h grows;
        }

-- ---- answers

pub ok_some_weaker : {E : Type 0} {P Q : Moment → Type 0} (r : Result (Option Moment) E) → ((m : Moment) → P m → Q m) → IfOk r (λ o. IfSome o P) → IfOk r (λ o. IfSome o Q)
ok_some_weaker (Ok None) f h = tt
ok_some_weaker (Ok (Some m)) f h = f m h
ok_some_weaker (Err e) f h = tt

-- ---- over a run

pub stood : (a : Course) → HasPassed a a
stood a = record { quiet = not_yet a.script (spot_of a); lanes = refl }

passed_in : (a b : Course) (script : Plan) → script ≡ b.script → HasPassed a b → IsQuietTo script (spot_of a) (spot_of b)
passed_in a b script e p = subst (λ (s : Plan). IsQuietTo s (spot_of a) (spot_of b)) (sym e) p.quiet

pub passed_on : (a b c : Course) → c.script ≡ b.script → HasPassed a b → HasPassed b c → HasPassed a c
passed_on a b c e p q = record { quiet = both_ways c.script _ _ _ (passed_in a b c.script e p) q.quiet; lanes = q.lanes ∙ p.lanes }

pub gone_on : (a b c : Course) (m : Moment) → c.script ≡ b.script → HasPassed a b → HasGone b c m → HasGone a c m
gone_on a b c m e p g = record { place = g.place; quiet = both_ways c.script _ _ _ (passed_in a b c.script e p) g.quiet; lanes = g.lanes ∙ p.lanes; is = g.is }
