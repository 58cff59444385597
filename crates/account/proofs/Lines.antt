-- The lines that a move writes.
use Rattle.std.proofs.Common.{◌≡◌, ◌≢◌, ℕ, zero, suc, ◌+◌, ◌<◌, ◌≤◌, ◌==◌, Bool, true, false, cond, Some, List, [], ◌∷◌, ◌++◌, map, length, set, get_or, refl, ap, sym, ◌∙◌, arith, append-nil, ltb-true, ltb-false}
use Rattle.std.specs.Prelude.{nat_lt}
use Rattle.std.proofs.lemmas.Bool.{ne_eqb}
use Rattle.lane_turn.specs.declared.line.Line.{Line}
use Rattle.lane_turn.specs.declared.line.Event.TheVariants as events
use Rattle.lane_turn.specs.Lane.{Lane, State}
use Rattle.lane_turn.specs.Handover.{Handing, let_go, handed, moved as gone_over, without_context, taken_over}
use Rattle.lane_turn.specs.Traces.{Grows, IsOf}
use Rattle.account.specs.Within.{StandFrom}
use Rattle.tick_stepper.specs.Share.{lanes_in as lanes_of}
use Rattle.account.specs.Told.{trace_at, GrowsAt}
use Rattle.account.proofs.States.{lanes_set}

-- ---- one lane is another

at_set : (lanes : List Lane) (i : ℕ) (lane : Lane) → i < length lanes → trace_at i (set lanes i lane) ≡ lane.trace
at_set [] i lane h = absurd (omega (arith, h))
at_set (x ∷ lanes) zero lane h = refl
at_set (x ∷ lanes) (suc i) lane h = at_set lanes i lane (omega (arith, h))

at_other : (lanes : List Lane) (i k : ℕ) (lane : Lane) → k ≢ i → trace_at k (set lanes i lane) ≡ trace_at k lanes
at_other [] i k lane n = refl
at_other (x ∷ lanes) zero zero lane n = absurd (n refl)
at_other (x ∷ lanes) zero (suc k) lane n = refl
at_other (x ∷ lanes) (suc i) zero lane n = refl
at_other (x ∷ lanes) (suc i) (suc k) lane n = at_other lanes i k lane (λ e. n (ap suc e))

pub at_here : (states : List State) (i : ℕ) (d : State) → i < length states → trace_at i (lanes_of states) ≡ (get_or states i d).lane.trace
at_here [] i d h = absurd (omega (arith, h))
at_here (x ∷ states) zero d h = refl
at_here (x ∷ states) (suc i) d h = at_here states i d (omega (arith, h))

lanes_long : (states : List State) (i : ℕ) → i < length states → i < length (lanes_of states)
lanes_long [] i h = absurd (omega (arith, h))
lanes_long (x ∷ states) zero h = omega arith
lanes_long (x ∷ states) (suc i) h = let more = lanes_long states i (omega (arith, h)) in omega (arith, more)

grows_same : (tick : ℕ) (lines : List Line) → Grows (IsOf tick) lines lines
grows_same tick lines = record { more = []; lines = sym (append-nil lines); each = tt }

pub grows_put : (tick : ℕ) (states : List State) (i : ℕ) (d s : State) → i < length states → Grows (IsOf tick) (get_or states i d).lane.trace s.lane.trace → GrowsAt tick i (lanes_of states) (lanes_of (set states i s))
grows_put tick states i d s h g =
    let now : trace_at i (lanes_of (set states i s)) ≡ s.lane.trace = ap (trace_at i) (lanes_set states i s) ∙ at_set (lanes_of states) i s.lane (lanes_long states i h) in
    record {
      lines = record { more = g.more; lines = now ∙ (g.lines ∙ ap (λ (ls : List Line). ls ++ g.more) (sym (at_here states i d h))); each = g.each };
      others = λ other n. ap (trace_at other) (lanes_set states i s) ∙ at_other (lanes_of states) i other s.lane n;
    }

-- ---- a context goes over

-- the lane that takes it over writes so
got_lines : (tick : ℕ) (h : Handing) (lane : Lane) → Grows (IsOf tick) lane.trace (handed tick h lane).trace
got_lines tick h lane = by_to (lane.number == h.sender) ((let_go h lane).number == h.to)
  where
    left : (b : Bool) → (cond b (without_context h.kept.number lane) lane).trace ≡ lane.trace
    left true = refl
    left false = refl

    took : (now : Lane) → now.trace ≡ lane.trace → (b : Bool) → Grows (IsOf tick) lane.trace (cond b (taken_over tick h.kept now) now).trace
    took now e true = record { more = (record { tick = tick; event = events.Hold h.kept.number }) ∷ []; lines = ap (λ (ls : List Line). ls ++ (record { tick = tick; event = events.Hold h.kept.number }) ∷ []) e; each = (refl, tt) }
    took now e false = record { more = []; lines = e ∙ sym (append-nil lane.trace); each = tt }

    by_to : (b c : Bool) → Grows (IsOf tick) lane.trace (handed tick h lane).trace
    by_to b c = took (let_go h lane) (left (lane.number == h.sender)) ((let_go h lane).number == h.to)

other_lines : (tick : ℕ) (h : Handing) (lane : Lane) → lane.number ≢ h.to → (handed tick h lane).trace ≡ lane.trace
other_lines tick h lane n = took (let_go h lane) (left (lane.number == h.sender)) ((let_go h lane).number == h.to) (ne_eqb (let_go h lane).number h.to (λ e. n (sym (same (lane.number == h.sender)) ∙ e)))
  where
    left : (b : Bool) → (cond b (without_context h.kept.number lane) lane).trace ≡ lane.trace
    left true = refl
    left false = refl

    same : (b : Bool) → (cond b (without_context h.kept.number lane) lane).number ≡ lane.number
    same true = refl
    same false = refl

    took : (now : Lane) → now.trace ≡ lane.trace → (b : Bool) → b ≡ false → (cond b (taken_over tick h.kept now) now).trace ≡ lane.trace
    took now e true f = cc
    took now e false f = e

at_number_grows : (tick : ℕ) (h : Handing) (k : ℕ) (lanes : List Lane) → Grows (IsOf tick) (trace_at k lanes) (trace_at k (map (handed tick h) lanes))
at_number_grows tick h k [] = grows_same tick []
at_number_grows tick h zero (lane ∷ lanes) = got_lines tick h lane
at_number_grows tick h (suc k) (lane ∷ lanes) = at_number_grows tick h k lanes

at_number_stays : (tick : ℕ) (h : Handing) (n k : ℕ) (lanes : List Lane) → StandFrom n lanes → n + k ≢ h.to → trace_at k (map (handed tick h) lanes) ≡ trace_at k lanes
at_number_stays tick h n k [] s ne = refl
at_number_stays tick h n zero (lane ∷ lanes) s ne = other_lines tick h lane (λ e. ne (omega (arith, e, s.0)))
at_number_stays tick h n (suc k) (lane ∷ lanes) s ne = at_number_stays tick h (n + 1) k lanes s.1 (λ e. ne (omega (arith, e)))

pub grows_over : (tick : ℕ) (h : Handing) (lanes : List Lane) → StandFrom 0 lanes → GrowsAt tick h.to lanes (gone_over tick (Some h) lanes)
grows_over tick h lanes s = record {
  lines = at_number_grows tick h h.to lanes;
  others = λ other n. at_number_stays tick h 0 other lanes s (λ e. n (omega (arith, e)));
}

-- ---- how many lines there are

lines_past : (states : List State) (n : ℕ) → length states ≤ n → trace_at n (lanes_of states) ≡ []
lines_past [] n h = refl
lines_past (x ∷ states) zero h = absurd (omega (arith, h))
lines_past (x ∷ states) (suc n) h = lines_past states n (omega (arith, h))

pub lines_none : (states : List State) (n : ℕ) → false ≡ nat_lt n (length states) → trace_at n (lanes_of states) ≡ []
lines_none states n e = lines_past states n (ltb-false n (length states) (sym e))

pub lines_some : (states : List State) (n : ℕ) (s : State) → true ≡ nat_lt n (length states) → s ≡ get_or states n s → trace_at n (lanes_of states) ≡ s.lane.trace
lines_some states n s e f = at_here states n s (ltb-true n (length states) (sym e)) ∙ ap (λ (k : State). k.lane.trace) (sym f)

-- ---- the one in a place

pub at_put : (states : List State) (i : ℕ) (s : State) → i < length states → trace_at i (lanes_of (set states i s)) ≡ s.lane.trace
at_put states i s h = ap (trace_at i) (lanes_set states i s) ∙ at_set (lanes_of states) i s.lane (lanes_long states i h)

pub same_there : (states : List State) (i : ℕ) (d e : State) → i < length states → get_or states i d ≡ get_or states i e
same_there [] i d e h = absurd (omega (arith, h))
same_there (x ∷ states) zero d e h = refl
same_there (x ∷ states) (suc i) d e h = same_there states i d e (omega (arith, h))
