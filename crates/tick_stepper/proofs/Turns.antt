-- What one step of a turn does, as the workers see it.
use Rattle.std.proofs.Common.{◌≡◌, ◌⊎◌, ℕ, ◌<◌, Option, Some, None, List, [], ◌∷◌, ◌++◌, length, map, drop, is_some, unwrap_or, sym, ap, ◌∙◌, inl, inr, ⊎_elim, arith, append-nil}
use Rattle.std.specs.List.{AllByRecursion}
use Rattle.std.proofs.Math.Seq.{drop-append_seam, drop-length}
use Rattle.loop_script.specs.declared.plan.Plan.{Plan}
use Rattle.post_office.specs.declared.letter.Letter.{Letter}
use Rattle.post_office.specs.declared.letter.Body.{Body}
use Rattle.lane_turn.specs.Lane.{Lane, Turn}
use Rattle.lane_turn.specs.Step.{step, letter, posted_with}
use Rattle.lane_turn.specs.Turn.{turned, finished}
use Rattle.lane_turn.proofs.Finish.{finished_on, finished_now}
use Rattle.lane_turn.proofs.Sends.{Sends}
use Rattle.lane_turn.proofs.Turns.{turned_number}
use Rattle.tick_stepper.specs.Order.{ByNumber}
use Rattle.tick_stepper.specs.Machine.{posted_by}
use Rattle.tick_stepper.proofs.Deals.{all_weaker}

-- ---- lanes stay in order

above_turned : (script : Plan) (tick n : ℕ) (lanes : List Lane) → AllByRecursion (λ lane. n < lane.number) lanes → AllByRecursion (λ lane. n < lane.number) (map (turned script tick) lanes)
above_turned script tick n [] h = tt
above_turned script tick n (lane ∷ lanes) h = ((let same = turned_number script tick lane in let above = h.0 in omega arith), above_turned script tick n lanes h.1)

pub turned_in_order : (script : Plan) (tick : ℕ) (lanes : List Lane) → ByNumber lanes → ByNumber (map (turned script tick) lanes)
turned_in_order script tick [] h = tt
turned_in_order script tick (lane ∷ lanes) h =
    let same = turned_number script tick lane in (
      all_weaker (λ (later : Lane). lane.number < later.number) (λ (later : Lane). (turned script tick lane).number < later.number) (λ later above. omega (arith, same, above)) _ (above_turned script tick lane.number lanes h.0),
      turned_in_order script tick lanes h.1,
    )

-- ---- a turn goes to its end

pub goes_to : (script : Plan) (tick : ℕ) (t u : Turn) → step script tick t ≡ Some u → finished script tick u ≡ finished script tick t
goes_to script tick t u e = ap (λ (o : Option Turn). finished script tick (unwrap_or o t)) (sym e) ∙ finished_on script tick t (ap is_some e)

pub is_over : (script : Plan) (tick : ℕ) (t : Turn) → step script tick t ≡ None → finished script tick t ≡ t
is_over script tick t e = finished_now script tick t (ap is_some e)

-- ---- a step posts nothing, or one letter

-- what stands behind a list, with what a step posts
behind : (tick sender number : ℕ) (before : List Letter) (mail : Option Body) → List Letter
behind tick sender number before mail = drop (length before) (posted_with tick sender number before mail)

none_or_one : (tick sender number : ℕ) (before : List Letter) (mail : Option Body) → (behind tick sender number before mail ≡ []) ⊎ ((x : Letter) × (behind tick sender number before mail ≡ x ∷ []))
unfolding behind
none_or_one tick sender number before None = inl (drop-length before)
none_or_one tick sender number before (Some body) = inr (letter tick sender number body, drop-append_seam before (letter tick sender number body ∷ []))

goes_behind : (tick sender number : ℕ) (before : List Letter) (mail : Option Body) → before ++ behind tick sender number before mail ≡ posted_with tick sender number before mail
unfolding behind
goes_behind tick sender number before None = ap (λ (l : List Letter). before ++ l) (drop-length before) ∙ append-nil before
goes_behind tick sender number before (Some body) = ap (λ (l : List Letter). before ++ l) (drop-append_seam before (letter tick sender number body ∷ []))

posted_behind : (script : Plan) (tick : ℕ) (t u : Turn) (s : Sends script tick t u) → posted_by t u ≡ behind tick t.lane.number t.sent t.posted s.mail
unfolding behind
posted_behind script tick t u s = ap (drop (length t.posted)) s.posted

pub posts_one : (script : Plan) (tick : ℕ) (t u : Turn) → Sends script tick t u → (posted_by t u ≡ []) ⊎ ((x : Letter) × (posted_by t u ≡ x ∷ []))
posts_one script tick t u s =
    let is = posted_behind script tick t u s in
    ⊎_elim
    (λ (none : behind tick t.lane.number t.sent t.posted s.mail ≡ []). inl (is ∙ none))
    (λ (one : (x : Letter) × (behind tick t.lane.number t.sent t.posted s.mail ≡ x ∷ [])). inr (one.0, is ∙ one.1))
    (none_or_one tick t.lane.number t.sent t.posted s.mail)

pub posts_on : (script : Plan) (tick : ℕ) (t u : Turn) → Sends script tick t u → t.posted ++ posted_by t u ≡ u.posted
posts_on script tick t u s = ap (λ (l : List Letter). t.posted ++ l) (posted_behind script tick t u s) ∙ goes_behind tick t.lane.number t.sent t.posted s.mail ∙ sym s.posted
