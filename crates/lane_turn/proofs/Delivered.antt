-- What letters do to a lane.
use Rattle.std.proofs.Common.{◌≡◌, ◌||◌, false, ap, Some, None, ℕ, suc, ◌+◌, ◌*◌, ◌≤◌, List, [], ◌∷◌, length, refl, sym, ◌∙◌, arith, subst, Bool, Option}
use Rattle.std.specs.List.{AllByRecursion}
use Rattle.cancel_view.specs.Seen.{Seen, has}
use Rattle.loop_script.specs.declared.plan.Plan.{Plan}
use Rattle.loop_script.specs.Parts.{time_of}
use Rattle.source_rows.specs.Rows.{attached}
use Rattle.task_steps.specs.declared.entry.Reply.{Reply}
use Rattle.post_office.specs.declared.letter.Letter.{Letter}
use Rattle.post_office.specs.declared.letter.Body.{Body}
use Rattle.post_office.specs.declared.letter.Body.TheVariants.{Attach, Complete, Cancelled, Give}
use Rattle.lane_turn.specs.declared.line.Event.TheVariants as events
use Rattle.lane_turn.specs.Lane.{Lane, context_at, next_id, with_rows, edited, written, is_own}
use Rattle.lane_turn.specs.Deliver.{reply_spec, holding, arrived, received_body, received, received_all}
use Rattle.lane_turn.specs.Turn.{nest_work, row_count}
use Rattle.lane_turn.specs.Sound.{Bounded, IsReady}
use Rattle.lane_turn.proofs.Mild.{Mild, quiet, either, mild_edit, mild_attached, mild_plain, plain_cancel, within_weaker}
use Rattle.lane_turn.proofs.Steady.{told_by, given_by, given_with, Steady, still, kept_held, steady_either, steady_told_cancel}
use Rattle.lane_turn.specs.Views.{tells_of}

-- what is written or held beside
mild_beside : (lane a b : Lane) → Mild lane a → b.contexts ≡ a.contexts → b.frames ≡ a.frames → b.view ≡ a.view → Mild lane b
mild_beside lane a b h c f v = record {
  rows = subst (λ x. row_count x ≤ row_count lane.contexts + 1) (sym c) h.rows;
  frames = subst (λ x. nest_work x ≤ nest_work lane.frames + row_count lane.contexts + 2) (sym f) h.frames;
  within = λ m w. let i = h.within m w in record {
    contexts = subst (AllByRecursion (Bounded (m + 2))) (sym c) i.contexts;
    frames = subst (λ x. length x ≤ m + 2) (sym f) i.frames;
    handlers = subst (λ (x : Seen). x.next_id ≤ m + 2) (sym v) i.handlers;
  };
}

arrived_mild : (script : Plan) (tick sender : ℕ) (reply : Reply) (lane : Lane) → Mild lane (arrived script tick sender reply lane)
arrived_mild script tick sender reply lane =
    let now : ℕ = time_of script tick in
    let id : ℕ = next_id (context_at reply.ctx lane) in
    let there : Lane = edited reply.ctx (attached (reply_spec reply) now) lane in
    let after : Lane = written tick (events.Arrive reply.ctx id) (holding reply.ctx id sender reply there) in
    either lane after lane (is_own reply.ctx lane)
    (mild_beside lane there after (mild_edit lane reply.ctx (attached (reply_spec reply) now) 1 2 (omega arith) (omega arith) (mild_attached (reply_spec reply) now)) refl refl refl)
    (quiet lane lane refl refl (omega arith))

received_mild : (script : Plan) (tick sender : ℕ) (body : Body) (lane : Lane) → Mild lane (received_body script tick sender body lane)
received_mild script tick sender (Attach context spec) lane =
    let now : ℕ = time_of script tick in
    let there : Lane = edited context (attached spec now) lane in
    let after : Lane = written tick (events.Arrive context (next_id (context_at context lane))) there in
    either lane after lane (is_own context lane)
    (mild_beside lane there after (mild_edit lane context (attached spec now) 1 2 (omega arith) (omega arith) (mild_attached spec now)) refl refl refl)
    (quiet lane lane refl refl (omega arith))
received_mild script tick sender (Complete reply) lane = arrived_mild script tick sender reply lane
received_mild script tick sender (Cancelled c) lane = mild_plain lane _ (plain_cancel script tick c lane)
received_mild script tick sender (Give context to) lane = quiet lane lane refl refl (omega arith)

-- a letter that a lane gets gives nothing of its own
abbrev pub got_mail : Body → Option Body
got_mail (Attach context spec) = Some (Attach context spec)
got_mail (Complete reply) = Some (Complete reply)
got_mail (Cancelled c) = Some (Cancelled c)
got_mail (Give context to) = None

pub got_tells : (c : ℕ) (body : Body) → told_by c (got_mail body) ≡ tells_of c body
got_tells c (Attach context spec) = refl
got_tells c (Complete reply) = refl
got_tells c (Cancelled d) = refl
got_tells c (Give context to) = refl

pub got_given : (body : Body) (given : List Bool) → given_with (got_mail body) given ≡ given
got_given (Attach context spec) given = refl
got_given (Complete reply) given = refl
got_given (Cancelled c) given = refl
got_given (Give context to) given = refl

-- a letter that tells of no cancellable, and gives no context
untold : (body : Body) (lane after : Lane) → ((c : ℕ) → tells_of c body ≡ false) → ((given : List Bool) → given_by body given ≡ given) → Steady 0 None lane after → Steady 0 (Some body) lane after
untold body lane after f g h = record {
  number = h.number;
  tick = h.tick;
  view = h.view;
  next = h.next;
  few = h.few;
  seen = λ c l. h.seen c l ∙ sym (ap (λ x. x || has c lane.view) (f c));
  holds = h.holds;
  given = h.given ∙ sym (g lane.given);
}

pub received_steady : (script : Plan) (tick sender : ℕ) (body : Body) (lane : Lane) → Steady 0 (got_mail body) lane (received_body script tick sender body lane)
received_steady script tick sender (Attach context spec) lane =
    untold (Attach context spec) lane _ (λ c. refl) (λ g. refl) (steady_either 0 None lane _ _ _ (still 0 lane _ refl refl refl refl (kept_held (with_rows (attached spec (time_of script tick))) lane.contexts context)) (still 0 lane _ refl refl refl refl refl))
received_steady script tick sender (Complete reply) lane =
    untold (Complete reply) lane _ (λ c. refl) (λ g. refl) (steady_either 0 None lane _ _ _ (still 0 lane _ refl refl refl refl (kept_held (with_rows (attached (reply_spec reply) (time_of script tick))) lane.contexts reply.ctx)) (still 0 lane _ refl refl refl refl refl))
received_steady script tick sender (Cancelled c) lane = steady_told_cancel script tick c lane
received_steady script tick sender (Give context to) lane = still 0 lane _ refl refl refl refl refl

ready_body : (script : Plan) (tick next m sender : ℕ) (body : Body) (lane : Lane) → IsReady script next m lane → IsReady script next (m + 2) (received_body script tick sender body lane)
ready_body script tick next m sender body lane r =
    let s = received_steady script tick sender body lane in
    record {
      within = (received_mild script tick sender body lane).within m r.within;
      view = s.view ∙ r.view;
      now = s.tick ∙ r.now;
      next = omega (arith, s.next, r.next);
      few = omega (arith, s.few, r.few);
    }

pub ready_received : (script : Plan) (tick next m : ℕ) (letter : Letter) (lane : Lane) → IsReady script next m lane → IsReady script next (m + 2) (received script tick letter lane)
ready_received script tick next m letter lane r = ready_body script tick next m letter.sender letter.body lane r

pub ready_weaker : (script : Plan) (next m n : ℕ) (lane : Lane) → m ≤ n → IsReady script next m lane → IsReady script next n lane
ready_weaker script next m n lane h r = record { within = within_weaker m n h lane r.within; view = r.view; now = r.now; next = r.next; few = r.few }

-- one letter more
pub ready_next : (script : Plan) (tick next m i sender : ℕ) (body : Body) (lane after : Lane) → after ≡ received_body script tick sender body lane → IsReady script next (m + 2 * i) lane → IsReady script next (m + 2 * (i + 1)) after
ready_next script tick next m i sender body lane after e r =
    subst (IsReady script next (m + 2 * (i + 1))) (sym e)
    (ready_weaker script next (m + 2 * i + 2) (m + 2 * (i + 1)) (received_body script tick sender body lane) (omega arith) (ready_body script tick next (m + 2 * i) sender body lane r))

pub ready-received_all : (script : Plan) (tick next m : ℕ) (letters : List Letter) (lane : Lane) → IsReady script next m lane → IsReady script next (m + 2 * length letters) (received_all script tick letters lane)
ready-received_all script tick next m [] lane r = ready_weaker script next m (m + 0) lane (omega arith) r
ready-received_all script tick next m (letter ∷ letters) lane r =
    ready_weaker script next (m + 2 + 2 * length letters) (m + 2 * suc (length letters)) _ (omega arith)
    (ready-received_all script tick next (m + 2) letters (received script tick letter lane) (ready_received script tick next m letter lane r))

-- no lane changes its number
pub received_number : (script : Plan) (tick : ℕ) (letters : List Letter) (lane : Lane) → (received_all script tick letters lane).number ≡ lane.number
received_number script tick [] lane = refl
received_number script tick (letter ∷ letters) lane =
    received_number script tick letters (received script tick letter lane) ∙ (received_steady script tick letter.sender letter.body lane).number
