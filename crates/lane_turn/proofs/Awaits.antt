-- What a letter leaves of the replies that a context holds.
use Rattle.std.proofs.Common.{◌≡◌, ◌≢◌, inl, inr, ℕ, zero, suc, ◌<◌, ◌==◌, Bool, true, false, cond, Option, Some, None, List, [], ◌∷◌, length, slice_set, refl, ap, sym, ◌∙◌, arith, subst}
use Rattle.std.specs.Prelude.{is_some}
use Rattle.std.specs.Ordering.{nat_cmp, match_ordering, is_eq}
use Rattle.std.specs.declared.cmp.Ordering.{Ordering}
use Rattle.std.specs.declared.cmp.Ordering.TheVariants.{Less, Equal, Greater}
use Rattle.std.specs.BTreeMap.{is_at}
use Rattle.std.specs.Cmp.{nat_cmp_total, tied_itself}
use Rattle.std.proofs.lemmas.Bool.Decides.{eqb_tells}
use Rattle.std.proofs.lemmas.Map.Lookups.{exact_unsigned}
use Rattle.loop_script.specs.declared.plan.Plan.{Plan}
use Rattle.loop_script.specs.declared.source.SourceSpec.{SourceSpec}
use Rattle.loop_script.specs.Parts.{time_of}
use Rattle.source_rows.specs.Rows.{attached}
use Rattle.task_steps.specs.declared.entry.Reply.{Reply}
use Rattle.post_office.specs.declared.letter.Body.{Body}
use Rattle.post_office.specs.declared.letter.Body.TheVariants.{Attach, Complete, Cancelled, Give}
use Rattle.lane_turn.specs.declared.line.Event.TheVariants as events
use Rattle.lane_turn.specs.declared.replies.Awaited.{Awaited}
use Rattle.lane_turn.specs.Replies.{Replies, held_under, held_with, replies_at, reply_held, with_reply}
use Rattle.lane_turn.specs.Lane.{is_own, Lane, context_at, edited, next_id, written}
use Rattle.lane_turn.specs.Deliver.{reply_spec, holding, received_body}
use Rattle.lane_turn.specs.Arrivals.{Coming, coming_by}
use Rattle.lane_turn.proofs.Moves.{has_own}
use Rattle.lane_turn.proofs.Leaves.{own_within, leaves_cancel}
use Rattle.lane_turn.proofs.Taking.{AreGiven, IsFresh}
use Rattle.lane_turn.proofs.Brought.{leaves_arrived}
use Rattle.lane_turn.proofs.Handling.{Told}

-- ---- what is held under an id

equal_ids : (id : ℕ) → is_at (nat_cmp id) id ≡ true
equal_ids id = ap is_eq (tied_itself nat_cmp_total id)

other_ids : (j id : ℕ) → j ≢ id → is_at (nat_cmp j) id ≡ false
other_ids j id h = by (nat_cmp j id) (λ e. h (exact_unsigned j id e))
  where
    by : (o : Ordering) → o ≢ Equal → is_eq o ≡ false
    by Less g = refl
    by Equal g = absurd (g refl)
    by Greater g = refl

none_held : (next : ℕ) (es : Replies) → AreGiven next es → held_under next es ≡ None
none_held next [] h = refl
none_held next (e ∷ es) h = ap (λ b. cond b (Some e.1) (held_under next es)) (other_ids next e.0 (λ p. absurd (omega (arith, p, h.0)))) ∙ none_held next es h.1

held_here : (next : ℕ) (a : Awaited) (es : Replies) → AreGiven next es → held_under next (held_with next a es) ≡ Some a
held_here next a [] h = ap (λ b. cond b (Some a) None) (equal_ids next)
held_here next a (e ∷ es) h = by (held_here next a es h.1) (nat_cmp next e.0) (λ p. absurd (omega (arith, exact_unsigned next e.0 p, h.0)))
  where
    other : is_at (nat_cmp next) e.0 ≡ false
    other = other_ids next e.0 (λ p. absurd (omega (arith, p, h.0)))

    by : held_under next (held_with next a es) ≡ Some a → (o : Ordering) → o ≢ Equal → held_under next (match_ordering o ((next, a) ∷ e ∷ es) ((e.0, a) ∷ es) (e ∷ held_with next a es)) ≡ Some a
    by r Less g = ap (λ b. cond b (Some a) (held_under next (e ∷ es))) (equal_ids next)
    by r Equal g = absurd (g refl)
    by r Greater g = ap (λ b. cond b (Some e.1) (held_under next (held_with next a es))) other ∙ r

held_other : (next j : ℕ) (a : Awaited) (es : Replies) → j < next → AreGiven next es → held_under j (held_with next a es) ≡ held_under j es
held_other next j a [] l h = ap (λ b. cond b (Some a) None) (other_ids j next (λ p. absurd (omega (arith, p, l))))
held_other next j a (e ∷ es) l h = by (held_other next j a es l h.1) (nat_cmp next e.0) (λ p. absurd (omega (arith, exact_unsigned next e.0 p, h.0)))
  where
    by : held_under j (held_with next a es) ≡ held_under j es → (o : Ordering) → o ≢ Equal → held_under j (match_ordering o ((next, a) ∷ e ∷ es) ((e.0, a) ∷ es) (e ∷ held_with next a es)) ≡ held_under j (e ∷ es)
    by r Less g = ap (λ b. cond b (Some a) (held_under j (e ∷ es))) (other_ids j next (λ p. absurd (omega (arith, p, l))))
    by r Equal g = absurd (g refl)
    by r Greater g = ap (λ o. cond (is_at (nat_cmp j) e.0) (Some e.1) o) r

at_set : (all : List Replies) (context : ℕ) (es : Replies) → context < length all → replies_at context (slice_set all context es) ≡ es
at_set [] context es l = absurd (omega (arith, l))
at_set (x ∷ all) zero es l = refl
at_set (x ∷ all) (suc context) es l = at_set all context es (omega (arith, l))

at_other : (all : List Replies) (d context : ℕ) (es : Replies) → d ≢ context → replies_at context (slice_set all d es) ≡ replies_at context all
at_other [] d context es h = refl
at_other (x ∷ all) zero zero es h = absurd (h refl)
at_other (x ∷ all) zero (suc context) es h = refl
at_other (x ∷ all) (suc d) zero es h = refl
at_other (x ∷ all) (suc d) (suc context) es h = at_other all d context es (λ e. h (ap suc e))

-- ---- what a letter leaves of replies

abbrev Holds : (next : ℕ) → Option Coming → Replies → Type 0
Holds next None held = Unit {0}
Holds next (Some c) held = held_under next held ≡ c.reply

pub record Adds (context next : ℕ) (m : Option Coming) (lane after : Lane) : Type 0 where
  pub holds : Holds next m (replies_at context after.replies)
  pub keeps : (id : ℕ) → id < next → reply_held context id after.replies ≡ reply_held context id lane.replies

-- where no reply is held that was not held before
adds_same : (context : ℕ) (spec : SourceSpec) (b : Bool) (lane after : Lane) → IsFresh lane → after.replies ≡ lane.replies → Adds context (next_id (context_at context lane)) (cond b (Some (record { spec = spec; reply = None })) None) lane after
adds_same context spec true lane after f e = record {
  holds = ap (λ all. reply_held context (next_id (context_at context lane)) all) e ∙ none_held (next_id (context_at context lane)) (replies_at context lane.replies) (f.given context);
  keeps = λ id l. ap (λ all. reply_held context id all) e;
}
adds_same context spec false lane after f e = record { holds = tt; keeps = λ id l. ap (λ all. reply_held context id all) e }

adds_reply : (context d next sender : ℕ) (reply : Reply) (lane after : Lane) → next ≡ next_id (context_at d lane) → is_some (context_at d lane) ≡ true → IsFresh lane → Told d context
    → after.replies ≡ with_reply d next (record { sender = sender; reply = reply }) lane.replies
    → Adds context (next_id (context_at context lane)) (cond (d == context) (Some (record { spec = reply_spec reply; reply = Some (record { sender = sender; reply = reply }) })) None) lane after
adds_reply context d next sender reply lane after n e f (inl p) r =
    let a : Awaited = record { sender = sender; reply = reply } in
    let c : Coming = record { spec = reply_spec reply; reply = Some a } in
    let held : Replies = replies_at context lane.replies in
    let here : is_some (context_at context lane) ≡ true = subst (λ (k : ℕ). is_some (context_at k lane) ≡ true) p.1 e in
    let id : ℕ = next_id (context_at context lane) in
    let same : next ≡ id = n ∙ ap (λ (k : ℕ). next_id (context_at k lane)) p.1 in
    let set : replies_at context after.replies ≡ held_with id a held =
    ap (λ all. replies_at context all) r
    ∙ (ap (λ (k : ℕ). replies_at context (with_reply k next a lane.replies)) p.1
    ∙ (ap (λ (k : ℕ). replies_at context (with_reply context k a lane.replies)) same
    ∙ at_set lane.replies context (held_with id a held) (omega (arith, own_within lane.contexts context here, f.size)))) in
    subst (λ b. Adds context id (cond b (Some c) None) lane after) (sym p.0) (record {
      holds = ap (held_under id) set ∙ held_here id a held (f.given context);
      keeps = λ j l. ap (held_under j) set ∙ held_other id j a held l (f.given context);
    })
adds_reply context d next sender reply lane after n e f (inr p) r =
    let a : Awaited = record { sender = sender; reply = reply } in
    let c : Coming = record { spec = reply_spec reply; reply = Some a } in
    let set : replies_at context after.replies ≡ replies_at context lane.replies = ap (λ all. replies_at context all) r ∙ at_other lane.replies d context (held_with next a (replies_at d lane.replies)) p.1 in
    subst (λ b. Adds context (next_id (context_at context lane)) (cond b (Some c) None) lane after) (sym p.0) (record { holds = tt; keeps = λ j l. ap (held_under j) set })

adds_none : (context d : ℕ) (c : Coming) (lane : Lane) → is_own d lane ≡ false → is_own context lane ≡ true → Told d context → Adds context (next_id (context_at context lane)) (cond (d == context) (Some c) None) lane lane
adds_none context d c lane e k (inl p) = let no : false ≡ true = sym e ∙ (ap (λ (n : ℕ). is_own n lane) p.1 ∙ k) in cc
adds_none context d c lane e k (inr p) = subst (λ b. Adds context (next_id (context_at context lane)) (cond b (Some c) None) lane lane) (sym p.0) (record { holds = tt; keeps = λ j l. refl })

reply_adds : (context tick now sender : ℕ) (reply : Reply) (lane : Lane) (b : Bool) → is_own reply.ctx lane ≡ b → is_own context lane ≡ true → IsFresh lane →
    let id : ℕ = next_id (context_at reply.ctx lane) in
    Adds context (next_id (context_at context lane)) (cond (reply.ctx == context) (Some (record { spec = reply_spec reply; reply = Some (record { sender = sender; reply = reply }) })) None) lane
    (cond b (written tick (events.Arrive reply.ctx id) (holding reply.ctx id sender reply (edited reply.ctx (attached (reply_spec reply) now) lane))) lane)
reply_adds context tick now sender reply lane true e k f = adds_reply context reply.ctx (next_id (context_at reply.ctx lane)) sender reply lane _ refl (has_own reply.ctx lane e) f (eqb_tells reply.ctx context) refl
reply_adds context tick now sender reply lane false e k f = adds_none context reply.ctx (record { spec = reply_spec reply; reply = Some (record { sender = sender; reply = reply }) }) lane e k (eqb_tells reply.ctx context)

pub letter_adds : (context : ℕ) (script : Plan) (tick sender : ℕ) (body : Body) (lane : Lane) → is_own context lane ≡ true → IsFresh lane
    → Adds context (next_id (context_at context lane)) (coming_by context sender body) lane (received_body script tick sender body lane)
letter_adds context script tick sender (Attach d spec) lane k f = adds_same context spec (d == context) lane _ f (leaves_arrived 0 0 tick (time_of script tick) d spec lane).replies
letter_adds context script tick sender (Complete reply) lane k f = reply_adds context tick (time_of script tick) sender reply lane (is_own reply.ctx lane) refl k f
letter_adds context script tick sender (Cancelled c) lane k f =
    let same = (leaves_cancel 0 0 script tick c lane).replies in
    record { holds = tt; keeps = λ id l. ap (λ all. reply_held context id all) same }
letter_adds context script tick sender (Give c to) lane k f = record { holds = tt; keeps = λ id l. refl }
