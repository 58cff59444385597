-- What letters bring to a lane, and what it holds and tells of that at each tick.
use Rattle.std.proofs.Common.{◌≡◌, ℕ, zero, suc, ◌+◌, ◌<◌, ◌==◌, ◌&&◌, Bool, true, false, cond, List, [], ◌∷◌, ◌++◌, length, refl, ap, sym, ◌∙◌, arith, subst}
use Rattle.std.specs.Prelude.{is_some}
use Rattle.std.specs.List.{AllByRecursion}
use Rattle.std.proofs.lemmas.List.{length-map, length_push}
use Rattle.std.proofs.lemmas.List.Sums.{sum_by-cons, sum_by_push}
use Rattle.loop_script.specs.declared.plan.Plan.{Plan}
use Rattle.loop_script.specs.declared.source.SourceSpec.{SourceSpec}
use Rattle.loop_script.specs.Parts.{time_of}
use Rattle.loop_script.specs.References.{sizes}
use Rattle.source_rows.specs.Rows.{attached}
use Rattle.task_steps.specs.declared.entry.Reply.{Reply}
use Rattle.post_office.specs.declared.letter.Letter.{Letter}
use Rattle.post_office.specs.declared.letter.Body.{Body}
use Rattle.post_office.specs.declared.letter.Body.TheVariants.{Attach, Complete, Cancelled, Give}
use Rattle.lane_turn.specs.declared.line.Event.TheVariants as events
use Rattle.lane_turn.specs.Lane.{Lane, context_at, next_id, with_rows, edited, written, is_own}
use Rattle.lane_turn.specs.Replies.{Replies, replies_at}
use Rattle.lane_turn.specs.Turn.{opening, open_replies, turned}
use Rattle.lane_turn.specs.declared.replies.Awaited.{Awaited}
use Rattle.lane_turn.specs.Deliver.{reply_spec, holding, arrived_source, received_body, received, received_all}
use Rattle.lane_turn.specs.Owed.{one_for, lane_under, none_goes}
use Rattle.lane_turn.proofs.Steady.{held_of}
use Rattle.lane_turn.specs.Taken.{results, awaited_in, awaited, brings, brought, brought_before}
use Rattle.lane_turn.proofs.Leaves.{Leaves, results_other, same, line, edit, leaves_trans, either, leaves_cancel}
use Rattle.lane_turn.proofs.Taking.{IsFresh, fresh_more, awaited_next, left}
use Rattle.lane_turn.proofs.Moving.{turned_moves}
use Rattle.lane_turn.proofs.Moves.{has_own, next_more}
use Rattle.lane_turn.proofs.Arrivals.{length_held, still_has}

-- ---- one letter

abbrev pub Gains : (s n : ℕ) → Bool → Lane → Lane → Type 0
Gains s n b lane after = IsFresh after × (results s n after.trace + awaited s n after.replies ≡ results s n lane.trace + awaited s n lane.replies + one_for b)

pub never : (x : Bool) → one_for (x && false) ≡ 0
never true = refl
never false = refl

pub never_both : (x y b : Bool) → b ≡ false → one_for (x && (y && b)) ≡ 0
never_both true true b e = ap one_for e
never_both true false b e = refl
never_both false y b e = refl

pub with_true : (x y : Bool) → one_for (x && (y && true)) ≡ one_for (x && y)
with_true true true = refl
with_true true false = refl
with_true false y = refl

gains_none : (s n : ℕ) (x : Bool) (lane after : Lane) → Leaves s n lane after → IsFresh lane → Gains s n (x && false) lane after
gains_none s n x lane after h f = let m = left s n lane after h in (m.fresh f, omega (arith, m.sum, never x))

reply_gains : (s n tick now sender : ℕ) (reply : Reply) (lane : Lane) (b : Bool) → is_own reply.ctx lane ≡ b → IsFresh lane →
    let id : ℕ = next_id (context_at reply.ctx lane) in
    Gains s n ((sender == s) && ((reply.task == n) && b)) lane (cond b (written tick (events.Arrive reply.ctx id) (holding reply.ctx id sender reply (edited reply.ctx (attached (reply_spec reply) now) lane))) lane)
reply_gains s n tick now sender reply lane true e f =
    let id : ℕ = next_id (context_at reply.ctx lane) in
    let there : Lane = edited reply.ctx (attached (reply_spec reply) now) lane in
    let a : Awaited = record { sender = sender; reply = reply } in
    let has : is_some (context_at reply.ctx lane) ≡ true = has_own reply.ctx lane e in
    let more : next_id (context_at reply.ctx there) ≡ id + 1 = next_more (with_rows (attached (reply_spec reply) now)) (λ c. refl) lane.contexts reply.ctx has in
    let h : Leaves s n lane there = edit s n lane reply.ctx (attached (reply_spec reply) now) (λ rows. omega arith) in
    let told = results_other s n tick (events.Arrive reply.ctx id) lane.trace refl in
    let held = awaited_next s n lane.contexts reply.ctx a lane.replies has f in
    (fresh_more lane.contexts there.contexts reply.ctx a lane.replies h.size h.rise more f, omega (arith, told, held, with_true (sender == s) (reply.task == n)))
reply_gains s n tick now sender reply lane false e f = (f, omega (arith, never_both (sender == s) (reply.task == n) false refl))

pub leaves_arrived : (s n tick now context : ℕ) (spec : SourceSpec) (lane : Lane) → Leaves s n lane (arrived_source tick now context spec lane)
leaves_arrived s n tick now context spec lane =
    let there : Lane = edited context (attached spec now) lane in
    either s n lane _ _ (is_own context lane)
    (leaves_trans s n lane there _ (edit s n lane context (attached spec now) (λ rows. omega arith)) (line s n there tick (events.Arrive context (next_id (context_at context lane))) refl))
    (same s n lane lane refl refl refl refl refl)

pub letter_gains : (s n : ℕ) (script : Plan) (tick sender : ℕ) (body : Body) (lane : Lane) → IsFresh lane → Gains s n ((sender == s) && brings n lane body) lane (received_body script tick sender body lane)
letter_gains s n script tick sender (Attach context spec) lane f = gains_none s n (sender == s) lane _ (leaves_arrived s n tick (time_of script tick) context spec lane) f
letter_gains s n script tick sender (Complete reply) lane f = reply_gains s n tick (time_of script tick) sender reply lane (is_own reply.ctx lane) refl f
letter_gains s n script tick sender (Cancelled c) lane f = gains_none s n (sender == s) lane _ (leaves_cancel s n script tick c lane) f
letter_gains s n script tick sender (Give context to) lane f = gains_none s n (sender == s) lane _ (same s n lane lane refl refl refl refl refl) f

-- ---- a delivery

pub brought_cons : (s n : ℕ) (home : Lane) (l : Letter) (ls : List Letter) → brought s n home (l ∷ ls) ≡ one_for ((l.sender == s) && brings n home l.body) + brought s n home ls
brought_cons s n home l ls = sum_by-cons (λ (l : Letter). cond ((l.sender == s) && brings n home l.body) 1 0) l ls

-- lanes that own the same contexts
abbrev pub OwnAlike : Lane → Lane → Type 0
OwnAlike lane home = (c : ℕ) → is_own c lane ≡ is_own c home

brings_alike : (n : ℕ) (lane home : Lane) → OwnAlike lane home → (body : Body) → brings n lane body ≡ brings n home body
brings_alike n lane home o (Attach context spec) = refl
brings_alike n lane home o (Complete reply) = ap (λ b. (reply.task == n) && b) (o reply.ctx)
brings_alike n lane home o (Cancelled c) = refl
brings_alike n lane home o (Give context to) = refl

pub received_gains : (s n : ℕ) (script : Plan) (tick : ℕ) (home : Lane) (letters : List Letter) (lane : Lane) → OwnAlike lane home → IsFresh lane →
    IsFresh (received_all script tick letters lane)
    × (results s n (received_all script tick letters lane).trace + awaited s n (received_all script tick letters lane).replies ≡ results s n lane.trace + awaited s n lane.replies + brought s n home letters)
received_gains s n script tick home [] lane o f = (f, omega arith)
received_gains s n script tick home (l ∷ ls) lane o f =
    let next : Lane = received script tick l lane in
    let one = letter_gains s n script tick l.sender l.body lane f in
    let rest = received_gains s n script tick home ls next (λ c. still_has c script tick l.sender l.body lane ∙ o c) one.0 in
    let alike = ap (λ b. one_for ((l.sender == s) && b)) (brings_alike n lane home o l.body) in
    (rest.0, omega (arith, one.1, rest.1, alike, brought_cons s n home l ls))

-- ---- a lane at each tick

-- at first nothing is held
open_size : (n : ℕ) → length (open_replies n) ≡ n
open_size zero = refl
open_size (suc n) = length_push (open_replies n) [] ∙ omega (arith, open_size n)

open_at : (n c : ℕ) → replies_at c (open_replies n) ≡ []
open_at zero c = refl
open_at (suc n) c = none_pushed (open_replies n) c (λ i. open_at n i)
  where
    none_pushed : (all : List Replies) (c : ℕ) → ((i : ℕ) → replies_at i all ≡ []) → replies_at c (all ++ [] ∷ []) ≡ []
    none_pushed [] zero h = refl
    none_pushed [] (suc c) h = refl
    none_pushed (es ∷ all) zero h = h zero
    none_pushed (es ∷ all) (suc c) h = none_pushed all c (λ i. h (suc i))

pub open_awaited : (s n m : ℕ) → awaited s n (open_replies m) ≡ 0
open_awaited s n zero = refl
open_awaited s n (suc m) = sum_by_push (awaited_in s n) (open_replies m) [] ∙ omega (arith, open_awaited s n m)

pub open_fresh : (script : Plan) (lane : ℕ) → IsFresh (opening script lane)
open_fresh script lane =
    let m : ℕ = (sizes script).contexts in
    let size : length (held_of (opening script lane).contexts) ≡ length (opening script lane).contexts = simp length-map in
    record {
      size = omega (arith, open_size m, size, length_held script lane m);
      given = λ c. subst (λ (es : Replies). AllByRecursion (λ e. e.0 < next_id (context_at c (opening script lane))) es) (sym (open_at m c)) tt;
    }

under_taken : (script : Plan) (mail : ℕ → List Letter) (lane s n tick : ℕ) →
    IsFresh (lane_under script mail none_goes lane tick)
    × (results s n (lane_under script mail none_goes lane tick).trace + awaited s n (lane_under script mail none_goes lane tick).replies ≡ brought_before script mail lane s n tick)
under_taken script mail lane s n zero = (open_fresh script lane, omega (arith, open_awaited s n (sizes script).contexts))
under_taken script mail lane s n (suc k) =
    let before : Lane = lane_under script mail none_goes lane k in
    let r = under_taken script mail lane s n k in
    let m = turned_moves s n script k before in
    let d = received_gains s n script k (turned script k before) (mail k) (turned script k before) (λ c. refl) (m.fresh r.0) in
    (d.0, omega (arith, r.1, m.sum, d.1))

pub taken_at : (script : Plan) (mail : ℕ → List Letter) (lane s n tick : ℕ) → results s n (lane_under script mail none_goes lane tick).trace + awaited s n (lane_under script mail none_goes lane tick).replies ≡ brought_before script mail lane s n tick
taken_at script mail lane s n tick = (under_taken script mail lane s n tick).1
