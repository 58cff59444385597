-- The run of a script that gives no context is that in which none goes over.
use Rattle.std.proofs.Common.{◌≡◌, ℕ, zero, suc, true, false, cond, Option, Some, None, List, [], ◌∷◌, map, refl, ap, sym, ◌∙◌}
use Rattle.std.specs.List.{list_any, cons_option}
use Rattle.std.proofs.lemmas.Bool.{eq-eqb}
use Rattle.std.proofs.lemmas.List.Folds.{list_any-append}
use Rattle.loop_script.specs.declared.plan.Plan.{Plan}
use Rattle.loop_script.specs.Gives.{GivesNone}
use Rattle.loop_script.specs.Parts.{home_of}
use Rattle.post_office.specs.declared.letter.Letter.{Letter}
use Rattle.post_office.specs.declared.letter.Body.{Body as Mail}
use Rattle.post_office.specs.declared.letter.Body.TheVariants as mails
use Rattle.lane_turn.specs.Lane.{Lane, Turn}
use Rattle.lane_turn.specs.Step.{letter, posted_with}
use Rattle.lane_turn.specs.Turn.{begun, turned, out_of}
use Rattle.lane_turn.specs.Handover.{Handing, all_handed, handing_by, moved, handings, handed_over}
use Rattle.lane_turn.specs.Deliver.{received_all}
use Rattle.lane_turn.specs.Tick.{posted_at, lanes_at}
use Rattle.lane_turn.specs.Holding.{gives_context, given_by, given_to, holder_at, RunsStay}
use Rattle.lane_turn.proofs.Owning.{gives_maybe}
use Rattle.lane_turn.proofs.Sends.{Sends, step_tells}
use Rattle.lane_turn.proofs.Turns.{kept_finished}
use Rattle.lane_turn.proofs.Giving.{gives_one, any_push, or_false, or_left, or_right}
use Rattle.lane_turn.proofs.Between.{none_left}

-- letters that give no context
abbrev GiveNone : List Letter → Type 0
GiveNone letters = (c : ℕ) → list_any (gives_one c) letters ≡ false

-- ---- a turn

posts_none : (tick sender number : ℕ) (letters : List Letter) (mail : Option Mail) → GiveNone letters → ((c : ℕ) → gives_maybe c mail ≡ false) → GiveNone (posted_with tick sender number letters mail)
posts_none tick sender number letters None h m c = h c
posts_none tick sender number letters (Some body) h m c =
    any_push (gives_one c) letters (letter tick sender number body) ∙ or_false (list_any (gives_one c) letters) (gives_context c body) (h c) (m c)

gives_none_on : (script : Plan) (tick : ℕ) → GivesNone script → (t u : Turn) → Sends script tick t u → GiveNone t.posted → GiveNone u.posted
gives_none_on script tick g t u s h c = ap (list_any (gives_one c)) s.posted ∙ posts_none tick t.lane.number t.sent t.posted s.mail h (s.none g) c

turn_gives_none : (script : Plan) (tick : ℕ) (lane : Lane) → GivesNone script → GiveNone (out_of script tick lane)
turn_gives_none script tick lane g =
    kept_finished script tick (λ t. GiveNone t.posted) (λ t u e h. gives_none_on script tick g t u (step_tells script tick t u e) h) (begun tick lane) (λ c. refl)

turns_give_none : (script : Plan) (tick : ℕ) (lanes : List Lane) → GivesNone script → GiveNone (posted_at script tick lanes)
turns_give_none script tick [] g c = refl
turns_give_none script tick (lane ∷ lanes) g c =
    list_any-append (gives_one c) (out_of script tick lane) (posted_at script tick lanes)
    ∙ or_false (list_any (gives_one c) (out_of script tick lane)) (list_any (gives_one c) (posted_at script tick lanes)) (turn_gives_none script tick lane g c) (turns_give_none script tick lanes g c)

-- ---- between lanes

hands_none : (sender : ℕ) (body : Mail) (lanes : List Lane) → ((c : ℕ) → gives_context c body ≡ false) → handing_by sender body lanes ≡ None
hands_none sender (mails.Attach context spec) lanes n = refl
hands_none sender (mails.Complete reply) lanes n = refl
hands_none sender (mails.Cancelled c) lanes n = refl
hands_none sender (mails.Give context to) lanes n = let no : true ≡ false = sym (eq-eqb context context refl) ∙ n context in cc

no_handings : (tick : ℕ) (letters : List Letter) (lanes : List Lane) → GiveNone letters → handings tick letters lanes ≡ []
no_handings tick [] lanes n = refl
no_handings tick (l ∷ letters) lanes n =
    ap (λ (o : Option Handing). cons_option o (handings tick letters (moved tick o lanes))) (hands_none l.sender l.body lanes (λ c. or_left (gives_one c l) (list_any (gives_one c) letters) (n c)))
    ∙ no_handings tick letters lanes (λ c. or_right (gives_one c l) (list_any (gives_one c) letters) (n c))

-- letters that give none leave each lane what it has
none_goes : (tick : ℕ) (letters : List Letter) (lanes : List Lane) → GiveNone letters → handed_over tick letters lanes ≡ lanes
none_goes tick letters lanes n = ap (λ (hs : List Handing). map (all_handed tick hs) lanes) (no_handings tick letters lanes n) ∙ none_left tick lanes

-- ---- a run

-- letters that do not give a context leave it with its lane
kept_by : (context : ℕ) (body : Mail) (holder : ℕ) → gives_context context body ≡ false → given_by context body holder ≡ holder
kept_by context (mails.Give c to) holder n = ap (λ b. cond b to holder) n
kept_by context (mails.Attach c spec) holder n = refl
kept_by context (mails.Complete reply) holder n = refl
kept_by context (mails.Cancelled c) holder n = refl

kept_by_all : (context : ℕ) (letters : List Letter) (holder : ℕ) → list_any (gives_one context) letters ≡ false → given_to context letters holder ≡ holder
kept_by_all context [] holder n = refl
kept_by_all context (l ∷ letters) holder n =
    ap (given_to context letters) (kept_by context l.body holder (or_left (gives_one context l) (list_any (gives_one context) letters) n))
    ∙ kept_by_all context letters holder (or_right (gives_one context l) (list_any (gives_one context) letters) n)

pub holder_stays : (script : Plan) (tick context : ℕ) → GivesNone script → holder_at script context tick ≡ home_of script context
holder_stays script zero context g = refl
holder_stays script (suc tick) context g =
    let lanes : List Lane = lanes_at script tick in
    kept_by_all context (posted_at script tick lanes) (holder_at script context tick) (turns_give_none script tick lanes g context) ∙ holder_stays script tick context g

pub runs_stay : RunsStay
runs_stay script zero g = refl
runs_stay script (suc tick) g =
    let lanes : List Lane = lanes_at script tick in
    ap (map (received_all script tick (posted_at script tick lanes))) (none_goes tick (posted_at script tick lanes) (map (turned script tick) lanes) (turns_give_none script tick lanes g))
    ∙ ap (λ (ls : List Lane). map (received_all script tick (posted_at script tick ls)) (map (turned script tick) ls)) (runs_stay script tick g)
