-- The parts of a text, lane by lane.
use Rattle.std.proofs.Common.{◌≡◌, ◌≤◌, ℕ, zero, suc, ◌+◌, Some, List, [], ◌∷◌, ◌++◌, length, drop, take, sym, ap, ◌∙◌, subst, arith, append-nil, append_assoc}
use Rattle.std.proofs.lemmas.Grind.{flat_map-append}
use Rattle.std.proofs.lemmas.List.{take-append-drop, take_all}
use Rattle.std.specs.Prelude.{slice_get, option_map}
use Rattle.std.specs.List.{flat_map}
use Rattle.loop_script.specs.declared.plan.Plan.{Plan}
use Rattle.lane_turn.specs.declared.line.Line.{Line}
use Rattle.lane_turn.specs.Lane.{Lane}
use Rattle.lane_turn.specs.Tick.{lanes_at}
use Rattle.lane_turn.proofs.Places.{Counted}
use Rattle.tick_stepper.proofs.Counted.{counted_at, lane_count}
use Rattle.mainctx.specs.Text.{part_of, lane_text, text_of}
use Rattle.mainctx.specs.Writing.{AddsPrefix, PassesOn}
use Rattle.mainctx.proofs.Prefixes.{all_passed, prefix_longer, prefix_passed, prefix_then}

some_lines : (a b : List Line) → Some a ≡ Some b → a ≡ b
some_lines a b e = cc

parts_from : (a n : ℕ) (lanes : List Lane) (lines : List Line) → Counted a lanes → option_map (λ (l : Lane). l.trace) (slice_get lanes n) ≡ Some lines
    → flat_map part_of (take (suc n) lanes) ≡ flat_map part_of (take n lanes) ++ lane_text (a + n) lines
parts_from a n [] lines c e = cc
parts_from a zero (lane ∷ lanes) lines c e =
    let number : lane.number ≡ a + 0 = c.0 ∙ omega arith in
    append-nil (part_of lane) ∙ (ap (λ (m : ℕ). lane_text m lane.trace) number ∙ ap (lane_text (a + 0)) (some_lines lane.trace lines e))
parts_from a (suc n) (lane ∷ lanes) lines c e =
    let number : a + 1 + n ≡ a + suc n = omega arith in
    ap (λ t. part_of lane ++ t) (parts_from (a + 1) n lanes lines c.1 e)
    ∙ (sym (append_assoc (part_of lane) (flat_map part_of (take n lanes)) (lane_text (a + 1 + n) lines))
    ∙ ap (λ (m : ℕ). (part_of lane ++ flat_map part_of (take n lanes)) ++ lane_text m lines) number)

-- one lane more
pub parts_more : (script : Plan) (tick n : ℕ) (lanes : List Lane) (lines : List Line) → lanes ≡ lanes_at script tick → option_map (λ (l : Lane). l.trace) (slice_get lanes n) ≡ Some lines
    → flat_map part_of (take (n + 1) lanes) ≡ flat_map part_of (take n lanes) ++ lane_text n lines
parts_more script tick n lanes lines same e =
    let next : n + 1 ≡ suc n = omega arith in
    let same_n : 0 + n ≡ n = omega arith in
    ap (λ (k : ℕ). flat_map part_of (take k lanes)) next
    ∙ (parts_from 0 n lanes lines (subst (Counted 0) (sym same) (counted_at script tick)) e ∙ ap (λ (m : ℕ). flat_map part_of (take n lanes) ++ lane_text m lines) same_n)

-- all parts
pub parts_all : (script : Plan) (n : ℕ) (lanes : List Lane) → lanes ≡ lanes_at script script.ticks → length script.lanes ≤ n → flat_map part_of (take n lanes) ≡ text_of script
parts_all script n lanes same few =
    let all : List Lane = lanes_at script script.ticks in
    let within : length all ≤ n = omega (arith, few, lane_count script script.ticks) in
    ap (λ (ls : List Lane). flat_map part_of (take n ls)) same ∙ ap (flat_map part_of) (take_all n all within)

-- a prefix of a lane's part, after the parts before it, is one of the text
pub prefix_part : (old now new has : List ℕ) (script : Plan) (n : ℕ) (lanes : List Lane) (lines : List Line) → lanes ≡ lanes_at script script.ticks → PassesOn old now [] has (flat_map part_of (take n lanes))
    → flat_map part_of (take (n + 1) lanes) ≡ flat_map part_of (take n lanes) ++ lane_text n lines → AddsPrefix now new (has ++ lane_text n lines) → AddsPrefix old new (text_of script)
prefix_part old now new has script n lanes lines same passes more prefix =
    let before : List ℕ = flat_map part_of (take n lanes) in
    let rest : List ℕ = flat_map part_of (drop (n + 1) lanes) in
    let whole : flat_map part_of (take (n + 1) lanes) ++ rest ≡ flat_map part_of lanes = sym (flat_map-append part_of (take (n + 1) lanes) (drop (n + 1) lanes)) ∙ ap (flat_map part_of) (take-append-drop (n + 1) lanes) in
    prefix_longer old new (before ++ lane_text n lines) rest (text_of script) (prefix_then old now new [] has before (lane_text n lines) passes prefix)
    (ap (λ (t : List ℕ). t ++ rest) (sym more) ∙ (whole ∙ ap (flat_map part_of) same))

-- the text, where all parts were made and what waited is taken
pub text_passed : (old now new waits : List ℕ) (script : Plan) (n : ℕ) (lanes : List Lane) → lanes ≡ lanes_at script script.ticks → length script.lanes ≤ n → PassesOn old now [] waits (flat_map part_of (take n lanes))
    → new ≡ now ++ waits → new ≡ old ++ text_of script
text_passed old now new waits script n lanes same few passes e =
    all_passed old now new waits (flat_map part_of (take n lanes)) passes e ∙ ap (λ (t : List ℕ). old ++ t) (parts_all script n lanes same few)

-- a prefix of the text, where a prefix of what waited is taken
pub prefix_waits : (old now new waits : List ℕ) (script : Plan) (n : ℕ) (lanes : List Lane) → lanes ≡ lanes_at script script.ticks → length script.lanes ≤ n → PassesOn old now [] waits (flat_map part_of (take n lanes))
    → AddsPrefix now new waits → AddsPrefix old new (text_of script)
prefix_waits old now new waits script n lanes same few passes prefix =
    subst (AddsPrefix old new) (parts_all script n lanes same few) (prefix_passed old now new waits (flat_map part_of (take n lanes)) passes prefix)
