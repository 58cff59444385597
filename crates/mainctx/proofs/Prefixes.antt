-- Texts that were written in part.
use Rattle.std.proofs.Common.{◌≡◌, ◌<◌, ℕ, ◌+◌, ◌-◌, get_or, length, List, [], ◌∷◌, ◌++◌, take, drop, refl, sym, ap, ◌∙◌, append_assoc, append-nil}
use Rattle.std.proofs.lemmas.Grind.{flat_map-append}
use Rattle.std.proofs.lemmas.List.{take-append-drop, take_more, take_rest}
use Rattle.std.specs.List.{flat_map}
use Rattle.std.specs.Prelude.{codes}
use Rattle.std.specs.Fmt.{decimal}
use Rattle.lane_turn.specs.declared.line.Line.{Line}
use Rattle.mainctx.specs.Text.{line_text, lane_text}
use Rattle.mainctx.specs.Writing.{AddsPrefix, PassesOn}

whole : (number i : ℕ) (lines : List Line) → lane_text number (take i lines) ++ flat_map line_text (drop i lines) ≡ lane_text number lines
whole number i lines =
    let e = flat_map-append line_text (take i lines) (drop i lines) in
    let parts : flat_map line_text (take i lines) ++ flat_map line_text (drop i lines) ≡ flat_map line_text lines = sym e ∙ ap (flat_map line_text) (take-append-drop i lines) in
    simp append_assoc (ap (λ (t : List ℕ). codes "thread " ++ (decimal number ++ (codes "\n" ++ t))) parts)

-- the text of the first lines is a prefix
pub adds_lines : (old new : List ℕ) (number i : ℕ) (lines : List Line) → new ≡ old ++ lane_text number (take i lines) → AddsPrefix old new (lane_text number lines)
adds_lines old new number i lines e = record { prefix = lane_text number (take i lines); rest = flat_map line_text (drop i lines); whole = whole number i lines; added = e }

-- as is nothing
pub adds_nothing : (old new part : List ℕ) → new ≡ old → AddsPrefix old new part
adds_nothing old new part e = record { prefix = []; rest = part; whole = refl; added = e ∙ sym (append-nil old) }

-- what was added so far, and the rest that is still to come
pub record Left (old new rest text : List ℕ) : Type 0 where
  pub prefix : List ℕ
  pub whole : prefix ++ rest ≡ text
  pub added : new ≡ old ++ prefix

-- the next bytes of the rest were added
pub left_more : (old now new rest text : List ℕ) (n : ℕ) → Left old now rest text → new ≡ now ++ take n rest → Left old new (take (length rest - n) (drop n rest)) text
left_more old now new rest text n left e =
    let parts : take n rest ++ take (length rest - n) (drop n rest) ≡ rest = ap (λ (t : List ℕ). take n rest ++ t) (take_rest rest n) ∙ take-append-drop n rest in
    record {
      prefix = left.prefix ++ take n rest;
      whole = append_assoc left.prefix (take n rest) (take (length rest - n) (drop n rest)) ∙ (ap (λ (t : List ℕ). left.prefix ++ t) parts ∙ left.whole);
      added = e ∙ (ap (λ (t : List ℕ). t ++ take n rest) left.added ∙ append_assoc old left.prefix (take n rest));
    }

-- bytes that find room wait
pub passes_none : (old waited more : List ℕ) → PassesOn old old waited (waited ++ more) more
passes_none old waited more = record { prefix = []; whole = refl; added = sym (append-nil old) }

-- bytes that find none wait behind nothing
pub passes_all : (old new waited more : List ℕ) → new ≡ old ++ waited → PassesOn old new waited more more
passes_all old new waited more e = record { prefix = waited; whole = refl; added = e }

-- more bytes
pub passes_then : (old now new waited has waits more then all : List ℕ) → PassesOn old now waited has more → PassesOn now new has waits then → all ≡ more ++ then → PassesOn old new waited waits all
passes_then old now new waited has waits more then all first next e = record {
  prefix = first.prefix ++ next.prefix;
  whole = append_assoc first.prefix next.prefix waits
      ∙ (ap (λ (t : List ℕ). first.prefix ++ t) next.whole
      ∙ (sym (append_assoc first.prefix has then)
      ∙ (ap (λ (t : List ℕ). t ++ then) first.whole
      ∙ (append_assoc waited more then ∙ ap (λ (t : List ℕ). waited ++ t) (sym e)))));
  added = next.added ∙ (ap (λ (t : List ℕ). t ++ next.prefix) first.added ∙ append_assoc old first.prefix next.prefix);
}

-- a prefix of what waits and of some more is a prefix where still more would have come
pub prefix_longer : (old new text more all : List ℕ) → AddsPrefix old new text → text ++ more ≡ all → AddsPrefix old new all
prefix_longer old new text more all prefix e = record {
  prefix = prefix.prefix;
  rest = prefix.rest ++ more;
  whole = sym (append_assoc prefix.prefix prefix.rest more) ∙ (ap (λ (t : List ℕ). t ++ more) prefix.whole ∙ e);
  added = prefix.added;
}

-- a prefix of what waits, after what was passed on before
pub prefix_then : (old now new waited has more then : List ℕ) → PassesOn old now waited has more → AddsPrefix now new (has ++ then) → AddsPrefix old new (waited ++ (more ++ then))
prefix_then old now new waited has more then first next = record {
  prefix = first.prefix ++ next.prefix;
  rest = next.rest;
  whole = append_assoc first.prefix next.prefix next.rest
      ∙ (ap (λ (t : List ℕ). first.prefix ++ t) next.whole
      ∙ (sym (append_assoc first.prefix has then)
      ∙ (ap (λ (t : List ℕ). t ++ then) first.whole ∙ append_assoc waited more then)));
  added = next.added ∙ (ap (λ (t : List ℕ). t ++ next.prefix) first.added ∙ append_assoc old first.prefix next.prefix);
}

-- a prefix of the heading is one of the part
pub prefix_heading : (old new waited bytes : List ℕ) (number : ℕ) (lines : List Line) → bytes ≡ lane_text number [] → AddsPrefix old new (waited ++ bytes) → AddsPrefix old new (waited ++ lane_text number lines)
prefix_heading old new waited bytes number lines e prefix =
    let rest : List ℕ = flat_map line_text lines in
    prefix_longer old new (waited ++ bytes) rest (waited ++ lane_text number lines) prefix (append_assoc waited bytes rest ∙ ap (λ (t : List ℕ). waited ++ t) (ap (λ (t : List ℕ). t ++ rest) e ∙ whole number 0 lines))

-- so is a prefix of one of its lines, after those before it
pub prefix_line : (old now new waited has bytes : List ℕ) (number i : ℕ) (lines : List Line) → PassesOn old now waited has (lane_text number (take i lines)) → lane_text number (take (i + 1) lines) ≡ lane_text number (take i lines) ++ bytes
    → AddsPrefix now new (has ++ bytes) → AddsPrefix old new (waited ++ lane_text number lines)
prefix_line old now new waited has bytes number i lines before e prefix =
    let rest : List ℕ = flat_map line_text (drop (i + 1) lines) in
    let so_far : List ℕ = lane_text number (take i lines) ++ bytes in
    prefix_longer old new (waited ++ so_far) rest (waited ++ lane_text number lines) (prefix_then old now new waited has (lane_text number (take i lines)) bytes before prefix)
    (append_assoc waited so_far rest ∙ ap (λ (t : List ℕ). waited ++ t) (ap (λ (t : List ℕ). t ++ rest) (sym e) ∙ whole number (i + 1) lines))

-- one line more
pub line_more : (number i : ℕ) (lines : List Line) (d : Line) (bytes : List ℕ) → i < length lines → bytes ≡ line_text (get_or lines i d) → lane_text number (take (i + 1) lines) ≡ lane_text number (take i lines) ++ bytes
line_more number i lines d bytes lt e =
    let before : List ℕ = flat_map line_text (take i lines) in
    let parts : flat_map line_text (take (i + 1) lines) ≡ before ++ bytes =
    ap (flat_map line_text) (take_more lines i d lt) ∙ (flat_map-append line_text (take i lines) (get_or lines i d ∷ []) ∙ ap (λ (t : List ℕ). before ++ t) (append-nil (line_text (get_or lines i d)) ∙ sym e)) in
    simp append_assoc (ap (λ (t : List ℕ). codes "thread " ++ (decimal number ++ (codes "\n" ++ t))) parts)

-- nothing was made, and nothing waits
pub passes_nothing : (old waits : List ℕ) → waits ≡ [] → PassesOn old old [] waits []
passes_nothing old waits e = record { prefix = []; whole = e; added = sym (append-nil old) }

-- all that was made is taken where what waits is
pub all_passed : (old now new waits made : List ℕ) → PassesOn old now [] waits made → new ≡ now ++ waits → new ≡ old ++ made
all_passed old now new waits made passes e = e ∙ (ap (λ (t : List ℕ). t ++ waits) passes.added ∙ (append_assoc old passes.prefix waits ∙ ap (λ (t : List ℕ). old ++ t) passes.whole))

-- and a prefix of it where a prefix of that is
pub prefix_passed : (old now new waits made : List ℕ) → PassesOn old now [] waits made → AddsPrefix now new waits → AddsPrefix old new made
prefix_passed old now new waits made passes prefix = record {
  prefix = passes.prefix ++ prefix.prefix;
  rest = prefix.rest;
  whole = append_assoc passes.prefix prefix.prefix prefix.rest ∙ (ap (λ (t : List ℕ). passes.prefix ++ t) prefix.whole ∙ passes.whole);
  added = prefix.added ∙ (ap (λ (t : List ℕ). t ++ prefix.prefix) passes.added ∙ append_assoc old passes.prefix prefix.prefix);
}

-- a whole is a prefix
pub prefix_whole : (old new text : List ℕ) → new ≡ old ++ text → AddsPrefix old new text
prefix_whole old new text e = record { prefix = text; rest = []; whole = append-nil text; added = e }
