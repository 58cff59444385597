-- A line that is added behind the others is told with them.
use Rattle.std.proofs.Common.{◌≡◌, ◌∙◌, sym, ap, ℕ, suc, ◌+◌, ◌<◌, List, [], ◌∷◌, ◌++◌, length, take, get_or, map, append_assoc, append-nil, arith, Option, Some, None}
use Rattle.std.proofs.lemmas.List.{map-append}
use Rattle.std.proofs.Math.Seq.{take-suc}
use Rattle.std.proofs.lemmas.Grind.{flat_map-append}
use Rattle.std.specs.List.{flat_map, AllByRecursion}
use Rattle.lane_turn.specs.declared.line.Line.{Line}
use Rattle.run_names.specs.Text.{Calling}
use Rattle.named_lines.specs.Lines.{line_text}
use Rattle.named_lines.specs.declared.told_line.Told.{Told}
use Rattle.lane_turn.specs.Lane.{Lane}
use Rattle.account.specs.declared.moment.Moment.{Moment}
use Rattle.inspect_words.specs.Named.{Adds, AreWritten, WritesOf}

all_and : {A : Type 0} (P : A → Type 0) (xs : List A) (x : A) → AllByRecursion P xs → P x → AllByRecursion P (xs ++ x ∷ [])
all_and P [] x h p = (p, tt)
all_and P (y ∷ ys) x h p = (h.0, all_and P ys x h.1 p)

pub one_more : (tick_us : ℕ) (c : Calling) (thread : ℕ) (lines : List Line) (i : ℕ) (t : Told) (d : Line) (old middle new : List ℕ) → Adds tick_us c thread (take i lines) old middle → i < length lines
    → t.line ≡ get_or lines i d → t.lane ≡ thread → new ≡ middle ++ line_text tick_us c t → Adds tick_us c thread (take (i + 1) lines) old new
one_more tick_us c thread lines i t d old middle new adds low line lane e =
    let tells = adds.1 in
    let lines_now : map (λ x. x.line) (tells.told ++ t ∷ []) ≡ take (i + 1) lines =
    map-append (λ x. x.line) tells.told (t ∷ []) ∙ ap (λ xs. xs ++ t.line ∷ []) tells.each ∙ ap (λ x. take i lines ++ x ∷ []) line ∙ sym (take-suc lines i d low) ∙ ap (λ k. take k lines) suc_is in
    let text : flat_map (line_text tick_us c) (tells.told ++ t ∷ []) ≡ adds.0 ++ line_text tick_us c t =
    flat_map-append (line_text tick_us c) tells.told (t ∷ []) ∙ (λ k. sym tells.bytes k ++ append-nil (line_text tick_us c t) k) in (
      adds.0 ++ line_text tick_us c t,
      record { told = tells.told ++ t ∷ []; each = lines_now; of_thread = all_and (λ x. x.lane ≡ thread) tells.told t tells.of_thread lane; bytes = sym text },
      e ∙ ap (λ m. m ++ line_text tick_us c t) adds.2 ∙ append_assoc old adds.0 (line_text tick_us c t),
    )
  where
    suc_is : suc i ≡ i + 1
    suc_is = omega arith

-- what is added to nothing, of what a moment wrote, tells that
pub of_moment : (o : Option Lane) (m : Moment) (tick_us : ℕ) (c : Calling) (lines : List Line) (old new : List ℕ) → AreWritten o m lines → old ≡ [] → Adds tick_us c m.lane lines old new → WritesOf o m tick_us c new
of_moment None m tick_us c lines old new written e adds = tt
of_moment (Some lane) m tick_us c lines old new written e adds =
    λ low high. record {
      told = adds.1.told;
      each = adds.1.each ∙ written low high;
      of_thread = adds.1.of_thread;
      bytes = adds.2 ∙ ap (λ x. x ++ adds.0) e ∙ adds.1.bytes;
    }
