use Rattle.std.proofs.Common.{◌≡◌, ◌∙◌, sym, ap, ◌++◌, OnOk, string_bytes, [], ◌∷◌, List, ℕ, append-nil, Result, Ok, Err, Bor, subst, is_ok}
use Rattle.std.specs.Prelude.{MatchResult, if◌then◌else◌}
use Rattle.std.specs.Result.{result_unwrap_or}
use Rattle.std.specs.Str.{IsUtf8}
use Rattle.json.specs.Print.{quoted, print, print_from}
use Rattle.json.specs.Token.{string}
use Rattle.run_names.proofs.quoted.push_quoted.Goals as goal

one_token : (text : List ℕ) → print (string text ∷ []) ≡ quoted text
unfolding print_from
one_token text = append-nil (quoted text)

unwrapped : {E : Type 0} (r : Result (Bor (List ℕ)) E) (other : Bor (List ℕ)) (bytes : List ℕ) (P : E → Type 0)
    → MatchResult r (λ s. (s.now ≡ bytes) × IsUtf8 bytes) (λ e. (IsUtf8 bytes → ⊥) × P e) → IsUtf8 bytes → (result_unwrap_or r other).now ≡ bytes
unwrapped (Ok s) other bytes P h u = h.0
unwrapped (Err e) other bytes P h u = absurd (h.0 u)

added : {E : Type 0} (r : Result (Unit {0}) E) (old more wanted new : List ℕ) → more ≡ wanted → new ≡ (if is_ok r then old ++ more else old) → OnOk r (new ≡ old ++ wanted)
added (Ok x) old more wanted new e h = h ∙ ap (λ m. old ++ m) e
added (Err x) old more wanted new e h = tt

pub returns : goal.returns
returns c =
    let text = c.args.text.now in
    let tokens = rw c.in_ok-string.was at c.string.ensures.ok in
    let before : c.string.new.self.before ≡ [] = c.string.ensures.room.0 ∙ c.new-writer.ensures.before ∙ c.new.ensures.items in
    let all : c.string.new.self.tokens ≡ string text ∷ [] = tokens ∙ ap (λ ts. ts ++ string text ∷ []) c.new-writer.ensures.tokens in
    let printed : c.into_inner-bytes.result.items ≡ print c.string.new.self.tokens = c.into_inner-bytes.ensures.items ∙ ap (λ bs. bs ++ print c.string.new.self.tokens) before in
    let bytes : c.as_slice.result.now ≡ print c.string.new.self.tokens = c.as_slice.ensures.value ∙ printed in
    let utf8 : IsUtf8 c.as_slice.result.now = subst IsUtf8 (sym bytes) c.into_inner-bytes.ensures.utf8 in
    let said : c.unwrap_or.result.now ≡ c.as_slice.result.now = ap (λ s. s.now) c.unwrap_or.ensures ∙ unwrapped c.from_utf8.result _ c.as_slice.result.now _ c.from_utf8.ensures.cases utf8 in
    let quote : c.unwrap_or.result.now ≡ quoted text = said ∙ bytes ∙ ap print all ∙ one_token text in
    added c.push_str.result (string_bytes c.args.out.now) c.unwrap_or.result.now (quoted text) (string_bytes c.push_str.new.self) quote c.push_str.ensures.bytes
