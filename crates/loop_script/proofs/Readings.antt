-- Bytes have one reading.
use Rattle.std.proofs.Common.{◌≡◌, ◌⊎◌, inl, inr, ℕ, List, Result, Ok, Err, refl, sym, ap, ◌∙◌}
use Rattle.std.specs.Prelude.{unwrap_or}
use Rattle.serde_json.specs.Data.{Data}
use Rattle.loop_script.specs.declared.fault.ScriptFault.{ScriptFault}
use Rattle.loop_script.specs.declared.fault.ScriptFault.TheVariants.{NotJson, Shape, Limit, Reference, Rule, OutOfMemory}
use Rattle.loop_script.specs.declared.plan.Plan.{Plan}
use Rattle.loop_script.specs.Script.{IsJson, script_of}
use Rattle.loop_script.specs.Laws.{IsReading}

abbrev FromData : List ℕ → Result Plan ScriptFault → Type 0
FromData bytes r = (d : Data) × IsJson bytes d × (script_of d ≡ r)

abbrev FromNone : List ℕ → Result Plan ScriptFault → Type 0
FromNone bytes r = ((d : Data) → IsJson bytes d → ⊥) × (Err NotJson ≡ r)

reading_from : (bytes : List ℕ) (r : Result Plan ScriptFault) → IsReading bytes r → FromData bytes r ⊎ FromNone bytes r
reading_from bytes (Ok p) h = inl h
reading_from bytes (Err NotJson) h = inr (h.1, refl)
reading_from bytes (Err Shape) h = inl h.1
reading_from bytes (Err Limit) h = inl h.1
reading_from bytes (Err Reference) h = inl h.1
reading_from bytes (Err Rule) h = inl h.1
reading_from bytes (Err OutOfMemory) h = absurd (h.0 refl)

same_data : (bytes : List ℕ) (d e : Data) → IsJson bytes d → IsJson bytes e → d ≡ e
same_data bytes d e h k = ap (λ o. unwrap_or o d) (sym h.1 ∙ k.1)

agree : (bytes : List ℕ) (a b : Result Plan ScriptFault) → FromData bytes a ⊎ FromNone bytes a → FromData bytes b ⊎ FromNone bytes b → a ≡ b
agree bytes a b (inl h) (inl k) = sym h.2 ∙ ap script_of (same_data bytes h.0 k.0 h.1 k.1) ∙ k.2
agree bytes a b (inl h) (inr k) = absurd (k.0 h.0 h.1)
agree bytes a b (inr h) (inl k) = absurd (h.0 k.0 k.1)
agree bytes a b (inr h) (inr k) = sym h.1 ∙ k.1

pub one_reading : (bytes : List ℕ) (a b : Result Plan ScriptFault) → IsReading bytes a → IsReading bytes b → a ≡ b
one_reading bytes a b h k = agree bytes a b (reading_from bytes a h) (reading_from bytes b k)
