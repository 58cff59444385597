-- How long lists are, and what a table of keys has.
use Rattle.std.proofs.Common.{◌≡◌, ◌+◌, ◌++◌, ℕ, Bool, not, List, [], ◌∷◌, length, map, refl, ap, sym, ◌∙◌, suc, Option, Some, None, ◌||◌, append_assoc, string_bytes, Global, arith}
use Rattle.std.specs.Prelude.{String, unwrap_or, option_and_then}
use Rattle.std.specs.List.{list_any}
use Rattle.std.specs.Str.{bytes_eq}
use Rattle.serde_json.specs.Data.{Data, null, boolean, number, string, array, object, unsigned, negative, float}
use Rattle.serde_json.specs.Find.{as_number, as_u64}
use Rattle.serde_json.specs.View.{items_view, members_view}
use Rattle.serde_json.specs.declared.value.Value.{Value}
use Rattle.loop_script.specs.Place.{count}
use Rattle.loop_script.specs.Misfit.{contexts_of}
use Rattle.loop_script.specs.Form.{Key as SpecKey}
use Rattle.script_check.specs.Own.{where_so, other_keys}
use Rattle.script_check.specs.Views.{key_of, name_of}
use Rattle.script_check.specs.declared.fault.Cause.{Cause}
use Rattle.script_check.specs.declared.fault.Cause.TheVariants.{OtherKey}
use Rattle.script_check.specs.declared.tables.Key.{Key}

pub counts : (vs : List Value) → count (items_view vs) ≡ length vs
counts [] = refl
counts (v ∷ vs) = ap suc (counts vs)

pub contexts_are : (o : Option Data) → contexts_of o ≡ unwrap_or (option_and_then (λ d. option_and_then as_u64 (as_number d)) o) 0
contexts_are None = refl
contexts_are (Some null) = refl
contexts_are (Some (boolean b)) = refl
contexts_are (Some (number (unsigned n))) = refl
contexts_are (Some (number (negative z))) = refl
contexts_are (Some (number (float x))) = refl
contexts_are (Some (string s)) = refl
contexts_are (Some (array ds)) = refl
contexts_are (Some (object ms)) = refl

pub any_key : (w : List ℕ) (ks : List Key) → list_any (λ key. bytes_eq w key.name) (map key_of ks) ≡ list_any (λ key. bytes_eq w (name_of key.name)) ks
any_key w [] = refl
any_key w (k ∷ ks) = ap (λ b. bytes_eq w (name_of k.name) || b) (any_key w ks)

pub length_by_map : {A B : Type 0} (f : A → B) (xs : List A) → length (map f xs) ≡ length xs
length_by_map f [] = refl
length_by_map f (x ∷ xs) = ap suc (length_by_map f xs)

abbrev pub Entry : Type 0
Entry = String Global × Value

pub other_step : (ks : List SpecKey) (n : ℕ) (es rest : List Entry) (e : Entry) (before now all : List Cause) (w : List ℕ) (known : Bool) → es ≡ e ∷ rest → w ≡ string_bytes e.0 → known ≡ list_any (λ key. bytes_eq w key.name) ks → now ≡ before ++ where_so (not known) (OtherKey n) → before ++ other_keys ks n (members_view es) ≡ all → now ++ other_keys ks (n + 1) (members_view rest) ≡ all
other_step ks n es rest e before now all w known p q k m i =
    let is : known ≡ list_any (λ key. bytes_eq (string_bytes e.0) key.name) ks = k ∙ ap (λ v. list_any (λ key. bytes_eq v key.name) ks) q in
    let s : n + 1 ≡ suc n = omega arith in
    ap (λ x. x ++ other_keys ks (n + 1) (members_view rest)) m
    ∙ append_assoc before (where_so (not known) (OtherKey n)) (other_keys ks (n + 1) (members_view rest))
    ∙ ap (λ b. before ++ (where_so (not b) (OtherKey n) ++ other_keys ks (n + 1) (members_view rest))) is
    ∙ ap (λ j. before ++ (where_so (not (list_any (λ key. bytes_eq (string_bytes e.0) key.name) ks)) (OtherKey n) ++ other_keys ks j (members_view rest))) s
    ∙ ap (λ xs. before ++ other_keys ks n (members_view xs)) (sym p) ∙ i
