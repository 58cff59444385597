-- A script that is read in version 1 hands no context over.
use Rattle.std.proofs.Common.{◌≡◌, inl, inr, refl, sym, subst, ap, ap₂, ◌∙◌, ℕ, suc, Bool, true, false, cond, ◌||◌, List, [], ◌∷◌, codes, Option, Some, None, Result, Ok, Err}
use Rattle.std.specs.List.{list_any}
use Rattle.serde_json.specs.Data.{Data, number, array, unsigned, Items, no_items, item}
use Rattle.loop_script.specs.Gives.{is_give, GivesNone}
use Rattle.loop_script.specs.Form.{script, an}
use Rattle.loop_script.specs.Misfit.{IsBeyond}
use Rattle.loop_script.specs.Meaning.{under, Or, EachIs, IsList, IsAction, IsLane, IsProc, Denotes}
use Rattle.loop_script.specs.References.{plan_refers}
use Rattle.loop_script.specs.Rules.{plan_rules}
use Rattle.loop_script.specs.Version.{IsGive, SomeAt, Gives}
use Rattle.loop_script.specs.ByTables.{IsMalformed, FirstGivesNone}
use Rattle.loop_script.specs.declared.action.Action.{Action}
use Rattle.loop_script.specs.declared.action.Action.TheVariants.{Give}
use Rattle.loop_script.specs.declared.plan.LaneSpec.{LaneSpec}
use Rattle.loop_script.specs.declared.plan.Proc.{Proc}
use Rattle.loop_script.specs.declared.plan.Plan.{Plan}
use Rattle.loop_script.specs.declared.fault.ScriptFault.{ScriptFault}
use Rattle.loop_script.specs.declared.fault.ScriptFault.TheVariants.{Reference, Rule}
use Rattle.loop_script.proofs.ScriptsRead.{read_by_tables}

-- ---- what has a value that is so nowhere
neither : {a b : Bool} → a ≡ false → b ≡ false → (a || b) ≡ false
neither h k = ap₂ (λ a b. a || b) h k

none_each : {A : Type 0} (f : A → Bool) (Is : Option Data → A → Type 0) (P : Option Data → Type 0) → ((o : Option Data) (a : A) → Is o a → (P o → ⊥) → f a ≡ false) → (ds : Items) (xs : List A) → EachIs Is ds xs → (SomeAt P (Some (array ds)) → ⊥) → list_any f xs ≡ false
none_each f Is P none no_items [] h n = refl
none_each f Is P none no_items (x ∷ xs) h n = absurd h
none_each f Is P none (item d ds) [] h n = absurd h
none_each f Is P none (item d ds) (x ∷ xs) h n = neither (none (Some d) x h.0 (λ p. n (0, p))) (none_each f Is P none ds xs h.1 (λ (m, p). n (suc m, p)))

none_listed : {A : Type 0} (f : A → Bool) (Is : Option Data → A → Type 0) (P : Option Data → Type 0) → ((o : Option Data) (a : A) → Is o a → (P o → ⊥) → f a ≡ false) → (o : Option Data) (xs : List A) → IsList Is o xs → (SomeAt P o → ⊥) → list_any f xs ≡ false
none_listed f Is P none o xs (ds, e, h) n = none_each f Is P none ds xs h (λ p. n (subst (SomeAt P) (sym e) p))

none_or : {A : Type 0} (f : A → Bool) (Is : Option Data → A → Type 0) (P : Option Data → Type 0) → ((o : Option Data) (a : A) → Is o a → (P o → ⊥) → f a ≡ false) → (o : Option Data) (xs : List A) → Or [] (IsList Is) o xs → (SomeAt P o → ⊥) → list_any f xs ≡ false
none_or f Is P none None xs h n = ap (list_any f) h
none_or f Is P none (Some d) xs h n = none_listed f Is P none (Some d) xs h n

-- ---- no action gives
no_action : (o : Option Data) (a : Action) → IsAction o a → (IsGive o → ⊥) → is_give a ≡ false
no_action o (Give context lane) h n = absurd (n h.0.0)
no_action o a h n = refl

no_lane : (o : Option Data) (l : LaneSpec) → IsLane o l → (SomeAt IsGive (under (codes "start") o) → ⊥) → list_any is_give l.start ≡ false
no_lane o l h n = none_listed is_give IsAction IsGive no_action (under (codes "start") o) l.start h.start n

no_proc : (o : Option Data) (q : Proc) → IsProc o q → (SomeAt IsGive (under (codes "do") o) → ⊥) → list_any is_give q.actions ≡ false
no_proc o q h n = none_listed is_give IsAction IsGive no_action (under (codes "do") o) q.actions h.actions n

gives_none : (d : Data) (p : Plan) → Denotes (Some d) p → (Gives d → ⊥) → GivesNone p
gives_none d p h n = record {
  lanes = none_listed _ IsLane (λ o. SomeAt IsGive (under (codes "start") o)) no_lane (under (codes "lanes") (Some d)) p.lanes h.lanes (λ g. n (inl g));
  procs = none_or _ IsProc (λ o. SomeAt IsGive (under (codes "do") o)) no_proc (under (codes "procs") (Some d)) p.procs h.procs (λ g. n (inr g));
}

-- ---- who is read is what the value denotes
judged_is : (p q : Plan) (a b : Bool) → plan_refers q ≡ a → plan_rules q ≡ b → cond a (cond b (Ok q) (Err Rule)) (Err Reference) ≡ Ok p → q ≡ p
judged_is p q true true e f h = cc
judged_is p q true false e f h = cc
judged_is p q false b e f h = cc

not_fault : {r : Result Plan ScriptFault} {p : Plan} {fault : ScriptFault} → r ≡ Ok p → r ≡ Err fault → ⊥
not_fault h k = cc

not_second : (d : Data) (n : ℕ) → n ≡ 1 → under (codes "version") (Some d) ≡ Some (number (unsigned n)) → under (codes "version") (Some d) ≡ Some (number (unsigned 2)) → ⊥
not_second d n v h k = cc

pub first_gives_none : FirstGivesNone
first_gives_none d p e v =
    let goes = read_by_tables.goes in
    let formed : IsMalformed d → ⊥ = λ m. not_fault e ((goes.shape d).1 m) in
    let within : IsBeyond (an script) d → ⊥ = λ b. not_fault e ((goes.limit d).1 (formed, b)) in
    let (q, h, r) = goes.script d formed within in
    let denoted : Denotes (Some d) p = subst (Denotes (Some d)) (judged_is p q (plan_refers q) (plan_rules q) refl refl (sym r ∙ e)) h in
    gives_none d p denoted (λ g. formed (inr (record { version = not_second d p.version v denoted.version; gives = g })))
