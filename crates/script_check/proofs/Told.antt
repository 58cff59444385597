-- The faults that are told are those that stand, by the tables.
use Rattle.std.proofs.Common.{◌≡◌, ◌⊎◌, ◌↔◌, ◌<◌, inl, inr, refl, sym, subst, ap, ◌∙◌, ℕ, zero, suc, Bool, true, List, [], ◌∷◌, ◌++◌, Some, append_assoc, arith}
use Rattle.std.specs.Prelude.{option_and_then}
use Rattle.std.specs.List.{list_any}
use Rattle.std.proofs.lemmas.List.{append-nil}
use Rattle.serde_json.specs.Data.{Data, depth}
use Rattle.loop_script.specs.Form.{Form, script, an}
use Rattle.loop_script.specs.Place.{StandsIn, itself, inside}
use Rattle.loop_script.specs.Misfit.{HasOtherShape, IsOutOfRange, Somewhere}
use Rattle.script_check.specs.declared.fault.Cause.{Cause}
use Rattle.script_check.specs.Found.{Step, at_place, Found}
use Rattle.script_check.specs.Own.{own}
use Rattle.script_check.specs.Parts.{Part, parts}
use Rattle.script_check.specs.Faults.{faults_in, found_at, together, levels, form_faults}
use Rattle.script_check.specs.Laws.{In, is_shape, is_limit, has, Leads, ended, into, IsShallow, FormFaults}
use Rattle.script_check.proofs.Among.{in_first, in_second, in_either, in_together, of_together, in_found, of_found, any_in, in_any}
use Rattle.script_check.proofs.PartsOf.{part_found, found_part, step_depth}
use Rattle.script_check.proofs.OwnByTables.{own_shape, own_range}

abbrev each : ℕ → List Step → Part → List Found
each n place p = faults_in n (place ++ p.step ∷ []) p.form p.inner

-- ---- what is told stands
abbrev Stands : List Step → Form → Data → Found → Type 0
Stands place f d x = (ss : List Step) × (e : Data) × (x.place ≡ place ++ ss) × Leads ss f d x.form e × In x.cause (own x.form e)

stands_here : (place : List Step) (f : Form) (d : Data) (x : Found) → In x (found_at place f (own f d)) → Stands place f d x
stands_here place f d x h =
    let (c, i, e) = of_found place f x (own f d) h in
    subst (Stands place f d) e ([], d, sym (append-nil place), ended f d, i)

either_stands : (n : ℕ) (place : List Step) (f : Form) (d : Data) (x : Found) → ((p : Part) → In x (each n place p) → Stands (place ++ p.step ∷ []) p.form p.inner x) → In x (found_at place f (own f d)) ⊎ In x (together (each n place) (parts f d)) → Stands place f d x
either_stands n place f d x r (inl k) = stands_here place f d x k
either_stands n place f d x r (inr k) =
    let (p, i, j) = of_together (each n place) x (parts f d) k in
    let (ss, e, at, leads, c) = r p j in
    (p.step ∷ ss, e, at ∙ append_assoc place (p.step ∷ []) ss, into f d p ss x.form e i leads, c)

told_stands : (n : ℕ) (place : List Step) (f : Form) (d : Data) (x : Found) → In x (faults_in n place f d) → Stands place f d x
unfolding faults_in
told_stands zero place f d x h = absurd h
told_stands (suc n) place f d x h = either_stands n place f d x (λ p. told_stands n (place ++ p.step ∷ []) p.form p.inner x) (in_either x (found_at place f (own f d)) (together (each n place) (parts f d)) h)

-- ---- what stands is told
stands_told : (ss : List Step) (f : Form) (d : Data) (g : Form) (e : Data) → Leads ss f d g e → (c : Cause) → In c (own g e) → (n : ℕ) (place : List Step) → depth d < n → In (record { place = place ++ ss; form = g; cause = c }) (faults_in n place f d)
unfolding faults_in
stands_told ss f d g e (ended f₁ d₁) c i zero place h = absurd (omega arith)
stands_told ss f d g e (ended f₁ d₁) c i (suc n) place h =
    in_first _ (found_at place f (own f d)) (together (each n place) (parts f d)) (subst (λ at. In (record { place = at; form = f; cause = c }) (found_at place f (own f d))) (sym (append-nil place)) (in_found place f c (own f d) i))
stands_told ss f d g e (into f₁ d₁ p rest g₁ e₁ j leads) c i zero place h = absurd (omega arith)
stands_told ss f d g e (into f₁ d₁ p rest g₁ e₁ j leads) c i (suc n) place h =
    let less = step_depth p.step d p.inner (part_found f d p j).step in
    let there = stands_told rest p.form p.inner g e leads c i n (place ++ p.step ∷ []) (omega arith) in
    let here = in_together (each n place) p _ (parts f d) j there in
    in_second _ (found_at place f (own f d)) (together (each n place) (parts f d)) (subst (λ at. In (record { place = at; form = g; cause = c }) (together (each n place) (parts f d))) (append_assoc place (p.step ∷ []) rest) here)

-- ---- steps and the tables
leads_at : (ss : List Step) (f : Form) (d : Data) (g : Form) (e : Data) → Leads ss f d g e → (at_place ss d ≡ Some e) × StandsIn f d g e
leads_at ss f d g e (ended f₁ d₁) = (refl, itself f d)
leads_at ss f d g e (into f₁ d₁ p rest g₁ e₁ j leads) =
    let found = part_found f d p j in
    let (at, stands) = leads_at rest p.form p.inner g e leads in
    (ap (option_and_then (at_place rest)) found.step ∙ at, inside f p.form g d p.inner e found.part stands)

stands_leads : (f : Form) (d : Data) (g : Form) (e : Data) → StandsIn f d g e → (ss : List Step) × Leads ss f d g e
stands_leads f d g e (itself f₁ d₁) = ([], ended f d)
stands_leads f d g e (inside f₁ h g₁ d₁ x e₁ part rest) =
    let (s, i) = found_part f d h x part in
    let (ss, leads) = stands_leads h x g e rest in
    (s ∷ ss, into f d (record { step = s; form = h; inner = x }) ss g e i leads)

-- ---- the law
told : (d : Data) → IsShallow d → (x : Found) → In x (form_faults d) ↔ ((e : Data) × Leads x.place (an script) d x.form e × In x.cause (own x.form e))
told d h x = (there, λ (e, leads, c). stands_told x.place (an script) d x.form e leads x.cause c levels [] h)
  where
    there : In x (form_faults d) → (e : Data) × Leads x.place (an script) d x.form e × In x.cause (own x.form e)
    there i =
        let (ss, e, at, leads, c) = told_stands levels [] (an script) d x i in
        (e, subst (λ place. Leads place (an script) d x.form e) (sym at) leads, c)

by_class : (test : Cause → Bool) (P : Form → Data → Type 0) → ((f : Form) (d : Data) → (list_any test (own f d) ≡ true) ↔ P f d) → (d : Data) → IsShallow d → (has test (form_faults d) ≡ true) ↔ Somewhere P (an script) d
by_class test P own_is d h = (there, back)
  where
    there : has test (form_faults d) ≡ true → Somewhere P (an script) d
    there k =
        let (x, i, t) = any_in (λ y. test y.cause) (form_faults d) k in
        let (e, leads, c) = (told d h x).0 i in
        (x.form, e, (leads_at x.place (an script) d x.form e leads).1, (own_is x.form e).0 (in_any test x.cause (own x.form e) c t))

    back : Somewhere P (an script) d → has test (form_faults d) ≡ true
    back (g, e, stands, p) =
        let (ss, leads) = stands_leads (an script) d g e stands in
        let (c, i, t) = any_in test (own g e) ((own_is g e).1 p) in
        in_any (λ (y : Found). test y.cause) (record { place = ss; form = g; cause = c }) (form_faults d) (stands_told ss (an script) d g e leads c i levels [] h) t

pub form_faults_hold : FormFaults
form_faults_hold = record {
  shape = by_class is_shape HasOtherShape own_shape;
  limit = by_class is_limit IsOutOfRange own_range;
  told = told;
  place = λ ss f g d e leads. leads_at ss f d g e leads;
}
