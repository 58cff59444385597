-- The least class of the faults is that by which a script is refused.
use Rattle.std.proofs.Common.{◌≡◌, ◌⊎◌, ◌↔◌, inl, inr, ◌++◌, refl, sym, subst, ap, ◌∙◌, Bool, true, false, not, cond, ◌||◌, List, [], ◌∷◌, Option, Some, None, Result, Ok, Err}
use Rattle.std.proofs.lemmas.List.{append-nil}
use Rattle.serde_json.specs.Data.{Data}
use Rattle.loop_script.specs.ByTables.{IsMalformed}
use Rattle.loop_script.specs.Plan.{plan}
use Rattle.loop_script.specs.Script.{verdict, none_seen, script_of, sound_plan}
use Rattle.loop_script.specs.Version.{gives_outside_version_2}
use Rattle.loop_script.specs.References.{plan_refers}
use Rattle.loop_script.specs.Rules.{plan_rules}
use Rattle.loop_script.specs.declared.fault.ScriptFault.{ScriptFault}
use Rattle.loop_script.specs.declared.fault.ScriptFault.TheVariants.{NotJson, Shape, Limit, Reference, Rule, OutOfMemory}
use Rattle.loop_script.specs.declared.plan.Plan.{Plan}
use Rattle.loop_script.proofs.Meets.{not_both}
use Rattle.loop_script.proofs.ScriptsRead.{read_by_tables}
use Rattle.script_check.specs.declared.fault.Cause.{Cause}
use Rattle.script_check.specs.declared.fault.Cause.TheVariants.{OtherType, OtherWord, OtherVersion, OtherLength, OtherKey, NoKey, Range, Count, Contexts, Depth, Missing, NotAbove, NotPlain, Stays, Unchecked}
use Rattle.script_check.specs.Found.{Found}
use Rattle.script_check.specs.Own.{own}
use Rattle.script_check.specs.Faults.{form_faults}
use Rattle.script_check.specs.PlanFaults.{plan_faults}
use Rattle.script_check.specs.ScriptFaults.{said_faults, or_else, script_faults}
use Rattle.script_check.specs.Laws.{has, is_shape, is_limit, is_reference, is_rule, IsShallow}
use Rattle.script_check.specs.VersionFaults.{version_faults}
use Rattle.script_check.specs.Agreement.{Agrees, ClassesAgree, class_in, FirstClassIs}
use Rattle.script_check.specs.Least.{least_class}
use Rattle.script_check.specs.declared.fault.Class.{Class}
use Rattle.script_check.specs.declared.fault.Class.TheVariants as classes
use Rattle.script_check.proofs.Among.{any_in, in_any}
use Rattle.script_check.proofs.OwnClasses.{Spares, own_classes}
use Rattle.script_check.proofs.Judged.{Lacks, plan_refers_so, plan_rules_so, neither_so}
use Rattle.script_check.proofs.Told.{form_faults_hold}
use Rattle.script_check.proofs.VersionTold.{version_has, version_none, has_append}
use Rattle.loop_script.proofs.Gives.{outside}

-- ---- what was seen while the script was read
judged_not_shape : (p : Plan) (a b : Bool) → (cond a (cond b (Ok p) (Err Rule)) (Err Reference) ≡ Err Shape) → ⊥
judged_not_shape p true true h = cc
judged_not_shape p true false h = cc
judged_not_shape p false b h = cc

judged_not_limit : (p : Plan) (a b : Bool) → (cond a (cond b (Ok p) (Err Rule)) (Err Reference) ≡ Err Limit) → ⊥
judged_not_limit p true true h = cc
judged_not_limit p true false h = cc
judged_not_limit p false b h = cc

-- ---- each cause is of some class
abbrev named : Cause → Bool
named c = is_reference c || is_rule c

abbrev formed : Cause → Bool
formed c = is_shape c || is_limit c

spares_named : Spares named
spares_named = record { kind = refl; word = refl; length = refl; other = λ n. refl; lacking = λ n. refl; range = refl; count = refl; contexts = refl; depth = refl }

lacks_formed : Lacks formed
lacks_formed = record { above = λ tick. refl; plain = λ k. refl; stays = refl; unchecked = refl }

either_false : (a b : Bool) → a ≡ false → b ≡ false → (a || b) ≡ false
either_false a b e f = ap (λ c. c || b) e ∙ f

both_false : (a b : Bool) → (a || b) ≡ false → (a ≡ false) × (b ≡ false)
both_false true b h = absurd (cc)
both_false false b h = (refl, h)

or_has : (s t : Cause → Bool) (faults : List Found) → has s faults ≡ false → has t faults ≡ false → has (λ c. s c || t c) faults ≡ false
or_has s t [] h k = refl
or_has s t (x ∷ xs) h k =
    let (a, b) = both_false (s x.cause) (has s xs) h in
    let (c, d) = both_false (t x.cause) (has t xs) k in
    either_false (s x.cause || t x.cause) (has (λ e. s e || t e) xs) (either_false (s x.cause) (t x.cause) a c) (or_has s t xs b d)

of_or : (s t : Cause → Bool) (faults : List Found) → has (λ c. s c || t c) faults ≡ false → (has s faults ≡ false) × (has t faults ≡ false)
of_or s t [] h = (refl, refl)
of_or s t (x ∷ xs) h =
    let (a, b) = both_false (s x.cause || t x.cause) (has (λ e. s e || t e) xs) h in
    let (c, d) = both_false (s x.cause) (t x.cause) a in
    let (e, f) = of_or s t xs b in
    (either_false (s x.cause) (has s xs) c e, either_false (t x.cause) (has t xs) d f)

any_class : (c : Cause) → (formed c || named c) ≡ true
any_class OtherType = refl
any_class OtherWord = refl
any_class OtherVersion = refl
any_class OtherLength = refl
any_class (OtherKey n) = refl
any_class (NoKey n) = refl
any_class Range = refl
any_class Count = refl
any_class Contexts = refl
any_class Depth = refl
any_class (Missing n) = refl
any_class (NotAbove tick) = refl
any_class (NotPlain n) = refl
any_class Stays = refl
any_class Unchecked = refl

none_left : (faults : List Found) → has formed faults ≡ false → has named faults ≡ false → faults ≡ []
none_left [] h k = refl
none_left (x ∷ xs) h k = absurd (not_both (any_class x.cause) (either_false (formed x.cause) (named x.cause) (both_false (formed x.cause) (has formed xs) h).0 (both_false (named x.cause) (has named xs) k).0))

-- ---- the faults of what the script says
said : (p : Plan) (refers rules : Bool) (faults : List Found) → has is_shape faults ≡ false → has is_limit faults ≡ false → has is_reference faults ≡ not refers → has is_rule faults ≡ not rules → (refers ≡ true → rules ≡ true → faults ≡ []) → Agrees faults (cond refers (cond rules (Ok p) (Err Rule)) (Err Reference))
said p true true faults s l r q none = none refl refl
said p true false faults s l r q none = (s, l, r, q)
said p false rules faults s l r q none = (s, l, r)

-- ---- the whole
abbrev read_as : Bool → Bool → Plan → Result Plan ScriptFault
read_as s l p = verdict (record { shape = s; limit = l }) p

abbrev judged : Plan → Result Plan ScriptFault
judged p = cond (plan_refers p) (cond (plan_rules p) (Ok p) (Err Rule)) (Err Reference)

abbrev all_of : Bool → Bool → Plan → List Found → List Found
all_of s l p faults = or_else faults (said_faults (cond s None (cond l None (Some p))))

limit_first : (faults : List Found) (b : Bool) → has is_shape faults ≡ b → (b ≡ false → has is_limit faults ≡ true) → (b ≡ true → ⊥) → Agrees (or_else faults []) (Err Limit)
limit_first faults true e f n = absurd (n refl)
limit_first [] false e f n = (e, f refl)
limit_first (x ∷ xs) false e f n = (e, f refl)

none_first : (p : Plan) (faults : List Found) (a b : Bool) → has is_shape faults ≡ a → has is_limit faults ≡ b → (a ≡ true → ⊥) → (a ≡ false → b ≡ true → ⊥) → (has is_shape faults ≡ false → has is_limit faults ≡ false → faults ≡ []) → Agrees (plan_faults p) (judged p) → Agrees (or_else faults (plan_faults p)) (judged p)
none_first p faults true b e f n m classed good = absurd (n refl)
none_first p faults false true e f n m classed good = absurd (m refl refl)
none_first p faults false false e f n m classed good = subst (λ fs. Agrees (or_else fs (plan_faults p)) (judged p)) (sym (classed e f)) good

not_shape : (a b : Result Plan ScriptFault) → a ≡ Err Limit → b ≡ Err Shape → a ≡ b → ⊥
not_shape a b e f h = cc

seen : (s l : Bool) (p : Plan) (faults : List Found) →
    ((has is_shape faults ≡ true) ↔ (read_as s l p ≡ Err Shape)) →
    (has is_shape faults ≡ false → (has is_limit faults ≡ true) ↔ (read_as s l p ≡ Err Limit)) →
    (has is_shape faults ≡ false → has is_limit faults ≡ false → faults ≡ []) →
    Agrees (plan_faults p) (judged p) → Agrees (all_of s l p faults) (read_as s l p)
seen true l p [] shape limit classed good = absurd (not_both (shape.1 refl) refl)
seen true l p (x ∷ xs) shape limit classed good = shape.1 refl
seen false true p faults shape limit classed good = limit_first faults (has is_shape faults) refl (λ e. (limit e).1 refl) (λ e. not_shape (Err Limit) (Err Shape) refl refl (shape.0 e))
seen false false p faults shape limit classed good =
    none_first p faults (has is_shape faults) (has is_limit faults) refl refl (λ e. judged_not_shape p (plan_refers p) (plan_rules p) (shape.0 e)) (λ e f. judged_not_limit p (plan_refers p) (plan_rules p) ((limit e).0 f)) classed good

of_plan : (p : Plan) → Agrees (plan_faults p) (judged p)
of_plan p =
    let formless : has formed (plan_faults p) ≡ false = neither_so formed (λ k. refl) lacks_formed p in
    let (s, l) = of_or is_shape is_limit (plan_faults p) formless in
    said p (plan_refers p) (plan_rules p) (plan_faults p) s l (plan_refers_so p) (plan_rules_so p) (λ r q. none_left (plan_faults p) formless (or_has is_reference is_rule (plan_faults p) (plan_refers_so p ∙ ap not r) (plan_rules_so p ∙ ap not q)))

not_named : (d : Data) → IsShallow d → (b : Bool) → has named (form_faults d) ≡ b → b ≡ false
not_named d h true e =
    let (x, i, t) = any_in (λ (y : Found). named y.cause) (form_faults d) e in
    let (v, leads, c) = (form_faults_hold.told d h x).0 i in
    absurd (not_both (in_any named x.cause (own x.form v) c t) (own_classes named spares_named x.form v))
not_named d h false e = refl

-- ---- with the actions that the version has not
abbrev said_of : Bool → Data → Option Plan
said_of g d = let r = plan (Some d) in let faults = r.faults none_seen in cond g None (cond faults.shape None (cond faults.limit None (Some r.value)))

abbrev answer_of : Bool → Data → Result Plan ScriptFault
answer_of g d = let r = plan (Some d) in cond g (Err Shape) (verdict (r.faults none_seen) r.value)

still_shape : (xs ys : List Found) → has is_shape xs ≡ true → has is_shape (or_else xs ys) ≡ true
still_shape [] ys h = absurd (not_both h refl)
still_shape (x ∷ xs) ys h = h

or_last : (a b : Bool) → b ≡ true → (a || b) ≡ true
or_last true b h = refl
or_last false b h = h

agree_outside : (d : Data) → gives_outside_version_2 d ≡ true → Agrees (or_else (form_faults d ++ version_faults d) (said_faults (said_of true d))) (answer_of true d)
agree_outside d g = still_shape (form_faults d ++ version_faults d) [] (has_append is_shape (form_faults d) (version_faults d) ∙ or_last (has is_shape (form_faults d)) (has is_shape (version_faults d)) (version_has d ∙ g))

agree_within : (d : Data) → IsShallow d → gives_outside_version_2 d ≡ false → Agrees (or_else (form_faults d) (said_faults (said_of false d))) (answer_of false d)
agree_within d h g = let r = plan (Some d) in let there = r.faults none_seen in seen there.shape there.limit r.value faults shape limit classed (of_plan r.value)
  where
    faults : List Found
    faults = form_faults d

    answers : script_of d ≡ answer_of false d
    answers = ap (λ b. answer_of b d) g

    unformed : (has is_shape faults ≡ false) → IsMalformed d → ⊥
    unformed n (inl m) = not_both ((form_faults_hold.shape d h).1 m) n
    unformed n (inr x) = not_both ((outside d).1 x) g

    misshapen : IsMalformed d → has is_shape faults ≡ true
    misshapen (inl m) = (form_faults_hold.shape d h).1 m
    misshapen (inr x) = absurd (not_both ((outside d).1 x) g)

    shape : (has is_shape faults ≡ true) ↔ (answer_of false d ≡ Err Shape)
    shape = (λ e. sym answers ∙ (read_by_tables.goes.shape d).1 (inl ((form_faults_hold.shape d h).0 e)), λ e. misshapen ((read_by_tables.goes.shape d).0 (answers ∙ e)))

    limit : has is_shape faults ≡ false → (has is_limit faults ≡ true) ↔ (answer_of false d ≡ Err Limit)
    limit n = (λ e. sym answers ∙ (read_by_tables.goes.limit d).1 (unformed n, (form_faults_hold.limit d h).0 e), λ e. (form_faults_hold.limit d h).1 ((read_by_tables.goes.limit d).0 (answers ∙ e)).1)

    classed : has is_shape faults ≡ false → has is_limit faults ≡ false → faults ≡ []
    classed a b = none_left faults (or_has is_shape is_limit faults a b) (not_named d h (has named faults) refl)

agree_by : (d : Data) → IsShallow d → (g : Bool) → gives_outside_version_2 d ≡ g → Agrees (or_else (form_faults d ++ version_faults d) (said_faults (said_of g d))) (answer_of g d)
agree_by d h true g = agree_outside d g
agree_by d h false g =
    let alone : form_faults d ++ version_faults d ≡ form_faults d = ap (λ fs. form_faults d ++ fs) (version_none d g) ∙ append-nil (form_faults d) in
    subst (λ fs. Agrees (or_else fs (said_faults (said_of false d))) (answer_of false d)) (sym alone) (agree_within d h g)

pub classes_agree : ClassesAgree
classes_agree d h = agree_by d h (gives_outside_version_2 d) refl

-- ---- the first class, as a test tells it
abbrev least_by : Bool → Bool → Bool → Bool → Option Class
least_by a b c e = cond a (Some classes.Shape) (cond b (Some classes.Limit) (cond c (Some classes.Reference) (cond e (Some classes.Rule) None)))

least_is : (fs : List Found) (a b c e : Bool) → has is_shape fs ≡ a → has is_limit fs ≡ b → has is_reference fs ≡ c → has is_rule fs ≡ e → least_class fs ≡ least_by a b c e
least_is fs a b c e p q r s = ap (λ x. least_by x (has is_limit fs) (has is_reference fs) (has is_rule fs)) p ∙ ap (λ x. least_by a x (has is_reference fs) (has is_rule fs)) q ∙ ap (λ x. least_by a b x (has is_rule fs)) r ∙ ap (λ x. least_by a b c x) s

first_class_in : (fs : List Found) (r : Result Plan ScriptFault) → Agrees fs r → least_class fs ≡ class_in r
first_class_in fs (Ok p) h = ap least_class h
first_class_in fs (Err Shape) h = least_is fs true (has is_limit fs) (has is_reference fs) (has is_rule fs) h refl refl refl
first_class_in fs (Err Limit) h = least_is fs false true (has is_reference fs) (has is_rule fs) h.0 h.1 refl refl
first_class_in fs (Err Reference) h = least_is fs false false true (has is_rule fs) h.0 h.1 h.2 refl
first_class_in fs (Err Rule) h = least_is fs false false false true h.0 h.1 h.2 h.3
first_class_in fs (Err NotJson) h = absurd h
first_class_in fs (Err OutOfMemory) h = absurd h

pub first_class_is : FirstClassIs
first_class_is d h = first_class_in (script_faults d) (script_of d) (classes_agree d h)
