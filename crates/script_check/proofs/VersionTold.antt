-- The faults of a version are those that stand, and their places lead to them.
use Rattle.std.proofs.Common.{◌≡◌, refl, sym, ap, ap₂, ◌∙◌, ℕ, suc, Bool, true, false, not, cond, ◌&&◌, ◌||◌, List, [], ◌∷◌, ◌++◌, codes}
use Rattle.std.specs.List.{list_any}
use Rattle.serde_json.specs.Data.{Data}
use Rattle.serde_json.specs.Find.{get}
use Rattle.loop_script.specs.Version.{is_version_2, begins_give, listed, list_gives, some_gives, gives_outside_version_2}
use Rattle.loop_script.proofs.Meets.{not_both}
use Rattle.script_check.specs.declared.fault.Cause.{Cause}
use Rattle.script_check.specs.Found.{Step, under, nth, Found}
use Rattle.script_check.specs.Laws.{has, is_shape}
use Rattle.script_check.specs.VersionFaults.{other_version, gives_from, gives_of, version_faults}

or_assoc : (a b c : Bool) → ((a || b) || c) ≡ (a || (b || c))
or_assoc true b c = refl
or_assoc false b c = refl

pub has_append : (test : Cause → Bool) (xs ys : List Found) → has test (xs ++ ys) ≡ (has test xs || has test ys)
has_append test [] ys = refl
has_append test (x ∷ xs) ys = ap (λ b. test x.cause || b) (has_append test xs ys) ∙ sym (or_assoc (test x.cause) (has test xs) (has test ys))

-- ---- some is told exactly where some stands
has_one : (b : Bool) (place : List Step) (rest : List Found) (c : Bool) → has is_shape rest ≡ c → has is_shape (cond b (other_version place ∷ []) [] ++ rest) ≡ (b || c)
has_one true place rest c h = refl
has_one false place rest c h = h

has_from : (place : List Step) (k : ℕ) (ds : List Data) → has is_shape (gives_from place k ds) ≡ list_any begins_give ds
has_from place k [] = refl
has_from place k (d ∷ ds) = has_one (begins_give d) (place ++ nth k ∷ []) (gives_from place (suc k) ds) (list_any begins_give ds) (has_from place (suc k) ds)

has_of : (owners actions : List ℕ) (k : ℕ) (ds : List Data) → has is_shape (gives_of owners actions k ds) ≡ list_any (λ d. list_gives (get actions d)) ds
has_of owners actions k [] = refl
has_of owners actions k (d ∷ ds) =
    has_append is_shape (gives_from (under owners ∷ nth k ∷ under actions ∷ []) 0 (listed (get actions d))) (gives_of owners actions (suc k) ds)
    ∙ ap₂ (λ a b. a || b) (has_from (under owners ∷ nth k ∷ under actions ∷ []) 0 (listed (get actions d))) (has_of owners actions (suc k) ds)

abbrev lanes_of : Data → List Found
lanes_of d = gives_of (codes "lanes") (codes "start") 0 (listed (get (codes "lanes") d))

abbrev procs_of : Data → List Found
procs_of d = gives_of (codes "procs") (codes "do") 0 (listed (get (codes "procs") d))

has_by : (d : Data) (v : Bool) → has is_shape (cond v [] (lanes_of d ++ procs_of d)) ≡ (not v && (some_gives (codes "start") (get (codes "lanes") d) || some_gives (codes "do") (get (codes "procs") d)))
has_by d true = refl
has_by d false = has_append is_shape (lanes_of d) (procs_of d) ∙ ap₂ (λ a b. a || b) (has_of (codes "lanes") (codes "start") 0 (listed (get (codes "lanes") d))) (has_of (codes "procs") (codes "do") 0 (listed (get (codes "procs") d)))

pub version_has : (d : Data) → has is_shape (version_faults d) ≡ gives_outside_version_2 d
version_has d = has_by d (is_version_2 d)

-- ---- each is of the class shape
abbrev AllShape : List Found → Type 0
AllShape [] = Unit {0}
AllShape (x ∷ xs) = (is_shape x.cause ≡ true) × AllShape xs

all_append : (xs ys : List Found) → AllShape xs → AllShape ys → AllShape (xs ++ ys)
all_append [] ys h k = k
all_append (x ∷ xs) ys h k = (h.0, all_append xs ys h.1 k)

all_one : (b : Bool) (place : List Step) → AllShape (cond b (other_version place ∷ []) [])
all_one true place = (refl, tt)
all_one false place = tt

all_from : (place : List Step) (k : ℕ) (ds : List Data) → AllShape (gives_from place k ds)
all_from place k [] = tt
all_from place k (d ∷ ds) = all_append (cond (begins_give d) (other_version (place ++ nth k ∷ []) ∷ []) []) (gives_from place (suc k) ds) (all_one (begins_give d) (place ++ nth k ∷ [])) (all_from place (suc k) ds)

all_of : (owners actions : List ℕ) (k : ℕ) (ds : List Data) → AllShape (gives_of owners actions k ds)
all_of owners actions k [] = tt
all_of owners actions k (d ∷ ds) =
    all_append (gives_from (under owners ∷ nth k ∷ under actions ∷ []) 0 (listed (get actions d))) (gives_of owners actions (suc k) ds) (all_from (under owners ∷ nth k ∷ under actions ∷ []) 0 (listed (get actions d))) (all_of owners actions (suc k) ds)

all_by : (d : Data) (v : Bool) → AllShape (cond v [] (lanes_of d ++ procs_of d))
all_by d true = tt
all_by d false = all_append (lanes_of d) (procs_of d) (all_of (codes "lanes") (codes "start") 0 (listed (get (codes "lanes") d))) (all_of (codes "procs") (codes "do") 0 (listed (get (codes "procs") d)))

or_true : (a b : Bool) → a ≡ true → (a || b) ≡ true
or_true a b h = ap (λ c. c || b) h

none_has : (xs : List Found) → AllShape xs → has is_shape xs ≡ false → xs ≡ []
none_has [] h e = refl
none_has (x ∷ xs) h e = absurd (not_both (or_true (is_shape x.cause) (has is_shape xs) h.0) e)

pub version_none : (d : Data) → gives_outside_version_2 d ≡ false → version_faults d ≡ []
version_none d e = none_has (version_faults d) (all_by d (is_version_2 d)) (version_has d ∙ e)
