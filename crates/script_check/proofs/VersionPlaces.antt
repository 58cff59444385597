-- The places of the faults of a version lead to the actions that begin so.
use Rattle.std.proofs.Common.{◌≡◌, ◌⊎◌, inl, inr, refl, sym, subst, ap, ◌∙◌, ℕ, zero, suc, ◌+◌, Bool, true, false, cond, List, [], ◌∷◌, ◌++◌, codes, Option, Some, None, arith}
use Rattle.std.specs.Prelude.{option_and_then, slice_get}
use Rattle.serde_json.specs.Data.{Data, null, boolean, number, string, array, object, Items, no_items, item}
use Rattle.serde_json.specs.Find.{get, get_item, at}
use Rattle.loop_script.specs.Version.{IsGive, begins_give, items_in, listed, is_version_2}
use Rattle.loop_script.proofs.Alternatives.{some_inj}
use Rattle.loop_script.proofs.Gives.{outside, begins}
use Rattle.script_check.specs.Found.{Step, under, nth, at_place, Found}
use Rattle.script_check.specs.Laws.{In}
use Rattle.script_check.specs.VersionFaults.{other_version, gives_from, gives_of, version_faults, action_place, VersionFaults}
use Rattle.script_check.proofs.Among.{in_first, in_second, in_either}
use Rattle.script_check.proofs.VersionTold.{version_has}

-- ---- the items of a list by their numbers
item_at : (ds : Items) (n : ℕ) → slice_get (items_in ds) n ≡ get_item n ds
item_at no_items n = refl
item_at (item d ds) zero = refl
item_at (item d ds) (suc n) = item_at ds n

listed_at : (o : Option Data) (n : ℕ) (e : Data) → slice_get (listed o) n ≡ Some e → option_and_then (at n) o ≡ Some e
listed_at None n e h = absurd (cc)
listed_at (Some null) n e h = absurd (cc)
listed_at (Some (boolean b)) n e h = absurd (cc)
listed_at (Some (number k)) n e h = absurd (cc)
listed_at (Some (string s)) n e h = absurd (cc)
listed_at (Some (object ms)) n e h = absurd (cc)
listed_at (Some (array ds)) n e h = sym (item_at ds n) ∙ h

-- ---- what is told is one of them
-- of a list, the first of which is the k-th: x tells of the i-th of it, which is e
pub record GiveAt (place : List Step) (k : ℕ) (ds : List Data) (x : Found) : Type 0 where
  pub n : ℕ
  pub action : Data
  pub stands : slice_get ds n ≡ Some action
  pub gives : begins_give action ≡ true
  pub found : x ≡ other_version (place ++ nth (k + n) ∷ [])

later : (place : List Step) (k : ℕ) (d : Data) (ds : List Data) (x : Found) → GiveAt place (suc k) ds x → GiveAt place k (d ∷ ds) x
later place k d ds x g = record {
  n = suc g.n;
  action = g.action;
  stands = g.stands;
  gives = g.gives;
  found = g.found ∙ ap (λ m. other_version (place ++ nth m ∷ [])) (omega arith);
}

first_or_later : (place : List Step) (k : ℕ) (d : Data) (ds : List Data) (x : Found) (b : Bool) → begins_give d ≡ b → (In x (gives_from place (suc k) ds) → GiveAt place (suc k) ds x) → In x (cond b (other_version (place ++ nth k ∷ []) ∷ []) []) ⊎ In x (gives_from place (suc k) ds) → GiveAt place k (d ∷ ds) x
first_or_later place k d ds x true e rest (inl (inl h)) = record {
  n = 0;
  action = d;
  stands = refl;
  gives = e;
  found = sym h ∙ ap (λ m. other_version (place ++ nth m ∷ [])) (omega arith);
}
first_or_later place k d ds x true e rest (inl (inr h)) = absurd h
first_or_later place k d ds x false e rest (inl h) = absurd h
first_or_later place k d ds x b e rest (inr h) = later place k d ds x (rest h)

give_at : (place : List Step) (k : ℕ) (ds : List Data) (x : Found) → In x (gives_from place k ds) → GiveAt place k ds x
give_at place k [] x h = absurd h
give_at place k (d ∷ ds) x h =
    first_or_later place k d ds x (begins_give d) refl (give_at place (suc k) ds x) (in_either x (cond (begins_give d) (other_version (place ++ nth k ∷ []) ∷ []) []) (gives_from place (suc k) ds) h)

-- the same of lanes or procedures
pub record GiveOf (owners actions : List ℕ) (k : ℕ) (ds : List Data) (x : Found) : Type 0 where
  pub n : ℕ
  pub owner : Data
  pub stands : slice_get ds n ≡ Some owner
  pub give : GiveAt (under owners ∷ nth (k + n) ∷ under actions ∷ []) 0 (listed (get actions owner)) x

later_of : (owners actions : List ℕ) (k : ℕ) (d : Data) (ds : List Data) (x : Found) → GiveOf owners actions (suc k) ds x → GiveOf owners actions k (d ∷ ds) x
later_of owners actions k d ds x g = record {
  n = suc g.n;
  owner = g.owner;
  stands = g.stands;
  give = subst (λ m. GiveAt (under owners ∷ nth m ∷ under actions ∷ []) 0 (listed (get actions g.owner)) x) (omega arith) g.give;
}

give_of : (owners actions : List ℕ) (k : ℕ) (ds : List Data) (x : Found) → In x (gives_of owners actions k ds) → GiveOf owners actions k ds x
give_of owners actions k [] x h = absurd h
give_of owners actions k (d ∷ ds) x h = by (in_either x (gives_from here 0 (listed (get actions d))) (gives_of owners actions (suc k) ds) h) (give_of owners actions (suc k) ds x)
  where
    here : List Step
    here = under owners ∷ nth k ∷ under actions ∷ []

    by : In x (gives_from here 0 (listed (get actions d))) ⊎ In x (gives_of owners actions (suc k) ds) → (In x (gives_of owners actions (suc k) ds) → GiveOf owners actions (suc k) ds x) → GiveOf owners actions k (d ∷ ds) x
    by (inl i) rest = record {
      n = 0;
      owner = d;
      stands = refl;
      give = subst (λ m. GiveAt (under owners ∷ nth m ∷ under actions ∷ []) 0 (listed (get actions d)) x) (omega arith) (give_at here 0 (listed (get actions d)) x i);
    }
    by (inr i) rest = later_of owners actions k d ds x (rest i)

-- ---- and its place leads there
nth_leads : (o : Option Data) (n : ℕ) (e : Data) (ss : List Step) → option_and_then (at n) o ≡ Some e → option_and_then (at_place (nth n ∷ ss)) o ≡ at_place ss e
nth_leads None n e ss h = absurd (cc)
nth_leads (Some d) n e ss h = ap (option_and_then (at_place ss)) h

from_none : (ds : List Data) (n : ℕ) (e : Data) → slice_get ds n ≡ Some e → slice_get ds (0 + n) ≡ Some e
from_none ds n e h = subst (λ m. slice_get ds m ≡ Some e) (omega arith) h

leads : (owners actions : List ℕ) (d : Data) (x : Found) → In x (gives_of owners actions 0 (listed (get owners d))) → (e : Data) × (at_place x.place d ≡ Some e) × IsGive (Some e)
leads owners actions d x h =
    let g = give_of owners actions 0 (listed (get owners d)) x h in
    let a = g.give in
    let to_owner = nth_leads (get owners d) (0 + g.n) g.owner (under actions ∷ nth (0 + a.n) ∷ []) (listed_at (get owners d) (0 + g.n) g.owner (from_none (listed (get owners d)) g.n g.owner g.stands)) in
    let to_action = nth_leads (get actions g.owner) (0 + a.n) a.action [] (listed_at (get actions g.owner) (0 + a.n) a.action (from_none (listed (get actions g.owner)) a.n a.action a.stands)) in
    (a.action, ap (λ y. at_place y.place d) a.found ∙ to_owner ∙ to_action, (begins a.action).0 a.gives)

leads_by : (d : Data) (x : Found) (v : Bool) → In x (cond v [] (gives_of (codes "lanes") (codes "start") 0 (listed (get (codes "lanes") d)) ++ gives_of (codes "procs") (codes "do") 0 (listed (get (codes "procs") d)))) → (e : Data) × (at_place x.place d ≡ Some e) × IsGive (Some e)
leads_by d x true h = absurd h
leads_by d x false h = by (in_either x (gives_of (codes "lanes") (codes "start") 0 (listed (get (codes "lanes") d))) (gives_of (codes "procs") (codes "do") 0 (listed (get (codes "procs") d))) h)
  where
    by : In x (gives_of (codes "lanes") (codes "start") 0 (listed (get (codes "lanes") d))) ⊎ In x (gives_of (codes "procs") (codes "do") 0 (listed (get (codes "procs") d))) → (e : Data) × (at_place x.place d ≡ Some e) × IsGive (Some e)
    by (inl i) = leads (codes "lanes") (codes "start") d x i
    by (inr i) = leads (codes "procs") (codes "do") d x i

-- ---- and each is told
at_listed : (o : Option Data) (n : ℕ) (e : Data) → option_and_then (at n) o ≡ Some e → slice_get (listed o) n ≡ Some e
at_listed None n e h = absurd (cc)
at_listed (Some null) n e h = absurd (cc)
at_listed (Some (boolean b)) n e h = absurd (cc)
at_listed (Some (number k)) n e h = absurd (cc)
at_listed (Some (string s)) n e h = absurd (cc)
at_listed (Some (object ms)) n e h = absurd (cc)
at_listed (Some (array ds)) n e h = item_at ds n ∙ h

first_told : (b : Bool) (place : List Step) (fs : List Found) → b ≡ true → In (other_version place) (cond b (other_version place ∷ []) [] ++ fs)
first_told true place fs h = inl refl
first_told false place fs h = absurd (cc)

told_from : (place : List Step) (k : ℕ) (ds : List Data) (m : ℕ) (e : Data) → slice_get ds m ≡ Some e → begins_give e ≡ true → In (other_version (place ++ nth (k + m) ∷ [])) (gives_from place k ds)
told_from place k [] m e h g = absurd (cc)
told_from place k (d ∷ ds) zero e h g =
    let here : begins_give d ≡ true = ap begins_give (some_inj h) ∙ g in
    let fs = gives_from place k (d ∷ ds) in
    subst (λ i. In (other_version (place ++ nth i ∷ [])) fs) (omega arith) (first_told (begins_give d) (place ++ nth k ∷ []) (gives_from place (suc k) ds) here)
told_from place k (d ∷ ds) (suc m) e h g =
    let fs = gives_from place k (d ∷ ds) in
    let first = cond (begins_give d) (other_version (place ++ nth k ∷ []) ∷ []) [] in
    subst (λ i. In (other_version (place ++ nth i ∷ [])) fs) (omega arith) (in_second _ first (gives_from place (suc k) ds) (told_from place (suc k) ds m e h g))

told_of : (owners actions : List ℕ) (k : ℕ) (ds : List Data) (n m : ℕ) (owner e : Data) → slice_get ds n ≡ Some owner → slice_get (listed (get actions owner)) m ≡ Some e → begins_give e ≡ true → In (other_version (action_place owners actions (k + n) m)) (gives_of owners actions k ds)
told_of owners actions k [] n m owner e h j g = absurd (cc)
told_of owners actions k (d ∷ ds) zero m owner e h j g =
    let here : slice_get (listed (get actions d)) m ≡ Some e = ap (λ x. slice_get (listed (get actions x)) m) (some_inj h) ∙ j in
    let told = told_from (under owners ∷ nth k ∷ under actions ∷ []) 0 (listed (get actions d)) m e here g in
    let fs = gives_of owners actions k (d ∷ ds) in
    subst (λ i. In (other_version (action_place owners actions i m)) fs) (omega arith)
    (subst (λ i. In (other_version (action_place owners actions k i)) fs) (omega arith) (in_first _ (gives_from (under owners ∷ nth k ∷ under actions ∷ []) 0 (listed (get actions d))) (gives_of owners actions (suc k) ds) told))
told_of owners actions k (d ∷ ds) (suc n) m owner e h j g =
    let fs = gives_of owners actions k (d ∷ ds) in
    let first = gives_from (under owners ∷ nth k ∷ under actions ∷ []) 0 (listed (get actions d)) in
    subst (λ i. In (other_version (action_place owners actions i m)) fs) (omega arith) (in_second _ first (gives_of owners actions (suc k) ds) (told_of owners actions (suc k) ds n m owner e h j g))

-- what stands at a place of a list of a list
nowhere : IsGive None → ⊥
nowhere h = cc

told_under : (owners actions : List ℕ) (d : Data) (n m : ℕ) (o : Option Data) → option_and_then (at n) (get owners d) ≡ o → (e : Option Data) → option_and_then (at m) (option_and_then (get actions) o) ≡ e → IsGive e → In (other_version (action_place owners actions n m)) (gives_of owners actions 0 (listed (get owners d)))
told_under owners actions d n m None h e i g = absurd (nowhere (subst IsGive (sym i) g))
told_under owners actions d n m (Some owner) h None i g = absurd (nowhere g)
told_under owners actions d n m (Some owner) h (Some e) i g =
    subst (λ k. In (other_version (action_place owners actions k m)) (gives_of owners actions 0 (listed (get owners d)))) (omega arith)
    (told_of owners actions 0 (listed (get owners d)) n m owner e (at_listed (get owners d) n owner h) (at_listed (get actions owner) m e i) ((begins e).1 g))

abbrev lanes_told : Data → List Found
lanes_told d = gives_of (codes "lanes") (codes "start") 0 (listed (get (codes "lanes") d))

abbrev procs_told : Data → List Found
procs_told d = gives_of (codes "procs") (codes "do") 0 (listed (get (codes "procs") d))

in_version : (d : Data) (x : Found) → is_version_2 d ≡ false → In x (lanes_told d ++ procs_told d) → In x (version_faults d)
in_version d x v h = subst (λ b. In x (cond b [] (lanes_told d ++ procs_told d))) (sym v) h

pub version_faults_stand : VersionFaults
version_faults_stand = record {
  some = λ d. (λ h. (outside d).0 (sym (version_has d) ∙ h), λ g. version_has d ∙ (outside d).1 g);
  place = λ d x h. leads_by d x (is_version_2 d) h;
  lanes = λ d v n m g. in_version d _ v (in_first _ (lanes_told d) (procs_told d) (told_under (codes "lanes") (codes "start") d n m _ refl _ refl g));
  procs = λ d v n m g. in_version d _ v (in_second _ (lanes_told d) (procs_told d) (told_under (codes "procs") (codes "do") d n m _ refl _ refl g));
}
