-- What was read with no fault hands a context over exactly where some action begins with the word for it.
use Rattle.std.proofs.Common.{◌≡◌, refl, sym, ap, ap₂, ◌∙◌, Bool, false, ◌&&◌, ◌||◌, not, List, [], ◌∷◌, codes, Option, Some, None}
use Rattle.std.specs.Prelude.{unwrap_or}
use Rattle.std.specs.List.{list_any}
use Rattle.std.specs.Str.{bytes_eq}
use Rattle.serde_json.specs.Data.{Data, Items, no_items, item}
use Rattle.serde_json.specs.Find.{get}
use Rattle.loop_script.specs.Gives.{is_give, gives}
use Rattle.loop_script.specs.Meaning.{Or, EachIs, IsList, IsAction, IsLane, IsProc, Denotes}
use Rattle.loop_script.specs.Plan.{plan}
use Rattle.loop_script.specs.Script.{none_seen}
use Rattle.loop_script.specs.Version.{begins_give, is_version_2, items_in, listed, list_gives, some_gives, gives_outside_version_2}
use Rattle.loop_script.specs.declared.action.Action.{Action}
use Rattle.loop_script.specs.declared.plan.LaneSpec.{LaneSpec}
use Rattle.loop_script.specs.declared.plan.Proc.{Proc}
use Rattle.loop_script.specs.declared.plan.Plan.{Plan}
use Rattle.loop_script.proofs.OneMeaning.{action_begins, gives_by_word}
use Rattle.loop_script.proofs.ScriptsRead.{denoted_where_sound}

-- ---- item for item
same_each : {A : Type 0} (g : Data → Bool) (f : A → Bool) (Is : Option Data → A → Type 0) → ((d : Data) (a : A) → Is (Some d) a → g d ≡ f a) → (ds : Items) (xs : List A) → EachIs Is ds xs → list_any g (items_in ds) ≡ list_any f xs
same_each g f Is same no_items [] h = refl
same_each g f Is same no_items (x ∷ xs) h = absurd h
same_each g f Is same (item d ds) [] h = absurd h
same_each g f Is same (item d ds) (x ∷ xs) h = ap₂ (λ a b. a || b) (same d x h.0) (same_each g f Is same ds xs h.1)

same_list : {A : Type 0} (g : Data → Bool) (f : A → Bool) (Is : Option Data → A → Type 0) → ((d : Data) (a : A) → Is (Some d) a → g d ≡ f a) → (o : Option Data) (xs : List A) → IsList Is o xs → list_any g (listed o) ≡ list_any f xs
same_list g f Is same o xs (ds, e, h) = ap (λ p. list_any g (listed p)) e ∙ same_each g f Is same ds xs h

same_or_none : {A : Type 0} (g : Data → Bool) (f : A → Bool) (Is : Option Data → A → Type 0) → ((d : Data) (a : A) → Is (Some d) a → g d ≡ f a) → (o : Option Data) (xs : List A) → Or [] (IsList Is) o xs → list_any g (listed o) ≡ list_any f xs
same_or_none g f Is same None xs h = ap (list_any f) (sym h)
same_or_none g f Is same (Some d) xs h = same_list g f Is same (Some d) xs h

-- ---- an action, a lane, a procedure
same_action : (d : Data) (a : Action) → IsAction (Some d) a → begins_give d ≡ is_give a
same_action d a h = ap (λ o. bytes_eq (unwrap_or o []) (codes "give")) (action_begins (Some d) a h) ∙ gives_by_word a

same_lane : (d : Data) (l : LaneSpec) → IsLane (Some d) l → list_gives (get (codes "start") d) ≡ list_any is_give l.start
same_lane d l h = same_list begins_give is_give IsAction same_action (get (codes "start") d) l.start h.start

same_proc : (d : Data) (q : Proc) → IsProc (Some d) q → list_gives (get (codes "do") d) ≡ list_any is_give q.actions
same_proc d q h = same_list begins_give is_give IsAction same_action (get (codes "do") d) q.actions h.actions

same_plan : (d : Data) (p : Plan) → Denotes (Some d) p → (some_gives (codes "start") (get (codes "lanes") d) || some_gives (codes "do") (get (codes "procs") d)) ≡ gives p
same_plan d p h =
    ap₂ (λ a b. a || b)
    (same_list (λ e. list_gives (get (codes "start") e)) (λ l. list_any is_give l.start) IsLane same_lane (get (codes "lanes") d) p.lanes h.lanes)
    (same_or_none (λ e. list_gives (get (codes "do") e)) (λ q. list_any is_give q.actions) IsProc same_proc (get (codes "procs") d) p.procs h.procs)

-- so what was read tells it
pub read_with_no_fault : (d : Data) → let r = plan (Some d) in (r.faults none_seen).shape ≡ false → (r.faults none_seen).limit ≡ false → gives_outside_version_2 d ≡ (not (is_version_2 d) && gives r.value)
read_with_no_fault d s l = ap (λ b. not (is_version_2 d) && b) (same_plan d (plan (Some d)).value (denoted_where_sound d s l))
