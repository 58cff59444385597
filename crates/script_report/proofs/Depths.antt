-- What a pointer leads to goes no deeper than the whole.
use Rattle.std.proofs.Common.{◌≡◌, ◌≤◌, ◌==◌, ℕ, Bool, true, false, if◌then◌else◌, List, [], ◌∷◌, ◌++◌, Option, Some, None, option_and_then, refl, subst, arith}
use Rattle.serde_json.specs.Data.{Data, null, boolean, number, string, array, object, Items, depth}
use Rattle.serde_json.specs.Find.{get_item, unescape, index_of, step, walk, pointer}
use Rattle.loop_script.proofs.Alternatives.{some_inj}
use Rattle.script_check.proofs.PartsOf.{item_depth, member_depth}

part_of_items : (o : Option ℕ) (ds : Items) (e : Data) → option_and_then (λ i. get_item i ds) o ≡ Some e → depth e ≤ depth (array ds)
part_of_items None ds e h = absurd (cc)
part_of_items (Some i) ds e h = let r = item_depth i ds e h in omega arith

-- a part of the path
step_under : (part : List ℕ) (d e : Data) → step part d ≡ Some e → depth e ≤ depth d
step_under part null e h = absurd (cc)
step_under part (boolean b) e h = absurd (cc)
step_under part (number n) e h = absurd (cc)
step_under part (string s) e h = absurd (cc)
step_under part (array ds) e h = part_of_items (index_of part) ds e h
step_under part (object ms) e h = let r = member_depth (unescape part) ms e h in omega arith

-- what the rest of a path leads to, whatever was read of its part, goes no deeper
abbrev Below : List ℕ → Type 0
Below rest = (part : List ℕ) (d e : Data) → walk part rest d ≡ Some e → depth e ≤ depth d

after_step : (rest : List ℕ) → Below rest → (d e : Data) (o : Option Data) → ((inner : Data) → o ≡ Some inner → depth inner ≤ depth d)
    → option_and_then (walk [] rest) o ≡ Some e → depth e ≤ depth d
after_step rest below d e None less h = absurd (cc)
after_step rest below d e (Some inner) less h =
    let first = less inner refl in
    let behind = below [] inner e h in
    omega arith

-- a slash ends a part
by_slash : (b : Bool) (part : List ℕ) (x : ℕ) (rest : List ℕ) → Below rest → (d e : Data)
    → (if b then option_and_then (walk [] rest) (step part d) else walk (part ++ x ∷ []) rest d) ≡ Some e → depth e ≤ depth d
by_slash true part x rest below d e h = after_step rest below d e (step part d) (λ inner s. step_under part d inner s) h
by_slash false part x rest below d e h = below (part ++ x ∷ []) d e h

walk_under : (rest : List ℕ) → Below rest
unfolding walk
walk_under [] part d e h = step_under part d e h
walk_under (x ∷ rest) part d e h = by_slash (x == 47) part x rest (walk_under rest) d e h

by_first : (b : Bool) (rest : List ℕ) (d e : Data) → (if b then walk [] rest d else None) ≡ Some e → depth e ≤ depth d
by_first true rest d e h = walk_under rest [] d e h
by_first false rest d e h = absurd (cc)

pub pointer_under : (path : List ℕ) (d e : Data) → pointer path d ≡ Some e → depth e ≤ depth d
pointer_under [] d e h = let same : d ≡ e = some_inj h in subst (λ t. depth t ≤ depth d) same (omega arith)
pointer_under (x ∷ rest) d e h = by_first (x == 47) rest d e h
