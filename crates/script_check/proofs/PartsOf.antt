-- The parts of a value are its parts by the tables; each stands at its step, and is less deep.
use Rattle.std.proofs.Common.{◌≡◌, ◌⊎◌, ◌≤◌, ◌<◌, ◌+◌, inl, inr, refl, sym, subst, ap, ◌∙◌, ℕ, zero, suc, List, [], ◌∷◌, Option, Some, None, arith}
use Rattle.std.specs.Prelude.{max}
use Rattle.serde_json.specs.Data.{Data, null, boolean, number, string, array, object, Items, no_items, item, Members, no_members, member, depth, items_depth, members_depth}
use Rattle.serde_json.specs.Find.{get, get_member, get_item, at, as_array}
use Rattle.std.specs.Ordering.{nat_cmp, match_ordering}
use Rattle.std.specs.Cmp.Lexicographic.{slice_cmp}
use Rattle.std.specs.declared.cmp.Ordering.{Ordering}
use Rattle.std.specs.declared.cmp.Ordering.TheVariants.{Less, Equal, Greater}
use Rattle.loop_script.specs.Form.{Form, whole, whole_or_null, signed, truth, list, lanes, pair, an, one_of, lane, Key}
use Rattle.loop_script.specs.Tables.{keys, pair_parts}
use Rattle.loop_script.specs.Place.{SomeOf, IsItem, IsItemOf, IsPartFrom, IsPartBehind, IsPart, asked}
use Rattle.loop_script.proofs.Alternatives.{some_inj}
use Rattle.script_check.specs.Found.{Step, under, nth, stepped}
use Rattle.script_check.specs.Parts.{Part, there, items_from, items_in, from, behind, under_keys, parts}
use Rattle.script_check.specs.Laws.{In}
use Rattle.script_check.proofs.Among.{in_first, in_second, in_either}

-- ---- one part that may be there
pub of_there : (s : Step) (f : Form) (o : Option Data) (p : Part) → In p (there s f o) → (p.step ≡ s) × (p.form ≡ f) × (o ≡ Some p.inner)
of_there s f None p h = absurd h
of_there s f (Some d) p (inl h) = (sym (ap (λ q. q.step) h), sym (ap (λ q. q.form) h), ap (λ q. Some q.inner) h)
of_there s f (Some d) p (inr h) = absurd h

pub in_there : (s : Step) (f : Form) (o : Option Data) (e : Data) → o ≡ Some e → In (record { step = s; form = f; inner = e }) (there s f o)
in_there s f None e h = absurd (cc)
in_there s f (Some d) e h = inl (ap (λ x. record { step = s; form = f; inner = x }) (some_inj h))

-- ---- items
pub item_at : (k n : ℕ) (f : Form) (ds : Items) (p : Part) → In p (items_from k f ds) → (i : ℕ) × (p.step ≡ nth (k + i)) × (p.form ≡ f) × (get_item i ds ≡ Some p.inner)
item_at k n f no_items p h = absurd h
item_at k n f (item d ds) p (inl h) =
    let s : k ≡ k + 0 = omega arith in
    (0, sym (ap (λ q. q.step) h) ∙ ap nth s, sym (ap (λ q. q.form) h), ap (λ q. Some q.inner) h)
item_at k n f (item d ds) p (inr h) =
    let (i, s, e, g) = item_at (suc k) n f ds p h in
    let t : suc k + i ≡ k + suc i = omega arith in
    (suc i, s ∙ ap nth t, e, g)

pub item_is : (k : ℕ) (f : Form) (ds : Items) (p : Part) → In p (items_from k f ds) → (p.form ≡ f) × IsItem p.inner ds
item_is k f no_items p h = absurd h
item_is k f (item d ds) p (inl h) = (sym (ap (λ q. q.form) h), inl (ap (λ q. q.inner) h))
item_is k f (item d ds) p (inr h) = let (e, i) = item_is (suc k) f ds p h in (e, inr i)

pub is_item : (k : ℕ) (f : Form) (ds : Items) (e : Data) → IsItem e ds → (s : Step) × In (record { step = s; form = f; inner = e }) (items_from k f ds)
is_item k f no_items e h = absurd h
is_item k f (item d ds) e (inl h) = (nth k, inl (ap (λ x. record { step = nth k; form = f; inner = x }) h))
is_item k f (item d ds) e (inr h) = let (s, i) = is_item (suc k) f ds e h in (s, inr i)

-- ---- the depth of parts
pub item_depth : (i : ℕ) (ds : Items) (e : Data) → get_item i ds ≡ Some e → depth e ≤ items_depth ds
item_depth i no_items e h = absurd (cc)
item_depth zero (item d ds) e h = let s = ap depth (some_inj h) in omega arith
item_depth (suc i) (item d ds) e h = let r = item_depth i ds e h in omega arith

by_order : (o : Ordering) (k : List ℕ) (d : Data) (ms : Members) (e : Data) → (get_member k ms ≡ Some e → depth e ≤ members_depth ms) → match_ordering o (get_member k ms) (Some d) (get_member k ms) ≡ Some e → depth e ≤ max (depth d) (members_depth ms)
by_order Less k d ms e r h = let b = r h in omega arith
by_order Equal k d ms e r h = let s = ap depth (some_inj h) in omega arith
by_order Greater k d ms e r h = let b = r h in omega arith

pub member_depth : (k : List ℕ) (ms : Members) (e : Data) → get_member k ms ≡ Some e → depth e ≤ members_depth ms
member_depth k no_members e h = absurd (cc)
member_depth k (member l d ms) e h = by_order (slice_cmp nat_cmp k l) k d ms e (member_depth k ms e) h

pub step_depth : (s : Step) (d e : Data) → stepped s d ≡ Some e → depth e < depth d
step_depth (under k) (object ms) e h = let r = member_depth k ms e h in omega arith
step_depth (nth i) (array ds) e h = let r = item_depth i ds e h in omega arith
step_depth (under k) null e h = absurd (cc)
step_depth (under k) (boolean b) e h = absurd (cc)
step_depth (under k) (number n) e h = absurd (cc)
step_depth (under k) (string s) e h = absurd (cc)
step_depth (under k) (array ds) e h = absurd (cc)
step_depth (nth i) null e h = absurd (cc)
step_depth (nth i) (boolean b) e h = absurd (cc)
step_depth (nth i) (number n) e h = absurd (cc)
step_depth (nth i) (string s) e h = absurd (cc)
step_depth (nth i) (object ms) e h = absurd (cc)

-- ---- the parts behind a word, and those under keys
-- a part that was found stands at its step, and is one by the tables
pub record IsFound (f : Form) (d : Data) (p : Part) : Type 0 where
  pub step : stepped p.step d ≡ Some p.inner
  pub part : IsPart f d p.form p.inner

one_of_from : (n : ℕ) (f : Form) (fs : List Form) (d : Data) (p : Part) → (In p (from (suc n) fs d) → (stepped p.step d ≡ Some p.inner) × IsPartFrom (suc n) fs d p.form p.inner) → In p (there (nth n) f (at n d)) ⊎ In p (from (suc n) fs d) → (stepped p.step d ≡ Some p.inner) × IsPartFrom n (f ∷ fs) d p.form p.inner
one_of_from n f fs d p r (inl k) = let (s, g, e) = of_there (nth n) f (at n d) p k in (subst (λ t. stepped t d ≡ Some p.inner) (sym s) e, inl (sym g, e))
one_of_from n f fs d p r (inr k) = let (s, i) = r k in (s, inr i)

pub from_found : (n : ℕ) (fs : List Form) (d : Data) (p : Part) → In p (from n fs d) → (stepped p.step d ≡ Some p.inner) × IsPartFrom n fs d p.form p.inner
from_found n [] d p h = absurd h
from_found n (f ∷ fs) d p h = one_of_from n f fs d p (from_found (suc n) fs d p) (in_either p (there (nth n) f (at n d)) (from (suc n) fs d) h)

pub found_from : (n : ℕ) (fs : List Form) (d : Data) (g : Form) (e : Data) → IsPartFrom n fs d g e → (s : Step) × In (record { step = s; form = g; inner = e }) (from n fs d)
found_from n [] d g e h = absurd h
found_from n (f ∷ fs) d g e (inl h) =
    let i = in_there (nth n) f (at n d) e h.1 in
    (nth n, in_first _ (there (nth n) f (at n d)) (from (suc n) fs d) (subst (λ q. In (record { step = nth n; form = q; inner = e }) (there (nth n) f (at n d))) h.0 i))
found_from n (f ∷ fs) d g e (inr h) =
    let (s, i) = found_from (suc n) fs d g e h in
    (s, in_second _ (there (nth n) f (at n d)) (from (suc n) fs d) i)

abbrev Under : List Key → Data → Form → Data → Type 0
Under ks d g e = SomeOf (λ k. (k.form ≡ g) × (get k.name d ≡ Some e)) ks

one_of_keys : (k : Key) (ks : List Key) (d : Data) (p : Part) → (In p (under_keys ks d) → (stepped p.step d ≡ Some p.inner) × Under ks d p.form p.inner) → In p (there (under k.name) k.form (get k.name d)) ⊎ In p (under_keys ks d) → (stepped p.step d ≡ Some p.inner) × Under (k ∷ ks) d p.form p.inner
one_of_keys k ks d p r (inl i) = let (s, g, e) = of_there (under k.name) k.form (get k.name d) p i in (subst (λ t. stepped t d ≡ Some p.inner) (sym s) e, inl (sym g, e))
one_of_keys k ks d p r (inr i) = let (s, j) = r i in (s, inr j)

pub keys_found : (ks : List Key) (d : Data) (p : Part) → In p (under_keys ks d) → (stepped p.step d ≡ Some p.inner) × Under ks d p.form p.inner
keys_found [] d p h = absurd h
keys_found (k ∷ ks) d p h = one_of_keys k ks d p (keys_found ks d p) (in_either p (there (under k.name) k.form (get k.name d)) (under_keys ks d) h)

pub found_under : (ks : List Key) (d : Data) (g : Form) (e : Data) → Under ks d g e → (s : Step) × In (record { step = s; form = g; inner = e }) (under_keys ks d)
found_under [] d g e h = absurd h
found_under (k ∷ ks) d g e (inl h) =
    let i = in_there (under k.name) k.form (get k.name d) e h.1 in
    (under k.name, in_first _ (there (under k.name) k.form (get k.name d)) (under_keys ks d) (subst (λ q. In (record { step = under k.name; form = q; inner = e }) (there (under k.name) k.form (get k.name d))) h.0 i))
found_under (k ∷ ks) d g e (inr h) =
    let (s, i) = found_under ks d g e h in
    (s, in_second _ (there (under k.name) k.form (get k.name d)) (under_keys ks d) i)

-- ---- all parts
items_found : (f : Form) (d : Data) (o : Option Items) (p : Part) → as_array d ≡ o → In p (items_in f o) → (stepped p.step d ≡ Some p.inner) × (p.form ≡ f) × IsItemOf p.inner d
items_found f d None p e h = absurd h
items_found f (array es) (Some ds) p e h =
    let (i, s, g, x) = item_at 0 0 f ds p h in
    let same : es ≡ ds = some_inj e in
    let z : 0 + i ≡ i = omega arith in
    let there_is : get_item i es ≡ Some p.inner = ap (get_item i) same ∙ x in
    (subst (λ t. stepped t (array es) ≡ Some p.inner) (sym (s ∙ ap nth z)) there_is, g, (ds, e, (item_is 0 f ds p h).1))
items_found f null (Some ds) p e h = absurd (cc)
items_found f (boolean b) (Some ds) p e h = absurd (cc)
items_found f (number n) (Some ds) p e h = absurd (cc)
items_found f (string s) (Some ds) p e h = absurd (cc)
items_found f (object ms) (Some ds) p e h = absurd (cc)

found_items : (f : Form) (d e : Data) → IsItemOf e d → (s : Step) × In (record { step = s; form = f; inner = e }) (items_in f (as_array d))
found_items f d e (ds, h, i) = let (s, j) = is_item 0 f ds e i in (s, subst (λ o. In (record { step = s; form = f; inner = e }) (items_in f o)) (sym h) j)

behind_found : (o : Option (List Form)) (d : Data) (p : Part) → In p (behind o d) → (stepped p.step d ≡ Some p.inner) × IsPartBehind o d p.form p.inner
behind_found None d p h = absurd h
behind_found (Some fs) d p h = from_found 1 fs d p h

found_behind : (o : Option (List Form)) (d : Data) (g : Form) (e : Data) → IsPartBehind o d g e → (s : Step) × In (record { step = s; form = g; inner = e }) (behind o d)
found_behind None d g e h = absurd h
found_behind (Some fs) d g e h = found_from 1 fs d g e h

pub part_found : (f : Form) (d : Data) (p : Part) → In p (parts f d) → IsFound f d p
part_found (whole low high) d p h = absurd h
part_found (whole_or_null low high) d p h = absurd h
part_found (signed low high) d p h = absurd h
part_found truth d p h = absurd h
part_found (list low high f) d p h = let (s, g, i) = items_found f d (as_array d) p refl h in record { step = s; part = (sym g, i) }
part_found (lanes low high most) d p h = let (s, g, i) = items_found (an lane) d (as_array d) p refl h in record { step = s; part = (sym g, i) }
part_found pair d p h = let (s, i) = from_found 0 pair_parts d p h in record { step = s; part = i }
part_found (an o) d p h = let (s, i) = keys_found (keys o) d p h in record { step = s; part = i }
part_found (one_of c) d p h = let (s, i) = behind_found (asked c d) d p h in record { step = s; part = i }

pub found_part : (f : Form) (d : Data) (g : Form) (e : Data) → IsPart f d g e → (s : Step) × In (record { step = s; form = g; inner = e }) (parts f d)
found_part (whole low high) d g e h = absurd h
found_part (whole_or_null low high) d g e h = absurd h
found_part (signed low high) d g e h = absurd h
found_part truth d g e h = absurd h
found_part (list low high f) d g e h = let (s, i) = found_items f d e h.1 in (s, subst (λ q. In (record { step = s; form = q; inner = e }) (items_in f (as_array d))) h.0 i)
found_part (lanes low high most) d g e h = let (s, i) = found_items (an lane) d e h.1 in (s, subst (λ q. In (record { step = s; form = q; inner = e }) (items_in (an lane) (as_array d))) h.0 i)
found_part pair d g e h = found_from 0 pair_parts d g e h
found_part (an o) d g e h = found_under (keys o) d g e h
found_part (one_of c) d g e h = found_behind (asked c d) d g e h
