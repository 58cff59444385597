-- Each step of a work list's queue keeps its rule.
use Rattle.std.proofs.Common.{◌≡◌, ◌≢◌, ◌⊎◌, ℕ, zero, suc, ◌+◌, ◌-◌, true, true≢false, List, [], ◌∷◌, ◌++◌, set, sym, refl, ap, ◌∙◌, subst, ⊎_elim, append_assoc, append-nil, arith}
use Rattle.std.specs.Prelude.{IsPermutation, Contains}
use mathlib.Core.Option.{some, some-injective}
use lib.ListN.{get_elem?}
use Rattle.std.proofs.lemmas.List.Sums.{sum_by_push}
use Rattle.std.proofs.lemmas.List.Sorted.{IsPermutation-refl, IsPermutation-append}
use Rattle.crossbeam_queue.specs.Fifo.{Pushes, Pops, Forks, Merges, Learns}
use Rattle.post_office.specs.declared.views.WorkView.{WorkView}
use Rattle.post_office.specs.Merge.{IsMerge, concat}
use Rattle.post_office.specs.Parts.{IsClaimed}
use Rattle.post_office.specs.Changes.{EachIsThereOnce}
use Rattle.post_office.specs.WorkQueue.{keeper, taker, took, taken_of, outs, Fits, AllFit, work_of, WasClaimed, WasSeen}
use Rattle.post_office.proofs.Ports.{sum_set, sum_none, each_set, each_snoc}
use Rattle.post_office.proofs.Merges.{merge_push, merge_flat}
use Rattle.post_office.proofs.PassMerges.{pass_gets, pass_comes, pass_goes, passes_empty}
use Rattle.post_office.proofs.Reached.{merge_claimed, claimed_merge}

module _ {T : Type 0} where
  abbrev out_of : WorkView T → ℕ
  out_of v = v.out

  abbrev taken : WorkView T → List T
  taken v = v.taken

  -- what was claimed, as one list
  Front : List T → WorkView T → List (WorkView T) → Type 0
  Front items k vs = (claimed : List T) × (k.put ≡ claimed ++ items) × IsMerge ((k.taken ∷ k.recorded) ++ taken_of vs) claimed

  front : (items : List T) (k : WorkView T) (vs : List (WorkView T)) → IsClaimed k.put (work_of items k vs) → Front items k vs
  unfolding Front
  front items k vs c = claimed_merge k.put items (k.taken ∷ (k.recorded ++ taken_of vs)) c

  is_claimed : (items : List T) (k : WorkView T) (vs : List (WorkView T)) → Front items k vs → IsClaimed k.put (work_of items k vs)
  unfolding Front
  is_claimed items k vs f = merge_claimed k.put f.0 items (k.taken ∷ (k.recorded ++ taken_of vs)) f.1 f.2

  -- the list's own pass puts a value, while no other is out
  pub puts : (port : ℕ) (v : WorkView T) (x : T) → v.is_own ≡ true → v.out ≡ 0 → (n : ℕ) → Pushes WasClaimed n port v x (λ w. w ≡ keeper (v.put ++ x ∷ []) v.taken v.recorded v.out)
  unfolding Front
  puts port v x own none n items [] room h at = absurd h
  puts zero v x own none n items (k ∷ vs) room h at =
      let e : k ≡ v = some-injective k v at in
      let out : k.out ≡ 0 = ap (λ (u : WorkView T). u.out) e ∙ none in
      let fit : AllFit (k.put ++ x ∷ []) vs = (λ j u at'. let f = h.2 j u at' in (f.0, f.1, λ live. absurd (live (sum_none out_of vs j u (sym h.1 ∙ out) at')))) in
      let f = front items k vs h.3 in
      let w : WorkView T = keeper (k.put ++ x ∷ []) k.taken k.recorded k.out in
      let more : Front (items ++ x ∷ []) w vs = (f.0, ap (λ l. l ++ x ∷ []) f.1 ∙ append_assoc f.0 items (x ∷ []), f.2) in
      subst (λ (u : WorkView T). (w : WorkView T) × WasClaimed (items ++ x ∷ []) (w ∷ vs) × (w ≡ keeper (u.put ++ x ∷ []) u.taken u.recorded u.out)) e (w, (refl, h.1, fit, is_claimed (items ++ x ∷ []) w vs more), refl)
  puts (suc port) v x own none n items (k ∷ vs) room h at = absurd (true≢false (sym own ∙ (h.2 port v at).0))

  has : (ps us : List T) (x : T) → Contains (ps ++ x ∷ us) x
  has [] us x = (0, omega arith, refl)
  has (a ∷ ps) us x = let r = has ps us x in (suc r.0, omega (arith, r.1), r.2)

  -- the list's own pass, or one that is out, takes the first that waits
  pub takes : (port : ℕ) (v : WorkView T) → (v.is_own ≡ true) ⊎ (v.out ≢ 0) → Pops WasClaimed port v (λ x w. (w ≡ took v x) × Contains v.put x)
  unfolding Front
  takes port v may x items [] h at = absurd h
  takes zero v may x items (k ∷ vs) h at =
      let e : k ≡ v = some-injective k v at in
      let f = front (x ∷ items) k vs h.3 in
      let had : Contains k.put x = subst (λ l. Contains l x) (sym f.1) (has f.0 items x) in
      let more : Front items (took k x) vs = (f.0 ++ x ∷ [], f.1 ∙ sym (append_assoc f.0 (x ∷ []) items), merge_push ((k.taken ∷ k.recorded) ++ taken_of vs) f.0 0 x (omega arith) f.2) in
      subst (λ (u : WorkView T). (w : WorkView T) × WasClaimed items (w ∷ vs) × ((w ≡ took u x) × Contains u.put x)) e (took k x, (h.0, h.1, h.2, is_claimed items (took k x) vs more), (refl, had))
  takes (suc port) v may x items (k ∷ vs) h at =
      let f = h.2 port v at in
      let live : v.out ≢ 0 = ⊎_elim (λ own. absurd (true≢false (sym own ∙ f.0))) (λ l. l) may in
      let w : WorkView T = took v x in
      let out : k.out ≡ outs (set vs port w) = (let s = sum_set out_of vs port v w at in let t = h.1 in omega arith) in
      let c = front (x ∷ items) k vs h.3 in
      let had : Contains k.put x = subst (λ l. Contains l x) (sym c.1) (has c.0 items x) in
      let more : Front items k (set vs port w) = (c.0 ++ x ∷ [], c.1 ∙ sym (append_assoc c.0 (x ∷ []) items), pass_gets taken (k.taken ∷ k.recorded) c.0 vs port v w x at refl c.2) in
      (w, (h.0, out, each_set (Fits k.put) vs port w (f.0, (λ z. absurd (live z)), λ l. f.2 l) h.2, is_claimed items k (set vs port w) more), (refl, subst (λ l. Contains l x) (sym (f.2 live)) had))

  -- a pass learns that what it knows was seen
  pub sees : (port : ℕ) (v : WorkView T) → Learns WasClaimed port v (WasSeen v)
  sees port v items views h at = (views, port, h, at)

  -- a pass goes out, and comes back
  pub goes_out : (port : ℕ) (v : WorkView T) → v.is_own ≡ true → Forks WasClaimed port v (keeper v.put v.taken v.recorded (v.out + 1)) (taker v.put [] 1)
  unfolding Front
  goes_out port v own items [] h at = absurd h
  goes_out zero v own items (k ∷ vs) h at =
      let e : k ≡ v = some-injective k v at in
      let n : WorkView T = taker k.put [] 1 in
      let w : WorkView T = keeper k.put k.taken k.recorded (k.out + 1) in
      let out : k.out + 1 ≡ outs (vs ++ n ∷ []) = (let s = sum_by_push out_of vs n in let t = h.1 in omega arith) in
      let fit : AllFit k.put (vs ++ n ∷ []) = each_snoc (Fits k.put) vs n (refl, (λ z. refl), λ l. refl) h.2 in
      let c = front items k vs h.3 in
      let more : Front items w (vs ++ n ∷ []) = (c.0, c.1, pass_comes taken (k.taken ∷ k.recorded) c.0 vs n refl c.2) in
      subst (λ (u : WorkView T). WasClaimed items (keeper u.put u.taken u.recorded (u.out + 1) ∷ (vs ++ taker u.put [] 1 ∷ []))) e (refl, out, fit, is_claimed items w (vs ++ n ∷ []) more)
  goes_out (suc port) v own items (k ∷ vs) h at = absurd (true≢false (sym own ∙ (h.2 port v at).0))

  pub comes_back : (port : ℕ) (v : WorkView T) (other : ℕ) (u : WorkView T) → v.is_own ≡ true → u.out ≡ 1
      → Merges WasClaimed port v other u (keeper v.put v.taken (v.recorded ++ u.taken ∷ []) (v.out - 1)) (taker [] [] 0)
  unfolding Front
  comes_back port v other u own one items [] h at apart at' = absurd h
  comes_back zero v zero u own one items (k ∷ vs) h at apart at' = absurd (apart refl)
  comes_back zero v (suc j) u own one items (k ∷ vs) h at apart at' =
      let e : k ≡ v = some-injective k v at in
      let s : WorkView T = taker [] [] 0 in
      let w : WorkView T = keeper k.put k.taken (k.recorded ++ u.taken ∷ []) (k.out - 1) in
      let out : k.out - 1 ≡ outs (set vs j s) = (let q = sum_set out_of vs j u s at' in let t = h.1 in omega arith) in
      let fit : AllFit k.put (set vs j s) = each_set (Fits k.put) vs j s (refl, (λ z. refl), λ l. absurd (l refl)) h.2 in
      let c = front items k vs h.3 in
      let more : Front items w (set vs j s) = (c.0, c.1, pass_goes taken (k.taken ∷ k.recorded) c.0 vs j u s at' refl c.2) in
      subst (λ (y : WorkView T). WasClaimed items (keeper y.put y.taken (y.recorded ++ u.taken ∷ []) (y.out - 1) ∷ set vs j s)) e (refl, out, fit, is_claimed items w (set vs j s) more)
  comes_back (suc port) v other u own one items (k ∷ vs) h at apart at' = absurd (true≢false (sym own ∙ (h.2 port v at).0))

  -- where no pass is out and the list is empty, what was taken is together what was put
  at_rest : (v : WorkView T) → v.is_own ≡ true → v.out ≡ 0 → (views : List (WorkView T)) (port : ℕ) → WasClaimed [] views → get_elem? views port ≡ some v → IsPermutation v.put (concat (v.taken ∷ v.recorded))
  unfolding Front
  at_rest v own none [] port h at = absurd h
  at_rest v own none (k ∷ vs) zero h at =
      let e : k ≡ v = some-injective k v at in
      let out : k.out ≡ 0 = ap (λ (u : WorkView T). u.out) e ∙ none in
      let c = front [] k vs h.3 in
      let rest : IsMerge (k.taken ∷ k.recorded) c.0 = passes_empty taken (k.taken ∷ k.recorded) c.0 vs (λ j u at'. (h.2 j u at').1 (sum_none out_of vs j u (sym h.1 ∙ out) at')) c.2 in
      subst (λ (u : WorkView T). IsPermutation u.put (concat (u.taken ∷ u.recorded))) e (subst (λ (l : List T). IsPermutation l (concat (k.taken ∷ k.recorded))) (sym (c.1 ∙ append-nil c.0)) (merge_flat (k.taken ∷ k.recorded) c.0 rest))
  at_rest v own none (k ∷ vs) (suc port) h at = absurd (true≢false (sym own ∙ (h.2 port v at).0))

  pub all_taken : (v : WorkView T) → v.is_own ≡ true → v.out ≡ 0 → WasSeen v [] → IsPermutation v.put (concat (v.taken ∷ v.recorded))
  all_taken v own none seen = at_rest v own none seen.0 seen.1 seen.2 seen.3

  pub each_is_there_once : EachIsThereOnce T
  unfolding Front
  each_is_there_once items own vs h =
      let f = front items own vs h.3 in
      let lists : List (List T) = own.taken ∷ (own.recorded ++ taken_of vs) in
      let flat : IsPermutation f.0 (concat lists) = merge_flat lists f.0 f.2 in
      subst (λ (l : List T). IsPermutation l (concat lists ++ items)) (sym f.1) (IsPermutation-append f.0 (concat lists) items items flat (IsPermutation-refl items))
