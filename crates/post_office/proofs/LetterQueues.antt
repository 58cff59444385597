-- Each step of an office's queue keeps its rule.
use Rattle.std.proofs.Common.{◌≡◌, ℕ, zero, suc, ◌+◌, ◌-◌, ◌<◌, true, false, true≢false, List, [], ◌∷◌, ◌++◌, length, set, sym, refl, ap, ◌∙◌, subst, append_assoc, append-nil, arith, length-append}
use mathlib.Core.Option.{some, some-injective}
use lib.ListN.{get_elem?}
use Rattle.crossbeam_queue.specs.Fifo.{Pushes, Pops, Forks, Merges, Learns}
use Rattle.std.proofs.lemmas.List.Sums.{sum_by_push}
use Rattle.post_office.specs.declared.letter.Letter.{Letter}
use Rattle.post_office.specs.declared.views.PostView.{PostView}
use Rattle.post_office.specs.Merge.{IsMerge, concat}
use Rattle.post_office.specs.Parts.{IsPosted}
use Rattle.post_office.specs.Changes.{LettersAreMerged}
use Rattle.post_office.specs.LetterQueue.{keeper, poster, posted, outs, posted_of, Fits, mail_of, WasPosted, WasSeen}
use Rattle.post_office.proofs.Ports.{sum_set, sum_none, each_set, each_snoc}
use Rattle.post_office.proofs.PassMerges.{pass_gets, pass_comes, pass_goes, passes_empty}
use Rattle.post_office.proofs.Reached.{merge_posted, posted_merge}
use Rattle.post_office.proofs.Merges.{merge_length}

abbrev out_of : PostView → ℕ
out_of v = v.out

abbrev sent : PostView → List Letter
sent v = v.posted

-- a pass that is out posts a letter
pub posting : (port : ℕ) (v : PostView) (x : Letter) → v.is_own ≡ false → v.out ≡ 1 → (n : ℕ) → Pushes WasPosted n port v x (λ w. w ≡ posted v x)
posting port v x apart one n items [] room h at = absurd h
posting zero v x apart one n items (k ∷ vs) room h at = absurd (true≢false (sym h.0 ∙ ap (λ (u : PostView). u.is_own) (some-injective k v at) ∙ apart))
posting (suc port) v x apart one n items (k ∷ vs) room h at =
    let w : PostView = posted v x in
    let out : k.out ≡ outs (set vs port w) = (let s = sum_set out_of vs port v w at in let t = h.1 in omega arith) in
    let m : IsMerge (k.recorded ++ posted_of (set vs port w)) ((k.drained ++ items) ++ x ∷ []) = pass_gets sent k.recorded (k.drained ++ items) vs port v w x at refl (posted_merge (k.recorded ++ posted_of vs) (k.drained ++ items) h.3) in
    let merged : IsMerge (k.recorded ++ posted_of (set vs port w)) (k.drained ++ (items ++ x ∷ [])) = subst (IsMerge (k.recorded ++ posted_of (set vs port w))) (append_assoc k.drained items (x ∷ [])) m in
    (w, (h.0, out, each_set Fits vs port w (apart, λ z. absurd (omega arith)) h.2, merge_posted _ _ merged), refl)

-- where no pass is out, what was recorded is all that was posted
all_recorded : (items : List Letter) (k : PostView) (vs : List PostView) → WasPosted items (k ∷ vs) → k.out ≡ 0 → IsMerge k.recorded (k.drained ++ items)
all_recorded items k vs h out = passes_empty sent k.recorded (k.drained ++ items) vs (λ j u at. (h.2 j u at).1 (sum_none out_of vs j u (sym h.1 ∙ out) at)) (posted_merge (k.recorded ++ posted_of vs) (k.drained ++ items) h.3)

-- the office's own pass drains the first letter, while no other is out
pub draining : (port : ℕ) (v : PostView) → v.is_own ≡ true → v.out ≡ 0 → Pops WasPosted port v (λ x w. (w ≡ keeper v.recorded (v.drained ++ x ∷ []) v.out) × (length v.drained < length (concat v.recorded)))
draining port v own none x items [] h at = absurd h
draining zero v own none x items (k ∷ vs) h at =
    let e : k ≡ v = some-injective k v at in
    let rest : IsMerge k.recorded (k.drained ++ x ∷ items) = all_recorded (x ∷ items) k vs h (ap (λ (u : PostView). u.out) e ∙ none) in
    let short : length k.drained < length (concat k.recorded) = omega (arith, merge_length k.recorded _ rest, length-append k.drained (x ∷ items)) in
    let same : IsPosted (mail_of items (keeper k.recorded (k.drained ++ x ∷ []) k.out) vs) = subst (λ (l : List Letter). IsPosted (record { posted = k.recorded ++ posted_of vs; office = l })) (sym (append_assoc k.drained (x ∷ []) items)) h.3 in
    subst (λ (u : PostView). (w : PostView) × WasPosted items (w ∷ vs) × ((w ≡ keeper u.recorded (u.drained ++ x ∷ []) u.out) × (length u.drained < length (concat u.recorded)))) e
    (keeper k.recorded (k.drained ++ x ∷ []) k.out, (refl, h.1, h.2, same), (refl, short))
draining (suc port) v own none x items (k ∷ vs) h at = absurd (true≢false (sym own ∙ (h.2 port v at).0))

-- a pass learns that what it knows was seen
pub sees : (port : ℕ) (v : PostView) → Learns WasPosted port v (WasSeen v)
sees port v items views h at = (views, port, h, at)

-- a pass goes out, and comes back
pub goes_out : (port : ℕ) (v : PostView) → v.is_own ≡ true → Forks WasPosted port v (keeper v.recorded v.drained (v.out + 1)) (poster [] 1)
goes_out port v own items [] h at = absurd h
goes_out zero v own items (k ∷ vs) h at =
    let e : k ≡ v = some-injective k v at in
    let n : PostView = poster [] 1 in
    let out : k.out + 1 ≡ outs (vs ++ n ∷ []) = (let s = sum_by_push out_of vs n in let t = h.1 in omega arith) in
    let merged : IsMerge (k.recorded ++ posted_of (vs ++ n ∷ [])) (k.drained ++ items) = pass_comes sent k.recorded (k.drained ++ items) vs n refl (posted_merge (k.recorded ++ posted_of vs) (k.drained ++ items) h.3) in
    subst (λ (u : PostView). WasPosted items (keeper u.recorded u.drained (u.out + 1) ∷ (vs ++ poster [] 1 ∷ []))) e (refl, out, each_snoc Fits vs n (refl, λ z. refl) h.2, merge_posted _ _ merged)
goes_out (suc port) v own items (k ∷ vs) h at = absurd (true≢false (sym own ∙ (h.2 port v at).0))

pub comes_back : (port : ℕ) (v : PostView) (other : ℕ) (u : PostView) → v.is_own ≡ true → u.out ≡ 1
    → Merges WasPosted port v other u (keeper (v.recorded ++ u.posted ∷ []) v.drained (v.out - 1)) (poster [] 0)
comes_back port v other u own one items [] h at apart at' = absurd h
comes_back zero v zero u own one items (k ∷ vs) h at apart at' = absurd (apart refl)
comes_back zero v (suc j) u own one items (k ∷ vs) h at apart at' =
    let e : k ≡ v = some-injective k v at in
    let s : PostView = poster [] 0 in
    let out : k.out - 1 ≡ outs (set vs j s) = (let q = sum_set out_of vs j u s at' in let t = h.1 in omega arith) in
    let merged : IsMerge ((k.recorded ++ u.posted ∷ []) ++ posted_of (set vs j s)) (k.drained ++ items) = pass_goes sent k.recorded (k.drained ++ items) vs j u s at' refl (posted_merge (k.recorded ++ posted_of vs) (k.drained ++ items) h.3) in
    subst (λ (y : PostView). WasPosted items (keeper (y.recorded ++ u.posted ∷ []) y.drained (y.out - 1) ∷ set vs j s)) e (refl, out, each_set Fits vs j s (refl, λ z. refl) h.2, merge_posted _ _ merged)
comes_back (suc port) v other u own one items (k ∷ vs) h at apart at' = absurd (true≢false (sym own ∙ (h.2 port v at).0))

-- where no pass is out and the office was empty, what was drained is a merge of what was recorded
pub all_drained : (v : PostView) → v.is_own ≡ true → v.out ≡ 0 → WasSeen v [] → IsMerge v.recorded v.drained
all_drained v own none seen = at_rest v own none seen.0 seen.1 seen.2 seen.3
  where
    at_rest : (v : PostView) → v.is_own ≡ true → v.out ≡ 0 → (views : List PostView) (port : ℕ) → WasPosted [] views → get_elem? views port ≡ some v → IsMerge v.recorded v.drained
    at_rest v own none [] port h at = absurd h
    at_rest v own none (k ∷ vs) zero h at =
        let e : k ≡ v = some-injective k v at in
        let rest : IsMerge k.recorded (k.drained ++ []) = all_recorded [] k vs h (ap (λ (u : PostView). u.out) e ∙ none) in
        subst (λ (u : PostView). IsMerge u.recorded u.drained) e (subst (IsMerge k.recorded) (append-nil k.drained) rest)
    at_rest v own none (k ∷ vs) (suc port) h at = absurd (true≢false (sym own ∙ (h.2 port v at).0))

pub letters_are_merged : LettersAreMerged
letters_are_merged items own vs h = posted_merge (own.recorded ++ posted_of vs) (own.drained ++ items) h.3
