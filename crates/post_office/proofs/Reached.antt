-- What a queue's changes lead to is a merge, and each merge is led to.
use Rattle.std.proofs.Common.{◌≡◌, ◌≢◌, ℕ, zero, suc, ◌<◌, Bool, cond, Option, Some, None, List, [], ◌∷◌, ◌++◌, length, set, get_or, replicate, sym, refl, ap, ◌∙◌, subst, append_assoc, append-nil, arith, eq-eqb, ne_eqb}
use Rattle.std.specs.Prelude.{slice_get}
use Rattle.std.specs.List.{AllByRecursion}
use Rattle.std.proofs.lemmas.List.{get_or-set_same, get_or-set_other, length-set, length-replicate}
use mathlib.Core.Logic.{dite}
use native.Mathlib.Decide.{ℕ_discrete}
use Rattle.post_office.specs.Merge.{picked, IsMerge}
use Rattle.post_office.specs.Parts.{Work, Mail, claim_of, post_of, all_claims, all_posts, unclaimed, IsClaimed, IsPosted}
use Rattle.post_office.proofs.Merges.{reach}

-- labels of that many lists
abbrev Below : ℕ → List ℕ → Type 0
Below n ws = AllByRecursion (λ w. w < n) ws

module _ {X : Type 0} where
  same_lists : (ls ms : List (List X)) → length ls ≡ length ms → ((t : ℕ) → get_or ls t [] ≡ get_or ms t []) → ls ≡ ms
  same_lists [] [] e h = refl
  same_lists [] (m ∷ ms) e h = absurd (omega arith)
  same_lists (l ∷ ls) [] e h = absurd (omega arith)
  same_lists (l ∷ ls) (m ∷ ms) e h = λ i. h 0 i ∷ same_lists ls ms (omega arith) (λ t. h (suc t)) i

  -- each value to the list of its label
  dealt : List ℕ → List X → List (List X) → List (List X)
  dealt [] xs ls = ls
  dealt (w ∷ ws) [] ls = ls
  dealt (w ∷ ws) (x ∷ xs) ls = dealt ws xs (set ls w (get_or ls w [] ++ x ∷ []))

  length_dealt : (ws : List ℕ) (xs : List X) (ls : List (List X)) → length (dealt ws xs ls) ≡ length ls
  unfolding dealt
  length_dealt [] xs ls = refl
  length_dealt (w ∷ ws) [] ls = refl
  length_dealt (w ∷ ws) (x ∷ xs) ls = length_dealt ws xs (set ls w (get_or ls w [] ++ x ∷ [])) ∙ length-set ls w (get_or ls w [] ++ x ∷ [])

  at_dealt : (ws : List ℕ) (xs : List X) (ls : List (List X)) (t : ℕ) → Below (length ls) ws → get_or (dealt ws xs ls) t [] ≡ get_or ls t [] ++ picked t ws xs
  unfolding dealt
  at_dealt [] xs ls t b = sym (append-nil (get_or ls t []))
  at_dealt (w ∷ ws) [] ls t b = sym (append-nil (get_or ls t []))
  at_dealt (w ∷ ws) (x ∷ xs) ls t b =
      let next : List (List X) = set ls w (get_or ls w [] ++ x ∷ []) in
      let r : get_or (dealt ws xs next) t [] ≡ get_or next t [] ++ picked t ws xs = at_dealt ws xs next t (subst (λ (n : ℕ). Below n ws) (sym (length-set ls w (get_or ls w [] ++ x ∷ []))) b.1) in
      r ∙ dite (ℕ_discrete t w)
      (λ (e : t ≡ w).
      ap (λ (k : ℕ). get_or next k [] ++ picked t ws xs) e ∙ ap (λ (l : List X). l ++ picked t ws xs) (get_or-set_same ls w (get_or ls w [] ++ x ∷ []) [] b.0)
      ∙ append_assoc (get_or ls w []) (x ∷ []) (picked t ws xs) ∙ ap (λ (k : ℕ). get_or ls k [] ++ x ∷ picked t ws xs) (sym e)
      ∙ ap (λ (c : Bool). get_or ls t [] ++ cond c (x ∷ picked t ws xs) (picked t ws xs)) (sym (eq-eqb w t (sym e))))
      (λ (n : t ≢ w).
      ap (λ (l : List X). l ++ picked t ws xs) (get_or-set_other ls w t (get_or ls w [] ++ x ∷ []) [] n)
      ∙ ap (λ (c : Bool). get_or ls t [] ++ cond c (x ∷ picked t ws xs) (picked t ws xs)) (sym (ne_eqb w t (λ q. n (sym q)))))

  at_none : (n t : ℕ) → get_or {A = List X} (replicate n []) t [] ≡ []
  at_none zero t = refl
  at_none (suc n) zero = refl
  at_none (suc n) (suc t) = at_none n t

  -- the labels of a merge are those of its lists
  labels : (xs : List X) (ls : List (List X)) (who : List ℕ) → length who ≡ length xs → ((t : ℕ) → picked t who xs ≡ get_or ls t []) → Below (length ls) who
  labels xs ls [] e h = tt
  labels [] ls (w ∷ ws) e h = absurd (omega arith)
  labels (x ∷ xs) ls (w ∷ ws) e h =
      let rest = picked w ws xs in
      let here : get_or ls w [] ≡ x ∷ rest = sym (h w) ∙ ap (λ b. cond b (x ∷ rest) rest) (eq-eqb w w refl) in
      let lt : w < length ls = reach ls w x rest here in
      let left : (t : ℕ) → picked t ws xs ≡ get_or (set ls w rest) t [] = (λ t. dite (ℕ_discrete t w)
      (λ (q : t ≡ w). ap (λ (k : ℕ). picked k ws xs) q ∙ sym (get_or-set_same ls w rest [] lt) ∙ ap (λ (k : ℕ). get_or (set ls w rest) k []) (sym q))
      (λ (n : t ≢ w). sym (ap (λ b. cond b (x ∷ picked t ws xs) (picked t ws xs)) (ne_eqb w t (λ q. n (sym q)))) ∙ h t ∙ sym (get_or-set_other ls w t rest [] n))) in
      (lt, subst (λ (n : ℕ). Below n ws) (length-set ls w rest) (labels xs (set ls w rest) ws (omega arith) left))

  merge_dealt : (ls : List (List X)) (xs : List X) (m : IsMerge ls xs) → dealt m.0 xs (replicate (length ls) []) ≡ ls
  merge_dealt ls xs m =
      let below : Below (length ls) m.0 = labels xs ls m.0 m.1 m.2 in
      same_lists (dealt m.0 xs (replicate (length ls) [])) ls
      (length_dealt m.0 xs (replicate (length ls) []) ∙ length-replicate (length ls) [])
      (λ t. at_dealt m.0 xs (replicate (length ls) []) t (subst (λ (n : ℕ). Below n m.0) (sym (length-replicate (length ls) [])) below)
      ∙ ap (λ (l : List X). l ++ picked t m.0 xs) (at_none (length ls) t) ∙ m.2 t)

  dealt_merge : (n : ℕ) (ls : List (List X)) (ws : List ℕ) (xs : List X) → length ws ≡ length xs → Below n ws → dealt ws xs (replicate n []) ≡ ls → IsMerge ls xs
  dealt_merge n ls ws xs e b d = (
    ws,
    e,
    λ t.
        sym (ap (λ (l : List X). l ++ picked t ws xs) (at_none n t)) ∙ sym (at_dealt ws xs (replicate n []) t (subst (λ (n : ℕ). Below n ws) (sym (length-replicate n [])) b)) ∙ ap (λ (l : List (List X)). get_or l t []) d,
  )

  read_at : (ls : List (List X)) (w : ℕ) → w < length ls → slice_get ls w ≡ Some (get_or ls w [])
  read_at [] w lt = absurd (omega arith)
  read_at (l ∷ ls) zero lt = refl
  read_at (l ∷ ls) (suc w) lt = read_at ls w (omega arith)

  read_past : (ls : List (List X)) (w : ℕ) (l : List X) → slice_get ls w ≡ Some l → (w < length ls) × (get_or ls w [] ≡ l)
  read_past [] w l e = cc
  read_past (m ∷ ms) zero l e = (omega arith, some_is m l e)
    where
      some_is : (m l : List X) → Some m ≡ Some l → m ≡ l
      some_is m l e = cc
  read_past (m ∷ ms) (suc w) l e = let r = read_past ms w l e in (omega (arith, r.0), r.1)

  -- ---- claims
  claims_deal : (ws : List ℕ) (xs items : List X) (ls : List (List X)) → length ws ≡ length xs → Below (length ls) ws
      → all_claims ws (record { waiting = xs ++ items; taken = ls }) ≡ record { waiting = items; taken = dealt ws xs ls }
  unfolding dealt
  claims_deal [] [] items ls e b = refl
  claims_deal [] (x ∷ xs) items ls e b = absurd (omega arith)
  claims_deal (w ∷ ws) [] items ls e b = absurd (omega arith)
  claims_deal (w ∷ ws) (x ∷ xs) items ls e b =
      ap (λ (o : Option (List X)). all_claims ws (claim_of w 0 (record { waiting = x ∷ (xs ++ items); taken = ls }) o (Some x))) (read_at ls w b.0)
      ∙ claims_deal ws xs items (set ls w (get_or ls w [] ++ x ∷ [])) (omega arith) (subst (λ (n : ℕ). Below n ws) (sym (length-set ls w (get_or ls w [] ++ x ∷ []))) b.1)

  pub merge_claimed : (put claimed items : List X) (ls : List (List X)) → put ≡ claimed ++ items → IsMerge ls claimed → IsClaimed put (record { waiting = items; taken = ls })
  merge_claimed put claimed items ls e m = (
    m.0,
    ap (λ (l : List X). all_claims m.0 (unclaimed (length ls) l)) e
        ∙ claims_deal m.0 claimed items (replicate (length ls) []) m.1 (subst (λ (n : ℕ). Below n m.0) (sym (length-replicate (length ls) [])) (labels claimed ls m.0 m.1 m.2))
        ∙ ap (λ (l : List (List X)). record { waiting = items; taken = l }) (merge_dealt ls claimed m),
  )

  -- claims that can happen
  record Dealt (put : List X) (ls : List (List X)) (work : Work X) : Type 0 where
    who : List ℕ
    claimed : List X
    items : List X
    length_is : length who ≡ length claimed
    below : Below (length ls) who
    front : put ≡ claimed ++ items
    is : work ≡ record { waiting = items; taken = dealt who claimed ls }

  claim_dealt : (ws : List ℕ) (w : ℕ) (x : X) (put : List X) (ls : List (List X)) (o : Option (List X)) → slice_get ls w ≡ o
      → ((ms : List (List X)) (ps : List X) → Dealt ps ms (all_claims ws (record { waiting = ps; taken = ms })))
      → Dealt (x ∷ put) ls (all_claims ws (claim_of w 0 (record { waiting = x ∷ put; taken = ls }) o (Some x)))
  unfolding dealt
  claim_dealt ws w x put ls None e k = k ls (x ∷ put)
  claim_dealt ws w x put ls (Some l) e k =
      let there = read_past ls w l e in
      let r = k (set ls w (l ++ x ∷ [])) put in
      record {
        who = w ∷ r.who;
        claimed = x ∷ r.claimed;
        items = r.items;
        length_is = (let q = r.length_is in omega arith);
        below = (there.0, subst (λ (n : ℕ). Below n r.who) (length-set ls w (l ++ x ∷ [])) r.below);
        front = ap (λ (p : List X). x ∷ p) r.front;
        is = r.is ∙ ap (λ (m : List X). record { waiting = r.items; taken = dealt r.who r.claimed (set ls w (m ++ x ∷ [])) }) (sym there.1);
      }

  none_waits : (ws : List ℕ) (w : ℕ) (ls : List (List X)) (o : Option (List X)) → all_claims ws (claim_of w 0 (record { waiting = []; taken = ls }) o None) ≡ all_claims ws (record { waiting = []; taken = ls })
  none_waits ws w ls None = refl
  none_waits ws w ls (Some l) = refl

  claims_dealt : (ws : List ℕ) (ls : List (List X)) (put : List X) → Dealt put ls (all_claims ws (record { waiting = put; taken = ls }))
  unfolding dealt
  claims_dealt [] ls put = record { who = []; claimed = []; items = put; length_is = refl; below = tt; front = refl; is = refl }
  claims_dealt (w ∷ ws) ls [] = subst (Dealt [] ls) (sym (none_waits ws w ls (slice_get ls w))) (claims_dealt ws ls [])
  claims_dealt (w ∷ ws) ls (x ∷ put) = claim_dealt ws w x put ls (slice_get ls w) refl (claims_dealt ws)

  pub claimed_merge : (put items : List X) (ls : List (List X)) → IsClaimed put (record { waiting = items; taken = ls }) → (claimed : List X) × (put ≡ claimed ++ items) × IsMerge ls claimed
  claimed_merge put items ls c =
      let d = claims_dealt c.0 (replicate (length ls) []) put in
      let e : record { waiting = d.items; taken = dealt d.who d.claimed (replicate (length ls) []) } ≡ record { waiting = items; taken = ls } = sym d.is ∙ c.1 in (
        d.claimed,
        d.front ∙ ap (λ (w : Work X). d.claimed ++ w.waiting) e,
        dealt_merge (length ls) ls d.who d.claimed d.length_is (subst (λ (n : ℕ). Below n d.who) (length-replicate (length ls) []) d.below) (ap (λ (w : Work X). w.taken) e),
      )

  -- ---- posts
  zipped : List ℕ → List X → List (ℕ × X)
  zipped [] xs = []
  zipped (w ∷ ws) [] = []
  zipped (w ∷ ws) (x ∷ xs) = (w, x) ∷ zipped ws xs

  posts_deal : (ws : List ℕ) (xs office : List X) (ls : List (List X)) → length ws ≡ length xs → Below (length ls) ws
      → all_posts (zipped ws xs) (record { posted = ls; office = office }) ≡ record { posted = dealt ws xs ls; office = office ++ xs }
  unfolding dealt zipped
  posts_deal [] [] office ls e b = ap (λ (l : List X). record { posted = ls; office = l }) (sym (append-nil office))
  posts_deal [] (x ∷ xs) office ls e b = absurd (omega arith)
  posts_deal (w ∷ ws) [] office ls e b = absurd (omega arith)
  posts_deal (w ∷ ws) (x ∷ xs) office ls e b =
      ap (λ (o : Option (List X)). all_posts (zipped ws xs) (post_of w x (record { posted = ls; office = office }) o)) (read_at ls w b.0)
      ∙ posts_deal ws xs (office ++ x ∷ []) (set ls w (get_or ls w [] ++ x ∷ [])) (omega arith) (subst (λ (n : ℕ). Below n ws) (sym (length-set ls w (get_or ls w [] ++ x ∷ []))) b.1)
      ∙ ap (λ (l : List X). record { posted = dealt ws xs (set ls w (get_or ls w [] ++ x ∷ [])); office = l }) (append_assoc office (x ∷ []) xs)

  pub merge_posted : (ls : List (List X)) (xs : List X) → IsMerge ls xs → IsPosted (record { posted = ls; office = xs })
  merge_posted ls xs m = (
    zipped m.0 xs,
    posts_deal m.0 xs [] (replicate (length ls) []) m.1 (subst (λ (n : ℕ). Below n m.0) (sym (length-replicate (length ls) [])) (labels xs ls m.0 m.1 m.2))
        ∙ ap (λ (l : List (List X)). record { posted = l; office = xs }) (merge_dealt ls xs m),
  )

  record PostDealt (ls : List (List X)) (office : List X) (mail : Mail X) : Type 0 where
    who : List ℕ
    xs : List X
    length_is : length who ≡ length xs
    below : Below (length ls) who
    is : mail ≡ record { posted = dealt who xs ls; office = office ++ xs }

  post_dealt : (cs : List (ℕ × X)) (w : ℕ) (x : X) (ls : List (List X)) (office : List X) (o : Option (List X)) → slice_get ls w ≡ o
      → ((ms : List (List X)) (off : List X) → PostDealt ms off (all_posts cs (record { posted = ms; office = off })))
      → PostDealt ls office (all_posts cs (post_of w x (record { posted = ls; office = office }) o))
  unfolding dealt
  post_dealt cs w x ls office None e k = k ls office
  post_dealt cs w x ls office (Some l) e k =
      let there = read_past ls w l e in
      let r = k (set ls w (l ++ x ∷ [])) (office ++ x ∷ []) in
      record {
        who = w ∷ r.who;
        xs = x ∷ r.xs;
        length_is = (let q = r.length_is in omega arith);
        below = (there.0, subst (λ (n : ℕ). Below n r.who) (length-set ls w (l ++ x ∷ [])) r.below);
        is = r.is ∙ (λ i. record { posted = dealt r.who r.xs (set ls w (sym there.1 i ++ x ∷ [])); office = append_assoc office (x ∷ []) r.xs i });
      }

  posts_dealt : (cs : List (ℕ × X)) (ls : List (List X)) (office : List X) → PostDealt ls office (all_posts cs (record { posted = ls; office = office }))
  unfolding dealt
  posts_dealt [] ls office = record { who = []; xs = []; length_is = refl; below = tt; is = ap (λ (l : List X). record { posted = ls; office = l }) (sym (append-nil office)) }
  posts_dealt (c ∷ cs) ls office = post_dealt cs c.0 c.1 ls office (slice_get ls c.0) refl (posts_dealt cs)

  pub posted_merge : (ls : List (List X)) (xs : List X) → IsPosted (record { posted = ls; office = xs }) → IsMerge ls xs
  posted_merge ls xs c =
      let d = posts_dealt c.0 (replicate (length ls) []) [] in
      let e : record { posted = dealt d.who d.xs (replicate (length ls) []); office = d.xs } ≡ record { posted = ls; office = xs } = sym d.is ∙ c.1 in
      subst (IsMerge ls) (ap (λ (m : Mail X). m.office) e)
      (dealt_merge (length ls) ls d.who d.xs d.length_is (subst (λ (n : ℕ). Below n d.who) (length-replicate (length ls) []) d.below) (ap (λ (m : Mail X). m.posted) e))
