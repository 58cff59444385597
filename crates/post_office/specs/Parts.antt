-- The two parts of a tick that its workers share, what one step of a worker changes in each, and what such steps lead to.
use Rattle.std.specs.Prelude.{◌≡◌, ℕ, zero, suc, Option, Some, None, List, [], ◌∷◌, ◌++◌, length, set, replicate, slice_get}

-- what waits, and what each worker took
pub record Work (T : Type 0) : Type 0 where
  pub waiting : List T
  pub taken : List (List T)

-- what each worker posted, and all that was posted
pub record Mail (T : Type 0) : Type 0 where
  pub posted : List (List T)
  pub office : List T

module _ {T : Type 0} where
  -- a list without what stands at a place
  abbrev pub without : ℕ → List T → List T
  without n [] = []
  without zero (x ∷ xs) = xs
  without (suc n) (x ∷ xs) = x ∷ without n xs

  -- what a claim leaves, by what the worker has taken so far and by what waits at the place; where there is none of either, nothing changes
  abbrev pub claim_of : ℕ → ℕ → Work T → Option (List T) → Option T → Work T
  claim_of w n work (Some list) (Some x) = record { waiting = without n work.waiting; taken = set work.taken w (list ++ x ∷ []) }
  claim_of w n work (Some list) None = work
  claim_of w n work None value = work

  -- worker w takes the value at place n of those that wait
  abbrev pub claims : ℕ → ℕ → Work T → Work T
  claims w n work = claim_of w n work (slice_get work.taken w) (slice_get work.waiting n)

  -- what a post leaves, by what the worker has posted so far; where there is no such worker, nothing changes
  abbrev pub post_of : ℕ → T → Mail T → Option (List T) → Mail T
  post_of w x mail (Some list) = record { posted = set mail.posted w (list ++ x ∷ []); office = mail.office ++ x ∷ [] }
  post_of w x mail None = mail

  -- worker w posts x
  abbrev pub posts : ℕ → T → Mail T → Mail T
  posts w x mail = post_of w x mail (slice_get mail.posted w)

  -- these workers, one after another, take the first that waits
  abbrev pub all_claims : List ℕ → Work T → Work T
  all_claims [] work = work
  all_claims (w ∷ ws) work = all_claims ws (claims w 0 work)

  -- these workers, one after another, post these values
  abbrev pub all_posts : List (ℕ × T) → Mail T → Mail T
  all_posts [] mail = mail
  all_posts (p ∷ ps) mail = all_posts ps (posts p.0 p.1 mail)

  -- nothing was taken
  abbrev pub unclaimed : ℕ → List T → Work T
  unclaimed workers put = record { waiting = put; taken = replicate workers [] }

  -- nothing was posted
  abbrev pub unposted : ℕ → Mail T
  unposted workers = record { posted = replicate workers []; office = [] }

  -- some claims lead to it from what was put
  abbrev pub IsClaimed : List T → Work T → Type 0
  IsClaimed put work = (who : List ℕ) × (all_claims who (unclaimed (length work.taken) put) ≡ work)

  -- some posts lead to it from nothing
  abbrev pub IsPosted : Mail T → Type 0
  IsPosted mail = (changes : List (ℕ × T)) × (all_posts changes (unposted (length mail.posted)) ≡ mail)
