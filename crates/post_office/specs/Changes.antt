-- What each step of a queue does to its part of a tick, and what its rule says at every moment.
use Rattle.std.specs.Prelude.{◌≡◌, ℕ, zero, suc, ◌+◌, ◌-◌, List, [], ◌∷◌, ◌++◌, length, set, slice_index_or, IsPermutation}
use mathlib.Core.Option.{some}
use lib.ListN.{get_elem?}
use Rattle.post_office.specs.declared.letter.Letter.{Letter}
use Rattle.post_office.specs.declared.views.WorkView.{WorkView}
use Rattle.post_office.specs.declared.views.PostView.{PostView}
use Rattle.post_office.specs.Merge.{IsMerge, concat}
use Rattle.post_office.specs.Parts.{claims, posts}
use Rattle.post_office.specs.WorkQueue.{took, taker, taken_of, work_of, WasClaimed, keeper as work_keeper}
use Rattle.post_office.specs.LetterQueue.{posted, poster, posted_of, mail_of, WasPosted, keeper as mail_keeper}

-- a take that gives x, by a pass that is out or by the list itself, is a claim of the first that waits
abbrev pub TakesAreClaims : Type 0 → Type 0
TakesAreClaims T = (items : List T) (own : WorkView T) (vs : List (WorkView T)) (x : T)
    → ((port : ℕ) (v : WorkView T) → get_elem? vs port ≡ some v → work_of items own (set vs port (took v x)) ≡ claims (suc (length own.recorded + port)) 0 (work_of (x ∷ items) own vs))
    × (work_of items (took own x) vs ≡ claims 0 0 (work_of (x ∷ items) own vs))

-- a push of x is a post
abbrev pub PushesArePosts : Type 0
PushesArePosts = (items : List Letter) (own : PostView) (vs : List PostView) (x : Letter) (port : ℕ) (v : PostView) → get_elem? vs port ≡ some v
    → mail_of (items ++ x ∷ []) own (set vs port (posted v x)) ≡ posts (length own.recorded + port) x (mail_of items own vs)

-- at every moment what waits and what was taken are together what was put, each as often
abbrev pub EachIsThereOnce : Type 0 → Type 0
EachIsThereOnce T = (items : List T) (own : WorkView T) (vs : List (WorkView T)) → WasClaimed items (own ∷ vs)
    → IsPermutation own.put (concat (own.taken ∷ (own.recorded ++ taken_of vs)) ++ items)

-- at every moment what was drained, and then what the queue holds, is a merge of what the passes posted
abbrev pub LettersAreMerged : Type 0
LettersAreMerged = (items : List Letter) (own : PostView) (vs : List PostView) → WasPosted items (own ∷ vs)
    → IsMerge (own.recorded ++ posted_of vs) (own.drained ++ items)

-- the lists of workers, of which the first n are recorded, when a pass comes back: its list stands behind those, and an empty one in its place
abbrev pub moved_back : {T : Type 0} → (n port : ℕ) → List (List T) → List (List T)
moved_back zero port lists = slice_index_or lists port [] ∷ set lists port []
moved_back (suc n) port [] = []
moved_back (suc n) port (list ∷ lists) = list ∷ moved_back n port lists

-- a pass that is taken back moves its list behind those recorded, and changes nothing else of the part
pub record ListsMoveBack (T : Type 0) : Type 0 where
  pub work : (items : List T) (own : WorkView T) (vs : List (WorkView T)) (port : ℕ) (v : WorkView T) → get_elem? vs port ≡ some v
      → work_of items (work_keeper own.put own.taken (own.recorded ++ v.taken ∷ []) (own.out - 1)) (set vs port (taker [] [] 0))
      ≡ record (work_of items own vs) { taken = moved_back (suc (length own.recorded)) port (work_of items own vs).taken }
  pub mail : (items : List Letter) (own : PostView) (vs : List PostView) (port : ℕ) (v : PostView) → get_elem? vs port ≡ some v
      → mail_of items (mail_keeper (own.recorded ++ v.posted ∷ []) own.drained (own.out - 1)) (set vs port (poster [] 0))
      ≡ record (mail_of items own vs) { posted = moved_back (length own.recorded) port (mail_of items own vs).posted }
