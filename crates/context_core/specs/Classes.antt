-- Numbers by classes: of each class the place of the first of them in a list.
use Rattle.std.specs.Prelude.{◌≡◌, ◌<◌, ℕ, suc, ◌%◌, ◌==◌, false, Some, List, slice_get, slice_index_or, slice_set, replicate, if◌then◌else◌}
use Rattle.std.specs.List.{list_any}
use Rattle.loop_script.specs.Units.{Descriptor, SourceId}
use Rattle.context_core.specs.declared.interest.Shown.{Shown}
use Rattle.context_core.specs.Phases.{shown}

-- how many classes there are
abbrev pub class_count : ℕ
class_count = 256

-- the place of what stands farther back
abbrev pub far : ℕ
far = 65535

-- no class has a place
abbrev pub no_places : List ℕ
no_places = replicate class_count 0

-- the class of a number
abbrev pub class_of : ℕ → ℕ
class_of n = n % class_count

-- the place of the class of a number, from 1 on; 0 where it has none
abbrev pub place_of : ℕ → List ℕ → ℕ
place_of n places = slice_index_or places (class_of n) far

-- a number at a place, noted where none of its class was
abbrev pub noted : (number place : ℕ) → List ℕ → List ℕ
noted n place places = if place_of n places == 0 then slice_set places (class_of n) place else places

-- an id whose class has no place is not listed
abbrev pub TellsOfIds : List SourceId → List ℕ → Type 0
TellsOfIds ids places = (id : SourceId) → place_of id places ≡ 0 → list_any (λ b. b == id) ids ≡ false

-- a descriptor whose class has no place shows nothing
abbrev pub TellsNone : List Shown → List ℕ → Type 0
TellsNone list places = (fd : Descriptor) → place_of fd places ≡ 0 → shown list fd ≡ 0

-- a descriptor that stands at the place of its class shows what is listed there
abbrev pub TellsFirst : List Shown → List ℕ → Type 0
TellsFirst list places = (s : Shown) (n : ℕ) → place_of s.fd places ≡ suc n → suc n < far → slice_get list n ≡ Some s → shown list s.fd ≡ s.level
