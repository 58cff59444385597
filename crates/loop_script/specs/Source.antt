-- Sources and their kinds.
use Rattle.std.specs.Prelude.{ℕ, pos, false, List, [], ◌∷◌, codes, Option}
use Rattle.serde_json.specs.Data.{Data}
use Rattle.loop_script.specs.Read.{Read, done, misshapen, ◌>>=◌, optional}
use Rattle.loop_script.specs.Number.{whole, bits, index, index_or_null, priority, ready_time, flag_or}
use Rattle.loop_script.specs.Object.{only, field}
use Rattle.loop_script.specs.Array.{part, arity, word}
use Rattle.loop_script.specs.Words.{choice}
use Rattle.loop_script.specs.declared.source.Kind.{Kind}
use Rattle.loop_script.specs.declared.source.Kind.TheVariants.{Idle, Timeout, ReadyTime, Fd, Cancel}
use Rattle.loop_script.specs.declared.source.SourceSpec.{SourceSpec}
use Rattle.loop_script.specs.Units.{Priority}

-- `["idle"]`
unfoldable pub idle : Option Data → Read Kind
idle d = do
  _ ← arity 1 d
  done Idle

-- `["timeout",ms]`
unfoldable pub timeout : Option Data → Read Kind
timeout d = do
  _ ← arity 2 d
  ms ← whole 0 4294967295 (part 1 d)
  done (Timeout ms)

-- `["ready",us]`
unfoldable pub ready : Option Data → Read Kind
ready d = do
  _ ← arity 2 d
  us ← ready_time (part 1 d)
  done (ReadyTime us)

-- `["fd",fd,bits]`
unfoldable pub fd : Option Data → Read Kind
fd d = do
  _ ← arity 3 d
  descriptor ← index (part 1 d)
  bits ← bits (part 2 d)
  done (Fd descriptor bits)

-- `["cancel",cancellable]`
unfoldable pub cancel : Option Data → Read Kind
cancel d = do
  _ ← arity 2 d
  c ← index (part 1 d)
  done (Cancel c)

-- the form of each word
abbrev pub kinds : Option Data → List (List ℕ × Read Kind)
kinds d =
    (codes "idle", idle d)
    ∷ (codes "timeout", timeout d)
    ∷ (codes "ready", ready d)
    ∷ (codes "fd", fd d)
    ∷ (codes "cancel", cancel d)
    ∷ []

-- a kind by its word
unfoldable pub kind : Option Data → Read Kind
kind d = choice (word d) (kinds d) (misshapen Idle)

-- 200 for an idle source, and 0 for any other
abbrev pub usual_priority : Kind → Priority
usual_priority Idle = pos 200
usual_priority (Timeout ms) = pos 0
usual_priority (ReadyTime us) = pos 0
usual_priority (Fd f bits) = pos 0
usual_priority (Cancel c) = pos 0

-- a priority, where nothing is said the kind's usual one
unfoldable pub priority_or : Kind → Option Data → Read Priority
priority_or k d = optional (usual_priority k) priority d

-- a source
unfoldable pub source_spec : Option Data → Read SourceSpec
source_spec d = do
  _ ← only (codes "kind" ∷ codes "priority" ∷ codes "recurse" ∷ codes "call" ∷ []) d
  kind ← kind (field (codes "kind") d)
  priority ← priority_or kind (field (codes "priority") d)
  recurse ← flag_or false (field (codes "recurse") d)
  call ← index_or_null (field (codes "call") d)
  done (record { kind = kind; priority = priority; recurse = recurse; call = call })

-- a child has its parent's priority; 0 stands in its place
unfoldable pub child_spec : Option Data → Read SourceSpec
child_spec d = do
  _ ← only (codes "kind" ∷ codes "recurse" ∷ codes "call" ∷ []) d
  kind ← kind (field (codes "kind") d)
  recurse ← flag_or false (field (codes "recurse") d)
  call ← index_or_null (field (codes "call") d)
  done (record { kind = kind; priority = pos 0; recurse = recurse; call = call })
