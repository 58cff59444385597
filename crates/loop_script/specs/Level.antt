-- Descriptors: their levels over the ticks.
use Rattle.std.specs.Prelude.{ℕ, ◌-◌, ◌&&◌, min, nat_le, nat_lt, Bool, true, List, [], ◌∷◌, length, map, filter, slice_get, Option, Some, None, option_map, unwrap_or}
use Rattle.std.specs.List.{list_all}
use Rattle.serde_json.specs.Data.{Data}
use Rattle.loop_script.specs.Read.{Read, done, ◌>>=◌}
use Rattle.loop_script.specs.Number.{whole, bits}
use Rattle.loop_script.specs.Array.{part, arity}
use Rattle.loop_script.specs.Rows.{rows}
use Rattle.loop_script.specs.declared.level.Level.{Level}
use Rattle.loop_script.specs.Bounds.{most_ticks}
use Rattle.loop_script.specs.Units.{Tick, Bits}

-- `[tick,bits]`
unfoldable pub level : Option Data → Read Level
level d = do
  _ ← arity 2 d
  tick ← whole 0 4095 (part 0 d)
  bits ← bits (part 1 d)
  done (record { tick = tick; bits = bits })

-- the levels of a descriptor
unfoldable pub levels : Option Data → Read (List Level)
levels d = rows 0 most_ticks level d

-- each tick is above all before it
abbrev pub rises : List Level → Bool
rises [] = true
rises (l ∷ ls) = list_all (λ m. nat_lt l.tick m.tick) ls && rises ls

-- the last of a list
abbrev pub last : {A : Type 0} → List A → Option A
last xs = slice_get xs (length xs - 1)

-- the least of a list
abbrev pub least : List ℕ → Option ℕ
least [] = None
least (n ∷ ns) = Some (min n (unwrap_or (least ns) n))

-- the levels whose tick has come
abbrev pub come : Tick → List Level → List Level
come tick ls = filter (λ l. nat_le l.tick tick) ls

-- the levels that begin after a tick
abbrev pub to_come : Tick → List Level → List Level
to_come tick ls = filter (λ l. nat_lt tick l.tick) ls

-- the bits of the last level that has come, and none before the first
abbrev pub bits_at : Tick → List Level → Bits
bits_at tick ls = unwrap_or (option_map (λ l. l.bits) (last (come tick ls))) 0

-- the least tick to come
abbrev pub change_after : Tick → List Level → Option Tick
change_after tick ls = least (map (λ l. l.tick) (to_come tick ls))
