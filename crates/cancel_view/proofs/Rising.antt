-- Ids that rise.
use Rattle.std.proofs.Common.{ℕ, ◌+◌, ◌<◌, ◌≤◌, Bool, true, false, List, [], ◌∷◌, ◌++◌, map, arith, cond}
use Rattle.std.specs.List.{filter}
use Rattle.cancel_view.specs.declared.handler.Handler.{Handler}
use Rattle.cancel_view.specs.Seen.{RiseFrom, RiseWithin, fired_as, is_of}

lower : (low mid high : ℕ) (hs : List Handler) → low ≤ mid → RiseWithin mid high hs → RiseWithin low high hs
lower low mid high [] h k = omega arith
lower low mid high (x ∷ xs) h k = (omega arith, k.1)

pub rise_pushed : (low high c proc : ℕ) (hs : List Handler) → RiseWithin low high hs → RiseWithin low (high + 1) (hs ++ record { id = high; cancellable = c; proc = proc } ∷ [])
rise_pushed low high c proc [] h = (h, omega arith)
rise_pushed low high c proc (x ∷ xs) h = (h.0, rise_pushed x.id high c proc xs h.1)

kept : (b : Bool) (low high : ℕ) (x : Handler) (xs : List Handler) → low < x.id → RiseWithin x.id high xs → RiseWithin low high (cond b (x ∷ xs) xs)
kept true low high x xs h k = (h, k)
kept false low high x xs h k = lower low x.id high xs (omega arith) k

pub rise_filtered : (p : Handler → Bool) (low high : ℕ) (hs : List Handler) → RiseWithin low high hs → RiseWithin low high (filter p hs)
rise_filtered p low high [] h = h
rise_filtered p low high (x ∷ xs) h = kept (p x) low high x (filter p xs) h.0 (rise_filtered p x.id high xs h.1)

pub rise_mapped : (low high : ℕ) (hs : List Handler) → RiseWithin low high hs → RiseFrom low (map fired_as hs)
rise_mapped low high [] h = tt
rise_mapped low high (x ∷ xs) h = (h.0, rise_mapped x.id high xs h.1)

pub rise_fired : (c low high : ℕ) (hs : List Handler) → RiseWithin low high hs → RiseFrom low (map fired_as (filter (is_of c) hs))
rise_fired c low high hs h = rise_mapped low high (filter (is_of c) hs) (rise_filtered (is_of c) low high hs h)
