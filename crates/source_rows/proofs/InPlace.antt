-- A row changed in its slot, with the id that it had.
use Rattle.std.proofs.Common.{◌≡◌, ℕ, Bool, Some, List, ap, sym, ◌∙◌, subst}
use Rattle.std.specs.Map.{lookup}
use Rattle.slab.specs.Slab.{Slab, get, with_value}
use Rattle.source_rows.specs.declared.row.Row.{Row}
use Rattle.source_rows.specs.declared.seats.Seat.{Seat}
use Rattle.source_rows.specs.Rows.{row_of, changed, key_of}
use Rattle.source_rows.specs.Seats.{seat_of, swapped, replaced, IsLow, IsSeated}
use Rattle.source_rows.specs.Slots.{rows_at, asks, IsTable, IsTime, IsHeld}
use Rattle.source_rows.proofs.Filled.{in_slot, put_filled, rises_rows_at, times_put}
use Rattle.source_rows.proofs.Kept.{put_one}
use Rattle.source_rows.proofs.MayBe.{Quiet, NoParent, may-kept}
use Rattle.source_rows.proofs.Seated.{kept_seated, set_seated, put_seated}
use Rattle.source_rows.proofs.Slots.{at_id, put_done}

pub record InPlace (f : Row → Row) (s : Slab Row) (es : List (ℕ × ℕ)) (id key : ℕ) (old : Row) : Type 0 where
  pub there : row_of id (rows_at s es) ≡ Some old
  pub named : lookup (at_id (f old).id) es ≡ Some key
  pub is : row_of (f old).id (rows_at s es) ≡ Some old
  pub put : rows_at (with_value s key (f old)) es ≡ changed (f old).id (λ _. f old) (rows_at s es)
  pub changes : rows_at (with_value s key (f old)) es ≡ changed id f (rows_at s es)

pub in_place : (f : Row → Row) → ((r : Row) → (f r).id ≡ r.id) → (s : Slab Row) (es : List (ℕ × ℕ)) (id key : ℕ) (old : Row) → IsTable s es → lookup (at_id id) es ≡ Some key → get s key ≡ Some old → InPlace f s es id key old
in_place f h s es id key old t l g =
    let there = in_slot s id key old es t l g in
    let same : (f old).id ≡ id = h old ∙ there.1 in
    let named = subst (λ (n : ℕ). lookup (at_id n) es ≡ Some key) (sym same) l in
    let put = (put_done s key (f old) es t named).rows_are in
    record {
      there = there.0;
      named = named;
      is = subst (λ (n : ℕ). row_of n (rows_at s es) ≡ Some old) (sym same) there.0;
      put = put;
      changes = put_one id old f (h old) (rows_at s es) (rows_at (with_value s key (f old)) es) (rises_rows_at s es t) there.0 put;
    }

-- its seat is the same
pub kept_in_place : (f : Row → Row) (s : Slab Row) (es : List (ℕ × ℕ)) (id key : ℕ) (old : Row) (ss : List Seat × ℕ) → IsTable s es → IsSeated (rows_at s es) ss → InPlace f s es id key old → seat_of old ≡ seat_of (f old)
    → IsSeated (rows_at (with_value s key (f old)) es) ss
kept_in_place f s es id key old ss t h p e = kept_seated (rows_at s es) (rows_at (with_value s key (f old)) es) (f old) old ss h (rises_rows_at s es t) p.is p.put e

-- its seat is changed where it stands
pub set_in_place : (f : Row → Row) → ((r : Row) → key_of (f r) ≡ key_of r) → (s : Slab Row) (es : List (ℕ × ℕ)) (id key : ℕ) (old : Row) (ss us : List Seat × ℕ) → IsTable s es → IsSeated (rows_at s es) ss → InPlace f s es id key old
    → us.0 ≡ swapped (seat_of old) (seat_of (f old)) ss.0 → us.1 ≡ ss.1 → IsSeated (rows_at (with_value s key (f old)) es) us
set_in_place f k s es id key old ss us t h p e height = set_seated (rows_at s es) (rows_at (with_value s key (f old)) es) (f old) old ss us h (rises_rows_at s es t) p.is p.put (k old) e height

-- its seat is put into another place
pub put_in_place : (f : Row → Row) (s : Slab Row) (es : List (ℕ × ℕ)) (id key : ℕ) (old : Row) (ss us : List Seat × ℕ) → IsTable s es → IsSeated (rows_at s es) ss → InPlace f s es id key old
    → us.0 ≡ replaced (seat_of old) (seat_of (f old)) ss.0 → IsLow us → IsSeated (rows_at (with_value s key (f old)) es) us
put_in_place f s es id key old ss us t h p e low = put_seated (rows_at s es) (rows_at (with_value s key (f old)) es) (f old) old ss us h (rises_rows_at s es t) p.is p.put e low

pub held_in_place : (f : Row → Row) → ((r : Row) → (f r).parent ≡ r.parent) → ((r : Row) → (f r).kind ≡ r.kind) → (s : Slab Row) (es : List (ℕ × ℕ)) (id key : ℕ) (old : Row) (ss us : List Seat × ℕ) (may_ask may_nest : Bool)
    → IsHeld s es ss may_ask may_nest → get s key ≡ Some old → InPlace f s es id key old → IsTime (f old) → IsSeated (rows_at (with_value s key (f old)) es) us → IsHeld (with_value s key (f old)) es us may_ask may_nest
held_in_place f k kind s es id key old ss us may_ask may_nest h g p time seated =
    let new = rows_at (with_value s key (f old)) es in
    record {
      filled = put_filled s key (f old) old es h.filled p.named g;
      seated = seated;
      quiet = may-kept Quiet may_ask (rows_at s es) new id old (f old) h.quiet p.there (λ q. ap asks (kind old) ∙ q) p.put;
      flat = may-kept NoParent may_nest (rows_at s es) new id old (f old) h.flat p.there (λ a. k old ∙ a) p.put;
      times = times_put (rows_at s es) new (f old) h.times time p.put;
    }
