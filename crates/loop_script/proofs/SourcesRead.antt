-- Sources, children and levels are read by their tables.
use Rattle.std.proofs.Common.{◌≡◌, inl, refl, subst, ℕ, ℤ, pos, negsuc, false, List, [], codes, Option, Some, None, option_and_then}
use Rattle.std.specs.Prelude.{unwrap_or}
use Rattle.serde_json.specs.Data.{Data}
use Rattle.serde_json.specs.Find.{get, at}
use Rattle.loop_script.specs.Read.{misshapen}
use Rattle.loop_script.specs.Number.{whole as whole_of, index, index_or_null, bits, priority, ready_time, flag_or}
use Rattle.loop_script.specs.Object.{only}
use Rattle.loop_script.specs.Words.{choice}
use Rattle.loop_script.specs.Source.{idle, timeout, ready, fd, cancel as cancel_kind, kinds, kind as kind_of, usual_priority, priority_or, source_spec, child_spec}
use Rattle.loop_script.specs.Level.{level}
use Rattle.loop_script.specs.Form.{Form, whole, truth, pair, an, one_of, kind, source, child}
use Rattle.loop_script.specs.Tables as tables
use Rattle.loop_script.specs.Place.{front, parts_of}
use Rattle.loop_script.specs.Misfit.{HasOtherShape, IsOutOfRange, IsMisshapen, IsBeyond}
use Rattle.loop_script.specs.Meaning.{IsInteger, Or, IsKind, usual, IsSource, IsChild, IsLevel}
use Rattle.loop_script.specs.declared.source.Kind.{Kind}
use Rattle.loop_script.specs.declared.source.Kind.TheVariants.{Idle, Timeout, ReadyTime, Fd, Cancel}
use Rattle.loop_script.specs.declared.source.SourceSpec.{SourceSpec}
use Rattle.loop_script.specs.declared.level.Level.{Level}
use Rattle.loop_script.proofs.Alternatives.{along, either_part}
use Rattle.loop_script.proofs.Meets.{Meets, meets_done, meets_misshapen, recast, next}
use Rattle.loop_script.proofs.Openings.{an_object, opened}
use Rattle.loop_script.proofs.Behind.{WordMisfit, BehindWord, RowsMeet, chosen, a_choice, part, parts_shape, parts_range}
use Rattle.loop_script.proofs.Leaves.{Reads, of_needed, of_free, reads_whole, reads_signed, reads_null, reads_truth, keys_at, length_at}
use Rattle.loop_script.proofs.WordRows.{begun, row0, row1, row2}

kind_rows : (d : Data) (w : List ℕ) → front d ≡ Some w → RowsMeet (Unit {0}) Kind (IsKind (Some d)) d w (tables.words kind) (kinds (Some d))
unfolding idle timeout ready fd cancel_kind index bits ready_time
kind_rows d w f = (
  (refl, λ e. row0 d Idle (λ l. (begun d f e, l))),
  (
    (refl, λ e. row1 d (whole 0 4294967295) (reads_whole 0 4294967295) Timeout (λ x l a. ((begun d f e, l), a))),
    (
      (refl, λ e. row1 d tables.ready_time (reads_signed (negsuc 0) (pos 1000000000000000)) ReadyTime (λ x l a. ((begun d f e, l), a))),
      (
        (refl, λ e. row2 d tables.index tables.bits (reads_whole 0 4294967295) (reads_whole 0 63) Fd (λ x y l a b. ((begun d f e, l), a, b))),
        (
          (refl, λ e. row1 d tables.index (reads_whole 0 4294967295) Cancel (λ x l a. ((begun d f e, l), a))),
          tt,
        ),
      ),
    ),
  ),
)

kind_by : (d : Data) (o : Option (List ℕ)) → front d ≡ o → Meets (Unit {0}) Kind (choice (unwrap_or o []) (kinds (Some d)) (misshapen Idle)) (WordMisfit (option_and_then (parts_of (tables.words kind)) o) d) (BehindWord IsOutOfRange (option_and_then (parts_of (tables.words kind)) o) d) (IsKind (Some d))
kind_by d None e = meets_misshapen Idle (inl tt)
kind_by d (Some w) e = chosen d w (tables.words kind) (kinds (Some d)) Idle (kind_rows d w e)

pub reads_kind : Reads (one_of kind) Kind kind_of IsKind
unfolding kind_of
reads_kind = record { there = λ d. a_choice kind d (λ q x. x) (kind_by d (front d) refl); absent = λ s. refl }

same_usual : (k : Kind) → usual_priority k ≡ usual k
same_usual Idle = refl
same_usual (Timeout ms) = refl
same_usual (ReadyTime us) = refl
same_usual (Fd f b) = refl
same_usual (Cancel c) = refl

as_usual : (k : Kind) (o : Option Data) (p : ℤ) → Or (usual_priority k) IsInteger o p → Or (usual k) IsInteger o p
as_usual k o p h = subst (λ z. Or z IsInteger o p) (same_usual k) h

source_at : (d : Data) → Meets (Unit {0}) SourceSpec (source_spec (Some d)) (IsMisshapen (an source) d) (IsBeyond (an source) d) (IsSource (Some d))
unfolding source_spec priority_or priority flag_or index_or_null index
source_at d =
    an_object source d (next (keys_at (tables.keys source) d) (
    next (of_needed (tables.needed (codes "kind") (one_of kind)) refl reads_kind (get (codes "kind") d)) (
    next (of_free (tables.optional (codes "priority") tables.priority) (usual_priority (kind_of (get (codes "kind") d)).value) refl (reads_signed (negsuc 2147483647) (pos 2147483647)) (get (codes "priority") d)) (
    next (of_free (tables.optional (codes "recurse") truth) false refl (reads_truth false) (get (codes "recurse") d)) (
    next (of_free {A = Option ℕ} (tables.optional (codes "call") (Form.whole_or_null 0 4294967295)) None refl (reads_null 0 4294967295) (get (codes "call") d)) (
    meets_done _ (λ x. x) (λ x. x) (λ c r p k u. record { kind = k; priority = as_usual (kind_of (get (codes "kind") d)).value (get (codes "priority") d) _ p; recurse = r; call = c })))))))

pub reads_source : Reads (an source) SourceSpec source_spec IsSource
unfolding source_spec priority_or priority flag_or index_or_null index kind_of only
reads_source = record { there = source_at; absent = λ s. refl }

child_at : (d : Data) → Meets (Unit {0}) SourceSpec (child_spec (Some d)) (IsMisshapen (an child) d) (IsBeyond (an child) d) (IsChild (Some d))
unfolding child_spec flag_or index_or_null index
child_at d =
    an_object child d (next (keys_at (tables.keys child) d) (
    next (of_needed (tables.needed (codes "kind") (one_of kind)) refl reads_kind (get (codes "kind") d)) (
    next (of_free (tables.optional (codes "recurse") truth) false refl (reads_truth false) (get (codes "recurse") d)) (
    next (of_free {A = Option ℕ} (tables.optional (codes "call") (Form.whole_or_null 0 4294967295)) None refl (reads_null 0 4294967295) (get (codes "call") d)) (
    meets_done _ (λ x. x) (λ x. x) (λ c r k u. record { kind = k; priority = refl; recurse = r; call = c }))))))

pub reads_child : Reads (an child) SourceSpec child_spec IsChild
unfolding child_spec flag_or index_or_null index kind_of only
reads_child = record { there = child_at; absent = λ s. refl }

-- ---- levels
level_at : (d : Data) → Meets (Unit {0}) Level (level (Some d)) (IsMisshapen pair d) (IsBeyond pair d) (IsLevel (Some d))
unfolding level bits
level_at d =
    recast {V = IsLevel (Some d)} (along (parts_shape 0 2 tables.pair_parts d refl) (opened HasOtherShape pair d)) (λ q. along (parts_range 0 tables.pair_parts d) (along (opened IsOutOfRange pair d) (either_part (λ x. x)))) (λ v. v)
    (next (length_at 2 d) (
    next (of_needed (part (whole 0 4095)) refl (reads_whole 0 4095) (at 0 d)) (
    next (of_needed (part tables.bits) refl (reads_whole 0 63) (at 1 d)) (meets_done _ (λ x. x) (λ x. x) (λ b t l. record { parts = l; tick = t; bits = b })))))

pub reads_level : Reads pair Level level IsLevel
unfolding level bits whole_of
reads_level = record { there = level_at; absent = λ s. refl }
