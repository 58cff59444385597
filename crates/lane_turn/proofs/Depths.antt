-- How many calls and dispatches are in progress.
use Rattle.std.proofs.Common.{◌≡◌, ℕ, ◌+◌, ◌≤◌, cond, List, [], ◌∷◌, length, drop, refl, sym, ◌∙◌, arith}
use Rattle.std.specs.List.{cons_option}
use Rattle.std.proofs.lemmas.List.Sums.{sum_by-cons}
use Rattle.lane_turn.specs.declared.layer.Caller.{Caller}
use Rattle.lane_turn.specs.declared.layer.Origin.{Origin}
use Rattle.lane_turn.specs.declared.layer.Origin.TheVariants as origins
use Rattle.lane_turn.specs.Frames.{Frame, CallOf, IterOf, LoopOf, advanced, calls_in_progress, depth, is_source, is_dispatch_or_invoke, is_call, is_dispatch}
use Rattle.lane_turn.specs.Depths.{caller_of, callers, begun_of, begun_calls}

call_depth : (origin : Origin) (cs : List Caller) (n : ℕ) → n ≡ length cs → cond (is_source origin) 1 0 + n ≡ length (cons_option (caller_of origin) cs)
call_depth origins.Start cs n e = omega (arith, e)
call_depth (origins.Source caller) cs n e = omega (arith, e)
call_depth (origins.Invoke acquired) cs n e = omega (arith, e)

pub depth_callers : (fs : List Frame) → depth fs ≡ length (callers fs)
depth_callers [] = refl
depth_callers (CallOf call ∷ fs) = sum_by-cons (λ (f : Frame). cond (is_dispatch f) 1 0) (CallOf call) fs ∙ call_depth call.origin (callers fs) (depth fs) (depth_callers fs)
depth_callers (IterOf context ids asker ∷ fs) = omega (arith, sum_by-cons (λ (f : Frame). cond (is_dispatch f) 1 0) (IterOf context ids asker) fs, depth_callers fs)
depth_callers (LoopOf number context ∷ fs) = omega (arith, sum_by-cons (λ (f : Frame). cond (is_dispatch f) 1 0) (LoopOf number context) fs, depth_callers fs)

pub callers_advanced : (fs : List Frame) → callers (advanced fs) ≡ callers fs
callers_advanced [] = refl
callers_advanced (CallOf call ∷ fs) = refl
callers_advanced (IterOf context ids asker ∷ fs) = refl
callers_advanced (LoopOf number context ∷ fs) = refl

fewer : (origin : Origin) → cond (is_source origin) 1 0 ≤ cond (is_dispatch_or_invoke origin) 1 0
fewer origins.Start = omega arith
fewer (origins.Source caller) = omega arith
fewer (origins.Invoke acquired) = omega arith

pub few_dispatches : (fs : List Frame) → depth fs ≤ calls_in_progress fs
few_dispatches [] = omega arith
few_dispatches (CallOf call ∷ fs) =
    omega (arith, sum_by-cons (λ (f : Frame). cond (is_dispatch f) 1 0) (CallOf call) fs, sum_by-cons (λ (f : Frame). cond (is_call f) 1 0) (CallOf call) fs, few_dispatches fs, fewer call.origin)
few_dispatches (IterOf context ids asker ∷ fs) =
    omega (arith, sum_by-cons (λ (f : Frame). cond (is_dispatch f) 1 0) (IterOf context ids asker) fs, sum_by-cons (λ (f : Frame). cond (is_call f) 1 0) (IterOf context ids asker) fs, few_dispatches fs)
few_dispatches (LoopOf number context ∷ fs) =
    omega (arith, sum_by-cons (λ (f : Frame). cond (is_dispatch f) 1 0) (LoopOf number context) fs, sum_by-cons (λ (f : Frame). cond (is_call f) 1 0) (LoopOf number context) fs, few_dispatches fs)

-- the calls in progress
pub calls_begun : (fs : List Frame) → calls_in_progress fs ≡ length (begun_calls fs)
calls_begun [] = refl
calls_begun (CallOf call ∷ fs) = sum_by-cons (λ (f : Frame). cond (is_call f) 1 0) (CallOf call) fs ∙ by call.origin (calls_begun fs)
  where
    by : (origin : Origin) → calls_in_progress fs ≡ length (begun_calls fs) → cond (is_dispatch_or_invoke origin) 1 0 + calls_in_progress fs ≡ length (cons_option (begun_of origin) (begun_calls fs))
    by origins.Start e = omega (arith, e)
    by (origins.Source caller) e = omega (arith, e)
    by (origins.Invoke acquired) e = omega (arith, e)
calls_begun (IterOf context ids asker ∷ fs) = omega (arith, sum_by-cons (λ (f : Frame). cond (is_call f) 1 0) (IterOf context ids asker) fs, calls_begun fs)
calls_begun (LoopOf number context ∷ fs) = omega (arith, sum_by-cons (λ (f : Frame). cond (is_call f) 1 0) (LoopOf number context) fs, calls_begun fs)

pub calls_advanced : (fs : List Frame) → calls_in_progress (advanced fs) ≡ calls_in_progress fs
calls_advanced [] = refl
calls_advanced (CallOf call ∷ fs) = sum_by-cons (λ (f : Frame). cond (is_call f) 1 0) (CallOf (record call { place = call.place + 1 })) fs ∙ sym (sum_by-cons (λ (f : Frame). cond (is_call f) 1 0) (CallOf call) fs)
calls_advanced (IterOf context ids asker ∷ fs) = sum_by-cons (λ (f : Frame). cond (is_call f) 1 0) (IterOf context (drop 1 ids) asker) fs ∙ sym (sum_by-cons (λ (f : Frame). cond (is_call f) 1 0) (IterOf context ids asker) fs)
calls_advanced (LoopOf number context ∷ fs) = refl
