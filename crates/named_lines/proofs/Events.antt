-- Lines with names are told apart, whatever stands behind them.
use Rattle.std.proofs.Common.{◌≡◌, ◌∙◌, sym, refl, ap, subst, ℕ, ◌+◌, ◌*◌, ◌/◌, ◌%◌, ◌<◌, ◌^◌, ℤ, List, [], ◌∷◌, ◌++◌, codes, Bool, true, false, ◌==◌, Option, Some, None, arith, append_assoc, get_or, length, length-append, drop}
use Rattle.std.proofs.lemmas.Bool.Decides.{nat_tests}
use Rattle.std.proofs.lemmas.List.{append_cancel_left}
use Rattle.std.specs.Prelude.{if◌then◌else◌}
use Rattle.std.specs.Fmt.{decimal, signed_decimal}
use Rattle.std.proofs.lemmas.Fmt.{decimal_nonempty}
use Rattle.std.specs.List.{list_all, flat_map}
use Rattle.loop_script.specs.declared.outcome.Outcome.{Outcome}
use Rattle.loop_script.specs.declared.outcome.Outcome.TheVariants as outcomes
use Rattle.named.specs.Names.{Names}
use Rattle.named.specs.declared.sort.Kind.{Kind}
use Rattle.named.specs.declared.sort.Kind.TheVariants as kinds
use Rattle.lane_turn.specs.declared.line.Event.{Event}
use Rattle.lane_turn.specs.declared.line.Event.TheVariants.{Dispatch, Log, Iterate, Pending, LoopEnd, Acquire, Default, Invoke, Arrive, Cancel, Handler, Task, TaskLate, Give, Hold, Miss, HaltDepth, HaltSteps, End}
use Rattle.lane_turn.specs.declared.line.Invoked.{Invoked}
use Rattle.lane_turn.specs.declared.line.Invoked.TheVariants.{Direct, Attached, Posted}
use Rattle.lane_turn.specs.declared.line.Word.{Word}
use Rattle.lane_turn.specs.declared.line.Word.TheVariants as words
use Rattle.named_lines.specs.declared.told_line.Told.{Told}
use Rattle.run_names.specs.declared.label.Label.{Label}
use Rattle.run_names.specs.declared.label.Seat.{Seat}
use Rattle.run_names.specs.Called.{HaveNumbers, name_in}
use Rattle.run_names.specs.Text.{Calling, is_plain, called, within, source_text, handler_text, number_text, quoted_or}
use Rattle.mainctx.specs.Text.{word_text}
use Rattle.named_lines.specs.Lines.{line_text, milliseconds_text, part_text, callee_text, priority_text, depth_text, answer_text, invoked_text, outcome_text, late_text, event_text}
use Rattle.run_names.proofs.Peel.{Ends, peel_plain, tail_of}
use Rattle.run_names.specs.Fit.{IsOfNames}
use Rattle.named_lines.specs.Alike.{OutcomeFits, EventFits, NumberFits, ToldFits, LinesAreApart, TextsAreApart}
use Rattle.run_names.proofs.Calls.{EndsLabel, peel_called, peel_text, peel_within, peel_source, peel_handler}
use Rattle.named_lines.proofs.Parts.{peel_milliseconds, peel_signed, peel_priority, peel_depth}

-- ---- what has few forms

pub answers_same : (a b : Bool) (r s : List ℕ) → answer_text a ++ 10 ∷ r ≡ answer_text b ++ 10 ∷ s → (a ≡ b) × (r ≡ s)
answers_same true true r s e = (refl, ap (drop 7) e)
answers_same true false r s e = let bad : 116 ≡ 102 = ap (λ l. get_or l 2 0) e in absurd (omega (arith, bad))
answers_same false true r s e = let bad : 102 ≡ 116 = ap (λ l. get_or l 2 0) e in absurd (omega (arith, bad))
answers_same false false r s e = (refl, ap (drop 8) e)

pub ends_answer : (a : Bool) (r : List ℕ) → Ends (answer_text a ++ r)
ends_answer true r = refl
ends_answer false r = refl

pub invoked_same : (a b : Invoked) (r s : List ℕ) → invoked_text a ++ 10 ∷ r ≡ invoked_text b ++ 10 ∷ s → (a ≡ b) × (r ≡ s)
invoked_same Direct Direct r s e = (refl, ap (drop 9) e)
invoked_same Attached Attached r s e = (refl, ap (drop 11) e)
invoked_same Posted Posted r s e = (refl, ap (drop 9) e)
invoked_same a b r s e = absurd (omega (arith, ap (λ l. get_or l 2 0) e))

pub ends_invoked : (a : Invoked) (r : List ℕ) → Ends (invoked_text a ++ r)
ends_invoked Direct r = refl
ends_invoked Attached r = refl
ends_invoked Posted r = refl

pub outcomes_same : (a b : Outcome) (r s : List ℕ) → OutcomeFits a → OutcomeFits b → outcome_text a ++ 10 ∷ r ≡ outcome_text b ++ 10 ∷ s → (a ≡ b) × (r ≡ s)
outcomes_same (outcomes.Ok v) (outcomes.Ok w) r s p q e =
    let both = peel_signed v w (10 ∷ r) (10 ∷ s) p q refl refl (append_cancel_left (codes " ok ") (signed_decimal v ++ 10 ∷ r) (signed_decimal w ++ 10 ∷ s) e) in
    (ap outcomes.Ok both.0, tail_of 10 10 r s both.1)
outcomes_same outcomes.Failed outcomes.Failed r s p q e = (refl, ap (drop 8) e)
outcomes_same outcomes.Cancelled outcomes.Cancelled r s p q e = (refl, ap (drop 11) e)
outcomes_same outcomes.TimedOut outcomes.TimedOut r s p q e = (refl, ap (drop 11) e)
outcomes_same a b r s p q e = absurd (omega (arith, ap (λ l. get_or l 1 0) e))

pub ends_outcome : (a : Outcome) (r : List ℕ) → Ends (outcome_text a ++ r)
ends_outcome (outcomes.Ok v) r = refl
ends_outcome outcomes.Failed r = refl
ends_outcome outcomes.Cancelled r = refl
ends_outcome outcomes.TimedOut r = refl

pub no_late : (a : Outcome) (r s : List ℕ) → outcome_text a ++ 10 ∷ r ≡ codes " late" ++ 10 ∷ s → ⊥
no_late (outcomes.Ok v) r s e = omega (arith, ap (λ l. get_or l 1 0) e)
no_late outcomes.Failed r s e = omega (arith, ap (λ l. get_or l 1 0) e)
no_late outcomes.Cancelled r s e = omega (arith, ap (λ l. get_or l 1 0) e)
no_late outcomes.TimedOut r s e = omega (arith, ap (λ l. get_or l 1 0) e)

-- a word's length and first letter
abbrev mark : List ℕ → ℕ
mark t = length t + 256 * get_or t 0 0

words_alike : (a b : Word) → word_text a ≡ word_text b → a ≡ b
words_alike words.Attach words.Attach e = refl
words_alike words.Child words.Child e = refl
words_alike words.Destroy words.Destroy e = refl
words_alike words.SetReady words.SetReady e = refl
words_alike words.SetPriority words.SetPriority e = refl
words_alike words.Run words.Run e = refl
words_alike words.Quit words.Quit e = refl
words_alike words.Disconnect words.Disconnect e = refl
words_alike words.Push words.Push e = refl
words_alike words.Pop words.Pop e = refl
words_alike words.Release words.Release e = refl
words_alike words.Give words.Give e = refl
words_alike a b e = absurd (omega (arith, ap mark e))

word_plain : (a : Word) → list_all is_plain (word_text a) ≡ true
word_plain words.Attach = refl
word_plain words.Child = refl
word_plain words.Destroy = refl
word_plain words.SetReady = refl
word_plain words.SetPriority = refl
word_plain words.Run = refl
word_plain words.Quit = refl
word_plain words.Disconnect = refl
word_plain words.Push = refl
word_plain words.Pop = refl
word_plain words.Release = refl
word_plain words.Give = refl

pub words_same : (a b : Word) (r s : List ℕ) → word_text a ++ 10 ∷ r ≡ word_text b ++ 10 ∷ s → (a ≡ b) × (r ≡ s)
words_same a b r s e =
    let both = peel_plain (word_text a) (word_text b) (10 ∷ r) (10 ∷ s) (word_plain a) (word_plain b) refl refl e in
    (words_alike a b both.0, tail_of 10 10 r s both.1)

-- ---- what is called

-- what stands behind a procedure that may be called, and is no arrow
pub record EndsCallee (r : List ℕ) : Type 0 where
  pub ends : Ends r
  pub arrow : get_or r 0 0 ≡ 32 → get_or r 1 0 ≡ 45 → ⊥

module _ (ns : Names) (sources handlers : List (Seat × Label)) where
  abbrev calling : Calling
  calling = record { names = Some ns; sources = sources; handlers = handlers }

  skip_callee : HaveNumbers ns → (o u : Option ℕ) (r s : List ℕ) → NumberFits o → NumberFits u → EndsCallee r → EndsCallee s → callee_text calling o ++ r ≡ callee_text calling u ++ s → r ≡ s
  skip_callee have None None r s p q f g e = e
  skip_callee have None (Some n) r s p q f g e = absurd (f.arrow (ap (λ t. get_or t 0 0) e) (ap (λ t. get_or t 1 0) e))
  skip_callee have (Some m) None r s p q f g e = absurd (g.arrow (ap (λ t. get_or t 0 0) (sym e)) (ap (λ t. get_or t 1 0) (sym e)))
  skip_callee have (Some m) (Some n) r s p q f g e = (peel_called kinds.Procedure ns have m n r s p q f.ends g.ends (append_cancel_left (codes " -> ") (called kinds.Procedure m (Some ns) ++ r) (called kinds.Procedure n (Some ns) ++ s) e)).1

  ends_callee : (o : Option ℕ) (r : List ℕ) → EndsLabel r → EndsLabel (callee_text calling o ++ r)
  ends_callee None r f = f
  ends_callee (Some n) r f = record { ends = refl; of = λ x y. let bad : 45 ≡ 111 = y in omega (arith, bad); place = λ x y. let bad : 45 ≡ 35 = y in omega (arith, bad) }

  ends_bracket : (r : List ℕ) → EndsLabel (32 ∷ 40 ∷ r)
  ends_bracket r = record { ends = refl; of = λ x y. let bad : 40 ≡ 111 = y in omega (arith, bad); place = λ x y. let bad : 40 ≡ 35 = y in omega (arith, bad) }

  ends_in : (r : List ℕ) → EndsLabel (32 ∷ 105 ∷ r)
  ends_in r = record { ends = refl; of = λ x y. let bad : 105 ≡ 111 = y in omega (arith, bad); place = λ x y. let bad : 105 ≡ 35 = y in omega (arith, bad) }

  ends_line : (r : List ℕ) → EndsLabel (10 ∷ r)
  ends_line r = record { ends = refl; of = λ x y. let bad : 10 ≡ 32 = x in omega (arith, bad); place = λ x y. let bad : 10 ≡ 32 = x in omega (arith, bad) }

  depth_ends : (d : ℕ) (r : List ℕ) → Ends (depth_text d ++ 41 ∷ r)
  depth_ends d r = by (d == 1)
    where
      by : (b : Bool) → Ends ((if b then [] else codes ", depth " ++ decimal d) ++ 41 ∷ r)
      by true = refl
      by false = refl

  -- a line of a dispatch, part by part
  flat : (a b c d f w : List ℕ) → (a ++ (b ++ (codes " (" ++ (c ++ (d ++ codes ")"))))) ++ w ≡ a ++ (b ++ (32 ∷ 40 ∷ (c ++ (d ++ 41 ∷ w))))
  flat a b c d f w = simp append_assoc refl

  dispatch_same : IsOfNames calling ns → (o u : Option ℕ) (h k m n : ℕ) (p q : ℤ) (d g : ℕ) (r s : List ℕ) → NumberFits o → NumberFits u
      → EventFits (Dispatch h m p d) → EventFits (Dispatch k n q g)
      → (source_text calling h m ++ (callee_text calling o ++ (codes " (" ++ (priority_text p ++ (depth_text d ++ codes ")"))))) ++ 10 ∷ r
      ≡ (source_text calling k n ++ (callee_text calling u ++ (codes " (" ++ (priority_text q ++ (depth_text g ++ codes ")"))))) ++ 10 ∷ s
      → (Dispatch h m p d ≡ Dispatch k n q g) × (r ≡ s)
  dispatch_same is o u h k m n p q d g r s of uf x y e =
      let x1 = priority_text p ++ (depth_text d ++ 41 ∷ 10 ∷ r) in
      let y1 = priority_text q ++ (depth_text g ++ 41 ∷ 10 ∷ s) in
      let opened = sym (flat (source_text calling h m) (callee_text calling o) (priority_text p) (depth_text d) [] (10 ∷ r)) ∙ e ∙ flat (source_text calling k n) (callee_text calling u) (priority_text q) (depth_text g) [] (10 ∷ s) in
      let source = peel_source calling ns is h k m n (callee_text calling o ++ 32 ∷ 40 ∷ x1) (callee_text calling u ++ 32 ∷ 40 ∷ y1) x.0 y.0 x.1 y.1 (ends_callee o (32 ∷ 40 ∷ x1) (ends_bracket x1)) (ends_callee u (32 ∷ 40 ∷ y1) (ends_bracket y1)) opened in
      let bracket = skip_callee is.numbers o u (32 ∷ 40 ∷ x1) (32 ∷ 40 ∷ y1) of uf (record { ends = refl; arrow = λ a b. let bad : 40 ≡ 45 = b in omega (arith, bad) }) (record { ends = refl; arrow = λ a b. let bad : 40 ≡ 45 = b in omega (arith, bad) }) source.2 in
      let priority = peel_priority p q (depth_text d ++ 41 ∷ 10 ∷ r) (depth_text g ++ 41 ∷ 10 ∷ s) x.2 y.2 (depth_ends d (10 ∷ r)) (depth_ends g (10 ∷ s)) (ap (drop 2) bracket) in
      let depth = peel_depth d g (10 ∷ r) (10 ∷ s) x.3 y.3 priority.1 in
      ((λ i. Dispatch (source.0 i) (source.1 i) (priority.0 i) (depth.0 i)), ap (drop 1) depth.1)

  called_line : IsOfNames calling ns → (kind : Kind) (m n : ℕ) (r s : List ℕ) → m < 2 ^ 64 → n < 2 ^ 64 → called kind m (Some ns) ++ 10 ∷ r ≡ called kind n (Some ns) ++ 10 ∷ s → (m ≡ n) × (r ≡ s)
  called_line is kind m n r s p q e = let both = peel_called kind ns is.numbers m n (10 ∷ r) (10 ∷ s) p q refl refl e in (both.0, tail_of 10 10 r s both.1)

  answer_line : IsOfNames calling ns → (m n : ℕ) (a b : Bool) (r s : List ℕ) → m < 2 ^ 64 → n < 2 ^ 64
      → (called kinds.Context m (Some ns) ++ answer_text a) ++ 10 ∷ r ≡ (called kinds.Context n (Some ns) ++ answer_text b) ++ 10 ∷ s → (m ≡ n) × (a ≡ b) × (r ≡ s)
  answer_line is m n a b r s p q e =
      let opened = sym (append_assoc (called kinds.Context m (Some ns)) (answer_text a) (10 ∷ r)) ∙ e ∙ append_assoc (called kinds.Context n (Some ns)) (answer_text b) (10 ∷ s) in
      let both = peel_called kinds.Context ns is.numbers m n (answer_text a ++ 10 ∷ r) (answer_text b ++ 10 ∷ s) p q (ends_answer a (10 ∷ r)) (ends_answer b (10 ∷ s)) opened in
      let rest = answers_same a b r s both.1 in
      (both.0, rest.0, rest.1)

  loop_line : IsOfNames calling ns → (m n : ℕ) (r s : List ℕ) → m < 2 ^ 64 → n < 2 ^ 64 → (called kinds.Loop m (Some ns) ++ codes " end") ++ 10 ∷ r ≡ (called kinds.Loop n (Some ns) ++ codes " end") ++ 10 ∷ s → (m ≡ n) × (r ≡ s)
  loop_line is m n r s p q e =
      let opened = sym (append_assoc (called kinds.Loop m (Some ns)) (codes " end") (10 ∷ r)) ∙ e ∙ append_assoc (called kinds.Loop n (Some ns)) (codes " end") (10 ∷ s) in
      let both = peel_called kinds.Loop ns is.numbers m n (codes " end" ++ 10 ∷ r) (codes " end" ++ 10 ∷ s) p q refl refl opened in
      (both.0, ap (drop 5) both.1)

  callee_ends : (o : Option ℕ) (r : List ℕ) → Ends r → Ends (callee_text calling o ++ r)
  callee_ends None r f = f
  callee_ends (Some n) r f = refl

  no_arrow : (a : Invoked) (r : List ℕ) → EndsCallee (invoked_text a ++ r)
  no_arrow Direct r = record { ends = refl; arrow = λ x y. let bad : 58 ≡ 32 = x in omega (arith, bad) }
  no_arrow Attached r = record { ends = refl; arrow = λ x y. let bad : 58 ≡ 32 = x in omega (arith, bad) }
  no_arrow Posted r = record { ends = refl; arrow = λ x y. let bad : 58 ≡ 32 = x in omega (arith, bad) }

  three : (a b c w : List ℕ) → (a ++ (b ++ c)) ++ w ≡ a ++ (b ++ (c ++ w))
  three a b c w = append_assoc a (b ++ c) w ∙ ap (λ x. a ++ x) (append_assoc b c w)

  invoke_line : IsOfNames calling ns → (o u : Option ℕ) (m n : ℕ) (a b : Invoked) (r s : List ℕ) → NumberFits o → NumberFits u → m < 2 ^ 64 → n < 2 ^ 64
      → (called kinds.Context m (Some ns) ++ (callee_text calling o ++ invoked_text a)) ++ 10 ∷ r ≡ (called kinds.Context n (Some ns) ++ (callee_text calling u ++ invoked_text b)) ++ 10 ∷ s → (m ≡ n) × (a ≡ b) × (r ≡ s)
  invoke_line is o u m n a b r s x y p q e =
      let opened = sym (three (called kinds.Context m (Some ns)) (callee_text calling o) (invoked_text a) (10 ∷ r)) ∙ e ∙ three (called kinds.Context n (Some ns)) (callee_text calling u) (invoked_text b) (10 ∷ s) in
      let both = peel_called kinds.Context ns is.numbers m n (callee_text calling o ++ (invoked_text a ++ 10 ∷ r)) (callee_text calling u ++ (invoked_text b ++ 10 ∷ s)) p q (callee_ends o (invoked_text a ++ 10 ∷ r) (ends_invoked a (10 ∷ r))) (callee_ends u (invoked_text b ++ 10 ∷ s) (ends_invoked b (10 ∷ s))) opened in
      let how = skip_callee is.numbers o u (invoked_text a ++ 10 ∷ r) (invoked_text b ++ 10 ∷ s) x y (no_arrow a (10 ∷ r)) (no_arrow b (10 ∷ s)) both.1 in
      let rest = invoked_same a b r s how in
      (both.0, rest.0, rest.1)

  arrive_line : IsOfNames calling ns → (h k m n : ℕ) (r s : List ℕ) → h < 2 ^ 64 → k < 2 ^ 64 → m < 2 ^ 64 → n < 2 ^ 64
      → (source_text calling h m ++ (codes " in " ++ called kinds.Context h (Some ns))) ++ 10 ∷ r ≡ (source_text calling k n ++ (codes " in " ++ called kinds.Context k (Some ns))) ++ 10 ∷ s → (h ≡ k) × (m ≡ n) × (r ≡ s)
  arrive_line is h k m n r s hb kb mb nb e =
      let x = 110 ∷ 32 ∷ (called kinds.Context h (Some ns) ++ 10 ∷ r) in
      let y = 110 ∷ 32 ∷ (called kinds.Context k (Some ns) ++ 10 ∷ s) in
      let opened = sym (three (source_text calling h m) (codes " in ") (called kinds.Context h (Some ns)) (10 ∷ r)) ∙ e ∙ three (source_text calling k n) (codes " in ") (called kinds.Context k (Some ns)) (10 ∷ s) in
      let source = peel_source calling ns is h k m n (32 ∷ 105 ∷ x) (32 ∷ 105 ∷ y) hb kb mb nb (ends_in x) (ends_in y) opened in
      let home = called_line is kinds.Context h k r s hb kb (ap (drop 4) source.2) in
      (source.0, source.1, home.1)

  task_line : IsOfNames calling ns → (l k m n : ℕ) (v w : List ℕ) → l < 2 ^ 64 → k < 2 ^ 64 → m < 2 ^ 64 → n < 2 ^ 64 → Ends v → Ends w
      → (a b r s : List ℕ) → v ≡ a ++ r → w ≡ b ++ s
      → (within kinds.Thread l m (Some ns) ++ a) ++ r ≡ (within kinds.Thread k n (Some ns) ++ b) ++ s → (l ≡ k) × (m ≡ n) × (a ++ r ≡ b ++ s)
  task_line is l k m n v w lb kb mb nb f g a b r s x y e =
      let opened = sym (append_assoc (within kinds.Thread l m (Some ns)) a r) ∙ e ∙ append_assoc (within kinds.Thread k n (Some ns)) b s in
      peel_within kinds.Thread ns is.numbers l k m n (a ++ r) (b ++ s) lb kb mb nb (subst Ends x f) (subst Ends y g) opened

  give_line : IsOfNames calling ns → (h k m n : ℕ) (r s : List ℕ) → h < 2 ^ 64 → k < 2 ^ 64 → m < 2 ^ 64 → n < 2 ^ 64
      → (called kinds.Context h (Some ns) ++ (codes " to " ++ called kinds.Thread m (Some ns))) ++ 10 ∷ r ≡ (called kinds.Context k (Some ns) ++ (codes " to " ++ called kinds.Thread n (Some ns))) ++ 10 ∷ s → (h ≡ k) × (m ≡ n) × (r ≡ s)
  give_line is h k m n r s hb kb mb nb e =
      let x = codes " to " ++ (called kinds.Thread m (Some ns) ++ 10 ∷ r) in
      let y = codes " to " ++ (called kinds.Thread n (Some ns) ++ 10 ∷ s) in
      let opened = sym (three (called kinds.Context h (Some ns)) (codes " to ") (called kinds.Thread m (Some ns)) (10 ∷ r)) ∙ e ∙ three (called kinds.Context k (Some ns)) (codes " to ") (called kinds.Thread n (Some ns)) (10 ∷ s) in
      let context = peel_called kinds.Context ns is.numbers h k x y hb kb refl refl opened in
      let thread = called_line is kinds.Thread m n r s mb nb (ap (drop 4) context.1) in
      (context.0, thread.0, thread.1)

  late_line : IsOfNames calling ns → (o u : Option ℕ) (r s : List ℕ) → NumberFits o → NumberFits u → late_text calling o ++ 10 ∷ r ≡ late_text calling u ++ 10 ∷ s → r ≡ s
  late_line is None None r s p q e = ap (drop 9) e
  late_line is None (Some n) r s p q e = let bad : 10 ≡ 58 = ap (λ t. get_or t 8 0) e in absurd (omega (arith, bad))
  late_line is (Some m) None r s p q e = let bad : 58 ≡ 10 = ap (λ t. get_or t 8 0) e in absurd (omega (arith, bad))
  late_line is (Some m) (Some n) r s p q e = (called_line is kinds.Slot m n r s p q (append_cancel_left (codes "too late: ") (called kinds.Slot m (Some ns) ++ 10 ∷ r) (called kinds.Slot n (Some ns) ++ 10 ∷ s) e)).1

  -- the letters with which a line begins tell what it is of
  abbrev letters : List ℕ → ℕ
  letters t = get_or t 0 0 * 65536 + (get_or t 1 0 * 256 + get_or t 2 0)

  zero_id : (id : ℕ) → (id == 0) ≡ true → id ≡ 0
  zero_id id h = grind (arith, nat_tests)

  handler_letters : (t : Told) (id : ℕ) (r : List ℕ) (a : Bool) → (n : ℕ) → (7630703 ≡ n → ⊥) → (6840686 ≡ n → ⊥) → letters ((if a then late_text calling t.slot else codes "handler " ++ handler_text calling t.lane id) ++ r) ≡ n → ⊥
  handler_letters t id r true n p q e = by t.slot e
    where
      by : (o : Option ℕ) → letters (late_text calling o ++ r) ≡ n → ⊥
      by None e = p e
      by (Some k) e = p e
  handler_letters t id r false n p q e = q e

  late_first : (o : Option ℕ) (r : List ℕ) → get_or (late_text calling o ++ r) 0 0 ≡ 104 → ⊥
  late_first None r e = let bad : 116 ≡ 104 = e in omega (arith, bad)
  late_first (Some n) r e = let bad : 116 ≡ 104 = e in omega (arith, bad)

  handler_by : IsOfNames calling ns → (t u : Told) → NumberFits t.slot → NumberFits u.slot → t.lane ≡ u.lane → (m n : ℕ) → m < 2 ^ 64 → n < 2 ^ 64 → (r s : List ℕ) (a b : Bool) → (m == 0) ≡ a → (n == 0) ≡ b
      → (if a then late_text calling t.slot else codes "handler " ++ handler_text calling t.lane m) ++ 10 ∷ r ≡ (if b then late_text calling u.slot else codes "handler " ++ handler_text calling u.lane n) ++ 10 ∷ s → (m ≡ n) × (r ≡ s)
  handler_by is t u p q l m n mb nb r s true true x y e = (zero_id m x ∙ sym (zero_id n y), late_line is t.slot u.slot r s p q e)
  handler_by is t u p q l m n mb nb r s true false x y e = absurd (late_first t.slot (10 ∷ r) (ap (λ k. get_or k 0 0) e))
  handler_by is t u p q l m n mb nb r s false true x y e = absurd (late_first u.slot (10 ∷ s) (ap (λ k. get_or k 0 0) (sym e)))
  handler_by is t u p q l m n mb nb r s false false x y e =
      let opened = append_cancel_left (codes "handler ") (handler_text calling t.lane m ++ 10 ∷ r) (handler_text calling u.lane n ++ 10 ∷ s) e in
      let same = subst (λ k. handler_text calling t.lane m ++ 10 ∷ r ≡ handler_text calling k n ++ 10 ∷ s) (sym l) opened in
      let both = peel_handler calling ns is t.lane m n (10 ∷ r) (10 ∷ s) mb nb (ends_line r) (ends_line s) same in
      (both.0, tail_of 10 10 r s both.1)

  event_same : IsOfNames calling ns → (t u : Told) → NumberFits t.callee → NumberFits u.callee → NumberFits t.slot → NumberFits u.slot → t.lane ≡ u.lane → (e f : Event) → EventFits e → EventFits f → (r s : List ℕ)
      → event_text calling t e ++ 10 ∷ r ≡ event_text calling u f ++ 10 ∷ s → (e ≡ f) × (r ≡ s)
  event_same is t u c d a b l (Dispatch h m p g) (Dispatch k n q j) x y r s e =
      dispatch_same is t.callee u.callee h k m n p q g j r s c d x y (append_cancel_left (codes "dispatch ") _ _ e)
  event_same is t u c d a b l (Log m) (Log n) x y r s e =
      let both = peel_text ns is.numbers m n (10 ∷ r) (10 ∷ s) x y refl refl (append_cancel_left (codes "log ") (quoted_or (name_in kinds.Text m (Some ns)) (number_text (Some ns) m) ++ 10 ∷ r) (quoted_or (name_in kinds.Text n (Some ns)) (number_text (Some ns) n) ++ 10 ∷ s) e) in
      (ap Log both.0, tail_of 10 10 r s both.1)
  event_same is t u c d a b l (Iterate m v) (Iterate n w) x y r s e = let all = answer_line is m n v w r s x y (ap (drop 8) e) in ((λ i. Iterate (all.0 i) (all.1 i)), all.2)
  event_same is t u c d a b l (Pending m v) (Pending n w) x y r s e = let all = answer_line is m n v w r s x y (ap (drop 8) e) in ((λ i. Pending (all.0 i) (all.1 i)), all.2)
  event_same is t u c d a b l (Acquire m v) (Acquire n w) x y r s e = let all = answer_line is m n v w r s x y (ap (drop 8) e) in ((λ i. Acquire (all.0 i) (all.1 i)), all.2)
  event_same is t u c d a b l (LoopEnd m) (LoopEnd n) x y r s e = let both = loop_line is m n r s x y (ap (drop 5) e) in (ap LoopEnd both.0, both.1)
  event_same is t u c d a b l (Default m) (Default n) x y r s e = let both = called_line is kinds.Context m n r s x y (ap (drop 8) e) in (ap Default both.0, both.1)
  event_same is t u c d a b l (Invoke m v) (Invoke n w) x y r s e = let all = invoke_line is t.callee u.callee m n v w r s c d x y (ap (drop 10) e) in ((λ i. Invoke (all.0 i) (all.1 i)), all.2)
  event_same is t u c d a b l (Arrive h m) (Arrive k n) x y r s e = let all = arrive_line is h k m n r s x.0 y.0 x.1 y.1 (ap (drop 7) e) in ((λ i. Arrive (all.0 i) (all.1 i)), all.2)
  event_same is t u c d a b l (Cancel m) (Cancel n) x y r s e = let both = called_line is kinds.Cancellable m n r s x y (ap (drop 7) e) in (ap Cancel both.0, both.1)
  event_same is t u c d a b l (Handler m) (Handler n) x y r s e = let both = handler_by is t u a b l m n x y r s (m == 0) (n == 0) refl refl e in (ap Handler both.0, both.1)
  event_same is t u c d a b l (Task h m v) (Task k n w) x y r s e =
      let all = task_line is h k m n (outcome_text v ++ 10 ∷ r) (outcome_text w ++ 10 ∷ s) x.0 y.0 x.1 y.1 (ends_outcome v (10 ∷ r)) (ends_outcome w (10 ∷ s)) (outcome_text v) (outcome_text w) (10 ∷ r) (10 ∷ s) refl refl (ap (drop 5) e) in
      let rest = outcomes_same v w r s x.2 y.2 all.2 in
      ((λ i. Task (all.0 i) (all.1 i) (rest.0 i)), rest.1)
  event_same is t u c d a b l (TaskLate h m) (TaskLate k n) x y r s e =
      let all = task_line is h k m n (codes " late" ++ 10 ∷ r) (codes " late" ++ 10 ∷ s) x.0 y.0 x.1 y.1 refl refl (codes " late") (codes " late") (10 ∷ r) (10 ∷ s) refl refl (ap (drop 5) e) in
      ((λ i. TaskLate (all.0 i) (all.1 i)), ap (drop 6) all.2)
  event_same is t u c d a b l (Task h m v) (TaskLate k n) x y r s e =
      let all = task_line is h k m n (outcome_text v ++ 10 ∷ r) (codes " late" ++ 10 ∷ s) x.0 y.0 x.1 y.1 (ends_outcome v (10 ∷ r)) refl (outcome_text v) (codes " late") (10 ∷ r) (10 ∷ s) refl refl (ap (drop 5) e) in
      absurd (no_late v r s all.2)
  event_same is t u c d a b l (TaskLate h m) (Task k n w) x y r s e =
      let all = task_line is h k m n (codes " late" ++ 10 ∷ r) (outcome_text w ++ 10 ∷ s) x.0 y.0 x.1 y.1 refl (ends_outcome w (10 ∷ s)) (codes " late") (outcome_text w) (10 ∷ r) (10 ∷ s) refl refl (ap (drop 5) e) in
      absurd (no_late w s r (sym all.2))
  event_same is t u c d a b l (Give h m) (Give k n) x y r s e = let all = give_line is h k m n r s x.0 y.0 x.1 y.1 (ap (drop 5) e) in ((λ i. Give (all.0 i) (all.1 i)), all.2)
  event_same is t u c d a b l (Hold m) (Hold n) x y r s e = let both = called_line is kinds.Context m n r s x y (ap (drop 5) e) in (ap Hold both.0, both.1)
  event_same is t u c d a b l (Miss v) (Miss w) x y r s e = let both = words_same v w r s (ap (drop 5) e) in (ap Miss both.0, both.1)
  event_same is t u c d a b l HaltDepth HaltDepth x y r s e = (refl, ap (drop 11) e)
  event_same is t u c d a b l HaltSteps HaltSteps x y r s e = (refl, ap (drop 11) e)
  event_same is t u c d a b l HaltDepth HaltSteps x y r s e = let bad : 100 ≡ 115 = ap (λ k. get_or k 5 0) e in absurd (omega (arith, bad))
  event_same is t u c d a b l HaltSteps HaltDepth x y r s e = let bad : 115 ≡ 100 = ap (λ k. get_or k 5 0) e in absurd (omega (arith, bad))
  event_same is t u c d a b l End End x y r s e = (refl, ap (drop 4) e)
  event_same is t u c d a b l (Handler m) f x y r s e = absurd (handler_letters t m (10 ∷ r) (m == 0) (letters (event_text calling u f ++ 10 ∷ s)) (λ h. omega (arith, h)) (λ h. omega (arith, h)) (ap letters e))
  event_same is t u c d a b l f (Handler n) x y r s e = absurd (handler_letters u n (10 ∷ s) (n == 0) (letters (event_text calling t f ++ 10 ∷ r)) (λ h. omega (arith, h)) (λ h. omega (arith, h)) (ap letters (sym e)))
  event_same is t u c d a b l g f x y r s e = absurd (omega (arith, ap letters e))

same_tick : (n a b : ℕ) → 0 < n → a * n ≡ b * n → a ≡ b
same_tick n a b h e = grind arith

flat_line : (a b c w : List ℕ) → (a ++ (codes " ms  " ++ (b ++ codes "\n"))) ++ w ≡ a ++ 32 ∷ (codes "ms  " ++ (b ++ 10 ∷ w))
flat_line a b c w = simp append_assoc refl

-- by the names of a script
lines_of : (ns : Names) (sources handlers : List (Seat × Label)) (tick_us : ℕ) → IsOfNames (calling ns sources handlers) ns → 0 < tick_us → (t u : Told) → ToldFits tick_us t → ToldFits tick_us u → t.lane ≡ u.lane → (r s : List ℕ)
    → line_text tick_us (calling ns sources handlers) t ++ r ≡ line_text tick_us (calling ns sources handlers) u ++ s → (t.line ≡ u.line) × (r ≡ s)
lines_of ns sources handlers tick_us is some t u p q l r s e =
    let c = calling ns sources handlers in
    let a = event_text c t t.line.event in
    let b = event_text c u u.line.event in
    let opened = sym (flat_line (milliseconds_text (t.line.tick * tick_us)) a [] r) ∙ e ∙ flat_line (milliseconds_text (u.line.tick * tick_us)) b [] s in
    let time = peel_milliseconds (t.line.tick * tick_us) (u.line.tick * tick_us) (codes "ms  " ++ (a ++ 10 ∷ r)) (codes "ms  " ++ (b ++ 10 ∷ s)) p.time q.time opened in
    let event = event_same ns sources handlers is t u p.callee q.callee p.slot q.slot l t.line.event u.line.event p.event q.event r s (ap (drop 4) time.1) in
    let tick = same_tick tick_us t.line.tick u.line.tick some time.0 in
    ((λ i. record { tick = tick i; event = event.0 i }), event.1)

pub lines_apart : LinesAreApart
lines_apart c ns tick_us is some t u p q l r s e =
    let same : c ≡ calling ns c.sources c.handlers = λ i. record { names = is.names i; sources = c.sources; handlers = c.handlers } in
    lines_of ns c.sources c.handlers tick_us (record { names = refl; numbers = is.numbers; sources = is.sources; handlers = is.handlers }) some t u p q l r s
    (subst (λ k. line_text tick_us k t ++ r ≡ line_text tick_us k u ++ s) same e)

-- a line is no empty text
begins_line : (tick_us : ℕ) (c : Calling) (t : Told) → ToldFits tick_us t → (r : List ℕ) → line_text tick_us c t ++ r ≡ [] → ⊥
begins_line tick_us c t p r e =
    let some = decimal_nonempty (t.line.tick * tick_us / 1000) (omega (arith, p.time)) in
    let none : length (line_text tick_us c t ++ r) ≡ 0 = ap length e in
    omega (arith, some, none, length-append (decimal (t.line.tick * tick_us / 1000)) (part_text (t.line.tick * tick_us % 1000)), length-append (milliseconds_text (t.line.tick * tick_us)) (codes " ms  " ++ (event_text c t t.line.event ++ codes "\n")), length-append (line_text tick_us c t) r)

pub texts_apart : TextsAreApart
texts_apart c ns tick_us thread is some [] [] p q e = refl
texts_apart c ns tick_us thread is some [] (u ∷ us) p q e = absurd (begins_line tick_us c u q.0.fits (flat_map (line_text tick_us c) us) (sym e))
texts_apart c ns tick_us thread is some (t ∷ ts) [] p q e = absurd (begins_line tick_us c t p.0.fits (flat_map (line_text tick_us c) ts) e)
texts_apart c ns tick_us thread is some (t ∷ ts) (u ∷ us) p q e =
    let both = lines_apart c ns tick_us is some t u p.0.fits q.0.fits (p.0.lane ∙ sym q.0.lane) (flat_map (line_text tick_us c) ts) (flat_map (line_text tick_us c) us) e in
    let rest = texts_apart c ns tick_us thread is some ts us p.1 q.1 both.1 in
    λ i. both.0 i ∷ rest i
