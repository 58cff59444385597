-- Texts are added thread by thread.
use Rattle.std.proofs.Common.{Bool, false, ◌≡◌, ◌∙◌, sym, ap, ℕ, ◌+◌, ◌<◌, List, [], ◌∷◌, ◌++◌, codes, length, map, drop, get_or, slice_get, slice_set, append_assoc, string_bytes, String, Result, Ok, Err, OnOk, Some, option_map, arith, min, ◌^◌}
use Rattle.std.proofs.lemmas.Bool.Decides.{nat_tests}
use Rattle.std.specs.Prelude.{unwrap_or, is_ok, if◌then◌else◌}
use Rattle.std.proofs.lemmas.List.{map-set, drop_more, drop-map}
use Rattle.std.proofs.lemmas.Option.{slice_get-map, slice_get_read}
use Rattle.account.specs.Course.{Course}
use Rattle.account.specs.declared.moment.Moment.{Moment}
use Rattle.run_names.specs.declared.thing.Thing.TheVariants as things
use Rattle.run_names.specs.Text.{Calling, full_text}
use Rattle.inspect_words.specs.Named.{TellsOf}
use Rattle.inspect_text.specs.Gathered.{added, from_thread, Gathers}

-- a text is added at its place
added_at : {A : Type 0} (xs : List (String A)) (i : ℕ) (x y : String A) (text : List ℕ) → i < length xs → x ≡ get_or xs i x → string_bytes y ≡ string_bytes x ++ text
    → map string_bytes (slice_set xs i y) ≡ added i text (map string_bytes xs)
added_at xs i x y text low is e =
    let here : slice_get (map string_bytes xs) i ≡ Some (string_bytes x) = slice_get-map string_bytes xs i ∙ ap (option_map string_bytes) (slice_get_read xs (length xs) i x (λ k. length xs) low is) in
    map-set string_bytes xs i y ∙ ap (slice_set (map string_bytes xs) i) (e ∙ sym (ap (λ o. unwrap_or o [] ++ text) here))

-- a text is added behind that of a thread
pub added_ok : {A E : Type 0} (r : Result (Unit {0}) E) (xs : List (String A)) (i : ℕ) (x y : String A) (text : List ℕ) → i < length xs → x ≡ get_or xs i x → string_bytes y ≡ if is_ok r then string_bytes x ++ text else string_bytes x
    → OnOk r (map string_bytes (slice_set xs i y) ≡ added i text (map string_bytes xs))
added_ok (Ok z) xs i x y text low is e = added_at xs i x y text low is e
added_ok (Err z) xs i x y text low is e = tt

-- the next text is told under its heading
pub next_thread : {A : Type 0} (c : Calling) (xs : List (String A)) (n i : ℕ) (x : String A) (text start old new : List ℕ) → i < length xs → x ≡ get_or xs i x → n ≡ i → text ≡ string_bytes x
    → old ++ from_thread c i (drop i (map string_bytes xs)) ≡ start → new ≡ old ++ (full_text c (things.Thread n) ++ (codes "\n" ++ text))
    → new ++ from_thread c (i + 1) (drop (i + 1) (map string_bytes xs)) ≡ start
next_thread {A} c xs n i x text start old new low is same told e pushed =
    let texts = map string_bytes xs in
    let here : drop i texts ≡ string_bytes x ∷ drop (i + 1) texts = drop-map string_bytes i xs ∙ ap (map string_bytes) (drop_more xs i x low ∙ ap (λ (y : String A). y ∷ drop (i + 1) xs) (sym is)) ∙ ap (λ (ts : List (List ℕ)). string_bytes x ∷ ts) (sym (drop-map string_bytes (i + 1) xs)) in
    let behind = from_thread c (i + 1) (drop (i + 1) texts) in
    ap (λ (t : List ℕ). t ++ behind) (pushed ∙ ap (λ (m : ℕ). old ++ (full_text c (things.Thread m) ++ (codes "\n" ++ text))) same ∙ ap (λ (t : List ℕ). old ++ (full_text c (things.Thread i) ++ (codes "\n" ++ t))) told) ∙ together old (full_text c (things.Thread i)) (codes "\n") (string_bytes x) behind ∙ sym (ap (λ (ts : List (List ℕ)). old ++ from_thread c i ts) here) ∙ e
  where
    together : (a b d f g : List ℕ) → (a ++ (b ++ (d ++ f))) ++ g ≡ a ++ (b ++ (d ++ (f ++ g)))
    together a b d f g = simp append_assoc (λ k. a ++ (b ++ (d ++ (f ++ g))))

-- the number of the next thread, of which there are few
pub next_number : (n i count next : ℕ) → next ≡ min (n + 1) 4294967295 → n ≡ i → i < count → count < 2 ^ 32 → next ≡ i + 1
next_number n i count next e same low few = grind (arith, nat_tests)

-- a moment is gathered: its lines, and behind them the notes
pub gathers : {E : Type 0} (r : Result (Unit {0}) E) (run : Course) (c : Calling) (m : Moment) (lines notes : List ℕ) (old middle new : List (List ℕ)) (were are : Bool) → TellsOf run c m lines → (were ≡ false → notes ≡ []) → are ≡ were
    → middle ≡ added m.lane lines old → OnOk r (new ≡ added m.lane notes middle) → OnOk r (Gathers run c m (record { threads = old; notes = were }) (record { threads = new; notes = are }))
gathers (Err x) run c m lines notes old middle new were are told only same first second = tt
gathers (Ok x) run c m lines notes old middle new were are told only same first second =
    record { lines = lines; notes = notes; told = told; only_lines = only; threads = second ∙ ap (added m.lane notes) first; same = same }
