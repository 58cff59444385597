-- Lists that share an end or a prefix, and the parts of a line.
use Rattle.std.proofs.Common.{◌≡◌, ℕ, ℤ, ◌+◌, ◌≤◌, List, ◌++◌, length, take, drop, codes, refl, sym, ap, ◌∙◌, arith, drop-drop, drop_at, take_at, take-append-drop, append_assoc}
use Rattle.std.proofs.lemmas.List.{drop-take, drop-append-le, length-take}
use Rattle.std.specs.Fmt.{decimal, signed_decimal}
use Rattle.lane_turn.specs.declared.line.Event.TheVariants.{Dispatch}
use Rattle.mainctx.specs.Text.{line_text}
use Rattle.mainctx.specs.LastDispatch.{head_text, tail_text}

-- what lies past a write
pub end_kept : (xs ys w : List ℕ) (at end : ℕ) → drop at ys ≡ w ++ drop end xs → at + length w ≡ end → drop end ys ≡ drop end xs
end_kept xs ys w at end e s = ap (λ n. drop n ys) (sym s) ∙ sym (drop-drop (length w) at ys) ∙ ap (drop (length w)) e ∙ drop_at w (drop end xs) (length w) refl

-- what lies before a write
pub prefix_kept : (xs ys w : List ℕ) (start at : ℕ) → take at ys ≡ take at xs → drop start xs ≡ w ++ drop at xs → start + length w ≡ at → at ≤ length ys → drop start ys ≡ w ++ drop at ys
prefix_kept xs ys w start at e d s short =
    let same : drop start (take at xs) ≡ w = ap (λ n. drop start (take n xs)) (sym s) ∙ drop-take start (length w) xs ∙ ap (take (length w)) d ∙ take_at w (drop at xs) (length w) refl in
    let within : start ≤ length (take at ys) = omega (arith, length-take at ys) in
    ap (drop start) (sym (take-append-drop at ys)) ∙ drop-append-le start (take at ys) (drop at ys) within ∙ ap (λ l. l ++ drop at ys) (ap (drop start) e ∙ same)

parts : (t a ctx b src c pri d dep n : List ℕ) → (t ++ (a ++ (ctx ++ b))) ++ (src ++ (c ++ (pri ++ (d ++ (dep ++ n))))) ≡ t ++ ((a ++ (ctx ++ (b ++ (src ++ (c ++ (pri ++ (d ++ dep))))))) ++ n)
parts t a ctx b src c pri d dep n = simp append_assoc

pub line_is : (tick context source : ℕ) (priority : ℤ) (depth : ℕ) → head_text tick context ++ (decimal source ++ tail_text priority depth) ≡ line_text (record { tick = tick; event = Dispatch context source priority depth })
line_is tick context source priority depth =
    parts (decimal tick) (codes " dispatch ctx ") (decimal context) (codes " source ") (decimal source) (codes " priority ") (signed_decimal priority) (codes " depth ") (decimal depth) (codes "\n")
