use Rattle.std.proofs.Common.{rules, ◌≡◌, ℕ, zero, suc, ◌+◌, ◌++◌, [], ◌∷◌, List, map, sym, ap, ◌∙◌, arith}
use Rattle.std.proofs.lemmas.List.{map_push}
use Rattle.std.specs.List.{range_with_len}
use Rattle.script_report.specs.declared.order.Placed.{Placed}
use Rattle.script_report.proofs.order.place_all.Goals as goal

-- a range that is one longer has one number more at its end
range_more : (a n : ℕ) → range_with_len a (suc n) ≡ range_with_len a n ++ (a + n) ∷ []
range_more a zero = ap (λ (k : ℕ). k ∷ []) (omega arith)
range_more a (suc n) = ap (λ (ks : List ℕ). a ∷ ks) (range_more (a + 1) n ∙ ap (λ (k : ℕ). range_with_len (a + 1) n ++ k ∷ []) (omega arith))

pub loop-number-preserved : goal.loop-number-preserved
loop-number-preserved c =
    let n = c.loop-number.number in
    let one = c.place_one.result in
    let next : n + 1 ≡ suc n = omega arith in
    let first : 0 + n ≡ n = omega arith in
    let pushed : c.push.new.self.items ≡ c.loop-number.placed.items ++ one ∷ [] = search rules in
    ap (map (λ (o : Placed). o.fault)) pushed ∙ (map_push (λ (o : Placed). o.fault) c.loop-number.placed.items one
    ∙ (ap (λ (ks : List ℕ). ks ++ one.fault ∷ []) c.loop-number.invariant
    ∙ (ap (λ (k : ℕ). range_with_len 0 n ++ k ∷ []) (c.place_one.ensures ∙ sym first) ∙ (sym (range_more 0 n) ∙ ap (range_with_len 0) (sym next)))))
