-- Parts that are written one behind the other.
use Rattle.std.proofs.Common.{◌≡◌, ℕ, List, [], ◌++◌, ap, sym, ◌∙◌, append_assoc, append-nil}

-- eight parts, one behind the other
pub eight : (old a b c d e f g h o1 o2 o3 o4 o5 o6 o7 o8 : List ℕ) → o1 ≡ old ++ a → o2 ≡ o1 ++ b → o3 ≡ o2 ++ c → o4 ≡ o3 ++ d → o5 ≡ o4 ++ e → o6 ≡ o5 ++ f → o7 ≡ o6 ++ g → o8 ≡ o7 ++ h
    → o8 ≡ old ++ (a ++ (b ++ (c ++ (d ++ (e ++ (f ++ (g ++ (h ++ []))))))))
eight old a b c d e f g h o1 o2 o3 o4 o5 o6 o7 o8 e1 e2 e3 e4 e5 e6 e7 e8 =
    let l8 = more o7 h [] o8 e8 in
    let l7 = more o6 g (h ++ []) o7 e7 in
    let l6 = more o5 f (g ++ (h ++ [])) o6 e6 in
    let l5 = more o4 e (f ++ (g ++ (h ++ []))) o5 e5 in
    let l4 = more o3 d (e ++ (f ++ (g ++ (h ++ [])))) o4 e4 in
    let l3 = more o2 c (d ++ (e ++ (f ++ (g ++ (h ++ []))))) o3 e3 in
    let l2 = more o1 b (c ++ (d ++ (e ++ (f ++ (g ++ (h ++ [])))))) o2 e2 in
    let l1 = more old a (b ++ (c ++ (d ++ (e ++ (f ++ (g ++ (h ++ []))))))) o1 e1 in
    sym (append-nil o8) ∙ l8 ∙ l7 ∙ l6 ∙ l5 ∙ l4 ∙ l3 ∙ l2 ∙ l1
  where
    more : (old x rest new : List ℕ) → new ≡ old ++ x → new ++ rest ≡ old ++ (x ++ rest)
    more old x rest new e = ap (λ o. o ++ rest) e ∙ append_assoc old x rest
