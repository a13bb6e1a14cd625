-- The turns that steps take.
use Rattle.std.proofs.Common.{◌≡◌, ℕ, suc, ◌+◌, List, [], ◌∷◌, ◌++◌, length, refl, ap, ◌∙◌, arith}
use Rattle.session_rules.specs.declared.entry.Entry.{Entry}
use Rattle.conn_rules.specs.declared.conn_step.ConnStep.{ConnStep}
use Rattle.serve_rules.specs.Turns.{SessionPass, IsTurn, Idles}
use Rattle.serve_rules.specs.Reading.{HasTurns, HasTurnsOf, turns_of, turns_in}

turns_both : (xs ys : List ConnStep) → turns_in (xs ++ ys) ≡ turns_in xs + turns_in ys
turns_both [] ys = let none : turns_in ys ≡ 0 + turns_in ys = omega arith in none
turns_both (x ∷ xs) ys =
    let rest : turns_in (xs ++ ys) ≡ turns_in xs + turns_in ys = turns_both xs ys in
    let both : turns_of x + turns_in (xs ++ ys) ≡ (turns_of x + turns_in xs) + turns_in ys = omega (arith, rest) in
    both

-- turns of steps after those of others
pub turns_then : (xs ys : List ConnStep) (p q r : SessionPass) → HasTurnsOf xs p q → HasTurnsOf ys q r → HasTurnsOf (xs ++ ys) p r
turns_then xs ys p q r a b = let both = turns_both xs ys in omega (arith, a, b, both)

-- no turn for no step
pub turns_none : (p : SessionPass) → HasTurns 0 p p
turns_none p = omega arith

pushed : (l : List ℕ) (n : ℕ) → length (l ++ n ∷ []) ≡ length l + 1
pushed [] n = refl
pushed (x ∷ l) n =
    let less : length (l ++ n ∷ []) ≡ length l + 1 = pushed l n in
    let more : suc (length (l ++ n ∷ [])) ≡ suc (length l) + 1 = omega (arith, less) in
    more

-- one turn
pub turns_one : (p q : SessionPass) (base added : List Entry) → IsTurn p q base added → HasTurns 1 p q
turns_one p q base added t = ap (λ (l : List ℕ). length l) t.found ∙ pushed p.found (length base)

pub turns_idle : (p q : SessionPass) → Idles p q → HasTurns 1 p q
turns_idle p q i = turns_one p q i.0 [] i.1
