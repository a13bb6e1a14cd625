-- Runs of glyphs, pair by pair.
use Rattle.std.proofs.Common.{◌≡◌, ◌≤◌, ℕ, Bool, true, false, List, [], ◌∷◌, length, get_or, drop, refl, Some, None, arith}
use Rattle.std.specs.Prelude.{Option, Result, is_some, nat_lt, ◌&&◌}
use Rattle.wire_num.specs.Field.{bind}
use Rattle.draw_ops.specs.Content.{GlyphOf}
use Rattle.order_means.specs.ClientState.{Fault, pairs_of, pairs_if, onto_pairs}
use Rattle.client_caches.specs.Runs.{run_used}

some_by : (b : Bool) (i d : ℕ) (ps : Option (List (ℕ × ℕ))) → is_some (pairs_if b (onto_pairs i d ps)) ≡ (b && is_some ps)
some_by true i d None = refl
some_by true i d (Some ps) = refl
some_by false i d ps = refl

pub some_pairs : (i d : ℕ) (rest : List ℕ) → is_some (pairs_of (i ∷ d ∷ rest)) ≡ ((nat_lt i 254 && nat_lt d 128) && is_some (pairs_of rest))
some_pairs i d rest = some_by (nat_lt i 254 && nat_lt d 128) i d (pairs_of rest)

-- the first pair, and then the others
used_by : (glyph : ℕ → Result GlyphOf Fault) (b : Bool) (i d : ℕ) (ps : Option (List (ℕ × ℕ))) → is_some (pairs_if b (onto_pairs i d ps)) ≡ true →
    run_used glyph (pairs_if b (onto_pairs i d ps)) ≡ bind (glyph i) (λ _. run_used glyph ps)
used_by glyph true i d None some = absurd (let no : ⊥ = cc in no)
used_by glyph true i d (Some ps) some = refl
used_by glyph false i d ps some = absurd (let no : ⊥ = cc in no)

pub used_first : (glyph : ℕ → Result GlyphOf Fault) (i d : ℕ) (rest : List ℕ) → is_some (pairs_of (i ∷ d ∷ rest)) ≡ true →
    run_used glyph (pairs_of (i ∷ d ∷ rest)) ≡ bind (glyph i) (λ _. run_used glyph (pairs_of rest))
used_first glyph i d rest some = used_by glyph (nat_lt i 254 && nat_lt d 128) i d (pairs_of rest) some

pub long_used : (glyph : ℕ → Result GlyphOf Fault) (run : List ℕ) → 2 ≤ length run → is_some (pairs_of run) ≡ true →
    run_used glyph (pairs_of run) ≡ bind (glyph (get_or run 0 0)) (λ _. run_used glyph (pairs_of (drop 2 run)))
long_used glyph [] long some = absurd (omega arith)
long_used glyph (i ∷ []) long some = absurd (omega arith)
long_used glyph (i ∷ d ∷ rest) long some = used_first glyph i d rest some
