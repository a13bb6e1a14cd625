-- A frame's line whose digits stand behind its beginning.
use Rattle.std.proofs.Common.{◌≡◌, ℕ, List, [], ◌∷◌, ◌++◌, ap, sym, ◌∙◌, append_assoc}
use Rattle.std.specs.Prelude.{decimal}
use Rattle.line_text.specs.Hexadecimal.{HoldsFront}
use Rattle.script_rules.specs.Capture.{ended, of_viewer}

-- the line, cut behind its beginning
pub line_cut : (v : ℕ) (digits : List ℕ) → of_viewer v digits ≡ (decimal v ++ 32 ∷ []) ++ ended digits
line_cut v digits = append_assoc (decimal v) (32 ∷ digits) (10 ∷ []) ∙ sym (append_assoc (decimal v) (32 ∷ []) (ended digits))

-- a front of its beginning is a front of it
pub begun_front : (old new : List ℕ) (v : ℕ) (digits : List ℕ) → HoldsFront old new (decimal v ++ 32 ∷ []) → HoldsFront old new (of_viewer v digits)
begun_front old new v digits h = record {
  front = h.front;
  rest = h.rest ++ ended digits;
  whole = line_cut v digits ∙ ap (λ t. t ++ ended digits) h.whole ∙ append_assoc h.front h.rest (ended digits);
  held = h.held;
}
