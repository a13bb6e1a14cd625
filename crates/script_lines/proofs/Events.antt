-- The forms of input events.
use Rattle.std.proofs.Common.{◌≡◌, ℕ, List, [], ◌∷◌, ap, None}
use Rattle.std.specs.Prelude.{ℤ}
use Rattle.std.specs.Option.{option_and_then}
use Rattle.script_rules.specs.Fields.Field.{Count, Digits}
use Rattle.script_lines.specs.Reading.{Reads, ReadsNone}
use Rattle.script_lines.specs.Steps.{mouse_by, mouse_of}

pub no_mouse : {words : List (List ℕ)} → ReadsNone (Digits 4 ∷ Count ∷ Count ∷ []) words → mouse_of words ≡ None
no_mouse {words} r = ap (option_and_then (λ vs. mouse_by vs.numbers vs.words)) (r.none [])

pub mouse_read : {words rest : List (List ℕ)} {flags x y : ℤ} → Reads (Digits 4 ∷ Count ∷ Count ∷ []) (flags ∷ x ∷ y ∷ []) words rest → mouse_of words ≡ mouse_by (flags ∷ x ∷ y ∷ []) rest
mouse_read {words} {rest} {flags} {x} {y} reads = ap (option_and_then (λ vs. mouse_by vs.numbers vs.words)) (reads.values [])
