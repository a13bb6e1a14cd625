-- What an order uses of a run of glyphs.
use Rattle.std.specs.Prelude.{ℕ, List, Option, Result, Ok}
use Rattle.wire_num.specs.Field.{bind}
use Rattle.draw_ops.specs.Content.{GlyphOf}
use Rattle.order_means.specs.ClientState.{Fault, found, with_glyphs}
use Rattle.order_means.specs.ClientState.Fault.{Broken}

-- a run is pairs, and each of its glyphs is there
abbrev pub run_used : (ℕ → Result GlyphOf Fault) → Option (List (ℕ × ℕ)) → Result (Unit {0}) Fault
run_used glyph pairs = bind (found pairs Broken) (λ ps. with_glyphs glyph ps (Ok tt))
