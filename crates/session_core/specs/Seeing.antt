-- Drawings of an entry where they lie, each with what is kept of it.
use Rattle.std.specs.Prelude.{List, Option, Some, None, Vec}
use Rattle.px_core.specs.declared.rectangle.Rect.{Rect}
use Rattle.draw_ops.specs.declared.shape.Drawing.{Drawing}
use Rattle.session_rules.specs.Pending.{Pending}
use Rattle.session_core.specs.declared.shown.Shown.{Shown}
use Rattle.session_core.specs.Showing.{image_shown, brush_shown, glyphs_shown}

-- a drawing over a rectangle, with what its slots held
abbrev pub pending_with : Drawing → Rect → Shown → Pending
pending_with d rect shown = record { drawing = d; rect = rect; image = image_shown shown; brush = brush_shown shown; glyphs = glyphs_shown shown }

-- the drawings that were made again, or else those that are kept
abbrev pub drawings_seen : {Z : Type 0} → Option (Vec Drawing Z) → List Drawing → List Drawing
drawings_seen None kept = kept
drawings_seen (Some made) kept = made.items
