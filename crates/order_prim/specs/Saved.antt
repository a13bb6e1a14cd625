-- Which of the two drawings a SaveBitmap order says.
use Rattle.std.specs.Prelude.{ℕ, Bool, true, false}
use Rattle.px_core.specs.declared.rectangle.Rect.{Rect}
use Rattle.order_fields.specs.NamedDrawing.{NamedDrawing}
use Rattle.order_fields.specs.NamedDrawing.NamedDrawing.{SaveBlock, RestoreBlock}

-- a rectangle that is saved at a place, or restored from there
abbrev pub saved_or_restored : ℕ → Rect → Bool → NamedDrawing
saved_or_restored position r false = SaveBlock position r
saved_or_restored position r true = RestoreBlock position r
