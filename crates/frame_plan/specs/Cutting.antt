-- A drawing that was cut, in the place of the one that it was cut from.
use Rattle.std.specs.Prelude.{Option, Some, None}
use Rattle.session_rules.specs.Pending.{Pending}
use Rattle.frame_plan.specs.declared.cut.CutDrawing.{CutDrawing}

abbrev pub cut_with : Pending → Option CutDrawing → Option Pending
cut_with p None = None
cut_with p (Some c) = Some (record p { drawing = c.drawing; rect = c.rect })
