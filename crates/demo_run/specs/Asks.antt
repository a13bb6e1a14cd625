-- What is asked of the demonstration's session by code.
use Rattle.std.specs.Prelude.{◌≡◌, ℕ, ◌≤◌, false, ⊤}
use Rattle.input_pdu.specs.declared.event.Event.TheVariants.{Scan}
use Rattle.draw_ops.specs.Ranges.{HasColors}
use Rattle.session_rules.specs.Journal.{f12}
use Rattle.script_lines.specs.declared.step.ViewerStep.{ViewerStep}
use Rattle.script_lines.specs.declared.step.ViewerStep.TheVariants as asks

-- one of the sixteen viewers
abbrev pub IsViewer : ℕ → Type 0
IsViewer v = (1 ≤ v) × (v ≤ 16)

-- a step that may be drawn: F12 is pressed, colours are drawn, or a frame is taken
abbrev pub IsDrawn : ViewerStep → Type 0
IsDrawn asks.Leave = ⊥
IsDrawn asks.Take = ⊤
IsDrawn (asks.Suppress stop) = ⊥
IsDrawn (asks.Refresh r) = ⊥
IsDrawn (asks.Input e) = e ≡ Scan f12 false
IsDrawn (asks.Draw d) = HasColors d
