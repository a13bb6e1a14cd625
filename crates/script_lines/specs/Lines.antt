-- A line of a script by its form, and the numbers of rules.
use Rattle.std.specs.Prelude.{ℕ, List, [], ◌∷◌, Bool, false, ◌==◌, ⊤}
use Rattle.px_core.specs.Rectangle.{IsPlaced}
use Rattle.draw_ops.specs.Ranges.{HasColors}
use Rattle.script_lines.specs.declared.step.ViewerStep.{ViewerStep}
use Rattle.script_lines.specs.declared.step.ViewerStep.TheVariants as asks
use Rattle.line_text.specs.Words.{words_of}
use Rattle.script_rules.specs.Script.{LineForm as Form, size_rule, text_rule, form_rule, order_rule, name_rule, preset_rule, presence_rule}
use Rattle.script_rules.specs.Script.LineForm.{InviteForm, JoinForm, StepForm}
use Rattle.script_lines.specs.declared.form.LineForm.{LineForm}
use Rattle.script_lines.specs.declared.form.LineForm.TheVariants as line
use Rattle.script_lines.specs.declared.rule.LineRule.{LineRule}
use Rattle.script_lines.specs.declared.rule.LineRule.TheVariants as rule
use Rattle.script_lines.specs.Keywords.{step_of}

-- the form that a line was read as
abbrev pub form_of : LineForm → Form
form_of (line.Invite name role) = InviteForm name.now role
form_of (line.Join name preset) = JoinForm name.now (words_of preset.now)
form_of (line.Step viewer step) = StepForm viewer (step_of viewer step)

-- whether a word begins with `@`
abbrev pub begins_with_at : List ℕ → Bool
begins_with_at [] = false
begins_with_at (b ∷ bs) = b == 64

-- the number of a rule
abbrev pub number_of_rule : LineRule → ℕ
number_of_rule rule.Size = size_rule
number_of_rule rule.Text = text_rule
number_of_rule rule.Form = form_rule
number_of_rule rule.Order = order_rule
number_of_rule rule.Name = name_rule
number_of_rule rule.Preset = preset_rule
number_of_rule rule.Presence = presence_rule

-- the colours of a drawing are colours, and a rectangle lies where tiles can be told of it
abbrev pub IsStepInRange : ViewerStep → Type 0
IsStepInRange asks.Leave = ⊤
IsStepInRange asks.Take = ⊤
IsStepInRange (asks.Suppress stop) = ⊤
IsStepInRange (asks.Refresh r) = IsPlaced r
IsStepInRange (asks.Input e) = ⊤
IsStepInRange (asks.Draw d) = HasColors d

abbrev pub IsFormInRange : LineForm → Type 0
IsFormInRange (line.Invite name role) = ⊤
IsFormInRange (line.Join name preset) = ⊤
IsFormInRange (line.Step viewer step) = IsStepInRange step
