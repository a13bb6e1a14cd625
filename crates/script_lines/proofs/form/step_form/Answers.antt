use Rattle.std.proofs.Common.{◌∷◌, ap, sym, ◌∙◌}
use Rattle.std.specs.Prelude.{option_map}
use Rattle.script_lines.proofs.StepForms.{step_line, step_form_is}
use Rattle.script_lines.proofs.form.step_form.Goals as goal

pub returns-in-Ok-Some-clause-form : goal.returns-in-Ok-Some-clause-form
returns-in-Ok-Some-clause-form c =
    ap (option_map (step_line c.args.viewer)) (sym c.in-Ok-Some.field-0-is ∙ c.in-Ok-Some.ensures.step) ∙ sym (step_form_is c.args.viewer (c.args.word.now ∷ c.args.words.now))

pub returns-in-Ok-None-clause-form : goal.returns-in-Ok-None-clause-form
returns-in-Ok-None-clause-form c =
    ap (option_map (step_line c.args.viewer)) (sym c.in-Ok-None.field-0-is ∙ c.in-Ok-None.ensures.step) ∙ sym (step_form_is c.args.viewer (c.args.word.now ∷ c.args.words.now))
