use Rattle.std.proofs.Common.{rules}
use Rattle.script_lines.proofs.form.addressed_form.Goals as goal

pub returns-in-Some-Some-clause-form : goal.returns-in-Some-Some-clause-form
returns-in-Some-Some-clause-form c = search rules
