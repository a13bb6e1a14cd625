use Rattle.std.proofs.Common.{◌∷◌, sym, ap, ◌∙◌}
use Rattle.std.specs.Prelude.{codes}
use Rattle.std.specs.Option.{option_copied}
use Rattle.line_text.specs.Words.{parts_left}
use Rattle.script_rules.specs.Script.{join_form}
use Rattle.script_lines.proofs.LineForms.{join_made, some_word}
use Rattle.script_lines.proofs.form.join_form.Goals as goal

pub returns-then-are_words-clause-form : goal.returns-then-are_words-clause-form
returns-then-are_words-clause-form c =
    let name = c.first_word.result.0.now in
    sym (ap (λ o. join_form (codes "join" ∷ parts_left 32 (option_copied o))) c.in_ok-rest.was
    ∙ ap (λ ws. join_form (codes "join" ∷ ws)) c.first_word.ensures
    ∙ ap (λ o. join_form (codes "join" ∷ name ∷ parts_left 32 (option_copied o))) c.in_ok-preset.was
    ∙ join_made name c.in_ok-preset.preset.now (some_word name (sym c.is_empty.ensures ∙ c.if-not-is_empty.true)) (sym c.are_words.ensures ∙ c.if-are_words.true))
