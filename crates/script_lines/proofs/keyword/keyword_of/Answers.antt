use Rattle.std.proofs.Common.{◌≡◌, subst, sym, ◌∙◌, refl, Some}
use Rattle.std.specs.Prelude.{find}
use Rattle.line_text.specs.Words.{is_same_word}
use Rattle.script_lines.specs.declared.keyword.Keyword.TheVariants.{Fill}
use Rattle.script_lines.specs.Keywords.{text_of, keywords}
use Rattle.script_lines.proofs.LineForms.{same_word}
use Rattle.script_lines.proofs.keyword.keyword_of.Goals as goal

pub returns-then-is_same_word : goal.returns-then-is_same_word
returns-then-is_same_word c =
    let word = c.args.word.now in
    let is : word ≡ text_of Fill = same_word word c.text_of.result.now (sym c.is_same_word.ensures ∙ c.if-is_same_word.true) ∙ c.text_of.ensures in
    subst (λ w. Some Fill ≡ find (λ k. is_same_word w (text_of k)) keywords) (sym is) refl
