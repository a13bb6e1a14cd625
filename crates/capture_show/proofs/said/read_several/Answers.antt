use Rattle.std.proofs.Common.{◌∙◌, ap, sym, codes}
use Rattle.std.specs.Bool.{then_some}
use Rattle.std.specs.Prelude.{◌&&◌, if◌then◌else◌}
use Rattle.line_text.specs.Words.{words_of, is_same_word}
use Rattle.script_rules.specs.Capture.{joined_words, is_step_refusal}
use Rattle.script_rules.specs.Capture.CaptureLine.{OtherLine}
use Rattle.capture_show.proofs.Lines.{several_are}
use Rattle.capture_show.proofs.said.read_several.Goals as goal

pub returns-then-is_same_word : goal.returns-then-is_same_word
returns-then-is_same_word c = λ bytes.
    several_are c.args.viewer c.args.word.now c.args.behind.now
    ∙ ap (λ t. if t then joined_words c.args.viewer (words_of c.args.behind.now) else then_some (is_same_word c.args.word.now (codes "refused") && is_step_refusal (words_of c.args.behind.now)) (OtherLine c.args.viewer))
    (sym c.is_same_word.ensures ∙ c.if-is_same_word.true)
    ∙ c.read_joined.ensures bytes

pub returns-else-is_same_word : goal.returns-else-is_same_word
returns-else-is_same_word c = λ bytes.
    several_are c.args.viewer c.args.word.now c.args.behind.now
    ∙ ap (λ t. if t then joined_words c.args.viewer (words_of c.args.behind.now) else then_some (is_same_word c.args.word.now (codes "refused") && is_step_refusal (words_of c.args.behind.now)) (OtherLine c.args.viewer))
    (sym c.is_same_word.ensures ∙ c.if-is_same_word.false)
    ∙ ap (λ t. then_some t (OtherLine c.args.viewer)) (sym c.is_refusal.ensures)
    ∙ c.other_where.ensures bytes
