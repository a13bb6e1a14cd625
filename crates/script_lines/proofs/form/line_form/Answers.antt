use Rattle.std.proofs.Common.{◌≡◌, ◌∷◌, sym, ap, subst, ◌∙◌, drop}
use Rattle.std.specs.Prelude.{IfOk, codes}
use Rattle.std.specs.Option.{option_map, option_copied}
use Rattle.line_text.specs.Words.{words_of, parts_left}
use Rattle.script_rules.specs.Script.{line_form, invite_form, join_form}
use Rattle.script_lines.specs.Lines.{form_of}
use Rattle.script_lines.proofs.LineForms.{invite_line, join_line, addressed_line}
use Rattle.script_lines.proofs.form.line_form.Goals as goal

pub returns-then-is_same_word-clause-form : goal.returns-then-is_same_word-clause-form
returns-then-is_same_word-clause-form c =
    let first = c.in-Some.first.now in
    let rest = c.next_part.new.self in
    let words : words_of c.args.text.now ≡ first ∷ rest = sym c.words-words.ensures ∙ c.in-Some.ensures in
    c.invite_form.ensures.form ∙ ap invite_form words ∙ sym (invite_line first rest (sym c.is_same_word.ensures ∙ c.if-is_same_word.true)) ∙ ap line_form (sym words)

pub returns-then-is_same_word-2-clause-form : goal.returns-then-is_same_word-2-clause-form
returns-then-is_same_word-2-clause-form c =
    let first = c.in-Some.first.now in
    let rest = c.next_part.new.self in
    let words : words_of c.args.text.now ≡ first ∷ rest = sym c.words-words.ensures ∙ c.in-Some.ensures in
    let behind : parts_left 32 (option_copied c.first_word.result.1) ≡ rest = ap (drop 1) (sym c.first_word.ensures ∙ words) in
    c.join_form.ensures.form ∙ ap (λ ws. join_form (codes "join" ∷ ws)) behind ∙ sym (join_line first rest (sym c.is_same_word-else-is_same_word.ensures ∙ c.if-is_same_word-2.true)) ∙ ap line_form (sym words)

pub returns-then-names_viewer-clause-form : goal.returns-then-names_viewer-clause-form
returns-then-names_viewer-clause-form c =
    let first = c.in-Some.first.now in
    let rest = c.next_part.new.self in
    let words : words_of c.args.text.now ≡ first ∷ rest = sym c.words-words.ensures ∙ c.in-Some.ensures in
    subst (λ o. IfOk c.addressed_form.result (λ form. option_map form_of form ≡ o))
    (sym (addressed_line first rest (sym c.names_viewer.ensures ∙ c.if-names_viewer.true)) ∙ ap line_form (sym words))
    c.addressed_form.ensures.form
