use Rattle.std.proofs.Common.{rules, ◌≡◌, Some, sym, ap, ◌∙◌, w32, to_z, of_z}
use Rattle.std.specs.Prelude.{option_map}
use Rattle.std.proofs.lemmas.Int.{to_z-of_z}
use Rattle.script_lines.specs.Reading.{run_parts}
use Rattle.script_lines.proofs.Runs.{text_drawing, text_with, no_text, text_read}
use Rattle.script_lines.proofs.text.read_text.Goals as goal

pub returns-in_default : goal.returns-in_default
returns-in_default c = sym (no_text c.in_default.ensures)

pub returns-in_default-2 : goal.returns-in_default-2
returns-in_default-2 c =
    let p = c.in-Some.pen in
    sym (text_read c.in-Some.ensures ∙ ap (option_map (text_with p.x p.y p.color p.font)) (sym c.in_ok-run.ensures ∙ ap (option_map run_parts) c.in_default-2.is))

pub returns : goal.returns
returns c =
    let p = c.in-Some.pen in
    let run = c.in-Some-2.run' in
    let x : to_z w32 (of_z w32 p.x) ≡ p.x = search (rules, to_z-of_z) in
    let y : to_z w32 (of_z w32 p.y) ≡ p.y = search (rules, to_z-of_z) in
    ap (λ z. Some (text_drawing z (to_z w32 (of_z w32 p.y)) p.color p.font c.in_ok-new.field-0 run.clip)) x
    ∙ ap (λ z. Some (text_drawing p.x z p.color p.font c.in_ok-new.field-0 run.clip)) y
    ∙ ap (λ pairs. Some (text_drawing p.x p.y p.color p.font pairs run.clip)) (c.in_ok-new.ensures ∙ c.deref.ensures.value)
    ∙ sym (text_read c.in-Some.ensures ∙ ap (option_map (text_with p.x p.y p.color p.font)) (sym c.in_ok-run.ensures ∙ ap (option_map run_parts) c.in-Some-2.is))
