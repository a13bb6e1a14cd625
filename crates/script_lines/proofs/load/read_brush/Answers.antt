use Rattle.std.proofs.Common.{◌∷◌, [], refl, sym, ap, ◌∙◌}
use Rattle.std.specs.Prelude.{pos, option_map}
use Rattle.script_rules.specs.Fields.{brush_by}
use Rattle.script_lines.specs.Reading.{loaded}
use Rattle.script_lines.proofs.Loads.{no_load, load_read, no_one_word}
use Rattle.script_lines.proofs.load.read_brush.Goals as goal

pub returns-in_default : goal.returns-in_default
returns-in_default c = sym (no_load brush_by c.in_default.ensures)

pub returns-in_default-last_word : goal.returns-in_default-last_word
returns-in_default-last_word c =
    sym (load_read brush_by c.in-Some.ensures ∙ no_one_word (brush_by (pos c.in-Some.slot ∷ [])) c.next_small.new.words c.in_default-last_word.ensures refl (λ word next words. refl))

pub returns : goal.returns
returns c =
    c.load.ensures ∙ ap (option_map loaded) c.in_ok-brush_shape.ensures
    ∙ sym (load_read brush_by c.in-Some.ensures ∙ ap (λ ws. option_map loaded (brush_by (pos c.in-Some.slot ∷ []) ws)) c.in-Some-last_word.ensures)
