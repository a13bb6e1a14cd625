use Rattle.std.proofs.Common.{◌∷◌, [], refl, sym, ap, ◌∙◌}
use Rattle.std.specs.Prelude.{pos, option_map}
use Rattle.script_rules.specs.Fields.{glyph_by}
use Rattle.script_lines.specs.Reading.{loaded}
use Rattle.script_lines.proofs.Loads.{no_load, load_read, no_one_word}
use Rattle.script_lines.proofs.load.read_glyph.Goals as goal

pub returns-in_default : goal.returns-in_default
returns-in_default c = sym (no_load glyph_by c.in_default.ensures)

pub returns-in_default-last_word : goal.returns-in_default-last_word
returns-in_default-last_word c =
    let p = c.in-Some.place in
    sym (load_read glyph_by c.in-Some.ensures ∙ no_one_word (glyph_by (pos p.font ∷ pos p.code ∷ p.x ∷ p.y ∷ pos p.cx ∷ pos p.cy ∷ [])) c.next_glyph.new.words c.in_default-last_word.ensures refl (λ word next words. refl))

pub returns : goal.returns
returns c =
    let p = c.in-Some.place in
    c.load.ensures ∙ ap (option_map loaded) c.in_ok-glyph_shape.ensures
    ∙ sym (load_read glyph_by c.in-Some.ensures ∙ ap (λ ws. option_map loaded (glyph_by (pos p.font ∷ pos p.code ∷ p.x ∷ p.y ∷ pos p.cx ∷ pos p.cy ∷ []) ws)) c.in-Some-last_word.ensures)
