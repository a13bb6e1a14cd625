use Rattle.std.proofs.Common.{ap, sym, ◌∙◌}
use Rattle.std.specs.Prelude.{pos, Some}
use Rattle.client_picture.specs.Pictures.{source_operand}
use Rattle.client_picture.proofs.rects.source_texture.Goals as goal

pub returns-in-Some-clause-colors : goal.returns-in-Some-clause-colors
returns-in-Some-clause-colors c = λ x y is_in.
    ap Some (c.texture_of.ensures.colors x y is_in) ∙ ap (λ o. source_operand c.args.rect o (pos x) (pos y)) (sym c.in-Some.is)
