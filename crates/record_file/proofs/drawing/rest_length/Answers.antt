use Rattle.std.proofs.Common.{◌∙◌, ap, sym, length, ◌*◌}
use Rattle.record_rules.specs.Tables.{shape_rest}
use Rattle.record_rules.proofs.FieldsBack.{length-colors, length-pairs}
use Rattle.record_file.proofs.drawing.rest_length.Goals as goal

pub returns-in-Text : goal.returns-in-Text
returns-in-Text c = ap (λ xs. 2 * length xs) c.pairs.ensures ∙ sym (length-pairs c.in-Text.run') ∙ ap (λ s. length (shape_rest s)) (sym c.in-Text.is)

pub returns-in-LoadImage : goal.returns-in-LoadImage
returns-in-LoadImage c = ap (λ xs. 3 * length xs) c.pixels.ensures ∙ sym (length-colors c.in-LoadImage.image.pixels) ∙ ap (λ s. length (shape_rest s)) (sym c.in-LoadImage.is)

pub returns-in-LoadBrush : goal.returns-in-LoadBrush
returns-in-LoadBrush c = ap (λ xs. 3 * length xs) (c.pixels-in-LoadBrush.ensures.value ∙ c.brush.ensures) ∙ sym (length-colors c.in-LoadBrush.brush) ∙ ap (λ s. length (shape_rest s)) (sym c.in-LoadBrush.is)
