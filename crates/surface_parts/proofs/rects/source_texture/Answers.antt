use Rattle.std.proofs.Common.{◌≡◌, ap, sym, ◌∙◌, w32, to_z, of_z}
use Rattle.std.proofs.lemmas.Int.{to_z-of_z}
use Rattle.std.specs.Prelude.{pos, option_copied}
use Rattle.px_core.specs.Picture.{rows_of}
use Rattle.draw_ops.specs.Formulas.{shifted}
use Rattle.draw_ops.specs.Drawing.{source_of}
use Rattle.surface_parts.proofs.rects.source_texture.Goals as goal

pub returns-in-Some-clause-colors : goal.returns-in-Some-clause-colors
returns-in-Some-clause-colors c = λ x y is_in. let r = c.args.rect in let image = c.in-Some.image.now in
    let ex : to_z w32 (of_z w32 c.args.sx) ≡ c.args.sx = to_z-of_z w32 c.args.sx c.ranges.sx in
    let ey : to_z w32 (of_z w32 c.args.sy) ≡ c.args.sy = to_z-of_z w32 c.args.sy c.ranges.sy in
    c.texture_of.ensures.colors x y is_in
    ∙ ap (λ z. shifted (rows_of c.from.result c.from-in-Some.result c.pixels.result.now) 0 r z (to_z w32 (of_z w32 c.args.sy)) (pos x) (pos y)) ex
    ∙ ap (λ z. shifted (rows_of c.from.result c.from-in-Some.result c.pixels.result.now) 0 r c.args.sx z (pos x) (pos y)) ey
    ∙ ap (λ ps. shifted (rows_of c.from.result c.from-in-Some.result ps) 0 r c.args.sx c.args.sy (pos x) (pos y)) c.pixels.ensures
    ∙ ap (λ w. shifted (rows_of w c.from-in-Some.result image.pixels) 0 r c.args.sx c.args.sy (pos x) (pos y)) (c.from.ensures ∙ c.w.ensures)
    ∙ ap (λ h. shifted (rows_of image.w h image.pixels) 0 r c.args.sx c.args.sy (pos x) (pos y)) (c.from-in-Some.ensures ∙ c.h.ensures)
    ∙ ap (λ o. source_of (option_copied o) r c.args.sx c.args.sy (pos x) (pos y)) (sym c.in-Some.is)
