use Rattle.std.proofs.Common.{◌*◌, ◌+◌, ap, sym, ◌∙◌, arith}
use Rattle.std.proofs.lemmas.Bool.Decides.{nat_tests}
use Rattle.px_core.specs.Picture.{item}
use Rattle.surface_parts.specs.Parts.{in_part, part_at}
use Rattle.surface_parts.proofs.Cuts.{pixels_are_cut}
use Rattle.surface_parts.proofs.Repaint.{under_true}
use Rattle.tile_surface.specs.Cells.{picture_of}
use Rattle.tile_surface.proofs.rows.cut_rect.Goals as goal

pub cut_part-requires-clause-room : goal.cut_part-requires-clause-room
cut_part-requires-clause-room c = let same = c.part_of.ensures.same in c.requires.room ∙ ap (λ n. n * c.args.rect.h) same.w ∙ ap (λ n. c.part_of.result.w * n) same.h

pub returns : goal.returns
returns c = let p = c.part_of.result in let size = c.args.size in let same = c.part_of.ensures.same in
    pixels_are_cut size (picture_of size c.args.cells.now) c.args.rect p same c.part_of.ensures.inside c.cut_part.new.out (c.cut_part.auto.out ∙ c.requires.room)
    (λ u v left above. ap (λ w. item c.cut_part.new.out (w * v + u) 0) same.w ∙ c.cut_part.ensures.pixel u v (omega (arith, left, same.w)) (omega (arith, above, same.h))
    ∙ sym (under_true (in_part (part_at 0 0 p.w p.h) u v) _ _ (grind (arith, nat_tests, left, above, same.w, same.h))))
