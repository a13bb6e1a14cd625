use Rattle.std.proofs.Common.{arith, ap, sym, ◌∙◌}
use Rattle.std.specs.Prelude.{pos, ◌&&◌}
use Rattle.std.proofs.lemmas.Int.{ints}
use Rattle.px_core.specs.Rectangle.{boxed, in_rect, in_clip}
use Rattle.client_picture.specs.Parts.{in_frame}
use Rattle.client_picture.proofs.Frames.{seen_pixels}
use Rattle.client_picture.proofs.part.part_at.Goals as goal

pub returns-in-None-clause-pixels : goal.returns-in-None-clause-pixels
returns-in-None-clause-pixels c = λ u v left above. let a = c.args in
    c.part_in.ensures.pixels u v
    ∙ seen_pixels a.size _ _ a.x a.y a.w a.h c.frame_at-seen.result c.frame_at-seen.ensures.seen (omega (arith, ints)) (omega (arith, ints)) u v left above
    ∙ ap (λ o. in_clip o (pos u) (pos v) && in_rect (boxed a.x a.y a.w a.h) (pos u) (pos v)) (sym c.in-None.is)

pub returns-in-Some-clause-pixels : goal.returns-in-Some-clause-pixels
returns-in-Some-clause-pixels c = λ u v left above.
    c.common.ensures.pixels u v
    ∙ ap (λ t. t && in_frame c.frame_at-seen.result u v) (c.bounded.ensures.pixels u v left above)
    ∙ ap (λ t. in_clip c.args.bounds (pos u) (pos v) && t) (seen_pixels c.args.size _ _ c.args.x c.args.y c.args.w c.args.h c.frame_at-seen.result c.frame_at-seen.ensures.seen (omega (arith, ints)) (omega (arith, ints)) u v left above)
