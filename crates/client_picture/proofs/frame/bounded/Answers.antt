use Rattle.std.proofs.Common.{arith, ap, sym, ◌∙◌}
use Rattle.std.specs.Prelude.{pos}
use Rattle.std.proofs.lemmas.Int.{ints}
use Rattle.px_core.specs.Rectangle.{in_clip}
use Rattle.client_picture.proofs.Frames.{seen_pixels}
use Rattle.client_picture.proofs.frame.bounded.Goals as goal

pub returns-in-Some-clause-pixels : goal.returns-in-Some-clause-pixels
returns-in-Some-clause-pixels c = λ x y left above. let b = c.in-Some.bounds in
    seen_pixels c.args.size _ _ b.x b.y b.w b.h c.frame_at.result c.frame_at.ensures.seen (omega (arith, ints)) (omega (arith, ints)) x y left above
    ∙ ap (λ o. in_clip o (pos x) (pos y)) (sym c.in-Some.is)
