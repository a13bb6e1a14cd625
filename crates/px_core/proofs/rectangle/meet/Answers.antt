use Rattle.std.proofs.Common.{ap, sym, ◌∙◌}
use Rattle.px_core.specs.declared.rectangle.Rect.{Rect}
use Rattle.px_core.specs.Rectangle.{in_rect}
use Rattle.px_core.proofs.TilePixels.{in_rect-common, no_pixel}
use Rattle.px_core.proofs.rectangle.meet.Goals as goal

pub returns-then-has_pixel-clause-pixels : goal.returns-then-has_pixel-clause-pixels
returns-then-has_pixel-clause-pixels c x y = ap (λ (r : Rect). in_rect r x y) c.common-both.ensures.common ∙ in_rect-common c.args.a c.args.b x y

pub returns-else-has_pixel-clause-pixels : goal.returns-else-has_pixel-clause-pixels
returns-else-has_pixel-clause-pixels c x y =
    no_pixel c.common-both.result x y (sym c.has_pixel.ensures ∙ c.if-has_pixel.false)
    ∙ (ap (λ (r : Rect). in_rect r x y) c.common-both.ensures.common ∙ in_rect-common c.args.a c.args.b x y)
