use Rattle.std.specs.Prelude.{pos}
use Rattle.px_core.specs.Rectangle.{in_clip}
use Rattle.surface_parts.proofs.Seen.{common_inside, common_within, seen_pixels}
use Rattle.surface_parts.proofs.part.visible.Goals as goal

pub part_of-requires : goal.part_of-requires
part_of-requires c = common_inside c.frame.result c.args.rect c.in-Some.common c.in-Some.ensures.pixels c.in-Some.ensures.none_without_pixels c.args.window.size c.frame.ensures.inside

pub returns-in-Some-clause-within : goal.returns-in-Some-clause-within
returns-in-Some-clause-within c = common_within c.frame.result c.args.rect c.in-Some.common c.in-Some.ensures.pixels c.in-Some.ensures.none_without_pixels c.part_of.result c.part_of.ensures.same

pub returns-in-Some-clause-pixels : goal.returns-in-Some-clause-pixels
returns-in-Some-clause-pixels c = λ x y left above. seen_pixels c.args.rect c.frame.result c.in-Some.common c.part_of.result (in_clip c.args.window.clip (pos x) (pos y)) x y c.part_of.ensures.same
    (c.in-Some.ensures.pixels (pos x) (pos y)) (c.frame.ensures.pixels x y left above)
