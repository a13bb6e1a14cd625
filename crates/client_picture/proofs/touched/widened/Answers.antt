use Rattle.std.proofs.Common.{ap, ◌∙◌}
use Rattle.client_picture.specs.Parts.{in_optional_part}
use Rattle.client_picture.proofs.touched.widened.Goals as goal

pub returns-in-Some-clause-pixels : goal.returns-in-Some-clause-pixels
returns-in-Some-clause-pixels c = λ x y h. let r = c.joined.ensures.pixels x y h in (r.0, ap (λ o. in_optional_part o x y) c.in-Some.is ∙ r.1)
