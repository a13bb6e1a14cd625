use Rattle.std.proofs.Common.{◌∙◌}
use Rattle.px_core.specs.declared.depth.Depth.TheVariants.{Bits16}
use Rattle.px_core.proofs.Pixels.{are_pixels-colors, shown_are_pixels}
use Rattle.rle_enc.proofs.shown.show_all.Goals as goal

pub returns-in-Bits24-clause-pixels : goal.returns-in-Bits24-clause-pixels
returns-in-Bits24-clause-pixels c = λ h. rw c.in-Bits24.is (are_pixels-colors c.args.colors.items ∙ h)

pub returns-in-Bits16-clause-pixels : goal.returns-in-Bits16-clause-pixels
returns-in-Bits16-clause-pixels c = λ h. rw (c.in-Bits16.is, c.cut_all.ensures) (shown_are_pixels Bits16 c.args.colors.items h)
