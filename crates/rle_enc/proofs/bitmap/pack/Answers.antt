use Rattle.std.proofs.Common.{◌∙◌}
use Rattle.px_core.proofs.Pixels.{are_pixels-colors}
use Rattle.rle_enc.proofs.bitmap.pack.Goals as goal

pub pack_at-requires-clause-pixels : goal.pack_at-requires-clause-pixels
pack_at-requires-clause-pixels c = are_pixels-colors c.args.pixels.now ∙ c.requires.colors
