use Rattle.std.proofs.Common.{rules}
use Rattle.caps_sets.proofs.set_kind.least_length.Goals as goal

pub returns-in-GlyphCache-clause-length : goal.returns-in-GlyphCache-clause-length
returns-in-GlyphCache-clause-length c = search rules
