use Rattle.std.proofs.Common.{rules}
use Rattle.order_prim.proofs.glyphs.glyph_index.Goals as goal

pub returns : goal.returns
returns c = search rules
