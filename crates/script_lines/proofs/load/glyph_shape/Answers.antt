use Rattle.std.proofs.Common.{rules}
use Rattle.script_lines.proofs.load.glyph_shape.Goals as goal

pub returns : goal.returns
returns c = search rules
