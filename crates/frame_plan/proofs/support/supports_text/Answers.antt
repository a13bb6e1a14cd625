use Rattle.std.proofs.Common.{rules}
use Rattle.frame_plan.proofs.support.supports_text.Goals as goal

pub returns-then-has_glyph_level : goal.returns-then-has_glyph_level
returns-then-has_glyph_level c = search rules
