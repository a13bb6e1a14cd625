use Rattle.std.proofs.Common.{rules}
use Rattle.caps_sets.proofs.preset_words.full.Goals as goal

pub returns : goal.returns
returns c = search rules
