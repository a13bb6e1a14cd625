use Rattle.std.proofs.Common.{rules}
use Rattle.caps_sets.proofs.preset_words.preset.Goals as goal

pub loop-word-preserved : goal.loop-word-preserved
loop-word-preserved c = search rules
