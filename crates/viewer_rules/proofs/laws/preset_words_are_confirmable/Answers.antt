use Rattle.viewer_rules.proofs.Presets.{preset_words_found}
use Rattle.viewer_rules.proofs.laws.preset_words_are_confirmable.Goals as goal

pub returns : goal.returns
returns c = preset_words_found
