use Rattle.std.proofs.Common.{◌∙◌}
use Rattle.command_words.proofs.SpacedWords.{confirmed_again}
use Rattle.command_words.proofs.presets.confirmed_by_text.Goals as goal

pub returns-in-len1-up : goal.returns-in-len1-up
returns-in-len1-up c = λ words none is. c.preset.ensures ∙ confirmed_again c.args.text.now words c.in-len1-up.len_at_least none is
