use Rattle.std.proofs.Common.{◌≡◌, length}
use Rattle.line_text.specs.Words.{words_of}
use Rattle.caps_sets.specs.Presets.{presets, overridden_by, confirmed_by}
use Rattle.caps_sets.proofs.preset_words.preset.Given as goal

-- the overrides that are left come to the same
abbrev pub invariant-loop-word : goal.invariant-loop-word
invariant-loop-word l = overridden_by l.confirmed l.left ≡ confirmed_by presets (words_of l.fn.words)

abbrev pub decreases-loop-word : goal.decreases-loop-word
decreases-loop-word l = length l.left
