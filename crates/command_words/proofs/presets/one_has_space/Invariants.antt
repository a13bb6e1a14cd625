use Rattle.std.proofs.Common.{◌≡◌, drop, map}
use Rattle.std.specs.List.{list_any}
use Rattle.command_words.specs.ViewWords.{has_space}
use Rattle.command_words.proofs.presets.one_has_space.Given as goal

-- none of the words that were passed has a space
abbrev pub invariant-loop-word : goal.invariant-loop-word
invariant-loop-word l = list_any has_space (map (λ s. s.now) (drop l.word-index l.words)) ≡ list_any has_space (map (λ s. s.now) l.fn.words)
