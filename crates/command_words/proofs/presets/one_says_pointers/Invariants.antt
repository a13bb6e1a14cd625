use Rattle.std.proofs.Common.{◌≡◌, drop, map}
use Rattle.std.specs.List.{list_any}
use Rattle.caps_sets.specs.Presets.{is_pointer_word}
use Rattle.command_words.proofs.presets.one_says_pointers.Given as goal

-- none of the words that were passed says how many pointers are kept
abbrev pub invariant-loop-word : goal.invariant-loop-word
invariant-loop-word l = list_any is_pointer_word (map (λ s. s.now) (drop l.word-index l.words)) ≡ list_any is_pointer_word (map (λ s. s.now) l.fn.words)
