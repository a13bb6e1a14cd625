use Rattle.std.proofs.Common.{◌≡◌, ◌++◌, drop, map}
use Rattle.script_rules.specs.Capture.{spaced}
use Rattle.command_words.proofs.presets.spaced.Given as goal

-- the text so far and that of the words that are left are all of it
abbrev pub invariant-loop-word : goal.invariant-loop-word
invariant-loop-word l = l.text.items ++ spaced (map (λ s. s.now) (drop l.word-index l.words)) ≡ spaced (map (λ s. s.now) l.fn.words)
