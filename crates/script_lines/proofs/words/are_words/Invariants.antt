use Rattle.std.proofs.Common.{◌≡◌, length}
use Rattle.line_text.specs.Words.{words_of}
use Rattle.script_rules.specs.Script.{are_words}
use Rattle.script_lines.proofs.words.are_words.Given as goal

abbrev pub invariant-loop-word : goal.invariant-loop-word
invariant-loop-word l = are_words l.words ≡ are_words (words_of l.fn.text)

abbrev pub decreases-loop-word : goal.decreases-loop-word
decreases-loop-word l = length l.words
