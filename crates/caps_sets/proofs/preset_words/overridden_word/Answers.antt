use Rattle.std.proofs.Common.{rules}
use Rattle.std.proofs.lemmas.List.{take_rest}
use Rattle.caps_sets.proofs.preset_words.overridden_word.Goals as goal

pub returns-then-is_same_word : goal.returns-then-is_same_word
returns-then-is_same_word c = search rules

pub returns-then-is_pointer_word : goal.returns-then-is_pointer_word
returns-then-is_pointer_word c = search (rules, take_rest c.args.word.now 8)
