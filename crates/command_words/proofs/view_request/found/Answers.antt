use Rattle.std.proofs.Common.{codes}
use Rattle.clap.specs.Words.{found_of}
use Rattle.command_words.proofs.Found.{values_are, no_values}
use Rattle.command_words.proofs.Reading.{found_is}
use Rattle.command_words.proofs.ViewFound.{words_are}
use Rattle.command_words.proofs.view_request.found.Goals as goal

pub returns-in-Some-clause-words : goal.returns-in-Some-clause-words
returns-in-Some-clause-words c = found_is _ _ _ c.viewing_of_words.ensures.words (words_are _ _ _ _ c.word-port.ensures c.word-name.ensures c.word-marks.ensures
    (values_are _ (found_of c.args.matches.now) (codes "PRESET") c.in-Some.ensures))

pub returns-in-None-clause-words : goal.returns-in-None-clause-words
returns-in-None-clause-words c = found_is _ _ _ c.viewing_of_words-in-None.ensures.words (words_are _ _ _ _ c.word-port.ensures c.word-name.ensures c.word-marks.ensures
    (no_values (found_of c.args.matches.now) (codes "PRESET") c.in-None.ensures))
