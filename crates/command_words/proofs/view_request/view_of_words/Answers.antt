use Rattle.std.proofs.Common.{refl, map, string_bytes}
use Rattle.clap.specs.Words.{app_of, rows_of, found_of}
use Rattle.command_words.specs.ViewWords.{view_command, viewing_in, view_of_words}
use Rattle.command_words.proofs.Reading.{accepted_is, refused_is, refusal_is, found_is}
use Rattle.command_words.proofs.view_request.view_of_words.Goals as goal

pub returns-in-Ok-clause-words : goal.returns-in-Ok-clause-words
returns-in-Ok-clause-words c = found_is _ _ _ c.found.ensures.words (accepted_is view_command viewing_in refl refl (app_of c.in_ok-command.field-0) c.in_ok-command.ensures
    (map string_bytes c.args.words.now) (rows_of (found_of c.in-Ok.matches)) c.in-Ok.ensures.kinds c.in-Ok.ensures.matches)

pub returns-in-Err-clause-words : goal.returns-in-Err-clause-words
returns-in-Err-clause-words c = refusal_is (view_of_words (map string_bytes c.args.words.now)) c.in-Err.fault c.refused.result c.refused.ensures.none c.refused.ensures.kind
    (refused_is view_command viewing_in refl (app_of c.in_ok-command.field-0) c.in_ok-command.ensures (map string_bytes c.args.words.now) c.in-Err.fault c.in-Err.ensures.kinds)
