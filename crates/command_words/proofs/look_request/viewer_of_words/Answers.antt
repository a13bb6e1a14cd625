use Rattle.std.proofs.Common.{refl, ◌∙◌, map, string_bytes}
use Rattle.clap.specs.Words.{app_of, rows_of, found_of}
use Rattle.command_words.specs.LookWords.{look_command, viewer_in, viewer_of_words}
use Rattle.command_words.proofs.Reading.{accepted_is, refused_is, refusal_is}
use Rattle.command_words.proofs.look_request.viewer_of_words.Goals as goal

pub returns-in-Ok : goal.returns-in-Ok
returns-in-Ok c = c.found.ensures ∙ accepted_is look_command viewer_in refl refl (app_of c.in_ok-command.field-0) c.in_ok-command.ensures
    (map string_bytes c.args.words.now) (rows_of (found_of c.in-Ok.matches)) c.in-Ok.ensures.kinds c.in-Ok.ensures.matches

pub returns-in-Err : goal.returns-in-Err
returns-in-Err c = refusal_is (viewer_of_words (map string_bytes c.args.words.now)) c.in-Err.fault c.refused.result c.refused.ensures.none c.refused.ensures.kind
    (refused_is look_command viewer_in refl (app_of c.in_ok-command.field-0) c.in_ok-command.ensures (map string_bytes c.args.words.now) c.in-Err.fault c.in-Err.ensures.kinds)
