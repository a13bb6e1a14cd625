use Rattle.std.proofs.Common.{refl, ap, ◌∙◌, Some, map, string_bytes}
use Rattle.std.specs.Prelude.{List}
use Rattle.clap.specs.Words.{Row, app_of, rows_of, found_of}
use Rattle.command_words.specs.HostWords.{host_command, request_in, request_of}
use Rattle.command_words.proofs.Reading.{accepted_is, refused_is, refusal_is}
use Rattle.command_words.proofs.host_request.Request.read.Goals as goal

pub returns-in_ok-found-in-Ok : goal.returns-in_ok-found-in-Ok
returns-in_ok-found-in-Ok c = ap Some c.in_ok-found-in-Ok.ensures ∙ accepted_is host_command (λ (rows : List Row). Some (request_in rows)) refl refl
    (app_of c.in_ok-command.field-0) c.in_ok-command.ensures (map string_bytes c.args.words.now) (rows_of (found_of c.in-Ok.matches)) c.in-Ok.ensures.kinds c.in-Ok.ensures.matches

pub returns-in-Err : goal.returns-in-Err
returns-in-Err c = refusal_is (request_of (map string_bytes c.args.words.now)) c.in-Err.fault c.refused.result c.refused.ensures.none c.refused.ensures.kind
    (refused_is host_command (λ (rows : List Row). Some (request_in rows)) refl (app_of c.in_ok-command.field-0) c.in_ok-command.ensures (map string_bytes c.args.words.now) c.in-Err.fault c.in-Err.ensures.kinds)
