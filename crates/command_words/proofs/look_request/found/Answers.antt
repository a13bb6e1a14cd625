use Rattle.std.proofs.Common.{refl, ap, ◌∙◌, codes}
use Rattle.clap.specs.Words.{found_of}
use Rattle.script_rules.specs.Capture.{viewer_word}
use Rattle.command_words.proofs.Found.{first_is}
use Rattle.command_words.proofs.look_request.found.Goals as goal

pub returns : goal.returns
returns c = c.read_viewer.ensures ∙ ap viewer_word (c.as_bytes.ensures.value ∙ ap (λ t. t.now) c.unwrap_or-word.ensures
    ∙ first_is c.get_str.result _ (found_of c.args.matches.now) (codes "V") refl c.get_str.ensures)
