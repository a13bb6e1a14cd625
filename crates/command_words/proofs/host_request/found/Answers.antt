use Rattle.std.proofs.Common.{refl, ap, ◌∙◌, codes}
use Rattle.clap.specs.Words.{found_of}
use Rattle.command_words.proofs.Found.{first_is}
use Rattle.command_words.proofs.HostFound.{parts_are}
use Rattle.command_words.proofs.host_request.found.Goals as goal

pub returns : goal.returns
returns c = parts_are _ _ (ap (λ t. t.now) c.unwrap_or-mode.ensures ∙ first_is c.get_str.result _ (found_of c.args.matches.now) (codes "MODE") refl c.get_str.ensures) _ _ c.in_ok-args.ensures
