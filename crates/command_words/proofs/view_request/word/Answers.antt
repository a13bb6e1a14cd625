use Rattle.std.proofs.Common.{refl, ap, ◌∙◌}
use Rattle.clap.specs.Words.{found_of}
use Rattle.command_words.proofs.Found.{first_is}
use Rattle.command_words.proofs.view_request.word.Goals as goal

pub returns : goal.returns
returns c = ap (λ t. t.now) c.unwrap_or.ensures ∙ first_is c.get_str.result _ (found_of c.args.matches.now) c.args.id.now refl c.get_str.ensures
