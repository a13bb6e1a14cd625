use Rattle.std.proofs.Common.{ap, ◌∙◌}
use Rattle.clap.specs.Words.{app_of, with_rule}
use Rattle.command_words.specs.LookWords.{viewer_rule}
use Rattle.command_words.proofs.look_request.command.Goals as goal

-- the argument adds its rule to the command
pub returns : goal.returns
returns c =
    c.in_ok-arg.ensures.shape c.viewer_arg.ensures.local
    ∙ ap (λ r. with_rule (app_of c.new.result) r) c.viewer_arg.ensures.rule
    ∙ ap (λ a. with_rule a viewer_rule) c.new.ensures.app
