use Rattle.std.proofs.Common.{ap, ◌∙◌}
use Rattle.clap.specs.Words.{app_of, with_rule}
use Rattle.command_words.specs.HostWords.{mode_rule, args_rule}
use Rattle.command_words.proofs.host_request.command.Goals as goal

-- each argument adds its rule to the command
pub returns : goal.returns
returns c =
    c.in_ok-arg.ensures.shape c.args_arg.ensures.local
    ∙ ap (λ r. with_rule (app_of c.in_ok-command.command) r) c.args_arg.ensures.rule
    ∙ ap (λ a. with_rule a args_rule) (c.in_ok-command.ensures.shape c.mode_arg.ensures.local
    ∙ ap (λ r. with_rule (app_of c.new.result) r) c.mode_arg.ensures.rule
    ∙ ap (λ a. with_rule a mode_rule) c.new.ensures.app)
