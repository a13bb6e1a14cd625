use Rattle.std.proofs.Common.{ap, ◌∙◌, codes, map}
use Rattle.clap.specs.Words.{found_of}
use Rattle.command_words.proofs.Found.{values_are, no_values}
use Rattle.command_words.proofs.HostFound.{onto_none}
use Rattle.command_words.proofs.host_request.arguments.Goals.{in-Some+in_ok-extend_from_slice, in_default}
use Rattle.command_words.proofs.host_request.arguments.Goals as goal

pub returns : goal.returns
returns c = elim c.match-get_strs.branch [
  | in-Some+in_ok-extend_from_slice w ↦ ap (λ v. map (λ s. s.now) v.items) w.args-is
      ∙ ap (map (λ s. s.now)) (w.in_ok-extend_from_slice.ensures.items ∙ onto_none _ c.new-args.ensures.items _)
      ∙ values_are _ (found_of c.args.matches.now) (codes "ARGS") w.in-Some.ensures
  | in_default w ↦ ap (λ v. map (λ s. s.now) v.items) w.args-is ∙ ap (map (λ s. s.now)) c.new-args.ensures.items
      ∙ no_values (found_of c.args.matches.now) (codes "ARGS") w.in_default.ensures
]
