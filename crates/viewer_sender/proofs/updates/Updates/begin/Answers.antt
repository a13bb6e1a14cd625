use Rattle.std.proofs.Common.{◌∙◌, ap}
use Rattle.viewer_sender.specs.Gathering.{Gathering}
use Rattle.viewer_sender.specs.Framings.{is_fast}
use Rattle.viewer_sender.proofs.Begun.{begun_of_kind}
use Rattle.viewer_sender.proofs.updates.Updates.begin.Goals as goal

pub invariant_of-self : goal.invariant_of-self
invariant_of-self c = begun_of_kind (is_fast c.self.inside.framing) (is_fast c.args.framing) _ c.self.inside.end c.self.inside.count c.self.invariant (ap (λ g. g.count) (c.self.view_is ∙ c.requires))

pub returns : goal.returns
returns c = ap (λ (g : Gathering). record g { fast = (is_fast c.args.framing) }) (c.self.view_is ∙ c.requires)
