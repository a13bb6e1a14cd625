use Rattle.std.proofs.Common.{ap, ◌∙◌}
use Rattle.client_caches.specs.Named.{optional_drawing}
use Rattle.client_caches.proofs.drawings.opaque_of.Goals as goal

pub returns-in_err-rect : goal.returns-in_err-rect
returns-in_err-rect c = λ run. ap (optional_drawing run) c.from_residual.ensures ∙ c.in_err-rect.ensures run
