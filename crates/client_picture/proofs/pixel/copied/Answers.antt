use Rattle.std.proofs.Common.{◌^◌, ◌<◌, ℕ, subst}
use Rattle.std.specs.Prelude.{Option, IfSome}
use Rattle.client_picture.proofs.CopyCode.{copied_same}
use Rattle.client_picture.proofs.pixel.copied.Goals as goal

pub returns : goal.returns
returns c = copied_same c.args.source (subst (λ (o : Option ℕ). IfSome o (λ color. color < 2 ^ 24)) c.color-color.ensures.value c.color-color.ensures.bound)
