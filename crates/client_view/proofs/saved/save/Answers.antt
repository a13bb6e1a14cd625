use Rattle.std.proofs.Common.{List, Option, ℕ, length, ap, ◌∙◌}
use Rattle.px_core.proofs.Pictures.{length-listed}
use Rattle.client_view.proofs.saved.save.Goals as goal

pub new-block-requires : goal.new-block-requires
new-block-requires c = ap (λ (xs : List (Option ℕ)). length xs) c.in_ok-pixels.ensures ∙ length-listed _ 0 _
