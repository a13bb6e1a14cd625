use Rattle.std.proofs.Common.{◌≡◌, ◌∙◌, ℕ, List, ap, subst}
use Rattle.std.specs.Prelude.{IfOk}
use Rattle.frame_plan.specs.TileParts.{part_of_tile}
use Rattle.frame_plan.proofs.tile.TakenTile.copied_pixels.Goals as goal

pub returns : goal.returns
returns c =
    let i = c.self.inside in
    subst (λ (ps : List ℕ). IfOk c.copied_part.result (λ pixels. pixels.items ≡ ps))
    (ap (λ (ps : List ℕ). part_of_tile ps i.w i.h) c.pixels.ensures.pixels ∙ ap (λ (v : ℕ × List ℕ). v.1) c.self.view_is) c.copied_part.ensures
