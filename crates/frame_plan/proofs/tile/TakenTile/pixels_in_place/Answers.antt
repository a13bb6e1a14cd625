use Rattle.std.proofs.Common.{◌≡◌, ◌∙◌, ◌==◌, ℕ, List, length, ap, sym, subst}
use Rattle.std.specs.Prelude.{IfSome}
use Rattle.frame_plan.specs.TileParts.{part_of_tile}
use Rattle.frame_plan.proofs.TileParts.{part_length, whole_is_wide}
use Rattle.frame_plan.proofs.tile.TakenTile.pixels_in_place.Goals as goal

pub returns-clause-pixels : goal.returns-clause-pixels
returns-clause-pixels c =
    let i = c.self.inside in
    subst (λ (ps : List ℕ). IfSome c.rows_in_place.result (λ rows. rows.now ≡ ps))
    (ap (λ (ps : List ℕ). part_of_tile ps i.w i.h) c.pixels.ensures.pixels ∙ ap (λ (v : ℕ × List ℕ). v.1) c.self.view_is) c.rows_in_place.ensures.pixels

pub returns-clause-whole : goal.returns-clause-whole
returns-clause-whole c = let i = c.self.inside in λ all.
    let wide : i.w ≡ 64 = whole_is_wide i.w i.h c.self.invariant.0 c.self.invariant.1 (sym (part_length i.tile i.w i.h) ∙ ap (λ (v : ℕ × List ℕ). length v.1) c.self.view_is ∙ all) in
    c.rows_in_place.ensures.whole_rows ∙ ap (λ (w : ℕ). w == 64) wide
