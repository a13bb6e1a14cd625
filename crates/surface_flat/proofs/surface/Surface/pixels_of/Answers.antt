use Rattle.std.proofs.Common.{◌≡◌, ℕ, List, true, sym, subst, ap, ◌∙◌}
use Rattle.std.proofs.lemmas.Result.{IfOk-weaker}
use Rattle.px_core.specs.Colors.{are_colors}
use Rattle.px_core.specs.Rectangle.{cut_out}
use Rattle.surface_parts.proofs.Sound.{cut_has_colors}
use Rattle.surface_flat.proofs.surface.Surface.pixels_of.Goals as goal

pub returns-clause-colors : goal.returns-clause-colors
returns-clause-colors c = let i = c.self.inside in
    IfOk-weaker c.cut_pixels.result _ _ (λ cut is. let same = is ∙ ap (λ (ps : List ℕ). cut_out i.size ps 0 c.args.r) c.as_slice.ensures.value in
    subst (λ (ps : List ℕ). are_colors ps ≡ true) (sym same) (cut_has_colors i.size i.pixels.items c.args.r c.self.invariant.0.colors.picture)) c.cut_pixels.ensures
