use Rattle.std.proofs.Common.{◌≡◌, ℕ, List, true, sym, subst, ap, ◌∙◌}
use Rattle.std.specs.Vec.{with_items}
use Rattle.std.proofs.lemmas.List.{with_items_is}
use Rattle.px_core.specs.Colors.{are_colors}
use Rattle.px_core.specs.Rectangle.{cut_out}
use Rattle.surface_parts.proofs.Sound.{cut_has_colors}
use Rattle.tile_surface.specs.declared.cell.Cell.{Cell}
use Rattle.tile_surface.specs.Cells.{picture_of}
use Rattle.tile_surface.proofs.tiles.Tiles.pixels_of.Goals as goal

pub returns-clause-colors : goal.returns-clause-colors
returns-clause-colors c = let i = c.self.inside in
    let same : (with_items c.in_ok-pixels.pixels c.cut_rect.new.out).items ≡ cut_out i.size (picture_of i.size i.cells.items) 0 c.args.r
    = with_items_is c.in_ok-pixels.pixels c.cut_rect.new.out (c.cut_rect.auto.out ∙ c.as_mut_slice.ensures.len) ∙ c.cut_rect.ensures ∙ ap (λ (cells : List Cell). cut_out i.size (picture_of i.size cells) 0 c.args.r) c.as_slice.ensures.value in
    subst (λ (ps : List ℕ). are_colors ps ≡ true) (sym same) (cut_has_colors i.size (picture_of i.size i.cells.items) c.args.r c.self.invariant.0.colors.picture)
