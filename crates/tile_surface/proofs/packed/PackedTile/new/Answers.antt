use Rattle.std.proofs.Common.{ℕ, List, true, sym, subst, ◌∙◌}
use Rattle.std.specs.Prelude.{Option, option_map}
use Rattle.std.specs.Arc.{arc_value}
use Rattle.rle_enc.specs.Packed.{IsTilePacked}
use Rattle.tile_surface.proofs.packed.PackedTile.new.Goals as goal

pub invariant_of-result : goal.invariant_of-result
invariant_of-result c =
    subst (λ (bytes : Option (List ℕ)). IsTilePacked c.args.depth true 64 64 (arc_value c.args.tile) bytes) (sym c.trimmed-packed.ensures)
    (subst (λ (colors : List ℕ). IsTilePacked c.args.depth true 64 64 colors (option_map (λ bytes. bytes.items) c.in_ok-found.found)) (c.pixels.ensures.pixels ∙ c.deref.ensures) c.in_ok-found.ensures)
