use Rattle.std.proofs.Common.{ℕ, List, true, sym, subst}
use Rattle.std.specs.Prelude.{Option, option_copied}
use Rattle.std.specs.Arc.{arc_value}
use Rattle.rle_enc.specs.Packed.{IsTilePacked}
use Rattle.tile_surface.specs.Packings.{PackingOf}
use Rattle.tile_surface.proofs.packed.PackedTile.bytes.Goals as goal

pub returns : goal.returns
returns c = let i = c.self.inside in
    subst (λ (v : PackingOf). IsTilePacked v.depth true 64 64 v.pixels (option_copied c.as_deref.result)) c.self.view_is
    (subst (λ (bytes : Option (List ℕ)). IsTilePacked i.depth true 64 64 (arc_value i.tile) bytes) (sym c.as_deref.ensures.value) c.self.invariant)
