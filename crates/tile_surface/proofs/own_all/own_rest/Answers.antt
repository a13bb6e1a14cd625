use Rattle.std.proofs.Common.{◌≡◌, subst, w32, to_z, of_z}
use Rattle.std.specs.Prelude.{ℤ}
use Rattle.std.proofs.lemmas.Int.{to_z-of_z}
use Rattle.std.proofs.lemmas.Result.{on_ok_weaker}
use Rattle.px_core.specs.Picture.{both}
use Rattle.px_core.specs.Rectangle.{boxed, in_clip, in_rect}
use Rattle.tile_surface.specs.Ownership.{OwnsArea}
use Rattle.tile_surface.proofs.Later.{owns_rest}
use Rattle.tile_surface.proofs.own_all.own_rest.Goals as goal

pub returns-clause-own : goal.returns-clause-own
returns-clause-own c = let size = c.args.window.size in let new = c.own_rect.new.cells in let clip = in_clip c.args.window.clip in let x = c.args.x in let y = c.args.y in
    let ex : to_z w32 (of_z w32 x) ≡ x = to_z-of_z w32 x c.ranges.x in
    let ey : to_z w32 (of_z w32 y) ≡ y = to_z-of_z w32 y c.ranges.y in
    let small = c.requires.tiled.small in
    on_ok_weaker c.own_rect.result (λ own. owns_rest size new clip x y small.wide small.high c.requires.corner
    (subst (λ (z : ℤ). OwnsArea size new (both clip (in_rect (boxed x z 65536 65536)))) ey
    (subst (λ (z : ℤ). OwnsArea size new (both clip (in_rect (boxed z (to_z w32 (of_z w32 y)) 65536 65536)))) ex own)))
    c.own_rect.ensures.own
