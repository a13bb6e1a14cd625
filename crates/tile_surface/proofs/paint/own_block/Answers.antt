use Rattle.std.proofs.Common.{◌≡◌, sym, subst, w32, to_z, of_z}
use Rattle.std.specs.Prelude.{ℤ, IfSome, option_copied}
use Rattle.std.proofs.lemmas.Int.{to_z-of_z}
use Rattle.std.proofs.lemmas.Result.{on_ok_weaker}
use Rattle.px_core.specs.Rectangle.{boxed}
use Rattle.draw_ops.specs.Content.{ImageOf}
use Rattle.tile_surface.specs.Touched.{OwnsRect}
use Rattle.tile_surface.proofs.paint.own_block.Goals as goal

pub returns-in-Some-clause-own : goal.returns-in-Some-clause-own
returns-in-Some-clause-own c = let b = c.block.inside in let size = c.args.window.size in let new = c.own_rect.new.cells in let clip = c.args.window.clip in let x = c.args.x in let y = c.args.y in
    let ex : to_z w32 (of_z w32 x) ≡ x = to_z-of_z w32 x c.ranges.x in
    let ey : to_z w32 (of_z w32 y) ≡ y = to_z-of_z w32 y c.ranges.y in
    on_ok_weaker c.own_rect.result (λ own.
    subst (λ o. IfSome (option_copied o) (λ block. OwnsRect size new clip (boxed x y block.w block.h))) (sym c.in-Some.is)
    (subst (λ (block : ImageOf). OwnsRect size new clip (boxed x y block.w block.h)) c.block.view_is
    (subst (λ (z : ℤ). OwnsRect size new clip (boxed x z b.w b.h)) ey
    (subst (λ (z : ℤ). OwnsRect size new clip (boxed z (to_z w32 (of_z w32 y)) b.w b.h)) ex own))))
    c.own_rect.ensures.own
