use Rattle.std.proofs.Common.{◌∙◌, ℕ, List, ap, sym, subst}
use Rattle.std.specs.Prelude.{All}
use Rattle.px_core.specs.declared.surface.Size.{Size}
use Rattle.px_core.specs.Tiles.{either_tiles, tiles_in}
use Rattle.px_core.specs.TileFlags.{tiles}
use Rattle.frame_plan.specs.TileParts.{IsOnPicture}
use Rattle.frame_plan.proofs.TileParts.{all_on}
use Rattle.frame_plan.proofs.frame.plan_frame.Goals as goal

pub lend_tiles-requires : goal.lend_tiles-requires
lend_tiles-requires c =
    let size = c.args.session.now.head.size in
    let set = either_tiles (tiles c.in_ok-walker.walker.dirty) (tiles c.asked-asked.result.now) in
    subst (λ (ts : List ℕ). All (IsOnPicture size) ts)
    (sym (c.as_slice.ensures.value ∙ c.in_ok-due.ensures ∙ ap (λ (z : Size). tiles_in z set) c.size.ensures)) (all_on size set)
