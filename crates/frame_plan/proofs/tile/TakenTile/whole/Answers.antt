use Rattle.std.proofs.Common.{◌≡◌, ◌∙◌, ◌*◌, ℕ, List, length, ap, sym, arith}
use Rattle.frame_plan.proofs.TileParts.{all_of_tile, part_length, whole_is_high, whole_is_wide}
use Rattle.frame_plan.proofs.tile.TakenTile.whole.Goals as goal
use Rattle.frame_plan.proofs.tile.TakenTile.whole.Goals.{else-self-eq-TILE_SIDE-via-then-self-eq-TILE_SIDE+else-self-eq-TILE_SIDE-2, else-self-eq-TILE_SIDE-via-else-self-eq-TILE_SIDE}

pub returns-then-self-eq-TILE_SIDE-2-clause-pixels : goal.returns-then-self-eq-TILE_SIDE-2-clause-pixels
returns-then-self-eq-TILE_SIDE-2-clause-pixels c = let i = c.self.inside in
    all_of_tile i.tile i.w i.h c.if-self-eq-TILE_SIDE.true c.if-self-eq-TILE_SIDE-2.true c.recall_sized.ensures ∙ ap (λ (v : ℕ × List ℕ). v.1) c.self.view_is

pub returns-else-self-eq-TILE_SIDE-clause-whole : goal.returns-else-self-eq-TILE_SIDE-clause-whole
returns-else-self-eq-TILE_SIDE-clause-whole c = λ all.
    let i = c.self.inside in
    let sides : i.w * i.h ≡ 4096 = sym (part_length i.tile i.w i.h) ∙ ap (λ (v : ℕ × List ℕ). length v.1) c.self.view_is ∙ all in
    let wide = whole_is_wide i.w i.h c.self.invariant.0 c.self.invariant.1 sides in
    let high = whole_is_high i.w i.h c.self.invariant.0 c.self.invariant.1 sides in
    elim c.else-self-eq-TILE_SIDE.branch [
      | else-self-eq-TILE_SIDE-via-then-self-eq-TILE_SIDE+else-self-eq-TILE_SIDE-2 w ↦ absurd (omega (arith, high, w.if-self-eq-TILE_SIDE-2.false))
      | else-self-eq-TILE_SIDE-via-else-self-eq-TILE_SIDE w ↦ absurd (omega (arith, wide, w.if-self-eq-TILE_SIDE.false))
    ]
