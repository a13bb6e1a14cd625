use Rattle.std.proofs.Common.{◌≡◌, ◌-◌, ◌+◌, ◌*◌, ◌/◌, ℕ, List, [], ◌∷◌, ◌++◌, refl, ap, sym, ◌∙◌, arith, rules}
use Rattle.std.specs.Prelude.{◌&&◌}
use Rattle.std.proofs.lemmas.Bool.{and_parts}
use Rattle.px_core.specs.Rectangle.{has_pixel}
use Rattle.px_core.specs.Tiles.{either_tiles, tile_on}
use Rattle.px_core.specs.TileFlags.{tiles}
use Rattle.frame_plan.proofs.TileList.{tiles_from, cut_at, one_taken, none_taken}
use Rattle.frame_plan.proofs.tiles.tiles_due.Goals as goal
use Rattle.frame_plan.proofs.tiles.tiles_due.Goals.{then-is_taken+in_ok-push, else-is_taken}

pub loop-tile-init : goal.loop-tile-init
loop-tile-init c =
    let size = c.args.size in
    let set = either_tiles (tiles c.args.dirty.now) (tiles c.args.asked.now) in
    let end = c.tiles_end-tile-end.result in
    let none : c.new-due.result.items ≡ [] = search rules in
    let least : c.tiles_end-tile-end.result - 0 ≡ c.tiles_end-tile-end.result = omega arith in
    ap (λ (ts : List ℕ). ts ++ tiles_from size set (end - 0) 0) none ∙ ap (λ n. tiles_from size set n 0) least
    ∙ cut_at size set end (32 * ((size.h + 63) / 64)) 0 c.tiles_end-tile-end.ensures.within
    (λ t a b. c.tiles_end-tile-end.ensures.ends t (omega (arith, a)) (omega (arith, b)))

pub loop-tile-preserved : goal.loop-tile-preserved
loop-tile-preserved c =
    let size = c.args.size in
    let set = either_tiles (tiles c.args.dirty.now) (tiles c.args.asked.now) in
    let n = c.tiles_end-tile-end.result in
    let k = c.loop-tile.tile in
    let rest = tiles_from c.args.size (either_tiles (tiles c.args.dirty.now) (tiles c.args.asked.now)) (c.tiles_end-tile-end.result - (c.loop-tile.tile + 1)) (c.loop-tile.tile + 1) in
    let is : c.is_taken.result ≡ (has_pixel (tile_on c.args.size c.loop-tile.tile)
    && either_tiles (tiles c.args.dirty.now) (tiles c.args.asked.now) c.loop-tile.tile) = search rules in
    elim c.if-is_taken.branch [
      | then-is_taken+in_ok-push w ↦
          let both = and_parts (has_pixel (tile_on size k)) (set k) (sym is ∙ w.if-is_taken.true) in
          let items : c.if-is_taken.due.items ≡ c.loop-tile.due.items ++ c.loop-tile.tile ∷ [] = search rules in
          ap (λ (ts : List ℕ). ts ++ rest) items ∙ one_taken size set n k c.loop-tile.due.items _ c.loop-tile-test.true both.0 both.1 c.loop-tile.invariant
      | else-is_taken w ↦
          ap (λ (ts : List ℕ). ts ++ rest) (ap (λ v. v.items) w.due-is)
          ∙ none_taken size set n k c.loop-tile.due.items _ (has_pixel (tile_on size k)) (set k) c.loop-tile-test.true refl refl
          (sym is ∙ w.if-is_taken.false) c.loop-tile.invariant
    ]
