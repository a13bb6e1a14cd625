-- The body of a tile's update fits into one packet, and its number is one of a picture's.
use Rattle.std.proofs.Common.{◌≡◌, ℕ, ◌*◌, ◌≤◌, ◌<◌, ◌∙◌, List, length, arith}
use Rattle.std.specs.Prelude.{Bool}
use Rattle.std.proofs.lemmas.Int.{ints, clamps}
use Rattle.px_core.specs.declared.depth.Depth.{Depth}
use Rattle.px_core.specs.Depth.{shown_colors}
use Rattle.px_core.specs.declared.surface.Size.{Size}
use Rattle.px_core.specs.declared.rectangle.Rect.{Rect}
use Rattle.px_core.specs.Tiles.{tile_on}
use Rattle.px_core.specs.Picture.{turned_over}
use Rattle.order_means.specs.UpdateBodies.{tile_body}
use Rattle.bitmap_upd.specs.Place.{IsUpdated}
use Rattle.frame_laws.proofs.TurnedOver.{length-turned_over}
use Rattle.frame_laws.proofs.WireBack.{data_short, length-shown}

pub tile_short : (depth : Depth) (no_header : Bool) (r : Rect) (pixels : List ℕ) → IsUpdated r → length pixels ≡ r.w * r.h → length (tile_body depth no_header r pixels) ≤ 12310
tile_short depth no_header r pixels u whole =
    let most = data_short depth no_header r.w (turned_over r.w r.h (shown_colors depth pixels)) in
    let n = length-turned_over r.w r.h (shown_colors depth pixels) (length-shown depth pixels ∙ whole) in
    let narrow = u.narrow in
    let low = u.low in
    let one : r.w * r.h ≤ 64 * r.h = grind (arith, narrow) in
    omega (arith, most, n, whole, one, low)

-- a tile that is updated is one of the greatest picture's
pub tile_below : (size : Size) (tile : ℕ) → IsUpdated (tile_on size tile) → tile < 1024
tile_below size tile u = let low = u.bottom in let tall = u.tall in omega (arith, ints, clamps, low, tall)
