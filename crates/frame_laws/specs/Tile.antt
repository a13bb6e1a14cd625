-- A tile on the wire: the rectangles that tiles have, and what a client shows after one.
use Rattle.std.specs.Prelude.{◌≡◌, ℕ, ◌+◌, ◌%◌, ◌<◌, ◌≤◌, true, List, pos, ◌≤ℤ◌}
use Rattle.px_core.specs.declared.surface.Size.{Size}
use Rattle.px_core.specs.declared.rectangle.Rect.{Rect}
use Rattle.px_core.specs.Picture.{nat_of, rows_of, painted}
use Rattle.px_core.specs.Rectangle.{in_rect, is_inside}
use Rattle.rop3_core.specs.Palette.{client_colors}
use Rattle.draw_ops.specs.Formulas.{replaced, imaged}
use Rattle.order_means.specs.FrameMarks.{View}

-- a rectangle that a tile may have
pub record IsTileRect (size : Size) (r : Rect) : Type 0 where
  pub left : pos 0 ≤ℤ r.x
  pub top : pos 0 ≤ℤ r.y
  pub x_fits : nat_of r.x + r.w < 65536
  pub y_fits : nat_of r.y + r.h < 65536
  pub wide : 0 < r.w
  pub high : 0 < r.h
  pub narrow : r.w ≤ 64
  pub low : r.h ≤ 64
  pub four : r.w % 4 ≡ 0
  pub inside : is_inside size r ≡ true

-- the view after a rectangle was sent, with pixels as they are shown at the view's depth
abbrev pub view_after_cut : Size → View → Rect → List ℕ → View
view_after_cut size v r pixels = record v {
  client = record v.client { picture = painted size (in_rect r) (replaced (imaged client_colors (rows_of r.w r.h pixels) r (pos 0) (pos 0))) v.client.picture };
  tiles = v.tiles + 1;
}
