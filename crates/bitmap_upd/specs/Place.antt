-- Which rectangles go as bitmap updates.
use Rattle.std.specs.Prelude.{◌≡◌, ◌≤◌, ◌%◌, pos, ◌+ℤ◌, ◌≤ℤ◌}
use Rattle.px_core.specs.declared.rectangle.Rect.{Rect}

-- a rectangle of 1 to 64 columns and rows that lies between 0 and 2,047 both ways, with a width of a multiple of four
pub record IsUpdated (r : Rect) : Type 0 where
  pub left : pos 0 ≤ℤ r.x
  pub top : pos 0 ≤ℤ r.y
  pub right : (r.x +ℤ pos r.w) ≤ℤ pos 2048
  pub bottom : (r.y +ℤ pos r.h) ≤ℤ pos 2048
  pub wide : 1 ≤ r.w
  pub narrow : r.w ≤ 64
  pub fours : r.w % 4 ≡ 0
  pub tall : 1 ≤ r.h
  pub low : r.h ≤ 64
