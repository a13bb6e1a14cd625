-- Where the pen of a text may stand.
use Rattle.std.specs.Prelude.{ℤ, pos, negsuc, ◌≤ℤ◌}

-- the pen stands where a text may begin, seen from the picture or from one of its tiles
pub record IsPenAtStart (x y : ℤ) : Type 0 where
  pub left : negsuc 6079 ≤ℤ x
  pub right : x ≤ℤ pos 4095
  pub above : negsuc 6079 ≤ℤ y
  pub below : y ≤ℤ pos 4095
