-- Saved blocks as the code tests them.
use Rattle.std.specs.Prelude.{ℕ, ◌-◌, ◌^◌, min, ◌==◌, Bool, ◌&&◌}
use Rattle.order_means.specs.ClientState.{Block}

-- a number that is kept in 64 bits
abbrev pub capped : ℕ → ℕ
capped n = min n (2 ^ 64 - 1)

-- a block of just this position and these sides
abbrev pub is_that : ℕ → ℕ → ℕ → Block → Bool
is_that position w h b = (b.position == position) && ((b.w == w) && (b.h == h))
