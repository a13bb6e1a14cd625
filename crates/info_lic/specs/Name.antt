-- What a name may be.
use Rattle.std.specs.Prelude.{ℕ, ◌≤◌, List, length}
use Rattle.std.specs.Str.{IsAscii}

-- at most 64 bytes, all ASCII (profile)
pub record IsName (bytes : List ℕ) : Type 0 where
  pub short : length bytes ≤ 64
  pub ascii : IsAscii bytes
