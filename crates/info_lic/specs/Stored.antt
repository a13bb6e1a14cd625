-- How a name is stored: its bytes, filled up with zeros.
use Rattle.std.specs.Prelude.{◌≡◌, ℕ, ◌-◌, List, ◌++◌, length, take, replicate}
use Rattle.info_lic.specs.Name.{IsName}

-- a name's bytes with the zeros after them
abbrev pub filled_up : List ℕ → List ℕ
filled_up bytes = bytes ++ replicate (64 - length bytes) 0

-- the first bytes are a name, and zeros follow it
pub record IsStored (stored : List ℕ) (count : ℕ) : Type 0 where
  pub name : IsName (take count stored)
  pub count_is : length (take count stored) ≡ count
  pub filled : stored ≡ filled_up (take count stored)
