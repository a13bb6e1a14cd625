-- User channels (T.125, 7: UserId): a number from 1001 on, written as what it is above it, in two bytes.
use Rattle.std.specs.Prelude.{ℕ, ◌-◌, Bool, List}
use Rattle.byteorder.specs.Endian.{big_bytes}
use Rattle.wire_num.specs.FieldValue.{is_at_most}

abbrev pub first_user : ℕ
first_user = 1001

-- its number is below 65,536
abbrev pub is_user : ℕ → Bool
is_user above = is_at_most 64534 above

abbrev pub user_bytes : ℕ → List ℕ
user_bytes user = big_bytes 2 (user - first_user)
