-- The channels of a client ([MS-RDPBCGR] 2.2.1.4.4): the I/O channel 1003, its static virtual channels from 1004 on, and behind
-- them its user channel (profile).
use Rattle.std.specs.Prelude.{ℕ, ◌+◌, nat_le, Bool, ◌&&◌}

abbrev pub io_channel : ℕ
io_channel = 1003

-- the user channel of a client with so many static virtual channels
abbrev pub user_channel : ℕ → ℕ
user_channel channels = 1004 + channels

-- a static virtual channel, or the user channel
abbrev pub is_virtual_or_user : ℕ → ℕ → Bool
is_virtual_or_user channels channel = nat_le 1004 channel && nat_le channel (user_channel channels)
