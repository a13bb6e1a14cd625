-- Places, and the numbers of refusals.
use Rattle.std.specs.Prelude.{ℕ, ◌+◌, ◌-◌, ◌^◌, min, Result, Err}
use Rattle.conn_rules.specs.declared.refusal.Refusal.{Refusal}

-- the place so many bytes behind another one; it stands still at 2^64 - 1
abbrev pub place_behind : ℕ → ℕ → ℕ
place_behind from n = min (from + n) (2 ^ 64 - 1)

-- a refusal by its number at a place
abbrev pub refused : {A : Type 0} → ℕ → ℕ → Result A Refusal
refused k at = Err (record { k = k; at = at })

-- the packet's first byte is neither 3 nor, from the place of the Confirm Active on, that of the fast path
abbrev pub not_tpkt : {A : Type 0} → ℕ → Result A Refusal
not_tpkt at = refused 1 at

-- the X.224 header breaks its rule
abbrev pub bad_tpdu : {A : Type 0} → ℕ → Result A Refusal
bad_tpdu at = refused 3 at

-- the Connect-Initial breaks its rule
abbrev pub bad_ber : {A : Type 0} → ℕ → Result A Refusal
bad_ber at = refused 4 at

-- an MCS domain PDU breaks its rule, or isn't expected now
abbrev pub bad_domain : {A : Type 0} → ℕ → Result A Refusal
bad_domain at = refused 5 at

-- a join or data name a channel that isn't the client's, or another initiator, or data come before the joins
abbrev pub wrong_channel : {A : Type 0} → ℕ → Result A Refusal
wrong_channel at = refused 6 at

-- the client data break their rule; neither 24 nor 16 bits for each pixel are offered; there are more than 31 channels
abbrev pub bad_gcc : {A : Type 0} → ℕ → Result A Refusal
bad_gcc at = refused 7 at

abbrev pub depth_not_offered : {A : Type 0} → ℕ → Result A Refusal
depth_not_offered at = refused 8 at

abbrev pub too_many_channels : {A : Type 0} → ℕ → Result A Refusal
too_many_channels at = refused 9 at

-- the Client Info breaks its rule
abbrev pub bad_info : {A : Type 0} → ℕ → Result A Refusal
bad_info at = refused 10 at

-- a capability set breaks its rule
abbrev pub bad_caps : {A : Type 0} → ℕ → Result A Refusal
bad_caps at = refused 11 at

-- a share PDU breaks its rule, or isn't expected now; it is compressed
abbrev pub bad_share : {A : Type 0} → ℕ → Result A Refusal
bad_share at = refused 12 at

abbrev pub compressed : {A : Type 0} → ℕ → Result A Refusal
compressed at = refused 13 at

-- the events don't fit in the PDU, or in the fast-path packet; a flag bit of such a packet is set; one of its events has another code
abbrev pub bad_input : {A : Type 0} → ℕ → Result A Refusal
bad_input at = refused 14 at
