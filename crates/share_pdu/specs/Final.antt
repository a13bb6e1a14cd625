-- The host's answers of the finalisation ([MS-RDPBCGR] 2.2.1.19 to 2.2.1.22), each a share data PDU.
use Rattle.std.specs.Prelude.{ℕ, List, [], ◌∷◌, ◌++◌}
use Rattle.byteorder.specs.Endian.{little_bytes}
use Rattle.share_pdu.specs.declared.finals.Final.{Final}
use Rattle.share_pdu.specs.declared.finals.Final.TheVariants.{Synchronize, Cooperate, Granted, FontMap}
use Rattle.share_pdu.specs.Share.{share_bytes}

-- pduType2: 1F Synchronize, 14 Control, 28 Font Map
abbrev pub final_kind : Final → ℕ
final_kind Synchronize = 0x1F
final_kind Cooperate = 0x14
final_kind Granted = 0x14
final_kind FontMap = 0x28

-- messageType, targetUser; action, grantId, controlId; numberEntries, totalNumEntries, mapFlags, entrySize
abbrev pub final_body : Final → ℕ → List ℕ
final_body Synchronize user = 1 ∷ 0 ∷ little_bytes 2 user
final_body Cooperate user = 4 ∷ 0 ∷ 0 ∷ 0 ∷ 0 ∷ 0 ∷ 0 ∷ 0 ∷ []
final_body Granted user = 2 ∷ 0 ∷ (little_bytes 2 user ++ (0xEA ∷ 3 ∷ 0 ∷ 0 ∷ []))
final_body FontMap user = 0 ∷ 0 ∷ 0 ∷ 0 ∷ 3 ∷ 0 ∷ 4 ∷ 0 ∷ []

-- the answer to the client of this user channel
abbrev pub final_bytes : Final → ℕ → List ℕ
final_bytes which user = share_bytes (final_kind which) (final_body which user)
