-- The license error message that ends licensing ([MS-RDPBCGR] 2.2.1.12): the client is valid.
use Rattle.std.specs.Prelude.{ℕ, List, ◌∷◌, ◌++◌}
use Rattle.byteorder.specs.Endian.{little_bytes}

-- flags of the security header, SEC_LICENSE_PKT; flagsHi; bMsgType, ERROR_ALERT; flags, PREAMBLE_VERSION_3_0; wMsgSize;
-- dwErrorCode, STATUS_VALID_CLIENT; dwStateTransition, ST_NO_TRANSITION; wBlobType, BB_ERROR_BLOB; wBlobLen
abbrev pub licence : List ℕ
licence =
    little_bytes 2 128 ++ (little_bytes 2 0
    ++ (255 ∷ 3 ∷ (little_bytes 2 16 ++ (little_bytes 4 7 ++ (little_bytes 4 2 ++ (little_bytes 2 4 ++ little_bytes 2 0))))))
