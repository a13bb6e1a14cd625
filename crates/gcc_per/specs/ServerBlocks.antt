-- The server's data blocks ([MS-RDPBCGR] 2.2.1.4.2 to 2.2.1.4.4).
use Rattle.std.specs.Prelude.{ℕ, zero, suc, ◌+◌, ◌*◌, ◌%◌, List, [], ◌++◌, length, replicate}
use Rattle.byteorder.specs.Endian.{little_bytes}

-- type; length, with this header; content
abbrev pub server_block : ℕ → List ℕ → List ℕ
server_block type content = little_bytes 2 type ++ (little_bytes 2 (4 + length content) ++ content)

-- SC_CORE, 0C01: version 0008 0004; clientRequestedProtocols
abbrev pub server_core : ℕ → List ℕ
server_core asked = server_block 3073 (little_bytes 4 524292 ++ little_bytes 4 asked)

-- so many channel ids from one on
abbrev pub channel_ids : ℕ → ℕ → List ℕ
channel_ids first zero = []
channel_ids first (suc n) = little_bytes 2 first ++ channel_ids (suc first) n

-- two zero bytes after an odd number of channels
abbrev pub padding : ℕ → List ℕ
padding channels = replicate (2 * (channels % 2)) 0

-- SC_NET, 0C03: the I/O channel, 1003; channelCount; channelIdArray, from 1004; Pad
abbrev pub server_network : ℕ → List ℕ
server_network channels =
    server_block 3075 (little_bytes 2 1003 ++ (little_bytes 2 channels ++ (channel_ids 1004 channels ++ padding channels)))

-- its length
abbrev pub network_length : ℕ → ℕ
network_length channels = 8 + 2 * channels + 2 * (channels % 2)

-- what stands before the ids in it
abbrev pub network_headers : ℕ → List ℕ
network_headers channels =
    little_bytes 2 3075 ++ (little_bytes 2 (network_length channels) ++ (little_bytes 2 1003 ++ little_bytes 2 channels))

-- SC_SECURITY, 0C02: no encryption, by method 0 and level 0
abbrev pub server_security : List ℕ
server_security = server_block 3074 (little_bytes 4 0 ++ little_bytes 4 0)

-- in this order (profile)
abbrev pub server_blocks : ℕ → ℕ → List ℕ
server_blocks channels asked = server_core asked ++ (server_network channels ++ server_security)
