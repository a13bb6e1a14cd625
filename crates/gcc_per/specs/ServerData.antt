-- The GCC Conference Create Response (T.124, 8.7; [MS-RDPBCGR] 2.2.1.4): the key of T.124, the response with its fixed
-- choices, and the server's data blocks as its user data.
use Rattle.std.specs.Prelude.{ℕ, ◌+◌, List, [], ◌∷◌, ◌++◌, length}
use Rattle.wire_num.specs.Length.{per_len_of}
use Rattle.gcc_per.specs.ServerBlocks.{server_blocks}

-- a packed length, and so many bytes
abbrev pub counted : List ℕ → List ℕ
counted content = per_len_of (length content) ++ content

-- the key, object 0.0.20.124.0.1
abbrev pub t124_key : List ℕ
t124_key = 0 ∷ 5 ∷ 0 ∷ 20 ∷ 124 ∷ 0 ∷ 1 ∷ []

-- conferenceCreateResponse: node 31219, tag 1, success, one set of user data
abbrev pub response_fields : List ℕ
response_fields = 20 ∷ 118 ∷ 10 ∷ 1 ∷ 1 ∷ 0 ∷ 1 ∷ 192 ∷ 0 ∷ []

-- the server's key, "McDn"
abbrev pub server_key : List ℕ
server_key = 77 ∷ 99 ∷ 68 ∷ 110 ∷ []

-- the whole, for a client with so many channels that asked for these protocols
unfoldable pub create_response : ℕ → ℕ → List ℕ
create_response channels asked = t124_key ++ counted (response_fields ++ (server_key ++ counted (server_blocks channels asked)))

-- what stands before server blocks of so many bytes
unfoldable pub response_headers : ℕ → List ℕ
response_headers n =
    t124_key ++ (per_len_of (13 + length (per_len_of n) + n) ++ (response_fields ++ (server_key ++ per_len_of n)))
