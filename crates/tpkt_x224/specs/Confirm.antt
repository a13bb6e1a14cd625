-- The X.224 Connection Confirm (X.224, 13.4; MS-RDPBCGR, 2.2.1.2).
use Rattle.std.specs.Prelude.{ℕ, List, [], ◌∷◌, ◌++◌, length, Option, Some, None}
use Rattle.byteorder.specs.Endian.{big_bytes}
use Rattle.tpkt_x224.specs.declared.request.Request.{Request}
use Rattle.tpkt_x224.specs.Tpkt.{packet_of}

-- a negotiation response: type, flags, length, standard RDP security (MS-RDPBCGR, 2.2.1.2.1)
abbrev pub negotiation_response : Option ℕ → List ℕ
negotiation_response None = []
negotiation_response (Some asked) = 2 ∷ 0 ∷ 8 ∷ 0 ∷ 0 ∷ 0 ∷ 0 ∷ 0 ∷ []

-- code; destination reference, which is the request's source; source reference; class
abbrev pub confirm_header : Request → List ℕ
confirm_header request = (208 ∷ big_bytes 2 request.reference) ++ (18 ∷ 52 ∷ 0 ∷ [])

-- a length indicator counts the bytes after it
abbrev pub with_indicator : List ℕ → List ℕ
with_indicator bytes = length bytes ∷ bytes

-- the answer to a request, as a whole packet
abbrev pub confirm_of : Request → List ℕ
confirm_of request = packet_of (with_indicator (confirm_header request ++ negotiation_response request.asked))
