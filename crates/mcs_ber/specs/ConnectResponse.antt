-- The MCS Connect-Response (T.125, 7, Connect-Response; MS-RDPBCGR, 2.2.1.4).
use Rattle.std.specs.Prelude.{ℕ, ◌+◌, List, [], ◌∷◌, ◌++◌, length}
use Rattle.byteorder.specs.Endian.{big_bytes}
use Rattle.wire_num.specs.Length.{ber_len_of}
use Rattle.tpkt_x224.specs.Data.{data_header, data_packet}

-- a tag, the length of the content, and the content (X.690, 8.1.1)
abbrev pub tagged : List ℕ → List ℕ → List ℕ
tagged tag content = tag ++ (ber_len_of (length content) ++ content)

abbrev pub integer_of : List ℕ → List ℕ
integer_of bytes = tagged (2 ∷ []) bytes

-- 34 channels, 3 users, no tokens, 1 priority, throughput 0, height 1, PDUs of 65,528 bytes, version 2
abbrev pub host_parameters : List ℕ
host_parameters =
    integer_of (34 ∷ []) ++ (integer_of (3 ∷ []) ++ (integer_of (0 ∷ []) ++ (integer_of (1 ∷ []) ++ (
    integer_of (0 ∷ []) ++ (integer_of (1 ∷ []) ++ (integer_of (0 ∷ 255 ∷ 248 ∷ []) ++ integer_of (2 ∷ [])))))))

-- result, rt-successful; calledConnectId, 0; domainParameters
abbrev pub response_fields : List ℕ
response_fields = tagged (10 ∷ []) (0 ∷ []) ++ (tagged (2 ∷ []) (0 ∷ []) ++ tagged (48 ∷ []) host_parameters)

abbrev pub response_content : List ℕ → List ℕ
response_content user = response_fields ++ tagged (4 ∷ []) user

-- what stands before content of so many bytes in a whole packet: TPKT and X.224, then the tag and the length
unfoldable pub response_headers : ℕ → List ℕ
response_headers n =
    (3 ∷ 0 ∷ big_bytes 2 (9 + length (ber_len_of n) + n)) ++ (data_header ++ ((127 ∷ 102 ∷ []) ++ ber_len_of n))

unfoldable pub connect_response : List ℕ → List ℕ
connect_response user = data_packet (tagged (127 ∷ 102 ∷ []) (response_content user))
