-- What stands before the data of a viewer's packets.
use Rattle.std.specs.Prelude.{ℕ, ◌+◌, List, [], ◌∷◌, ◌++◌, length, replicate}
use Rattle.byteorder.specs.Endian.{little_bytes, big_bytes}
use Rattle.wire_num.specs.Length.{per_len_of}
use Rattle.tpkt_x224.specs.Data.{data_header}
use Rattle.mcs_dom.specs.User.{user_bytes}
use Rattle.caps_sets.specs.declared.confirmed.Confirmed.{Confirmed}
use Rattle.caps_sets.specs.DemandActive.{numbers, flag}
use Rattle.viewer_rules.specs.ClientPackets.{number_if, order_flags}

-- TPKT header; X.224 Data header; choice; initiator; channelId; priority and segmentation; length of so many bytes
unfoldable pub request_headers : ℕ → ℕ → List ℕ
request_headers user n = (3 ∷ 0 ∷ big_bytes 2 (13 + length (per_len_of n) + n)) ++ (data_header ++ ((100 ∷ user_bytes user) ++ (3 ∷ 235 ∷ 112 ∷ per_len_of n)))

-- Confirm Active up to its sets: totalLength; pduType; pduSource; shareId; originatorId; lengthSourceDescriptor; lengthCombinedCapabilities; sourceDescriptor;
-- numberCapabilities; pad2Octets
abbrev pub confirm_start : ℕ → List ℕ
confirm_start user = numbers (246 ∷ 19 ∷ user ∷ [])
    ++ (little_bytes 4 66538 ++ (numbers (1002 ∷ 4 ∷ 226 ∷ []) ++ ((82 ∷ 68 ∷ 80 ∷ 0 ∷ []) ++ numbers (6 ∷ 0 ∷ []))))

-- a share data PDU up to its body of so many bytes: totalLength; pduType; pduSource; shareId; pad1; streamId; uncompressedLength; pduType2; compressedType;
-- compressedLength
abbrev pub share_headers : ℕ → ℕ → ℕ → List ℕ
share_headers user kind n =
    little_bytes 2 (18 + n) ++ (23 ∷ 0 ∷ (little_bytes 2 user ++ (234 ∷ 3 ∷ 1 ∷ 0 ∷ 0 ∷ 1 ∷ (little_bytes 2 (4 + n) ++ (kind ∷ 0 ∷ 0 ∷ 0 ∷ [])))))

-- the Order set up to the support of Mem3Blt orders, and the rest of it
abbrev pub order_start : Confirmed → List ℕ
order_start c = (3 ∷ 0 ∷ 88 ∷ 0 ∷ replicate 30 0) ++ (little_bytes 2 (order_flags c) ++ (flag c.dst ∷ flag c.pat ∷ flag c.scr ∷ flag c.mem ∷ flag c.mem3 ∷ []))

abbrev pub order_end : Confirmed → List ℕ
order_end c =
    (replicate 6 0 ++ (flag c.save ∷ [])) ++ (replicate 15 0 ++ ((flag c.glyph ∷ replicate 6 0) ++ (little_bytes 2 (number_if c.marker 4) ++ replicate 16 0)))
