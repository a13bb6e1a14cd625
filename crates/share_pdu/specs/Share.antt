-- A share data PDU of the host, written and read ([MS-RDPBCGR] 2.2.8.1.1.1), among them that of an update (2.2.9.1.1).
use Rattle.std.specs.Prelude.{ℕ, ◌+◌, ◌-◌, ◌%◌, ◌==◌, nat_le, Bool, ◌&&◌, List, [], ◌∷◌, ◌++◌, length, Ok, Err}
use Rattle.byteorder.specs.Endian.{little_bytes}
use Rattle.wire_num.specs.Field.{Read, then_read, taken, bytes_at, given, kept, wanted}
use Rattle.wire_num.specs.Number.{little_at}

-- ---- written

-- the headers before a body of n bytes: total length, type 7, source 1002; share id, pad, stream 1, uncompressed length, pduType2, compression type and length
-- 0
abbrev pub data_headers : ℕ → ℕ → List ℕ
data_headers kind n = little_bytes 2 (18 + n) ++ (0x17 ∷ 0 ∷ 0xEA ∷ 3 ∷ 0xEA ∷ 3 ∷ 1 ∷ 0 ∷ 0 ∷ 1 ∷ (little_bytes 2 (4 + n) ++ kind ∷ 0 ∷ 0 ∷ 0 ∷ []))

-- the share data PDU of this pduType2 with this body
abbrev pub share_bytes : ℕ → List ℕ → List ℕ
share_bytes kind body = data_headers kind (length body) ++ body

-- ---- read

-- an update's body, and how many bytes of its packet stand from its first byte on
pub record Within : Type 0 where
  pub bytes : List ℕ
  pub behind : ℕ

-- a field of n bytes, whose first one passes the test
abbrev pub tested : (ℕ → Bool) → List ℕ → List ℕ → List ℕ → Read (List ℕ)
tested test whole [] rest = Err whole
tested test whole (b ∷ bs) rest = given (test b) (b ∷ bs) rest whole

abbrev pub tested_at : ℕ → (ℕ → Bool) → List ℕ → Read (List ℕ)
tested_at n test bs = then_read (bytes_at n bs) (λ field rest. tested test bs field rest)

-- the headers behind the total of a PDU of this pduType2: pduType 2 (low four bits 7), source 2; shareId 4, pad 1, stream 1, uncompressed length 2, pduType2 1,
-- compressed type 1 (00), compressed length 2
abbrev pub data_headers_at : ℕ → List ℕ → Read (List ℕ)
data_headers_at kind bs =
    then_read (tested_at 2 (λ b. b % 16 == 7) bs)
    (λ type a. then_read (bytes_at 2 a) (λ source b. then_read (bytes_at 4 b) (λ share c. then_read (bytes_at 1 c) (λ pad d.
    then_read (bytes_at 1 d) (λ stream e. then_read (bytes_at 2 e)
    (λ count f. then_read (wanted (kind ∷ []) f) (λ update g. then_read (wanted (0 ∷ []) g) (λ compressed h. bytes_at 2 h))))))))

-- those of an update
abbrev pub headers_at : List ℕ → Read (List ℕ)
headers_at bs = data_headers_at 2 bs

-- the body within a total, and what stands behind it in the packet; a header that doesn't fit in the total is refused at its first field that doesn't
abbrev pub body_within : Read (List ℕ) → List ℕ → Read Within
body_within (Ok v) after = Ok (record { bytes = v.1; behind = length (v.1 ++ after) }, after)
body_within (Err left) after = Err (left ++ after)

-- a share data PDU of this pduType2: its total is at least 6 and at most what is there, and bytes behind it are dropped
abbrev pub data_at : ℕ → List ℕ → Read Within
data_at kind bs =
    then_read (little_at 2 bs) (λ total a. then_read (kept (nat_le 6 total
    && nat_le total (length bs)) (taken bs (total - 2) a) bs) (λ inside after. body_within (data_headers_at kind inside) after))

-- that of an update
abbrev pub share_at : List ℕ → Read Within
share_at bs = data_at 2 bs
