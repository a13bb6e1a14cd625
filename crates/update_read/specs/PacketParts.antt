-- Parts of an update's packet, and of one of another kind up to its kind.
use Rattle.std.specs.Prelude.{◌≡◌, ◌≤◌, ℕ, ◌+◌, ◌-◌, ◌==◌, nat_le, ◌&&◌, List, [], length, take, drop, Result, Ok, Err}
use Rattle.wire_num.specs.Field.{Read, then_read, given, kept, taken}
use Rattle.wire_num.specs.Number.{little_at}
use Rattle.wire_num.specs.Length.{per_len_at}
use Rattle.wire_num.specs.Cursor.{CursorOf, rest}
use Rattle.wire_num.specs.declared.short.Short.{Short}
use Rattle.wire_num.specs.declared.range.Range.{Range}
use Rattle.tpkt_x224.specs.Tpkt.{packet_at}
use Rattle.share_pdu.specs.Share.{Within}
use Rattle.order_means.specs.PointerPackets.{mcs_at, indicated_at, is_all}

-- the length of the user data, which counts all that is left
abbrev pub count_at : List ℕ → Read (List ℕ)
count_at bs = then_read (per_len_at bs) (λ n a. given (length a == n) [] a a)

-- the headers of a packet up to the share data PDU
abbrev pub front_at : List ℕ → Read (List ℕ)
front_at bs = then_read (mcs_at bs) (λ mcs a. count_at a)

-- what stands within a total, which is at least 6 and at most what is there
abbrev pub total_at : List ℕ → Read (List ℕ)
total_at bs = then_read (little_at 2 bs) (λ total a. kept (nat_le 6 total && nat_le total (length bs)) (taken bs (total - 2) a) bs)

-- a part of a slice, which ends where a cursor stands then
pub record IsPart (content old new : CursorOf) : Type 0 where
  pub bytes : content.bytes ≡ take new.at old.bytes
  pub ordered : content.at ≤ new.at
  pub inside : new.at ≤ length old.bytes

-- the call found an update's body at that part of the slice
pub record IsBody (read : List ℕ → Read Within) (part : Range) (old new : CursorOf) : Type 0 where
  pub within : Within
  pub after : List ℕ
  pub stands : read (rest old) ≡ Ok (within, after)
  pub bytes : within.bytes ≡ take (part.to - part.from) (drop part.from old.bytes)
  pub behind : within.behind + part.from ≡ length old.bytes
  pub ordered : part.from ≤ part.to
  pub inside : part.to ≤ length old.bytes
  pub same : new.bytes ≡ old.bytes

-- the call found an update's body, or it came to a field that is refused, and the cursor stands there
abbrev pub ReadsBody : (List ℕ → Read Within) → Result Range Short → CursorOf → CursorOf → Type 0
ReadsBody read (Ok part) old new = IsBody read part old new
ReadsBody read (Err short) old new = (read (rest old) ≡ Err (rest new)) × (new.bytes ≡ old.bytes) × (short.at ≡ new.at)

-- ---- by kind

-- what stands in a packet of a kind behind the kind, to the end of the PDU's total, and behind that; refused where the bytes are no such packet
abbrev pub packet_content : ℕ → List ℕ → Read (List ℕ)
packet_content kind packet = kept (is_all (packet_at packet) (length packet)) (indicated_at kind (drop 4 packet)) packet

-- a cursor at what stands behind the kind, which ends with the total
pub record IsContent (packet : List ℕ) (found : Read (List ℕ)) (content : CursorOf) : Type 0 where
  pub end : ℕ
  pub inside : end ≤ length packet
  pub bytes : content.bytes ≡ take end packet
  pub stands : found ≡ Ok (rest content, drop end packet)

-- the call found such a cursor, or it is no packet of that kind
abbrev pub FindsContent : List ℕ → Read (List ℕ) → Result CursorOf Short → Type 0
FindsContent packet found (Ok content) = IsContent packet found content
FindsContent packet found (Err short) = (left : List ℕ) × (found ≡ Err left)
