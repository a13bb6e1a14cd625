-- The updates of a host's bytes, which come in whole packets of two kinds: Send Data Indications on channel 1003 with a share data PDU of an update ([RFC 1006]
-- 6, [X.224] 13.7, [T.125] 11.33, [MS-RDPBCGR] 2.2.8.1.1.1 and 2.2.9.1.1), and, for a viewer that takes it, packets of the fast path ([MS-RDPBCGR] 2.2.9.1.2).
use Rattle.std.specs.Prelude.{ℕ, zero, suc, ◌+◌, ◌-◌, ◌*◌, ◌==◌, nat_lt, nat_le, Bool, true, false, ◌&&◌, List, [], ◌∷◌, ◌++◌, length, Option, Some}
use Rattle.std.specs.Prelude.{None, Ok, Err, if◌then◌else◌}
use Rattle.wire_num.specs.Field.{Read, then_read, map_read, bytes_at}
use Rattle.wire_num.specs.Number.{little_at}
use Rattle.share_pdu.specs.Share.{Within}
use Rattle.share_pdu.specs.Packet.{indication_at}
pub use Rattle.px_core.specs.Picture.{turned}

-- how far a packet has come: none has begun; one, two or three of its header bytes are there; so many bytes are missing after the next one, and those behind
-- the header are there, the latest first. Of a packet of the fast path its first byte is there; that and the first of two length bytes; or all header bytes, so
-- many are missing after the next one, and those behind the header are there, the latest first. Or the stream is refused at a place
pub data Stage : Type 0 where
  Between : Stage
  One : Stage
  Two : (second : ℕ) → Stage
  Three : (second high : ℕ) → Stage
  Inside : (missing second high low : ℕ) (front : List ℕ) → Stage
  Fast : Stage
  FastLong : (high : ℕ) → Stage
  FastInside : (missing : ℕ) (head front : List ℕ) → Stage
  Refused : (place : ℕ) → Stage

-- how an update came: with its type in its body, or in a packet of the fast path, by its code
pub data BodyForm : Type 0 where
  Slow : BodyForm
  FastOrders : BodyForm
  FastBitmap : BodyForm
  FastSynchronize : BodyForm

-- an update's body, or its data, and its place in the stream
pub record Body : Type 0 where
  pub place : ℕ
  pub form : BodyForm
  pub bytes : List ℕ

abbrev pub body_at : ℕ → BodyForm → List ℕ → Body
body_at place form bytes = record { place = place; form = form; bytes = bytes }

-- the place of the next byte, and how far its packet has come
pub record Cutting : Type 0 where
  pub place : ℕ
  pub stage : Stage

abbrev pub cutting : ℕ → Stage → Cutting
cutting place stage = record { place = place; stage = stage }

-- the bodies of a stretch of the stream, and how it goes on
pub record Updates : Type 0 where
  pub bodies : List Body
  pub next : Cutting

abbrev pub updates : List Body → Cutting → Updates
updates bodies next = record { bodies = bodies; next = next }

abbrev pub before_updates : List Body → Updates → Updates
before_updates bodies u = updates (bodies ++ u.bodies) u.next

abbrev pub stage_if : Bool → Stage → ℕ → Stage
stage_if true stage place = stage
stage_if false stage place = Refused place

-- a whole packet that ends before a place
abbrev pub whole_packet : ℕ → Read Within → Updates
whole_packet end (Ok v) = updates (body_at (end - v.0.behind) Slow v.0.bytes ∷ []) (cutting end Between)
whole_packet end (Err left) = updates [] (cutting end (Refused (end - length left)))

-- ---- a packet of the fast path

-- the form of an update's data, by its code with its bits of fragments and compression, which is one byte: orders, bitmap, synchronize
abbrev pub form_of : ℕ → Option BodyForm
form_of code = if code == 0 then Some FastOrders else (if code == 1 then Some FastBitmap else (if code == 3 then Some FastSynchronize else None))

-- size 2, and so many bytes of data
abbrev pub fast_data_at : Option BodyForm → List ℕ → List ℕ → Read (BodyForm × List ℕ)
fast_data_at None whole bs = Err whole
fast_data_at (Some form) whole bs = then_read (little_at 2 bs) (λ n a. map_read (λ data_. (form, data_)) (bytes_at n a))

-- code 1, size 2, data; another code is refused at it, and data that don't fit at their first byte
abbrev pub fast_update_at : List ℕ → Read (BodyForm × List ℕ)
fast_update_at bs = then_read (little_at 1 bs) (λ code a. fast_data_at (form_of code) bs a)

-- the data of an update of a packet that ends before a place, and the updates behind it
abbrev pub then_updates : ℕ → Read (BodyForm × List ℕ) → (List ℕ → Updates) → Updates
then_updates end (Ok v) others = before_updates (body_at (end - (length v.1 + length v.0.1)) v.0.0 v.0.1 ∷ []) (others v.1)
then_updates end (Err left) others = updates [] (cutting end (Refused (end - length left)))

-- the updates behind the first one, at most so many
abbrev pub more_updates : ℕ → ℕ → List ℕ → Updates
more_updates most end [] = updates [] (cutting end Between)
more_updates zero end (b ∷ bs) = updates [] (cutting end Between)
more_updates (suc most) end (b ∷ bs) = then_updates end (fast_update_at (b ∷ bs)) (more_updates most end)

-- what stands behind the header of a whole packet that ends before a place: one update at least, each looked at in its turn
abbrev pub whole_fast : ℕ → List ℕ → Updates
whole_fast end bs = then_updates end (fast_update_at bs) (more_updates (length bs) end)

-- so many bytes are to follow a header
abbrev pub fast_inside : ℕ → ℕ → List ℕ → Updates
fast_inside next zero head = whole_fast next []
fast_inside next (suc n) head = updates [] (cutting next (FastInside n head []))

-- a header that says the packet's length; a length below its own bytes is refused at a place
abbrev pub fast_begun : ℕ → ℕ → ℕ → List ℕ → Updates
fast_begun next place n head = if nat_lt n (length head) then updates [] (cutting next (Refused place)) else fast_inside next (n - length head) head

-- ---- byte by byte

-- a first byte of 3 begins a packet, and one of 0 where the viewer takes the fast path; another one is refused
abbrev pub first_stage : Bool → ℕ → ℕ → Stage
first_stage fast b place = if b == 3 then One else stage_if (fast && (b == 0)) Fast place

-- The updates of one byte. A length below 7 is refused at its first byte, and so is one of the fast path below the bytes of its header and itself; all else is
-- looked at where the packet is whole. A length of the fast path is one byte below 128, else two, the highest first, with the top bit set.
abbrev pub updates_by : Bool → ℕ → Stage → ℕ → Updates
updates_by fast at Between b = updates [] (cutting (at + 1) (first_stage fast b at))
updates_by fast at One b = updates [] (cutting (at + 1) (Two b))
updates_by fast at (Two second) b = updates [] (cutting (at + 1) (Three second b))
updates_by fast at (Three second high) b = updates []
    (cutting (at + 1) (stage_if (nat_le 7 (256 * high + b)) (Inside ((256 * high + b) - 5) second high b []) (at - 1)))
updates_by fast at (Inside zero second high low front) b = whole_packet (at + 1) (indication_at (turned front (b ∷ [])))
updates_by fast at (Inside (suc n) second high low front) b = updates [] (cutting (at + 1) (Inside n second high low (b ∷ front)))
updates_by fast at Fast b = if nat_lt b 128 then fast_begun (at + 1) at b (0 ∷ b ∷ []) else updates [] (cutting (at + 1) (FastLong b))
updates_by fast at (FastLong high) b = fast_begun (at + 1) (at - 1) (256 * (high - 128) + b) (0 ∷ high ∷ b ∷ [])
updates_by fast at (FastInside zero head front) b = whole_fast (at + 1) (turned front (b ∷ []))
updates_by fast at (FastInside (suc n) head front) b = updates [] (cutting (at + 1) (FastInside n head (b ∷ front)))
updates_by fast at (Refused place) b = updates [] (cutting (at + 1) (Refused place))

-- the updates of bytes, from where a stretch before them ended; the viewer takes the fast path or not
abbrev pub updates_from : Bool → Cutting → List ℕ → Updates
updates_from fast c [] = updates [] c
updates_from fast c (b ∷ bs) = let first = updates_by fast c.place c.stage b in before_updates first.bodies (updates_from fast first.next bs)

-- the updates of a host's bytes, with their places
abbrev pub updates_in : Bool → List ℕ → Updates
updates_in fast bytes = updates_from fast (cutting 0 Between) bytes

-- the bytes after the last whole packet
abbrev pub rest_of : Stage → List ℕ
rest_of Between = []
rest_of One = 3 ∷ []
rest_of (Two second) = 3 ∷ second ∷ []
rest_of (Three second high) = 3 ∷ second ∷ high ∷ []
rest_of (Inside missing second high low front) = 3 ∷ second ∷ high ∷ low ∷ turned front []
rest_of Fast = 0 ∷ []
rest_of (FastLong high) = 0 ∷ high ∷ []
rest_of (FastInside missing head front) = head ++ turned front []
rest_of (Refused place) = []

-- the place where a stream is refused
abbrev pub refusal_in : Stage → Option ℕ
refusal_in Between = None
refusal_in One = None
refusal_in (Two second) = None
refusal_in (Three second high) = None
refusal_in (Inside missing second high low front) = None
refusal_in Fast = None
refusal_in (FastLong high) = None
refusal_in (FastInside missing head front) = None
refusal_in (Refused place) = Some place
