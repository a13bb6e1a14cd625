-- The X.224 Connection Request (X.224, 13.3; MS-RDPBCGR, 2.2.1.1).
use Rattle.std.specs.Prelude.{ℕ, ◌==◌, ◌&&◌, nat_le, List, [], ◌∷◌, length, drop, slice_index, Option, Some, None, Result, Ok, if◌then◌else◌}
use Rattle.byteorder.specs.Endian.{little_number}
use Rattle.wire_num.specs.FieldValue.{placed, is_any}
use Rattle.wire_num.specs.Field.{then_read}
use Rattle.wire_num.specs.Layout.{Layout, Open, Bytes, Any, Big, CountsRest, AtLeast, ◌▸◌, fields_at}
use Rattle.tpkt_x224.specs.declared.request.Request.{Request}
use Rattle.tpkt_x224.specs.declared.bad_tpdu.BadTpdu.{BadTpdu}

-- destination reference, source reference, class
unfoldable pub references : Layout
references =
    AtLeast 5
    ▸ Any 2
    ▸ Big 2 is_any
    ▸ Any 1
    ▸ Open

-- TPKT header, length indicator, code
unfoldable pub request_header : Layout
request_header =
    AtLeast 4
    ▸ Any 4
    ▸ CountsRest
    ▸ Bytes (224 ∷ [])
    ▸ references

-- the bytes after the first carriage return and line feed
abbrev pub after_line : List ℕ → List ℕ
after_line [] = []
after_line (b ∷ bs) = if (b == 13) && (slice_index bs 0 == 10) then drop 1 bs else after_line bs

-- the bytes after the cookie, which is there where the next byte isn't the type of a negotiation request
unfoldable pub after_cookie : List ℕ → List ℕ
after_cookie bs = if slice_index bs 0 == 1 then bs else after_line bs

-- the requested protocols of a negotiation request: type, flags, length, protocols (MS-RDPBCGR, 2.2.1.1.1)
unfoldable pub asked_protocols : List ℕ → Option ℕ
asked_protocols bs =
    if nat_le 8 (length bs) && (slice_index bs 0 == 1) then Some (little_number 4 (drop 4 bs)) else None

-- the header's source reference, and what is asked for behind the header
abbrev pub request_in : List ℕ → List ℕ → Request
request_in values bs = record { reference = slice_index values 0; asked = asked_protocols (after_cookie bs) }

-- the request of a whole packet
abbrev pub request_of : List ℕ → Result Request BadTpdu
request_of packet =
    placed (λ at. record { at = at }) packet
    (then_read (fields_at request_header packet) (λ values bs. Ok (request_in values bs, [])))
