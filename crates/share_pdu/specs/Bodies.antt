-- The bodies of a client's share data PDUs that are read ([MS-RDPBCGR] 2.2.1.14, 2.2.1.15, 2.2.11.2 and 2.2.11.3), each behind the
-- share data header. What follows the fields named here isn't read.
use Rattle.std.specs.Prelude.{◌≡◌, ℕ, zero, suc, ◌-◌, ◌+◌, ◌==◌, nat_lt, Bool, ◌||◌, pos, List, [], ◌∷◌, ◌++◌, slice_index, Option, Some, None}
use Rattle.std.specs.Prelude.{option_to_list, Result, Ok, Err, IsOk, if◌then◌else◌}
use Rattle.wire_num.specs.Field.{Read, then_read, map_read}
use Rattle.wire_num.specs.FieldValue.{is_any}
use Rattle.wire_num.specs.Layout.{Layout, Open, Any, Big, Bytes, Little, ◌▸◌, fields_at}
use Rattle.wire_num.specs.declared.short.Short.{Short}
use Rattle.wire_num.specs.Cursor.{CursorOf, rest}
use Rattle.px_core.specs.declared.rectangle.Rect.{Rect}
use Rattle.share_pdu.specs.declared.client_pdu.ClientPdu.{ClientPdu}
use Rattle.share_pdu.specs.declared.client_pdu.ClientPdu.TheVariants.{Cooperate, Request}

-- messageType SYNCMSGTYPE_SYNC; targetUser
unfoldable pub synchronize_body : Layout
synchronize_body =
    Bytes (1 ∷ 0 ∷ [])
    ▸ Any 2
    ▸ Open

-- of a client: CTRLACTION_REQUEST_CONTROL 1 or CTRLACTION_COOPERATE 4
abbrev pub is_client_action : ℕ → Bool
is_client_action action = (action == 1) || (action == 4)

-- action; grantId; controlId
unfoldable pub control_body : Layout
control_body =
    Little 2 is_client_action
    ▸ Any 2
    ▸ Any 4
    ▸ Open

abbrev pub pdu_of_action : ℕ → ClientPdu
pdu_of_action action = if action == 4 then Cooperate else Request

-- allowDisplayUpdates; pad3Octets; what follows, a rectangle, isn't read
unfoldable pub suppress_body : Layout
suppress_body =
    Big 1 is_any
    ▸ Any 3
    ▸ Open

-- SUPPRESS_DISPLAY_UPDATES is 0
abbrev pub is_stop : List ℕ → Bool
is_stop values = slice_index values 0 == 0

-- ---- Refresh Rect

-- numberOfAreas; pad3Octets
unfoldable pub refresh_header : Layout
refresh_header =
    Big 1 is_any
    ▸ Any 3
    ▸ Open

-- left; top; right; bottom, both inclusive
unfoldable pub inclusive_area : Layout
inclusive_area =
    Little 2 is_any
    ▸ Little 2 is_any
    ▸ Little 2 is_any
    ▸ Little 2 is_any
    ▸ Open

-- an area whose right or bottom is less than its left or top is none
abbrev pub rect_between : ℕ → ℕ → ℕ → ℕ → Option Rect
rect_between left top right bottom =
    if nat_lt right left || nat_lt bottom top then None
    else Some (record { x = pos left; y = pos top; w = right - left + 1; h = bottom - top + 1 })

abbrev pub rect_of : List ℕ → Option Rect
rect_of values = rect_between (slice_index values 0) (slice_index values 1) (slice_index values 2) (slice_index values 3)

unfoldable pub area_at : List ℕ → Read (Option Rect)
area_at bs = map_read rect_of (fields_at inclusive_area bs)

-- so many areas; those that are none are skipped
abbrev pub areas_at : ℕ → List ℕ → Read (List Rect)
areas_at zero bs = Ok ([], bs)
areas_at (suc n) bs = then_read (area_at bs) (λ area more. map_read (λ areas. option_to_list area ++ areas) (areas_at n more))

-- a body
unfoldable pub refresh_at : List ℕ → Read (List Rect)
refresh_at bs = then_read (fields_at refresh_header bs) (λ values more. areas_at (slice_index values 0) more)

-- the areas of a body; bytes that are no body have none
abbrev pub areas_by : Read (List Rect) → List Rect
areas_by (Ok v) = v.0
areas_by (Err left) = []

abbrev pub areas_of : List ℕ → List Rect
areas_of bs = areas_by (refresh_at bs)

-- ---- what calls say that go over areas

-- so many areas, whatever they are; a body, whatever its areas are
abbrev pub passed_areas_at : ℕ → List ℕ → Read (List ℕ)
passed_areas_at n bs = map_read (λ _. []) (areas_at n bs)

unfoldable pub passed_refresh_at : List ℕ → Read (List ℕ)
passed_refresh_at bs = then_read (fields_at refresh_header bs) (λ values more. passed_areas_at (slice_index values 0) more)

-- the number of areas, all of which are there, was read; or the bytes are no Refresh Rect, and the cursor stands at what isn't there
abbrev pub FindsAreas : Result ℕ Short → CursorOf → CursorOf → Type 0
FindsAreas (Ok count) old new =
    (refresh_at (rest old) ≡ areas_at count (rest new)) × IsOk (areas_at count (rest new)) × (new.bytes ≡ old.bytes)
FindsAreas (Err short) old new = (refresh_at (rest old) ≡ Err (rest new)) × (new.bytes ≡ old.bytes) × (short.at ≡ new.at)
