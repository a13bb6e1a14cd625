-- What a viewer makes of the bounds of orders. A coordinate with a sign is added to the last one.
use Rattle.std.proofs.Common.{◌≡◌, [], ◌∷◌, ◌++◌, refl, Some, None, replicate}
use Rattle.rop3_core.specs.Rop3.{ternary_raster}
use Rattle.wire_examples.proofs.Streams.{orders, mark, makes, picture}

-- the first edges are 1, 0, 7, 1, the second ones 3, 1, 6, 3
-- wrong: a delta is taken for the coordinate
-- wrong: a delta is unsigned
-- wrong: OpaqueRect has no bounds
-- wrong: an edge's delta is added to the edge before it
-- wrong: the right edge's delta is added to the left edge
-- wrong: the right edge's delta is added to the last left edge
-- wrong: the top edge's delta is added to the last left edge
-- wrong: the bottom edge's delta is added to the last top edge
-- wrong: the left edge's delta is added to the last right edge
-- wrong: an OpaqueRect's colour stands as blue, green, red
pub each_edge_moves_from_its_own_last_one : makes (orders 2 (
    -- OpaqueRect: left edge +1, right edge +7, bottom edge +1, width +8, height +4, red 01, green 02, blue 03
    0x1D ∷ 0x0A ∷ 0x7C ∷
    0xD0 ∷ 0x01 ∷ 0x07 ∷ 0x01 ∷ 0x08 ∷ 0x04 ∷ 0x01 ∷ 0x02 ∷ 0x03 ∷
    -- OpaqueRect: left edge +2, top edge +1, right edge -1, bottom edge +2, red 09, green 08, blue 07
    0x05 ∷ 0x70 ∷
    0xF0 ∷ 0x02 ∷ 0x01 ∷ 0xFF ∷ 0x02 ∷ 0x09 ∷ 0x08 ∷ 0x07 ∷ []) ++ mark) ≡ picture 2 0 (
    None ∷ Some 0x010203 ∷ Some 0x010203 ∷ Some 0x010203 ∷ Some 0x010203 ∷ Some 0x010203 ∷ Some 0x010203 ∷ Some 0x010203 ∷
    None ∷ Some 0x010203 ∷ Some 0x010203 ∷ Some 0x090807 ∷ Some 0x090807 ∷ Some 0x090807 ∷ Some 0x090807 ∷ Some 0x010203 ∷
    None ∷ None ∷ None ∷ Some 0x090807 ∷ Some 0x090807 ∷ Some 0x090807 ∷ Some 0x090807 ∷ None ∷
    None ∷ None ∷ None ∷ Some 0x090807 ∷ Some 0x090807 ∷ Some 0x090807 ∷ Some 0x090807 ∷ None ∷ [])
each_edge_moves_from_its_own_last_one = refl

-- the second order is of another type and has the last bounds
-- wrong: the bit of the last bounds gives bounds of zero
-- wrong: bounds are not kept for the next order
pub bounds_are_shared_by_types : makes (orders 2 (
    -- OpaqueRect: left edge +1, top edge +1, right edge +3, bottom edge +2, width +8, height +4, red 01, green 02, blue 03
    0x1D ∷ 0x0A ∷ 0x7C ∷
    0xF0 ∷ 0x01 ∷ 0x01 ∷ 0x03 ∷ 0x02 ∷ 0x08 ∷ 0x04 ∷ 0x01 ∷ 0x02 ∷ 0x03 ∷
    -- DstBlt: width +8, height +4, rop 55
    0x3D ∷ 0x00 ∷ 0x1C ∷
    0x08 ∷ 0x04 ∷ 0x55 ∷ []) ++ mark) ≡ picture 2 0 (
    None ∷ None ∷ None ∷ None ∷ None ∷ None ∷ None ∷ None ∷
    None ∷ Some 0xFEFDFC ∷ Some 0xFEFDFC ∷ Some 0xFEFDFC ∷ None ∷ None ∷ None ∷ None ∷
    None ∷ Some 0xFEFDFC ∷ Some 0xFEFDFC ∷ Some 0xFEFDFC ∷ None ∷ None ∷ None ∷ None ∷
    None ∷ None ∷ None ∷ None ∷ None ∷ None ∷ None ∷ None ∷ [])
unfolding ternary_raster
bounds_are_shared_by_types = refl

-- right is left of left, and bottom above top
-- wrong: edges in the wrong order are swapped
-- wrong: bounds without a pixel are none
pub bounds_without_a_pixel : makes (orders 2 (
    -- OpaqueRect: left edge +3, right edge +1, bottom edge +3, width +8, height +4, red 01, green 02, blue 03
    0x1D ∷ 0x0A ∷ 0x7C ∷
    0xD0 ∷ 0x03 ∷ 0x01 ∷ 0x03 ∷ 0x08 ∷ 0x04 ∷ 0x01 ∷ 0x02 ∷ 0x03 ∷
    -- OpaqueRect: left edge -3, top edge +3, right edge +6, bottom edge -1, red 06, green 06, blue 06
    0x05 ∷ 0x70 ∷
    0xF0 ∷ 0xFD ∷ 0x03 ∷ 0x06 ∷ 0xFF ∷ 0x06 ∷ 0x06 ∷ 0x06 ∷ []) ++ mark) ≡ picture 2 0 (replicate 32 None)
bounds_without_a_pixel = refl

-- the third order has the bounds of the first one, and the second has none
-- wrong: an order without bounds drops the last ones
pub bounds_stay_over_an_order_without_any : makes (orders 3 (
    -- OpaqueRect: left edge +1, top edge +1, right edge +3, bottom edge +2, width +8, height +4, red 01, green 02, blue 03
    0x1D ∷ 0x0A ∷ 0x7C ∷
    0xF0 ∷ 0x01 ∷ 0x01 ∷ 0x03 ∷ 0x02 ∷ 0x08 ∷ 0x04 ∷ 0x01 ∷ 0x02 ∷ 0x03 ∷
    -- OpaqueRect: red 04, green 05, blue 06
    0x01 ∷ 0x70 ∷
    0x04 ∷ 0x05 ∷ 0x06 ∷
    -- OpaqueRect in the last bounds: red 07, green 08, blue 09
    0x25 ∷ 0x70 ∷
    0x07 ∷ 0x08 ∷ 0x09 ∷ []) ++ mark) ≡ picture 3 0 (
    Some 0x040506 ∷ Some 0x040506 ∷ Some 0x040506 ∷ Some 0x040506 ∷ Some 0x040506 ∷ Some 0x040506 ∷ Some 0x040506 ∷ Some 0x040506 ∷
    Some 0x040506 ∷ Some 0x070809 ∷ Some 0x070809 ∷ Some 0x070809 ∷ Some 0x040506 ∷ Some 0x040506 ∷ Some 0x040506 ∷ Some 0x040506 ∷
    Some 0x040506 ∷ Some 0x070809 ∷ Some 0x070809 ∷ Some 0x070809 ∷ Some 0x040506 ∷ Some 0x040506 ∷ Some 0x040506 ∷ Some 0x040506 ∷
    Some 0x040506 ∷ Some 0x040506 ∷ Some 0x040506 ∷ Some 0x040506 ∷ Some 0x040506 ∷ Some 0x040506 ∷ Some 0x040506 ∷ Some 0x040506 ∷ [])
bounds_stay_over_an_order_without_any = refl
