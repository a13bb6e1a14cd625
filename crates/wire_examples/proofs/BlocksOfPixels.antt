-- What a viewer makes of SaveBitmap: blocks that are saved and restored. A coordinate with a sign is added to the last one.
use Rattle.std.proofs.Common.{◌≡◌, ℕ, List, [], ◌∷◌, ◌++◌, refl, Some, None, replicate, true, false}
use Rattle.std.specs.Prelude.{Result, Ok}
use Rattle.wire_num.specs.Field.{bind}
use Rattle.order_means.specs.ClientState.Fault.{Broken}
use Rattle.order_means.specs.FrameMarks.{Refusal, read_stream}
use Rattle.wire_examples.proofs.Viewer.{size_of}
use Rattle.wire_examples.proofs.Streams.{viewer, orders, mark, filled_with, Made, made, makes, picture, refused}

-- it is kept when it is restored, and goes to another place the first time
-- wrong: one set of registers for all types
-- wrong: an order without a type byte is of type 0
-- wrong: a restore drops its block
-- wrong: operation 1 saves and 0 restores
pub block_restored_twice : makes (orders 6 (filled_with 0x01 0x02 0x03 ++ (
    -- OpaqueRect: left +1, top +1, width -6, height -2, red C8, green 00, blue 00
    0x11 ∷ 0x7F ∷
    0x01 ∷ 0x01 ∷ 0xFA ∷ 0xFE ∷ 0xC8 ∷ 0x00 ∷ 0x00 ∷
    -- SaveBitmap: position 40, left +1, right +2, bottom +2
    0x19 ∷ 0x0B ∷ 0x1B ∷
    0x28 ∷ 0x00 ∷ 0x00 ∷ 0x00 ∷ 0x01 ∷ 0x02 ∷ 0x02 ∷
    -- SaveBitmap: left +4, top +1, right +4, bottom +1, operation 1
    0x11 ∷ 0x3E ∷
    0x04 ∷ 0x01 ∷ 0x04 ∷ 0x01 ∷ 0x01 ∷
    -- OpaqueRect: left -1, top -1, width +2, height +2, red 00, green 4D
    0x19 ∷ 0x0A ∷ 0x3F ∷
    0xFF ∷ 0xFF ∷ 0x02 ∷ 0x02 ∷ 0x00 ∷ 0x4D ∷
    -- SaveBitmap: left -5, right -5
    0x19 ∷ 0x0B ∷ 0x0A ∷
    0xFB ∷ 0xFB ∷ [])) ++ mark) ≡ picture 6 0 (
    Some 0x004D00 ∷ Some 0x004D00 ∷ Some 0x004D00 ∷ Some 0x004D00 ∷ Some 0x010203 ∷ Some 0x010203 ∷ Some 0x010203 ∷ Some 0x010203 ∷
    Some 0x010203 ∷ Some 0x010203 ∷ Some 0x004D00 ∷ Some 0x004D00 ∷ Some 0x010203 ∷ Some 0x010203 ∷ Some 0x010203 ∷ Some 0x010203 ∷
    Some 0xC80000 ∷ Some 0xC80000 ∷ Some 0x004D00 ∷ Some 0x004D00 ∷ Some 0x010203 ∷ Some 0xC80000 ∷ Some 0xC80000 ∷ Some 0x010203 ∷
    Some 0xC80000 ∷ Some 0xC80000 ∷ Some 0x004D00 ∷ Some 0x004D00 ∷ Some 0x010203 ∷ Some 0xC80000 ∷ Some 0xC80000 ∷ Some 0x010203 ∷ [])
block_restored_twice = refl

-- the block is whole although the bounds are one pixel
-- wrong: a save saves only what is within its bounds
-- wrong: a restored rectangle up to the last column or row of the surface is refused
pub bounds_of_a_save_are_not_heeded : makes (orders 4 (
    -- OpaqueRect: width +5, height +4, red 01, green 63, blue 03
    0x19 ∷ 0x0A ∷ 0x7C ∷
    0x05 ∷ 0x04 ∷ 0x01 ∷ 0x63 ∷ 0x03 ∷
    -- SaveBitmap: left edge +2, top edge +2, right edge +2, bottom edge +2, right +3, bottom +3
    0x1D ∷ 0x0B ∷ 0x18 ∷
    0xF0 ∷ 0x02 ∷ 0x02 ∷ 0x02 ∷ 0x02 ∷ 0x03 ∷ 0x03 ∷
    -- OpaqueRect: width +3, red 00, green 00, blue 09
    0x19 ∷ 0x0A ∷ 0x74 ∷
    0x03 ∷ 0x00 ∷ 0x00 ∷ 0x09 ∷
    -- SaveBitmap: left +4, right +4, operation 1
    0x19 ∷ 0x0B ∷ 0x2A ∷
    0x04 ∷ 0x04 ∷ 0x01 ∷ []) ++ mark) ≡ picture 4 0 (
    Some 0x000009 ∷ Some 0x000009 ∷ Some 0x000009 ∷ Some 0x000009 ∷ Some 0x016303 ∷ Some 0x016303 ∷ Some 0x016303 ∷ Some 0x016303 ∷
    Some 0x000009 ∷ Some 0x000009 ∷ Some 0x000009 ∷ Some 0x000009 ∷ Some 0x016303 ∷ Some 0x016303 ∷ Some 0x016303 ∷ Some 0x016303 ∷
    Some 0x000009 ∷ Some 0x000009 ∷ Some 0x000009 ∷ Some 0x000009 ∷ Some 0x016303 ∷ Some 0x016303 ∷ Some 0x016303 ∷ Some 0x016303 ∷
    Some 0x000009 ∷ Some 0x000009 ∷ Some 0x000009 ∷ Some 0x000009 ∷ Some 0x016303 ∷ Some 0x016303 ∷ Some 0x016303 ∷ Some 0x016303 ∷ [])
bounds_of_a_save_are_not_heeded = refl

-- a block of 1 by 4 takes twenty positions, so one at 20 leaves one at 0
-- wrong: a save drops all blocks
-- wrong: a block that begins where another ends shares a position with it
pub blocks_side_by_side : makes (orders 6 (filled_with 0x01 0x02 0x03 ++ (
    -- SaveBitmap: bottom +3
    0x19 ∷ 0x0B ∷ 0x10 ∷ 0x03 ∷
    -- OpaqueRect: red 09, green 09, blue 09
    0x09 ∷ 0x0A ∷ 0x70 ∷
    0x09 ∷ 0x09 ∷ 0x09 ∷
    -- SaveBitmap: position 20, left +1, right +1
    0x19 ∷ 0x0B ∷ 0x0B ∷
    0x14 ∷ 0x00 ∷ 0x00 ∷ 0x00 ∷ 0x01 ∷ 0x01 ∷
    -- SaveBitmap: position 0, left -1, right -1, operation 1
    0x11 ∷ 0x2B ∷
    0x00 ∷ 0x00 ∷ 0x00 ∷ 0x00 ∷ 0xFF ∷ 0xFF ∷ 0x01 ∷
    -- SaveBitmap: position 20, left +1, right +1
    0x11 ∷ 0x0B ∷
    0x14 ∷ 0x00 ∷ 0x00 ∷ 0x00 ∷ 0x01 ∷ 0x01 ∷ [])) ++ mark) ≡ picture 6 0 (
    Some 0x010203 ∷ Some 0x090909 ∷ Some 0x090909 ∷ Some 0x090909 ∷ Some 0x090909 ∷ Some 0x090909 ∷ Some 0x090909 ∷ Some 0x090909 ∷
    Some 0x010203 ∷ Some 0x090909 ∷ Some 0x090909 ∷ Some 0x090909 ∷ Some 0x090909 ∷ Some 0x090909 ∷ Some 0x090909 ∷ Some 0x090909 ∷
    Some 0x010203 ∷ Some 0x090909 ∷ Some 0x090909 ∷ Some 0x090909 ∷ Some 0x090909 ∷ Some 0x090909 ∷ Some 0x090909 ∷ Some 0x090909 ∷
    Some 0x010203 ∷ Some 0x090909 ∷ Some 0x090909 ∷ Some 0x090909 ∷ Some 0x090909 ∷ Some 0x090909 ∷ Some 0x090909 ∷ Some 0x090909 ∷ [])
blocks_side_by_side = refl

-- a block at 19 drops the one at 0
-- wrong: a save drops no block
-- wrong: a save drops only the block at its own position
-- wrong: a save drops no block that begins before it
pub block_that_shares_a_position : makes (orders 4 (filled_with 0x01 0x02 0x03 ++ (
    -- SaveBitmap: bottom +3
    0x19 ∷ 0x0B ∷ 0x10 ∷ 0x03 ∷
    -- SaveBitmap: position 19, left +1, right +1
    0x11 ∷ 0x0B ∷
    0x13 ∷ 0x00 ∷ 0x00 ∷ 0x00 ∷ 0x01 ∷ 0x01 ∷
    -- SaveBitmap: position 0, left -1, right -1, operation 1
    0x11 ∷ 0x2B ∷
    0x00 ∷ 0x00 ∷ 0x00 ∷ 0x00 ∷ 0xFF ∷ 0xFF ∷ 0x01 ∷ [])) ++ mark) ≡ refused 32 Broken
block_that_shares_a_position = refl

-- 20 positions from 57,580 on
-- wrong: a save up to the last position is refused
-- wrong: a block's width is rounded up, and not its height
pub block_up_to_the_last_position : makes (orders 2 (filled_with 0x01 0x02 0x03 ++ (
    -- SaveBitmap: position 57580, bottom +3
    0x19 ∷ 0x0B ∷ 0x11 ∷
    0xEC ∷ 0xE0 ∷ 0x00 ∷ 0x00 ∷ 0x03 ∷ [])) ++ mark) ≡ picture 2 0 (replicate 32 (Some 0x010203))
block_up_to_the_last_position = refl

-- 20 positions from 57,581 on
-- wrong: a save one position further is accepted
-- wrong: only a save's first position is tested
-- wrong: a block takes its width times its height
pub block_past_the_last_position : makes (orders 2 (filled_with 0x01 0x02 0x03 ++ (
    -- SaveBitmap: position 57581, bottom +3
    0x19 ∷ 0x0B ∷ 0x11 ∷
    0xED ∷ 0xE0 ∷ 0x00 ∷ 0x00 ∷ 0x03 ∷ [])) ++ mark) ≡ refused 32 Broken
block_past_the_last_position = refl

-- an unknown pixel is saved, and is unknown where it is restored
-- wrong: right and bottom of a SaveBitmap are exclusive
-- wrong: an unknown pixel is saved as black
-- wrong: an unknown pixel of a block leaves what is there
pub block_of_unknown_pixels : makes (orders 4 (
    -- OpaqueRect: width +2, height +4, red 01, green 02, blue 03
    0x19 ∷ 0x0A ∷ 0x7C ∷
    0x02 ∷ 0x04 ∷ 0x01 ∷ 0x02 ∷ 0x03 ∷
    -- SaveBitmap: left +1, right +2, bottom +1
    0x19 ∷ 0x0B ∷ 0x1A ∷
    0x01 ∷ 0x02 ∷ 0x01 ∷
    -- OpaqueRect: width +6, red 07, green 07, blue 07
    0x19 ∷ 0x0A ∷ 0x74 ∷
    0x06 ∷ 0x07 ∷ 0x07 ∷ 0x07 ∷
    -- SaveBitmap: operation 1
    0x09 ∷ 0x0B ∷ 0x20 ∷ 0x01 ∷ []) ++ mark) ≡ picture 4 0 (
    Some 0x070707 ∷ Some 0x010203 ∷ None ∷ Some 0x070707 ∷ Some 0x070707 ∷ Some 0x070707 ∷ Some 0x070707 ∷ Some 0x070707 ∷
    Some 0x070707 ∷ Some 0x010203 ∷ None ∷ Some 0x070707 ∷ Some 0x070707 ∷ Some 0x070707 ∷ Some 0x070707 ∷ Some 0x070707 ∷
    Some 0x070707 ∷ Some 0x070707 ∷ Some 0x070707 ∷ Some 0x070707 ∷ Some 0x070707 ∷ Some 0x070707 ∷ Some 0x070707 ∷ Some 0x070707 ∷
    Some 0x070707 ∷ Some 0x070707 ∷ Some 0x070707 ∷ Some 0x070707 ∷ Some 0x070707 ∷ Some 0x070707 ∷ Some 0x070707 ∷ Some 0x070707 ∷ [])
block_of_unknown_pixels = refl

-- wrong: a restore takes a block of any height
-- wrong: a SaveBitmap's position has two bytes
pub block_of_another_height : makes (orders 3 (filled_with 0x01 0x02 0x03 ++ (
    -- SaveBitmap: position 40, left +1, right +2, bottom +2
    0x19 ∷ 0x0B ∷ 0x1B ∷
    0x28 ∷ 0x00 ∷ 0x00 ∷ 0x00 ∷ 0x01 ∷ 0x02 ∷ 0x02 ∷
    -- SaveBitmap: bottom -1, operation 1
    0x11 ∷ 0x30 ∷
    0xFF ∷ 0x01 ∷ [])) ++ mark) ≡ refused 32 Broken
block_of_another_height = refl

-- wrong: a restore takes a block of any position
pub block_of_another_position : makes (orders 3 (filled_with 0x01 0x02 0x03 ++ (
    -- SaveBitmap: position 40, left +1, right +2, bottom +2
    0x19 ∷ 0x0B ∷ 0x1B ∷
    0x28 ∷ 0x00 ∷ 0x00 ∷ 0x00 ∷ 0x01 ∷ 0x02 ∷ 0x02 ∷
    -- SaveBitmap: position 41, operation 1
    0x01 ∷ 0x21 ∷
    0x29 ∷ 0x00 ∷ 0x00 ∷ 0x00 ∷ 0x01 ∷ [])) ++ mark) ≡ refused 32 Broken
block_of_another_position = refl

-- right is left of left
-- wrong: a width or a height below 1 is accepted of SaveBitmap
pub save_of_no_column : makes (orders 2 (filled_with 0x01 0x02 0x03 ++ (
    -- SaveBitmap: left +2, right +1
    0x19 ∷ 0x0B ∷ 0x0A ∷
    0x02 ∷ 0x01 ∷ [])) ++ mark) ≡ refused 32 Broken
save_of_no_column = refl

pub restore_of_no_column : makes (orders 2 (filled_with 0x01 0x02 0x03 ++ (
    -- SaveBitmap: left +2, right +1, operation 1
    0x19 ∷ 0x0B ∷ 0x2A ∷
    0x02 ∷ 0x01 ∷ 0x01 ∷ [])) ++ mark) ≡ refused 32 Broken
restore_of_no_column = refl

-- bottom is above top
pub save_of_no_row : makes (orders 2 (filled_with 0x01 0x02 0x03 ++ (
    -- SaveBitmap: top +2, bottom +1
    0x19 ∷ 0x0B ∷ 0x14 ∷
    0x02 ∷ 0x01 ∷ [])) ++ mark) ≡ refused 32 Broken
save_of_no_row = refl

-- wrong: a saved rectangle that goes past one side of the surface is accepted
-- wrong: a saved rectangle partly inside the surface is enough
pub save_left_of_the_surface : makes (orders 2 (filled_with 0x01 0x02 0x03 ++ (
    -- SaveBitmap: left -1
    0x19 ∷ 0x0B ∷ 0x02 ∷ 0xFF ∷ [])) ++ mark) ≡ refused 32 Broken
save_left_of_the_surface = refl

pub save_right_of_the_surface : makes (orders 2 (filled_with 0x01 0x02 0x03 ++ (
    -- SaveBitmap: right +8
    0x19 ∷ 0x0B ∷ 0x08 ∷ 0x08 ∷ [])) ++ mark) ≡ refused 32 Broken
save_right_of_the_surface = refl

pub save_below_the_surface : makes (orders 2 (filled_with 0x01 0x02 0x03 ++ (
    -- SaveBitmap: bottom +4
    0x19 ∷ 0x0B ∷ 0x10 ∷ 0x04 ∷ [])) ++ mark) ≡ refused 32 Broken
save_below_the_surface = refl

-- from column -32,768 to column 32,767
pub save_of_the_widest_rectangle : makes (orders 2 (filled_with 0x01 0x02 0x03 ++ (
    -- SaveBitmap: left -32768, right 32767
    0x09 ∷ 0x0B ∷ 0x0A ∷
    0x00 ∷ 0x80 ∷ 0xFF ∷ 0x7F ∷ [])) ++ mark) ≡ refused 32 Broken
save_of_the_widest_rectangle = refl

-- up to the last column and row, painted over and restored
-- wrong: a saved rectangle up to the last column or row of the surface is refused
pub block_of_the_whole_surface : makes (orders 4 (filled_with 0x01 0x02 0x03 ++ (
    -- SaveBitmap: right +7, bottom +3
    0x19 ∷ 0x0B ∷ 0x18 ∷
    0x07 ∷ 0x03 ∷
    -- OpaqueRect: red 09, green 09, blue 09
    0x09 ∷ 0x0A ∷ 0x70 ∷
    0x09 ∷ 0x09 ∷ 0x09 ∷
    -- SaveBitmap: operation 1
    0x09 ∷ 0x0B ∷ 0x20 ∷ 0x01 ∷ [])) ++ mark) ≡ picture 4 0 (replicate 32 (Some 0x010203))
block_of_the_whole_surface = refl

-- a block of one pixel, of which the later one is restored
-- wrong: a block that is saved again at its position keeps its first pixels
pub block_saved_again_at_its_position : makes (orders 6 (filled_with 0x01 0x02 0x03 ++ (
    -- SaveBitmap of one pixel
    0x09 ∷ 0x0B ∷ 0x00 ∷
    -- OpaqueRect: red 09, green 09, blue 09
    0x09 ∷ 0x0A ∷ 0x70 ∷
    0x09 ∷ 0x09 ∷ 0x09 ∷
    -- SaveBitmap of one pixel
    0x09 ∷ 0x0B ∷ 0x00 ∷
    -- OpaqueRect: red 04, green 05, blue 06
    0x09 ∷ 0x0A ∷ 0x70 ∷
    0x04 ∷ 0x05 ∷ 0x06 ∷
    -- SaveBitmap: operation 1
    0x09 ∷ 0x0B ∷ 0x20 ∷ 0x01 ∷ [])) ++ mark) ≡ picture 6 0 (
    Some 0x090909 ∷ Some 0x040506 ∷ Some 0x040506 ∷ Some 0x040506 ∷ Some 0x040506 ∷ Some 0x040506 ∷ Some 0x040506 ∷ Some 0x040506 ∷
    Some 0x040506 ∷ Some 0x040506 ∷ Some 0x040506 ∷ Some 0x040506 ∷ Some 0x040506 ∷ Some 0x040506 ∷ Some 0x040506 ∷ Some 0x040506 ∷
    Some 0x040506 ∷ Some 0x040506 ∷ Some 0x040506 ∷ Some 0x040506 ∷ Some 0x040506 ∷ Some 0x040506 ∷ Some 0x040506 ∷ Some 0x040506 ∷
    Some 0x040506 ∷ Some 0x040506 ∷ Some 0x040506 ∷ Some 0x040506 ∷ Some 0x040506 ∷ Some 0x040506 ∷ Some 0x040506 ∷ Some 0x040506 ∷ [])
block_saved_again_at_its_position = refl

-- two columns, of which the surface has the second one
-- wrong: a restored rectangle that goes past one side of the surface is accepted
-- wrong: a restored rectangle partly inside the surface is enough
pub restore_partly_left_of_the_surface : makes (orders 2 (
    -- SaveBitmap: right +1
    0x19 ∷ 0x0B ∷ 0x08 ∷ 0x01 ∷
    -- SaveBitmap: left -1, right -1, operation 1
    0x11 ∷ 0x2A ∷
    0xFF ∷ 0xFF ∷ 0x01 ∷ [])) ≡ refused 32 Broken
restore_partly_left_of_the_surface = refl

-- two columns, of which the surface has the first one
pub restore_partly_right_of_the_surface : makes (orders 2 (
    -- SaveBitmap: right +1
    0x19 ∷ 0x0B ∷ 0x08 ∷ 0x01 ∷
    -- SaveBitmap: left +7, right +7, operation 1
    0x11 ∷ 0x2A ∷
    0x07 ∷ 0x07 ∷ 0x01 ∷ [])) ≡ refused 32 Broken
restore_partly_right_of_the_surface = refl

-- two rows, of which the surface has the second one
pub restore_partly_above_the_surface : makes (orders 2 (
    -- SaveBitmap: bottom +1
    0x19 ∷ 0x0B ∷ 0x10 ∷ 0x01 ∷
    -- SaveBitmap: top -1, bottom -1, operation 1
    0x11 ∷ 0x34 ∷
    0xFF ∷ 0xFF ∷ 0x01 ∷ [])) ≡ refused 32 Broken
restore_partly_above_the_surface = refl

-- two rows, of which the surface has the first one
pub restore_partly_below_the_surface : makes (orders 2 (
    -- SaveBitmap: bottom +1
    0x19 ∷ 0x0B ∷ 0x10 ∷ 0x01 ∷
    -- SaveBitmap: top +3, bottom +3, operation 1
    0x11 ∷ 0x34 ∷
    0x03 ∷ 0x03 ∷ 0x01 ∷ [])) ≡ refused 32 Broken
restore_partly_below_the_surface = refl

pub save_above_the_surface : makes (orders 1 (
    -- SaveBitmap: top -1
    0x19 ∷ 0x0B ∷ 0x04 ∷ 0xFF ∷ [])) ≡ refused 32 Broken
save_above_the_surface = refl

-- a block at 0 drops the one at 19
-- wrong: a save drops no block that begins behind it
pub block_behind_that_shares_a_position : makes (orders 4 (filled_with 0x01 0x02 0x03 ++ (
    -- SaveBitmap: position 19, bottom +3
    0x19 ∷ 0x0B ∷ 0x11 ∷
    0x13 ∷ 0x00 ∷ 0x00 ∷ 0x00 ∷ 0x03 ∷
    -- SaveBitmap: position 0
    0x01 ∷ 0x01 ∷
    0x00 ∷ 0x00 ∷ 0x00 ∷ 0x00 ∷
    -- SaveBitmap: position 19, operation 1
    0x01 ∷ 0x21 ∷
    0x13 ∷ 0x00 ∷ 0x00 ∷ 0x00 ∷ 0x01 ∷ [])) ++ mark) ≡ refused 32 Broken
block_behind_that_shares_a_position = refl

-- a block of 2 by 4 takes 40 positions, here from 57,560 on
pub two_columns_up_to_the_last_position : makes (orders 2 (filled_with 0x01 0x02 0x03 ++ (
    -- SaveBitmap: position 57,560, right +1, bottom +3
    0x19 ∷ 0x0B ∷ 0x19 ∷
    0xD8 ∷ 0xE0 ∷ 0x00 ∷ 0x00 ∷ 0x01 ∷ 0x03 ∷ [])) ++ mark) ≡ picture 2 0 (replicate 32 (Some 0x010203))
two_columns_up_to_the_last_position = refl

-- from 57,561 on
-- wrong: a block's count of pixels is rounded up, and not its height
pub two_columns_past_the_last_position : makes (orders 2 (filled_with 0x01 0x02 0x03 ++ (
    -- SaveBitmap: position 57,561, right +1, bottom +3
    0x19 ∷ 0x0B ∷ 0x19 ∷
    0xD9 ∷ 0xE0 ∷ 0x00 ∷ 0x00 ∷ 0x01 ∷ 0x03 ∷ [])) ++ mark) ≡ refused 32 Broken
two_columns_past_the_last_position = refl

-- what a viewer makes of a stream on a surface of 4 by 21
abbrev makes_on_a_high_surface : List ℕ → Result Made Refusal
makes_on_a_high_surface bytes = bind (read_stream (viewer false true) (size_of 4 21) bytes) (λ r. Ok (made false bytes r))

-- a block of 1 by 20 takes 20 positions, here from 57,580 on
-- wrong: a height of twenty is rounded up to forty
pub twenty_rows_up_to_the_last_position : makes_on_a_high_surface (orders 1 (
    -- SaveBitmap: position 57,580, bottom +19
    0x19 ∷ 0x0B ∷ 0x11 ∷
    0xEC ∷ 0xE0 ∷ 0x00 ∷ 0x00 ∷ 0x13 ∷ []) ++ mark) ≡ picture 1 0 (replicate 84 None)
twenty_rows_up_to_the_last_position = refl

-- a block of 1 by 21 takes 40 positions, here from 57,560 on
pub twenty_one_rows_up_to_the_last_position : makes_on_a_high_surface (orders 1 (
    -- SaveBitmap: position 57,560, bottom +20
    0x19 ∷ 0x0B ∷ 0x11 ∷
    0xD8 ∷ 0xE0 ∷ 0x00 ∷ 0x00 ∷ 0x14 ∷ []) ++ mark) ≡ picture 1 0 (replicate 84 None)
twenty_one_rows_up_to_the_last_position = refl

-- from 57,561 on
pub twenty_one_rows_past_the_last_position : makes_on_a_high_surface (orders 1 (
    -- SaveBitmap: position 57,561, bottom +20
    0x19 ∷ 0x0B ∷ 0x11 ∷
    0xD9 ∷ 0xE0 ∷ 0x00 ∷ 0x00 ∷ 0x14 ∷ []) ++ mark) ≡ refused 32 Broken
twenty_one_rows_past_the_last_position = refl
