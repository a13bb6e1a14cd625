-- Worked bytes of entries of each kind and of each shape, written by the tables.
use Rattle.std.proofs.Common.{◌≡◌, ◌∷◌, ◌++◌, [], ℕ, List, refl, replicate, true, false, Some, None}
use Rattle.std.specs.Prelude.{pos, negsuc}
use Rattle.px_core.specs.declared.rectangle.Rect.{Rect}
use Rattle.px_core.specs.Rectangle.{boxed}
use Rattle.draw_ops.specs.declared.shape.Shape.{Shape}
use Rattle.draw_ops.specs.declared.shape.Shape.TheVariants.{Fill, Dst, Pat, Copy, Blit, Blit3, Text, Line, Save, Restore, LoadImage, LoadBrush, LoadGlyph}
use Rattle.input_pdu.specs.declared.event.Event.TheVariants.{Sync, Scan, Unicode, Mouse, MouseX}
use Rattle.session_rules.specs.declared.entry.Role.TheVariants.{Control, View}
use Rattle.session_rules.specs.declared.entry.Entry.{Entry}
use Rattle.session_rules.specs.declared.entry.Entry.TheVariants.{Join, Leave, Give, Input, Draw}
use Rattle.record_rules.specs.Tables.{entry_bytes, entries_bytes}

-- wrong: role 1 is view, and 2 control
-- wrong: an entry's length counts its own two bytes (each example here)
who_controls_and_who_views_join : entries_bytes (Join 2 Control ∷ Join 3 View ∷ [])
    ≡ 0x06 ∷ 0x00 ∷ 0x01 ∷ 0x02 ∷ 0x00 ∷ 0x00 ∷ 0x00 ∷ 0x01 ∷ 0x06 ∷ 0x00 ∷ 0x01 ∷ 0x03 ∷ 0x00 ∷ 0x00 ∷ 0x00 ∷ 0x02 ∷ []
who_controls_and_who_views_join = refl

-- the lowest byte of a viewer's number stands first
-- wrong: a number's highest byte stands first
a_leave_of_viewer_258 : entry_bytes (Leave 258) ≡ 0x05 ∷ 0x00 ∷ 0x02 ∷ 0x02 ∷ 0x01 ∷ 0x00 ∷ 0x00 ∷ []
a_leave_of_viewer_258 = refl

-- who gives stands before who gets
-- wrong: who gets stands before who gives
viewer_3_gives_to_viewer_1 : entry_bytes (Give 3 1) ≡ 0x09 ∷ 0x00 ∷ 0x03 ∷ 0x03 ∷ 0x00 ∷ 0x00 ∷ 0x00 ∷ 0x01 ∷ 0x00 ∷ 0x00 ∷ 0x00 ∷ []
viewer_3_gives_to_viewer_1 = refl

-- wrong: another mouse has the tag of a Sync
a_sync_and_another_mouse_are_zeros : entries_bytes (Input 1 Sync ∷ Input 1 MouseX ∷ [])
    ≡ 0x0C ∷ 0x00 ∷ 0x04 ∷ 0x01 ∷ 0x00 ∷ 0x00 ∷ 0x00 ∷ 0x00 ∷ 0x00 ∷ 0x00 ∷ 0x00 ∷ 0x00 ∷ 0x00 ∷ 0x00
    ∷ 0x0C ∷ 0x00 ∷ 0x04 ∷ 0x01 ∷ 0x00 ∷ 0x00 ∷ 0x00 ∷ 0x04 ∷ 0x00 ∷ 0x00 ∷ 0x00 ∷ 0x00 ∷ 0x00 ∷ 0x00 ∷ []
a_sync_and_another_mouse_are_zeros = refl

-- a key that is pressed has 0, one that is released 1
-- wrong: 1 is a key that is pressed
-- wrong: keys and signs have each other's tag
a_key_is_pressed : entry_bytes (Input 1 (Scan 0x3B false)) ≡ 0x0C ∷ 0x00 ∷ 0x04 ∷ 0x01 ∷ 0x00 ∷ 0x00 ∷ 0x00 ∷ 0x01 ∷ 0x3B ∷ 0x00 ∷ 0x00 ∷ 0x00 ∷ 0x00 ∷ 0x00 ∷ []
a_key_is_pressed = refl

a_sign_is_released : entry_bytes (Input 1 (Unicode 0x41 true)) ≡ 0x0C ∷ 0x00 ∷ 0x04 ∷ 0x01 ∷ 0x00 ∷ 0x00 ∷ 0x00 ∷ 0x02 ∷ 0x41 ∷ 0x00 ∷ 0x01 ∷ 0x00 ∷ 0x00 ∷ 0x00 ∷ []
a_sign_is_released = refl

-- flags, x, y
-- wrong: the mouse's place stands before its flags
the_mouse_at_20_300 : entry_bytes (Input 1 (Mouse 0x9000 20 300)) ≡ 0x0C ∷ 0x00 ∷ 0x04 ∷ 0x01 ∷ 0x00 ∷ 0x00 ∷ 0x00 ∷ 0x03 ∷ 0x00 ∷ 0x90 ∷ 0x14 ∷ 0x00 ∷ 0x2C ∷ 0x01 ∷ []
the_mouse_at_20_300 = refl

abbrev drawn : Shape → Entry
drawn shape = Draw 1 (record { shape = shape; clip = None })

-- a Draw of viewer 1 without a clip, behind a length below 256
abbrev unclipped : ℕ → List ℕ → List ℕ
unclipped n bytes = n ∷ 0x00 ∷ 0x05 ∷ 0x01 ∷ 0x00 ∷ 0x00 ∷ 0x00 ∷ 0x00 ∷ bytes

abbrev r : Rect
r = boxed (pos 1) (pos 2) 3 4

abbrev r_bytes : List ℕ
r_bytes = 0x01 ∷ 0x00 ∷ 0x02 ∷ 0x00 ∷ 0x03 ∷ 0x00 ∷ 0x04 ∷ 0x00 ∷ []

-- a corner left of and above the picture is a number of two's complement
a_dst_at_a_corner_outside : entry_bytes (drawn (Dst (boxed (negsuc 0) (negsuc 1) 3 4) 0x55))
    ≡ unclipped 0x10 (0x01 ∷ 0xFF ∷ 0xFF ∷ 0xFE ∷ 0xFF ∷ 0x03 ∷ 0x00 ∷ 0x04 ∷ 0x00 ∷ 0x55 ∷ [])
a_dst_at_a_corner_outside = refl

-- wrong: a brush stands before its rop
a_pat_has_its_code_and_its_brush : entry_bytes (drawn (Pat r 0x5A 7)) ≡ unclipped 0x11 (0x02 ∷ r_bytes ++ 0x5A ∷ 0x07 ∷ [])
a_pat_has_its_code_and_its_brush = refl

-- wrong: y of a copy's source stands before x
-- wrong: a copy's rop stands behind its source
a_copy_has_its_code_and_its_source : entry_bytes (drawn (Copy r 0xCC (pos 5) (negsuc 5))) ≡ unclipped 0x14 (0x03 ∷ r_bytes ++ 0xCC ∷ 0x05 ∷ 0x00 ∷ 0xFA ∷ 0xFF ∷ [])
a_copy_has_its_code_and_its_source = refl

-- wrong: an image stands behind its source
a_blit_has_its_image_before_its_source : entry_bytes (drawn (Blit r 0xCC 9 (pos 5) (pos 6))) ≡ unclipped 0x15 (0x04 ∷ r_bytes ++ 0xCC ∷ 0x09 ∷ 0x05 ∷ 0x00 ∷ 0x06 ∷ 0x00 ∷ [])
a_blit_has_its_image_before_its_source = refl

-- wrong: a brush stands before the source of an image
a_blit3_has_its_brush_last : entry_bytes (drawn (Blit3 r 0xCA 9 (pos 5) (pos 6) 7))
    ≡ unclipped 0x16 (0x05 ∷ r_bytes ++ 0xCA ∷ 0x09 ∷ 0x05 ∷ 0x00 ∷ 0x06 ∷ 0x00 ∷ 0x07 ∷ [])
a_blit3_has_its_brush_last = refl

-- x, y, colour, font, how many pairs, and code and delta of each
-- wrong: y of a text stands before x
-- wrong: a font stands behind the number of pairs
-- wrong: a pair's delta stands before its code
-- wrong: a colour is blue, green, red
a_text_of_two_signs : entry_bytes (drawn (Text (pos 4) (negsuc 4) 0x123456 1 ((65, 0) ∷ (66, 8) ∷ [])))
    ≡ unclipped 0x14 (0x06 ∷ 0x04 ∷ 0x00 ∷ 0xFB ∷ 0xFF ∷ 0x12 ∷ 0x34 ∷ 0x56 ∷ 0x01 ∷ 0x02 ∷ 0x41 ∷ 0x00 ∷ 0x42 ∷ 0x08 ∷ [])
a_text_of_two_signs = refl

-- wrong: a line's end stands before its beginning
a_line_has_its_beginning_first : entry_bytes (drawn (Line (pos 0) (pos 1) (pos 2) (pos 3) 0x00FF00))
    ≡ unclipped 0x12 (0x07 ∷ 0x00 ∷ 0x00 ∷ 0x01 ∷ 0x00 ∷ 0x02 ∷ 0x00 ∷ 0x03 ∷ 0x00 ∷ 0x00 ∷ 0xFF ∷ 0x00 ∷ [])
a_line_has_its_beginning_first = refl

-- wrong: Save and Restore have each other's number
-- wrong: a saved slot stands behind the rectangle
a_save_has_its_slot_first : entry_bytes (drawn (Save 3 r)) ≡ unclipped 0x10 (0x08 ∷ 0x03 ∷ r_bytes)
a_save_has_its_slot_first = refl

a_restore_has_its_slot_first : entry_bytes (drawn (Restore 3 (pos 5) (negsuc 5))) ≡ unclipped 0x0C (0x09 ∷ 0x03 ∷ 0x05 ∷ 0x00 ∷ 0xFA ∷ 0xFF ∷ [])
a_restore_has_its_slot_first = refl

-- two columns and one row
-- wrong: an image's colours are blue, green, red
-- wrong: an image's height stands before its width
an_image_has_its_width_first : entry_bytes (drawn (LoadImage 4 (record { w = 2; h = 1; pixels = 0x010203 ∷ 0xFF0000 ∷ [] })))
    ≡ unclipped 0x10 (0x0A ∷ 0x04 ∷ 0x02 ∷ 0x01 ∷ 0x01 ∷ 0x02 ∷ 0x03 ∷ 0xFF ∷ 0x00 ∷ 0x00 ∷ [])
an_image_has_its_width_first = refl

abbrev thrice : List ℕ → List ℕ
thrice bytes = bytes ++ bytes ++ bytes

a_brush_of_one_colour : entry_bytes (drawn (LoadBrush 5 (replicate 64 0x070707))) ≡ unclipped 0xC8 (0x0B ∷ 0x05 ∷ thrice (replicate 64 0x07))
a_brush_of_one_colour = refl

-- nine columns take two bytes a row, and a glyph may begin left of its pen
-- wrong: a glyph's y stands before its x
-- wrong: a glyph's code stands before its font
a_glyph_of_nine_columns : entry_bytes (drawn (LoadGlyph 1 65 (record { x = negsuc 0; y = pos 2; cx = 9; cy = 2; bits = 0x80 ∷ 0x00 ∷ 0x01 ∷ 0x80 ∷ [] })))
    ≡ unclipped 0x11 (0x0C ∷ 0x01 ∷ 0x41 ∷ 0xFF ∷ 0x02 ∷ 0x09 ∷ 0x02 ∷ 0x80 ∷ 0x00 ∷ 0x01 ∷ 0x80 ∷ [])
a_glyph_of_nine_columns = refl

-- a 1 and the clip stand before the shape
-- wrong: the flag of a clip stands behind it
-- wrong: a clip stands behind its shape
a_clip_stands_before_its_shape : entry_bytes (Draw 1 (record { shape = Fill r 0xFF0000; clip = Some (boxed (pos 8) (pos 9) 10 11) }))
    ≡ 0x1A ∷ 0x00 ∷ 0x05 ∷ 0x01 ∷ 0x00 ∷ 0x00 ∷ 0x00 ∷ 0x01 ∷ 0x08 ∷ 0x00 ∷ 0x09 ∷ 0x00 ∷ 0x0A ∷ 0x00 ∷ 0x0B ∷ 0x00 ∷ 0x00 ∷ r_bytes ++ 0xFF ∷ 0x00 ∷ 0x00 ∷ []
a_clip_stands_before_its_shape = refl
