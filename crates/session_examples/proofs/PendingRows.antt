-- Worked pending drawings: what each touches and needs, which are counted, and which tiles they make dirty.
use Rattle.std.proofs.Common.{◌≡◌, ℕ, List, [], ◌∷◌, ◌++◌, length, false, refl, Some, None, replicate}
use Rattle.std.specs.Prelude.{pos, negsuc, Option}
use Rattle.px_core.specs.declared.surface.Size.{Size}
use Rattle.px_core.specs.declared.rectangle.Rect.{Rect}
use Rattle.px_core.specs.Rectangle.{boxed}
use Rattle.px_core.specs.Tiles.{no_tiles, tiles_in}
use Rattle.draw_ops.specs.declared.shape.Drawing.{Drawing}
use Rattle.draw_ops.specs.declared.shape.Shape.{Shape}
use Rattle.draw_ops.specs.declared.shape.Shape.TheVariants.{Fill, Blit, Save, LoadImage, LoadBrush, LoadGlyph}
use Rattle.draw_ops.specs.Content.{ImageOf, GlyphOf}
use Rattle.draw_ops.specs.Slots.{SurfaceState, Loaded, opening_surface}
use Rattle.draw_ops.specs.Drawing.{state_after_drawing}
use Rattle.caps_sets.specs.Confirmed.{plain}
use Rattle.session_rules.specs.declared.entry.Role.TheVariants.{Owner}
use Rattle.session_rules.specs.declared.entry.Entry.{Entry}
use Rattle.session_rules.specs.declared.entry.Entry.TheVariants.{Join, Draw}
use Rattle.session_rules.specs.Pending.{Pending, pending_of, pending_between}
use Rattle.frame_rules.specs.Frame.{walk_after, frame_over}

abbrev size : Size
size = record { w = 128; h = 64 }

abbrev opening : SurfaceState
opening = opening_surface size

abbrev unclipped : Shape → Drawing
unclipped shape = record { shape = shape; clip = None }

abbrev pending : Shape → Pending
pending shape = pending_of size opening (unclipped shape)

-- the tiles that a drawing makes dirty for a viewer that has only fills
abbrev dirty_after : Shape → List ℕ
dirty_after shape = tiles_in size (walk_after size plain (record { dirty = no_tiles; held = [] }) (pending shape ∷ [])).dirty

-- ---- what is touched

-- it changes no pixel, and its tile is sent all the same
-- wrong: a save touches nothing
a_save_that_is_not_sent_makes_its_tile_dirty : dirty_after (Save 0 (boxed (pos 70) (pos 5) 4 4)) ≡ 1 ∷ []
a_save_that_is_not_sent_makes_its_tile_dirty = refl

abbrev dot : ImageOf
dot = record { w = 1; h = 1; pixels = 5 ∷ [] }

abbrev sign : GlyphOf
sign = record { x = pos 0; y = pos 0; cx = 1; cy = 1; bits = 0x80 ∷ [] }

-- the tiles of a frame over more drawings than may go as orders
abbrev tiles_after_a_jump : List Pending → List ℕ
tiles_after_a_jump ps = (frame_over size plain false [] no_tiles opening.picture ps).tiles

-- wrong: a load of an image touches the picture, of a brush or a glyph 8 by 8 pixels
loads_touch_nothing : tiles_after_a_jump (replicate 100 (pending (LoadImage 0 dot)) ++ replicate 100 (pending (LoadBrush 0 (replicate 64 0))) ++ replicate 57 (pending (LoadGlyph 0 65 sign)))
    ≡ []
loads_touch_nothing = refl

-- ---- what is pending

abbrev fill : Shape
fill = Fill (boxed (pos 70) (pos 0) 4 4) 1

-- a load is counted: 256 fills go as tiles beside one
-- wrong: loads aren't counted among the 256
a_load_is_one_of_those_that_are_counted : tiles_after_a_jump (pending (LoadImage 0 dot) ∷ replicate 256 (pending fill)) ≡ 1 ∷ []
a_load_is_one_of_those_that_are_counted = refl

abbrev drawn : Shape → Entry
drawn shape = Draw 1 (unclipped shape)

-- a load, a save, and a fill that has no pixel of the picture
-- wrong: loads aren't pending
-- wrong: a drawing that has no pixel of the picture isn't pending (beside the rows that stood: by reading)
whatever_is_drawn_is_pending : length (pending_between size
    (Join 1 Owner ∷ drawn (LoadImage 0 dot) ∷ drawn (Save 0 (boxed (pos 0) (pos 0) 4 4)) ∷ drawn (Fill (boxed (negsuc 9) (pos 0) 4 4) 1) ∷ []) 0 4) ≡ 3
whatever_is_drawn_is_pending = refl

-- ---- what is needed

-- code 55 inverts the picture, whatever the image
-- wrong: an image that the code doesn't need isn't looked up
an_image_that_its_code_does_not_need : (pending_of size (state_after_drawing size opening (unclipped (LoadImage 7 dot))) (unclipped (Blit (boxed (pos 0) (pos 0) 1 1) 0x55 7 (pos 0) (pos 0)))).image
    ≡ Some (record { number = 1; content = dot })
an_image_that_its_code_does_not_need = refl
