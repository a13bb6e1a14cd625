-- What worked drawings touch and save into, and what marks tell of it.
use Rattle.std.proofs.Common.{◌≡◌, ◌∷◌, [], ◌==◌, ℕ, List, map, refl, true, false, Some, None}
use Rattle.std.specs.Prelude.{pos, negsuc, Option, Bool}
use Rattle.px_core.specs.declared.rectangle.Rect.{Rect}
use Rattle.px_core.specs.declared.surface.Size.{Size}
use Rattle.px_core.specs.Rectangle.{boxed}
use Rattle.draw_ops.specs.declared.shape.Shape.{Shape}
use Rattle.draw_ops.specs.declared.shape.Shape.TheVariants.{Fill, Line, Save, Restore}
use Rattle.session_rules.specs.Pending.{Pending}
use Rattle.session_core.specs.Touching.{touched_by, saves_into}
use Rattle.session_core.specs.Marking.{past, noted, marks_in}

-- three tiles beside each other, in two rows
abbrev wide : Size
wide = record { w = 192; h = 128 }

abbrev pending_of : Shape → Option Rect → Rect → Pending
pending_of shape clip rect = record { drawing = record { shape = shape; clip = clip }; rect = rect; image = None; brush = None; glyphs = [] }

abbrev tiles_of_six : List Pending → List Bool
tiles_of_six ps = map (touched_by wide ps) (0 ∷ 1 ∷ 2 ∷ 32 ∷ 33 ∷ 34 ∷ [])

-- the last column of the first tile, and the first one of the second
a_fill_over_an_edge_touches_both : tiles_of_six (pending_of (Fill (boxed (pos 63) (pos 0) 2 1) 0) None (boxed (pos 63) (pos 0) 2 1) ∷ [])
    ≡ true ∷ true ∷ false ∷ false ∷ false ∷ false ∷ []
a_fill_over_an_edge_touches_both = refl

a_fill_up_to_an_edge_touches_one : tiles_of_six (pending_of (Fill (boxed (pos 0) (pos 0) 64 64) 0) None (boxed (pos 0) (pos 0) 64 64) ∷ [])
    ≡ true ∷ false ∷ false ∷ false ∷ false ∷ false ∷ []
a_fill_up_to_an_edge_touches_one = refl

-- wrong: a clip isn't looked at
a_clip_leaves_the_tiles_within_it : tiles_of_six (pending_of (Fill (boxed (pos 0) (pos 0) 192 128) 0) (Some (boxed (pos 64) (pos 64) 1 1)) (boxed (pos 0) (pos 0) 192 128) ∷ [])
    ≡ false ∷ false ∷ false ∷ false ∷ true ∷ false ∷ []
a_clip_leaves_the_tiles_within_it = refl

-- the tiles of a line's whole rectangle
a_line_touches_its_rectangle : tiles_of_six (pending_of (Line (pos 0) (pos 0) (pos 127) (pos 127) 0) None (boxed (pos 0) (pos 0) 128 128) ∷ [])
    ≡ true ∷ true ∷ false ∷ true ∷ true ∷ false ∷ []
a_line_touches_its_rectangle = refl

what_lies_outside_touches_nothing : tiles_of_six (pending_of (Fill (boxed (negsuc 63) (pos 0) 64 64) 0) None (boxed (negsuc 63) (pos 0) 64 64) ∷ [])
    ≡ false ∷ false ∷ false ∷ false ∷ false ∷ false ∷ []
what_lies_outside_touches_nothing = refl

-- a picture of 100 by 20 ends within its second tile
-- wrong: what lies past the picture within its last tile touches it
past_the_last_column_it_touches_nothing : touched_by (record { w = 100; h = 20 }) (pending_of (Fill (boxed (pos 100) (pos 0) 10 10) 0) None (boxed (pos 100) (pos 0) 10 10) ∷ []) 1 ≡ false
past_the_last_column_it_touches_nothing = refl

-- wrong: the first drawing alone touches
what_two_touch_is_touched : tiles_of_six (pending_of (Fill (boxed (pos 0) (pos 0) 1 1) 0) None (boxed (pos 0) (pos 0) 1 1)
    ∷ pending_of (Fill (boxed (pos 190) (pos 100) 1 1) 0) None (boxed (pos 190) (pos 100) 1 1) ∷ [])
    ≡ true ∷ false ∷ false ∷ false ∷ false ∷ true ∷ []
what_two_touch_is_touched = refl

-- wrong: a restore saves into its slot
a_restore_saves_into_no_slot : saves_into (Restore 3 (pos 0) (pos 0)) 3 ≡ false
a_restore_saves_into_no_slot = refl

-- wrong: a save goes into every slot
a_save_goes_into_its_slot_alone : map (saves_into (Save 3 (boxed (pos 0) (pos 0) 1 1))) (2 ∷ 3 ∷ 4 ∷ []) ≡ false ∷ true ∷ false ∷ []
a_save_goes_into_its_slot_alone = refl

-- entry 5 is behind the first four, and not behind the first five
-- wrong: the last of the entries before counts too
a_mark_is_past_the_entries_before_it : map (λ (before : ℕ). past before (0 ∷ 5 ∷ []) 1) (0 ∷ 4 ∷ 5 ∷ 6 ∷ []) ≡ true ∷ true ∷ false ∷ false ∷ []
a_mark_is_past_the_entries_before_it = refl

what_was_never_touched_is_past_nothing : past 0 (0 ∷ 5 ∷ []) 0 ≡ false
what_was_never_touched_is_past_nothing = refl

-- wrong: what was never touched is marked
there_is_no_mark_past_the_last : past 0 (1 ∷ 1 ∷ []) 2 ≡ false
there_is_no_mark_past_the_last = refl

-- of two tiles with the marks 3 and 4 the second is touched by entry 9
-- wrong: a mark stays as it was set first
-- wrong: an entry marks what it doesn't touch
a_later_entry_replaces_the_mark_of_what_it_touches : map (noted (λ (k : ℕ). k == 1) 9 (marks_in (3 ∷ 4 ∷ []))) (0 ∷ 1 ∷ []) ≡ 3 ∷ 9 ∷ []
a_later_entry_replaces_the_mark_of_what_it_touches = refl
