-- The headline, computed on worked scripts: the pictures at the marks of a viewer's bytes are those after the entries that its takes found.
use Rattle.std.proofs.Common.{◌≡◌, ℕ, List, ◌++◌, refl}
use Rattle.std.specs.Fmt.{digits}
use Rattle.std.specs.Prelude.{codes, Ok}
use Rattle.px_core.specs.declared.depth.Depth.TheVariants.{Bits24}
use Rattle.rop3_core.specs.Rop3.{ternary_raster}
use Rattle.session_rules.specs.Steps.{journal_of_steps, frame_numbers}
use Rattle.order_means.specs.FrameMarks.{pictures_at_marks}
use Rattle.script_rules.specs.Script.{Opening, opening_of}
use Rattle.script_rules.specs.Script.Opening.{NoSize, Unended, Opened}
use Rattle.script_rules.specs.Capture.{ended, viewer_bytes}
use Rattle.script_rules.specs.CaptureText.{capture_of, encoder_frames}
use Rattle.caps_sets.specs.declared.confirmed.Confirmed.{Confirmed}
use Rattle.caps_sets.specs.Confirmed.{full}
use Rattle.headline.specs.Headline.{confirmed_in, pictures_after, steps_of}

abbrev ShowsOpening : ℕ → List ℕ → Opening → Type 0
ShowsOpening v capture NoSize = ⊥
ShowsOpening v capture Unended = ⊥
ShowsOpening v capture (Opened s) = pictures_at_marks (confirmed_in s.head s.asked v) s.head.size (viewer_bytes v capture)
    ≡ Ok (pictures_after Bits24 s.head.size (journal_of_steps s.head (steps_of s.asked)) (frame_numbers s.head (steps_of s.asked) v))

-- the marks of a viewer's bytes in a script's capture show the journal, at 24 bits
abbrev Shows : ℕ → List ℕ → Type 0
Shows v script = ShowsOpening v (capture_of encoder_frames script) (opening_of script)

-- the same of a viewer who confirmed this, so that it is computed once
abbrev pub ShowsOpeningTo : Confirmed → ℕ → List ℕ → Opening → Type 0
ShowsOpeningTo c v capture NoSize = ⊥
ShowsOpeningTo c v capture Unended = ⊥
ShowsOpeningTo c v capture (Opened s) = (confirmed_in s.head s.asked v ≡ c) × (pictures_at_marks c s.head.size (viewer_bytes v capture)
    ≡ Ok (pictures_after Bits24 s.head.size (journal_of_steps s.head (steps_of s.asked)) (frame_numbers s.head (steps_of s.asked) v)))

abbrev pub ShowsTo : Confirmed → ℕ → List ℕ → Type 0
ShowsTo c v script = ShowsOpeningTo c v (capture_of encoder_frames script) (opening_of script)

one_fill_shows_1 : Shows 1 (ended (codes "size 64 48")
    ++ ended (codes "take")
    ++ ended (codes "fill 10 20 5 5 FF0000")
    ++ ended (codes "take"))
unfolding digits ternary_raster
one_fill_shows_1 = refl

same_fill_again_shows_1 : Shows 1 (ended (codes "size 64 48")
    ++ ended (codes "take")
    ++ ended (codes "fill 10 20 5 5 FF0000")
    ++ ended (codes "take")
    ++ ended (codes "fill 10 20 5 5 FF0000")
    ++ ended (codes "take"))
unfolding digits ternary_raster
same_fill_again_shows_1 = refl

far_delta_is_absolute_shows_1 : Shows 1 (ended (codes "size 64 48")
    ++ ended (codes "take")
    ++ ended (codes "fill 10 20 5 5 FF0000")
    ++ ended (codes "take")
    ++ ended (codes "fill 10 20 5 5 FF0000")
    ++ ended (codes "take")
    ++ ended (codes "fill 138 21 5 5 FF0000")
    ++ ended (codes "take"))
unfolding digits ternary_raster
far_delta_is_absolute_shows_1 = refl

overlapping_copy_in_a_clip_shows_1 : Shows 1 (ended (codes "size 64 48")
    ++ ended (codes "invite ann owner")
    ++ ended (codes "join ann full")
    ++ ended (codes "take")
    ++ ended (codes "copy 0 1 64 47 CC 0 0 clip 8 8 16 16")
    ++ ended (codes "take")
    ++ ended (codes "copy 0 1 64 47 CC 0 0 clip 8 8 16 16")
    ++ ended (codes "take"))
unfolding digits ternary_raster
overlapping_copy_in_a_clip_shows_1 = refl

save_and_restore_shows_1 : ShowsTo full 1 (ended (codes "size 64 48")
    ++ ended (codes "invite ann owner")
    ++ ended (codes "join ann full")
    ++ ended (codes "take")
    ++ ended (codes "save 0 0 0 10 10")
    ++ ended (codes "take")
    ++ ended (codes "restore 0 0 0")
    ++ ended (codes "take"))
unfolding digits ternary_raster
save_and_restore_shows_1 = (refl, refl)

marker_support_shows_1 : Shows 1 (ended (codes "size 64 48")
    ++ ended (codes "invite ann owner")
    ++ ended (codes "join ann marked")
    ++ ended (codes "take"))
unfolding digits ternary_raster
marker_support_shows_1 = refl

refused_drawings_shows_1 : Shows 1 (ended (codes "size 64 48")
    ++ ended (codes "copy 0 0 64 48 CC 0 1")
    ++ ended (codes "dst 0 0 4 4 CC")
    ++ ended (codes "line 0 0 9 0 FFFFFF")
    ++ ended (codes "restore 3 0 0")
    ++ ended (codes "image 0 16 16 FF0000")
    ++ ended (codes "blit 0 0 16 16 CC 0 1 0")
    ++ ended (codes "take"))
unfolding digits ternary_raster
refused_drawings_shows_1 = refl

three_glyphs_shows_1 : Shows 1 (ended (codes "size 64 48")
    ++ ended (codes "invite ann owner")
    ++ ended (codes "join ann bare gc0=3,4")
    ++ ended (codes "take")
    ++ ended (codes "glyph 0 65 0 0 8 1 FF")
    ++ ended (codes "glyph 0 66 0 0 8 1 0F")
    ++ ended (codes "glyph 0 67 0 0 8 1 F0")
    ++ ended (codes "text 4 5 FFFFFF 0 65:0 66:8 67:8")
    ++ ended (codes "take"))
unfolding digits ternary_raster
three_glyphs_shows_1 = refl

copy_from_a_dirty_tile_shows_1 : Shows 1 (ended (codes "size 192 64")
    ++ ended (codes "invite ann owner")
    ++ ended (codes "join ann full")
    ++ ended (codes "take")
    ++ ended (codes "line 0 0 63 10 00FF00")
    ++ ended (codes "copy 128 0 64 64 CC 0 0")
    ++ ended (codes "fill 64 0 64 64 0000FF")
    ++ ended (codes "take"))
unfolding digits ternary_raster
copy_from_a_dirty_tile_shows_1 = refl
