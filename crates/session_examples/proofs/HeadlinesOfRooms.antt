-- The headline, computed on worked scripts: the pictures at the marks of a viewer's bytes are those after the entries that its takes found.
use Rattle.std.proofs.Common.{◌≡◌, ℕ, List, ◌++◌, refl}
use Rattle.std.specs.Fmt.{digits}
use Rattle.std.specs.Prelude.{codes, Ok}
use Rattle.px_core.specs.declared.depth.Depth.TheVariants.{Bits24}
use Rattle.rop3_core.specs.Rop3.{ternary_raster}
use Rattle.session_rules.specs.Steps.{journal_of_steps, frame_numbers}
use Rattle.order_means.specs.FrameMarks.{pictures_at_marks}
use Rattle.script_rules.specs.Script.{Opening, opening_of}
use Rattle.script_rules.specs.Script.Opening.{NoSize, Unended, Opened}
use Rattle.script_rules.specs.Capture.{ended, viewer_bytes}
use Rattle.script_rules.specs.CaptureText.{capture_of, encoder_frames}
use Rattle.caps_sets.specs.declared.confirmed.Confirmed.{Confirmed}
use Rattle.caps_sets.specs.Confirmed.{full}
use Rattle.headline.specs.Headline.{confirmed_in, pictures_after, steps_of}

abbrev ShowsOpening : ℕ → List ℕ → Opening → Type 0
ShowsOpening v capture NoSize = ⊥
ShowsOpening v capture Unended = ⊥
ShowsOpening v capture (Opened s) = pictures_at_marks (confirmed_in s.head s.asked v) s.head.size (viewer_bytes v capture)
    ≡ Ok (pictures_after Bits24 s.head.size (journal_of_steps s.head (steps_of s.asked)) (frame_numbers s.head (steps_of s.asked) v))

-- the marks of a viewer's bytes in a script's capture show the journal, at 24 bits
abbrev Shows : ℕ → List ℕ → Type 0
Shows v script = ShowsOpening v (capture_of encoder_frames script) (opening_of script)

-- the same of a viewer who confirmed this, so that it is computed once
abbrev ShowsOpeningTo : Confirmed → ℕ → List ℕ → Opening → Type 0
ShowsOpeningTo c v capture NoSize = ⊥
ShowsOpeningTo c v capture Unended = ⊥
ShowsOpeningTo c v capture (Opened s) = (confirmed_in s.head s.asked v ≡ c) × (pictures_at_marks c s.head.size (viewer_bytes v capture)
    ≡ Ok (pictures_after Bits24 s.head.size (journal_of_steps s.head (steps_of s.asked)) (frame_numbers s.head (steps_of s.asked) v)))

abbrev ShowsTo : Confirmed → ℕ → List ℕ → Type 0
ShowsTo c v script = ShowsOpeningTo c v (capture_of encoder_frames script) (opening_of script)

control_is_handed_on_shows_2 : Shows 2 (ended (codes "size 64 48")
    ++ ended (codes "invite ann owner")
    ++ ended (codes "invite bob view")
    ++ ended (codes "invite cy control")
    ++ ended (codes "join ann full")
    ++ ended (codes "join bob full")
    ++ ended (codes "join cy full")
    ++ ended (codes "@2 mouse 9000 20 20")
    ++ ended (codes "key 58 down")
    ++ ended (codes "@3 mouse 9000 20 20")
    ++ ended (codes "@2 take"))
unfolding digits ternary_raster
control_is_handed_on_shows_2 = refl

popup_and_a_holder_who_leaves_shows_1 : ShowsTo full 1 (ended (codes "size 64 48")
    ++ ended (codes "invite ann owner")
    ++ ended (codes "invite bob view")
    ++ ended (codes "invite cy control")
    ++ ended (codes "join ann full")
    ++ ended (codes "join bob full")
    ++ ended (codes "join cy full")
    ++ ended (codes "@2 mouse 9000 20 20")
    ++ ended (codes "key 58 down")
    ++ ended (codes "@3 mouse 9000 20 20")
    ++ ended (codes "@2 take")
    ++ ended (codes "@3 mouse A000 0 0")
    ++ ended (codes "@3 leave")
    ++ ended (codes "mouse 9000 60 40")
    ++ ended (codes "take"))
unfolding digits ternary_raster
popup_and_a_holder_who_leaves_shows_1 = (refl, refl)

popup_and_a_holder_who_leaves_shows_2 : Shows 2 (ended (codes "size 64 48")
    ++ ended (codes "invite ann owner")
    ++ ended (codes "invite bob view")
    ++ ended (codes "invite cy control")
    ++ ended (codes "join ann full")
    ++ ended (codes "join bob full")
    ++ ended (codes "join cy full")
    ++ ended (codes "@2 mouse 9000 20 20")
    ++ ended (codes "key 58 down")
    ++ ended (codes "@3 mouse 9000 20 20")
    ++ ended (codes "@2 take")
    ++ ended (codes "@3 mouse A000 0 0")
    ++ ended (codes "@3 leave")
    ++ ended (codes "mouse 9000 60 40")
    ++ ended (codes "take"))
unfolding digits ternary_raster
popup_and_a_holder_who_leaves_shows_2 = refl

suppress_allow_refresh_shows_1 : Shows 1 (ended (codes "size 64 64")
    ++ ended (codes "invite ann owner")
    ++ ended (codes "join ann full")
    ++ ended (codes "fill 0 0 64 64 FF0000")
    ++ ended (codes "take")
    ++ ended (codes "suppress")
    ++ ended (codes "fill 0 0 64 64 FF0000")
    ++ ended (codes "fill 0 0 64 64 FF0000")
    ++ ended (codes "fill 0 0 64 64 FF0000")
    ++ ended (codes "fill 0 0 64 64 FF0000")
    ++ ended (codes "fill 0 0 64 64 FF0000")
    ++ ended (codes "fill 0 0 64 64 FF0000")
    ++ ended (codes "fill 0 0 64 64 FF0000")
    ++ ended (codes "fill 0 0 64 64 FF0000")
    ++ ended (codes "fill 0 0 64 64 FF0000")
    ++ ended (codes "fill 0 0 64 64 FF0000")
    ++ ended (codes "take")
    ++ ended (codes "allow")
    ++ ended (codes "take")
    ++ ended (codes "refresh 5 5 1 1")
    ++ ended (codes "take")
    ++ ended (codes "take"))
unfolding digits ternary_raster
suppress_allow_refresh_shows_1 = refl
