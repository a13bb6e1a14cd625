-- A list of steps that lacks a premise of the headline, and what fails of it.
use Rattle.std.proofs.Common.{◌≡◌, ℕ, List, [], ◌∷◌, refl, sym, ◌∙◌, false}
use Rattle.std.specs.Prelude.{codes, Ok}
use Rattle.px_core.specs.declared.depth.Depth.TheVariants.{Bits24}
use Rattle.px_core.specs.declared.surface.Size.{Size}
use Rattle.caps_sets.specs.Confirmed.{plain, marked}
use Rattle.session_rules.specs.declared.entry.Role.TheVariants.{Owner, View}
use Rattle.session_rules.specs.Journal.{Head}
use Rattle.session_rules.specs.Steps.{play_at_first, session_after, journal_of_steps, frame_numbers}
use Rattle.session_rules.specs.Steps.Step.{JoinStep, TakeStep}
use Rattle.order_means.specs.FrameMarks.{pictures_at_marks}
use Rattle.order_means.specs.Packets.{without_pointers}
use Rattle.script_rules.specs.Script.{Asked, without_preset}
use Rattle.script_rules.specs.CaptureText.{run_at_first, sent_from, encoder_frames}
use Rattle.headline.specs.Headline.{steps_of, pictures_after, confirmed_in, is_by_present_viewer, EveryViewerSeesTheJournal}

small : Size
small = record { w = 4; h = 1 }

-- ann, who owns the session, and bob
two : Head
two = record { size = small; rows = record { name = codes "ann"; role = Owner } ∷ record { name = codes "bob"; role = View } ∷ [] }

-- ann joins, viewer 2 takes, and then bob joins as viewer 2, with frame markers
early : List Asked
early = record { step = JoinStep (codes "ann"); preset = codes "plain" ∷ []; confirmed = plain }
    ∷ without_preset (TakeStep 2)
    ∷ record { step = JoinStep (codes "bob"); preset = codes "marked" ∷ []; confirmed = marked } ∷ []

sent : ℕ → List ℕ
sent = sent_from encoder_frames two (run_at_first encoder_frames small) early

-- the take is by a viewer that isn't present
the_taker_is_absent : is_by_present_viewer (session_after two (play_at_first small) (JoinStep (codes "ann") ∷ [])) (TakeStep 2) ≡ false
unfolding two small
the_taker_is_absent = refl

-- its frame ends as for a viewer without markers, which is no mark for what bob confirms
no_mark : pictures_at_marks (confirmed_in two early 2) small (without_pointers (sent 2)) ≡ Ok []
unfolding early two small sent
no_mark = refl

-- so the headline fails of these steps
a_take_before_its_viewer_joins : EveryViewerSeesTheJournal two early sent → ⊥
unfolding early two small sent
a_take_before_its_viewer_joins sees =
    let seen : Ok [] ≡ Ok (pictures_after Bits24 small (journal_of_steps two (steps_of early)) (frame_numbers two (steps_of early) 2)) = sym no_mark ∙
    (sees.viewers 2).marks_show_journal in
    absurd (cc seen)
