-- Worked ends of a viewer's connection, and what a reader could take for something else.
use Rattle.std.proofs.Common.{◌≡◌, ◌∷◌, [], ℕ, List, refl, true, false}
use Rattle.std.specs.Prelude.{codes}
use Rattle.serve_rules.specs.Notices.{Notice}
use Rattle.serve_rules.specs.declared.ends.SideEnd.TheVariants.{Done}
use Rattle.caps_sets.specs.Confirmed.{plain}
use Rattle.viewer_run.specs.Ending.{ultimatum_at}
use Rattle.viewer_run.specs.Serving.{wants_last, ended_by}
use Rattle.viewer_run.specs.Greeting.{greeting}
use Rattle.viewer_run.specs.Greeting.Greeting.{Connects, IsReady, HasLeft}
use Rattle.serve_rules.specs.declared.ends.ConnEnd.TheVariants as end
use Rattle.conn_rules.specs.declared.conn_step.ConnStep.TheVariants as step

abbrev notice : Notice
notice = record { bye = false; shutdown = false; quiet = false }

-- wrong: who asked for the end is told `20 80`
who_asked_for_the_end_is_told_so : ultimatum_at end.Left true ≡ 0x03 ∷ 0x00 ∷ 0x00 ∷ 0x09 ∷ 0x02 ∷ 0xF0 ∷ 0x80 ∷ 0x21 ∷ 0x80 ∷ []
who_asked_for_the_end_is_told_so = refl

-- wrong: who left is told `21 80` too
who_left_is_told_nothing : ultimatum_at end.Left false ≡ []
who_left_is_told_nothing = refl

-- the host's own ultimatum
abbrev away : List ℕ
away = 0x03 ∷ 0x00 ∷ 0x00 ∷ 0x09 ∷ 0x02 ∷ 0xF0 ∷ 0x80 ∷ 0x20 ∷ 0x80 ∷ []

who_is_refused_is_told_so : ultimatum_at (end.Refused 14 952) false ≡ away
who_is_refused_is_told_so = refl

who_has_no_row_is_told_so : ultimatum_at end.NotInvited false ≡ away
who_has_no_row_is_told_so = refl

the_seventeenth_is_told_so : ultimatum_at end.RoomFull false ≡ away
the_seventeenth_is_told_so = refl

-- wrong: who comes after the last join is told nothing
who_comes_after_the_last_join_is_told_so : ultimatum_at end.JoinsSpent false ≡ away
who_comes_after_the_last_join_is_told_so = refl

-- wrong: a part of a packet is answered
a_part_of_a_packet_is_told_nothing : ultimatum_at end.Truncated false ≡ []
a_part_of_a_packet_is_told_nothing = refl

-- wrong: who asked for the end is told so after a failed read too
a_failed_read_is_told_nothing : ultimatum_at end.ReadFault true ≡ []
a_failed_read_is_told_nothing = refl

who_left_has_a_last_frame : wants_last end.Left notice ≡ true
who_left_has_a_last_frame = refl

-- wrong: who asked for the end has none
who_asked_for_the_end_has_one : wants_last end.Left (record notice { shutdown = true }) ≡ true
who_asked_for_the_end_has_one = refl

-- wrong: who said Bye has a last frame
who_said_bye_has_none : wants_last end.Left (record notice { bye = true }) ≡ false
who_said_bye_has_none = refl

-- wrong: who stopped output has a last frame
who_stopped_output_has_none : wants_last end.Left (record notice { quiet = true }) ≡ false
who_stopped_output_has_none = refl

-- wrong: who is refused has a last frame
who_is_refused_has_none : wants_last (end.Refused 14 952) notice ≡ false
who_is_refused_has_none = refl

-- wrong: the end of the stream counts before a failed write
a_failed_write_counts_before_the_stream : ended_by (Done end.Left) (Done end.WriteFault) ≡ Done end.WriteFault
a_failed_write_counts_before_the_stream = refl

-- wrong: the first name that was given counts
the_last_name_counts : greeting [] (step.Named (codes "ann") ∷ step.Named (codes "bob") ∷ step.Ready plain ∷ step.Packet ∷ []) ≡ IsReady (codes "bob") plain (step.Packet ∷ [])
the_last_name_counts = refl

-- wrong: who leaves before it is ready still connects
who_leaves_before_it_is_ready_has_left : greeting [] (step.Named (codes "ann") ∷ step.Bye ∷ []) ≡ HasLeft
who_leaves_before_it_is_ready_has_left = refl

who_has_a_name_still_connects : greeting [] (step.Named (codes "ann") ∷ []) ≡ Connects (codes "ann")
who_has_a_name_still_connects = refl
