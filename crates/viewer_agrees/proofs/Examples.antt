-- A viewer of a small session, from the host's first byte on: what it is shown.
use Rattle.std.proofs.Common.{◌≡◌, ℕ, ◌-◌, List, [], ◌∷◌, ◌++◌, refl, sym, ap, ◌∙◌, take, Some, None}
use Rattle.std.specs.Prelude.{codes, length, Option, Result, Ok, Err}
use Rattle.wire_num.specs.FieldValue.{passing_at}
use Rattle.wire_num.specs.Layout.{exactly_at}
use Rattle.mcs_ber.specs.ConnectResponse.{connect_response}
use Rattle.gcc_per.specs.ServerData.{create_response}
use Rattle.caps_sets.specs.DemandActive.{before_bitmap, after_bitmap, demand_active}
use Rattle.order_means.specs.FrameMarks.{ClientReading, Refusal}
use Rattle.script_rules.specs.Script.{Opening, opening_of}
use Rattle.script_rules.specs.Script.Opening.{NoSize, Unended, Opened}
use Rattle.script_rules.specs.Capture.{ended}
use Rattle.viewer_rules.specs.HostAnswers.{connection_confirm, server_blocks_answer, conference_answer, user_data_answer, response_answer, connect_response_answer, attach_answer, join_answer, indication, licence_answer, behind_height, later_answer, height_and_later, width_and_later, demand_answer, share_data_answer, final_answer, farewell}
use Rattle.viewer_rules.specs.ViewerHandshake.{watched}
use Rattle.viewer_rules.specs.Shown.{shown_read}
use Rattle.headline.specs.Headline.{confirmed_in}
use Rattle.viewer_agrees.specs.Watched.{watched_behind, sent_without, ShowsTakes}

-- ann joins, takes, fills a pixel and takes again
script : List ℕ
script = ended (codes "size 4 1") ++ ended (codes "invite ann owner") ++ ended (codes "join ann bare") ++ ended (codes "take")
    ++ ended (codes "fill 1 0 1 1 FCFAF9") ++ ended (codes "take")

-- the pictures that ann is shown, by a name, with these of her bytes behind the connection sequence
abbrev pictures_read : Option (Result ClientReading Refusal) → List (List (Option ℕ))
pictures_read None = []
pictures_read (Some (Ok r)) = r.view.pictures
pictures_read (Some (Err refusal)) = []

shown_in : (List ℕ → List ℕ) → Opening → List (List (Option ℕ))
unfolding passing_at exactly_at connection_confirm server_blocks_answer conference_answer user_data_answer response_answer connect_response_answer attach_answer join_answer indication licence_answer behind_height later_answer height_and_later width_and_later demand_answer share_data_answer final_answer farewell watched
shown_in cut NoSize = []
shown_in cut Unended = []
shown_in cut (Opened s) =
    let c = confirmed_in s.head s.asked 1 in
    let x = watched_behind (codes "ann") c s.head.size (cut (sent_without s.head s.asked 1)) in
    pictures_read (shown_read c x.after.at.size x.after.at.shown)

abbrev black : List (Option ℕ)
black = Some 0 ∷ Some 0 ∷ Some 0 ∷ Some 0 ∷ []

-- wrong: what comes before the Font Map is shown, too
-- wrong: at each mark the last picture is shown
a_pixel_is_filled_between_two_marks : shown_in (λ bytes. bytes) (opening_of script) ≡ black ∷ (Some 0 ∷ Some 0xFCFAF9 ∷ Some 0 ∷ Some 0 ∷ []) ∷ []
unfolding connect_response create_response before_bitmap after_bitmap demand_active shown_in script
a_pixel_is_filled_between_two_marks = refl

-- wrong: a mark counts before its packet is whole
the_last_byte_is_missing : shown_in (λ bytes. take (length bytes - 1) bytes) (opening_of script) ≡ black ∷ []
unfolding connect_response create_response before_bitmap after_bitmap demand_active shown_in script
the_last_byte_is_missing = refl

-- as if the pixel had been filled before the first take
abbrev ShowsTooEarly : Opening → Type 0
ShowsTooEarly NoSize = ⊥
ShowsTooEarly Unended = ⊥
ShowsTooEarly (Opened s) = ShowsTakes s.head s.asked 1 (codes "ann") (sent_without s.head s.asked 1) (2 ∷ 2 ∷ [])

-- wrong: the marks show the pictures after any numbers of entries
a_later_picture_is_not_shown : ShowsTooEarly (opening_of script) → ⊥
unfolding connect_response create_response before_bitmap after_bitmap demand_active passing_at exactly_at connection_confirm server_blocks_answer conference_answer user_data_answer response_answer connect_response_answer attach_answer join_answer indication licence_answer behind_height later_answer height_and_later width_and_later demand_answer share_data_answer final_answer farewell watched shown_in script
a_later_picture_is_not_shown shows =
    let both = sym a_pixel_is_filled_between_two_marks ∙ (ap pictures_read shows.reads ∙ shows.marks_show) in
    absurd (cc both)
