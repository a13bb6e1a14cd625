-- Where a host's stream is refused, on the sample host's 706 bytes; and what isn't refused.
use Rattle.std.proofs.Common.{◌≡◌, ℕ, true, List, [], ◌∷◌, ◌++◌, take, refl}
use Rattle.std.specs.Prelude.{Option, Some, None, slice_set}
use Rattle.wire_num.specs.FieldValue.{passing_at}
use Rattle.wire_num.specs.Layout.{exactly_at}
use Rattle.caps_sets.specs.Confirmed.{plain}
use Rattle.viewer_rules.specs.declared.stage.Channel.TheVariants as channel
use Rattle.viewer_rules.specs.declared.stage.Stage.TheVariants.{Joins, Shown, Over}
use Rattle.viewer_rules.specs.HostAnswers.{connection_confirm, server_blocks_answer, conference_answer, user_data_answer, response_answer, connect_response_answer, attach_answer, join_answer, indication, licence_answer, behind_height, later_answer, height_and_later, width_and_later, demand_answer, share_data_answer, final_answer, farewell}
use Rattle.viewer_rules.specs.ViewerHandshake.{Watched, watched, viewer_handshake, refusal_in}
use Rattle.viewer_rules.specs.Shown.{look_refusal}
use Rattle.wire_examples.proofs.Sample.{answers}

-- what the viewer `ann`, which confirms what `plain` does, makes of a stream
heard : List ℕ → Watched
unfolding passing_at exactly_at connection_confirm server_blocks_answer conference_answer user_data_answer response_answer connect_response_answer attach_answer join_answer indication licence_answer behind_height later_answer height_and_later width_and_later demand_answer share_data_answer final_answer farewell watched
heard bytes = viewer_handshake (97 ∷ 110 ∷ 110 ∷ []) plain bytes

abbrev refused : List ℕ → Option ℕ
refused bytes = refusal_in plain (heard bytes).after

-- one byte changed
abbrev changed : ℕ → ℕ → List ℕ
changed place byte = slice_set answers place byte

abbrev ultimatum : List ℕ
ultimatum = 3 ∷ 0 ∷ 0 ∷ 9 ∷ 2 ∷ 0xF0 ∷ 0x80 ∷ 0x21 ∷ 0x80 ∷ []

-- not 3, at once
another_version : refused (4 ∷ []) ≡ Some 0
unfolding heard
another_version = refl

-- a length below 7, once it is there
-- wrong: a length below 7 isn't refused
a_length_of_six : refused (3 ∷ 0 ∷ 0 ∷ 6 ∷ []) ≡ Some 2
unfolding heard
a_length_of_six = refl

-- a part of a packet is none
a_part : refused (3 ∷ 0 ∷ 0 ∷ 19 ∷ 15 ∷ []) ≡ None
unfolding heard
a_part = refl

-- nothing at all
no_byte : refused [] ≡ None
unfolding heard
no_byte = refl

-- in the midst of the handshake
a_front : refused (take 300 answers) ≡ None
unfolding heard
a_front = refl

-- the second byte of a TPKT header isn't looked at
a_reserved_byte : refused (changed 1 9) ≡ None
unfolding heard
a_reserved_byte = refl

-- the second packet begins at 19: the length of the Connect-Response counts one byte less than its content has, and the user data in it are too short
a_content_short : refused (changed 28 97) ≡ Some 65
unfolding heard
a_content_short = refl

-- and one more: the content is too short
a_content_long : refused (changed 28 99) ≡ Some 29
unfolding heard
a_content_long = refl

-- a confirm of another channel than the last join asked for: the field requested
another_channel : refused (changed 167 0xEC) ≡ Some 166
unfolding heard
another_channel = refl

-- the licence is longer than it is counted, at its first byte
a_body_short : refused (changed 226 19) ≡ Some 227
unfolding heard
a_body_short = refl

-- a Demand of 16 bits for each pixel: the Bitmap set
another_depth : refused (changed 312 16) ≡ Some 308
unfolding heard
another_depth = refl

-- a width that is no multiple of four
a_crooked_width : refused (changed 320 66) ≡ Some 320
unfolding heard
a_crooked_width = refl

-- a height of 0
no_height : refused (changed 322 0) ≡ Some 322
unfolding heard
no_height = refl

-- the size is the one that Demand Active tells
another_height : (heard (changed 322 49)).after.at.size ≡ Some (record { w = 64; h = 49 })
unfolding heard
another_height = refl

-- another user channel than is usual is followed: its join is asked for
-- wrong: the user's channel is 1007, whatever the host says
another_user : (heard (slice_set (take 138 answers) 137 9)).after.at.stage ≡ Joins 1010 channel.User
unfolding heard
another_user = refl

-- an ultimatum before the Font Map is a packet like another
-- wrong: an ultimatum ends the connection before the Font Map too
an_early_end : refused (take 127 answers ++ ultimatum) ≡ Some 134
unfolding heard
an_early_end = refl

-- behind it, it is the end, and what follows isn't looked at
-- wrong: an ultimatum is passed over
an_end : (heard (answers ++ (ultimatum ++ (4 ∷ [])))).after.at.stage ≡ Over
unfolding heard
an_end = refl

nothing_behind : refused (answers ++ (ultimatum ++ (4 ∷ []))) ≡ None
unfolding heard
nothing_behind = refl

-- neither it nor an update behind it is shown
-- wrong: an ultimatum is shown
-- wrong: an update behind an ultimatum is shown
nothing_more_is_shown : (heard (answers ++ (ultimatum ++ (3 ∷ 0 ∷ 0 ∷ 7 ∷ 1 ∷ 2 ∷ 3 ∷ [])))).after.at.shown ≡ []
unfolding heard
nothing_more_is_shown = refl

-- of another reason it is none: the packet is shown
another_reason : (heard (answers ++ slice_set ultimatum 7 0x22)).after.at.stage ≡ Shown
unfolding heard
another_reason = refl

-- the bytes behind the Font Map are the viewer's, from 706 on
what_is_shown : (heard (answers ++ (3 ∷ 0 ∷ 0 ∷ 7 ∷ 1 ∷ 2 ∷ 3 ∷ 3 ∷ []))).after.at.shown ≡ 3 ∷ 0 ∷ 0 ∷ 7 ∷ 1 ∷ 2 ∷ 3 ∷ []
unfolding heard
what_is_shown = refl

-- an update that no client reads: X.224 Data should stand behind its header, at 710
a_bad_update : look_refusal plain (heard (answers ++ (3 ∷ 0 ∷ 0 ∷ 7 ∷ 1 ∷ 2 ∷ 3 ∷ []))).after ≡ Some 710
unfolding heard
a_bad_update = refl

-- it is refused there also where an ultimatum, or another version, follows
a_bad_update_first : look_refusal plain (heard (answers ++ ((3 ∷ 0 ∷ 0 ∷ 7 ∷ 1 ∷ 2 ∷ 3 ∷ []) ++ (ultimatum ++ (4 ∷ []))))).after ≡ Some 710
unfolding heard
a_bad_update_first = refl

-- another version behind the Font Map
a_bad_version : look_refusal plain (heard (answers ++ (4 ∷ []))).after ≡ Some 706
unfolding heard
a_bad_version = refl

-- ---- packets of the fast path

-- what the viewer `ann` makes of a stream that takes them
heard_fast : List ℕ → Watched
unfolding passing_at exactly_at connection_confirm server_blocks_answer conference_answer user_data_answer response_answer connect_response_answer attach_answer join_answer indication licence_answer behind_height later_answer height_and_later width_and_later demand_answer share_data_answer final_answer farewell watched
heard_fast bytes = viewer_handshake (97 ∷ 110 ∷ 110 ∷ []) (record plain { fast = true }) bytes

abbrev refused_fast : List ℕ → Option ℕ
refused_fast bytes = look_refusal (record plain { fast = true }) (heard_fast bytes).after

-- by a viewer that doesn't take them, at once
-- wrong: behind it each viewer takes them
not_taken : refused (answers ++ (0 ∷ [])) ≡ Some 706
unfolding heard
not_taken = refl

-- and before the Font Map by one that does, the packet whole or not
-- wrong: before it they are refused once they are whole
too_early : refused_fast (0 ∷ []) ≡ Some 0
unfolding heard_fast
too_early = refl

-- wrong: packets of the fast path are passed over before the Font Map
-- wrong: before it they are refused behind them
whole_too_early : refused_fast (0 ∷ 5 ∷ 3 ∷ 0 ∷ 0 ∷ []) ≡ Some 0
unfolding heard_fast
whole_too_early = refl

-- then it is read
a_mark : refused_fast (answers ++ (0 ∷ 5 ∷ 3 ∷ 0 ∷ 0 ∷ [])) ≡ None
unfolding heard_fast
a_mark = refl

-- flags, and a length below its own bytes, at once
-- wrong: their flags are ignored
flagged : refused_fast (answers ++ (0x80 ∷ [])) ≡ Some 706
unfolding heard_fast
flagged = refl

-- wrong: behind it no viewer does
-- wrong: their short length is refused at the third byte
a_length_of_one : refused_fast (answers ++ (0 ∷ 1 ∷ [])) ≡ Some 707
unfolding heard_fast
a_length_of_one = refl

-- bytes of an ultimatum in such a packet are none
no_ultimatum : refused_fast (answers ++ (0 ∷ 9 ∷ 0 ∷ 0 ∷ 2 ∷ 0xF0 ∷ 0x80 ∷ 0x21 ∷ 0x80 ∷ [])) ≡ Some 711
unfolding heard_fast
no_ultimatum = refl
