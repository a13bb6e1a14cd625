-- The definitions on the sample client, which is the viewer `ann` that confirms what `plain` does; and what other viewers send, by their names and capabilities.
use Rattle.std.proofs.Common.{◌≡◌, ℕ, true, List, [], ◌∷◌, ◌++◌, take, drop, replicate, refl}
use Rattle.std.specs.Prelude.{Some, slice_set}
use Rattle.px_core.specs.declared.depth.Depth.TheVariants.{Bits24, Bits16}
use Rattle.px_core.specs.declared.surface.Size.{Size}
use Rattle.wire_num.specs.FieldValue.{passing_at}
use Rattle.wire_num.specs.Layout.{exactly_at}
use Rattle.mcs_ber.specs.ConnectResponse.{connect_response}
use Rattle.gcc_per.specs.ServerData.{create_response}
use Rattle.caps_sets.specs.Confirmed.{plain, full, marked}
use Rattle.caps_sets.specs.DemandActive.{before_bitmap, after_bitmap, demand_active}
use Rattle.viewer_rules.specs.declared.stage.Stage.TheVariants.{Shown}
use Rattle.viewer_rules.specs.ClientPackets.{connection_request, connect_initial, client_info, confirm_active, general_of, order_of, brush_of}
use Rattle.viewer_rules.specs.HostAnswers.{connection_confirm, server_blocks_answer, conference_answer, user_data_answer, response_answer, connect_response_answer, attach_answer, join_answer, indication, licence_answer, behind_height, later_answer, height_and_later, width_and_later, demand_answer, share_data_answer, final_answer, farewell}
use Rattle.viewer_rules.specs.ViewerHandshake.{Watched, watched, viewer_handshake}
use Rattle.viewer_rules.specs.Rounds.{greeting, answers as all_answers, joined}
use Rattle.wire_examples.proofs.Sample.{stream, answers, initial, connection_request as sample_request}

abbrev ann : List ℕ
ann = 97 ∷ 110 ∷ 110 ∷ []

abbrev size : Size
size = record { w = 64; h = 48 }

-- ---- what the viewer sends

the_request : connection_request ≡ sample_request
the_request = refl

-- wrong: the depth isn't asked for
the_initial : connect_initial 24 ≡ initial
the_initial = refl

-- of a viewer at 16 bits
the_initial_at_sixteen_bits : connect_initial 16 ≡ slice_set initial 276 16
the_initial_at_sixteen_bits = refl

-- Confirm Active begins so
-- wrong: a bitmap cache fewer is confirmed (a law refuses it too)
the_confirm : take 38 (confirm_active 1007 plain)
    ≡ 3 ∷ 0 ∷ 1 ∷ 5 ∷ 2 ∷ 0xF0 ∷ 0x80 ∷ 0x64 ∷ 0 ∷ 6 ∷ 3 ∷ 0xEB ∷ 0x70 ∷ 0x80 ∷ 0xF6 ∷ 0xF6 ∷ 0 ∷ 0x13 ∷ 0 ∷ 0xEF ∷ 3 ∷ 0xEA ∷ 3 ∷ 1 ∷ 0 ∷ 0xEA ∷ 3 ∷ 4 ∷ 0 ∷ 0xE2 ∷ 0 ∷ 0x52 ∷ 0x44 ∷ 0x50 ∷ 0 ∷ 6 ∷ 0 ∷ 0 ∷ []
the_confirm = refl

the_greeting : joined (greeting ann plain) ≡ stream
the_greeting = refl

its_greeting_at_sixteen_bits : joined (greeting ann (record plain { depth = Bits16 })) ≡ slice_set stream 295 16
its_greeting_at_sixteen_bits = refl

the_answers : joined (all_answers size Bits24) ≡ answers
unfolding connect_response create_response before_bitmap after_bitmap demand_active
the_answers = refl

the_answers_at_sixteen_bits : joined (all_answers size Bits16) ≡ slice_set answers 312 16
unfolding connect_response create_response before_bitmap after_bitmap demand_active
the_answers_at_sixteen_bits = refl

-- ---- what it makes of the host's answers

heard : List ℕ → Watched
unfolding passing_at exactly_at connection_confirm server_blocks_answer conference_answer user_data_answer response_answer connect_response_answer attach_answer join_answer indication licence_answer behind_height later_answer height_and_later width_and_later demand_answer share_data_answer final_answer farewell watched
heard bytes = viewer_handshake ann plain bytes

its_request : (heard []).text ≡ sample_request
unfolding heard
its_request = refl

-- wrong: Client Info goes before the last join (a law refuses it too)
all_is_sent : (heard answers).text ≡ stream
unfolding heard
all_is_sent = refl

is_shown : (heard answers).after.at.stage ≡ Shown
unfolding heard
is_shown = refl

knows_the_size : (heard answers).after.at.size ≡ Some size
unfolding heard
knows_the_size = refl

-- one join at a time: the first behind the user's channel, each other one behind the confirm of the one before; and Client Info behind the confirm of the last
-- wrong: all joins go at once, behind the confirm of the user's channel
first_join : (heard (take 138 answers)).text ≡ take 387 stream
unfolding heard
first_join = refl

second_join : (heard (take 153 answers)).text ≡ take 399 stream
unfolding heard
second_join = refl

-- wrong: Client Info goes with the last join, before its confirm
last_join : (heard (take 198 answers)).text ≡ take 435 stream
unfolding heard
last_join = refl

its_name : (heard (take 213 answers)).text ≡ take 487 stream
unfolding heard
its_name = refl

-- the first update stands at 706
begins_behind : (heard answers).after.at.start ≡ 706
unfolding heard
begins_behind = refl

-- ---- names and capabilities

-- up to 47 letters the length of Client Info's data has one byte, from 48 on two
name_of_47 : take 15 (client_info 1007 (replicate 47 97)) ≡ 3 ∷ 0 ∷ 0 ∷ 0x8C ∷ 2 ∷ 0xF0 ∷ 0x80 ∷ 0x64 ∷ 0 ∷ 6 ∷ 3 ∷ 0xEB ∷ 0x70 ∷ 0x7E ∷ 0x40 ∷ []
name_of_47 = refl

name_of_48 : take 16 (client_info 1007 (replicate 48 97)) ≡ 3 ∷ 0 ∷ 0 ∷ 0x8F ∷ 2 ∷ 0xF0 ∷ 0x80 ∷ 0x64 ∷ 0 ∷ 6 ∷ 3 ∷ 0xEB ∷ 0x70 ∷ 0x80 ∷ 0x80 ∷ 0x40 ∷ []
name_of_48 = refl

name_of_64 : take 16 (client_info 1007 (replicate 64 97)) ≡ 3 ∷ 0 ∷ 0 ∷ 0xAF ∷ 2 ∷ 0xF0 ∷ 0x80 ∷ 0x64 ∷ 0 ∷ 6 ∷ 3 ∷ 0xEB ∷ 0x70 ∷ 0x80 ∷ 0xA0 ∷ 0x40 ∷ []
name_of_64 = refl

-- a name of one letter: its count, 2, at 28
-- wrong: a name's count is one of letters, and not of bytes (a law refuses it too)
name_of_1 : drop 28 (client_info 1007 (98 ∷ [])) ≡ 2 ∷ 0 ∷ (replicate 8 0 ++ (98 ∷ 0 ∷ replicate 8 0))
name_of_1 = refl

-- zero bounds deltas; frame markers at 70
order_flags : take 4 (drop 34 (order_of full)) ≡ 0x8A ∷ 0 ∷ 1 ∷ 1 ∷ []
order_flags = refl

markers : take 2 (drop 70 (order_of marked)) ≡ 4 ∷ 0 ∷ []
markers = refl

-- brushes by level 1, and by level 2 of a cautious client, which states a protocol version
-- wrong: all take brushes by level 2
brushes : brush_of full ≡ 15 ∷ 0 ∷ 8 ∷ 0 ∷ 1 ∷ 0 ∷ 0 ∷ 0 ∷ []
brushes = refl

cautious_brushes : brush_of (record full { cautious = true }) ≡ 15 ∷ 0 ∷ 8 ∷ 0 ∷ 2 ∷ 0 ∷ 0 ∷ 0 ∷ []
cautious_brushes = refl

no_brushes : brush_of plain ≡ 15 ∷ 0 ∷ 8 ∷ 0 ∷ 0 ∷ 0 ∷ 0 ∷ 0 ∷ []
no_brushes = refl

cautious_version : take 16 (general_of (record full { cautious = true })) ≡ 1 ∷ 0 ∷ 24 ∷ 0 ∷ 0 ∷ 0 ∷ 0 ∷ 0 ∷ 0 ∷ 2 ∷ 0 ∷ 0 ∷ 0 ∷ 0 ∷ 0 ∷ 4 ∷ []
cautious_version = refl

-- the fast path, beside bitmaps without a header and alone
-- wrong: the fast path is confirmed by another bit, or by none
fast_flags : take 16 (general_of (record full { fast = true })) ≡ 1 ∷ 0 ∷ 24 ∷ 0 ∷ 0 ∷ 0 ∷ 0 ∷ 0 ∷ 0 ∷ 0 ∷ 0 ∷ 0 ∷ 0 ∷ 0 ∷ 1 ∷ 4 ∷ []
fast_flags = refl

-- wrong: it is confirmed beside bitmaps without a header alone
fast_alone : take 16 (general_of (record plain { fast = true })) ≡ 1 ∷ 0 ∷ 24 ∷ 0 ∷ 0 ∷ 0 ∷ 0 ∷ 0 ∷ 0 ∷ 0 ∷ 0 ∷ 0 ∷ 0 ∷ 0 ∷ 1 ∷ 0 ∷ []
fast_alone = refl
