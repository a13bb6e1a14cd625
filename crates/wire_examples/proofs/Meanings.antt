-- A sample client that sends other packets, or in another order: what each is answered, told or refused by.
use Rattle.std.proofs.Common.{◌≡◌, ℕ, List, [], ◌∷◌, ◌++◌, take, drop, refl, true}
use Rattle.std.specs.Prelude.{slice_set, pos}
use Rattle.px_core.specs.declared.surface.Size.{Size}
use Rattle.wire_num.specs.FieldValue.{passing_at, at_least, rest_count_at}
use Rattle.wire_num.specs.Layout.{exactly_at}
use Rattle.tpkt_x224.specs.Request.{references, request_header, after_cookie, asked_protocols}
use Rattle.mcs_ber.specs.ConnectInitial.{user_data, three_parameters, upward_flag, initial_fields, connect_initial}
use Rattle.mcs_ber.specs.ConnectResponse.{connect_response}
use Rattle.mcs_dom.specs.AttachUser.{attach_user_request}
use Rattle.mcs_dom.specs.ChannelJoin.{channel_join_request}
use Rattle.mcs_dom.specs.ErectDomain.{erect_domain_request}
use Rattle.mcs_dom.specs.SendData.{send_data_request}
use Rattle.mcs_dom.specs.Ultimatum.{ultimatum}
use Rattle.gcc_per.specs.ClientBlocks.{kind_at, length_at, block_at, blocks_at}
use Rattle.gcc_per.specs.ClientCore.{desktop_of}
use Rattle.gcc_per.specs.ClientData.{create_request, client_blocks_at, user_data_at, client_data_at}
use Rattle.gcc_per.specs.ClientNetwork.{channel_count_at, channels_at}
use Rattle.gcc_per.specs.ServerData.{create_response}
use Rattle.info_lic.specs.ClientInfo.{info_start, other_texts, info_texts, info_at}
use Rattle.caps_sets.specs.CapabilitySets.{says_bitmaps, says_glyphs}
use Rattle.caps_sets.specs.ConfirmActive.{confirm_lengths, confirm_counts, set_header, with_content_of, set_at, confirm_at}
use Rattle.caps_sets.specs.DemandActive.{before_bitmap, after_bitmap, demand_active}
use Rattle.share_pdu.specs.Bodies.{synchronize_body, control_body}
use Rattle.share_pdu.specs.ClientPdu.{total_length, control_header, data_header, compressed_type_at, data_body_at, data_pdu_at, client_pdu_at}
use Rattle.input_pdu.specs.Events.{event_at, event_count_at}
use Rattle.conn_rules.specs.Headers.{mcs_headers}
use Rattle.conn_rules.specs.Hearing.{heard, host_handshake, end_of, StreamEnd}
use Rattle.conn_rules.specs.Hearing.StreamEnd.{Between, RefusedAt}
use Rattle.px_core.specs.Rectangle.{boxed}
use Rattle.caps_sets.specs.Confirmed.{plain}
use Rattle.conn_rules.specs.declared.conn_step.ConnStep.{ConnStep}
use Rattle.conn_rules.specs.declared.conn_step.ConnStep.TheVariants as step
use Rattle.share_pdu.specs.Bodies.{suppress_body, refresh_header, inclusive_area, area_at, refresh_at, passed_refresh_at}
use Rattle.wire_examples.proofs.Sample.{connection_request, initial, erect_domain, attach_user, join_io, client_info, confirm_active, synchronize, cooperate, font_list, stream, answers}

abbrev size : Size
size = record { w = 64; h = 48 }

abbrev end_after : List ℕ → StreamEnd
end_after bytes = end_of (host_handshake size bytes).after

-- what is told once the sample client is ready
abbrev told_after : List ℕ → List ConnStep
told_after bytes = drop 2 (host_handshake size (stream ++ bytes)).steps

-- ---- packets

-- an MCS disconnect provider ultimatum, by the user
abbrev ultimatum_packet : List ℕ
ultimatum_packet = 3 ∷ 0 ∷ 0 ∷ 9 ∷ 2 ∷ 240 ∷ 128 ∷ 0x21 ∷ 0x80 ∷ []

-- data PDUs of these types, each with its body
abbrev shutdown_request : List ℕ
shutdown_request = 3 ∷ 0 ∷ 0 ∷ 32 ∷ 2 ∷ 240 ∷ 128 ∷ 100 ∷ 0 ∷ 6 ∷ 3 ∷ 235 ∷ 112 ∷ 18 ∷ 18 ∷ 0 ∷ 23 ∷ 0 ∷ 239 ∷ 3 ∷ 234 ∷ 3 ∷ 1 ∷ 0 ∷ 0 ∷ 1 ∷ 4 ∷ 0 ∷ 0x24 ∷ 0 ∷ 0 ∷ 0 ∷ []

abbrev key_list : List ℕ
key_list = 3 ∷ 0 ∷ 0 ∷ 32 ∷ 2 ∷ 240 ∷ 128 ∷ 100 ∷ 0 ∷ 6 ∷ 3 ∷ 235 ∷ 112 ∷ 18 ∷ 18 ∷ 0 ∷ 23 ∷ 0 ∷ 239 ∷ 3 ∷ 234 ∷ 3 ∷ 1 ∷ 0 ∷ 0 ∷ 1 ∷ 4 ∷ 0 ∷ 0x2B ∷ 0 ∷ 0 ∷ 0 ∷ []

abbrev suppress : List ℕ
suppress = 3 ∷ 0 ∷ 0 ∷ 36 ∷ 2 ∷ 240 ∷ 128 ∷ 100 ∷ 0 ∷ 6 ∷ 3 ∷ 235 ∷ 112 ∷ 22 ∷ 22 ∷ 0 ∷ 23 ∷ 0 ∷ 239 ∷ 3 ∷ 234 ∷ 3 ∷ 1 ∷ 0 ∷ 0 ∷ 1 ∷ 8 ∷ 0 ∷ 0x23 ∷ 0 ∷ 0 ∷ 0 ∷ 0 ∷ 0 ∷ 0 ∷ 0 ∷ []

-- one area, from (5, 6) to (7, 6)
abbrev refresh : List ℕ
refresh = 3 ∷ 0 ∷ 0 ∷ 44 ∷ 2 ∷ 240 ∷ 128 ∷ 100 ∷ 0 ∷ 6 ∷ 3 ∷ 235 ∷ 112 ∷ 30 ∷ 30 ∷ 0 ∷ 23 ∷ 0 ∷ 239 ∷ 3 ∷ 234 ∷ 3 ∷ 1 ∷ 0 ∷ 0 ∷ 1 ∷ 16 ∷ 0 ∷ 0x21 ∷ 0 ∷ 0 ∷ 0
    ∷ 1 ∷ 0 ∷ 0 ∷ 0 ∷ 5 ∷ 0 ∷ 6 ∷ 0 ∷ 7 ∷ 0 ∷ 6 ∷ 0 ∷ []

-- data on the user channel 1007
abbrev on_the_user_channel : List ℕ
on_the_user_channel = 3 ∷ 0 ∷ 0 ∷ 15 ∷ 2 ∷ 240 ∷ 128 ∷ 100 ∷ 0 ∷ 6 ∷ 3 ∷ 239 ∷ 112 ∷ 1 ∷ 9 ∷ []

-- ---- channels

-- wrong: data on the user channel are refused
data_on_the_user_channel_are_dropped : end_after (stream ++ on_the_user_channel) ≡ Between
unfolding passing_at at_least rest_count_at exactly_at references request_header after_cookie asked_protocols user_data three_parameters upward_flag initial_fields connect_initial connect_response attach_user_request channel_join_request erect_domain_request send_data_request ultimatum kind_at length_at block_at blocks_at desktop_of create_request client_blocks_at user_data_at client_data_at channel_count_at channels_at create_response info_start other_texts info_texts info_at says_bitmaps says_glyphs confirm_lengths confirm_counts set_header with_content_of set_at confirm_at before_bitmap after_bitmap demand_active synchronize_body control_body total_length control_header data_header compressed_type_at data_body_at data_pdu_at client_pdu_at event_at event_count_at mcs_headers heard suppress_body refresh_header inclusive_area area_at refresh_at passed_refresh_at
data_on_the_user_channel_are_dropped = refl

-- user 1006 in place of 1007
-- wrong: a join by another initiator is answered
a_join_by_another_initiator : end_after (slice_set stream 384 5) ≡ RefusedAt 6 383
unfolding passing_at at_least rest_count_at exactly_at references request_header after_cookie asked_protocols user_data three_parameters upward_flag initial_fields connect_initial connect_response attach_user_request channel_join_request erect_domain_request send_data_request ultimatum kind_at length_at block_at blocks_at desktop_of create_request client_blocks_at user_data_at client_data_at channel_count_at channels_at create_response info_start other_texts info_texts info_at says_bitmaps says_glyphs confirm_lengths confirm_counts set_header with_content_of set_at confirm_at before_bitmap after_bitmap demand_active synchronize_body control_body total_length control_header data_header compressed_type_at data_body_at data_pdu_at client_pdu_at event_at event_count_at mcs_headers heard suppress_body refresh_header inclusive_area area_at refresh_at passed_refresh_at
a_join_by_another_initiator = refl

-- 1003 is joined, and the user channel isn't: the Client Info is refused at its channel
-- wrong: Client Info once 1003 alone is joined
-- wrong: data too early are refused at the initiator
client_info_before_a_join : end_after (connection_request ++ (initial ++ (erect_domain ++ (attach_user ++ (join_io ++ client_info))))) ≡ RefusedAt 6 397
unfolding passing_at at_least rest_count_at exactly_at references request_header after_cookie asked_protocols user_data three_parameters upward_flag initial_fields connect_initial connect_response attach_user_request channel_join_request erect_domain_request send_data_request ultimatum kind_at length_at block_at blocks_at desktop_of create_request client_blocks_at user_data_at client_data_at channel_count_at channels_at create_response info_start other_texts info_texts info_at says_bitmaps says_glyphs confirm_lengths confirm_counts set_header with_content_of set_at confirm_at before_bitmap after_bitmap demand_active synchronize_body control_body total_length control_header data_header compressed_type_at data_body_at data_pdu_at client_pdu_at event_at event_count_at mcs_headers heard suppress_body refresh_header inclusive_area area_at refresh_at passed_refresh_at
client_info_before_a_join = refl

-- ---- the end

-- wrong: an ultimatum in place of Erect Domain is refused
an_ultimatum_in_place_of_erect_domain : (host_handshake size (connection_request ++ (initial ++ ultimatum_packet))).steps ≡ step.Bye ∷ []
unfolding passing_at at_least rest_count_at exactly_at references request_header after_cookie asked_protocols user_data three_parameters upward_flag initial_fields connect_initial connect_response attach_user_request channel_join_request erect_domain_request send_data_request ultimatum kind_at length_at block_at blocks_at desktop_of create_request client_blocks_at user_data_at client_data_at channel_count_at channels_at create_response info_start other_texts info_texts info_at says_bitmaps says_glyphs confirm_lengths confirm_counts set_header with_content_of set_at confirm_at before_bitmap after_bitmap demand_active synchronize_body control_body total_length control_header data_header compressed_type_at data_body_at data_pdu_at client_pdu_at event_at event_count_at mcs_headers heard suppress_body refresh_header inclusive_area area_at refresh_at passed_refresh_at
an_ultimatum_in_place_of_erect_domain = refl

-- what follows isn't looked at
-- wrong: a Shutdown Request is told as Bye
a_shutdown_ends_the_stream : (host_handshake size (stream ++ (shutdown_request ++ (9 ∷ 9 ∷ [])))).steps ≡ step.Named (97 ∷ 110 ∷ 110 ∷ []) ∷ step.Ready plain ∷ step.Shutdown ∷ step.Packet ∷ []
unfolding passing_at at_least rest_count_at exactly_at references request_header after_cookie asked_protocols user_data three_parameters upward_flag initial_fields connect_initial connect_response attach_user_request channel_join_request erect_domain_request send_data_request ultimatum kind_at length_at block_at blocks_at desktop_of create_request client_blocks_at user_data_at client_data_at channel_count_at channels_at create_response info_start other_texts info_texts info_at says_bitmaps says_glyphs confirm_lengths confirm_counts set_header with_content_of set_at confirm_at before_bitmap after_bitmap demand_active synchronize_body control_body total_length control_header data_header compressed_type_at data_body_at data_pdu_at client_pdu_at event_at event_count_at mcs_headers heard suppress_body refresh_header inclusive_area area_at refresh_at passed_refresh_at
a_shutdown_ends_the_stream = refl

an_ultimatum_ends_the_stream : (host_handshake size (stream ++ (ultimatum_packet ++ (9 ∷ 9 ∷ [])))).steps ≡ step.Named (97 ∷ 110 ∷ 110 ∷ []) ∷ step.Ready plain ∷ step.Bye ∷ step.Packet ∷ []
unfolding passing_at at_least rest_count_at exactly_at references request_header after_cookie asked_protocols user_data three_parameters upward_flag initial_fields connect_initial connect_response attach_user_request channel_join_request erect_domain_request send_data_request ultimatum kind_at length_at block_at blocks_at desktop_of create_request client_blocks_at user_data_at client_data_at channel_count_at channels_at create_response info_start other_texts info_texts info_at says_bitmaps says_glyphs confirm_lengths confirm_counts set_header with_content_of set_at confirm_at before_bitmap after_bitmap demand_active synchronize_body control_body total_length control_header data_header compressed_type_at data_body_at data_pdu_at client_pdu_at event_at event_count_at mcs_headers heard suppress_body refresh_header inclusive_area area_at refresh_at passed_refresh_at
an_ultimatum_ends_the_stream = refl

-- by the provider (reason 1) in place of the user (reason 3)
-- wrong: only an ultimatum of reason 3 ends the stream
an_ultimatum_of_another_reason : told_after (3 ∷ 0 ∷ 0 ∷ 9 ∷ 2 ∷ 240 ∷ 128 ∷ 0x20 ∷ 0x80 ∷ []) ≡ step.Bye ∷ step.Packet ∷ []
unfolding passing_at at_least rest_count_at exactly_at references request_header after_cookie asked_protocols user_data three_parameters upward_flag initial_fields connect_initial connect_response attach_user_request channel_join_request erect_domain_request send_data_request ultimatum kind_at length_at block_at blocks_at desktop_of create_request client_blocks_at user_data_at client_data_at channel_count_at channels_at create_response info_start other_texts info_texts info_at says_bitmaps says_glyphs confirm_lengths confirm_counts set_header with_content_of set_at confirm_at before_bitmap after_bitmap demand_active synchronize_body control_body total_length control_header data_header compressed_type_at data_body_at data_pdu_at client_pdu_at event_at event_count_at mcs_headers heard suppress_body refresh_header inclusive_area area_at refresh_at passed_refresh_at
an_ultimatum_of_another_reason = refl

-- ---- the order of share PDUs

-- the stream as far as the Client Info: 487 bytes
abbrev welcomed : List ℕ
welcomed = take 487 stream

-- wrong: a Shutdown Request before the Confirm is dropped
a_shutdown_before_the_confirm : end_after (welcomed ++ shutdown_request) ≡ RefusedAt 12 501
unfolding passing_at at_least rest_count_at exactly_at references request_header after_cookie asked_protocols user_data three_parameters upward_flag initial_fields connect_initial connect_response attach_user_request channel_join_request erect_domain_request send_data_request ultimatum kind_at length_at block_at blocks_at desktop_of create_request client_blocks_at user_data_at client_data_at channel_count_at channels_at create_response info_start other_texts info_texts info_at says_bitmaps says_glyphs confirm_lengths confirm_counts set_header with_content_of set_at confirm_at before_bitmap after_bitmap demand_active synchronize_body control_body total_length control_header data_header compressed_type_at data_body_at data_pdu_at client_pdu_at event_at event_count_at mcs_headers heard suppress_body refresh_header inclusive_area area_at refresh_at passed_refresh_at
a_shutdown_before_the_confirm = refl

-- wrong: a Synchronize before the Confirm is dropped
a_synchronize_before_the_confirm : end_after (welcomed ++ synchronize) ≡ RefusedAt 12 501
unfolding passing_at at_least rest_count_at exactly_at references request_header after_cookie asked_protocols user_data three_parameters upward_flag initial_fields connect_initial connect_response attach_user_request channel_join_request erect_domain_request send_data_request ultimatum kind_at length_at block_at blocks_at desktop_of create_request client_blocks_at user_data_at client_data_at channel_count_at channels_at create_response info_start other_texts info_texts info_at says_bitmaps says_glyphs confirm_lengths confirm_counts set_header with_content_of set_at confirm_at before_bitmap after_bitmap demand_active synchronize_body control_body total_length control_header data_header compressed_type_at data_body_at data_pdu_at client_pdu_at event_at event_count_at mcs_headers heard suppress_body refresh_header inclusive_area area_at refresh_at passed_refresh_at
a_synchronize_before_the_confirm = refl

-- wrong: a second Confirm in the finalisation is dropped
a_second_confirm : end_after (welcomed ++ (confirm_active ++ confirm_active)) ≡ RefusedAt 12 763
unfolding passing_at at_least rest_count_at exactly_at references request_header after_cookie asked_protocols user_data three_parameters upward_flag initial_fields connect_initial connect_response attach_user_request channel_join_request erect_domain_request send_data_request ultimatum kind_at length_at block_at blocks_at desktop_of create_request client_blocks_at user_data_at client_data_at channel_count_at channels_at create_response info_start other_texts info_texts info_at says_bitmaps says_glyphs confirm_lengths confirm_counts set_header with_content_of set_at confirm_at before_bitmap after_bitmap demand_active synchronize_body control_body total_length control_header data_header compressed_type_at data_body_at data_pdu_at client_pdu_at event_at event_count_at mcs_headers heard suppress_body refresh_header inclusive_area area_at refresh_at passed_refresh_at
a_second_confirm = refl

-- behind Synchronize and Cooperate, before Request
-- wrong: a key list before Request is dropped
a_key_list_too_early : end_after (welcomed ++ (confirm_active ++ (synchronize ++ (cooperate ++ key_list)))) ≡ RefusedAt 12 838
unfolding passing_at at_least rest_count_at exactly_at references request_header after_cookie asked_protocols user_data three_parameters upward_flag initial_fields connect_initial connect_response attach_user_request channel_join_request erect_domain_request send_data_request ultimatum kind_at length_at block_at blocks_at desktop_of create_request client_blocks_at user_data_at client_data_at channel_count_at channels_at create_response info_start other_texts info_texts info_at says_bitmaps says_glyphs confirm_lengths confirm_counts set_header with_content_of set_at confirm_at before_bitmap after_bitmap demand_active synchronize_body control_body total_length control_header data_header compressed_type_at data_body_at data_pdu_at client_pdu_at event_at event_count_at mcs_headers heard suppress_body refresh_header inclusive_area area_at refresh_at passed_refresh_at
a_key_list_too_early = refl

a_second_font_list_is_not_answered : (host_handshake size (stream ++ font_list)).replies ≡ answers
unfolding passing_at at_least rest_count_at exactly_at references request_header after_cookie asked_protocols user_data three_parameters upward_flag initial_fields connect_initial connect_response attach_user_request channel_join_request erect_domain_request send_data_request ultimatum kind_at length_at block_at blocks_at desktop_of create_request client_blocks_at user_data_at client_data_at channel_count_at channels_at create_response info_start other_texts info_texts info_at says_bitmaps says_glyphs confirm_lengths confirm_counts set_header with_content_of set_at confirm_at before_bitmap after_bitmap demand_active synchronize_body control_body total_length control_header data_header compressed_type_at data_body_at data_pdu_at client_pdu_at event_at event_count_at mcs_headers heard suppress_body refresh_header inclusive_area area_at refresh_at passed_refresh_at
a_second_font_list_is_not_answered = refl

-- wrong: once ready a Font List is refused
a_second_font_list_is_not_refused : end_after (stream ++ font_list) ≡ Between
unfolding passing_at at_least rest_count_at exactly_at references request_header after_cookie asked_protocols user_data three_parameters upward_flag initial_fields connect_initial connect_response attach_user_request channel_join_request erect_domain_request send_data_request ultimatum kind_at length_at block_at blocks_at desktop_of create_request client_blocks_at user_data_at client_data_at channel_count_at channels_at create_response info_start other_texts info_texts info_at says_bitmaps says_glyphs confirm_lengths confirm_counts set_header with_content_of set_at confirm_at before_bitmap after_bitmap demand_active synchronize_body control_body total_length control_header data_header compressed_type_at data_body_at data_pdu_at client_pdu_at event_at event_count_at mcs_headers heard suppress_body refresh_header inclusive_area area_at refresh_at passed_refresh_at
a_second_font_list_is_not_refused = refl

-- ---- what is told once a client is ready

-- wrong: once ready a Suppress Output is dropped
a_suppression_is_told : told_after suppress ≡ step.Suppress true ∷ step.Packet ∷ []
unfolding passing_at at_least rest_count_at exactly_at references request_header after_cookie asked_protocols user_data three_parameters upward_flag initial_fields connect_initial connect_response attach_user_request channel_join_request erect_domain_request send_data_request ultimatum kind_at length_at block_at blocks_at desktop_of create_request client_blocks_at user_data_at client_data_at channel_count_at channels_at create_response info_start other_texts info_texts info_at says_bitmaps says_glyphs confirm_lengths confirm_counts set_header with_content_of set_at confirm_at before_bitmap after_bitmap demand_active synchronize_body control_body total_length control_header data_header compressed_type_at data_body_at data_pdu_at client_pdu_at event_at event_count_at mcs_headers heard suppress_body refresh_header inclusive_area area_at refresh_at passed_refresh_at
a_suppression_is_told = refl

-- wrong: a Refresh Rect tells nothing
an_area_is_told : told_after refresh ≡ step.Refresh (boxed (pos 5) (pos 6) 3 1) ∷ step.Packet ∷ []
unfolding passing_at at_least rest_count_at exactly_at references request_header after_cookie asked_protocols user_data three_parameters upward_flag initial_fields connect_initial connect_response attach_user_request channel_join_request erect_domain_request send_data_request ultimatum kind_at length_at block_at blocks_at desktop_of create_request client_blocks_at user_data_at client_data_at channel_count_at channels_at create_response info_start other_texts info_texts info_at says_bitmaps says_glyphs confirm_lengths confirm_counts set_header with_content_of set_at confirm_at before_bitmap after_bitmap demand_active synchronize_body control_body total_length control_header data_header compressed_type_at data_body_at data_pdu_at client_pdu_at event_at event_count_at mcs_headers heard suppress_body refresh_header inclusive_area area_at refresh_at passed_refresh_at
an_area_is_told = refl
