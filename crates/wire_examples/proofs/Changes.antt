-- The handshake on the sample client with one byte changed: each refusal, at its place in the stream.
use Rattle.std.proofs.Common.{◌≡◌, ℕ, List, [], ◌∷◌, ◌++◌, refl}
use Rattle.std.specs.Prelude.{slice_set}
use Rattle.px_core.specs.declared.surface.Size.{Size}
use Rattle.wire_num.specs.FieldValue.{passing_at, at_least, rest_count_at}
use Rattle.wire_num.specs.Layout.{exactly_at}
use Rattle.tpkt_x224.specs.Request.{references, request_header, after_cookie, asked_protocols}
use Rattle.mcs_ber.specs.ConnectInitial.{user_data, three_parameters, upward_flag, initial_fields, connect_initial}
use Rattle.mcs_ber.specs.ConnectResponse.{connect_response}
use Rattle.mcs_dom.specs.AttachUser.{attach_user_request}
use Rattle.mcs_dom.specs.ChannelJoin.{channel_join_request}
use Rattle.mcs_dom.specs.ErectDomain.{erect_domain_request}
use Rattle.mcs_dom.specs.SendData.{send_data_request}
use Rattle.mcs_dom.specs.Ultimatum.{ultimatum}
use Rattle.gcc_per.specs.ClientBlocks.{kind_at, length_at, block_at, blocks_at}
use Rattle.gcc_per.specs.ClientCore.{desktop_of}
use Rattle.gcc_per.specs.ClientData.{create_request, client_blocks_at, user_data_at, client_data_at}
use Rattle.gcc_per.specs.ClientNetwork.{channel_count_at, channels_at}
use Rattle.gcc_per.specs.ServerData.{create_response}
use Rattle.info_lic.specs.ClientInfo.{info_start, other_texts, info_texts, info_at}
use Rattle.caps_sets.specs.CapabilitySets.{says_bitmaps, says_glyphs}
use Rattle.caps_sets.specs.ConfirmActive.{confirm_lengths, confirm_counts, set_header, with_content_of, set_at, confirm_at}
use Rattle.caps_sets.specs.DemandActive.{before_bitmap, after_bitmap, demand_active}
use Rattle.share_pdu.specs.Bodies.{synchronize_body, control_body}
use Rattle.share_pdu.specs.ClientPdu.{total_length, control_header, data_header, compressed_type_at, data_body_at, data_pdu_at, client_pdu_at}
use Rattle.input_pdu.specs.Events.{event_at, event_count_at}
use Rattle.conn_rules.specs.Headers.{mcs_headers}
use Rattle.conn_rules.specs.Hearing.{heard, host_handshake, end_of}
use Rattle.conn_rules.specs.Hearing.StreamEnd.{RefusedAt}
use Rattle.wire_examples.proofs.Sample.{stream}

abbrev size : Size
size = record { w = 64; h = 48 }

another_version_of_the_second_packet : end_of (host_handshake size (slice_set stream 19 4)).after ≡ RefusedAt 1 19
unfolding passing_at at_least rest_count_at exactly_at references request_header after_cookie asked_protocols user_data three_parameters upward_flag initial_fields connect_initial connect_response attach_user_request channel_join_request erect_domain_request send_data_request ultimatum kind_at length_at block_at blocks_at desktop_of create_request client_blocks_at user_data_at client_data_at channel_count_at channels_at create_response info_start other_texts info_texts info_at says_bitmaps says_glyphs confirm_lengths confirm_counts set_header with_content_of set_at confirm_at before_bitmap after_bitmap demand_active synchronize_body control_body total_length control_header data_header compressed_type_at data_body_at data_pdu_at client_pdu_at event_at event_count_at mcs_headers heard
another_version_of_the_second_packet = refl

a_length_of_six_of_an_erect_domain : end_of (host_handshake size (slice_set stream 358 6)).after ≡ RefusedAt 2 357
unfolding passing_at at_least rest_count_at exactly_at references request_header after_cookie asked_protocols user_data three_parameters upward_flag initial_fields connect_initial connect_response attach_user_request channel_join_request erect_domain_request send_data_request ultimatum kind_at length_at block_at blocks_at desktop_of create_request client_blocks_at user_data_at client_data_at channel_count_at channels_at create_response info_start other_texts info_texts info_at says_bitmaps says_glyphs confirm_lengths confirm_counts set_header with_content_of set_at confirm_at before_bitmap after_bitmap demand_active synchronize_body control_body total_length control_header data_header compressed_type_at data_body_at data_pdu_at client_pdu_at event_at event_count_at mcs_headers heard
a_length_of_six_of_an_erect_domain = refl

another_data_header : end_of (host_handshake size (slice_set stream 24 0)).after ≡ RefusedAt 3 23
unfolding passing_at at_least rest_count_at exactly_at references request_header after_cookie asked_protocols user_data three_parameters upward_flag initial_fields connect_initial connect_response attach_user_request channel_join_request erect_domain_request send_data_request ultimatum kind_at length_at block_at blocks_at desktop_of create_request client_blocks_at user_data_at client_data_at channel_count_at channels_at create_response info_start other_texts info_texts info_at says_bitmaps says_glyphs confirm_lengths confirm_counts set_header with_content_of set_at confirm_at before_bitmap after_bitmap demand_active synchronize_body control_body total_length control_header data_header compressed_type_at data_body_at data_pdu_at client_pdu_at event_at event_count_at mcs_headers heard
another_data_header = refl

another_tag_of_a_connect_initial : end_of (host_handshake size (slice_set stream 26 126)).after ≡ RefusedAt 4 26
unfolding passing_at at_least rest_count_at exactly_at references request_header after_cookie asked_protocols user_data three_parameters upward_flag initial_fields connect_initial connect_response attach_user_request channel_join_request erect_domain_request send_data_request ultimatum kind_at length_at block_at blocks_at desktop_of create_request client_blocks_at user_data_at client_data_at channel_count_at channels_at create_response info_start other_texts info_texts info_at says_bitmaps says_glyphs confirm_lengths confirm_counts set_header with_content_of set_at confirm_at before_bitmap after_bitmap demand_active synchronize_body control_body total_length control_header data_header compressed_type_at data_body_at data_pdu_at client_pdu_at event_at event_count_at mcs_headers heard
another_tag_of_a_connect_initial = refl

another_choice_than_attach_user : end_of (host_handshake size (slice_set stream 374 44)).after ≡ RefusedAt 5 374
unfolding passing_at at_least rest_count_at exactly_at references request_header after_cookie asked_protocols user_data three_parameters upward_flag initial_fields connect_initial connect_response attach_user_request channel_join_request erect_domain_request send_data_request ultimatum kind_at length_at block_at blocks_at desktop_of create_request client_blocks_at user_data_at client_data_at channel_count_at channels_at create_response info_start other_texts info_texts info_at says_bitmaps says_glyphs confirm_lengths confirm_counts set_header with_content_of set_at confirm_at before_bitmap after_bitmap demand_active synchronize_body control_body total_length control_header data_header compressed_type_at data_body_at data_pdu_at client_pdu_at event_at event_count_at mcs_headers heard
another_choice_than_attach_user = refl

a_join_of_another_channel : end_of (host_handshake size (slice_set stream 386 233)).after ≡ RefusedAt 6 385
unfolding passing_at at_least rest_count_at exactly_at references request_header after_cookie asked_protocols user_data three_parameters upward_flag initial_fields connect_initial connect_response attach_user_request channel_join_request erect_domain_request send_data_request ultimatum kind_at length_at block_at blocks_at desktop_of create_request client_blocks_at user_data_at client_data_at channel_count_at channels_at create_response info_start other_texts info_texts info_at says_bitmaps says_glyphs confirm_lengths confirm_counts set_header with_content_of set_at confirm_at before_bitmap after_bitmap demand_active synchronize_body control_body total_length control_header data_header compressed_type_at data_body_at data_pdu_at client_pdu_at event_at event_count_at mcs_headers heard
a_join_of_another_channel = refl

another_key_than_duca : end_of (host_handshake size (slice_set stream 149 69)).after ≡ RefusedAt 7 149
unfolding passing_at at_least rest_count_at exactly_at references request_header after_cookie asked_protocols user_data three_parameters upward_flag initial_fields connect_initial connect_response attach_user_request channel_join_request erect_domain_request send_data_request ultimatum kind_at length_at block_at blocks_at desktop_of create_request client_blocks_at user_data_at client_data_at channel_count_at channels_at create_response info_start other_texts info_texts info_at says_bitmaps says_glyphs confirm_lengths confirm_counts set_header with_content_of set_at confirm_at before_bitmap after_bitmap demand_active synchronize_body control_body total_length control_header data_header compressed_type_at data_body_at data_pdu_at client_pdu_at event_at event_count_at mcs_headers heard
another_key_than_duca = refl

neither_depth : end_of (host_handshake size (slice_set stream 297 8)).after ≡ RefusedAt 8 155
unfolding passing_at at_least rest_count_at exactly_at references request_header after_cookie asked_protocols user_data three_parameters upward_flag initial_fields connect_initial connect_response attach_user_request channel_join_request erect_domain_request send_data_request ultimatum kind_at length_at block_at blocks_at desktop_of create_request client_blocks_at user_data_at client_data_at channel_count_at channels_at create_response info_start other_texts info_texts info_at says_bitmaps says_glyphs confirm_lengths confirm_counts set_header with_content_of set_at confirm_at before_bitmap after_bitmap demand_active synchronize_body control_body total_length control_header data_header compressed_type_at data_body_at data_pdu_at client_pdu_at event_at event_count_at mcs_headers heard
neither_depth = refl

thirty_two_channels : end_of (host_handshake size (slice_set stream 315 32)).after ≡ RefusedAt 9 315
unfolding passing_at at_least rest_count_at exactly_at references request_header after_cookie asked_protocols user_data three_parameters upward_flag initial_fields connect_initial connect_response attach_user_request channel_join_request erect_domain_request send_data_request ultimatum kind_at length_at block_at blocks_at desktop_of create_request client_blocks_at user_data_at client_data_at channel_count_at channels_at create_response info_start other_texts info_texts info_at says_bitmaps says_glyphs confirm_lengths confirm_counts set_header with_content_of set_at confirm_at before_bitmap after_bitmap demand_active synchronize_body control_body total_length control_header data_header compressed_type_at data_body_at data_pdu_at client_pdu_at event_at event_count_at mcs_headers heard
thirty_two_channels = refl

no_security_header_of_info : end_of (host_handshake size (slice_set stream 449 0)).after ≡ RefusedAt 10 449
unfolding passing_at at_least rest_count_at exactly_at references request_header after_cookie asked_protocols user_data three_parameters upward_flag initial_fields connect_initial connect_response attach_user_request channel_join_request erect_domain_request send_data_request ultimatum kind_at length_at block_at blocks_at desktop_of create_request client_blocks_at user_data_at client_data_at channel_count_at channels_at create_response info_start other_texts info_texts info_at says_bitmaps says_glyphs confirm_lengths confirm_counts set_header with_content_of set_at confirm_at before_bitmap after_bitmap demand_active synchronize_body control_body total_length control_header data_header compressed_type_at data_body_at data_pdu_at client_pdu_at event_at event_count_at mcs_headers heard
no_security_header_of_info = refl

a_capability_set_of_three_bytes : end_of (host_handshake size (slice_set stream 528 3)).after ≡ RefusedAt 11 526
unfolding passing_at at_least rest_count_at exactly_at references request_header after_cookie asked_protocols user_data three_parameters upward_flag initial_fields connect_initial connect_response attach_user_request channel_join_request erect_domain_request send_data_request ultimatum kind_at length_at block_at blocks_at desktop_of create_request client_blocks_at user_data_at client_data_at channel_count_at channels_at create_response info_start other_texts info_texts info_at says_bitmaps says_glyphs confirm_lengths confirm_counts set_header with_content_of set_at confirm_at before_bitmap after_bitmap demand_active synchronize_body control_body total_length control_header data_header compressed_type_at data_body_at data_pdu_at client_pdu_at event_at event_count_at mcs_headers heard
a_capability_set_of_three_bytes = refl

another_pdu_type_than_data : end_of (host_handshake size (slice_set stream 764 18)).after ≡ RefusedAt 12 764
unfolding passing_at at_least rest_count_at exactly_at references request_header after_cookie asked_protocols user_data three_parameters upward_flag initial_fields connect_initial connect_response attach_user_request channel_join_request erect_domain_request send_data_request ultimatum kind_at length_at block_at blocks_at desktop_of create_request client_blocks_at user_data_at client_data_at channel_count_at channels_at create_response info_start other_texts info_texts info_at says_bitmaps says_glyphs confirm_lengths confirm_counts set_header with_content_of set_at confirm_at before_bitmap after_bitmap demand_active synchronize_body control_body total_length control_header data_header compressed_type_at data_body_at data_pdu_at client_pdu_at event_at event_count_at mcs_headers heard
another_pdu_type_than_data = refl

a_compressed_synchronize : end_of (host_handshake size (slice_set stream 777 32)).after ≡ RefusedAt 13 777
unfolding passing_at at_least rest_count_at exactly_at references request_header after_cookie asked_protocols user_data three_parameters upward_flag initial_fields connect_initial connect_response attach_user_request channel_join_request erect_domain_request send_data_request ultimatum kind_at length_at block_at blocks_at desktop_of create_request client_blocks_at user_data_at client_data_at channel_count_at channels_at create_response info_start other_texts info_texts info_at says_bitmaps says_glyphs confirm_lengths confirm_counts set_header with_content_of set_at confirm_at before_bitmap after_bitmap demand_active synchronize_body control_body total_length control_header data_header compressed_type_at data_body_at data_pdu_at client_pdu_at event_at event_count_at mcs_headers heard
a_compressed_synchronize = refl

-- both headers of an Input PDU; it counts two events, and one is there
abbrev half_an_input : List ℕ
half_an_input = (3 ∷ 0 ∷ 0 ∷ 48 ∷ 2 ∷ 240 ∷ 128 ∷ 100 ∷ 0 ∷ 6 ∷ 3 ∷ 235 ∷ 112 ∷ 34 ∷ 34 ∷ 0 ∷ 23 ∷ 0 ∷ 239 ∷ 3 ∷ 234 ∷ 3 ∷ 1 ∷ 0 ∷ 0 ∷ 1 ∷ 20 ∷ 0 ∷ 28 ∷ 0 ∷ 0 ∷ 0 ∷ []) ++ ((2 ∷ 0 ∷ 0 ∷ 0 ∷ []) ++ (0 ∷ 0 ∷ 0 ∷ 0 ∷ 1 ∷ 128 ∷ 0 ∷ 144 ∷ 20 ∷ 0 ∷ 30 ∷ 0 ∷ []))

an_input_with_an_event_too_few : end_of (host_handshake size (stream ++ half_an_input)).after ≡ RefusedAt 14 952
unfolding passing_at at_least rest_count_at exactly_at references request_header after_cookie asked_protocols user_data three_parameters upward_flag initial_fields connect_initial connect_response attach_user_request channel_join_request erect_domain_request send_data_request ultimatum kind_at length_at block_at blocks_at desktop_of create_request client_blocks_at user_data_at client_data_at channel_count_at channels_at create_response info_start other_texts info_texts info_at says_bitmaps says_glyphs confirm_lengths confirm_counts set_header with_content_of set_at confirm_at before_bitmap after_bitmap demand_active synchronize_body control_body total_length control_header data_header compressed_type_at data_body_at data_pdu_at client_pdu_at event_at event_count_at mcs_headers heard
an_input_with_an_event_too_few = refl
