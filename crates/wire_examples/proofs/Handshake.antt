-- The handshake on the sample client, whole and in its first packets.
use Rattle.std.proofs.Common.{◌≡◌, [], ◌∷◌, ◌++◌, take, refl}
use Rattle.std.specs.Prelude.{slice_set}
use Rattle.px_core.specs.declared.surface.Size.{Size}
use Rattle.wire_num.specs.FieldValue.{passing_at, at_least, rest_count_at}
use Rattle.wire_num.specs.Layout.{exactly_at}
use Rattle.tpkt_x224.specs.Request.{references, request_header, after_cookie, asked_protocols}
use Rattle.mcs_ber.specs.ConnectInitial.{user_data, three_parameters, upward_flag, initial_fields, connect_initial}
use Rattle.mcs_ber.specs.ConnectResponse.{connect_response}
use Rattle.mcs_dom.specs.AttachUser.{attach_user_request}
use Rattle.mcs_dom.specs.ChannelJoin.{channel_join_request}
use Rattle.mcs_dom.specs.ErectDomain.{erect_domain_request}
use Rattle.mcs_dom.specs.SendData.{send_data_request}
use Rattle.mcs_dom.specs.Ultimatum.{ultimatum}
use Rattle.gcc_per.specs.ClientBlocks.{kind_at, length_at, block_at, blocks_at}
use Rattle.gcc_per.specs.ClientCore.{desktop_of}
use Rattle.gcc_per.specs.ClientData.{create_request, client_blocks_at, user_data_at, client_data_at}
use Rattle.gcc_per.specs.ClientNetwork.{channel_count_at, channels_at}
use Rattle.gcc_per.specs.ServerData.{create_response}
use Rattle.info_lic.specs.ClientInfo.{info_start, other_texts, info_texts, info_at}
use Rattle.caps_sets.specs.CapabilitySets.{says_bitmaps, says_glyphs}
use Rattle.caps_sets.specs.ConfirmActive.{confirm_lengths, confirm_counts, set_header, with_content_of, set_at, confirm_at}
use Rattle.caps_sets.specs.DemandActive.{before_bitmap, after_bitmap, demand_active}
use Rattle.share_pdu.specs.Bodies.{synchronize_body, control_body}
use Rattle.share_pdu.specs.ClientPdu.{total_length, control_header, data_header, compressed_type_at, data_body_at, data_pdu_at, client_pdu_at}
use Rattle.input_pdu.specs.Events.{event_at, event_count_at}
use Rattle.conn_rules.specs.Headers.{mcs_headers}
use Rattle.conn_rules.specs.Hearing.{heard, host_handshake, end_of}
use Rattle.conn_rules.specs.Hearing.StreamEnd.{Between, Within, RefusedAt}
use Rattle.caps_sets.specs.Confirmed.{plain}
use Rattle.conn_rules.specs.declared.conn_step.ConnStep.TheVariants.{Named, Ready}
use Rattle.wire_examples.proofs.Sample.{stream, answers, connection_request, initial, confirm, response}

abbrev size : Size
size = record { w = 64; h = 48 }

-- it is answered, its name is read, and it is ready
whole_answers : (host_handshake size stream).replies ≡ answers
unfolding passing_at at_least rest_count_at exactly_at references request_header after_cookie asked_protocols user_data three_parameters upward_flag initial_fields connect_initial connect_response attach_user_request channel_join_request erect_domain_request send_data_request ultimatum kind_at length_at block_at blocks_at desktop_of create_request client_blocks_at user_data_at client_data_at channel_count_at channels_at create_response info_start other_texts info_texts info_at says_bitmaps says_glyphs confirm_lengths confirm_counts set_header with_content_of set_at confirm_at before_bitmap after_bitmap demand_active synchronize_body control_body total_length control_header data_header compressed_type_at data_body_at data_pdu_at client_pdu_at event_at event_count_at mcs_headers heard
whole_answers = refl

whole_steps : (host_handshake size stream).steps ≡ Named (97 ∷ 110 ∷ 110 ∷ []) ∷ Ready plain ∷ []
unfolding passing_at at_least rest_count_at exactly_at references request_header after_cookie asked_protocols user_data three_parameters upward_flag initial_fields connect_initial connect_response attach_user_request channel_join_request erect_domain_request send_data_request ultimatum kind_at length_at block_at blocks_at desktop_of create_request client_blocks_at user_data_at client_data_at channel_count_at channels_at create_response info_start other_texts info_texts info_at says_bitmaps says_glyphs confirm_lengths confirm_counts set_header with_content_of set_at confirm_at before_bitmap after_bitmap demand_active synchronize_body control_body total_length control_header data_header compressed_type_at data_body_at data_pdu_at client_pdu_at event_at event_count_at mcs_headers heard
whole_steps = refl

whole_end : end_of (host_handshake size stream).after ≡ Between
unfolding passing_at at_least rest_count_at exactly_at references request_header after_cookie asked_protocols user_data three_parameters upward_flag initial_fields connect_initial connect_response attach_user_request channel_join_request erect_domain_request send_data_request ultimatum kind_at length_at block_at blocks_at desktop_of create_request client_blocks_at user_data_at client_data_at channel_count_at channels_at create_response info_start other_texts info_texts info_at says_bitmaps says_glyphs confirm_lengths confirm_counts set_header with_content_of set_at confirm_at before_bitmap after_bitmap demand_active synchronize_body control_body total_length control_header data_header compressed_type_at data_body_at data_pdu_at client_pdu_at event_at event_count_at mcs_headers heard
whole_end = refl

-- cut off in its last packet
cut_end : end_of (host_handshake size (take 903 stream)).after ≡ Within 39
unfolding passing_at at_least rest_count_at exactly_at references request_header after_cookie asked_protocols user_data three_parameters upward_flag initial_fields connect_initial connect_response attach_user_request channel_join_request erect_domain_request send_data_request ultimatum kind_at length_at block_at blocks_at desktop_of create_request client_blocks_at user_data_at client_data_at channel_count_at channels_at create_response info_start other_texts info_texts info_at says_bitmaps says_glyphs confirm_lengths confirm_counts set_header with_content_of set_at confirm_at before_bitmap after_bitmap demand_active synchronize_body control_body total_length control_header data_header compressed_type_at data_body_at data_pdu_at client_pdu_at event_at event_count_at mcs_headers heard
cut_end = refl

-- a client that asks for TLS and CredSSP gets standard RDP security, and its request back in SC_CORE
asked_protocols_come_back : (host_handshake size (slice_set connection_request 15 3 ++ initial)).replies ≡ confirm ++ slice_set response 76 3
unfolding passing_at at_least rest_count_at exactly_at references request_header after_cookie asked_protocols user_data three_parameters upward_flag initial_fields connect_initial connect_response attach_user_request channel_join_request erect_domain_request send_data_request ultimatum kind_at length_at block_at blocks_at desktop_of create_request client_blocks_at user_data_at client_data_at channel_count_at channels_at create_response info_start other_texts info_texts info_at says_bitmaps says_glyphs confirm_lengths confirm_counts set_header with_content_of set_at confirm_at before_bitmap after_bitmap demand_active synchronize_body control_body total_length control_header data_header compressed_type_at data_body_at data_pdu_at client_pdu_at event_at event_count_at mcs_headers heard
asked_protocols_come_back = refl

-- highColorDepth 8 and supportedColorDepths 8: 32 bits for each pixel alone
thirty_two_bits_alone : end_of (host_handshake size (connection_request ++ slice_set (slice_set initial 276 8) 278 8)).after ≡ RefusedAt 8 155
unfolding passing_at at_least rest_count_at exactly_at references request_header after_cookie asked_protocols user_data three_parameters upward_flag initial_fields connect_initial connect_response attach_user_request channel_join_request erect_domain_request send_data_request ultimatum kind_at length_at block_at blocks_at desktop_of create_request client_blocks_at user_data_at client_data_at channel_count_at channels_at create_response info_start other_texts info_texts info_at says_bitmaps says_glyphs confirm_lengths confirm_counts set_header with_content_of set_at confirm_at before_bitmap after_bitmap demand_active synchronize_body control_body total_length control_header data_header compressed_type_at data_body_at data_pdu_at client_pdu_at event_at event_count_at mcs_headers heard
thirty_two_bits_alone = refl

-- ---- first packets that are cut or broken

cut_in_the_first_packet : end_of (host_handshake size (3 ∷ 0 ∷ 0 ∷ 19 ∷ 14 ∷ [])).after ≡ Within 5
unfolding heard
cut_in_the_first_packet = refl

another_version : end_of (host_handshake size (4 ∷ [])).after ≡ RefusedAt 1 0
unfolding heard
another_version = refl

a_length_of_six : end_of (host_handshake size (3 ∷ 0 ∷ 0 ∷ 6 ∷ [])).after ≡ RefusedAt 2 2
unfolding heard
a_length_of_six = refl

another_code : end_of (host_handshake size (3 ∷ 0 ∷ 0 ∷ 11 ∷ 6 ∷ 0xD0 ∷ 0 ∷ 0 ∷ 0 ∷ 0 ∷ 0 ∷ [])).after ≡ RefusedAt 3 5
unfolding passing_at at_least rest_count_at exactly_at references request_header after_cookie asked_protocols user_data three_parameters upward_flag initial_fields connect_initial connect_response attach_user_request channel_join_request erect_domain_request send_data_request ultimatum kind_at length_at block_at blocks_at desktop_of create_request client_blocks_at user_data_at client_data_at channel_count_at channels_at create_response info_start other_texts info_texts info_at says_bitmaps says_glyphs confirm_lengths confirm_counts set_header with_content_of set_at confirm_at before_bitmap after_bitmap demand_active synchronize_body control_body total_length control_header data_header compressed_type_at data_body_at data_pdu_at client_pdu_at event_at event_count_at mcs_headers heard
another_code = refl
