-- What programs that people use send otherwise than the sample client, on its stream.
use Rattle.std.proofs.Common.{◌≡◌, ℕ, List, [], ◌∷◌, ◌++◌, refl, true}
use Rattle.std.specs.Prelude.{slice_set}
use Rattle.px_core.specs.declared.surface.Size.{Size}
use Rattle.wire_num.specs.FieldValue.{passing_at, at_least, rest_count_at}
use Rattle.wire_num.specs.Layout.{exactly_at}
use Rattle.tpkt_x224.specs.Request.{references, request_header, after_cookie, asked_protocols}
use Rattle.mcs_ber.specs.ConnectInitial.{user_data, three_parameters, upward_flag, initial_fields, connect_initial}
use Rattle.mcs_ber.specs.ConnectResponse.{connect_response}
use Rattle.mcs_dom.specs.AttachUser.{attach_user_request}
use Rattle.mcs_dom.specs.ChannelJoin.{channel_join_request}
use Rattle.mcs_dom.specs.ErectDomain.{erect_domain_request}
use Rattle.mcs_dom.specs.SendData.{send_data_request}
use Rattle.mcs_dom.specs.Ultimatum.{ultimatum, basic_ultimatum}
use Rattle.gcc_per.specs.ClientBlocks.{kind_at, length_at, block_at, blocks_at}
use Rattle.gcc_per.specs.ClientCore.{desktop_of}
use Rattle.gcc_per.specs.ClientData.{create_request, client_blocks_at, user_data_at, client_data_at}
use Rattle.gcc_per.specs.ClientNetwork.{channel_count_at, channels_at}
use Rattle.gcc_per.specs.ServerData.{create_response}
use Rattle.info_lic.specs.ClientInfo.{info_start, other_texts, info_texts, info_at}
use Rattle.caps_sets.specs.CapabilitySets.{says_bitmaps, says_glyphs}
use Rattle.caps_sets.specs.ConfirmActive.{confirm_lengths, confirm_counts, set_header, with_content_of, set_at, confirm_at}
use Rattle.caps_sets.specs.DemandActive.{before_bitmap, after_bitmap, demand_active}
use Rattle.share_pdu.specs.Bodies.{synchronize_body, control_body}
use Rattle.share_pdu.specs.ClientPdu.{total_length, control_header, data_header, compressed_type_at, data_body_at, data_pdu_at, client_pdu_at}
use Rattle.input_pdu.specs.Events.{event_at, event_count_at}
use Rattle.conn_rules.specs.Headers.{mcs_headers}
use Rattle.conn_rules.specs.Hearing.{heard, host_handshake, end_of}
use Rattle.conn_rules.specs.Hearing.StreamEnd.{Between, RefusedAt}
use Rattle.px_core.specs.declared.depth.Depth.TheVariants.{Bits16}
use Rattle.caps_sets.specs.Confirmed.{plain}
use Rattle.conn_rules.specs.declared.conn_step.ConnStep.TheVariants.{Named, Ready, Bye, Packet}
use Rattle.wire_examples.proofs.Sample.{stream, answers, connection_request, initial}

abbrev size : Size
size = record { w = 64; h = 48 }

abbrev ann : List ℕ
ann = 97 ∷ 110 ∷ 110 ∷ []

-- ---- protocolVersion 0200 in the General set: drawings are cut, and brushes of 8 by 8 pixels aren't taken, unless the Brush set says level 2

a_stated_version_is_cautious : (host_handshake size (slice_set stream 535 2)).steps ≡ Named ann ∷ Ready (record plain { cautious = true }) ∷ []
unfolding passing_at at_least rest_count_at exactly_at references request_header after_cookie asked_protocols user_data three_parameters upward_flag initial_fields connect_initial connect_response attach_user_request channel_join_request erect_domain_request send_data_request ultimatum kind_at length_at block_at blocks_at desktop_of create_request client_blocks_at user_data_at client_data_at channel_count_at channels_at create_response info_start other_texts info_texts info_at says_bitmaps says_glyphs confirm_lengths confirm_counts set_header with_content_of set_at confirm_at before_bitmap after_bitmap demand_active synchronize_body control_body total_length control_header data_header compressed_type_at data_body_at data_pdu_at client_pdu_at event_at event_count_at mcs_headers heard
a_stated_version_is_cautious = refl

its_brushes_of_8_by_8 : (host_handshake size (slice_set (slice_set stream 535 2) 682 1)).steps ≡ Named ann ∷ Ready (record plain { cautious = true }) ∷ []
unfolding passing_at at_least rest_count_at exactly_at references request_header after_cookie asked_protocols user_data three_parameters upward_flag initial_fields connect_initial connect_response attach_user_request channel_join_request erect_domain_request send_data_request ultimatum kind_at length_at block_at blocks_at desktop_of create_request client_blocks_at user_data_at client_data_at channel_count_at channels_at create_response info_start other_texts info_texts info_at says_bitmaps says_glyphs confirm_lengths confirm_counts set_header with_content_of set_at confirm_at before_bitmap after_bitmap demand_active synchronize_body control_body total_length control_header data_header compressed_type_at data_body_at data_pdu_at client_pdu_at event_at event_count_at mcs_headers heard
its_brushes_of_8_by_8 = refl

its_full_brushes : (host_handshake size (slice_set (slice_set stream 535 2) 682 2)).steps ≡ Named ann ∷ Ready (record plain { cautious = true; brush = true }) ∷ []
unfolding passing_at at_least rest_count_at exactly_at references request_header after_cookie asked_protocols user_data three_parameters upward_flag initial_fields connect_initial connect_response attach_user_request channel_join_request erect_domain_request send_data_request ultimatum kind_at length_at block_at blocks_at desktop_of create_request client_blocks_at user_data_at client_data_at channel_count_at channels_at create_response info_start other_texts info_texts info_at says_bitmaps says_glyphs confirm_lengths confirm_counts set_header with_content_of set_at confirm_at before_bitmap after_bitmap demand_active synchronize_body control_body total_length control_header data_header compressed_type_at data_body_at data_pdu_at client_pdu_at event_at event_count_at mcs_headers heard
its_full_brushes = refl

anothers_brushes_of_8_by_8 : (host_handshake size (slice_set stream 682 1)).steps ≡ Named ann ∷ Ready (record plain { brush = true }) ∷ []
unfolding passing_at at_least rest_count_at exactly_at references request_header after_cookie asked_protocols user_data three_parameters upward_flag initial_fields connect_initial connect_response attach_user_request channel_join_request erect_domain_request send_data_request ultimatum kind_at length_at block_at blocks_at desktop_of create_request client_blocks_at user_data_at client_data_at channel_count_at channels_at create_response info_start other_texts info_texts info_at says_bitmaps says_glyphs confirm_lengths confirm_counts set_header with_content_of set_at confirm_at before_bitmap after_bitmap demand_active synchronize_body control_body total_length control_header data_header compressed_type_at data_body_at data_pdu_at client_pdu_at event_at event_count_at mcs_headers heard
anothers_brushes_of_8_by_8 = refl

-- ---- extraFlags in the General set: updates by the fast path, alone and beside bitmaps without a header

it_takes_the_fast_path : (host_handshake size (slice_set stream 540 1)).steps ≡ Named ann ∷ Ready (record plain { fast = true }) ∷ []
unfolding passing_at at_least rest_count_at exactly_at references request_header after_cookie asked_protocols user_data three_parameters upward_flag initial_fields connect_initial connect_response attach_user_request channel_join_request erect_domain_request send_data_request ultimatum kind_at length_at block_at blocks_at desktop_of create_request client_blocks_at user_data_at client_data_at channel_count_at channels_at create_response info_start other_texts info_texts info_at says_bitmaps says_glyphs confirm_lengths confirm_counts set_header with_content_of set_at confirm_at before_bitmap after_bitmap demand_active synchronize_body control_body total_length control_header data_header compressed_type_at data_body_at data_pdu_at client_pdu_at event_at event_count_at mcs_headers heard
it_takes_the_fast_path = refl

-- wrong: no other may be set beside it
both_extra_flags : (host_handshake size (slice_set (slice_set stream 540 1) 541 4)).steps ≡ Named ann ∷ Ready (record plain { no_header = true; fast = true }) ∷ []
unfolding passing_at at_least rest_count_at exactly_at references request_header after_cookie asked_protocols user_data three_parameters upward_flag initial_fields connect_initial connect_response attach_user_request channel_join_request erect_domain_request send_data_request ultimatum kind_at length_at block_at blocks_at desktop_of create_request client_blocks_at user_data_at client_data_at channel_count_at channels_at create_response info_start other_texts info_texts info_at says_bitmaps says_glyphs confirm_lengths confirm_counts set_header with_content_of set_at confirm_at before_bitmap after_bitmap demand_active synchronize_body control_body total_length control_header data_header compressed_type_at data_body_at data_pdu_at client_pdu_at event_at event_count_at mcs_headers heard
both_extra_flags = refl

-- ---- clientBuild 2600 in CS_CORE, with a desktop of 65 by 48 pixels: desktopResizeFlag is 1, the 327th byte of what is answered

a_build_and_another_width : (host_handshake size (slice_set (slice_set (slice_set stream 175 40) 176 10) 163 65)).replies ≡ slice_set answers 326 1
unfolding passing_at at_least rest_count_at exactly_at references request_header after_cookie asked_protocols user_data three_parameters upward_flag initial_fields connect_initial connect_response attach_user_request channel_join_request erect_domain_request send_data_request ultimatum kind_at length_at block_at blocks_at desktop_of create_request client_blocks_at user_data_at client_data_at channel_count_at channels_at create_response info_start other_texts info_texts info_at says_bitmaps says_glyphs confirm_lengths confirm_counts set_header with_content_of set_at confirm_at before_bitmap after_bitmap demand_active synchronize_body control_body total_length control_header data_header compressed_type_at data_body_at data_pdu_at client_pdu_at event_at event_count_at mcs_headers heard
a_build_and_another_width = refl

-- wrong: of a client's size the width alone is compared with the session's
a_build_and_another_height : (host_handshake size (slice_set (slice_set stream 178 1) 166 1)).replies ≡ slice_set answers 326 1
unfolding passing_at at_least rest_count_at exactly_at references request_header after_cookie asked_protocols user_data three_parameters upward_flag initial_fields connect_initial connect_response attach_user_request channel_join_request erect_domain_request send_data_request ultimatum kind_at length_at block_at blocks_at desktop_of create_request client_blocks_at user_data_at client_data_at channel_count_at channels_at create_response info_start other_texts info_texts info_at says_bitmaps says_glyphs confirm_lengths confirm_counts set_header with_content_of set_at confirm_at before_bitmap after_bitmap demand_active synchronize_body control_body total_length control_header data_header compressed_type_at data_body_at data_pdu_at client_pdu_at event_at event_count_at mcs_headers heard
a_build_and_another_height = refl

a_build_and_the_sessions_size : (host_handshake size (slice_set (slice_set stream 175 40) 176 10)).replies ≡ answers
unfolding passing_at at_least rest_count_at exactly_at references request_header after_cookie asked_protocols user_data three_parameters upward_flag initial_fields connect_initial connect_response attach_user_request channel_join_request erect_domain_request send_data_request ultimatum kind_at length_at block_at blocks_at desktop_of create_request client_blocks_at user_data_at client_data_at channel_count_at channels_at create_response info_start other_texts info_texts info_at says_bitmaps says_glyphs confirm_lengths confirm_counts set_header with_content_of set_at confirm_at before_bitmap after_bitmap demand_active synchronize_body control_body total_length control_header data_header compressed_type_at data_body_at data_pdu_at client_pdu_at event_at event_count_at mcs_headers heard
a_build_and_the_sessions_size = refl

-- wrong: a client that states no build is to take the session's size too
no_build_and_another_width : (host_handshake size (slice_set stream 163 65)).replies ≡ answers
unfolding passing_at at_least rest_count_at exactly_at references request_header after_cookie asked_protocols user_data three_parameters upward_flag initial_fields connect_initial connect_response attach_user_request channel_join_request erect_domain_request send_data_request ultimatum kind_at length_at block_at blocks_at desktop_of create_request client_blocks_at user_data_at client_data_at channel_count_at channels_at create_response info_start other_texts info_texts info_at says_bitmaps says_glyphs confirm_lengths confirm_counts set_header with_content_of set_at confirm_at before_bitmap after_bitmap demand_active synchronize_body control_body total_length control_header data_header compressed_type_at data_body_at data_pdu_at client_pdu_at event_at event_count_at mcs_headers heard
no_build_and_another_width = refl

-- ---- highColorDepth 16 in CS_CORE: Demand Active says so by its 51st byte, the 313th of what is answered, and pixels are shown at 16 bits

sixteen_bits_are_answered : (host_handshake size (slice_set stream 295 16)).replies ≡ slice_set answers 312 16
unfolding passing_at at_least rest_count_at exactly_at references request_header after_cookie asked_protocols user_data three_parameters upward_flag initial_fields connect_initial connect_response attach_user_request channel_join_request erect_domain_request send_data_request ultimatum kind_at length_at block_at blocks_at desktop_of create_request client_blocks_at user_data_at client_data_at channel_count_at channels_at create_response info_start other_texts info_texts info_at says_bitmaps says_glyphs confirm_lengths confirm_counts set_header with_content_of set_at confirm_at before_bitmap after_bitmap demand_active synchronize_body control_body total_length control_header data_header compressed_type_at data_body_at data_pdu_at client_pdu_at event_at event_count_at mcs_headers heard
sixteen_bits_are_answered = refl

sixteen_bits_are_shown : (host_handshake size (slice_set stream 295 16)).steps ≡ Named ann ∷ Ready (record plain { depth = Bits16 }) ∷ []
unfolding passing_at at_least rest_count_at exactly_at references request_header after_cookie asked_protocols user_data three_parameters upward_flag initial_fields connect_initial connect_response attach_user_request channel_join_request erect_domain_request send_data_request ultimatum kind_at length_at block_at blocks_at desktop_of create_request client_blocks_at user_data_at client_data_at channel_count_at channels_at create_response info_start other_texts info_texts info_at says_bitmaps says_glyphs confirm_lengths confirm_counts set_header with_content_of set_at confirm_at before_bitmap after_bitmap demand_active synchronize_body control_body total_length control_header data_header compressed_type_at data_body_at data_pdu_at client_pdu_at event_at event_count_at mcs_headers heard
sixteen_bits_are_shown = refl

-- a Bitmap set that confirms 24 bits, in place of the empty caches' set, changes nothing: CS_CORE counts
another_depth_is_confirmed : (host_handshake size (slice_set (slice_set (slice_set stream 295 16) 638 2) 642 24)).steps ≡ Named ann ∷ Ready (record plain { depth = Bits16 }) ∷ []
unfolding passing_at at_least rest_count_at exactly_at references request_header after_cookie asked_protocols user_data three_parameters upward_flag initial_fields connect_initial connect_response attach_user_request channel_join_request erect_domain_request send_data_request ultimatum kind_at length_at block_at blocks_at desktop_of create_request client_blocks_at user_data_at client_data_at channel_count_at channels_at create_response info_start other_texts info_texts info_at says_bitmaps says_glyphs confirm_lengths confirm_counts set_header with_content_of set_at confirm_at before_bitmap after_bitmap demand_active synchronize_body control_body total_length control_header data_header compressed_type_at data_body_at data_pdu_at client_pdu_at event_at event_count_at mcs_headers heard
another_depth_is_confirmed = refl

-- supportedColorDepths 2: 16 bits alone
sixteen_bits_alone : (host_handshake size (slice_set stream 297 2)).steps ≡ Named ann ∷ Ready (record plain { depth = Bits16 }) ∷ []
unfolding passing_at at_least rest_count_at exactly_at references request_header after_cookie asked_protocols user_data three_parameters upward_flag initial_fields connect_initial connect_response attach_user_request channel_join_request erect_domain_request send_data_request ultimatum kind_at length_at block_at blocks_at desktop_of create_request client_blocks_at user_data_at client_data_at channel_count_at channels_at create_response info_start other_texts info_texts info_at says_bitmaps says_glyphs confirm_lengths confirm_counts set_header with_content_of set_at confirm_at before_bitmap after_bitmap demand_active synchronize_body control_body total_length control_header data_header compressed_type_at data_body_at data_pdu_at client_pdu_at event_at event_count_at mcs_headers heard
sixteen_bits_alone = refl

-- ---- an ultimatum by the basic encoding rules

abbrev quits : List ℕ
quits = 3 ∷ 0 ∷ 0 ∷ 15 ∷ 2 ∷ 240 ∷ 128 ∷ 48 ∷ 6 ∷ 2 ∷ 2 ∷ 0 ∷ 3 ∷ 48 ∷ 0 ∷ []

it_leaves : (host_handshake size (stream ++ quits)).steps ≡ Named ann ∷ Ready plain ∷ Bye ∷ Packet ∷ []
unfolding passing_at at_least rest_count_at exactly_at references request_header after_cookie asked_protocols user_data three_parameters upward_flag initial_fields connect_initial connect_response attach_user_request channel_join_request erect_domain_request send_data_request ultimatum basic_ultimatum kind_at length_at block_at blocks_at desktop_of create_request client_blocks_at user_data_at client_data_at channel_count_at channels_at create_response info_start other_texts info_texts info_at says_bitmaps says_glyphs confirm_lengths confirm_counts set_header with_content_of set_at confirm_at before_bitmap after_bitmap demand_active synchronize_body control_body total_length control_header data_header compressed_type_at data_body_at data_pdu_at client_pdu_at event_at event_count_at mcs_headers heard
it_leaves = refl

nothing_is_behind_it : end_of (host_handshake size (stream ++ (quits ++ (4 ∷ [])))).after ≡ Between
unfolding passing_at at_least rest_count_at exactly_at references request_header after_cookie asked_protocols user_data three_parameters upward_flag initial_fields connect_initial connect_response attach_user_request channel_join_request erect_domain_request send_data_request ultimatum basic_ultimatum kind_at length_at block_at blocks_at desktop_of create_request client_blocks_at user_data_at client_data_at channel_count_at channels_at create_response info_start other_texts info_texts info_at says_bitmaps says_glyphs confirm_lengths confirm_counts set_header with_content_of set_at confirm_at before_bitmap after_bitmap demand_active synchronize_body control_body total_length control_header data_header compressed_type_at data_body_at data_pdu_at client_pdu_at event_at event_count_at mcs_headers heard
nothing_is_behind_it = refl

it_leaves_early : (host_handshake size (connection_request ++ (initial ++ quits))).steps ≡ Bye ∷ []
unfolding passing_at at_least rest_count_at exactly_at references request_header after_cookie asked_protocols user_data three_parameters upward_flag initial_fields connect_initial connect_response attach_user_request channel_join_request erect_domain_request send_data_request ultimatum basic_ultimatum kind_at length_at block_at blocks_at desktop_of create_request client_blocks_at user_data_at client_data_at channel_count_at channels_at create_response info_start other_texts info_texts info_at says_bitmaps says_glyphs confirm_lengths confirm_counts set_header with_content_of set_at confirm_at before_bitmap after_bitmap demand_active synchronize_body control_body total_length control_header data_header compressed_type_at data_body_at data_pdu_at client_pdu_at event_at event_count_at mcs_headers heard
it_leaves_early = refl

-- in place of a Connect-Initial no ultimatum may stand
not_before_the_initial : end_of (host_handshake size (connection_request ++ quits)).after ≡ RefusedAt 4 26
unfolding passing_at at_least rest_count_at exactly_at references request_header after_cookie asked_protocols user_data three_parameters upward_flag initial_fields connect_initial connect_response attach_user_request channel_join_request erect_domain_request send_data_request ultimatum basic_ultimatum kind_at length_at block_at blocks_at desktop_of create_request client_blocks_at user_data_at client_data_at channel_count_at channels_at create_response info_start other_texts info_texts info_at says_bitmaps says_glyphs confirm_lengths confirm_counts set_header with_content_of set_at confirm_at before_bitmap after_bitmap demand_active synchronize_body control_body total_length control_header data_header compressed_type_at data_body_at data_pdu_at client_pdu_at event_at event_count_at mcs_headers heard
not_before_the_initial = refl

another_reason : end_of (host_handshake size (stream ++ slice_set quits 12 2)).after ≡ RefusedAt 5 911
unfolding passing_at at_least rest_count_at exactly_at references request_header after_cookie asked_protocols user_data three_parameters upward_flag initial_fields connect_initial connect_response attach_user_request channel_join_request erect_domain_request send_data_request ultimatum basic_ultimatum kind_at length_at block_at blocks_at desktop_of create_request client_blocks_at user_data_at client_data_at channel_count_at channels_at create_response info_start other_texts info_texts info_at says_bitmaps says_glyphs confirm_lengths confirm_counts set_header with_content_of set_at confirm_at before_bitmap after_bitmap demand_active synchronize_body control_body total_length control_header data_header compressed_type_at data_body_at data_pdu_at client_pdu_at event_at event_count_at mcs_headers heard
another_reason = refl
