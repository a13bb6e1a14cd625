-- The host hears a viewer's packets.
use Rattle.std.proofs.Common.{◌≡◌, ℕ, ◌+◌, ◌-◌, ◌*◌, ◌/◌, ◌%◌, ◌<◌, ◌≤◌, List, [], ◌∷◌, ◌++◌, length, take, refl, ap, ◌∙◌, subst, arith, true, false, length-append}
use Rattle.std.specs.Prelude.{Ok, Some, Result}
use Rattle.std.specs.List.{AllByRecursion, slice_range}
use Rattle.std.proofs.Math.Seq.{take-length, drop-append_seam}
use Rattle.px_core.specs.declared.depth.Depth.{Depth}
use Rattle.px_core.specs.declared.depth.Depth.TheVariants.{Bits24, Bits16}
use Rattle.px_core.specs.Depth.{bits_in}
use Rattle.px_core.specs.declared.surface.Size.{Size}
use Rattle.wire_num.specs.declared.range.Range.{Range}
use Rattle.wire_num.specs.Field.{Read, bind, then_read, map_read}
use Rattle.wire_num.specs.FieldValue.{passing_at, at_least, rest_count_at, placed}
use Rattle.wire_num.specs.Length.{per_len_of}
use Rattle.wire_num.specs.Layout.{exactly_at}
use Rattle.wire_num.proofs.TextIsRead.{exactly_again}
use Rattle.tpkt_x224.specs.Tpkt.{IsPacket, packet_of}
use Rattle.tpkt_x224.specs.Pieces.{Cut}
use Rattle.tpkt_x224.specs.Confirm.{confirm_of}
use Rattle.tpkt_x224.specs.Request.{references, request_header, after_cookie, asked_protocols}
use Rattle.mcs_ber.specs.ConnectInitial.{user_data, three_parameters, upward_flag, initial_fields, connect_initial}
use Rattle.mcs_ber.specs.ConnectResponse.{connect_response}
use Rattle.mcs_dom.specs.declared.bad_domain.BadDomain.{BadDomain}
use Rattle.mcs_dom.specs.declared.domain_pdu.DomainPdu.{DomainPdu}
use Rattle.mcs_dom.specs.declared.domain_pdu.DomainPdu.TheVariants.{Data}
use Rattle.mcs_dom.specs.AttachUser.{attach_user_request, attach_user_confirm}
use Rattle.mcs_dom.specs.ChannelJoin.{channel_join_request, channel_join_confirm}
use Rattle.mcs_dom.specs.ErectDomain.{erect_domain_request}
use Rattle.mcs_dom.specs.SendData.{send_data_request, send_data_indication, data_of}
use Rattle.mcs_dom.specs.DomainPdu.{domain_pdu_of}
use Rattle.gcc_per.specs.ClientBlocks.{kind_at, length_at, block_at, blocks_at}
use Rattle.gcc_per.specs.ClientCore.{desktop_of}
use Rattle.gcc_per.specs.ClientData.{create_request, client_blocks_at, user_data_at, client_data_at}
use Rattle.gcc_per.specs.ClientNetwork.{channel_count_at, channels_at}
use Rattle.gcc_per.specs.ServerData.{create_response}
use Rattle.info_lic.specs.Name.{IsName}
use Rattle.info_lic.specs.Licence.{licence}
use Rattle.info_lic.specs.ClientInfo.{name_of}
use Rattle.caps_sets.specs.declared.cache_size.CacheSize.{CacheSize}
use Rattle.caps_sets.specs.declared.confirmed.Confirmed.{Confirmed}
use Rattle.caps_sets.specs.Confirmed.{depth_of}
use Rattle.caps_sets.specs.ConfirmActive.{confirmed_of}
use Rattle.caps_sets.specs.DemandActive.{demand_active}
use Rattle.share_pdu.specs.declared.finals.Final.TheVariants as final
use Rattle.share_pdu.specs.Final.{final_bytes}
use Rattle.share_pdu.specs.Bodies.{synchronize_body, control_body}
use Rattle.share_pdu.specs.ClientPdu.{total_length, control_header, data_header, compressed_type_at, data_body_at, data_pdu_at, client_pdu_at}
use Rattle.share_pdu.proofs.Packet.{per_back, per_short}
use Rattle.conn_rules.specs.declared.answer.Answer.{Answer}
use Rattle.conn_rules.specs.declared.answer.Reply.TheVariants as reply
use Rattle.conn_rules.specs.declared.answer.News.TheVariants as news
use Rattle.conn_rules.specs.declared.client.Client.{Client}
use Rattle.conn_rules.specs.declared.conn_step.ConnStep.{ConnStep}
use Rattle.conn_rules.specs.declared.conn_step.ConnStep.TheVariants as step
use Rattle.conn_rules.specs.declared.deed.Deed.TheVariants as deed
use Rattle.conn_rules.specs.declared.refusal.Refusal.{Refusal}
use Rattle.conn_rules.specs.declared.stage.Stage.{Stage}
use Rattle.conn_rules.specs.declared.stage.Stage.TheVariants as stage
use Rattle.conn_rules.specs.declared.stage.SharePhase.TheVariants as phase
use Rattle.conn_rules.specs.Answers.{Telling, alone, goes_to}
use Rattle.conn_rules.specs.Deeds.{found_judged}
use Rattle.conn_rules.specs.Domain.{placed_pdu}
use Rattle.conn_rules.specs.Headers.{mcs_headers}
use Rattle.conn_rules.specs.Hearing.{Hearing, Heard, then_heard, packets_heard, judged_heard, before_rest, cut_heard, heard, first_hearing, host_handshake}
use Rattle.conn_rules.specs.Info.{info_judged}
use Rattle.conn_rules.specs.Numbers.{place_behind}
use Rattle.conn_rules.specs.Packets.{joins_judged, packet_judged}
use Rattle.conn_rules.specs.Shares.{sets_read, other_deed}
use Rattle.conn_rules.proofs.Pieces.{packets_then}
use Rattle.viewer_rules.specs.ClientPackets.{connection_request, connect_initial as viewer_initial, erect_domain, attach_user, channel_join, request_data, send_data, wide, info_body, client_info, confirm_fields, confirm_body, confirm_active, synchronize, cooperate, request_control, font_list, last_five}
use Rattle.viewer_rules.specs.Rounds.{without_pointers, IsConfirmable, the_user, greeting, joined}
use Rattle.viewer_rules.proofs.ConfirmedBack.{with_caches, cells, cells_are, confirmed_back}
use Rattle.viewer_agrees.proofs.Cutting.{host_cuts}
use Rattle.viewer_agrees.proofs.Info.{length_wide, info_back}

-- ---- data of a viewer

abbrev pub the_fault : ℕ → BadDomain
the_fault at = record { at = at }

abbrev pub at_end : List ℕ → ℕ → Range
at_end mcs n = record { from = length mcs - n; to = length mcs }

-- a Send Data Request is read, whatever its body is
pub data_read : (body : List ℕ) → length body < 16384
    → domain_pdu_of (request_data the_user body) ≡ Ok (Data the_user 1003 (at_end (request_data the_user body) (length body)))
unfolding send_data_request passing_at
data_read body small =
    let mcs : List ℕ = request_data the_user body in
    ap (λ (r : Read ℕ). placed the_fault mcs (map_read (data_of (length mcs)) (map_read (λ vs. 6 ∷ vs) (map_read (λ vs. 1003 ∷ vs) (map_read (λ vs. 112 ∷ vs)
    (then_read r (λ m rest. map_read (λ _. m ∷ []) (exactly_at m rest)))))))) (per_back (length body) body small)
    ∙ ap (λ (r : Read (List ℕ)). placed the_fault mcs (map_read (data_of (length mcs)) (map_read (λ vs. 6 ∷ vs) (map_read (λ vs. 1003 ∷ vs) (map_read (λ vs. 112 ∷ vs)
    (map_read (λ _. length body ∷ []) r)))))) (exactly_again body)

last_part : (front body : List ℕ) → slice_range (front ++ body) (length (front ++ body) - length body) (length (front ++ body)) ≡ body
last_part front body =
    let both = length-append front body in
    let from : length (front ++ body) - length body ≡ length front = omega (arith, both) in
    let size : length (front ++ body) - length front ≡ length body = omega (arith, both) in
    ap (λ (n : ℕ). slice_range (front ++ body) n (length (front ++ body))) from
    ∙ ap (λ (xs : List ℕ). take (length (front ++ body) - length front) xs) (drop-append_seam front body)
    ∙ ap (λ (n : ℕ). take n body) size ∙ take-length body

abbrev pub before_body : List ℕ → List ℕ
before_body body = 100 ∷ 0 ∷ 6 ∷ 3 ∷ 235 ∷ 112 ∷ per_len_of (length body)

pub body_is : (body : List ℕ) → slice_range (request_data the_user body) (length (request_data the_user body) - length body) (length (request_data the_user body)) ≡ body
body_is body = last_part (before_body body) body

-- ---- the packets up to the joins

abbrev pub client : Depth → Client
client depth = record { channels = 3; width = 64; height = 48; build = 0; depth = depth }

abbrev pub first_nine : Depth → List (List ℕ)
first_nine depth =
    connection_request ∷ viewer_initial (bits_in depth) ∷ erect_domain ∷ attach_user
    ∷ channel_join the_user 1007 ∷ channel_join the_user 1003 ∷ channel_join the_user 1004 ∷ channel_join the_user 1005 ∷ channel_join the_user 1006 ∷ []

abbrev pub first_answers : List ℕ
first_answers =
    confirm_of (record { reference = 0; asked = Some 0 }) ++ (connect_response (create_response 3 0) ++ (attach_user_confirm the_user
    ++ (channel_join_confirm the_user 1007 ++ (channel_join_confirm the_user 1003 ++ (channel_join_confirm the_user 1004
    ++ (channel_join_confirm the_user 1005 ++ channel_join_confirm the_user 1006))))))

abbrev pub stands : Size → Stage → ℕ → Hearing
stands size here place = record { size = size; stage = here; place = place; part = [] }

abbrev pub heard_as : List ℕ → List ConnStep → Hearing → Heard
heard_as replies steps after = record { replies = replies; steps = steps; after = after }

pub nine_heard : (size : Size) (depth : Depth) → packets_heard (first_hearing size) (first_nine depth) ≡ heard_as first_answers [] (stands size (stage.Joins (client depth) true true) 435)
unfolding passing_at at_least rest_count_at exactly_at references request_header after_cookie asked_protocols user_data three_parameters upward_flag initial_fields connect_initial connect_response attach_user_request channel_join_request erect_domain_request kind_at length_at block_at blocks_at desktop_of create_request client_blocks_at user_data_at client_data_at channel_count_at channels_at create_response mcs_headers
nine_heard size Bits24 = refl
nine_heard size Bits16 = refl

-- ---- Client Info

info_small : (name : List ℕ) → IsName name → length (info_body name) < 16384
info_small name h =
    let short = h.short in
    let units = length_wide name in
    let both = length-append (wide name) (0 ∷ 0 ∷ 0 ∷ 0 ∷ 0 ∷ 0 ∷ 0 ∷ 0 ∷ []) in
    omega (arith, short, units, both)

abbrev pub welcome : Depth → List ℕ → Result (Telling Answer) Refusal
welcome depth name = alone (Ok (record { reply = reply.Welcome (client depth); news = news.Step (step.Named name); next = stage.Shares 3 (phase.Confirm depth) }))

pub info_judged_so : (depth : Depth) (name : List ℕ) → IsName name → packet_judged (stage.Joins (client depth) true true) (client_info the_user name) ≡ welcome depth name
unfolding mcs_headers
info_judged_so depth name h =
    let body : List ℕ = info_body name in
    let mcs : List ℕ = request_data the_user body in
    let place : ℕ = place_behind 7 (length mcs - length body) in
    ap (λ (r : Result DomainPdu BadDomain). alone (bind (placed_pdu 7 r) (λ p. joins_judged (client depth) true true mcs p))) (data_read body (info_small name h))
    ∙ ap (λ (xs : List ℕ). alone (info_judged (client depth) 7 the_user place (name_of xs))) (body_is body)
    ∙ ap (λ r. alone (info_judged (client depth) 7 the_user place r)) (info_back name h)

-- ---- Confirm Active and the finalisation

confirm_seen : (c : Confirmed) (bs gs : List CacheSize)
    → packet_judged (stage.Shares 3 (phase.Confirm (depth_of c))) (confirm_active the_user (with_caches c (cells 3 bs) (cells 10 gs)))
    ≡ found_judged 3 7 the_user (phase.Confirm (depth_of c)) 15 (bind (sets_read 21 (confirmed_of (depth_of c) (confirm_fields (with_caches c (cells 3 bs) (cells 10 gs))))) (λ k. other_deed (Some (deed.Confirm k))))
unfolding mcs_headers passing_at exactly_at send_data_request total_length control_header client_pdu_at
confirm_seen c bs gs = refl

abbrev pub Seen : Confirmed → Type 0
Seen c = packet_judged (stage.Shares 3 (phase.Confirm (depth_of c))) (confirm_active the_user c)
    ≡ found_judged 3 7 the_user (phase.Confirm (depth_of c)) 15 (bind (sets_read 21 (confirmed_of (depth_of c) (confirm_fields c))) (λ k. other_deed (Some (deed.Confirm k))))

pub confirm_judged : (c : Confirmed) → IsConfirmable c
    → packet_judged (stage.Shares 3 (phase.Confirm (depth_of c))) (confirm_active the_user c) ≡ alone (goes_to (stage.Shares 3 (phase.Finish (without_pointers c) final.Synchronize)))
confirm_judged c h =
    let seen : Seen c =
    subst (λ (xs : List CacheSize). Seen (with_caches c xs c.glyphs)) (cells_are 3 c.bitmaps h.bitmaps)
    (subst (λ (ys : List CacheSize). Seen (with_caches c (cells 3 c.bitmaps) ys)) (cells_are 10 c.glyphs h.glyphs) (confirm_seen c c.bitmaps c.glyphs)) in
    seen ∙ ap (λ r. found_judged 3 7 the_user (phase.Confirm (depth_of c)) 15 (bind (sets_read 21 r) (λ k. other_deed (Some (deed.Confirm k))))) (confirmed_back c h)

abbrev pub last_four : List (List ℕ)
last_four = synchronize the_user ∷ cooperate the_user ∷ request_control the_user ∷ font_list the_user ∷ []

abbrev pub four_answers : List ℕ
four_answers =
    send_data_indication (final_bytes final.Synchronize the_user) ++ (send_data_indication (final_bytes final.Cooperate the_user)
    ++ (send_data_indication (final_bytes final.Granted the_user) ++ send_data_indication (final_bytes final.FontMap the_user)))

four_heard : (size : Size) (place : ℕ) (c : Confirmed) → packets_heard (stands size (stage.Shares 3 (phase.Finish c final.Synchronize)) place) last_four
    ≡ heard_as four_answers (step.Ready c ∷ []) (stands size (stage.Shares 3 phase.Ready) (place_behind (place_behind (place_behind (place_behind place 36) 40) 40) 40))
unfolding mcs_headers passing_at exactly_at send_data_request total_length control_header data_header compressed_type_at data_body_at data_pdu_at client_pdu_at synchronize_body control_body
four_heard size place c = refl

-- ---- all packets

abbrev pub two_answers : Size → Depth → List ℕ
two_answers size depth = send_data_indication licence ++ send_data_indication (demand_active size depth false)

abbrev pub last_place : List ℕ → Confirmed → ℕ
last_place name c =
    place_behind (place_behind (place_behind (place_behind (place_behind (place_behind 435 (length (client_info the_user name))) (length (confirm_active the_user c))) 36) 40) 40) 40

abbrev pub all_heard : Size → List ℕ → Confirmed → Heard
all_heard size name c =
    heard_as (first_answers ++ (two_answers size (depth_of c) ++ ([] ++ four_answers))) (step.Named name ∷ step.Ready (without_pointers c) ∷ []) (stands size (stage.Shares 3 phase.Ready) (last_place name c))

-- up to Client Info
pub ten_heard : (size : Size) (depth : Depth) (name : List ℕ) → IsName name → packets_heard (first_hearing size) (first_nine depth ++ client_info the_user name ∷ [])
    ≡ heard_as (first_answers ++ (two_answers size depth ++ [])) (step.Named name ∷ []) (stands size (stage.Shares 3 (phase.Confirm depth)) (place_behind 435 (length (client_info the_user name))))
ten_heard size depth name n =
    let at_info : Hearing = stands size (stage.Joins (client depth) true true) 435 in
    packets_then (first_hearing size) (first_nine depth) (client_info the_user name ∷ [])
    ∙ ap (λ (x : Heard). then_heard x (packets_heard x.after (client_info the_user name ∷ []))) (nine_heard size depth)
    ∙ ap (λ (j : Result (Telling Answer) Refusal). then_heard (heard_as first_answers [] at_info) (then_heard (judged_heard at_info (client_info the_user name) j) (packets_heard (judged_heard at_info (client_info the_user name) j).after []))) (info_judged_so depth name n)

pub packets_are_heard : (size : Size) (name : List ℕ) (c : Confirmed) → IsName name → IsConfirmable c
    → packets_heard (first_hearing size) (greeting name c) ≡ all_heard size name c
packets_are_heard size name c n h =
    let at_info : Hearing = stands size (stage.Joins (client (depth_of c)) true true) 435 in
    let confirm_place : ℕ = place_behind 435 (length (client_info the_user name)) in
    let at_confirm : Hearing = stands size (stage.Shares 3 (phase.Confirm (depth_of c))) confirm_place in
    let at_finals : Hearing = stands size (stage.Shares 3 (phase.Finish (without_pointers c) final.Synchronize)) (place_behind confirm_place (length (confirm_active the_user c))) in
    let nine : Heard = heard_as first_answers [] at_info in
    let info : Heard = heard_as (two_answers size (depth_of c)) (step.Named name ∷ []) at_confirm in
    let confirm : Heard = heard_as [] [] at_finals in
    packets_then (first_hearing size) (first_nine (depth_of c)) (client_info the_user name ∷ last_five the_user c)
    ∙ ap (λ (x : Heard). then_heard x (packets_heard x.after (client_info the_user name ∷ last_five the_user c))) (nine_heard size (depth_of c))
    ∙ ap (λ (j : Result (Telling Answer) Refusal). then_heard nine (then_heard (judged_heard at_info (client_info the_user name) j) (packets_heard (judged_heard at_info (client_info the_user name) j).after (last_five the_user c)))) (info_judged_so (depth_of c) name n)
    ∙ ap (λ (j : Result (Telling Answer) Refusal). then_heard nine (then_heard info (then_heard (judged_heard at_confirm (confirm_active the_user c) j) (packets_heard (judged_heard at_confirm (confirm_active the_user c) j).after last_four)))) (confirm_judged c h)
    ∙ ap (λ (x : Heard). then_heard nine (then_heard info (then_heard confirm x))) (four_heard size (place_behind confirm_place (length (confirm_active the_user c))) (without_pointers c))

-- ---- bytes

two_byte : (n : ℕ) → n < 65536 → 256 * ((n / 256) % 256) + n % 256 ≡ n
two_byte n h = omega (arith, h)

-- what a packet carries has three bytes at least, and fits
pub is_packet : (carried : List ℕ) → 3 ≤ length carried → 4 + length carried < 65536 → IsPacket (packet_of carried)
is_packet carried some small = (refl, two_byte (4 + length carried) small, some)

data_small : (body : List ℕ) → length body < 16384 → (3 ≤ length (2 ∷ 240 ∷ 128 ∷ request_data the_user body)) × (4 + length (2 ∷ 240 ∷ 128 ∷ request_data the_user body) < 65536)
data_small body h =
    let per = per_short (length body) in
    let both = length-append (per_len_of (length body)) body in
    (omega arith, omega (arith, per, both, h))

data_is_packet : (body : List ℕ) → length body < 16384 → IsPacket (send_data the_user body)
data_is_packet body h = let s = data_small body h in is_packet (2 ∷ 240 ∷ 128 ∷ request_data the_user body) s.0 s.1

confirm_size : (c : Confirmed) (bs gs : List CacheSize) → length (confirm_body the_user (with_caches c (cells 3 bs) (cells 10 gs))) ≡ 246
confirm_size c bs gs = refl

confirm_small : (c : Confirmed) → IsConfirmable c → length (confirm_body the_user c) < 16384
confirm_small c h =
    let size : length (confirm_body the_user c) ≡ 246 =
    subst (λ (xs : List CacheSize). length (confirm_body the_user (with_caches c xs c.glyphs)) ≡ 246) (cells_are 3 c.bitmaps h.bitmaps)
    (subst (λ (ys : List CacheSize). length (confirm_body the_user (with_caches c (cells 3 c.bitmaps) ys)) ≡ 246) (cells_are 10 c.glyphs h.glyphs) (confirm_size c c.bitmaps c.glyphs)) in
    omega (arith, size)

pub each : (name : List ℕ) (c : Confirmed) → IsName name → IsConfirmable c → AllByRecursion IsPacket (greeting name c)
each name c n h =
    ((refl, refl, omega arith), ((refl, refl, omega arith), ((refl, refl, omega arith), ((refl, refl, omega arith), ((refl, refl, omega arith), ((refl, refl, omega arith), ((refl, refl, omega arith), ((refl, refl, omega arith), ((refl, refl, omega arith), (data_is_packet (info_body name) (info_small name n), (data_is_packet (confirm_body the_user c) (confirm_small c h), ((refl, refl, omega arith), ((refl, refl, omega arith), ((refl, refl, omega arith), ((refl, refl, omega arith), tt)))))))))))))))

pub greeting_heard : (size : Size) (name : List ℕ) (c : Confirmed) → IsName name → IsConfirmable c
    → host_handshake size (joined (greeting name c)) ≡ all_heard size name c
unfolding heard
greeting_heard size name c n h =
    ap (λ (cut : Cut). cut_heard (first_hearing size) cut) (host_cuts (greeting name c) (each name c n h))
    ∙ ap (λ (x : Heard). before_rest x []) (packets_are_heard size name c n h)
