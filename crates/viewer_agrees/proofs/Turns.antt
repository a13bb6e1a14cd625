-- Turn by turn, both halves come to the end of what they send.
use Rattle.std.proofs.Common.{◌≡◌, ℕ, zero, suc, List, [], ◌∷◌, ◌++◌, take, map, get_or, refl, ap, ◌∙◌}
use Rattle.std.specs.Prelude.{IsTrue}
use Rattle.std.specs.List.{AllByRecursion}
use Rattle.px_core.specs.declared.depth.Depth.{Depth}
use Rattle.px_core.specs.declared.depth.Depth.TheVariants.{Bits24, Bits16}
use Rattle.px_core.specs.Depth.{bits_in}
use Rattle.px_core.specs.declared.surface.Size.{Size}
use Rattle.px_core.specs.Rectangle.{is_session_size}
use Rattle.wire_num.specs.FieldValue.{passing_at, at_least, rest_count_at}
use Rattle.wire_num.specs.Layout.{exactly_at}
use Rattle.tpkt_x224.specs.Tpkt.{IsPacket}
use Rattle.tpkt_x224.specs.Pieces.{Cut}
use Rattle.tpkt_x224.specs.Request.{references, request_header, after_cookie, asked_protocols}
use Rattle.mcs_ber.specs.ConnectInitial.{user_data, three_parameters, upward_flag, initial_fields, connect_initial}
use Rattle.mcs_ber.specs.ConnectResponse.{connect_response}
use Rattle.mcs_dom.specs.AttachUser.{attach_user_request}
use Rattle.mcs_dom.specs.ChannelJoin.{channel_join_request}
use Rattle.mcs_dom.specs.ErectDomain.{erect_domain_request}
use Rattle.gcc_per.specs.ClientBlocks.{kind_at, length_at, block_at, blocks_at}
use Rattle.gcc_per.specs.ClientCore.{desktop_of}
use Rattle.gcc_per.specs.ClientData.{create_request, client_blocks_at, user_data_at, client_data_at}
use Rattle.gcc_per.specs.ClientNetwork.{channel_count_at, channels_at}
use Rattle.gcc_per.specs.ServerData.{create_response}
use Rattle.info_lic.specs.Name.{IsName}
use Rattle.caps_sets.specs.declared.confirmed.Confirmed.{Confirmed}
use Rattle.caps_sets.specs.Confirmed.{depth_of, takes_fast}
use Rattle.caps_sets.specs.DemandActive.{demand_active, before_bitmap, after_bitmap}
use Rattle.conn_rules.specs.Headers.{mcs_headers}
use Rattle.conn_rules.specs.Hearing.{Heard, packets_heard, cut_heard, heard, first_hearing, host_handshake}
use Rattle.viewer_rules.specs.ClientPackets.{connection_request, connect_initial as viewer_initial, erect_domain, attach_user, channel_join, client_info, last_five}
use Rattle.viewer_rules.specs.HostAnswers.{connection_confirm, server_blocks_answer, conference_answer, user_data_answer, response_answer, connect_response_answer, attach_answer, join_answer}
use Rattle.viewer_rules.specs.ViewerHandshake.{Told, packets_told, cut_watched, watched, first_watching, viewer_handshake}
use Rattle.viewer_rules.specs.Rounds.{the_user, IsConfirmable, greeting, answers, joined}
use Rattle.viewer_rules.proofs.Answered.{HasSides, sides, ten_told, cut_again, each as each_answer}
use Rattle.viewer_agrees.specs.Turns.{Exchange, exchange, host_answers, after_turns}
use Rattle.viewer_agrees.proofs.Cutting.{host_cuts}
use Rattle.viewer_agrees.proofs.Heard.{ten_heard, greeting_heard, each as each_packet}

all_take : (n : ℕ) (ps : List (List ℕ)) → AllByRecursion IsPacket ps → AllByRecursion IsPacket (take n ps)
all_take zero ps h = tt
all_take (suc n) [] h = tt
all_take (suc n) (p ∷ ps) h = (h.0, all_take n ps h.1)

-- ---- the viewer, after the first answers of the host

abbrev Text : List ℕ → Confirmed → List (List ℕ) → List ℕ
Text name c ps = connection_request ++ (packets_told name c first_watching.at ps).text

viewer_text : (name : List ℕ) (c : Confirmed) (ps : List (List ℕ)) → AllByRecursion IsPacket ps → (viewer_handshake name c (joined ps)).text ≡ Text name c ps
unfolding watched
viewer_text name c ps h = ap (λ (cut : Cut). connection_request ++ (cut_watched name c first_watching.at cut).text) (cut_again (takes_fast c) ps h)

abbrev ViewerGoes : Size → List ℕ → Confirmed → ℕ → ℕ → Type 0
ViewerGoes size name c k m = (viewer_handshake name c (joined (take k (answers size (depth_of c))))).text ≡ joined (take m (greeting name c))

goes : (size : Size) (name : List ℕ) (c : Confirmed) (k m : ℕ) → Text name c (take k (answers size (depth_of c))) ≡ joined (take m (greeting name c)) → ViewerGoes size name c k m
goes size name c k m e = viewer_text name c (take k (answers size (depth_of c))) (all_take k (answers size (depth_of c)) (each_answer size (depth_of c))) ∙ e

-- what is sent after as many answers, before Demand Active
viewer_begins : (size : Size) (name : List ℕ) (c : Confirmed)
    → map (λ k. Text name c (take k (answers size (depth_of c)))) (0 ∷ 1 ∷ 2 ∷ 3 ∷ 4 ∷ 5 ∷ 6 ∷ 7 ∷ 8 ∷ []) ≡ map (λ m. joined (take m (greeting name c))) (1 ∷ 2 ∷ 4 ∷ 5 ∷ 6 ∷ 7 ∷ 8 ∷ 9 ∷ 10 ∷ [])
unfolding passing_at exactly_at connection_confirm server_blocks_answer conference_answer user_data_answer response_answer connect_response_answer attach_answer join_answer connect_response create_response
viewer_begins size name c = refl

demanded : (size : Size) (name : List ℕ) (c : Confirmed) → HasSides size → Text name c (take 10 (answers size (depth_of c))) ≡ joined (take 15 (greeting name c))
demanded size name c s = ap (λ (t : Told). connection_request ++ t.text) (ten_told size name c s)

-- ---- the host, after the first packets of the viewer

abbrev Replies : Size → List (List ℕ) → List ℕ
Replies size ps = (packets_heard (first_hearing size) ps).replies

host_replies : (size : Size) (ps : List (List ℕ)) → AllByRecursion IsPacket ps → (host_handshake size (joined ps)).replies ≡ Replies size ps
unfolding heard
host_replies size ps h = ap (λ (cut : Cut). (cut_heard (first_hearing size) cut).replies) (host_cuts ps h)

abbrev HostGoes : Size → List ℕ → Confirmed → ℕ → ℕ → Type 0
HostGoes size name c m k = (host_handshake size (joined (take m (greeting name c)))).replies ≡ joined (take k (answers size (depth_of c)))

replies : (size : Size) (name : List ℕ) (c : Confirmed) (m k : ℕ) → IsName name → IsConfirmable c → Replies size (take m (greeting name c)) ≡ joined (take k (answers size (depth_of c))) → HostGoes size name c m k
replies size name c m k n h e = host_replies size (take m (greeting name c)) (all_take m (greeting name c) (each_packet name c n h)) ∙ e

-- a viewer's packets, of which one asks for a depth
abbrev asking : Depth → List ℕ → Confirmed → List (List ℕ)
asking depth name c =
    connection_request ∷ viewer_initial (bits_in depth) ∷ erect_domain ∷ attach_user
    ∷ channel_join the_user 1007 ∷ channel_join the_user 1003 ∷ channel_join the_user 1004 ∷ channel_join the_user 1005 ∷ channel_join the_user 1006
    ∷ client_info the_user name ∷ last_five the_user c

-- what is replied to as many packets, before Client Info
host_begins : (size : Size) (depth : Depth) (name : List ℕ) (c : Confirmed)
    → map (λ m. Replies size (take m (asking depth name c))) (1 ∷ 2 ∷ 4 ∷ 5 ∷ 6 ∷ 7 ∷ 8 ∷ 9 ∷ []) ≡ map (λ k. joined (take k (answers size depth))) (1 ∷ 2 ∷ 3 ∷ 4 ∷ 5 ∷ 6 ∷ 7 ∷ 8 ∷ [])
unfolding passing_at at_least rest_count_at exactly_at references request_header after_cookie asked_protocols user_data three_parameters upward_flag initial_fields connect_initial connect_response attach_user_request channel_join_request erect_domain_request kind_at length_at block_at blocks_at desktop_of create_request client_blocks_at user_data_at client_data_at channel_count_at channels_at create_response mcs_headers
host_begins size Bits24 name c = refl
host_begins size Bits16 name c = refl

named : (size : Size) (name : List ℕ) (c : Confirmed) → IsName name → Replies size (take 10 (greeting name c)) ≡ joined (take 10 (answers size (depth_of c)))
unfolding connect_response create_response demand_active before_bitmap after_bitmap
named size name c n = ap (λ (x : Heard). x.replies) (ten_heard size (depth_of c) name n)

all_heard : (size : Size) (name : List ℕ) (c : Confirmed) → IsName name → IsConfirmable c → HostGoes size name c 15 14
unfolding connect_response create_response demand_active before_bitmap after_bitmap
all_heard size name c n h = ap (λ (x : Heard). x.replies) (greeting_heard size name c n h)

-- ---- turns

one_turn : (size : Size) (name : List ℕ) (c : Confirmed) (n k m j : ℕ) → (after_turns n size name c).host ≡ joined (take k (answers size (depth_of c))) → ViewerGoes size name c k m → HostGoes size name c m j
    → after_turns (suc n) size name c ≡ exchange (joined (take m (greeting name c))) (joined (take j (answers size (depth_of c))))
one_turn size name c n k m j e v h =
    ap (λ (host : List ℕ). host_answers size (viewer_handshake name c host).text) e
    ∙ ap (λ (viewer : List ℕ). host_answers size viewer) v
    ∙ ap (λ (host : List ℕ). exchange (joined (take m (greeting name c))) host) h

host_is : {x : Exchange} {viewer host : List ℕ} → x ≡ exchange viewer host → x.host ≡ host
host_is e = ap (λ (x : Exchange). x.host) e

abbrev nth : ℕ → List (List ℕ) → List ℕ
nth i texts = get_or texts i []

pub ten_turns : (size : Size) (name : List ℕ) (c : Confirmed) → IsTrue (is_session_size size.w size.h) → IsName name → IsConfirmable c
    → after_turns 10 size name c ≡ exchange (joined (greeting name c)) (joined (answers size (depth_of c)))
ten_turns size name c sided n h =
    let v = viewer_begins size name c in
    let r = host_begins size (depth_of c) name c in
    let one = one_turn size name c 0 0 1 1 refl (goes size name c 0 1 (ap (nth 0) v)) (replies size name c 1 1 n h (ap (nth 0) r)) in
    let two = one_turn size name c 1 1 2 2 (host_is one) (goes size name c 1 2 (ap (nth 1) v)) (replies size name c 2 2 n h (ap (nth 1) r)) in
    let three = one_turn size name c 2 2 4 3 (host_is two) (goes size name c 2 4 (ap (nth 2) v)) (replies size name c 4 3 n h (ap (nth 2) r)) in
    let four = one_turn size name c 3 3 5 4 (host_is three) (goes size name c 3 5 (ap (nth 3) v)) (replies size name c 5 4 n h (ap (nth 3) r)) in
    let five = one_turn size name c 4 4 6 5 (host_is four) (goes size name c 4 6 (ap (nth 4) v)) (replies size name c 6 5 n h (ap (nth 4) r)) in
    let six = one_turn size name c 5 5 7 6 (host_is five) (goes size name c 5 7 (ap (nth 5) v)) (replies size name c 7 6 n h (ap (nth 5) r)) in
    let seven = one_turn size name c 6 6 8 7 (host_is six) (goes size name c 6 8 (ap (nth 6) v)) (replies size name c 8 7 n h (ap (nth 6) r)) in
    let eight = one_turn size name c 7 7 9 8 (host_is seven) (goes size name c 7 9 (ap (nth 7) v)) (replies size name c 9 8 n h (ap (nth 7) r)) in
    let nine = one_turn size name c 8 8 10 10 (host_is eight) (goes size name c 8 10 (ap (nth 8) v)) (replies size name c 10 10 n h (named size name c n)) in
    one_turn size name c 9 10 15 14 (host_is nine) (goes size name c 10 15 (demanded size name c (sides size sided))) (all_heard size name c n h)
