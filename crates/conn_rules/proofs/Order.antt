-- The steps of a stream come in order.
use Rattle.std.proofs.Common.{◌≡◌, ℕ, List, [], ◌∷◌, ◌++◌, refl, ap, sym, ◌∙◌, subst, append-nil, Bool, true, false, cond}
use Rattle.std.specs.Prelude.{◌==◌, ⊤, Option, Some, None, Result, Ok, Err}
use Rattle.std.specs.List.{slice_range}
use Rattle.wire_num.specs.Field.{Read, bind}
use Rattle.px_core.specs.declared.surface.Size.{Size}
use Rattle.px_core.specs.declared.rectangle.Rect.{Rect}
use Rattle.wire_num.specs.declared.range.Range.{Range}
use Rattle.wire_num.specs.Layout.{fields_at}
use Rattle.tpkt_x224.specs.declared.request.Request.{Request}
use Rattle.tpkt_x224.specs.declared.bad_tpdu.BadTpdu.{BadTpdu}
use Rattle.tpkt_x224.specs.declared.tpkt.Packet.{Packet}
use Rattle.tpkt_x224.specs.declared.tpkt.Packet.TheVariants.{Whole, Part, NotTpkt, BadLength}
use Rattle.tpkt_x224.specs.Pieces.{packets_with}
use Rattle.tpkt_x224.specs.Request.{request_of}
use Rattle.mcs_ber.specs.declared.bad_ber.BadBer.{BadBer}
use Rattle.mcs_ber.specs.ConnectInitial.{user_data_of}
use Rattle.gcc_per.specs.declared.client_data.ClientData.{ClientData}
use Rattle.gcc_per.specs.declared.gcc_fault.GccFault.{GccFault}
use Rattle.gcc_per.specs.declared.gcc_fault.GccFault.TheVariants.{BadGcc, DepthNotOffered, TooManyChannels}
use Rattle.gcc_per.specs.ClientData.{client_data_of}
use Rattle.mcs_dom.specs.declared.domain_pdu.DomainPdu.{DomainPdu}
use Rattle.mcs_dom.specs.declared.domain_pdu.DomainPdu.TheVariants.{Erect, Attach, Join, Data, Bye}
use Rattle.info_lic.specs.declared.info_fault.InfoFault.{InfoFault}
use Rattle.info_lic.specs.declared.info_fault.InfoFault.TheVariants.{BadInfo}
use Rattle.info_lic.specs.ClientInfo.{name_of}
use Rattle.px_core.specs.declared.depth.Depth.{Depth}
use Rattle.caps_sets.specs.declared.confirmed.Confirmed.{Confirmed}
use Rattle.caps_sets.specs.declared.caps_fault.CapsFault.{CapsFault}
use Rattle.caps_sets.specs.declared.caps_fault.CapsFault.TheVariants.{BadCaps}
use Rattle.caps_sets.specs.ConfirmActive.{confirmed_of}
use Rattle.input_pdu.specs.declared.event.Event.{Event}
use Rattle.input_pdu.specs.Events.{events_of}
use Rattle.share_pdu.specs.declared.client_pdu.ClientPdu.{ClientPdu}
use Rattle.share_pdu.specs.declared.client_pdu.ClientPdu.TheVariants as pdu
use Rattle.share_pdu.specs.declared.finals.Final.{Final}
use Rattle.share_pdu.specs.declared.finals.Final.TheVariants as final
use Rattle.share_pdu.specs.declared.share_fault.ShareFault.{ShareFault}
use Rattle.share_pdu.specs.declared.share_fault.ShareFault.TheVariants.{BadShare, Compressed}
use Rattle.share_pdu.specs.Bodies.{areas_of}
use Rattle.share_pdu.specs.ClientPdu.{share_pdu_of}
use Rattle.conn_rules.specs.declared.answer.Answer.{Answer}
use Rattle.conn_rules.specs.declared.answer.News.{News}
use Rattle.conn_rules.specs.declared.answer.News.TheVariants as news
use Rattle.conn_rules.specs.declared.conn_step.ConnStep.{ConnStep}
use Rattle.conn_rules.specs.declared.conn_step.ConnStep.TheVariants as step
use Rattle.conn_rules.specs.declared.client.Client.{Client}
use Rattle.conn_rules.specs.declared.deed.Deed.{Deed}
use Rattle.conn_rules.specs.declared.deed.Deed.TheVariants as deed
use Rattle.conn_rules.specs.declared.refusal.Refusal.{Refusal}
use Rattle.conn_rules.specs.declared.stage.Stage.{Stage}
use Rattle.conn_rules.specs.declared.stage.Stage.TheVariants as stage
use Rattle.conn_rules.specs.declared.stage.SharePhase.{SharePhase}
use Rattle.conn_rules.specs.declared.stage.SharePhase.TheVariants as phase
use Rattle.conn_rules.specs.Answers.{Judged, Telling, beside, alone}
use Rattle.conn_rules.specs.Channels.{io_channel, user_channel, is_virtual_or_user}
use Rattle.conn_rules.specs.Connecting.{request_judged, client_judged, initial_judged}
use Rattle.conn_rules.specs.Domain.{erect_judged, attach_judged, own, joined, dropped, by_channel}
use Rattle.conn_rules.specs.Info.{info_judged}
use Rattle.conn_rules.specs.Shares.{order_of, due, sets_read, other_deed, input_deed, deed_of, read_deed}
use Rattle.fast_path.specs.Heads.{is_fast, stream_packet_at}
use Rattle.fast_path.specs.Events.{fast_events}
use Rattle.conn_rules.specs.Deeds.{answered, done, deed_judged, found_judged}
use Rattle.conn_rules.specs.Numbers.{place_behind}
use Rattle.conn_rules.specs.Headers.{mcs_headers}
use Rattle.conn_rules.specs.Packets.{mcs_place, body_in, info_data, both, share_data, joins_judged, shares_judged, pdu_in, mcs_judged, behind_headers, tpkt_judged, input_wanted, input_judged, fast_judged, packet_judged}
use Rattle.conn_rules.specs.Told.{event_steps, area_steps, news_steps, told_steps}
use Rattle.conn_rules.specs.Hearing.{Hearing, Heard, silent, is_over, judged_heard, packet_heard, packets_heard, between, head_of, with_head, with_rest, heard, host_handshake, first_hearing}
use Rattle.conn_rules.specs.Progress.{Progress, progress_of, StaysOrEnds, ComeInOrder}
use Rattle.conn_rules.specs.Progress.Progress.{Connecting, Ready, Ended}
use Rattle.conn_rules.proofs.Found.{Finds, Tells, packet_finds}

-- ---- one after another

stays_then : (a b c : Progress) → StaysOrEnds a b → StaysOrEnds b c → StaysOrEnds a c
stays_then Connecting Connecting c p q = q
stays_then Connecting Ready c p q = absurd p
stays_then Connecting Ended Connecting p q = absurd (let no : ⊥ = cc in no)
stays_then Connecting Ended Ready p q = absurd (let no : ⊥ = cc in no)
stays_then Connecting Ended Ended p q = tt
stays_then Ready Connecting c p q = absurd p
stays_then Ready Ready c p q = q
stays_then Ready Ended Connecting p q = absurd (let no : ⊥ = cc in no)
stays_then Ready Ended Ready p q = absurd (let no : ⊥ = cc in no)
stays_then Ready Ended Ended p q = tt
stays_then Ended Connecting c p q = absurd (let no : ⊥ = cc in no)
stays_then Ended Ready c p q = absurd (let no : ⊥ = cc in no)
stays_then Ended Ended c p q = q

-- steps behind an end are none
none_behind : (steps : List ConnStep) (c : Progress) → ComeInOrder Ended steps c → (steps ≡ []) × (c ≡ Ended)
none_behind [] c o = (refl, o)
none_behind (one ∷ steps) c o = absurd o

-- where no step is told
none_then : (a b c : Progress) (steps : List ConnStep) → ComeInOrder a [] b → ComeInOrder b steps c → ComeInOrder a steps c
none_then Connecting Connecting c steps p q = q
none_then Connecting Ready c steps p q = absurd p
none_then Connecting Ended c steps p q =
    let e = none_behind steps c q in subst (λ xs. ComeInOrder Connecting xs c) (sym e.0) (subst (λ d. StaysOrEnds Connecting d) (sym e.1) tt)
none_then Ready Connecting c steps p q = absurd p
none_then Ready Ready c steps p q = q
none_then Ready Ended c steps p q =
    let e = none_behind steps c q in subst (λ xs. ComeInOrder Ready xs c) (sym e.0) (subst (λ d. StaysOrEnds Ready d) (sym e.1) tt)
none_then Ended Connecting c steps p q = absurd (let no : ⊥ = cc in no)
none_then Ended Ready c steps p q = absurd (let no : ⊥ = cc in no)
none_then Ended Ended c steps p q = q

ends_then : (b c : Progress) (steps more last : List ConnStep) → (steps ≡ last) × (b ≡ Ended) → ComeInOrder b more c → (steps ++ more ≡ last) × (c ≡ Ended)
ends_then b c steps more last p q =
    let e = none_behind more c (subst (λ d. ComeInOrder d more c) p.1 q) in
    (ap (λ xs. steps ++ xs) e.0 ∙ append-nil steps ∙ p.0, e.1)

pub in_order_then : (a b c : Progress) (steps more : List ConnStep) → ComeInOrder a steps b → ComeInOrder b more c → ComeInOrder a (steps ++ more) c
in_order_then a b c [] more p q = none_then a b c more p q
in_order_then Connecting b c (step.Named name ∷ steps) more p q = in_order_then Connecting b c steps more p q
in_order_then Connecting b c (step.Ready confirmed ∷ steps) more p q = in_order_then Ready b c steps more p q
in_order_then Connecting b c (step.Event event ∷ steps) more p q = absurd p
in_order_then Connecting b c (step.Refresh area ∷ steps) more p q = absurd p
in_order_then Connecting b c (step.Suppress stop ∷ steps) more p q = absurd p
in_order_then Connecting b c (step.Shutdown ∷ steps) more p q = absurd p
in_order_then Connecting b c (step.Bye ∷ steps) more p q = ends_then b c steps more [] p q
in_order_then Connecting b c (step.Packet ∷ steps) more p q = absurd p
in_order_then Ready b c (step.Named name ∷ steps) more p q = absurd p
in_order_then Ready b c (step.Ready confirmed ∷ steps) more p q = absurd p
in_order_then Ready b c (step.Event event ∷ steps) more p q = in_order_then Ready b c steps more p q
in_order_then Ready b c (step.Refresh area ∷ steps) more p q = in_order_then Ready b c steps more p q
in_order_then Ready b c (step.Suppress stop ∷ steps) more p q = in_order_then Ready b c steps more p q
in_order_then Ready b c (step.Shutdown ∷ steps) more p q = ends_then b c steps more (step.Packet ∷ []) p q
in_order_then Ready b c (step.Bye ∷ steps) more p q = ends_then b c steps more (step.Packet ∷ []) p q
in_order_then Ready b c (step.Packet ∷ steps) more p q = in_order_then Ready b c steps more p q
in_order_then Ended b c (one ∷ steps) more p q = absurd p

-- ---- answers

-- what a packet tells of a client that connects, and where it is then
abbrev pub EarlyNews : News → Progress → Type 0
EarlyNews news.Nothing after = after ≡ Connecting
EarlyNews (news.Step (step.Named name)) after = after ≡ Connecting
EarlyNews (news.Step (step.Ready confirmed)) after = after ≡ Ready
EarlyNews (news.Step (step.Event event)) after = ⊥
EarlyNews (news.Step (step.Refresh area)) after = ⊥
EarlyNews (news.Step (step.Suppress stop)) after = ⊥
EarlyNews (news.Step step.Shutdown) after = ⊥
EarlyNews (news.Step step.Bye) after = after ≡ Ended
EarlyNews (news.Step step.Packet) after = ⊥
EarlyNews news.Pdu after = ⊥

-- and of one that is ready
abbrev pub LaterNews : News → Progress → Type 0
LaterNews news.Nothing after = after ≡ Ready
LaterNews (news.Step (step.Named name)) after = ⊥
LaterNews (news.Step (step.Ready confirmed)) after = ⊥
LaterNews (news.Step (step.Event event)) after = ⊥
LaterNews (news.Step (step.Refresh area)) after = ⊥
LaterNews (news.Step (step.Suppress stop)) after = after ≡ Ready
LaterNews (news.Step step.Shutdown) after = after ≡ Ended
LaterNews (news.Step step.Bye) after = after ≡ Ended
LaterNews (news.Step step.Packet) after = ⊥
LaterNews news.Pdu after = after ≡ Ready

abbrev pub NewsOf : Progress → News → Progress → Type 0
NewsOf Connecting what after = EarlyNews what after
NewsOf Ready what after = LaterNews what after
NewsOf Ended what after = ⊥

-- an answer to a client that is so far
abbrev pub Suits : Progress → Judged → Type 0
Suits here (Ok answer) = NewsOf here answer.news (progress_of answer.next)
Suits here (Err refusal) = ⊤

-- ---- channels

either_suits : (here : Progress) (b : Bool) (j k : Judged) → Suits here j → Suits here k → Suits here (cond b j k)
either_suits here true j k p q = p
either_suits here false j k p q = q

-- an answer with steps beside it
abbrev pub TellingSuits : Progress → Result (Telling Answer) Refusal → Type 0
TellingSuits here (Ok found) = NewsOf here found.what.news (progress_of found.what.next)
TellingSuits here (Err refusal) = ⊤

beside_suits : (here : Progress) (told : List ConnStep) (j : Judged) → Suits here j → TellingSuits here (beside told j)
beside_suits here told (Ok answer) p = p
beside_suits here told (Err refusal) p = tt

alone_suits : (here : Progress) (j : Judged) → Suits here j → TellingSuits here (alone j)
alone_suits here j p = beside_suits here [] j p

either_telling : (here : Progress) (b : Bool) (j k : Result (Telling Answer) Refusal) → TellingSuits here j → TellingSuits here k → TellingSuits here (cond b j k)
either_telling here true j k p q = p
either_telling here false j k p q = q

own_suits : (here : Progress) (channels from user : ℕ) (j : Judged) → Suits here j → Suits here (own channels from user j)
own_suits here channels from user j p = either_suits here (user == user_channel channels) j _ p tt

-- nothing is told at a stage, and it stays
abbrev Keeps : Progress → Stage → Type 0
Keeps here next = NewsOf here news.Nothing (progress_of next)

dropped_suits : (here : Progress) (channels from channel : ℕ) (next : Stage) → Keeps here next → Suits here (dropped channels from channel next)
dropped_suits here channels from channel next k = either_suits here (is_virtual_or_user channels channel) _ _ k tt

by_channel_suits : (here : Progress) (channels from user channel : ℕ) (next : Stage) (j : Judged) → Keeps here next → Suits here j → Suits here (by_channel channels from user channel next j)
by_channel_suits here channels from user channel next j k p =
    either_suits here (channel == io_channel) j _ p (own_suits here channels from user _ (dropped_suits here channels from channel next k))

-- ---- connecting

request_suits : (r : Result Request BadTpdu) → Suits Connecting (request_judged r)
request_suits (Ok request) = refl
request_suits (Err fault) = tt

client_suits : (asked from : ℕ) (r : Result ClientData GccFault) → Suits Connecting (client_judged asked from r)
client_suits asked from (Ok client) = refl
client_suits asked from (Err (BadGcc at)) = tt
client_suits asked from (Err (DepthNotOffered at)) = tt
client_suits asked from (Err (TooManyChannels at)) = tt

initial_suits : (asked from : ℕ) (bytes : List ℕ) (r : Result Range BadBer) → Suits Connecting (initial_judged asked from bytes r)
initial_suits asked from bytes (Ok place) = client_suits asked (place_behind from place.from) (client_data_of (slice_range bytes place.from place.to))
initial_suits asked from bytes (Err fault) = tt

erect_suits : (client : Client) (from : ℕ) (p : DomainPdu) → Suits Connecting (erect_judged client from p)
erect_suits client from Erect = refl
erect_suits client from Attach = tt
erect_suits client from (Join user channel) = tt
erect_suits client from (Data user channel body) = tt
erect_suits client from (Bye reason) = refl

attach_suits : (client : Client) (from : ℕ) (p : DomainPdu) → Suits Connecting (attach_judged client from p)
attach_suits client from Erect = tt
attach_suits client from Attach = refl
attach_suits client from (Join user channel) = tt
attach_suits client from (Data user channel body) = tt
attach_suits client from (Bye reason) = refl

joined_suits : (client : Client) (from : ℕ) (user io : Bool) (channel : ℕ) → Suits Connecting (joined client from user io channel)
joined_suits client from user io channel = either_suits Connecting (channel == io_channel) _ _ refl
    (either_suits Connecting (channel == user_channel client.channels) _ _ refl (either_suits Connecting (is_virtual_or_user client.channels channel) _ _ refl tt))

info_suits : (client : Client) (from user place : ℕ) (r : Result (List ℕ) InfoFault) → Suits Connecting (info_judged client from user place r)
info_suits client from user place (Ok name) = own_suits Connecting client.channels from user _ refl
info_suits client from user place (Err (BadInfo at)) = tt

info_data_suits : (client : Client) (b : Bool) (mcs : List ℕ) (user channel : ℕ) (body : Range) → Suits Connecting (info_data client b mcs user channel body)
info_data_suits client true mcs user channel body = by_channel_suits Connecting client.channels mcs_place user channel (stage.Joins client true true) _ refl
    (info_suits client mcs_place user (place_behind mcs_place body.from) (name_of (body_in mcs body)))
info_data_suits client false mcs user channel body = own_suits Connecting client.channels mcs_place user _ tt

joins_suits : (client : Client) (user io : Bool) (mcs : List ℕ) (p : DomainPdu) → Suits Connecting (joins_judged client user io mcs p)
joins_suits client user io mcs Erect = tt
joins_suits client user io mcs Attach = tt
joins_suits client user io mcs (Join initiator channel) = own_suits Connecting client.channels mcs_place initiator _ (joined_suits client mcs_place user io channel)
joins_suits client user io mcs (Data initiator channel body) = info_data_suits client (both user io) mcs initiator channel body
joins_suits client user io mcs (Bye reason) = refl

-- ---- share PDUs

-- what may be asked for in a phase
abbrev DeedOf : SharePhase → Option Deed → Type 0
DeedOf here None = ⊤
DeedOf here (Some deed.Nothing) = ⊤
DeedOf (phase.Confirm depth) (Some (deed.Confirm confirmed)) = ⊤
DeedOf (phase.Finish before next) (Some (deed.Confirm confirmed)) = ⊥
DeedOf phase.Ready (Some (deed.Confirm confirmed)) = ⊥
DeedOf (phase.Confirm depth) (Some (deed.Answer confirmed which)) = ⊥
DeedOf (phase.Finish before next) (Some (deed.Answer confirmed which)) = ⊤
DeedOf phase.Ready (Some (deed.Answer confirmed which)) = ⊥
DeedOf (phase.Confirm depth) (Some deed.Tell) = ⊥
DeedOf (phase.Finish before next) (Some deed.Tell) = ⊥
DeedOf phase.Ready (Some deed.Tell) = ⊤
DeedOf (phase.Confirm depth) (Some (deed.Suppress stop)) = ⊥
DeedOf (phase.Finish before next) (Some (deed.Suppress stop)) = ⊥
DeedOf phase.Ready (Some (deed.Suppress stop)) = ⊤
DeedOf (phase.Confirm depth) (Some deed.Shutdown) = ⊥
DeedOf (phase.Finish before next) (Some deed.Shutdown) = ⊥
DeedOf phase.Ready (Some deed.Shutdown) = ⊤

abbrev ReadOf : SharePhase → Result (Telling (Option Deed)) Refusal → Type 0
ReadOf here (Ok found) = DeedOf here found.what
ReadOf here (Err refusal) = ⊤

either_deed : (here : SharePhase) (b : Bool) (d e : Option Deed) → DeedOf here d → DeedOf here e → DeedOf here (cond b d e)
either_deed here true d e p q = p
either_deed here false d e p q = q

due_suits : (before confirmed : Confirmed) (next last which : Final) → DeedOf (phase.Finish before last) (due confirmed next which)
due_suits before confirmed next last which = either_deed (phase.Finish before last) (order_of which == order_of next) _ _ tt tt

input_suits : (here : SharePhase) (wanted : Option Deed) (place : ℕ) (r : Result (List Event) ℕ) → DeedOf here wanted → ReadOf here (input_deed wanted place r)
input_suits here wanted place (Ok events) p = p
input_suits here wanted place (Err at) p = tt

sets_suit : (depth : Depth) (place : ℕ) (r : Result Confirmed CapsFault) → ReadOf (phase.Confirm depth) (bind (sets_read place r) (λ confirmed. other_deed (Some (deed.Confirm confirmed))))
sets_suit depth place (Ok confirmed) = tt
sets_suit depth place (Err (BadCaps at)) = tt

sets_again : (before : Confirmed) (next : Final) (place : ℕ) (r : Result Confirmed CapsFault) → ReadOf (phase.Finish before next) (bind (sets_read place r) (λ confirmed. other_deed None))
sets_again before next place (Ok confirmed) = tt
sets_again before next place (Err (BadCaps at)) = tt

deed_suits : (here : SharePhase) (place : ℕ) (bytes : List ℕ) (p : ClientPdu) → ReadOf here (deed_of here place bytes p)
deed_suits (phase.Confirm depth) place bytes (pdu.Confirm r) = sets_suit depth _ (confirmed_of depth (slice_range bytes r.from r.to))
deed_suits (phase.Confirm depth) place bytes pdu.Synchronize = tt
deed_suits (phase.Confirm depth) place bytes pdu.Cooperate = tt
deed_suits (phase.Confirm depth) place bytes pdu.Request = tt
deed_suits (phase.Confirm depth) place bytes pdu.FontList = tt
deed_suits (phase.Confirm depth) place bytes pdu.KeyList = tt
deed_suits (phase.Confirm depth) place bytes (pdu.Input r) = input_suits (phase.Confirm depth) _ _ (events_of (slice_range bytes r.from r.to)) tt
deed_suits (phase.Confirm depth) place bytes (pdu.Refresh r) = tt
deed_suits (phase.Confirm depth) place bytes (pdu.Suppress stop) = tt
deed_suits (phase.Confirm depth) place bytes pdu.Shutdown = tt
deed_suits (phase.Confirm depth) place bytes pdu.Other = tt
deed_suits (phase.Finish before next) place bytes (pdu.Confirm r) = sets_again before next _ (confirmed_of before.depth (slice_range bytes r.from r.to))
deed_suits (phase.Finish before next) place bytes pdu.Synchronize = due_suits before before next next final.Synchronize
deed_suits (phase.Finish before next) place bytes pdu.Cooperate = due_suits before before next next final.Cooperate
deed_suits (phase.Finish before next) place bytes pdu.Request = due_suits before before next next final.Granted
deed_suits (phase.Finish before next) place bytes pdu.FontList = due_suits before before next next final.FontMap
deed_suits (phase.Finish before next) place bytes pdu.KeyList = either_deed (phase.Finish before next) (order_of next == 3) _ _ tt tt
deed_suits (phase.Finish before next) place bytes (pdu.Input r) = input_suits (phase.Finish before next) _ _ (events_of (slice_range bytes r.from r.to)) tt
deed_suits (phase.Finish before next) place bytes (pdu.Refresh r) = tt
deed_suits (phase.Finish before next) place bytes (pdu.Suppress stop) = tt
deed_suits (phase.Finish before next) place bytes pdu.Shutdown = tt
deed_suits (phase.Finish before next) place bytes pdu.Other = tt
deed_suits phase.Ready place bytes (pdu.Confirm r) = tt
deed_suits phase.Ready place bytes pdu.Synchronize = tt
deed_suits phase.Ready place bytes pdu.Cooperate = tt
deed_suits phase.Ready place bytes pdu.Request = tt
deed_suits phase.Ready place bytes pdu.FontList = tt
deed_suits phase.Ready place bytes pdu.KeyList = tt
deed_suits phase.Ready place bytes (pdu.Input r) = input_suits phase.Ready _ _ (events_of (slice_range bytes r.from r.to)) tt
deed_suits phase.Ready place bytes (pdu.Refresh r) = tt
deed_suits phase.Ready place bytes (pdu.Suppress stop) = tt
deed_suits phase.Ready place bytes pdu.Shutdown = tt
deed_suits phase.Ready place bytes pdu.Other = tt

read_suits : (here : SharePhase) (place : ℕ) (bytes : List ℕ) (r : Result ClientPdu ShareFault) → ReadOf here (read_deed here place bytes r)
read_suits here place bytes (Ok p) = deed_suits here place bytes p
read_suits here place bytes (Err (BadShare at)) = tt
read_suits here place bytes (Err (Compressed at)) = tt

-- how far a client in a phase is
abbrev so_far : SharePhase → Progress
so_far here = progress_of (stage.Shares 0 here)

keeps_phase : (channels : ℕ) (here : SharePhase) → Keeps (so_far here) (stage.Shares channels here)
keeps_phase channels (phase.Confirm depth) = refl
keeps_phase channels (phase.Finish before next) = refl
keeps_phase channels phase.Ready = refl

answered_suits : (channels : ℕ) (confirmed : Confirmed) (which : Final) → Suits Connecting (answered channels confirmed which)
answered_suits channels confirmed final.Synchronize = refl
answered_suits channels confirmed final.Cooperate = refl
answered_suits channels confirmed final.Granted = refl
answered_suits channels confirmed final.FontMap = refl

done_suits : (channels : ℕ) (here : SharePhase) (what : Deed) → DeedOf here (Some what) → Suits (so_far here) (done channels here what)
done_suits channels here deed.Nothing p = keeps_phase channels here
done_suits channels (phase.Confirm depth) (deed.Confirm confirmed) p = refl
done_suits channels (phase.Finish before next) (deed.Confirm confirmed) p = absurd p
done_suits channels phase.Ready (deed.Confirm confirmed) p = absurd p
done_suits channels (phase.Confirm depth) (deed.Answer confirmed which) p = absurd p
done_suits channels (phase.Finish before next) (deed.Answer confirmed which) p = answered_suits channels confirmed which
done_suits channels phase.Ready (deed.Answer confirmed which) p = absurd p
done_suits channels (phase.Confirm depth) deed.Tell p = absurd p
done_suits channels (phase.Finish before next) deed.Tell p = absurd p
done_suits channels phase.Ready deed.Tell p = refl
done_suits channels (phase.Confirm depth) (deed.Suppress stop) p = absurd p
done_suits channels (phase.Finish before next) (deed.Suppress stop) p = absurd p
done_suits channels phase.Ready (deed.Suppress stop) p = refl
done_suits channels (phase.Confirm depth) deed.Shutdown p = absurd p
done_suits channels (phase.Finish before next) deed.Shutdown p = absurd p
done_suits channels phase.Ready deed.Shutdown p = refl

judged_suits : (channels from user : ℕ) (here : SharePhase) (place : ℕ) (wanted : Option Deed) → DeedOf here wanted → Suits (so_far here) (deed_judged channels from user here place wanted)
judged_suits channels from user here place (Some what) p = own_suits (so_far here) channels from user (done channels here what) (done_suits channels here what p)
judged_suits channels from user here place None p = tt

found_suits : (channels from user : ℕ) (here : SharePhase) (place : ℕ) (r : Result (Telling (Option Deed)) Refusal) → ReadOf here r
    → TellingSuits (so_far here) (found_judged channels from user here place r)
found_suits channels from user here place (Ok found) p =
    beside_suits (so_far here) found.told (deed_judged channels from user here place found.what) (judged_suits channels from user here place found.what p)
found_suits channels from user here place (Err refusal) p = tt

share_suits : (channels : ℕ) (here : SharePhase) (mcs : List ℕ) (user channel : ℕ) (body : Range) → TellingSuits (so_far here) (share_data channels here mcs user channel body)
share_suits channels here mcs user channel body =
    either_telling (so_far here) (channel == io_channel) _ _
    (found_suits channels mcs_place user here _ _ (read_suits here _ (body_in mcs body) (share_pdu_of (body_in mcs body))))
    (alone_suits (so_far here) (own channels mcs_place user (dropped channels mcs_place channel (stage.Shares channels here)))
    (own_suits (so_far here) channels mcs_place user _ (dropped_suits (so_far here) channels mcs_place channel (stage.Shares channels here) (keeps_phase channels here))))

leaves_suits : (here : SharePhase) → NewsOf (so_far here) (news.Step step.Bye) Ended
leaves_suits (phase.Confirm depth) = refl
leaves_suits (phase.Finish before next) = refl
leaves_suits phase.Ready = refl

shares_suits : (channels : ℕ) (here : SharePhase) (mcs : List ℕ) (p : DomainPdu) → TellingSuits (so_far here) (shares_judged channels here mcs p)
shares_suits channels here mcs Erect = tt
shares_suits channels here mcs Attach = tt
shares_suits channels here mcs (Join user channel) = tt
shares_suits channels here mcs (Data user channel body) = share_suits channels here mcs user channel body
shares_suits channels here mcs (Bye reason) = leaves_suits here

-- ---- packets

bind_suits : (here : Progress) (r : Result DomainPdu Refusal) (next : DomainPdu → Judged) → ((p : DomainPdu) → Suits here (next p)) → Suits here (bind r next)
bind_suits here (Ok p) next all = all p
bind_suits here (Err refusal) next all = tt

bind_telling : (here : Progress) (r : Result DomainPdu Refusal) (next : DomainPdu → Result (Telling Answer) Refusal) → ((p : DomainPdu) → TellingSuits here (next p)) → TellingSuits here (bind r next)
bind_telling here (Ok p) next all = all p
bind_telling here (Err refusal) next all = tt

mcs_suits : (s : Stage) (mcs : List ℕ) → is_over s ≡ false → progress_of s ≡ progress_of s → TellingSuits (progress_of s) (mcs_judged s mcs)
mcs_suits stage.Request mcs e same = refl
mcs_suits (stage.Initial asked) mcs e same = alone_suits Connecting (initial_judged asked mcs_place mcs (user_data_of mcs)) (initial_suits asked mcs_place mcs (user_data_of mcs))
mcs_suits (stage.Erect client) mcs e same =
    alone_suits Connecting (bind (pdu_in mcs) (λ p. erect_judged client mcs_place p)) (bind_suits Connecting (pdu_in mcs) _ (λ p. erect_suits client mcs_place p))
mcs_suits (stage.Attach client) mcs e same =
    alone_suits Connecting (bind (pdu_in mcs) (λ p. attach_judged client mcs_place p)) (bind_suits Connecting (pdu_in mcs) _ (λ p. attach_suits client mcs_place p))
mcs_suits (stage.Joins client user io) mcs e same =
    alone_suits Connecting (bind (pdu_in mcs) (λ p. joins_judged client user io mcs p)) (bind_suits Connecting (pdu_in mcs) _ (λ p. joins_suits client user io mcs p))
mcs_suits (stage.Shares channels (phase.Confirm depth)) mcs e same = bind_telling Connecting (pdu_in mcs) _ (λ p. shares_suits channels (phase.Confirm depth) mcs p)
mcs_suits (stage.Shares channels (phase.Finish before next)) mcs e same = bind_telling Connecting (pdu_in mcs) _ (λ p. shares_suits channels (phase.Finish before next) mcs p)
mcs_suits (stage.Shares channels phase.Ready) mcs e same = bind_telling Ready (pdu_in mcs) _ (λ p. shares_suits channels phase.Ready mcs p)
mcs_suits stage.Over mcs e same = absurd (let no : ⊥ = cc in no)
mcs_suits (stage.Refused k at) mcs e same = absurd (let no : ⊥ = cc in no)

headers_suit : (s : Stage) (packet : List ℕ) (r : Read (List ℕ)) → is_over s ≡ false → TellingSuits (progress_of s) (behind_headers packet r s)
headers_suit s packet (Ok v) e = mcs_suits s v.1 e refl
headers_suit s packet (Err left) e = tt

tpkt_suits : (s : Stage) (packet : List ℕ) → is_over s ≡ false → TellingSuits (progress_of s) (tpkt_judged s packet)
tpkt_suits stage.Request packet e = alone_suits Connecting (request_judged (request_of packet)) (request_suits (request_of packet))
tpkt_suits (stage.Initial asked) packet e = headers_suit (stage.Initial asked) packet (fields_at mcs_headers packet) e
tpkt_suits (stage.Erect client) packet e = headers_suit (stage.Erect client) packet (fields_at mcs_headers packet) e
tpkt_suits (stage.Attach client) packet e = headers_suit (stage.Attach client) packet (fields_at mcs_headers packet) e
tpkt_suits (stage.Joins client user io) packet e = headers_suit (stage.Joins client user io) packet (fields_at mcs_headers packet) e
tpkt_suits (stage.Shares channels here) packet e = headers_suit (stage.Shares channels here) packet (fields_at mcs_headers packet) e
tpkt_suits stage.Over packet e = absurd (let no : ⊥ = cc in no)
tpkt_suits (stage.Refused k at) packet e = absurd (let no : ⊥ = cc in no)

-- ---- fast-path packets

wanted_suits : (channels : ℕ) (here : SharePhase) → Suits (so_far here) (done channels here (input_wanted here))
wanted_suits channels (phase.Confirm depth) = done_suits channels (phase.Confirm depth) deed.Nothing tt
wanted_suits channels (phase.Finish before next) = done_suits channels (phase.Finish before next) deed.Nothing tt
wanted_suits channels phase.Ready = done_suits channels phase.Ready deed.Tell tt

fast_input_suits : (channels : ℕ) (here : SharePhase) (r : Result (List Event) ℕ) → TellingSuits (so_far here) (input_judged channels here r)
fast_input_suits channels here (Ok events) = beside_suits (so_far here) (event_steps events) (done channels here (input_wanted here)) (wanted_suits channels here)
fast_input_suits channels here (Err at) = tt

fast_suits : (s : Stage) (packet : List ℕ) → is_over s ≡ false → TellingSuits (progress_of s) (fast_judged s packet)
fast_suits stage.Request packet e = tt
fast_suits (stage.Initial asked) packet e = tt
fast_suits (stage.Erect client) packet e = tt
fast_suits (stage.Attach client) packet e = tt
fast_suits (stage.Joins client user io) packet e = tt
fast_suits (stage.Shares channels (phase.Confirm depth)) packet e = fast_input_suits channels (phase.Confirm depth) (fast_events packet)
fast_suits (stage.Shares channels (phase.Finish before next)) packet e = fast_input_suits channels (phase.Finish before next) (fast_events packet)
fast_suits (stage.Shares channels phase.Ready) packet e = fast_input_suits channels phase.Ready (fast_events packet)
fast_suits stage.Over packet e = absurd (let no : ⊥ = cc in no)
fast_suits (stage.Refused k at) packet e = absurd (let no : ⊥ = cc in no)

pub packet_suits : (s : Stage) (packet : List ℕ) → is_over s ≡ false → TellingSuits (progress_of s) (packet_judged s packet)
packet_suits s packet e =
    either_telling (progress_of s) (is_fast packet) (fast_judged s packet) (tpkt_judged s packet) (fast_suits s packet e) (tpkt_suits s packet e)

-- ---- what a packet tells

events_in_order : (events : List Event) → ComeInOrder Ready (event_steps events) Ready
events_in_order [] = tt
events_in_order (event ∷ events) = events_in_order events

areas_in_order : (areas : List Rect) → ComeInOrder Ready (area_steps areas) Ready
areas_in_order [] = tt
areas_in_order (area ∷ areas) = areas_in_order areas

-- steps that a client may say once it is ready
abbrev AllLater : List ConnStep → Type 0
AllLater steps = ComeInOrder Ready steps Ready

found_later : Finds AllLater (λ bytes. ⊤)
found_later = record {
  none = tt;
  events = events_in_order;
  areas = λ body q. areas_in_order (areas_of body);
  part = λ bytes from to q. tt;
  behind = λ packet values left e q. tt;
}

-- with the end of the packet
ended_in_order : (steps : List ConnStep) → ComeInOrder Ready steps Ready → ComeInOrder Ready (steps ++ step.Packet ∷ []) Ready
ended_in_order steps p = in_order_then Ready Ready Ready steps (step.Packet ∷ []) p tt

early_in_order : (found : List ConnStep) (what : News) (after : Progress) → EarlyNews what after → ComeInOrder Connecting (news_steps what found ++ []) after
early_in_order found news.Nothing after e = subst (λ d. StaysOrEnds Connecting d) (sym e) tt
early_in_order found (news.Step (step.Named name)) after e = subst (λ d. StaysOrEnds Connecting d) (sym e) tt
early_in_order found (news.Step (step.Ready confirmed)) after e = subst (λ d. StaysOrEnds Ready d) (sym e) tt
early_in_order found (news.Step (step.Event event)) after e = absurd e
early_in_order found (news.Step (step.Refresh area)) after e = absurd e
early_in_order found (news.Step (step.Suppress stop)) after e = absurd e
early_in_order found (news.Step step.Shutdown) after e = absurd e
early_in_order found (news.Step step.Bye) after e = (refl, e)
early_in_order found (news.Step step.Packet) after e = absurd e
early_in_order found news.Pdu after e = absurd e

later_in_order : (found : List ConnStep) (what : News) (after : Progress) → LaterNews what after → ComeInOrder Ready found Ready → ComeInOrder Ready (news_steps what found ++ step.Packet ∷ []) after
later_in_order found news.Nothing after e q = subst (λ d. StaysOrEnds Ready d) (sym e) tt
later_in_order found (news.Step (step.Named name)) after e q = absurd e
later_in_order found (news.Step (step.Ready confirmed)) after e q = absurd e
later_in_order found (news.Step (step.Event event)) after e q = absurd e
later_in_order found (news.Step (step.Refresh area)) after e q = absurd e
later_in_order found (news.Step (step.Suppress stop)) after e q = subst (λ d. StaysOrEnds Ready d) (sym e) tt
later_in_order found (news.Step step.Shutdown) after e q = (refl, e)
later_in_order found (news.Step step.Bye) after e q = (refl, e)
later_in_order found (news.Step step.Packet) after e q = absurd e
later_in_order found news.Pdu after e q = subst (λ d. ComeInOrder Ready (found ++ step.Packet ∷ []) d) (sym e) (ended_in_order found q)

told_in_order : (s : Stage) (found : List ConnStep) (what : News) (after : Progress) → is_over s ≡ false → NewsOf (progress_of s) what after → ComeInOrder Ready found Ready
    → ComeInOrder (progress_of s) (told_steps s what found) after
told_in_order stage.Request found what after o p q = early_in_order found what after p
told_in_order (stage.Initial asked) found what after o p q = early_in_order found what after p
told_in_order (stage.Erect client) found what after o p q = early_in_order found what after p
told_in_order (stage.Attach client) found what after o p q = early_in_order found what after p
told_in_order (stage.Joins client user io) found what after o p q = early_in_order found what after p
told_in_order (stage.Shares channels (phase.Confirm depth)) found what after o p q = early_in_order found what after p
told_in_order (stage.Shares channels (phase.Finish before next)) found what after o p q = early_in_order found what after p
told_in_order (stage.Shares channels phase.Ready) found what after o p q = later_in_order found what after p q
told_in_order stage.Over found what after o p q = absurd p
told_in_order (stage.Refused k at) found what after o p q = absurd p

-- ---- streams

-- a stream that is refused
refused_in_order : (here : Progress) → ComeInOrder here [] Ended
refused_in_order Connecting = tt
refused_in_order Ready = tt
refused_in_order Ended = refl

none_in_order : (here : Progress) → ComeInOrder here [] here
none_in_order Connecting = tt
none_in_order Ready = tt
none_in_order Ended = refl

-- what is heard comes in order
abbrev pub IsInOrder : Hearing → Heard → Type 0
IsInOrder h x = ComeInOrder (progress_of h.stage) x.steps (progress_of x.after.stage)

judged_in_order : (h : Hearing) (packet : List ℕ) (j : Result (Telling Answer) Refusal) → is_over h.stage ≡ false → TellingSuits (progress_of h.stage) j → Tells AllLater j
    → IsInOrder h (judged_heard h packet j)
judged_in_order h packet (Ok found) o p q = told_in_order h.stage found.told found.what.news (progress_of found.what.next) o p q
judged_in_order h packet (Err refusal) o p q = refused_in_order (progress_of h.stage)

packet_by : (b : Bool) (h : Hearing) (packet : List ℕ) → is_over h.stage ≡ b → IsInOrder h (cond b (silent h) (judged_heard h packet (packet_judged h.stage packet)))
packet_by true h packet o = none_in_order (progress_of h.stage)
packet_by false h packet o =
    judged_in_order h packet (packet_judged h.stage packet) o (packet_suits h.stage packet o) (packet_finds found_later h.stage packet tt)

packets_in_order : (h : Hearing) (ps : List (List ℕ)) → IsInOrder h (packets_heard h ps)
packets_in_order h [] = none_in_order (progress_of h.stage)
packets_in_order h (p ∷ ps) = in_order_then (progress_of h.stage) (progress_of (packet_heard h p).after.stage) (progress_of (packets_heard (packet_heard h p).after ps).after.stage)
    (packet_heard h p).steps (packets_heard (packet_heard h p).after ps).steps (packet_by (is_over h.stage) h p refl) (packets_in_order (packet_heard h p).after ps)

head_in_order : (h : Hearing) (rest : List ℕ) (r : Packet) → ComeInOrder (progress_of h.stage) [] (progress_of (with_head h rest r).stage)
head_in_order h rest (Whole n) = none_in_order (progress_of h.stage)
head_in_order h rest Part = none_in_order (progress_of h.stage)
head_in_order h rest NotTpkt = refused_in_order (progress_of h.stage)
head_in_order h rest BadLength = refused_in_order (progress_of h.stage)

rest_by : (b : Bool) (h : Hearing) (rest : List ℕ) → ComeInOrder (progress_of h.stage) [] (progress_of (cond b h (with_head h rest (head_of h.stage rest))).stage)
rest_by true h rest = none_in_order (progress_of h.stage)
rest_by false h rest = head_in_order h rest (head_of h.stage rest)

pub heard_in_order : (h : Hearing) (bytes : List ℕ) → IsInOrder h (heard h bytes)
unfolding heard
heard_in_order h bytes =
    let cut = packets_with stream_packet_at (h.part ++ bytes) in
    let x = packets_heard (between h) cut.packets in
    subst (λ steps. ComeInOrder (progress_of h.stage) steps (progress_of (with_rest x.after cut.rest).stage)) (append-nil x.steps)
    (in_order_then (progress_of h.stage) (progress_of x.after.stage) (progress_of (with_rest x.after cut.rest).stage) x.steps []
    (packets_in_order (between h) cut.packets) (rest_by (is_over x.after.stage) x.after cut.rest))

pub handshake_in_order : (size : Size) (bytes : List ℕ) → ComeInOrder Connecting (host_handshake size bytes).steps (progress_of (host_handshake size bytes).after.stage)
handshake_in_order size bytes = heard_in_order (first_hearing size) bytes
