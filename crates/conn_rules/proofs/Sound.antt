-- Refusals have numbers from 1 to 14, and what is confirmed has its caches.
use Rattle.std.proofs.Common.{◌≤◌, ℕ, List, [], arith, Bool, true, false, cond}
use Rattle.std.specs.Prelude.{◌==◌, ⊤, Option, Some, None, Result, Ok, Err}
use Rattle.std.specs.List.{slice_range}
use Rattle.wire_num.specs.Field.{Read, bind}
use Rattle.wire_num.specs.declared.range.Range.{Range}
use Rattle.wire_num.specs.Layout.{fields_at}
use Rattle.tpkt_x224.specs.declared.request.Request.{Request}
use Rattle.tpkt_x224.specs.declared.bad_tpdu.BadTpdu.{BadTpdu}
use Rattle.tpkt_x224.specs.Request.{request_of}
use Rattle.mcs_ber.specs.declared.bad_ber.BadBer.{BadBer}
use Rattle.mcs_ber.specs.ConnectInitial.{user_data_of}
use Rattle.gcc_per.specs.declared.client_data.ClientData.{ClientData}
use Rattle.gcc_per.specs.declared.gcc_fault.GccFault.{GccFault}
use Rattle.gcc_per.specs.declared.gcc_fault.GccFault.TheVariants.{BadGcc, DepthNotOffered, TooManyChannels}
use Rattle.gcc_per.specs.ClientData.{client_data_of}
use Rattle.mcs_dom.specs.declared.bad_domain.BadDomain.{BadDomain}
use Rattle.mcs_dom.specs.declared.domain_pdu.DomainPdu.{DomainPdu}
use Rattle.mcs_dom.specs.declared.domain_pdu.DomainPdu.TheVariants.{Erect, Attach, Join, Data, Bye}
use Rattle.mcs_dom.specs.DomainPdu.{domain_pdu_of}
use Rattle.info_lic.specs.declared.info_fault.InfoFault.{InfoFault}
use Rattle.info_lic.specs.declared.info_fault.InfoFault.TheVariants.{BadInfo}
use Rattle.info_lic.specs.ClientInfo.{name_of}
use Rattle.caps_sets.specs.declared.confirmed.Confirmed.{Confirmed}
use Rattle.caps_sets.specs.declared.caps_fault.CapsFault.{CapsFault}
use Rattle.caps_sets.specs.declared.caps_fault.CapsFault.TheVariants.{BadCaps}
use Rattle.caps_sets.specs.ConfirmActive.{confirmed_of}
use Rattle.input_pdu.specs.declared.event.Event.{Event}
use Rattle.input_pdu.specs.Events.{events_of}
use Rattle.share_pdu.specs.declared.client_pdu.ClientPdu.{ClientPdu}
use Rattle.share_pdu.specs.declared.client_pdu.ClientPdu.TheVariants as pdu
use Rattle.share_pdu.specs.declared.finals.Final.{Final}
use Rattle.share_pdu.specs.declared.finals.Final.TheVariants as final
use Rattle.share_pdu.specs.declared.share_fault.ShareFault.{ShareFault}
use Rattle.share_pdu.specs.declared.share_fault.ShareFault.TheVariants.{BadShare, Compressed}
use Rattle.share_pdu.specs.ClientPdu.{share_pdu_of}
use Rattle.conn_rules.specs.declared.answer.Answer.{Answer}
use Rattle.conn_rules.specs.declared.answer.News.{News}
use Rattle.conn_rules.specs.declared.answer.News.TheVariants as news
use Rattle.conn_rules.specs.declared.client.Client.{Client}
use Rattle.conn_rules.specs.declared.conn_step.ConnStep.{ConnStep}
use Rattle.conn_rules.specs.declared.deed.Deed.{Deed}
use Rattle.conn_rules.specs.declared.deed.Deed.TheVariants as deed
use Rattle.conn_rules.specs.declared.refusal.Refusal.{Refusal}
use Rattle.conn_rules.specs.declared.stage.Stage.{Stage}
use Rattle.conn_rules.specs.declared.stage.Stage.TheVariants as stage
use Rattle.conn_rules.specs.declared.stage.SharePhase.{SharePhase}
use Rattle.conn_rules.specs.declared.stage.SharePhase.TheVariants as phase
use Rattle.conn_rules.specs.Answers.{Judged, Telling, beside, alone}
use Rattle.conn_rules.specs.Channels.{io_channel, user_channel, is_virtual_or_user}
use Rattle.conn_rules.specs.Connecting.{request_judged, client_judged, initial_judged}
use Rattle.conn_rules.specs.Domain.{placed_pdu, erect_judged, attach_judged, own, joined, dropped, by_channel}
use Rattle.conn_rules.specs.Info.{info_judged}
use Rattle.conn_rules.specs.Shares.{order_of, due, early_deed, finish_deed, ready_deed, plain_deed, sets_read, other_deed, input_deed, deed_of, read_deed}
use Rattle.fast_path.specs.Heads.{is_fast}
use Rattle.fast_path.specs.Events.{fast_events}
use Rattle.conn_rules.specs.Deeds.{answered, done, deed_judged, found_judged}
use Rattle.conn_rules.specs.Told.{event_steps}
use Rattle.conn_rules.specs.Numbers.{place_behind}
use Rattle.conn_rules.specs.Headers.{mcs_headers}
use Rattle.conn_rules.specs.Packets.{mcs_place, body_in, info_data, both, share_data, joins_judged, shares_judged, pdu_in, mcs_judged, behind_headers, tpkt_judged, input_wanted, input_judged, fast_judged, packet_judged}
use Rattle.conn_rules.specs.Sound.{IsRefusalNumber, HasItsCaches, IsSound, ConfirmsCaches}
use Rattle.conn_rules.proofs.Caches.{GivesCaches, confirmed_caches}

-- ---- numbers

pub number : (k : ℕ) → 1 ≤ k → k ≤ 14 → IsRefusalNumber k
number k least most = record { least = least; most = most }

-- ---- answers

abbrev pub SoundNews : News → Type 0
SoundNews news.Nothing = ⊤
SoundNews (news.Step one) = ConfirmsCaches one
SoundNews news.Pdu = ⊤

abbrev pub SoundAnswer : Judged → Type 0
SoundAnswer (Ok answer) = SoundNews answer.news × IsSound answer.next
SoundAnswer (Err refusal) = IsRefusalNumber refusal.k

-- with steps beside the answer
abbrev pub SoundTelling : Result (Telling Answer) Refusal → Type 0
SoundTelling (Ok found) = SoundNews found.what.news × IsSound found.what.next
SoundTelling (Err refusal) = IsRefusalNumber refusal.k

beside_sound : (told : List ConnStep) (j : Judged) → SoundAnswer j → SoundTelling (beside told j)
beside_sound told (Ok answer) p = p
beside_sound told (Err refusal) p = p

alone_sound : (j : Judged) → SoundAnswer j → SoundTelling (alone j)
alone_sound j p = beside_sound [] j p

either_telling : (b : Bool) (j k : Result (Telling Answer) Refusal) → SoundTelling j → SoundTelling k → SoundTelling (cond b j k)
either_telling true j k p q = p
either_telling false j k p q = q

either_sound : (b : Bool) (j k : Judged) → SoundAnswer j → SoundAnswer k → SoundAnswer (cond b j k)
either_sound true j k p q = p
either_sound false j k p q = q

wrong : IsRefusalNumber 6
wrong = number 6 (omega arith) (omega arith)

domain : IsRefusalNumber 5
domain = number 5 (omega arith) (omega arith)

own_sound : (channels from user : ℕ) (j : Judged) → SoundAnswer j → SoundAnswer (own channels from user j)
own_sound channels from user j p = either_sound (user == user_channel channels) j _ p wrong

dropped_sound : (channels from channel : ℕ) (next : Stage) → IsSound next → SoundAnswer (dropped channels from channel next)
dropped_sound channels from channel next p = either_sound (is_virtual_or_user channels channel) _ _ (tt, p) wrong

by_channel_sound : (channels from user channel : ℕ) (next : Stage) (j : Judged) → IsSound next → SoundAnswer j → SoundAnswer (by_channel channels from user channel next j)
by_channel_sound channels from user channel next j s p =
    either_sound (channel == io_channel) j _ p (own_sound channels from user _ (dropped_sound channels from channel next s))

-- ---- connecting

request_sound : (r : Result Request BadTpdu) → SoundAnswer (request_judged r)
request_sound (Ok request) = (tt, tt)
request_sound (Err fault) = number 3 (omega arith) (omega arith)

client_sound : (asked from : ℕ) (r : Result ClientData GccFault) → SoundAnswer (client_judged asked from r)
client_sound asked from (Ok client) = (tt, tt)
client_sound asked from (Err (BadGcc at)) = number 7 (omega arith) (omega arith)
client_sound asked from (Err (DepthNotOffered at)) = number 8 (omega arith) (omega arith)
client_sound asked from (Err (TooManyChannels at)) = number 9 (omega arith) (omega arith)

initial_sound : (asked from : ℕ) (bytes : List ℕ) (r : Result Range BadBer) → SoundAnswer (initial_judged asked from bytes r)
initial_sound asked from bytes (Ok place) = client_sound asked (place_behind from place.from) (client_data_of (slice_range bytes place.from place.to))
initial_sound asked from bytes (Err fault) = number 4 (omega arith) (omega arith)

erect_sound : (client : Client) (from : ℕ) (p : DomainPdu) → SoundAnswer (erect_judged client from p)
erect_sound client from Erect = (tt, tt)
erect_sound client from Attach = domain
erect_sound client from (Join user channel) = domain
erect_sound client from (Data user channel body) = domain
erect_sound client from (Bye reason) = (tt, tt)

attach_sound : (client : Client) (from : ℕ) (p : DomainPdu) → SoundAnswer (attach_judged client from p)
attach_sound client from Erect = domain
attach_sound client from Attach = (tt, tt)
attach_sound client from (Join user channel) = domain
attach_sound client from (Data user channel body) = domain
attach_sound client from (Bye reason) = (tt, tt)

joined_sound : (client : Client) (from : ℕ) (user io : Bool) (channel : ℕ) → SoundAnswer (joined client from user io channel)
joined_sound client from user io channel = either_sound (channel == io_channel) _ _ (tt, tt)
    (either_sound (channel == user_channel client.channels) _ _ (tt, tt) (either_sound (is_virtual_or_user client.channels channel) _ _ (tt, tt) wrong))

info_sound : (client : Client) (from user place : ℕ) (r : Result (List ℕ) InfoFault) → SoundAnswer (info_judged client from user place r)
info_sound client from user place (Ok name) = own_sound client.channels from user _ (tt, tt)
info_sound client from user place (Err (BadInfo at)) = number 10 (omega arith) (omega arith)

info_data_sound : (client : Client) (b : Bool) (mcs : List ℕ) (user channel : ℕ) (body : Range) → SoundAnswer (info_data client b mcs user channel body)
info_data_sound client true mcs user channel body = by_channel_sound client.channels mcs_place user channel (stage.Joins client true true) _ tt
    (info_sound client mcs_place user (place_behind mcs_place body.from) (name_of (body_in mcs body)))
info_data_sound client false mcs user channel body = own_sound client.channels mcs_place user _ wrong

joins_sound : (client : Client) (user io : Bool) (mcs : List ℕ) (p : DomainPdu) → SoundAnswer (joins_judged client user io mcs p)
joins_sound client user io mcs Erect = domain
joins_sound client user io mcs Attach = domain
joins_sound client user io mcs (Join initiator channel) = own_sound client.channels mcs_place initiator _ (joined_sound client mcs_place user io channel)
joins_sound client user io mcs (Data initiator channel body) = info_data_sound client (both user io) mcs initiator channel body
joins_sound client user io mcs (Bye reason) = (tt, tt)

-- ---- share PDUs

abbrev SoundDeed : Option Deed → Type 0
SoundDeed None = ⊤
SoundDeed (Some deed.Nothing) = ⊤
SoundDeed (Some (deed.Confirm confirmed)) = HasItsCaches confirmed
SoundDeed (Some (deed.Answer confirmed which)) = HasItsCaches confirmed
SoundDeed (Some deed.Tell) = ⊤
SoundDeed (Some (deed.Suppress stop)) = ⊤
SoundDeed (Some deed.Shutdown) = ⊤

abbrev SoundRead : Result (Telling (Option Deed)) Refusal → Type 0
SoundRead (Ok found) = SoundDeed found.what
SoundRead (Err refusal) = IsRefusalNumber refusal.k

abbrev SoundPhase : SharePhase → Type 0
SoundPhase here = IsSound (stage.Shares 0 here)

either_deed : (b : Bool) (d e : Option Deed) → SoundDeed d → SoundDeed e → SoundDeed (cond b d e)
either_deed true d e p q = p
either_deed false d e p q = q

early_sound : (p : ClientPdu) → SoundDeed (early_deed p)
early_sound (pdu.Confirm place) = tt
early_sound pdu.Synchronize = tt
early_sound pdu.Cooperate = tt
early_sound pdu.Request = tt
early_sound pdu.FontList = tt
early_sound pdu.KeyList = tt
early_sound (pdu.Input place) = tt
early_sound (pdu.Refresh place) = tt
early_sound (pdu.Suppress stop) = tt
early_sound pdu.Shutdown = tt
early_sound pdu.Other = tt

due_sound : (confirmed : Confirmed) (next which : Final) → HasItsCaches confirmed → SoundDeed (due confirmed next which)
due_sound confirmed next which h = either_deed (order_of which == order_of next) (Some (deed.Answer confirmed which)) None h tt

finish_sound : (confirmed : Confirmed) (next : Final) (p : ClientPdu) → HasItsCaches confirmed → SoundDeed (finish_deed confirmed next p)
finish_sound confirmed next (pdu.Confirm place) h = tt
finish_sound confirmed next pdu.Synchronize h = due_sound confirmed next final.Synchronize h
finish_sound confirmed next pdu.Cooperate h = due_sound confirmed next final.Cooperate h
finish_sound confirmed next pdu.Request h = due_sound confirmed next final.Granted h
finish_sound confirmed next pdu.FontList h = due_sound confirmed next final.FontMap h
finish_sound confirmed next pdu.KeyList h = either_deed (order_of next == 3) (Some deed.Nothing) None tt tt
finish_sound confirmed next (pdu.Input place) h = tt
finish_sound confirmed next (pdu.Refresh place) h = tt
finish_sound confirmed next (pdu.Suppress stop) h = tt
finish_sound confirmed next pdu.Shutdown h = tt
finish_sound confirmed next pdu.Other h = tt

ready_sound : (p : ClientPdu) → SoundDeed (ready_deed p)
ready_sound (pdu.Confirm place) = tt
ready_sound pdu.Synchronize = tt
ready_sound pdu.Cooperate = tt
ready_sound pdu.Request = tt
ready_sound pdu.FontList = tt
ready_sound pdu.KeyList = tt
ready_sound (pdu.Input place) = tt
ready_sound (pdu.Refresh place) = tt
ready_sound (pdu.Suppress stop) = tt
ready_sound pdu.Shutdown = tt
ready_sound pdu.Other = tt

plain_sound : (here : SharePhase) (p : ClientPdu) → SoundPhase here → SoundDeed (plain_deed here p)
plain_sound (phase.Confirm depth) p h = early_sound p
plain_sound (phase.Finish confirmed next) p h = finish_sound confirmed next p h
plain_sound phase.Ready p h = ready_sound p

sets_sound : (place : ℕ) (r : Result Confirmed CapsFault) → GivesCaches r → SoundRead (bind (sets_read place r) (λ confirmed. other_deed (Some (deed.Confirm confirmed))))
sets_sound place (Ok confirmed) h = h
sets_sound place (Err (BadCaps at)) h = number 11 (omega arith) (omega arith)

sets_again : (place : ℕ) (r : Result Confirmed CapsFault) → SoundRead (bind (sets_read place r) (λ confirmed. other_deed None))
sets_again place (Ok confirmed) = tt
sets_again place (Err (BadCaps at)) = number 11 (omega arith) (omega arith)

input_sound : (wanted : Option Deed) (place : ℕ) (r : Result (List Event) ℕ) → SoundDeed wanted → SoundRead (input_deed wanted place r)
input_sound wanted place (Ok events) p = p
input_sound wanted place (Err at) p = number 14 (omega arith) (omega arith)

confirm_sound : (here : SharePhase) (place : ℕ) (bytes : List ℕ) (r : Range) → SoundRead (deed_of here place bytes (pdu.Confirm r))
confirm_sound (phase.Confirm depth) place bytes r =
    let part = slice_range bytes r.from r.to in sets_sound (place_behind place r.from) (confirmed_of depth part) (confirmed_caches depth part)
confirm_sound (phase.Finish before next) place bytes r = sets_again (place_behind place r.from) (confirmed_of before.depth (slice_range bytes r.from r.to))
confirm_sound phase.Ready place bytes r = tt

deed_sound : (here : SharePhase) (place : ℕ) (bytes : List ℕ) (p : ClientPdu) → SoundPhase here → SoundRead (deed_of here place bytes p)
deed_sound here place bytes (pdu.Confirm r) h = confirm_sound here place bytes r
deed_sound here place bytes pdu.Synchronize h = plain_sound here pdu.Synchronize h
deed_sound here place bytes pdu.Cooperate h = plain_sound here pdu.Cooperate h
deed_sound here place bytes pdu.Request h = plain_sound here pdu.Request h
deed_sound here place bytes pdu.FontList h = plain_sound here pdu.FontList h
deed_sound here place bytes pdu.KeyList h = plain_sound here pdu.KeyList h
deed_sound here place bytes (pdu.Input r) h = input_sound (plain_deed here (pdu.Input r)) (place_behind place r.from) (events_of (slice_range bytes r.from r.to)) (plain_sound here (pdu.Input r) h)
deed_sound here place bytes (pdu.Refresh r) h = plain_sound here (pdu.Refresh r) h
deed_sound here place bytes (pdu.Suppress stop) h = plain_sound here (pdu.Suppress stop) h
deed_sound here place bytes pdu.Shutdown h = plain_sound here pdu.Shutdown h
deed_sound here place bytes pdu.Other h = plain_sound here pdu.Other h

read_sound : (here : SharePhase) (place : ℕ) (bytes : List ℕ) (r : Result ClientPdu ShareFault) → SoundPhase here → SoundRead (read_deed here place bytes r)
read_sound here place bytes (Ok p) h = deed_sound here place bytes p h
read_sound here place bytes (Err (BadShare at)) h = number 12 (omega arith) (omega arith)
read_sound here place bytes (Err (Compressed at)) h = number 13 (omega arith) (omega arith)

sound_at : (channels : ℕ) (here : SharePhase) → SoundPhase here → IsSound (stage.Shares channels here)
sound_at channels (phase.Confirm depth) h = tt
sound_at channels (phase.Finish confirmed next) h = h
sound_at channels phase.Ready h = tt

answered_sound : (channels : ℕ) (confirmed : Confirmed) (which : Final) → HasItsCaches confirmed → SoundAnswer (answered channels confirmed which)
answered_sound channels confirmed final.Synchronize h = (tt, h)
answered_sound channels confirmed final.Cooperate h = (tt, h)
answered_sound channels confirmed final.Granted h = (tt, h)
answered_sound channels confirmed final.FontMap h = (h, tt)

done_sound : (channels : ℕ) (here : SharePhase) (what : Deed) → SoundPhase here → SoundDeed (Some what) → SoundAnswer (done channels here what)
done_sound channels here deed.Nothing h p = (tt, sound_at channels here h)
done_sound channels here (deed.Confirm confirmed) h p = (tt, p)
done_sound channels here (deed.Answer confirmed which) h p = answered_sound channels confirmed which p
done_sound channels here deed.Tell h p = (tt, sound_at channels here h)
done_sound channels here (deed.Suppress stop) h p = (tt, sound_at channels here h)
done_sound channels here deed.Shutdown h p = (tt, tt)

judged_sound : (channels from user : ℕ) (here : SharePhase) (place : ℕ) (wanted : Option Deed) → SoundPhase here → SoundDeed wanted
    → SoundAnswer (deed_judged channels from user here place wanted)
judged_sound channels from user here place (Some what) h p = own_sound channels from user (done channels here what) (done_sound channels here what h p)
judged_sound channels from user here place None h p = number 12 (omega arith) (omega arith)

found_judged_sound : (channels from user : ℕ) (here : SharePhase) (place : ℕ) (r : Result (Telling (Option Deed)) Refusal) → SoundPhase here → SoundRead r
    → SoundTelling (found_judged channels from user here place r)
found_judged_sound channels from user here place (Ok found) h p =
    beside_sound found.told (deed_judged channels from user here place found.what) (judged_sound channels from user here place found.what h p)
found_judged_sound channels from user here place (Err refusal) h p = p

data_sound : (channels : ℕ) (here : SharePhase) (mcs : List ℕ) (user channel : ℕ) (body : Range) → SoundPhase here → SoundTelling (share_data channels here mcs user channel body)
data_sound channels here mcs user channel body h =
    either_telling (channel == io_channel) _ _
    (found_judged_sound channels mcs_place user here _ _ h (read_sound here _ (body_in mcs body) (share_pdu_of (body_in mcs body)) h))
    (alone_sound (own channels mcs_place user (dropped channels mcs_place channel (stage.Shares channels here)))
    (own_sound channels mcs_place user _ (dropped_sound channels mcs_place channel (stage.Shares channels here) (sound_at channels here h))))

-- ---- packets

shares_sound : (channels : ℕ) (here : SharePhase) (mcs : List ℕ) (p : DomainPdu) → SoundPhase here → SoundTelling (shares_judged channels here mcs p)
shares_sound channels here mcs Erect h = domain
shares_sound channels here mcs Attach h = domain
shares_sound channels here mcs (Join user channel) h = domain
shares_sound channels here mcs (Data user channel body) h = data_sound channels here mcs user channel body h
shares_sound channels here mcs (Bye reason) h = (tt, tt)

bind_sound : (r : Result DomainPdu BadDomain) (f : DomainPdu → Judged) → ((p : DomainPdu) → SoundAnswer (f p)) → SoundAnswer (bind (placed_pdu mcs_place r) f)
bind_sound (Ok p) f h = h p
bind_sound (Err fault) f h = domain

bind_telling : (r : Result DomainPdu BadDomain) (f : DomainPdu → Result (Telling Answer) Refusal) → ((p : DomainPdu) → SoundTelling (f p)) → SoundTelling (bind (placed_pdu mcs_place r) f)
bind_telling (Ok p) f h = h p
bind_telling (Err fault) f h = domain

mcs_sound : (s : Stage) (mcs : List ℕ) → IsSound s → SoundTelling (mcs_judged s mcs)
mcs_sound stage.Request mcs h = (tt, tt)
mcs_sound (stage.Initial asked) mcs h = alone_sound (initial_judged asked mcs_place mcs (user_data_of mcs)) (initial_sound asked mcs_place mcs (user_data_of mcs))
mcs_sound (stage.Erect client) mcs h =
    alone_sound (bind (pdu_in mcs) (λ p. erect_judged client mcs_place p)) (bind_sound (domain_pdu_of mcs) (λ p. erect_judged client mcs_place p) (erect_sound client mcs_place))
mcs_sound (stage.Attach client) mcs h =
    alone_sound (bind (pdu_in mcs) (λ p. attach_judged client mcs_place p)) (bind_sound (domain_pdu_of mcs) (λ p. attach_judged client mcs_place p) (attach_sound client mcs_place))
mcs_sound (stage.Joins client user io) mcs h =
    alone_sound (bind (pdu_in mcs) (λ p. joins_judged client user io mcs p)) (bind_sound (domain_pdu_of mcs) (λ p. joins_judged client user io mcs p) (joins_sound client user io mcs))
mcs_sound (stage.Shares channels here) mcs h =
    bind_telling (domain_pdu_of mcs) (λ p. shares_judged channels here mcs p) (λ p. shares_sound channels here mcs p (phase_of channels here h))
  where
    phase_of : (channels : ℕ) (here : SharePhase) → IsSound (stage.Shares channels here) → SoundPhase here
    phase_of channels (phase.Confirm depth) h = tt
    phase_of channels (phase.Finish confirmed next) h = h
    phase_of channels phase.Ready h = tt
mcs_sound stage.Over mcs h = (tt, tt)
mcs_sound (stage.Refused k at) mcs h = (tt, h)

headers_sound : (packet : List ℕ) (r : Read (List ℕ)) (s : Stage) → IsSound s → SoundTelling (behind_headers packet r s)
headers_sound packet (Ok v) s h = mcs_sound s v.1 h
headers_sound packet (Err left) s h = number 3 (omega arith) (omega arith)

tpkt_sound : (s : Stage) (packet : List ℕ) → IsSound s → SoundTelling (tpkt_judged s packet)
tpkt_sound stage.Request packet h = alone_sound (request_judged (request_of packet)) (request_sound (request_of packet))
tpkt_sound (stage.Initial asked) packet h = headers_sound packet (fields_at mcs_headers packet) (stage.Initial asked) h
tpkt_sound (stage.Erect client) packet h = headers_sound packet (fields_at mcs_headers packet) (stage.Erect client) h
tpkt_sound (stage.Attach client) packet h = headers_sound packet (fields_at mcs_headers packet) (stage.Attach client) h
tpkt_sound (stage.Joins client user io) packet h = headers_sound packet (fields_at mcs_headers packet) (stage.Joins client user io) h
tpkt_sound (stage.Shares channels here) packet h = headers_sound packet (fields_at mcs_headers packet) (stage.Shares channels here) h
tpkt_sound stage.Over packet h = (tt, tt)
tpkt_sound (stage.Refused k at) packet h = (tt, h)

-- ---- fast-path packets

wanted_sound : (channels : ℕ) (here : SharePhase) → SoundPhase here → SoundAnswer (done channels here (input_wanted here))
wanted_sound channels (phase.Confirm depth) h = done_sound channels (phase.Confirm depth) deed.Nothing h tt
wanted_sound channels (phase.Finish confirmed next) h = done_sound channels (phase.Finish confirmed next) deed.Nothing h tt
wanted_sound channels phase.Ready h = done_sound channels phase.Ready deed.Tell h tt

fast_input_sound : (channels : ℕ) (here : SharePhase) (r : Result (List Event) ℕ) → SoundPhase here → SoundTelling (input_judged channels here r)
fast_input_sound channels here (Ok events) h = beside_sound (event_steps events) (done channels here (input_wanted here)) (wanted_sound channels here h)
fast_input_sound channels here (Err at) h = number 14 (omega arith) (omega arith)

fast_sound : (s : Stage) (packet : List ℕ) → IsSound s → SoundTelling (fast_judged s packet)
fast_sound stage.Request packet h = number 1 (omega arith) (omega arith)
fast_sound (stage.Initial asked) packet h = number 1 (omega arith) (omega arith)
fast_sound (stage.Erect client) packet h = number 1 (omega arith) (omega arith)
fast_sound (stage.Attach client) packet h = number 1 (omega arith) (omega arith)
fast_sound (stage.Joins client user io) packet h = number 1 (omega arith) (omega arith)
fast_sound (stage.Shares channels (phase.Confirm depth)) packet h = fast_input_sound channels (phase.Confirm depth) (fast_events packet) tt
fast_sound (stage.Shares channels (phase.Finish confirmed next)) packet h = fast_input_sound channels (phase.Finish confirmed next) (fast_events packet) h
fast_sound (stage.Shares channels phase.Ready) packet h = fast_input_sound channels phase.Ready (fast_events packet) tt
fast_sound stage.Over packet h = (tt, tt)
fast_sound (stage.Refused k at) packet h = (tt, h)

-- ---- packets of either kind

either_packet : (b : Bool) (j k : Result (Telling Answer) Refusal) → SoundTelling j → SoundTelling k → SoundTelling (cond b j k)
either_packet true j k p q = p
either_packet false j k p q = q

pub packet_sound : (s : Stage) (packet : List ℕ) → IsSound s → SoundTelling (packet_judged s packet)
packet_sound s packet h = either_packet (is_fast packet) (fast_judged s packet) (tpkt_judged s packet) (fast_sound s packet h) (tpkt_sound s packet h)
