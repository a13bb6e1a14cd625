-- What the host makes of a whole packet, of either kind, by what the client is to send next ([MS-RDPBCGR] 1.3.1.1 and 2.2.8.1.2).
use Rattle.std.specs.Prelude.{ℕ, ◌==◌, Bool, true, false, List, Result, Ok, Err, if◌then◌else◌}
use Rattle.std.specs.List.{slice_range}
use Rattle.wire_num.specs.Field.{Read, bind, place_in}
use Rattle.wire_num.specs.declared.range.Range.{Range}
use Rattle.wire_num.specs.Layout.{fields_at}
use Rattle.input_pdu.specs.declared.event.Event.{Event}
use Rattle.fast_path.specs.Heads.{is_fast}
use Rattle.fast_path.specs.Events.{fast_events}
use Rattle.tpkt_x224.specs.Request.{request_of}
use Rattle.mcs_ber.specs.ConnectInitial.{user_data_of}
use Rattle.mcs_dom.specs.declared.domain_pdu.DomainPdu.{DomainPdu}
use Rattle.mcs_dom.specs.declared.domain_pdu.DomainPdu.TheVariants.{Erect, Attach, Join, Data, Bye}
use Rattle.mcs_dom.specs.DomainPdu.{domain_pdu_of}
use Rattle.info_lic.specs.ClientInfo.{name_of}
use Rattle.share_pdu.specs.ClientPdu.{share_pdu_of}
use Rattle.conn_rules.specs.declared.answer.Answer.{Answer}
use Rattle.conn_rules.specs.declared.client.Client.{Client}
use Rattle.conn_rules.specs.declared.refusal.Refusal.{Refusal}
use Rattle.conn_rules.specs.declared.stage.Stage.{Stage}
use Rattle.conn_rules.specs.declared.stage.Stage.TheVariants as stage
use Rattle.conn_rules.specs.declared.stage.SharePhase.{SharePhase}
use Rattle.conn_rules.specs.declared.stage.SharePhase.TheVariants as phase
use Rattle.conn_rules.specs.declared.deed.Deed.{Deed}
use Rattle.conn_rules.specs.declared.deed.Deed.TheVariants as deed
use Rattle.conn_rules.specs.Answers.{Judged, goes_to, Telling, alone, beside}
use Rattle.conn_rules.specs.Channels.{io_channel}
use Rattle.conn_rules.specs.Numbers.{place_behind, not_tpkt, bad_tpdu, bad_domain, bad_input}
use Rattle.conn_rules.specs.Headers.{mcs_headers}
use Rattle.conn_rules.specs.Connecting.{request_judged, initial_judged}
use Rattle.conn_rules.specs.Domain.{placed_pdu, leaves, erect_judged, attach_judged, own, joined, dropped, by_channel, too_early}
use Rattle.conn_rules.specs.Info.{info_judged}
use Rattle.conn_rules.specs.Shares.{read_deed}
use Rattle.conn_rules.specs.Told.{event_steps}
use Rattle.conn_rules.specs.Deeds.{done, found_judged}

-- where the MCS PDU of a packet begins: behind the TPKT header and the X.224 Data header
abbrev pub mcs_place : ℕ
mcs_place = 7

-- the bytes of a body of data
abbrev pub body_in : List ℕ → Range → List ℕ
body_in mcs body = slice_range mcs body.from body.to

-- ---- data

-- the Client Info PDU, once the user channel and 1003 are joined
abbrev pub info_data : Client → Bool → List ℕ → ℕ → ℕ → Range → Judged
info_data client false mcs user channel body = too_early client.channels mcs_place user
info_data client true mcs user channel body =
    by_channel client.channels mcs_place user channel (stage.Joins client true true)
    (info_judged client mcs_place user (place_behind mcs_place body.from) (name_of (body_in mcs body)))

abbrev pub both : Bool → Bool → Bool
both true io = io
both false io = false

-- share PDUs
abbrev pub share_data : ℕ → SharePhase → List ℕ → ℕ → ℕ → Range → Result (Telling Answer) Refusal
share_data channels here mcs user channel body =
    if channel == io_channel
    then found_judged channels mcs_place user here (place_behind mcs_place body.from)
    (read_deed here (place_behind mcs_place body.from) (body_in mcs body) (share_pdu_of (body_in mcs body)))
    else alone (own channels mcs_place user (dropped channels mcs_place channel (stage.Shares channels here)))

-- ---- domain PDUs

-- joins, in any order and number, and Client Info
abbrev pub joins_judged : Client → Bool → Bool → List ℕ → DomainPdu → Judged
joins_judged client user io mcs Erect = bad_domain mcs_place
joins_judged client user io mcs Attach = bad_domain mcs_place
joins_judged client user io mcs (Join initiator channel) = own client.channels mcs_place initiator (joined client mcs_place user io channel)
joins_judged client user io mcs (Data initiator channel body) = info_data client (both user io) mcs initiator channel body
joins_judged client user io mcs (Bye reason) = leaves

abbrev pub shares_judged : ℕ → SharePhase → List ℕ → DomainPdu → Result (Telling Answer) Refusal
shares_judged channels here mcs Erect = bad_domain mcs_place
shares_judged channels here mcs Attach = bad_domain mcs_place
shares_judged channels here mcs (Join initiator channel) = bad_domain mcs_place
shares_judged channels here mcs (Data initiator channel body) = share_data channels here mcs initiator channel body
shares_judged channels here mcs (Bye reason) = alone leaves

abbrev pub pdu_in : List ℕ → Result DomainPdu Refusal
pdu_in mcs = placed_pdu mcs_place (domain_pdu_of mcs)

-- ---- TPKT packets

-- an MCS PDU, by the stage
abbrev pub mcs_judged : Stage → List ℕ → Result (Telling Answer) Refusal
mcs_judged stage.Request mcs = alone (goes_to stage.Request)
mcs_judged (stage.Initial asked) mcs = alone (initial_judged asked mcs_place mcs (user_data_of mcs))
mcs_judged (stage.Erect client) mcs = alone (bind (pdu_in mcs) (λ p. erect_judged client mcs_place p))
mcs_judged (stage.Attach client) mcs = alone (bind (pdu_in mcs) (λ p. attach_judged client mcs_place p))
mcs_judged (stage.Joins client user io) mcs = alone (bind (pdu_in mcs) (λ p. joins_judged client user io mcs p))
mcs_judged (stage.Shares channels here) mcs = bind (pdu_in mcs) (λ p. shares_judged channels here mcs p)
mcs_judged stage.Over mcs = alone (goes_to stage.Over)
mcs_judged (stage.Refused k at) mcs = alone (goes_to (stage.Refused k at))

-- behind both headers, of which the first field that breaks its rule is refused
abbrev pub behind_headers : List ℕ → Read (List ℕ) → Stage → Result (Telling Answer) Refusal
behind_headers packet (Ok v) here = mcs_judged here v.1
behind_headers packet (Err left) here = bad_tpdu (place_in packet left)

-- a whole TPKT packet; nothing is looked at once the stream is over or refused
abbrev pub tpkt_judged : Stage → List ℕ → Result (Telling Answer) Refusal
tpkt_judged stage.Request packet = alone (request_judged (request_of packet))
tpkt_judged (stage.Initial asked) packet = behind_headers packet (fields_at mcs_headers packet) (stage.Initial asked)
tpkt_judged (stage.Erect client) packet = behind_headers packet (fields_at mcs_headers packet) (stage.Erect client)
tpkt_judged (stage.Attach client) packet = behind_headers packet (fields_at mcs_headers packet) (stage.Attach client)
tpkt_judged (stage.Joins client user io) packet = behind_headers packet (fields_at mcs_headers packet) (stage.Joins client user io)
tpkt_judged (stage.Shares channels here) packet = behind_headers packet (fields_at mcs_headers packet) (stage.Shares channels here)
tpkt_judged stage.Over packet = alone (goes_to stage.Over)
tpkt_judged (stage.Refused k at) packet = alone (goes_to (stage.Refused k at))

-- ---- fast-path packets

-- what input asks for: until the Font List nothing
abbrev pub input_wanted : SharePhase → Deed
input_wanted (phase.Confirm depth) = deed.Nothing
input_wanted (phase.Finish confirmed next) = deed.Nothing
input_wanted phase.Ready = deed.Tell

-- its events were read
abbrev pub input_judged : ℕ → SharePhase → Result (List Event) ℕ → Result (Telling Answer) Refusal
input_judged channels here (Ok events) = beside (event_steps events) (done channels here (input_wanted here))
input_judged channels here (Err at) = bad_input at

-- a whole fast-path packet: before the place of the Confirm Active its first byte is refused
abbrev pub fast_judged : Stage → List ℕ → Result (Telling Answer) Refusal
fast_judged stage.Request packet = not_tpkt 0
fast_judged (stage.Initial asked) packet = not_tpkt 0
fast_judged (stage.Erect client) packet = not_tpkt 0
fast_judged (stage.Attach client) packet = not_tpkt 0
fast_judged (stage.Joins client user io) packet = not_tpkt 0
fast_judged (stage.Shares channels here) packet = input_judged channels here (fast_events packet)
fast_judged stage.Over packet = alone (goes_to stage.Over)
fast_judged (stage.Refused k at) packet = alone (goes_to (stage.Refused k at))

-- ---- packets

-- a whole packet of either kind
abbrev pub packet_judged : Stage → List ℕ → Result (Telling Answer) Refusal
packet_judged here packet = if is_fast packet then fast_judged here packet else tpkt_judged here packet
