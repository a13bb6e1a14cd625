-- What is answered once the client is ready: nothing.
use Rattle.std.proofs.Common.{◌≡◌, ℕ, List, [], ◌∷◌, ◌++◌, refl, ap, ◌∙◌, Bool, true, false, cond}
use Rattle.std.specs.Prelude.{◌==◌, Option, Some, None, Result, Ok, Err}
use Rattle.wire_num.specs.Field.{Read, bind}
use Rattle.wire_num.specs.declared.range.Range.{Range}
use Rattle.wire_num.specs.Layout.{fields_at}
use Rattle.mcs_dom.specs.declared.domain_pdu.DomainPdu.{DomainPdu}
use Rattle.mcs_dom.specs.declared.domain_pdu.DomainPdu.TheVariants.{Erect, Attach, Join, Data, Bye}
use Rattle.input_pdu.specs.declared.event.Event.{Event}
use Rattle.share_pdu.specs.declared.client_pdu.ClientPdu.{ClientPdu}
use Rattle.share_pdu.specs.declared.client_pdu.ClientPdu.TheVariants as pdu
use Rattle.share_pdu.specs.declared.share_fault.ShareFault.{ShareFault}
use Rattle.share_pdu.specs.declared.share_fault.ShareFault.TheVariants.{BadShare, Compressed}
use Rattle.share_pdu.specs.ClientPdu.{share_pdu_of}
use Rattle.conn_rules.specs.declared.answer.Answer.{Answer}
use Rattle.conn_rules.specs.declared.answer.Reply.TheVariants as reply
use Rattle.conn_rules.specs.declared.conn_step.ConnStep.{ConnStep}
use Rattle.conn_rules.specs.declared.deed.Deed.{Deed}
use Rattle.conn_rules.specs.declared.deed.Deed.TheVariants as deed
use Rattle.conn_rules.specs.declared.refusal.Refusal.{Refusal}
use Rattle.conn_rules.specs.declared.stage.Stage.{Stage}
use Rattle.conn_rules.specs.declared.stage.Stage.TheVariants as stage
use Rattle.conn_rules.specs.declared.stage.SharePhase.TheVariants as phase
use Rattle.conn_rules.specs.Answers.{Judged, Telling, beside}
use Rattle.conn_rules.specs.Channels.{io_channel, user_channel, is_virtual_or_user}
use Rattle.conn_rules.specs.Domain.{own, dropped}
use Rattle.conn_rules.specs.Shares.{ready_deed, input_deed, deed_of, read_deed}
use Rattle.conn_rules.specs.Deeds.{done, deed_judged, found_judged}
use Rattle.conn_rules.specs.Headers.{mcs_headers}
use Rattle.conn_rules.specs.Packets.{mcs_place, body_in, share_data, shares_judged, pdu_in, behind_headers, tpkt_judged, input_judged, fast_judged, packet_judged}
use Rattle.conn_rules.specs.Replies.{reply_bytes}
use Rattle.conn_rules.specs.Told.{event_steps, is_ready}
use Rattle.conn_rules.specs.Hearing.{Hearing, Heard, silent, is_over, judged_heard, packet_heard, packets_heard, between, before_rest, heard}
use Rattle.conn_rules.proofs.Pieces.{over_silent}
use Rattle.tpkt_x224.specs.Pieces.{packets_with}
use Rattle.fast_path.specs.Heads.{is_fast, stream_packet_at}
use Rattle.fast_path.specs.Events.{fast_events}

-- ready, or over
abbrev IsQuiet : Stage → Type 0
IsQuiet stage.Request = ⊥
IsQuiet (stage.Initial asked) = ⊥
IsQuiet (stage.Erect client) = ⊥
IsQuiet (stage.Attach client) = ⊥
IsQuiet (stage.Joins client user io) = ⊥
IsQuiet (stage.Shares channels (phase.Confirm depth)) = ⊥
IsQuiet (stage.Shares channels (phase.Finish confirmed next)) = ⊥
IsQuiet (stage.Shares channels phase.Ready) = Unit {0}
IsQuiet stage.Over = Unit {0}
IsQuiet (stage.Refused k at) = Unit {0}

-- no reply, and ready or over after it
abbrev QuietAnswer : Judged → Type 0
QuietAnswer (Ok answer) = (answer.reply ≡ reply.Nothing) × IsQuiet answer.next
QuietAnswer (Err refusal) = Unit {0}

-- with steps beside the answer
abbrev QuietTelling : Result (Telling Answer) Refusal → Type 0
QuietTelling (Ok found) = (found.what.reply ≡ reply.Nothing) × IsQuiet found.what.next
QuietTelling (Err refusal) = Unit {0}

beside_quiet : (told : List ConnStep) (j : Judged) → QuietAnswer j → QuietTelling (beside told j)
beside_quiet told (Ok answer) p = p
beside_quiet told (Err refusal) p = tt

either_telling : (b : Bool) (j k : Result (Telling Answer) Refusal) → QuietTelling j → QuietTelling k → QuietTelling (cond b j k)
either_telling true j k p q = p
either_telling false j k p q = q

-- ---- channels

either_quiet : (b : Bool) (j k : Judged) → QuietAnswer j → QuietAnswer k → QuietAnswer (cond b j k)
either_quiet true j k p q = p
either_quiet false j k p q = q

own_quiet : (channels from user : ℕ) (j : Judged) → QuietAnswer j → QuietAnswer (own channels from user j)
own_quiet channels from user j p = either_quiet (user == user_channel channels) j _ p tt

dropped_quiet : (channels from channel : ℕ) → QuietAnswer (dropped channels from channel (stage.Shares channels phase.Ready))
dropped_quiet channels from channel = either_quiet (is_virtual_or_user channels channel) _ _ (refl, tt) tt

-- ---- share PDUs

-- nothing is asked for that is answered
abbrev IsReadyDeed : Option Deed → Type 0
IsReadyDeed None = Unit {0}
IsReadyDeed (Some deed.Nothing) = Unit {0}
IsReadyDeed (Some (deed.Confirm confirmed)) = ⊥
IsReadyDeed (Some (deed.Answer confirmed which)) = ⊥
IsReadyDeed (Some deed.Tell) = Unit {0}
IsReadyDeed (Some (deed.Suppress stop)) = Unit {0}
IsReadyDeed (Some deed.Shutdown) = Unit {0}

abbrev IsReadyRead : Result (Telling (Option Deed)) Refusal → Type 0
IsReadyRead (Ok found) = IsReadyDeed found.what
IsReadyRead (Err refusal) = Unit {0}

input_ready : (r : Range) (place : ℕ) (e : Result (List Event) ℕ) → IsReadyRead (input_deed (ready_deed (pdu.Input r)) place e)
input_ready r place (Ok events) = tt
input_ready r place (Err at) = tt

deed_ready : (place : ℕ) (bytes : List ℕ) (p : ClientPdu) → IsReadyRead (deed_of phase.Ready place bytes p)
deed_ready place bytes (pdu.Confirm r) = tt
deed_ready place bytes pdu.Synchronize = tt
deed_ready place bytes pdu.Cooperate = tt
deed_ready place bytes pdu.Request = tt
deed_ready place bytes pdu.FontList = tt
deed_ready place bytes pdu.KeyList = tt
deed_ready place bytes (pdu.Input r) = input_ready r _ _
deed_ready place bytes (pdu.Refresh r) = tt
deed_ready place bytes (pdu.Suppress stop) = tt
deed_ready place bytes pdu.Shutdown = tt
deed_ready place bytes pdu.Other = tt

read_ready : (place : ℕ) (bytes : List ℕ) (r : Result ClientPdu ShareFault) → IsReadyRead (read_deed phase.Ready place bytes r)
read_ready place bytes (Ok p) = deed_ready place bytes p
read_ready place bytes (Err (BadShare at)) = tt
read_ready place bytes (Err (Compressed at)) = tt

done_quiet : (channels : ℕ) (what : Deed) → IsReadyDeed (Some what) → QuietAnswer (done channels phase.Ready what)
done_quiet channels deed.Nothing p = (refl, tt)
done_quiet channels (deed.Confirm confirmed) p = absurd p
done_quiet channels (deed.Answer confirmed which) p = absurd p
done_quiet channels deed.Tell p = (refl, tt)
done_quiet channels (deed.Suppress stop) p = (refl, tt)
done_quiet channels deed.Shutdown p = (refl, tt)

judged_quiet : (channels from user place : ℕ) (wanted : Option Deed) → IsReadyDeed wanted → QuietAnswer (deed_judged channels from user phase.Ready place wanted)
judged_quiet channels from user place (Some what) p = own_quiet channels from user (done channels phase.Ready what) (done_quiet channels what p)
judged_quiet channels from user place None p = tt

found_quiet : (channels from user place : ℕ) (r : Result (Telling (Option Deed)) Refusal) → IsReadyRead r → QuietTelling (found_judged channels from user phase.Ready place r)
found_quiet channels from user place (Ok found) p =
    beside_quiet found.told (deed_judged channels from user phase.Ready place found.what) (judged_quiet channels from user place found.what p)
found_quiet channels from user place (Err refusal) p = tt

data_quiet : (channels : ℕ) (mcs : List ℕ) (user channel : ℕ) (body : Range) → QuietTelling (share_data channels phase.Ready mcs user channel body)
data_quiet channels mcs user channel body =
    either_telling (channel == io_channel) _ _
    (found_quiet channels mcs_place user _ _ (read_ready _ (body_in mcs body) (share_pdu_of (body_in mcs body))))
    (beside_quiet [] (own channels mcs_place user (dropped channels mcs_place channel (stage.Shares channels phase.Ready)))
    (own_quiet channels mcs_place user _ (dropped_quiet channels mcs_place channel)))

-- ---- packets

pdu_quiet : (channels : ℕ) (mcs : List ℕ) (p : DomainPdu) → QuietTelling (shares_judged channels phase.Ready mcs p)
pdu_quiet channels mcs Erect = tt
pdu_quiet channels mcs Attach = tt
pdu_quiet channels mcs (Join user channel) = tt
pdu_quiet channels mcs (Data user channel body) = data_quiet channels mcs user channel body
pdu_quiet channels mcs (Bye reason) = (refl, tt)

bind_quiet : (channels : ℕ) (mcs : List ℕ) (r : Result DomainPdu Refusal) → QuietTelling (bind r (λ p. shares_judged channels phase.Ready mcs p))
bind_quiet channels mcs (Ok p) = pdu_quiet channels mcs p
bind_quiet channels mcs (Err refusal) = tt

headers_quiet : (channels : ℕ) (packet : List ℕ) (r : Read (List ℕ)) → QuietTelling (behind_headers packet r (stage.Shares channels phase.Ready))
headers_quiet channels packet (Ok v) = bind_quiet channels v.1 (pdu_in v.1)
headers_quiet channels packet (Err left) = tt

-- events are told without a reply
input_quiet : (channels : ℕ) (r : Result (List Event) ℕ) → QuietTelling (input_judged channels phase.Ready r)
input_quiet channels (Ok events) = beside_quiet (event_steps events) (done channels phase.Ready deed.Tell) (done_quiet channels deed.Tell tt)
input_quiet channels (Err at) = tt

ready_quiet : (channels : ℕ) (packet : List ℕ) → QuietTelling (packet_judged (stage.Shares channels phase.Ready) packet)
ready_quiet channels packet =
    either_telling (is_fast packet) (fast_judged (stage.Shares channels phase.Ready) packet) (tpkt_judged (stage.Shares channels phase.Ready) packet)
    (input_quiet channels (fast_events packet)) (headers_quiet channels packet (fields_at mcs_headers packet))

-- ---- streams

abbrev IsQuietHeard : Heard → Type 0
IsQuietHeard x = (x.replies ≡ []) × IsQuiet x.after.stage

judged_heard_quiet : (h : Hearing) (packet : List ℕ) (j : Result (Telling Answer) Refusal) → QuietTelling j → IsQuietHeard (judged_heard h packet j)
judged_heard_quiet h packet (Ok found) q = (ap (reply_bytes h.size) q.0, q.1)
judged_heard_quiet h packet (Err refusal) q = (refl, tt)

packet_quiet : (s : Stage) (h : Hearing) (packet : List ℕ) → IsQuiet s → IsQuietHeard (cond (is_over s) (record { replies = []; steps = []; after = record h { stage = s } }) (judged_heard (record h { stage = s }) packet (packet_judged s packet)))
packet_quiet stage.Request h packet q = absurd q
packet_quiet (stage.Initial asked) h packet q = absurd q
packet_quiet (stage.Erect client) h packet q = absurd q
packet_quiet (stage.Attach client) h packet q = absurd q
packet_quiet (stage.Joins client user io) h packet q = absurd q
packet_quiet (stage.Shares channels (phase.Confirm depth)) h packet q = absurd q
packet_quiet (stage.Shares channels (phase.Finish confirmed next)) h packet q = absurd q
packet_quiet (stage.Shares channels phase.Ready) h packet q =
    let k : Hearing = record { size = h.size; stage = stage.Shares channels phase.Ready; place = h.place; part = h.part } in
    judged_heard_quiet k packet (packet_judged (stage.Shares channels phase.Ready) packet) (ready_quiet channels packet)
packet_quiet stage.Over h packet q = (refl, tt)
packet_quiet (stage.Refused k at) h packet q = (refl, tt)

packets_quiet : (h : Hearing) (ps : List (List ℕ)) → IsQuiet h.stage → IsQuietHeard (packets_heard h ps)
packets_quiet h [] q = (refl, q)
packets_quiet h (p ∷ ps) q =
    let one = packet_quiet h.stage h p q in
    let others = packets_quiet (packet_heard h p).after ps one.1 in
    (ap (λ (xs : List ℕ). xs ++ (packets_heard (packet_heard h p).after ps).replies) one.0 ∙ others.0, others.1)

ready_is_quiet : (s : Stage) → is_ready s ≡ true → IsQuiet s
ready_is_quiet stage.Request e = absurd (let no : ⊥ = cc in no)
ready_is_quiet (stage.Initial asked) e = absurd (let no : ⊥ = cc in no)
ready_is_quiet (stage.Erect client) e = absurd (let no : ⊥ = cc in no)
ready_is_quiet (stage.Attach client) e = absurd (let no : ⊥ = cc in no)
ready_is_quiet (stage.Joins client user io) e = absurd (let no : ⊥ = cc in no)
ready_is_quiet (stage.Shares channels (phase.Confirm depth)) e = absurd (let no : ⊥ = cc in no)
ready_is_quiet (stage.Shares channels (phase.Finish confirmed next)) e = absurd (let no : ⊥ = cc in no)
ready_is_quiet (stage.Shares channels phase.Ready) e = tt
ready_is_quiet stage.Over e = absurd (let no : ⊥ = cc in no)
ready_is_quiet (stage.Refused k at) e = absurd (let no : ⊥ = cc in no)

pub ready_silence : (h : Hearing) (bytes : List ℕ) → is_ready h.stage ≡ true → (heard h bytes).replies ≡ []
unfolding heard
ready_silence h bytes e = (packets_quiet (between h) (packets_with stream_packet_at (h.part ++ bytes)).packets (ready_is_quiet h.stage e)).0

-- ---- the end

pub end_silence : (h : Hearing) (bytes : List ℕ) → is_over h.stage ≡ true → heard h bytes ≡ silent (between h)
unfolding heard
end_silence h bytes e =
    ap (λ x. before_rest x (packets_with stream_packet_at (h.part ++ bytes)).rest) (over_silent (between h) (packets_with stream_packet_at (h.part ++ bytes)).packets e) ∙ rw e refl
