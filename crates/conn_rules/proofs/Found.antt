-- What holds of the steps that any share PDU may tell, holds of those that are found in a packet.
use Rattle.std.proofs.Common.{◌≡◌, ℕ, List, [], refl, Bool, true, false, cond}
use Rattle.std.specs.Prelude.{◌==◌, ⊤, Option, Some, None, Result, Ok, Err}
use Rattle.std.specs.List.{slice_range}
use Rattle.wire_num.specs.Field.{Read, bind}
use Rattle.wire_num.specs.declared.range.Range.{Range}
use Rattle.wire_num.specs.Layout.{fields_at}
use Rattle.tpkt_x224.specs.Request.{request_of}
use Rattle.mcs_ber.specs.ConnectInitial.{user_data_of}
use Rattle.mcs_dom.specs.declared.domain_pdu.DomainPdu.{DomainPdu}
use Rattle.mcs_dom.specs.declared.domain_pdu.DomainPdu.TheVariants.{Erect, Attach, Join, Data, Bye}
use Rattle.caps_sets.specs.declared.confirmed.Confirmed.{Confirmed}
use Rattle.caps_sets.specs.declared.caps_fault.CapsFault.{CapsFault}
use Rattle.caps_sets.specs.declared.caps_fault.CapsFault.TheVariants.{BadCaps}
use Rattle.caps_sets.specs.ConfirmActive.{confirmed_of}
use Rattle.input_pdu.specs.declared.event.Event.{Event}
use Rattle.input_pdu.specs.Events.{events_of}
use Rattle.share_pdu.specs.declared.client_pdu.ClientPdu.{ClientPdu}
use Rattle.share_pdu.specs.declared.client_pdu.ClientPdu.TheVariants as pdu
use Rattle.share_pdu.specs.declared.share_fault.ShareFault.{ShareFault}
use Rattle.share_pdu.specs.declared.share_fault.ShareFault.TheVariants.{BadShare, Compressed}
use Rattle.share_pdu.specs.Bodies.{areas_of}
use Rattle.share_pdu.specs.ClientPdu.{share_pdu_of}
use Rattle.conn_rules.specs.declared.answer.Answer.{Answer}
use Rattle.conn_rules.specs.declared.conn_step.ConnStep.{ConnStep}
use Rattle.conn_rules.specs.declared.deed.Deed.{Deed}
use Rattle.conn_rules.specs.declared.deed.Deed.TheVariants as deed
use Rattle.conn_rules.specs.declared.refusal.Refusal.{Refusal}
use Rattle.conn_rules.specs.declared.stage.Stage.{Stage}
use Rattle.conn_rules.specs.declared.stage.Stage.TheVariants as stage
use Rattle.conn_rules.specs.declared.stage.SharePhase.{SharePhase}
use Rattle.conn_rules.specs.declared.stage.SharePhase.TheVariants as phase
use Rattle.conn_rules.specs.Answers.{Judged, Telling, beside, alone}
use Rattle.conn_rules.specs.Channels.{io_channel}
use Rattle.conn_rules.specs.Connecting.{request_judged, initial_judged}
use Rattle.conn_rules.specs.Domain.{erect_judged, attach_judged, own, dropped}
use Rattle.conn_rules.specs.Headers.{mcs_headers}
use Rattle.conn_rules.specs.Told.{event_steps, area_steps}
use Rattle.conn_rules.specs.Shares.{sets_read, other_deed, confirm_deed, input_deed, deed_of, read_deed}
use Rattle.fast_path.specs.Heads.{is_fast}
use Rattle.fast_path.specs.Events.{fast_events}
use Rattle.conn_rules.specs.Deeds.{done, deed_judged, found_judged}
use Rattle.conn_rules.specs.Packets.{mcs_place, body_in, share_data, joins_judged, shares_judged, pdu_in, mcs_judged, behind_headers, tpkt_judged, input_wanted, input_judged, fast_judged, packet_judged}

-- P of the steps of each PDU, by what Q says of its bytes, which it says of parts of them too
pub record Finds (P : List ConnStep → Type 0) (Q : List ℕ → Type 0) : Type 0 where
  pub none : P []
  pub events : (events : List Event) → P (event_steps events)
  pub areas : (body : List ℕ) → Q body → P (area_steps (areas_of body))
  pub part : (bytes : List ℕ) (from to : ℕ) → Q bytes → Q (slice_range bytes from to)
  pub behind : (packet values left : List ℕ) → fields_at mcs_headers packet ≡ Ok (values, left) → Q packet → Q left

abbrev pub Tells : {A : Type 0} → (List ConnStep → Type 0) → Result (Telling A) Refusal → Type 0
Tells P (Ok found) = P found.told
Tells P (Err refusal) = ⊤

-- ---- share PDUs

sets_find : {P : List ConnStep → Type 0} {Q : List ℕ → Type 0} → Finds P Q → (place : ℕ) (r : Result Confirmed CapsFault) (next : Confirmed → Option Deed)
    → Tells P (bind (sets_read place r) (λ confirmed. other_deed (next confirmed)))
sets_find f place (Ok confirmed) next = f.none
sets_find f place (Err (BadCaps at)) next = tt

confirm_finds : {P : List ConnStep → Type 0} {Q : List ℕ → Type 0} → Finds P Q → (here : SharePhase) (place : ℕ) (bytes : List ℕ) → Tells P (confirm_deed here place bytes)
confirm_finds f (phase.Confirm depth) place bytes = sets_find f place (confirmed_of depth bytes) (λ confirmed. Some (deed.Confirm confirmed))
confirm_finds f (phase.Finish before next) place bytes = sets_find f place (confirmed_of before.depth bytes) (λ confirmed. None)
confirm_finds f phase.Ready place bytes = f.none

input_finds : {P : List ConnStep → Type 0} {Q : List ℕ → Type 0} → Finds P Q → (wanted : Option Deed) (place : ℕ) (r : Result (List Event) ℕ) → Tells P (input_deed wanted place r)
input_finds f wanted place (Ok events) = f.events events
input_finds f wanted place (Err at) = tt

deed_finds : {P : List ConnStep → Type 0} {Q : List ℕ → Type 0} → Finds P Q → (here : SharePhase) (place : ℕ) (bytes : List ℕ) (p : ClientPdu) → Q bytes → Tells P (deed_of here place bytes p)
deed_finds f here place bytes (pdu.Confirm r) q = confirm_finds f here _ _
deed_finds f here place bytes pdu.Synchronize q = f.none
deed_finds f here place bytes pdu.Cooperate q = f.none
deed_finds f here place bytes pdu.Request q = f.none
deed_finds f here place bytes pdu.FontList q = f.none
deed_finds f here place bytes pdu.KeyList q = f.none
deed_finds f here place bytes (pdu.Input r) q = input_finds f _ _ (events_of (slice_range bytes r.from r.to))
deed_finds f here place bytes (pdu.Refresh r) q = f.areas (slice_range bytes r.from r.to) (f.part bytes r.from r.to q)
deed_finds f here place bytes (pdu.Suppress stop) q = f.none
deed_finds f here place bytes pdu.Shutdown q = f.none
deed_finds f here place bytes pdu.Other q = f.none

read_finds : {P : List ConnStep → Type 0} {Q : List ℕ → Type 0} → Finds P Q → (here : SharePhase) (place : ℕ) (bytes : List ℕ) (r : Result ClientPdu ShareFault) → Q bytes
    → Tells P (read_deed here place bytes r)
read_finds f here place bytes (Ok p) q = deed_finds f here place bytes p q
read_finds f here place bytes (Err (BadShare at)) q = tt
read_finds f here place bytes (Err (Compressed at)) q = tt

-- ---- packets

beside_tells : (P : List ConnStep → Type 0) (told : List ConnStep) (j : Judged) → P told → Tells P (beside told j)
beside_tells P told (Ok answer) p = p
beside_tells P told (Err refusal) p = tt

alone_tells : {P : List ConnStep → Type 0} {Q : List ℕ → Type 0} → Finds P Q → (j : Judged) → Tells P (alone j)
alone_tells {P = P} f j = beside_tells P [] j f.none

found_tells : (P : List ConnStep → Type 0) (channels from user : ℕ) (here : SharePhase) (place : ℕ) (r : Result (Telling (Option Deed)) Refusal) → Tells P r
    → Tells P (found_judged channels from user here place r)
found_tells P channels from user here place (Ok found) p = beside_tells P found.told (deed_judged channels from user here place found.what) p
found_tells P channels from user here place (Err refusal) p = tt

either_tells : (P : List ConnStep → Type 0) (b : Bool) (j k : Result (Telling Answer) Refusal) → Tells P j → Tells P k → Tells P (cond b j k)
either_tells P true j k p q = p
either_tells P false j k p q = q

share_finds : {P : List ConnStep → Type 0} {Q : List ℕ → Type 0} → Finds P Q → (channels : ℕ) (here : SharePhase) (mcs : List ℕ) (user channel : ℕ) (body : Range) → Q mcs
    → Tells P (share_data channels here mcs user channel body)
share_finds {P = P} f channels here mcs user channel body q =
    either_tells P (channel == io_channel) _ _
    (found_tells P channels mcs_place user here _ _ (read_finds f here _ (body_in mcs body) (share_pdu_of (body_in mcs body)) (f.part mcs body.from body.to q)))
    (alone_tells f (own channels mcs_place user (dropped channels mcs_place channel (stage.Shares channels here))))

shares_find : {P : List ConnStep → Type 0} {Q : List ℕ → Type 0} → Finds P Q → (channels : ℕ) (here : SharePhase) (mcs : List ℕ) (p : DomainPdu) → Q mcs
    → Tells P (shares_judged channels here mcs p)
shares_find f channels here mcs Erect q = tt
shares_find f channels here mcs Attach q = tt
shares_find f channels here mcs (Join user channel) q = tt
shares_find f channels here mcs (Data user channel body) q = share_finds f channels here mcs user channel body q
shares_find f channels here mcs (Bye reason) q = f.none

bind_tells : (P : List ConnStep → Type 0) (r : Result DomainPdu Refusal) (next : DomainPdu → Result (Telling Answer) Refusal) → ((p : DomainPdu) → Tells P (next p)) → Tells P (bind r next)
bind_tells P (Ok p) next all = all p
bind_tells P (Err refusal) next all = tt

mcs_finds : {P : List ConnStep → Type 0} {Q : List ℕ → Type 0} → Finds P Q → (s : Stage) (mcs : List ℕ) → Q mcs → Tells P (mcs_judged s mcs)
mcs_finds f stage.Request mcs q = f.none
mcs_finds f (stage.Initial asked) mcs q = alone_tells f (initial_judged asked mcs_place mcs (user_data_of mcs))
mcs_finds f (stage.Erect client) mcs q = alone_tells f (bind (pdu_in mcs) (λ p. erect_judged client mcs_place p))
mcs_finds f (stage.Attach client) mcs q = alone_tells f (bind (pdu_in mcs) (λ p. attach_judged client mcs_place p))
mcs_finds f (stage.Joins client user io) mcs q = alone_tells f (bind (pdu_in mcs) (λ p. joins_judged client user io mcs p))
mcs_finds {P = P} f (stage.Shares channels here) mcs q = bind_tells P (pdu_in mcs) (λ p. shares_judged channels here mcs p) (λ p. shares_find f channels here mcs p q)
mcs_finds f stage.Over mcs q = f.none
mcs_finds f (stage.Refused k at) mcs q = f.none

headers_find : {P : List ConnStep → Type 0} {Q : List ℕ → Type 0} → Finds P Q → (s : Stage) (packet : List ℕ) (r : Read (List ℕ)) → fields_at mcs_headers packet ≡ r → Q packet
    → Tells P (behind_headers packet r s)
headers_find f s packet (Ok v) e q = mcs_finds f s v.1 (f.behind packet v.0 v.1 e q)
headers_find f s packet (Err left) e q = tt

tpkt_finds : {P : List ConnStep → Type 0} {Q : List ℕ → Type 0} → Finds P Q → (s : Stage) (packet : List ℕ) → Q packet → Tells P (tpkt_judged s packet)
tpkt_finds f stage.Request packet q = alone_tells f (request_judged (request_of packet))
tpkt_finds f (stage.Initial asked) packet q = headers_find f (stage.Initial asked) packet (fields_at mcs_headers packet) refl q
tpkt_finds f (stage.Erect client) packet q = headers_find f (stage.Erect client) packet (fields_at mcs_headers packet) refl q
tpkt_finds f (stage.Attach client) packet q = headers_find f (stage.Attach client) packet (fields_at mcs_headers packet) refl q
tpkt_finds f (stage.Joins client user io) packet q = headers_find f (stage.Joins client user io) packet (fields_at mcs_headers packet) refl q
tpkt_finds f (stage.Shares channels here) packet q = headers_find f (stage.Shares channels here) packet (fields_at mcs_headers packet) refl q
tpkt_finds f stage.Over packet q = f.none
tpkt_finds f (stage.Refused k at) packet q = f.none

-- ---- fast-path packets

input_tells : (P : List ConnStep → Type 0) (channels : ℕ) (here : SharePhase) (r : Result (List Event) ℕ) → ((events : List Event) → P (event_steps events))
    → Tells P (input_judged channels here r)
input_tells P channels here (Ok events) all = beside_tells P (event_steps events) (done channels here (input_wanted here)) (all events)
input_tells P channels here (Err at) all = tt

fast_finds : {P : List ConnStep → Type 0} {Q : List ℕ → Type 0} → Finds P Q → (s : Stage) (packet : List ℕ) → Tells P (fast_judged s packet)
fast_finds f stage.Request packet = tt
fast_finds f (stage.Initial asked) packet = tt
fast_finds f (stage.Erect client) packet = tt
fast_finds f (stage.Attach client) packet = tt
fast_finds f (stage.Joins client user io) packet = tt
fast_finds {P = P} f (stage.Shares channels here) packet = input_tells P channels here (fast_events packet) f.events
fast_finds f stage.Over packet = f.none
fast_finds f (stage.Refused k at) packet = f.none

-- ---- packets of either kind

pub packet_finds : {P : List ConnStep → Type 0} {Q : List ℕ → Type 0} → Finds P Q → (s : Stage) (packet : List ℕ) → Q packet → Tells P (packet_judged s packet)
packet_finds {P = P} f s packet q =
    either_tells P (is_fast packet) (fast_judged s packet) (tpkt_judged s packet) (fast_finds f s packet) (tpkt_finds f s packet q)
