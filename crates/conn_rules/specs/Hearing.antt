-- What the host makes of a client's stream: its replies, its steps, and how it ends.
use Rattle.std.specs.Prelude.{ℕ, zero, suc, Bool, true, false, List, [], ◌∷◌, ◌++◌, length, Result, Ok, Err, if◌then◌else◌}
use Rattle.px_core.specs.declared.surface.Size.{Size}
use Rattle.tpkt_x224.specs.declared.tpkt.Packet.{Packet}
use Rattle.tpkt_x224.specs.declared.tpkt.Packet.TheVariants.{Whole, Part, NotTpkt, BadLength}
use Rattle.tpkt_x224.specs.Pieces.{Cut, packets_with}
use Rattle.fast_path.specs.Heads.{is_fast, stream_packet_at}
use Rattle.conn_rules.specs.declared.answer.Answer.{Answer}
use Rattle.conn_rules.specs.declared.conn_step.ConnStep.{ConnStep}
use Rattle.conn_rules.specs.declared.refusal.Refusal.{Refusal}
use Rattle.conn_rules.specs.declared.stage.Stage.{Stage}
use Rattle.conn_rules.specs.declared.stage.Stage.TheVariants as stage
use Rattle.conn_rules.specs.Answers.{Telling}
use Rattle.conn_rules.specs.Numbers.{place_behind}
use Rattle.conn_rules.specs.Packets.{packet_judged}
use Rattle.conn_rules.specs.Replies.{reply_bytes}
use Rattle.conn_rules.specs.Told.{told_steps}

-- where a stream stands: what comes next, where the packet begins that isn't whole, and what is there of it
pub record Hearing : Type 0 where
  pub size : Size
  pub stage : Stage
  pub place : ℕ
  pub part : List ℕ

-- what bytes lead to: replies, steps, and where the stream stands after them
pub record Heard : Type 0 where
  pub replies : List ℕ
  pub steps : List ConnStep
  pub after : Hearing

-- nothing
abbrev pub silent : Hearing → Heard
silent h = record { replies = []; steps = []; after = h }

-- one thing after another
abbrev pub then_heard : Heard → Heard → Heard
then_heard a b = record { replies = a.replies ++ b.replies; steps = a.steps ++ b.steps; after = b.after }

-- nothing after this is looked at
abbrev pub is_over : Stage → Bool
is_over stage.Request = false
is_over (stage.Initial asked) = false
is_over (stage.Erect client) = false
is_over (stage.Attach client) = false
is_over (stage.Joins client user io) = false
is_over (stage.Shares channels here) = false
is_over stage.Over = true
is_over (stage.Refused k at) = true

-- ---- packets

-- refused so many bytes behind the packet's first one
abbrev pub refused_here : Hearing → ℕ → ℕ → Hearing
refused_here h k n = record { size = h.size; stage = stage.Refused k (place_behind h.place n); place = h.place; part = [] }

-- a packet that was judged so
abbrev pub judged_heard : Hearing → List ℕ → Result (Telling Answer) Refusal → Heard
judged_heard h packet (Ok judged) = record {
  replies = reply_bytes h.size judged.what.reply;
  steps = told_steps h.stage judged.what.news judged.told;
  after = record { size = h.size; stage = judged.what.next; place = place_behind h.place (length packet); part = [] };
}
judged_heard h packet (Err refusal) = silent (refused_here h refusal.k refusal.at)

abbrev pub packet_heard : Hearing → List ℕ → Heard
packet_heard h packet = if is_over h.stage then silent h else judged_heard h packet (packet_judged h.stage packet)

abbrev pub packets_heard : Hearing → List (List ℕ) → Heard
packets_heard h [] = silent h
packets_heard h (packet ∷ packets) = then_heard (packet_heard h packet) (packets_heard (packet_heard h packet).after packets)

-- ---- bytes

-- between two packets
abbrev pub between : Hearing → Hearing
between h = record { size = h.size; stage = h.stage; place = h.place; part = [] }

-- whether fast-path packets may come: from the place of the Confirm Active on
abbrev pub takes_fast_input : Stage → Bool
takes_fast_input stage.Request = false
takes_fast_input (stage.Initial asked) = false
takes_fast_input (stage.Erect client) = false
takes_fast_input (stage.Attach client) = false
takes_fast_input (stage.Joins client user io) = false
takes_fast_input (stage.Shares channels here) = true
takes_fast_input stage.Over = true
takes_fast_input (stage.Refused k at) = true

-- what stands at the head of what is left: a fast-path packet's first byte is another version before they may come
abbrev pub head_of : Stage → List ℕ → Packet
head_of here rest = if is_fast rest then (if takes_fast_input here then stream_packet_at rest else NotTpkt) else stream_packet_at rest

-- the place of a packet's length in it
abbrev pub length_place : Bool → ℕ
length_place true = 1
length_place false = 2

-- what is left behind the whole packets: another version (refusal 1) and a length that is no packet's (refusal 2) are seen as soon as
-- they are there
abbrev pub with_head : Hearing → List ℕ → Packet → Hearing
with_head h rest (Whole n) = record { size = h.size; stage = h.stage; place = h.place; part = rest }
with_head h rest Part = record { size = h.size; stage = h.stage; place = h.place; part = rest }
with_head h rest NotTpkt = refused_here h 1 0
with_head h rest BadLength = refused_here h 2 (length_place (is_fast rest))

abbrev pub with_rest : Hearing → List ℕ → Hearing
with_rest h rest = if is_over h.stage then h else with_head h rest (head_of h.stage rest)

abbrev pub before_rest : Heard → List ℕ → Heard
before_rest x rest = record { replies = x.replies; steps = x.steps; after = with_rest x.after rest }

-- the packets of a stream so far, and what is left of it
abbrev pub cut_heard : Hearing → Cut → Heard
cut_heard h cut = before_rest (packets_heard h cut.packets) cut.rest

-- bytes that come where a stream stands so
unfoldable pub heard : Hearing → List ℕ → Heard
heard h bytes = cut_heard (between h) (packets_with stream_packet_at (h.part ++ bytes))

-- bytes that come in pieces
abbrev pub pieces_heard : Hearing → List (List ℕ) → Heard
pieces_heard h [] = silent h
pieces_heard h (piece ∷ pieces) = then_heard (heard h piece) (pieces_heard (heard h piece).after pieces)

-- ---- the whole handshake

-- before the first byte, in a session with a picture of this size
abbrev pub first_hearing : Size → Hearing
first_hearing size = record { size = size; stage = stage.Request; place = 0; part = [] }

-- a client's stream: the host's replies, the steps, and where it stands
abbrev pub host_handshake : Size → List ℕ → Heard
host_handshake size bytes = heard (first_hearing size) bytes

-- how a stream ends: between packets, within one of which so many bytes are there, or refused by a number at a place
pub data StreamEnd : Type 0 where
  Between : StreamEnd
  Within : ℕ → StreamEnd
  RefusedAt : ℕ → ℕ → StreamEnd

abbrev pub end_within : ℕ → StreamEnd
end_within zero = Between
end_within (suc n) = Within (suc n)

abbrev pub end_by : Stage → ℕ → StreamEnd
end_by stage.Request n = end_within n
end_by (stage.Initial asked) n = end_within n
end_by (stage.Erect client) n = end_within n
end_by (stage.Attach client) n = end_within n
end_by (stage.Joins client user io) n = end_within n
end_by (stage.Shares channels here) n = end_within n
end_by stage.Over n = Between
end_by (stage.Refused k at) n = RefusedAt k at

abbrev pub end_of : Hearing → StreamEnd
end_of h = end_by h.stage (length h.part)
