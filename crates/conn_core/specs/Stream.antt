-- How a connection is kept.
use Rattle.std.specs.Prelude.{◌≡◌, ◌≤◌, ℕ, true, List, []}
use Rattle.tpkt_x224.specs.declared.tpkt.Packet.TheVariants.{Part}
use Rattle.tpkt_x224.specs.Pieces.{packets_with}
use Rattle.fast_path.specs.Heads.{stream_packet_at}
use Rattle.conn_rules.specs.declared.stage.Stage.TheVariants as stage
use Rattle.conn_rules.specs.Numbers.{place_behind}
use Rattle.conn_rules.specs.Hearing.{Hearing, Heard, is_over, head_of, cut_heard}
use Rattle.conn_core.specs.declared.talk.Talk.{Talk}

-- with a part of a packet
abbrev pub hearing : Talk → List ℕ → Hearing
hearing talk part = record { size = talk.size; stage = talk.stage; place = talk.place; part = part }

abbrev pub refused_talk : Talk → ℕ → ℕ → Talk
refused_talk talk k n = record { size = talk.size; stage = stage.Refused k (place_behind talk.place n); place = talk.place }

-- what is heard of bytes between two packets
abbrev pub part_heard : Talk → List ℕ → Heard
part_heard talk bytes = cut_heard (hearing talk []) (packets_with stream_packet_at bytes)

-- what is kept has not been looked at yet, and breaks no rule so far; nothing is kept of a stream that is over; the sides fit
pub record IsStanding (h : Hearing) : Type 0 where
  pub part : head_of h.stage h.part ≡ Part
  pub over : is_over h.stage ≡ true → h.part ≡ []
  pub wide : h.size.w ≤ 65535
  pub high : h.size.h ≤ 65535
