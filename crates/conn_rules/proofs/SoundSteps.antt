-- What a stream tells, and where it stands, is sound.
use Rattle.std.proofs.Common.{ℕ, List, [], ◌∷◌, ◌++◌, arith, Bool, true, false, cond}
use Rattle.std.specs.Prelude.{⊤, Result, Ok, Err}
use Rattle.std.proofs.lemmas.List.Elements.{All-nil, All-cons, All-append}
use Rattle.px_core.specs.declared.rectangle.Rect.{Rect}
use Rattle.tpkt_x224.specs.declared.tpkt.Packet.{Packet}
use Rattle.tpkt_x224.specs.declared.tpkt.Packet.TheVariants.{Whole, Part, NotTpkt, BadLength}
use Rattle.fast_path.specs.Heads.{stream_packet_at}
use Rattle.tpkt_x224.specs.Pieces.{packets_with}
use Rattle.input_pdu.specs.declared.event.Event.{Event}
use Rattle.share_pdu.specs.Bodies.{areas_of}
use Rattle.conn_rules.specs.declared.answer.Answer.{Answer}
use Rattle.conn_rules.specs.declared.answer.News.{News}
use Rattle.conn_rules.specs.declared.answer.News.TheVariants as news
use Rattle.conn_rules.specs.declared.conn_step.ConnStep.{ConnStep}
use Rattle.conn_rules.specs.declared.conn_step.ConnStep.TheVariants as step
use Rattle.conn_rules.specs.declared.refusal.Refusal.{Refusal}
use Rattle.conn_rules.specs.Answers.{Telling}
use Rattle.conn_rules.specs.Packets.{packet_judged}
use Rattle.conn_rules.specs.Told.{is_ready, event_steps, area_steps, news_steps, end_steps}
use Rattle.conn_rules.specs.Hearing.{Hearing, Heard, silent, is_over, judged_heard, packet_heard, packets_heard, between, head_of, with_head, heard}
use Rattle.conn_rules.specs.Sound.{IsSound, ConfirmsCaches, AllConfirmCaches}
use Rattle.conn_rules.proofs.Found.{Finds, Tells, packet_finds}
use Rattle.conn_rules.proofs.Sound.{number, SoundNews, SoundTelling, packet_sound}

none_told : AllConfirmCaches []
none_told = All-nil ConfirmsCaches

one_told : (one : ConnStep) → ConfirmsCaches one → AllConfirmCaches (one ∷ [])
one_told one p = All-cons ConfirmsCaches one [] p none_told

events_sound : (events : List Event) → AllConfirmCaches (event_steps events)
events_sound [] = none_told
events_sound (event ∷ events) = All-cons ConfirmsCaches (step.Event event) (event_steps events) tt (events_sound events)

areas_sound : (areas : List Rect) → AllConfirmCaches (area_steps areas)
areas_sound [] = none_told
areas_sound (area ∷ areas) = All-cons ConfirmsCaches (step.Refresh area) (area_steps areas) tt (areas_sound areas)

found_sound : Finds AllConfirmCaches (λ bytes. ⊤)
found_sound = record {
  none = none_told;
  events = events_sound;
  areas = λ body q. areas_sound (areas_of body);
  part = λ bytes from to q. tt;
  behind = λ packet values left e q. tt;
}

news_told : (found : List ConnStep) (what : News) → SoundNews what → AllConfirmCaches found → AllConfirmCaches (news_steps what found)
news_told found news.Nothing p q = none_told
news_told found (news.Step one) p q = one_told one p
news_told found news.Pdu p q = q

end_told : (ready : Bool) → AllConfirmCaches (end_steps ready)
end_told true = one_told step.Packet tt
end_told false = none_told

-- ---- streams

abbrev pub SoundHeard : Heard → Type 0
SoundHeard x = AllConfirmCaches x.steps × IsSound x.after.stage

judged_told : (h : Hearing) (packet : List ℕ) (j : Result (Telling Answer) Refusal) → SoundTelling j → Tells AllConfirmCaches j → SoundHeard (judged_heard h packet j)
judged_told h packet (Ok found) p q =
    (All-append ConfirmsCaches (news_steps found.what.news found.told) (end_steps (is_ready h.stage)) (news_told found.told found.what.news p.0 q) (end_told (is_ready h.stage)), p.1)
judged_told h packet (Err refusal) p q = (none_told, p)

packet_by : (b : Bool) (h : Hearing) (packet : List ℕ) → IsSound h.stage → SoundHeard (cond b (silent h) (judged_heard h packet (packet_judged h.stage packet)))
packet_by true h packet p = (none_told, p)
packet_by false h packet p = judged_told h packet (packet_judged h.stage packet) (packet_sound h.stage packet p) (packet_finds found_sound h.stage packet tt)

packets_sound : (h : Hearing) (ps : List (List ℕ)) → IsSound h.stage → SoundHeard (packets_heard h ps)
packets_sound h [] p = (none_told, p)
packets_sound h (packet ∷ ps) p =
    let one = packet_by (is_over h.stage) h packet p in
    let others = packets_sound (packet_heard h packet).after ps one.1 in
    (All-append ConfirmsCaches (packet_heard h packet).steps (packets_heard (packet_heard h packet).after ps).steps one.0 others.0, others.1)

head_sound : (h : Hearing) (rest : List ℕ) (r : Packet) → IsSound h.stage → IsSound (with_head h rest r).stage
head_sound h rest (Whole n) p = p
head_sound h rest Part p = p
head_sound h rest NotTpkt p = number 1 (omega arith) (omega arith)
head_sound h rest BadLength p = number 2 (omega arith) (omega arith)

rest_by : (b : Bool) (h : Hearing) (rest : List ℕ) → IsSound h.stage → IsSound (cond b h (with_head h rest (head_of h.stage rest))).stage
rest_by true h rest p = p
rest_by false h rest p = head_sound h rest (head_of h.stage rest) p

pub heard_sound : (h : Hearing) (bytes : List ℕ) → IsSound h.stage → SoundHeard (heard h bytes)
unfolding heard
heard_sound h bytes p =
    let cut = packets_with stream_packet_at (h.part ++ bytes) in
    let x = packets_sound (between h) cut.packets p in
    (x.0, rest_by (is_over (packets_heard (between h) cut.packets).after.stage) (packets_heard (between h) cut.packets).after cut.rest x.1)
