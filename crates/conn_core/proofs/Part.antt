-- What is heard of a part of a packet.
use Rattle.std.proofs.Common.{◌≡◌, ℕ, ◌≤◌, List, [], ◌∷◌, ◌++◌, length, refl, ap, ap₂, sym, ◌∙◌, append-nil, Bool, true, false, cond, arith}
use Rattle.std.specs.Prelude.{Result, Ok, Err}
use Rattle.tpkt_x224.specs.declared.tpkt.Packet.{Packet}
use Rattle.tpkt_x224.specs.declared.tpkt.Packet.TheVariants.{Whole, Part, NotTpkt, BadLength}
use Rattle.tpkt_x224.specs.Pieces.{packets_with}
use Rattle.tpkt_x224.proofs.AnyCutting.{one_cut}
use Rattle.tpkt_x224.proofs.AnyStream.{starts, none_left}
use Rattle.fast_path.specs.Heads.{IsStreamPacket, stream_packet_at}
use Rattle.fast_path.proofs.Mixed.{reads_streams, stream_whole}
use Rattle.conn_rules.specs.declared.conn_step.ConnStep.{ConnStep}
use Rattle.conn_rules.specs.declared.answer.Answer.{Answer}
use Rattle.conn_rules.specs.declared.refusal.Refusal.{Refusal}
use Rattle.conn_rules.specs.Answers.{Telling}
use Rattle.conn_rules.specs.Packets.{packet_judged}
use Rattle.conn_rules.specs.Hearing.{Hearing, Heard, silent, then_heard, is_over, judged_heard, packet_heard, packets_heard, between, head_of, with_head, with_rest, before_rest, cut_heard, heard}
use Rattle.conn_rules.proofs.Pieces.{packets_between, over_heard, whole_head, part_heard}
use Rattle.conn_core.specs.Stream.{IsStanding}

abbrev heard_with : List ℕ → List ConnStep → Hearing → Heard
heard_with replies steps after = record { replies = replies; steps = steps; after = after }

abbrev with_part : Hearing → List ℕ → Hearing
with_part h part = record { size = h.size; stage = h.stage; place = h.place; part = part }

pub then_silent : (a : Heard) → then_heard a (silent a.after) ≡ a
then_silent a = ap₂ (λ (replies : List ℕ) (steps : List ConnStep). heard_with replies steps a.after) (append-nil a.replies) (append-nil a.steps)

-- ---- one packet

-- nothing is left behind a packet
rest_by : (b : Bool) (h : Hearing) → h.part ≡ [] → cond b h (with_part h []) ≡ h
rest_by true h e = refl
rest_by false h e = ap (with_part h) (sym e)

no_rest : (h : Hearing) → h.part ≡ [] → with_rest h [] ≡ h
no_rest h e = rest_by (is_over h.stage) h e

judged_between : (h : Hearing) (p : List ℕ) (j : Result (Telling Answer) Refusal) → (judged_heard h p j).after.part ≡ []
judged_between h p (Ok found) = refl
judged_between h p (Err refusal) = refl

open_packet : (h : Hearing) (bytes : List ℕ) → is_over h.stage ≡ false → packet_heard h bytes ≡ judged_heard h bytes (packet_judged h.stage bytes)
open_packet h bytes o = rw o refl

after_one : (x : Heard) → x.after.part ≡ [] → before_rest (then_heard x (silent x.after)) [] ≡ x
after_one x e = ap (λ y. before_rest y []) (then_silent x) ∙ ap (heard_with x.replies x.steps) (no_rest x.after e)

pub one_packet : (h : Hearing) (bytes : List ℕ) (n : ℕ) → is_over h.stage ≡ false → stream_packet_at bytes ≡ Whole n → n ≡ length bytes
    → cut_heard h (packets_with stream_packet_at bytes) ≡ judged_heard h bytes (packet_judged h.stage bytes)
one_packet h bytes n o p e =
    ap (cut_heard h) (one_cut stream_packet_at reads_streams bytes n p e)
    ∙ ap (λ x. before_rest (then_heard x (silent x.after)) []) (open_packet h bytes o)
    ∙ after_one (judged_heard h bytes (packet_judged h.stage bytes)) (judged_between h bytes (packet_judged h.stage bytes))

-- ---- where a connection stands after bytes

judged_size : (h : Hearing) (p : List ℕ) (j : Result (Telling Answer) Refusal) → (judged_heard h p j).after.size ≡ h.size
judged_size h p (Ok found) = refl
judged_size h p (Err refusal) = refl

packet_size_by : (b : Bool) (h : Hearing) (p : List ℕ) (j : Result (Telling Answer) Refusal) → (cond b (silent h) (judged_heard h p j)).after.size ≡ h.size
packet_size_by true h p j = refl
packet_size_by false h p j = judged_size h p j

packets_size : (h : Hearing) (ps : List (List ℕ)) → (packets_heard h ps).after.size ≡ h.size
packets_size h [] = refl
packets_size h (p ∷ ps) = packets_size (packet_heard h p).after ps ∙ packet_size_by (is_over h.stage) h p (packet_judged h.stage p)

head_stands : (h : Hearing) (rest : List ℕ) (p : Packet) → head_of h.stage rest ≡ p → is_over h.stage ≡ false → ((n : ℕ) → stream_packet_at rest ≡ Whole n → ⊥) → h.size.w ≤ 65535 → h.size.h ≤ 65535
    → IsStanding (with_head h rest p)
head_stands h rest (Whole n) e o none wide high = absurd (none n (whole_head h.stage rest n e))
head_stands h rest Part e o none wide high = record { part = e; over = λ over. absurd (let no : ⊥ = cc in no); wide = wide; high = high }
head_stands h rest NotTpkt e o none wide high = record { part = refl; over = λ over. refl; wide = wide; high = high }
head_stands h rest BadLength e o none wide high = record { part = refl; over = λ over. refl; wide = wide; high = high }

over_stands : (h : Hearing) → h.part ≡ [] → h.size.w ≤ 65535 → h.size.h ≤ 65535 → IsStanding h
over_stands h e wide high = record { part = ap (head_of h.stage) e; over = λ over. e; wide = wide; high = high }

rest_stands_by : (b : Bool) (h : Hearing) (rest : List ℕ) → is_over h.stage ≡ b → h.part ≡ [] → ((n : ℕ) → stream_packet_at rest ≡ Whole n → ⊥) → h.size.w ≤ 65535 → h.size.h ≤ 65535
    → IsStanding (cond b h (with_head h rest (head_of h.stage rest)))
rest_stands_by true h rest o e none wide high = over_stands h e wide high
rest_stands_by false h rest o e none wide high = head_stands h rest (head_of h.stage rest) refl o none wide high

never_whole : (bytes : List ℕ) (n : ℕ) → stream_packet_at (packets_with stream_packet_at bytes).rest ≡ Whole n → ⊥
never_whole bytes n e =
    none_left stream_packet_at IsStreamPacket reads_streams stream_whole bytes (starts stream_packet_at IsStreamPacket reads_streams stream_whole (packets_with stream_packet_at bytes).rest n e)

pub stands_after : (h : Hearing) (bytes : List ℕ) → h.size.w ≤ 65535 → h.size.h ≤ 65535 → IsStanding (heard h bytes).after
unfolding heard
stands_after h bytes wide high =
    let cut = packets_with stream_packet_at (h.part ++ bytes) in
    let end = (packets_heard (between h) cut.packets).after in
    let size : end.size ≡ h.size = packets_size (between h) cut.packets in
    rest_stands_by (is_over end.stage) end cut.rest refl (packets_between (between h) cut.packets refl) (never_whole (h.part ++ bytes))
    (omega (arith, ap (λ s. s.w) size, wide)) (omega (arith, ap (λ s. s.h) size, high))

-- ---- nothing more

silent_by : (b : Bool) (h : Hearing) → is_over h.stage ≡ b → IsStanding h → heard h [] ≡ silent h
unfolding heard
silent_by true h o s = over_heard h [] (s.over o) o
silent_by false h o s =
    ap (λ bytes. cut_heard (between h) (packets_with stream_packet_at bytes)) (append-nil h.part) ∙ part_heard (between h) h.part o s.part

pub silence : (h : Hearing) → IsStanding h → heard h [] ≡ silent h
silence h s = silent_by (is_over h.stage) h refl s

pub over_silence : (h : Hearing) (bytes : List ℕ) → IsStanding h → is_over h.stage ≡ true → heard h bytes ≡ silent h
over_silence h bytes s o = over_heard h bytes (s.over o) o
