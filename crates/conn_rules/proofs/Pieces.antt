-- What is heard of a stream in two pieces.
use Rattle.std.proofs.Common.{◌≡◌, ℕ, zero, suc, ◌%◌, ◌≤◌, List, [], ◌∷◌, ◌++◌, refl, ap, ap₂, sym, ◌∙◌, length, take, drop, inl, inr, append_assoc, append-nil, Bool, true, false, cond, arith}
use Rattle.tpkt_x224.specs.declared.tpkt.Packet.{Packet}
use Rattle.tpkt_x224.specs.declared.tpkt.Packet.TheVariants.{Whole, Part, NotTpkt, BadLength}
use Rattle.tpkt_x224.specs.Tpkt.{HasBadLength}
use Rattle.tpkt_x224.specs.Pieces.{Cut, cut_by, cut_with, packets_with}
use Rattle.tpkt_x224.proofs.AnyCutting as any
use Rattle.fast_path.specs.Heads.{HasOtherAction, IsShort, IsShortLong, HasBadStreamLength, is_fast, stream_packet_at}
use Rattle.fast_path.proofs.Mixed.{reads_streams, stream_other, stream_bad}
use Rattle.conn_rules.specs.declared.conn_step.ConnStep.{ConnStep}
use Rattle.conn_rules.specs.Hearing.{Hearing, Heard, silent, then_heard, is_over, refused_here, judged_heard, packet_heard, packets_heard, between, takes_fast_input, head_of, length_place, with_head, with_rest, before_rest, cut_heard, heard, pieces_heard}
use Rattle.conn_rules.specs.declared.answer.Answer.{Answer}
use Rattle.conn_rules.specs.declared.refusal.Refusal.{Refusal}
use Rattle.conn_rules.specs.Answers.{Telling}
use Rattle.conn_rules.specs.declared.stage.Stage.{Stage}
use Rattle.conn_rules.specs.declared.stage.Stage.TheVariants as stage
use Rattle.conn_rules.specs.Numbers.{not_tpkt}
use Rattle.conn_rules.specs.Packets.{fast_judged, packet_judged}
use Rattle.std.specs.Prelude.{◌==◌, Result, Ok, Err, flat_map}

-- ---- packets

abbrev heard_with : List ℕ → List ConnStep → Hearing → Heard
heard_with replies steps after = record { replies = replies; steps = steps; after = after }

pub then_assoc : (a b c : Heard) → then_heard a (then_heard b c) ≡ then_heard (then_heard a b) c
then_assoc a b c =
    ap₂ (λ (replies : List ℕ) (steps : List ConnStep). heard_with replies steps c.after) (sym (append_assoc a.replies b.replies c.replies)) (sym (append_assoc a.steps b.steps c.steps))

pub packets_then : (h : Hearing) (ps qs : List (List ℕ)) → packets_heard h (ps ++ qs) ≡ then_heard (packets_heard h ps) (packets_heard (packets_heard h ps).after qs)
packets_then h [] qs = refl
packets_then h (p ∷ ps) qs =
    let one = packet_heard h p in
    ap (then_heard one) (packets_then one.after ps qs)
    ∙ then_assoc one (packets_heard one.after ps) (packets_heard (packets_heard one.after ps).after qs)

-- nothing is heard of packets once the stream is over
pub over_packet : (h : Hearing) (p : List ℕ) → is_over h.stage ≡ true → packet_heard h p ≡ silent h
over_packet h p e = rw e refl

pub over_silent : (h : Hearing) (ps : List (List ℕ)) → is_over h.stage ≡ true → packets_heard h ps ≡ silent h
over_silent h [] e = refl
over_silent h (p ∷ ps) e =
    ap (λ x. then_heard x (packets_heard x.after ps)) (over_packet h p e) ∙ over_silent h ps e

-- between packets nothing is there of one
judged_between : (h : Hearing) (p : List ℕ) (j : Result (Telling Answer) Refusal) → (judged_heard h p j).after.part ≡ []
judged_between h p (Ok found) = refl
judged_between h p (Err refusal) = refl

packet_between_by : (b : Bool) (h : Hearing) (p : List ℕ) (j : Result (Telling Answer) Refusal) → h.part ≡ [] → (cond b (silent h) (judged_heard h p j)).after.part ≡ []
packet_between_by true h p j e = e
packet_between_by false h p j e = judged_between h p j

pub packet_between : (h : Hearing) (p : List ℕ) → h.part ≡ [] → (packet_heard h p).after.part ≡ []
packet_between h p e = packet_between_by (is_over h.stage) h p (packet_judged h.stage p) e

pub packets_between : (h : Hearing) (ps : List (List ℕ)) → h.part ≡ [] → (packets_heard h ps).after.part ≡ []
packets_between h [] e = e
packets_between h (p ∷ ps) e = packets_between (packet_heard h p).after ps (packet_between h p e)

-- ---- what is left

abbrev with_part : Hearing → List ℕ → Hearing
with_part h part = record { size = h.size; stage = h.stage; place = h.place; part = part }

pub between_is : (h : Hearing) → h.part ≡ [] → between h ≡ h
between_is h e = ap (with_part h) (sym e)

-- nothing is heard of bytes once the stream is over
over_cut : (h : Hearing) (cut : Cut) → is_over h.stage ≡ true → cut_heard h cut ≡ silent h
over_cut h cut e = ap (λ x. before_rest x cut.rest) (over_silent h cut.packets e) ∙ rw e refl

pub over_heard : (h : Hearing) (ys : List ℕ) → h.part ≡ [] → is_over h.stage ≡ true → heard h ys ≡ silent h
unfolding heard
over_heard h ys e o = ap (λ k. cut_heard k (packets_with stream_packet_at (h.part ++ ys))) (between_is h e) ∙ over_cut h (packets_with stream_packet_at (h.part ++ ys)) o

-- ---- what stands at the head of what is left, as the stage sees it

-- the packets of a stream of both kinds
abbrev pub cut_of : List ℕ → Cut
cut_of bytes = packets_with stream_packet_at bytes

whole_by : (fast taken : Bool) (p : Packet) (n : ℕ) → cond fast (cond taken p NotTpkt) p ≡ Whole n → p ≡ Whole n
whole_by true true p n e = e
whole_by true false p n e = absurd (let no : ⊥ = cc in no)
whole_by false taken p n e = e

pub whole_head : (s : Stage) (bytes : List ℕ) (n : ℕ) → head_of s bytes ≡ Whole n → stream_packet_at bytes ≡ Whole n
whole_head s bytes n e = by (is_fast bytes) e
  where
    by : (fast : Bool) → cond fast (cond (takes_fast_input s) (stream_packet_at bytes) NotTpkt) (stream_packet_at bytes) ≡ Whole n → stream_packet_at bytes ≡ Whole n
    by true e = whole_by true (takes_fast_input s) (stream_packet_at bytes) n e
    by false e = e

part_by : (taken : Bool) (p : Packet) → cond taken p NotTpkt ≡ Part → p ≡ Part
part_by true p e = e
part_by false p e = absurd (let no : ⊥ = cc in no)

pub part_head : (s : Stage) (bytes : List ℕ) → head_of s bytes ≡ Part → stream_packet_at bytes ≡ Part
part_head s bytes e = by (is_fast bytes) e
  where
    by : (fast : Bool) → cond fast (cond (takes_fast_input s) (stream_packet_at bytes) NotTpkt) (stream_packet_at bytes) ≡ Part → stream_packet_at bytes ≡ Part
    by true e = part_by (takes_fast_input s) (stream_packet_at bytes) e
    by false e = e

-- where a stream is that takes what stands at the head for another version: a fast-path packet may not come yet, or it is one
data IsWrong (s : Stage) (bytes : List ℕ) : Type 0 where
  TooEarly : is_fast bytes ≡ true → takes_fast_input s ≡ false → IsWrong s bytes
  Neither : stream_packet_at bytes ≡ NotTpkt → IsWrong s bytes

wrong_head : (s : Stage) (bytes : List ℕ) → head_of s bytes ≡ NotTpkt → IsWrong s bytes
wrong_head s bytes e = by (is_fast bytes) (takes_fast_input s) refl refl e
  where
    by : (fast taken : Bool) → is_fast bytes ≡ fast → takes_fast_input s ≡ taken → cond fast (cond taken (stream_packet_at bytes) NotTpkt) (stream_packet_at bytes) ≡ NotTpkt → IsWrong s bytes
    by true true f t e = Neither e
    by true false f t e = TooEarly f t
    by false taken f t e = Neither e

early_head : (s : Stage) (bytes : List ℕ) → is_fast bytes ≡ true → takes_fast_input s ≡ false → head_of s bytes ≡ NotTpkt
early_head s bytes f t = rw (f, t) refl

neither_head : (s : Stage) (bytes : List ℕ) → stream_packet_at bytes ≡ NotTpkt → head_of s bytes ≡ NotTpkt
neither_head s bytes e = by (is_fast bytes) (takes_fast_input s)
  where
    by : (fast taken : Bool) → cond fast (cond taken (stream_packet_at bytes) NotTpkt) (stream_packet_at bytes) ≡ NotTpkt
    by true true = e
    by true false = refl
    by false taken = e

-- it stays so, whatever follows
still_fast : (bytes ys : List ℕ) → is_fast bytes ≡ true → is_fast (bytes ++ ys) ≡ true
still_fast [] ys f = absurd (let no : ⊥ = cc in no)
still_fast (v ∷ bs) ys f = f

still_other : (bytes ys : List ℕ) → HasOtherAction bytes → HasOtherAction (bytes ++ ys)
still_other [] ys w = absurd w
still_other (v ∷ bs) ys w = w

wrong_version : (s : Stage) (bytes ys : List ℕ) → head_of s bytes ≡ NotTpkt → head_of s (bytes ++ ys) ≡ NotTpkt
wrong_version s bytes ys e = elim (wrong_head s bytes e) [
  | TooEarly f t ↦ early_head s (bytes ++ ys) (still_fast bytes ys f) t
  | Neither n ↦ neither_head s (bytes ++ ys) ((stream_other (bytes ++ ys)).1 (still_other bytes ys ((stream_other bytes).0 n)))
]

still_bad : (bytes ys : List ℕ) → HasBadLength bytes → HasBadLength (bytes ++ ys)
still_bad [] ys w = absurd w
still_bad (v ∷ []) ys w = absurd w
still_bad (v ∷ r ∷ []) ys w = absurd w
still_bad (v ∷ r ∷ h ∷ []) ys w = absurd w
still_bad (v ∷ r ∷ h ∷ l ∷ carried) ys w = w

still_long : (high : ℕ) (bs ys : List ℕ) → IsShortLong high bs → IsShortLong high (bs ++ ys)
still_long high [] ys w = absurd w
still_long high (low ∷ bs) ys w = w

still_short : (bs ys : List ℕ) → IsShort bs → IsShort (bs ++ ys)
still_short [] ys w = absurd w
still_short (l ∷ bs) ys (inl w) = inl w
still_short (l ∷ bs) ys (inr w) = inr (w.0, still_long l bs ys w.1)

still_length : (bytes ys : List ℕ) → HasBadStreamLength bytes → HasBadStreamLength (bytes ++ ys)
still_length bytes ys (inl w) = inl (still_bad bytes ys w)
still_length [] ys (inr w) = absurd w
still_length (v ∷ bs) ys (inr w) = inr (w.0, still_short bs ys w.1)

bad_stays : (bytes ys : List ℕ) → stream_packet_at bytes ≡ BadLength → stream_packet_at (bytes ++ ys) ≡ BadLength
bad_stays bytes ys e = (stream_bad (bytes ++ ys)).1 (still_length bytes ys ((stream_bad bytes).0 e))

-- a length that is refused: a packet of this kind may come
pub bad_head : (s : Stage) (bytes : List ℕ) → head_of s bytes ≡ BadLength → stream_packet_at bytes ≡ BadLength
bad_head s bytes e = by (is_fast bytes) (takes_fast_input s) e
  where
    by : (fast taken : Bool) → cond fast (cond taken (stream_packet_at bytes) NotTpkt) (stream_packet_at bytes) ≡ BadLength → stream_packet_at bytes ≡ BadLength
    by true true e = e
    by true false e = absurd (let no : ⊥ = cc in no)
    by false taken e = e

bad_length : (s : Stage) (bytes ys : List ℕ) → head_of s bytes ≡ BadLength → head_of s (bytes ++ ys) ≡ BadLength
bad_length s [] ys e = absurd (let no : ⊥ = cc in no)
bad_length s (v ∷ bs) ys e = by (v % 4 == 0) (takes_fast_input s) (bad_stays (v ∷ bs) ys (bad_head s (v ∷ bs) e)) e
  where
    by : (fast taken : Bool) → stream_packet_at (v ∷ (bs ++ ys)) ≡ BadLength → cond fast (cond taken (stream_packet_at (v ∷ bs)) NotTpkt) (stream_packet_at (v ∷ bs)) ≡ BadLength
        → cond fast (cond taken (stream_packet_at (v ∷ (bs ++ ys))) NotTpkt) (stream_packet_at (v ∷ (bs ++ ys))) ≡ BadLength
    by true true stays e = stays
    by true false stays e = absurd (let no : ⊥ = cc in no)
    by false taken stays e = stays

same_kind : (bytes ys : List ℕ) → stream_packet_at bytes ≡ BadLength → is_fast (bytes ++ ys) ≡ is_fast bytes
same_kind [] ys e = absurd (let no : ⊥ = cc in no)
same_kind (v ∷ bs) ys e = refl

-- ---- no packet is cut off

uncut_by : (bytes : List ℕ) (p : Packet) → stream_packet_at bytes ≡ p → cut_of bytes ≡ cut_by p bytes (λ after. cut_with stream_packet_at (length bytes) after)
uncut_by bytes p e = any.once stream_packet_at reads_streams bytes ∙ ap (λ q. cut_by q bytes (λ after. cut_with stream_packet_at (length bytes) after)) e

uncut_heard : (h : Hearing) (bytes : List ℕ) (p : Packet) → is_over h.stage ≡ false → head_of h.stage bytes ≡ p → cut_of bytes ≡ record { packets = []; rest = bytes }
    → cut_heard h (cut_of bytes) ≡ silent (with_head h bytes p)
uncut_heard h bytes p o e u = ap (cut_heard h) u ∙ rw (o, e) refl

-- ---- a fast-path packet that may not come yet

early_judged : (s : Stage) (packet : List ℕ) → takes_fast_input s ≡ false → fast_judged s packet ≡ not_tpkt 0
early_judged stage.Request packet t = refl
early_judged (stage.Initial asked) packet t = refl
early_judged (stage.Erect client) packet t = refl
early_judged (stage.Attach client) packet t = refl
early_judged (stage.Joins client user io) packet t = refl
early_judged (stage.Shares channels here) packet t = absurd (let no : ⊥ = cc in no)
early_judged stage.Over packet t = absurd (let no : ⊥ = cc in no)
early_judged (stage.Refused k at) packet t = absurd (let no : ⊥ = cc in no)

early_packet : (h : Hearing) (packet : List ℕ) → is_over h.stage ≡ false → is_fast packet ≡ true → takes_fast_input h.stage ≡ false → packet_heard h packet ≡ silent (refused_here h 1 0)
early_packet h packet o f t = rw (o, f) (ap (judged_heard h packet) (early_judged h.stage packet t))

front_fast : (n : ℕ) (bytes : List ℕ) → 1 ≤ n → is_fast bytes ≡ true → is_fast (take n bytes) ≡ true
front_fast zero bytes some f = absurd (omega (arith, some))
front_fast (suc n) [] some f = f
front_fast (suc n) (v ∷ bs) some f = f

refused_packets : (h : Hearing) (ps : List (List ℕ)) (rest : List ℕ) → before_rest (then_heard (silent (refused_here h 1 0)) (packets_heard (refused_here h 1 0) ps)) rest ≡ silent (refused_here h 1 0)
refused_packets h ps rest = ap (λ x. before_rest (then_heard (silent (refused_here h 1 0)) x) rest) (over_silent (refused_here h 1 0) ps refl)

early_whole : (h : Hearing) (bytes : List ℕ) (n : ℕ) → is_over h.stage ≡ false → is_fast bytes ≡ true → takes_fast_input h.stage ≡ false → stream_packet_at bytes ≡ Whole n
    → cut_heard h (cut_of bytes) ≡ silent (refused_here h 1 0)
early_whole h bytes n o f t e =
    let first = early_packet h (take n bytes) o (front_fast n bytes (reads_streams.bounds bytes n e).0 f) t in
    let others = cut_of (drop n bytes) in
    ap (cut_heard h) (any.whole_is_cut stream_packet_at reads_streams bytes n e)
    ∙ ap (λ x. before_rest (then_heard x (packets_heard x.after others.packets)) others.rest) first
    ∙ refused_packets h others.packets others.rest

early_by : (p : Packet) (h : Hearing) (bytes : List ℕ) → is_over h.stage ≡ false → is_fast bytes ≡ true → takes_fast_input h.stage ≡ false → stream_packet_at bytes ≡ p
    → cut_heard h (cut_of bytes) ≡ silent (refused_here h 1 0)
early_by (Whole n) h bytes o f t e = early_whole h bytes n o f t e
early_by Part h bytes o f t e = uncut_heard h bytes NotTpkt o (early_head h.stage bytes f t) (uncut_by bytes Part e)
early_by NotTpkt h bytes o f t e = uncut_heard h bytes NotTpkt o (early_head h.stage bytes f t) (uncut_by bytes NotTpkt e)
early_by BadLength h bytes o f t e = uncut_heard h bytes NotTpkt o (early_head h.stage bytes f t) (uncut_by bytes BadLength e)

-- ---- what is heard where no packet may be cut off

pub not_heard : (h : Hearing) (bytes : List ℕ) → is_over h.stage ≡ false → head_of h.stage bytes ≡ NotTpkt → cut_heard h (cut_of bytes) ≡ silent (refused_here h 1 0)
not_heard h bytes o e = elim (wrong_head h.stage bytes e) [
  | TooEarly f t ↦ early_by (stream_packet_at bytes) h bytes o f t refl
  | Neither n ↦ uncut_heard h bytes NotTpkt o e (uncut_by bytes NotTpkt n)
]

pub bad_heard : (h : Hearing) (bytes : List ℕ) → is_over h.stage ≡ false → head_of h.stage bytes ≡ BadLength
    → cut_heard h (cut_of bytes) ≡ silent (refused_here h 2 (length_place (is_fast bytes)))
bad_heard h bytes o e = uncut_heard h bytes BadLength o e (uncut_by bytes BadLength (bad_head h.stage bytes e))

pub part_heard : (h : Hearing) (bytes : List ℕ) → is_over h.stage ≡ false → head_of h.stage bytes ≡ Part → cut_heard h (cut_of bytes) ≡ silent (with_part h bytes)
part_heard h bytes o e = uncut_heard h bytes Part o e (uncut_by bytes Part (part_head h.stage bytes e))

-- ---- what is left, with more behind it

refused_then : (h : Hearing) (k n : ℕ) (ys : List ℕ) → heard (refused_here h k n) ys ≡ silent (refused_here h k n)
refused_then h k n ys = over_heard (refused_here h k n) ys refl refl

head_then : (h : Hearing) (rest ys : List ℕ) (p : Packet) → h.part ≡ [] → is_over h.stage ≡ false → head_of h.stage rest ≡ p
    → cut_heard h (cut_of (rest ++ ys)) ≡ heard (with_head h rest p) ys
unfolding heard
head_then h rest ys (Whole n) e o p = ap (λ k. cut_heard k (cut_of (rest ++ ys))) (sym (between_is h e))
head_then h rest ys Part e o p = ap (λ k. cut_heard k (cut_of (rest ++ ys))) (sym (between_is h e))
head_then h rest ys NotTpkt e o p = not_heard h (rest ++ ys) o (wrong_version h.stage rest ys p) ∙ sym (refused_then h 1 0 ys)
head_then h rest ys BadLength e o p =
    bad_heard h (rest ++ ys) o (bad_length h.stage rest ys p)
    ∙ ap (λ fast. silent (refused_here h 2 (length_place fast))) (same_kind rest ys (bad_head h.stage rest p))
    ∙ sym (refused_then h 2 (length_place (is_fast rest)) ys)

rest_then_by : (b : Bool) (h : Hearing) (rest ys : List ℕ) → h.part ≡ [] → is_over h.stage ≡ b
    → cut_heard h (cut_of (rest ++ ys)) ≡ heard (cond b h (with_head h rest (head_of h.stage rest))) ys
rest_then_by true h rest ys e o = over_cut h (cut_of (rest ++ ys)) o ∙ sym (over_heard h ys e o)
rest_then_by false h rest ys e o = head_then h rest ys (head_of h.stage rest) e o refl

rest_then : (h : Hearing) (rest ys : List ℕ) → h.part ≡ [] → cut_heard h (cut_of (rest ++ ys)) ≡ heard (with_rest h rest) ys
rest_then h rest ys e = rest_then_by (is_over h.stage) h rest ys e refl

-- ---- two pieces

cut_then : (h : Hearing) (ps : List (List ℕ)) (cut : Cut) → cut_heard h (record { packets = ps ++ cut.packets; rest = cut.rest })
    ≡ then_heard (packets_heard h ps) (cut_heard (packets_heard h ps).after cut)
cut_then h ps cut = ap (λ x. before_rest x cut.rest) (packets_then h ps cut.packets)

pub heard_then : (h : Hearing) (xs ys : List ℕ) → heard h (xs ++ ys) ≡ then_heard (heard h xs) (heard (heard h xs).after ys)
unfolding heard
heard_then h xs ys =
    let start = between h in
    let cut = cut_of (h.part ++ xs) in
    let first = packets_heard start cut.packets in
    ap (λ bytes. cut_heard start (cut_of bytes)) (sym (append_assoc h.part xs ys))
    ∙ ap (cut_heard start) (any.joined stream_packet_at reads_streams (h.part ++ xs) ys)
    ∙ cut_then start cut.packets (cut_of (cut.rest ++ ys))
    ∙ ap (then_heard first) (rest_then first.after cut.rest ys (packets_between start cut.packets refl))

-- ---- any pieces

then_silent : (a : Heard) → then_heard a (silent a.after) ≡ a
then_silent a = ap₂ (λ (replies : List ℕ) (steps : List ConnStep). heard_with replies steps a.after) (append-nil a.replies) (append-nil a.steps)

pub pieces_are_joined : (h : Hearing) (piece : List ℕ) (pieces : List (List ℕ)) → pieces_heard h (piece ∷ pieces) ≡ heard h (flat_map (λ one. one) (piece ∷ pieces))
pieces_are_joined h piece [] = then_silent (heard h piece) ∙ ap (heard h) (sym (append-nil piece))
pieces_are_joined h piece (next ∷ pieces) =
    ap (then_heard (heard h piece)) (pieces_are_joined (heard h piece).after next pieces)
    ∙ sym (heard_then h piece (flat_map (λ one. one) (next ∷ pieces)))
