-- The areas that a stream of bytes tells lie within 65,536 pixels.
use Rattle.std.proofs.Common.{◌≡◌, ℕ, zero, suc, ◌+◌, ◌-◌, ◌*◌, ◌<◌, List, [], ◌∷◌, ◌++◌, length, take, drop, refl, subst, Bool, true, false, cond, arith}
use Rattle.std.proofs.lemmas.List.Elements.{All-nil, All-cons, All-head, All-tail, All-append, All-take, All-drop}
use Rattle.std.proofs.lemmas.Int.{ints}
use Rattle.std.specs.Prelude.{⊤, All, ◌||◌, nat_lt, pos, Option, Some, None, option_to_list, slice_index, Result, Ok, Err}
use Rattle.std.specs.List.{slice_range}
use Rattle.wire_num.specs.Field.{Read, then_read, map_read}
use Rattle.px_core.specs.declared.rectangle.Rect.{Rect}
use Rattle.px_core.specs.Rectangle.{IsPlaced}
use Rattle.wire_num.specs.FieldValue.{passing_at}
use Rattle.wire_num.specs.Layout.{Layout, fields_at}
use Rattle.wire_num.proofs.ReadIsText.{read_is_text}
use Rattle.wire_num.proofs.Place.{text_end}
use Rattle.tpkt_x224.specs.declared.tpkt.Packet.{Packet}
use Rattle.tpkt_x224.specs.declared.tpkt.Packet.TheVariants.{Whole, Part, NotTpkt, BadLength}
use Rattle.fast_path.specs.Heads.{stream_packet_at}
use Rattle.tpkt_x224.specs.Pieces.{Cut, cut_by, cut_with, packets_with}
use Rattle.input_pdu.specs.declared.event.Event.{Event}
use Rattle.share_pdu.specs.Bodies.{rect_between, inclusive_area, area_at, areas_at, refresh_header, refresh_at, areas_by, areas_of}
use Rattle.conn_rules.specs.declared.answer.Answer.{Answer}
use Rattle.conn_rules.specs.declared.answer.News.{News}
use Rattle.conn_rules.specs.declared.answer.News.TheVariants as news
use Rattle.conn_rules.specs.declared.conn_step.ConnStep.{ConnStep}
use Rattle.conn_rules.specs.declared.conn_step.ConnStep.TheVariants as step
use Rattle.conn_rules.specs.declared.refusal.Refusal.{Refusal}
use Rattle.conn_rules.specs.declared.stage.Stage.{Stage}
use Rattle.conn_rules.specs.Answers.{Telling}
use Rattle.conn_rules.specs.Headers.{mcs_headers}
use Rattle.conn_rules.specs.Packets.{packet_judged}
use Rattle.conn_rules.specs.Told.{event_steps, area_steps, news_steps, end_steps, is_ready, told_steps}
use Rattle.conn_rules.specs.Hearing.{Hearing, Heard, silent, is_over, judged_heard, packet_heard, packets_heard, between, head_of, with_head, heard}
use Rattle.conn_rules.specs.Progress.{Progress, progress_of}
use Rattle.conn_rules.specs.Progress.Progress.{Connecting, Ready, Ended}
use Rattle.conn_rules.specs.Placed.{AreBytes, IsStepPlaced, ArePlaced}
use Rattle.conn_rules.proofs.Found.{Finds, Tells, packet_finds}
use Rattle.conn_rules.proofs.Order.{NewsOf, TellingSuits, packet_suits}

abbrev IsByte : ℕ → Type 0
IsByte b = b < 256

-- ---- parts of bytes

end_bytes : (front bytes : List ℕ) → AreBytes (front ++ bytes) → AreBytes bytes
end_bytes [] bytes h = h
end_bytes (b ∷ front) bytes h = end_bytes front bytes (All-tail IsByte b (front ++ bytes) h)

range_bytes : (bytes : List ℕ) (from to : ℕ) → AreBytes bytes → AreBytes (slice_range bytes from to)
range_bytes bytes from to h = All-take IsByte (to - from) (drop from bytes) (All-drop IsByte from bytes h)

-- behind fields
left_bytes : (layout : Layout) (bytes values left : List ℕ) → fields_at layout bytes ≡ Ok (values, left) → AreBytes bytes → AreBytes left
left_bytes layout bytes values left e h =
    let t = text_end layout bytes values left (read_is_text layout bytes values left e) in
    end_bytes t.0 left (subst AreBytes t.1 h)

-- ---- areas

abbrev IsAreaPlaced : Option Rect → Type 0
IsAreaPlaced None = ⊤
IsAreaPlaced (Some area) = IsPlaced area

either_area : (b : Bool) (area : Rect) → IsPlaced area → IsAreaPlaced (cond b None (Some area))
either_area true area p = tt
either_area false area p = p

between_placed : (left top right bottom : ℕ) → left < 65536 → top < 65536 → right < 65536 → bottom < 65536 → IsAreaPlaced (rect_between left top right bottom)
between_placed left top right bottom l t r b = either_area (nat_lt right left || nat_lt bottom top)
    (record { x = pos left; y = pos top; w = right - left + 1; h = bottom - top + 1 })
    (record { left = omega (arith, ints); right = omega (arith, ints, l); above = omega (arith, ints); below = omega (arith, ints, t); wide = omega (arith, r); high = omega (arith, b) })

-- two bytes, the lowest first, and the bytes behind them
word : (a b : ℕ) (rest : List ℕ) → AreBytes (a ∷ b ∷ rest) → (a + 256 * (b + 256 * 0) < 65536) × AreBytes rest
word a b rest h =
    let more = All-tail IsByte a (b ∷ rest) h in
    let low : a < 256 = All-head IsByte a (b ∷ rest) h in
    let high : b < 256 = All-head IsByte b rest more in
    (omega (arith, low, high), All-tail IsByte b rest more)

abbrev ReadsArea : Read (Option Rect) → Type 0
ReadsArea (Ok v) = IsAreaPlaced v.0 × AreBytes v.1
ReadsArea (Err left) = ⊤

area_placed : (bytes : List ℕ) → AreBytes bytes → ReadsArea (area_at bytes)
unfolding area_at inclusive_area passing_at
area_placed [] h = tt
area_placed (a ∷ []) h = tt
area_placed (a ∷ b ∷ []) h = tt
area_placed (a ∷ b ∷ c ∷ []) h = tt
area_placed (a ∷ b ∷ c ∷ d ∷ []) h = tt
area_placed (a ∷ b ∷ c ∷ d ∷ e ∷ []) h = tt
area_placed (a ∷ b ∷ c ∷ d ∷ e ∷ f ∷ []) h = tt
area_placed (a ∷ b ∷ c ∷ d ∷ e ∷ f ∷ g ∷ []) h = tt
area_placed (a ∷ b ∷ c ∷ d ∷ e ∷ f ∷ g ∷ i ∷ rest) h =
    let left = word a b (c ∷ d ∷ e ∷ f ∷ g ∷ i ∷ rest) h in
    let top = word c d (e ∷ f ∷ g ∷ i ∷ rest) left.1 in
    let right = word e f (g ∷ i ∷ rest) top.1 in
    let bottom = word g i rest right.1 in (
      between_placed (a + 256 * (b + 256 * 0)) (c + 256 * (d + 256 * 0)) (e + 256 * (f + 256 * 0)) (g + 256 * (i + 256 * 0)) left.0 top.0 right.0 bottom.0,
      bottom.1,
    )

abbrev ReadsAreas : Read (List Rect) → Type 0
ReadsAreas (Ok v) = All IsPlaced v.0
ReadsAreas (Err left) = ⊤

listed : (area : Option Rect) → IsAreaPlaced area → All IsPlaced (option_to_list area)
listed None p = All-nil IsPlaced
listed (Some area) p = All-cons IsPlaced area [] p (All-nil IsPlaced)

more_areas : (area : Option Rect) (r : Read (List Rect)) → IsAreaPlaced area → ReadsAreas r → ReadsAreas (map_read (λ areas. option_to_list area ++ areas) r)
more_areas area (Ok v) p q = All-append IsPlaced (option_to_list area) v.0 (listed area p) q
more_areas area (Err left) p q = tt

areas_by_one : (r : Read (Option Rect)) (on : List ℕ → Read (List Rect)) → ReadsArea r → ((more : List ℕ) → AreBytes more → ReadsAreas (on more))
    → ReadsAreas (then_read r (λ area more. map_read (λ areas. option_to_list area ++ areas) (on more)))
areas_by_one (Ok v) on p q = more_areas v.0 (on v.1) p.0 (q v.1 p.1)
areas_by_one (Err left) on p q = tt

areas_placed : (n : ℕ) (bytes : List ℕ) → AreBytes bytes → ReadsAreas (areas_at n bytes)
areas_placed zero bytes h = All-nil IsPlaced
areas_placed (suc n) bytes h = areas_by_one (area_at bytes) (areas_at n) (area_placed bytes h) (λ more m. areas_placed n more m)

body_by : (bytes : List ℕ) (r : Read (List ℕ)) → fields_at refresh_header bytes ≡ r → AreBytes bytes → ReadsAreas (then_read r (λ values more. areas_at (slice_index values 0) more))
body_by bytes (Ok v) e h = areas_placed (slice_index v.0 0) v.1 (left_bytes refresh_header bytes v.0 v.1 e h)
body_by bytes (Err left) e h = tt

body_placed : (bytes : List ℕ) → AreBytes bytes → ReadsAreas (refresh_at bytes)
unfolding refresh_at
body_placed bytes h = body_by bytes (fields_at refresh_header bytes) refl h

areas_of_read : (r : Read (List Rect)) → ReadsAreas r → All IsPlaced (areas_by r)
areas_of_read (Ok v) p = p
areas_of_read (Err left) p = All-nil IsPlaced

-- ---- steps

area_steps_placed : (areas : List Rect) → All IsPlaced areas → ArePlaced (area_steps areas)
area_steps_placed [] h = All-nil IsStepPlaced
area_steps_placed (area ∷ areas) h =
    All-cons IsStepPlaced (step.Refresh area) (area_steps areas) (All-head IsPlaced area areas h) (area_steps_placed areas (All-tail IsPlaced area areas h))

events_placed : (events : List Event) → ArePlaced (event_steps events)
events_placed [] = All-nil IsStepPlaced
events_placed (event ∷ events) = All-cons IsStepPlaced (step.Event event) (event_steps events) tt (events_placed events)

found_placed : Finds ArePlaced AreBytes
found_placed = record {
  none = All-nil IsStepPlaced;
  events = events_placed;
  areas = λ body h. area_steps_placed (areas_of body) (areas_of_read (refresh_at body) (body_placed body h));
  part = range_bytes;
  behind = λ packet values left e h. left_bytes mcs_headers packet values left e h;
}

one_placed : (one : ConnStep) → IsStepPlaced one → ArePlaced (one ∷ [])
one_placed one p = All-cons IsStepPlaced one [] p (All-nil IsStepPlaced)

-- what a packet tells at once is no area
at_once_placed : (here after : Progress) (one : ConnStep) → NewsOf here (news.Step one) after → IsStepPlaced one
at_once_placed here after (step.Named name) p = tt
at_once_placed here after (step.Ready confirmed) p = tt
at_once_placed here after (step.Event event) p = tt
at_once_placed Connecting after (step.Refresh area) p = absurd p
at_once_placed Ready after (step.Refresh area) p = absurd p
at_once_placed Ended after (step.Refresh area) p = absurd p
at_once_placed here after (step.Suppress stop) p = tt
at_once_placed here after step.Shutdown p = tt
at_once_placed here after step.Bye p = tt
at_once_placed here after step.Packet p = tt

news_placed : (here after : Progress) (found : List ConnStep) (what : News) → NewsOf here what after → ArePlaced found → ArePlaced (news_steps what found)
news_placed here after found news.Nothing p h = All-nil IsStepPlaced
news_placed here after found (news.Step one) p h = one_placed one (at_once_placed here after one p)
news_placed here after found news.Pdu p h = h

end_placed : (ready : Bool) → ArePlaced (end_steps ready)
end_placed true = one_placed step.Packet tt
end_placed false = All-nil IsStepPlaced

told_placed : (s : Stage) (here after : Progress) (found : List ConnStep) (what : News) → NewsOf here what after → ArePlaced found → ArePlaced (told_steps s what found)
told_placed s here after found what p h =
    All-append IsStepPlaced (news_steps what found) (end_steps (is_ready s)) (news_placed here after found what p h) (end_placed (is_ready s))

-- ---- streams

-- the areas that are heard are placed, and what is left of a packet is bytes
abbrev IsNear : Heard → Type 0
IsNear x = ArePlaced x.steps × AreBytes x.after.part

no_bytes : AreBytes []
no_bytes = All-nil IsByte

judged_near : (h : Hearing) (packet : List ℕ) (j : Result (Telling Answer) Refusal) → TellingSuits (progress_of h.stage) j → Tells ArePlaced j → IsNear (judged_heard h packet j)
judged_near h packet (Ok found) p b = (told_placed h.stage (progress_of h.stage) (progress_of found.what.next) found.told found.what.news p b, no_bytes)
judged_near h packet (Err refusal) p b = (All-nil IsStepPlaced, no_bytes)

packet_by : (b : Bool) (h : Hearing) (packet : List ℕ) → is_over h.stage ≡ b → AreBytes h.part → AreBytes packet
    → IsNear (cond b (silent h) (judged_heard h packet (packet_judged h.stage packet)))
packet_by true h packet o p q = (All-nil IsStepPlaced, p)
packet_by false h packet o p q = judged_near h packet (packet_judged h.stage packet) (packet_suits h.stage packet o) (packet_finds found_placed h.stage packet q)

packets_near : (h : Hearing) (ps : List (List ℕ)) → AreBytes h.part → All AreBytes ps → IsNear (packets_heard h ps)
packets_near h [] p q = (All-nil IsStepPlaced, p)
packets_near h (packet ∷ ps) p q =
    let one = packet_by (is_over h.stage) h packet refl p (All-head AreBytes packet ps q) in
    let others = packets_near (packet_heard h packet).after ps one.1 (All-tail AreBytes packet ps q) in
    (All-append IsStepPlaced (packet_heard h packet).steps (packets_heard (packet_heard h packet).after ps).steps one.0 others.0, others.1)

-- a stream that is cut
abbrev AreCutBytes : Cut → Type 0
AreCutBytes cut = All AreBytes cut.packets × AreBytes cut.rest

cut_by_bytes : (r : Packet) (bytes : List ℕ) (on : List ℕ → Cut) → AreBytes bytes → ((more : List ℕ) → AreBytes more → AreCutBytes (on more)) → AreCutBytes (cut_by r bytes on)
cut_by_bytes (Whole n) bytes on h q =
    let others = q (drop n bytes) (All-drop IsByte n bytes h) in
    (All-cons AreBytes (take n bytes) (on (drop n bytes)).packets (All-take IsByte n bytes h) others.0, others.1)
cut_by_bytes Part bytes on h q = (All-nil AreBytes, h)
cut_by_bytes NotTpkt bytes on h q = (All-nil AreBytes, h)
cut_by_bytes BadLength bytes on h q = (All-nil AreBytes, h)

cut_from_bytes : (n : ℕ) (bytes : List ℕ) → AreBytes bytes → AreCutBytes (cut_with stream_packet_at n bytes)
cut_from_bytes zero bytes h = (All-nil AreBytes, h)
cut_from_bytes (suc n) bytes h = cut_by_bytes (stream_packet_at bytes) bytes (cut_with stream_packet_at n) h (λ more m. cut_from_bytes n more m)

head_bytes : (h : Hearing) (rest : List ℕ) (r : Packet) → AreBytes rest → AreBytes (with_head h rest r).part
head_bytes h rest (Whole n) p = p
head_bytes h rest Part p = p
head_bytes h rest NotTpkt p = no_bytes
head_bytes h rest BadLength p = no_bytes

rest_by : (b : Bool) (h : Hearing) (rest : List ℕ) → AreBytes h.part → AreBytes rest → AreBytes (cond b h (with_head h rest (head_of h.stage rest))).part
rest_by true h rest p q = p
rest_by false h rest p q = head_bytes h rest (head_of h.stage rest) q

pub heard_near : (h : Hearing) (bytes : List ℕ) → AreBytes h.part → AreBytes bytes → IsNear (heard h bytes)
unfolding heard
heard_near h bytes p q =
    let all = All-append IsByte h.part bytes p q in
    let cut = packets_with stream_packet_at (h.part ++ bytes) in
    let cuts = cut_from_bytes (length (h.part ++ bytes)) (h.part ++ bytes) all in
    let x = packets_near (between h) cut.packets no_bytes cuts.0 in
    (x.0, rest_by (is_over (packets_heard (between h) cut.packets).after.stage) (packets_heard (between h) cut.packets).after cut.rest x.1 cuts.1)
