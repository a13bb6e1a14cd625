-- A stream is its packets and what is left of it, and is so in one way: by any reader that sees a whole packet exactly where one stands.
use Rattle.std.proofs.Common.{◌≡◌, ℕ, zero, suc, ◌≤◌, List, [], ◌∷◌, ◌++◌, length, take, drop, refl, ap, sym, ◌∙◌, arith, length-append, append_assoc, subst}
use Rattle.std.specs.Prelude.{flat_map}
use Rattle.std.specs.List.{AllByRecursion}
use Rattle.std.proofs.lemmas.List.{take-append-drop, length-take-le}
use Rattle.std.proofs.Math.Seq.{take-append_seam, drop-append_seam}
use Rattle.tpkt_x224.specs.declared.tpkt.Packet.{Packet}
use Rattle.tpkt_x224.specs.declared.tpkt.Packet.TheVariants.{Whole, Part, NotTpkt, BadLength}
use Rattle.tpkt_x224.specs.Pieces.{StartsWith, IsStreamBy, IsHeadReader, SeesWhole, Cut, after_packets, cut_by, cut_with, packets_with}
use Rattle.tpkt_x224.proofs.AnyCutting.{uncut, once, whole_is_cut, rest_is_uncut}

-- the packet at the head, with its length, and what is behind it
abbrev pub HasHead : (List ℕ → Type 0) → List ℕ → ℕ → Type 0
HasHead Is bytes n = (packet : List ℕ) × (more : List ℕ) × Is packet × (length packet ≡ n) × (bytes ≡ packet ++ more)

module _ (head : List ℕ → Packet) (Is : List ℕ → Type 0) (is : IsHeadReader head) (sees : SeesWhole head Is) where
  -- ---- whole packets at the head

  -- what stands at the head, as joined bytes
  pub starts : (bytes : List ℕ) (n : ℕ) → head bytes ≡ Whole n → StartsWith Is bytes
  starts bytes n e = (take n bytes, drop n bytes, ((sees bytes n).0 e).1, sym (take-append-drop n bytes))

  pub started : (packet more : List ℕ) → Is packet → head (packet ++ more) ≡ Whole (length packet)
  started packet more p =
      let n = length packet in
      let fits : n ≤ length (packet ++ more) = omega (arith, length-append packet more) in
      (sees (packet ++ more) n).1 (fits, subst Is (sym (take-append_seam packet more)) p)

  pub head_is : (bytes : List ℕ) (n : ℕ) → head bytes ≡ Whole n → HasHead Is bytes n
  head_is bytes n e =
      let w = (sees bytes n).0 e in
      (take n bytes, drop n bytes, w.1, length-take-le n bytes w.0, sym (take-append-drop n bytes))

  pub head_again : (bytes : List ℕ) (n : ℕ) → HasHead Is bytes n → head bytes ≡ Whole n
  head_again bytes n h = ap head h.4 ∙ started h.0 h.1 h.2 ∙ ap Whole h.3

  starts_whole : (bytes : List ℕ) (s : StartsWith Is bytes) → head bytes ≡ Whole (length s.0)
  starts_whole bytes s = ap head s.3 ∙ started s.0 s.1 s.2

  -- ---- joined

  joined_by : (p : Packet) (k : ℕ) (bytes : List ℕ) → ((bs : List ℕ) → flat_map (λ packet. packet) (cut_with head k bs).packets ++ (cut_with head k bs).rest ≡ bs)
      → flat_map (λ packet. packet) (cut_by p bytes (λ after. cut_with head k after)).packets ++ (cut_by p bytes (λ after. cut_with head k after)).rest ≡ bytes
  joined_by (Whole n) k bytes on =
      let cut = cut_with head k (drop n bytes) in
      append_assoc (take n bytes) (flat_map (λ packet. packet) cut.packets) cut.rest
      ∙ ap (λ xs. take n bytes ++ xs) (on (drop n bytes))
      ∙ take-append-drop n bytes
  joined_by Part k bytes on = refl
  joined_by NotTpkt k bytes on = refl
  joined_by BadLength k bytes on = refl

  joined_from : (k : ℕ) (bytes : List ℕ) → flat_map (λ packet. packet) (cut_with head k bytes).packets ++ (cut_with head k bytes).rest ≡ bytes
  joined_from zero bytes = refl
  joined_from (suc k) bytes = joined_by (head bytes) k bytes (joined_from k)

  pub stream_joined : (bytes : List ℕ) → flat_map (λ packet. packet) (packets_with head bytes).packets ++ (packets_with head bytes).rest ≡ bytes
  stream_joined bytes = joined_from (length bytes) bytes

  -- ---- each a packet

  each_by : (p : Packet) (k : ℕ) (bytes : List ℕ) → head bytes ≡ p → ((bs : List ℕ) → AllByRecursion Is (cut_with head k bs).packets)
      → AllByRecursion Is (cut_by p bytes (λ after. cut_with head k after)).packets
  each_by (Whole n) k bytes e on = (((sees bytes n).0 e).1, on (drop n bytes))
  each_by Part k bytes e on = tt
  each_by NotTpkt k bytes e on = tt
  each_by BadLength k bytes e on = tt

  each_from : (k : ℕ) (bytes : List ℕ) → AllByRecursion Is (cut_with head k bytes).packets
  each_from zero bytes = tt
  each_from (suc k) bytes = each_by (head bytes) k bytes refl (each_from k)

  pub each_packet : (bytes : List ℕ) → AllByRecursion Is (packets_with head bytes).packets
  each_packet bytes = each_from (length bytes) bytes

  -- ---- the rest

  -- where nothing can be cut off, no whole packet is at the head
  uncut_starts : (bytes : List ℕ) → packets_with head bytes ≡ uncut bytes → StartsWith Is bytes → ⊥
  uncut_starts bytes e s =
      let cut : packets_with head bytes ≡ after_packets (take (length s.0) bytes ∷ []) (packets_with head (drop (length s.0) bytes)) =
      whole_is_cut head is bytes (length s.0) (starts_whole bytes s) in
      let both : take (length s.0) bytes ∷ (packets_with head (drop (length s.0) bytes)).packets ≡ [] = ap (λ c. c.packets) (sym cut ∙ e) in
      let h : ⊥ = cc in h

  pub none_left : (bytes : List ℕ) → StartsWith Is (packets_with head bytes).rest → ⊥
  none_left bytes s = uncut_starts (packets_with head bytes).rest (rest_is_uncut head is bytes) s

  -- ---- no other packets and rest

  uncut_by : (p : Packet) (k : ℕ) (bytes : List ℕ) → head bytes ≡ p → (StartsWith Is bytes → ⊥) → cut_by p bytes (λ after. cut_with head k after) ≡ uncut bytes
  uncut_by (Whole n) k bytes e whole = absurd (whole (starts bytes n e))
  uncut_by Part k bytes e whole = refl
  uncut_by NotTpkt k bytes e whole = refl
  uncut_by BadLength k bytes e whole = refl

  uncut_alone : (bytes : List ℕ) → (StartsWith Is bytes → ⊥) → packets_with head bytes ≡ uncut bytes
  uncut_alone bytes whole = once head is bytes ∙ uncut_by (head bytes) (length bytes) bytes refl whole

  only_so : (packets : List (List ℕ)) (rest : List ℕ) → AllByRecursion Is packets → (StartsWith Is rest → ⊥)
      → packets_with head (flat_map (λ packet. packet) packets ++ rest) ≡ record { packets = packets; rest = rest }
  only_so [] rest each whole = uncut_alone rest whole
  only_so (packet ∷ packets) rest each whole =
      let more : List ℕ = flat_map (λ one. one) packets ++ rest in
      ap (packets_with head) (append_assoc packet (flat_map (λ one. one) packets) rest)
      ∙ whole_is_cut head is (packet ++ more) (length packet) (started packet more each.0)
      ∙ ap (λ first. after_packets (first ∷ []) (packets_with head (drop (length packet) (packet ++ more)))) (take-append_seam packet more)
      ∙ ap (λ left. after_packets (packet ∷ []) (packets_with head left)) (drop-append_seam packet more)
      ∙ ap (after_packets (packet ∷ [])) (only_so packets rest each.1 whole)

  is_stream : (bytes : List ℕ) → IsStreamBy Is bytes (packets_with head bytes).packets (packets_with head bytes).rest
  is_stream bytes = record { joined = stream_joined bytes; each = each_packet bytes; left = none_left bytes }

  abbrev StreamBy : List ℕ → Cut → Type 0
  StreamBy bytes cut = IsStreamBy Is bytes cut.packets cut.rest

  pub cut_is_stream : (bytes : List ℕ) (packets : List (List ℕ)) (rest : List ℕ) → packets_with head bytes ≡ record { packets = packets; rest = rest }
      → IsStreamBy Is bytes packets rest
  cut_is_stream bytes packets rest e = subst (StreamBy bytes) e (is_stream bytes)

  pub stream_is_cut : (bytes : List ℕ) (packets : List (List ℕ)) (rest : List ℕ) → IsStreamBy Is bytes packets rest
      → packets_with head bytes ≡ record { packets = packets; rest = rest }
  stream_is_cut bytes packets rest s = ap (packets_with head) (sym s.joined) ∙ only_so packets rest s.each s.left
