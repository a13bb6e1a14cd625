-- The packets of a stream in any pieces, by any reader of what stands at a head.
use Rattle.std.proofs.Common.{◌≡◌, ℕ, zero, suc, ◌-◌, ◌≤◌, List, [], ◌∷◌, ◌++◌, length, take, drop, refl, ap, sym, ◌∙◌, arith, length-drop, append-nil, append_assoc}
use Rattle.std.specs.Prelude.{flat_map}
use Rattle.std.proofs.lemmas.List.{take-append-le, drop-append-le}
use Rattle.std.proofs.Math.Seq.{take-length, drop-length}
use Rattle.tpkt_x224.specs.declared.tpkt.Packet.{Packet}
use Rattle.tpkt_x224.specs.declared.tpkt.Packet.TheVariants.{Whole, Part, NotTpkt, BadLength}
use Rattle.tpkt_x224.specs.Pieces.{IsHeadReader, Cut, after_packets, cut_by, cut_with, packets_with, pieces_with}

-- nothing was cut off
abbrev pub uncut : List ℕ → Cut
uncut bytes = record { packets = []; rest = bytes }

-- one packet, and nothing behind it
abbrev pub one_packet : List ℕ → Cut
one_packet bytes = record { packets = bytes ∷ []; rest = [] }

module _ (head : List ℕ → Packet) (is : IsHeadReader head) where
  enough_by : (p : Packet) (k j : ℕ) (bytes : List ℕ) → head bytes ≡ p → length bytes ≤ suc k → length bytes ≤ suc j →
      ((bs : List ℕ) → length bs ≤ k → length bs ≤ j → cut_with head k bs ≡ cut_with head j bs) →
      cut_by p bytes (λ after. cut_with head k after) ≡ cut_by p bytes (λ after. cut_with head j after)
  enough_by (Whole n) k j bytes e hk hj on =
      let f = is.bounds bytes n e in
      let left : length (drop n bytes) ≡ length bytes - n = length-drop n bytes in
      ap (after_packets (take n bytes ∷ [])) (on (drop n bytes) (omega (arith, left, f.0, hk)) (omega (arith, left, f.0, hj)))
  enough_by Part k j bytes e hk hj on = refl
  enough_by NotTpkt k j bytes e hk hj on = refl
  enough_by BadLength k j bytes e hk hj on = refl

  cut_none : (k : ℕ) (bytes : List ℕ) → length bytes ≤ 0 → cut_with head k bytes ≡ uncut bytes
  cut_none zero bytes h = refl
  cut_none (suc k) [] h = ap (λ p. cut_by p [] (λ after. cut_with head k after)) is.nothing
  cut_none (suc k) (b ∷ bs) h = absurd (omega (arith, h))

  -- it doesn't matter how often it may be cut, if it is often enough
  pub enough : (k j : ℕ) (bytes : List ℕ) → length bytes ≤ k → length bytes ≤ j → cut_with head k bytes ≡ cut_with head j bytes
  enough zero j bytes hk hj = sym (cut_none j bytes hk)
  enough (suc k) zero bytes hk hj = cut_none (suc k) bytes hj
  enough (suc k) (suc j) bytes hk hj = enough_by (head bytes) k j bytes refl hk hj (enough k j)

  pub once : (bytes : List ℕ) → packets_with head bytes ≡ cut_by (head bytes) bytes (λ after. cut_with head (length bytes) after)
  once bytes = enough (length bytes) (suc (length bytes)) bytes (omega arith) (omega arith)

  pub whole_is_cut : (bytes : List ℕ) (n : ℕ) → head bytes ≡ Whole n → packets_with head bytes ≡ after_packets (take n bytes ∷ []) (packets_with head (drop n bytes))
  whole_is_cut bytes n e =
      once bytes ∙ ap (λ p. cut_by p bytes (λ after. cut_with head (length bytes) after)) e
      ∙ ap (after_packets (take n bytes ∷ [])) (enough (length bytes) (length (drop n bytes)) (drop n bytes) (omega (arith, length-drop n bytes)) (omega arith))

  pub one_cut : (bytes : List ℕ) (n : ℕ) → head bytes ≡ Whole n → n ≡ length bytes → packets_with head bytes ≡ one_packet bytes
  one_cut bytes n p e =
      whole_is_cut bytes n p
      ∙ ap (λ first. after_packets (first ∷ []) (packets_with head (drop n bytes))) (ap (λ k. take k bytes) e ∙ take-length bytes)
      ∙ ap (λ left. after_packets (bytes ∷ []) (packets_with head left)) (ap (λ k. drop k bytes) e ∙ drop-length bytes)

  join_by : (p : Packet) (k : ℕ) (xs ys : List ℕ) → head xs ≡ p → length xs ≤ suc k →
      ((bs : List ℕ) → length bs ≤ k → packets_with head (bs ++ ys) ≡ after_packets (cut_with head k bs).packets (packets_with head ((cut_with head k bs).rest ++ ys))) →
      packets_with head (xs ++ ys) ≡ after_packets (cut_by p xs (λ after. cut_with head k after)).packets (packets_with head ((cut_by p xs (λ after. cut_with head k after)).rest ++ ys))
  join_by (Whole n) k xs ys e h on =
      let f = is.bounds xs n e in
      whole_is_cut (xs ++ ys) n (is.front xs ys n e)
      ∙ ap (λ first. after_packets (first ∷ []) (packets_with head (drop n (xs ++ ys)))) (take-append-le n xs ys f.1)
      ∙ ap (λ left. after_packets (take n xs ∷ []) (packets_with head left)) (drop-append-le n xs ys f.1)
      ∙ ap (after_packets (take n xs ∷ [])) (on (drop n xs) (omega (arith, length-drop n xs, f.0, h)))
  join_by Part k xs ys e h on = refl
  join_by NotTpkt k xs ys e h on = refl
  join_by BadLength k xs ys e h on = refl

  join_from : (k : ℕ) (xs ys : List ℕ) → length xs ≤ k → packets_with head (xs ++ ys) ≡ after_packets (cut_with head k xs).packets (packets_with head ((cut_with head k xs).rest ++ ys))
  join_from zero xs ys h = refl
  join_from (suc k) xs ys h = join_by (head xs) k xs ys refl h (λ bs below. join_from k bs ys below)

  -- two pieces
  pub joined : (xs ys : List ℕ) → packets_with head (xs ++ ys) ≡ after_packets (packets_with head xs).packets (packets_with head ((packets_with head xs).rest ++ ys))
  joined xs ys = join_from (length xs) xs ys (omega arith)

  rest_by : (p : Packet) (k : ℕ) (bytes : List ℕ) → head bytes ≡ p → length bytes ≤ suc k →
      ((bs : List ℕ) → length bs ≤ k → packets_with head (cut_with head k bs).rest ≡ uncut (cut_with head k bs).rest) →
      packets_with head (cut_by p bytes (λ after. cut_with head k after)).rest ≡ uncut (cut_by p bytes (λ after. cut_with head k after)).rest
  rest_by (Whole n) k bytes e h on =
      let f = is.bounds bytes n e in
      on (drop n bytes) (omega (arith, length-drop n bytes, f.0, h))
  rest_by Part k bytes e h on = once bytes ∙ ap (λ p. cut_by p bytes (λ after. cut_with head (length bytes) after)) e
  rest_by NotTpkt k bytes e h on = once bytes ∙ ap (λ p. cut_by p bytes (λ after. cut_with head (length bytes) after)) e
  rest_by BadLength k bytes e h on = once bytes ∙ ap (λ p. cut_by p bytes (λ after. cut_with head (length bytes) after)) e

  rest_from : (k : ℕ) (bytes : List ℕ) → length bytes ≤ k → packets_with head (cut_with head k bytes).rest ≡ uncut (cut_with head k bytes).rest
  rest_from zero bytes h = cut_none (length bytes) bytes h
  rest_from (suc k) bytes h = rest_by (head bytes) k bytes refl h (rest_from k)

  -- nothing can be cut off what is left
  pub rest_is_uncut : (bytes : List ℕ) → packets_with head (packets_with head bytes).rest ≡ uncut (packets_with head bytes).rest
  rest_is_uncut bytes = rest_from (length bytes) bytes (omega arith)

  -- any pieces, behind what is left of earlier ones
  pub pieces_joined : (left : List ℕ) (pieces : List (List ℕ)) → packets_with head left ≡ uncut left → pieces_with head left pieces ≡ packets_with head (left ++ flat_map (λ piece. piece) pieces)
  pieces_joined left [] e = sym e ∙ ap (packets_with head) (sym (append-nil left))
  pieces_joined left (piece ∷ pieces) e =
      let cut = packets_with head (left ++ piece) in
      ap (after_packets cut.packets) (pieces_joined cut.rest pieces (rest_is_uncut (left ++ piece)))
      ∙ sym (joined (left ++ piece) (flat_map (λ piece. piece) pieces))
      ∙ ap (packets_with head) (append_assoc left piece (flat_map (λ piece. piece) pieces))
