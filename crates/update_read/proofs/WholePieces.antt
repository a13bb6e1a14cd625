-- The whole packet with which bytes begin is one packet, and one piece.
use Rattle.std.proofs.Common.{◌≡◌, ◌≤◌, ◌<◌, ◌+◌, ◌*◌, ◌-◌, inl, inr, ℕ, zero, suc, Bool, true, false, List, [], ◌∷◌, ◌++◌, length, take, append-nil, refl, ap, sym, subst, ◌∙◌, arith}
use Rattle.std.specs.Prelude.{nat_le, nat_lt, slice_index, ◌&&◌, ◌==◌, if◌then◌else◌, Option, Some, None, flat_map}
use Rattle.std.proofs.lemmas.Bool.Decides.{nat_tests}
use Rattle.std.proofs.lemmas.Bool.{and_parts}
use Rattle.std.proofs.lemmas.List.{length-take-le}
use Rattle.tpkt_x224.specs.declared.tpkt.Packet.{Packet}
use Rattle.tpkt_x224.specs.declared.tpkt.Packet.TheVariants.{Whole, Part, NotTpkt, BadLength}
use Rattle.tpkt_x224.specs.Tpkt.{IsPacket, packet_at}
use Rattle.tpkt_x224.proofs.Heads.{whole_head, whole_bounds}
use Rattle.order_means.specs.Updates.{turned}
use Rattle.order_means.specs.Packets.{Pieces, pieces, before_pieces, pieces_from, piece_begun, piece_begun_if, kept_piece}
use Rattle.order_means.specs.Packets.PacketStage.{Between, Inside, FastLong}
use Rattle.update_read.specs.Cutters.{fast_length, length_by}
use Rattle.update_read.specs.Wholes.{size_if_there, counted_size, fast_size, whole_size_by, whole_size, IsCounted, IsFastWhole, IsWholePacket}
use Rattle.update_read.specs.Sieves.{Sieves}

-- ---- no more than are there

size_is : (b : Bool) (head size count n : ℕ) → (nat_le head size && nat_le size count) ≡ b → (if b then size else 0) ≡ n → 0 < n → (size ≡ n) × (head ≤ n) × (n ≤ count)
size_is true head size count n t e some =
    let both = and_parts (nat_le head size) (nat_le size count) t in
    let low = both.0 in
    let high = both.1 in
    (e, grind (arith, nat_tests, low, e), grind (arith, nat_tests, high, e))
size_is false head size count n t e some = absurd (omega (arith, e, some))

there : (head size count n : ℕ) → size_if_there head size count ≡ n → 0 < n → (size ≡ n) × (head ≤ n) × (n ≤ count)
there head size count n e some = size_is (nat_le head size && nat_le size count) head size count n refl e some

size_room : (head size count : ℕ) → size_if_there head size count ≤ count
size_room head size count = by (size_if_there head size count) refl
  where
    by : (n : ℕ) → size_if_there head size count ≡ n → n ≤ count
    by zero e = omega arith
    by (suc n) e = (there head size count (suc n) e (omega arith)).2

counted_room : (o : Option (ℕ × ℕ)) (count : ℕ) → counted_size o count ≤ count
counted_room None count = omega arith
counted_room (Some m) count = size_room m.0 m.1 count

fast_room : (bytes : List ℕ) → fast_size bytes ≤ length bytes
fast_room [] = omega arith
fast_room (b ∷ bs) = by (b == 0)
  where
    by : (t : Bool) → (if t then counted_size (fast_length (b ∷ bs)) (length (b ∷ bs)) else 0) ≤ length (b ∷ bs)
    by true = counted_room (fast_length (b ∷ bs)) (length (b ∷ bs))
    by false = omega arith

room_by : (p : Packet) (bytes : List ℕ) → packet_at bytes ≡ p → whole_size_by p bytes ≤ length bytes
room_by (Whole n) bytes e = (whole_bounds bytes n e).1
room_by Part bytes e = omega arith
room_by NotTpkt bytes e = fast_room bytes
room_by BadLength bytes e = omega arith

pub size_most : (bytes : List ℕ) → whole_size bytes ≤ length bytes
size_most bytes = room_by (packet_at bytes) bytes refl

-- ---- one packet

fast_there_by : (t : Bool) (h n : ℕ) (bs : List ℕ) → nat_lt h 128 ≡ t → counted_size (length_by t h bs) (length (0 ∷ h ∷ bs)) ≡ n → 0 < n → IsFastWhole (take n (0 ∷ h ∷ bs))
fast_there_by true h n bs t e some =
    let is = there 2 h (length (0 ∷ h ∷ bs)) n e some in
    let same = is.0 in
    let low = is.1 in
    let most = is.2 in
    let two : n ≡ suc (suc (n - 2)) = omega (arith, low) in
    let size : length (take (n - 2) bs) ≡ n - 2 = length-take-le (n - 2) bs (omega (arith, most)) in
    let counted : (2 ≤ h) × (h ≡ length (0 ∷ h ∷ take (n - 2) bs)) = (omega (arith, same, low), omega (arith, size, same, low)) in
    subst (λ (k : ℕ). IsFastWhole (take k (0 ∷ h ∷ bs))) (sym two)
    (refl, subst (λ c. IsCounted (length_by c h (take (n - 2) bs)) (length (0 ∷ h ∷ take (n - 2) bs))) (sym t) counted)
fast_there_by false h n [] t e some = absurd (omega (arith, e, some))
fast_there_by false h n (l ∷ bs) t e some =
    let is = there 3 (256 * (h - 128) + l) (length (0 ∷ h ∷ l ∷ bs)) n e some in
    let same = is.0 in
    let low = is.1 in
    let most = is.2 in
    let three : n ≡ suc (suc (suc (n - 3))) = omega (arith, low) in
    let size : length (take (n - 3) bs) ≡ n - 3 = length-take-le (n - 3) bs (omega (arith, most)) in
    let counted : (3 ≤ 256 * (h - 128) + l) × (256 * (h - 128) + l ≡ length (0 ∷ h ∷ l ∷ take (n - 3) bs)) = (omega (arith, same, low), omega (arith, size, same, low)) in
    subst (λ (k : ℕ). IsFastWhole (take k (0 ∷ h ∷ l ∷ bs))) (sym three)
    (refl, subst (λ c. IsCounted (length_by c h (l ∷ take (n - 3) bs)) (length (0 ∷ h ∷ l ∷ take (n - 3) bs))) (sym t) counted)

fast_there : (bytes : List ℕ) (n : ℕ) → fast_size bytes ≡ n → 0 < n → IsFastWhole (take n bytes)
fast_there [] n e some = absurd (omega (arith, e, some))
fast_there (zero ∷ []) n e some = absurd (omega (arith, e, some))
fast_there (zero ∷ h ∷ bs) n e some = fast_there_by (nat_lt h 128) h n bs refl e some
fast_there (suc b ∷ bs) n e some =
    let other : (suc b == 0) ≡ false = grind (arith, nat_tests) in
    let none : 0 ≡ n = ap (λ t. if t then counted_size (fast_length (suc b ∷ bs)) (length (suc b ∷ bs)) else 0) (sym other) ∙ e in
    absurd (omega (arith, none, some))

packet_there : (p : Packet) (bytes : List ℕ) (n : ℕ) → packet_at bytes ≡ p → whole_size_by p bytes ≡ n → 0 < n → IsWholePacket (take n bytes)
packet_there (Whole m) bytes n at e some = inl (subst (λ (k : ℕ). IsPacket (take k bytes)) e ((whole_head bytes m).0 at).1)
packet_there Part bytes n at e some = absurd (omega (arith, e, some))
packet_there NotTpkt bytes n at e some = inr (fast_there bytes n e some)
packet_there BadLength bytes n at e some = absurd (omega (arith, e, some))

pub whole_there : (bytes : List ℕ) (n : ℕ) → n ≡ whole_size bytes → 0 < n → IsWholePacket (take n bytes)
whole_there bytes n e some = packet_there (packet_at bytes) bytes n refl (sym e) some

pub first_stays : (n : ℕ) (bytes : List ℕ) → 0 < n → slice_index (take n bytes) 0 ≡ slice_index bytes 0
first_stays zero bytes some = absurd (omega (arith, some))
first_stays (suc n) [] some = refl
first_stays (suc n) (b ∷ bs) some = refl

-- ---- one piece

abbrev IsPiece : List ℕ → Type 0
IsPiece packet = pieces_from Between packet ≡ pieces (packet ∷ []) Between

inside_whole : (n : ℕ) (held : List ℕ) (b : ℕ) (bs : List ℕ) → length bs ≡ n → pieces_from (Inside n held) (b ∷ bs) ≡ pieces (turned held (b ∷ bs) ∷ []) Between
inside_whole zero held b [] e = refl
inside_whole zero held b (c ∷ bs) e = absurd (omega (arith, e))
inside_whole (suc n) held b [] e = absurd (omega (arith, e))
inside_whole (suc n) held b (c ∷ bs) e = inside_whole n (b ∷ held) c bs (omega (arith, e))

abbrev further : Pieces → List ℕ → Pieces
further p bs = before_pieces p.pieces (pieces_from p.next bs)

-- behind a header
begun_whole : (n : ℕ) (held bs : List ℕ) → length bs ≡ n → further (piece_begun n held) bs ≡ pieces (turned held bs ∷ []) Between
begun_whole zero held [] e = refl
begun_whole zero held (b ∷ bs) e = absurd (omega (arith, e))
begun_whole (suc n) held [] e = absurd (omega (arith, e))
begun_whole (suc n) held (b ∷ bs) e = inside_whole n held b bs (omega (arith, e))

counted_whole : (n least k : ℕ) (held bs : List ℕ) → least ≤ n → k ≡ length bs → further (piece_begun_if (nat_le least n) k held) bs ≡ pieces (turned held bs ∷ []) Between
counted_whole n least k held bs enough size =
    let test : nat_le least n ≡ true = grind (arith, nat_tests, enough) in
    ap (λ t. further (piece_begun_if t k held) bs) test ∙ begun_whole k held bs (sym size)

-- with a header of four bytes
slow_whole : (packet : List ℕ) → IsPacket packet → IsPiece packet
slow_whole (v ∷ r ∷ h ∷ l ∷ carried) is =
    let total = is.1 in
    let enough = is.2 in
    subst (λ (w : ℕ). IsPiece (w ∷ r ∷ h ∷ l ∷ carried)) (sym is.0)
    (counted_whole (256 * h + l) 7 ((256 * h + l) - 4) (l ∷ h ∷ r ∷ 3 ∷ []) carried (omega (arith, total, enough)) (omega (arith, total)))
slow_whole (v ∷ r ∷ h ∷ []) is = absurd is
slow_whole (v ∷ r ∷ []) is = absurd is
slow_whole (v ∷ []) is = absurd is
slow_whole [] is = absurd is

-- of the fast path, with a length of one byte
short_whole : (l : ℕ) (bs : List ℕ) → nat_lt l 128 ≡ true → l ≡ 2 + length bs → IsPiece (0 ∷ l ∷ bs)
short_whole l bs t size =
    ap (λ c. further (if c then piece_begun_if (nat_le 2 l) (l - 2) (l ∷ 0 ∷ []) else pieces [] (FastLong l)) bs) t
    ∙ counted_whole l 2 (l - 2) (l ∷ 0 ∷ []) bs (omega (arith, size)) (omega (arith, size))

-- of two
long_whole : (high l : ℕ) (bs : List ℕ) → nat_lt high 128 ≡ false → 256 * (high - 128) + l ≡ 3 + length bs → IsPiece (0 ∷ high ∷ l ∷ bs)
long_whole high l bs t size =
    ap (λ c. further (if c then piece_begun_if (nat_le 2 high) (high - 2) (high ∷ 0 ∷ []) else pieces [] (FastLong high)) (l ∷ bs)) t
    ∙ counted_whole (256 * (high - 128) + l) 3 ((256 * (high - 128) + l) - 3) (l ∷ high ∷ 0 ∷ []) bs (omega (arith, size)) (omega (arith, size))

fast_by : (t : Bool) (high n : ℕ) (bs : List ℕ) → nat_lt high 128 ≡ t → counted_size (length_by t high bs) (length (0 ∷ high ∷ bs)) ≡ n → 0 < n → IsPiece (take n (0 ∷ high ∷ bs))
fast_by true high n bs t e some =
    let is = there 2 high (length (0 ∷ high ∷ bs)) n e some in
    let same = is.0 in
    let low = is.1 in
    let most = is.2 in
    let two : n ≡ suc (suc (n - 2)) = omega (arith, low) in
    let size : length (take (n - 2) bs) ≡ n - 2 = length-take-le (n - 2) bs (omega (arith, most)) in
    subst (λ (k : ℕ). IsPiece (take k (0 ∷ high ∷ bs))) (sym two) (short_whole high (take (n - 2) bs) t (omega (arith, same, size, low)))
fast_by false high n [] t e some = absurd (omega (arith, e, some))
fast_by false high n (l ∷ bs) t e some =
    let is = there 3 (256 * (high - 128) + l) (length (0 ∷ high ∷ l ∷ bs)) n e some in
    let same = is.0 in
    let low = is.1 in
    let most = is.2 in
    let three : n ≡ suc (suc (suc (n - 3))) = omega (arith, low) in
    let size : length (take (n - 3) bs) ≡ n - 3 = length-take-le (n - 3) bs (omega (arith, most)) in
    subst (λ (k : ℕ). IsPiece (take k (0 ∷ high ∷ l ∷ bs))) (sym three) (long_whole high l (take (n - 3) bs) t (omega (arith, same, size, low)))

fast_whole : (bytes : List ℕ) (n : ℕ) → fast_size bytes ≡ n → 0 < n → IsPiece (take n bytes)
fast_whole [] n e some = absurd (omega (arith, e, some))
fast_whole (zero ∷ []) n e some = absurd (omega (arith, e, some))
fast_whole (zero ∷ high ∷ bs) n e some = fast_by (nat_lt high 128) high n bs refl e some
fast_whole (suc b ∷ bs) n e some =
    let other : (suc b == 0) ≡ false = grind (arith, nat_tests) in
    let none : 0 ≡ n = ap (λ t. if t then counted_size (fast_length (suc b ∷ bs)) (length (suc b ∷ bs)) else 0) (sym other) ∙ e in
    absurd (omega (arith, none, some))

whole_by : (p : Packet) (bytes : List ℕ) (n : ℕ) → packet_at bytes ≡ p → whole_size_by p bytes ≡ n → 0 < n → IsPiece (take n bytes)
whole_by (Whole m) bytes n at e some = subst (λ (k : ℕ). IsPiece (take k bytes)) e (slow_whole (take m bytes) ((whole_head bytes m).0 at).1)
whole_by Part bytes n at e some = absurd (omega (arith, e, some))
whole_by NotTpkt bytes n at e some = fast_whole bytes n e some
whole_by BadLength bytes n at e some = absurd (omega (arith, e, some))

-- ---- through a sieve

-- a whole packet at the front went through, where none was held
pub whole_passed : (bytes before after : List ℕ) (n : ℕ) → n ≡ whole_size bytes → 0 < n → after ≡ before ++ kept_piece (take n bytes) → Sieves (take n bytes) Between Between before after
whole_passed bytes before after n size some is =
    let piece : IsPiece (take n bytes) = whole_by (packet_at bytes) bytes n refl (sym size) some in
    record {
      handed = is ∙ ap (λ (bs : List ℕ). before ++ bs) (sym (append-nil (kept_piece (take n bytes)))) ∙ ap (λ (p : Pieces). before ++ flat_map kept_piece p.pieces) (sym piece);
      stage = ap (λ (p : Pieces). p.next) (sym piece);
    }

-- none did
pub none_passed : (bytes before : List ℕ) (n : ℕ) → n ≡ 0 → Sieves (take n bytes) Between Between before before
none_passed bytes before n none = rw none (record { handed = sym (append-nil before); stage = refl })
