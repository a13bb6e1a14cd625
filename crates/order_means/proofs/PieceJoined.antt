-- The pieces of bytes, wherever these are cut, and joined again.
use Rattle.std.proofs.Common.{◌≡◌, ℕ, zero, suc, ◌+◌, ◌-◌, ◌*◌, Bool, true, false, List, [], ◌∷◌, ◌++◌, refl, ap, sym, ◌∙◌, arith, append_assoc}
use Rattle.std.specs.Prelude.{nat_lt, nat_le, ◌==◌, flat_map, if◌then◌else◌}
use Rattle.std.proofs.lemmas.Bool.Decides.{nat_tests}
use Rattle.std.proofs.lemmas.List.{append-nil}
use Rattle.std.proofs.lemmas.Grind.{flat_map-append}
use Rattle.px_core.specs.Picture.{turned}
use Rattle.order_means.specs.Packets.{PacketStage, Pieces, pieces, before_pieces, held_in, first_piece, piece_begun, piece_begun_if, head_piece, pieces_by, pieces_from, pieces_in}
use Rattle.order_means.specs.Packets.PacketStage.{Between, Head, FastHead, FastLong, Inside, Passing}

before_both : (a b : List (List ℕ)) (p : Pieces) → before_pieces a (before_pieces b p) ≡ before_pieces (a ++ b) p
before_both a b p = ap (λ xs. pieces xs p.next) (sym (append_assoc a b p.pieces))

-- the pieces of two parts are those of the first and then those of the second
pub pieces_joined : (s : PacketStage) (xs ys : List ℕ) → pieces_from s (xs ++ ys) ≡ before_pieces (pieces_from s xs).pieces (pieces_from (pieces_from s xs).next ys)
pieces_joined s [] ys = refl
pieces_joined s (x ∷ xs) ys =
    let first = pieces_by s x in
    let more = pieces_from first.next xs in
    ap (before_pieces first.pieces) (pieces_joined first.next xs ys) ∙ before_both first.pieces more.pieces (pieces_from more.next ys)

-- ---- joined

-- pieces, and what is held behind them
abbrev pub all_of : Pieces → List ℕ
all_of p = flat_map (λ piece. piece) p.pieces ++ held_in p.next

pub turned_before : (xs ys : List ℕ) → turned xs ys ≡ turned xs [] ++ ys
turned_before [] ys = refl
turned_before (x ∷ xs) ys = turned_before xs (x ∷ ys) ∙ sym (append_assoc (turned xs []) (x ∷ []) ys) ∙ ap (λ zs. zs ++ ys) (sym (turned_before xs (x ∷ [])))

-- one piece, behind which nothing is held
alone : (piece : List ℕ) → (piece ++ []) ++ [] ≡ piece
alone piece = append-nil (piece ++ []) ∙ append-nil piece

begun_keeps : (n : ℕ) (held : List ℕ) → all_of (piece_begun n held) ≡ turned held []
begun_keeps zero held = alone (turned held [])
begun_keeps (suc n) held = refl

begun_if_keeps : (t : Bool) (n : ℕ) (held : List ℕ) → all_of (piece_begun_if t n held) ≡ turned held []
begun_if_keeps true n held = begun_keeps n held
begun_if_keeps false n held = alone (turned held [])

head_keeps : (held : List ℕ) (b : ℕ) → all_of (head_piece held b) ≡ turned (b ∷ held) []
head_keeps [] b = refl
head_keeps (x ∷ []) b = refl
head_keeps (x ∷ y ∷ []) b = refl
head_keeps (high ∷ second ∷ version ∷ []) b = begun_if_keeps (nat_le 7 (256 * high + b)) ((256 * high + b) - 4) (b ∷ high ∷ second ∷ version ∷ [])
head_keeps (x ∷ y ∷ z ∷ w ∷ held) b = refl

first_keeps : (b : ℕ) → all_of (first_piece b) ≡ b ∷ []
first_keeps b = by (b == 3) refl (b == 0) refl
  where
    by : (t : Bool) → (b == 3) ≡ t → (z : Bool) → (b == 0) ≡ z → all_of (if t then pieces [] (Head (3 ∷ [])) else (if z then pieces [] FastHead else pieces ((b ∷ []) ∷ []) Passing)) ≡ b ∷ []
    by true e z f = let same : b ≡ 3 = grind (arith, nat_tests, e) in ap (λ n. n ∷ []) (sym same)
    by false e true f = let same : b ≡ 0 = grind (arith, nat_tests, f) in ap (λ n. n ∷ []) (sym same)
    by false e false f = refl

fast_keeps : (b : ℕ) (t : Bool) → all_of (if t then piece_begun_if (nat_le 2 b) (b - 2) (b ∷ 0 ∷ []) else pieces [] (FastLong b)) ≡ 0 ∷ b ∷ []
fast_keeps b true = begun_if_keeps (nat_le 2 b) (b - 2) (b ∷ 0 ∷ [])
fast_keeps b false = refl

byte_keeps : (s : PacketStage) (b : ℕ) → all_of (pieces_by s b) ≡ held_in s ++ b ∷ []
byte_keeps Between b = first_keeps b
byte_keeps (Head held) b = head_keeps held b ∙ turned_before held (b ∷ [])
byte_keeps FastHead b = fast_keeps b (nat_lt b 128)
byte_keeps (FastLong high) b = begun_if_keeps (nat_le 3 (256 * (high - 128) + b)) ((256 * (high - 128) + b) - 3) (b ∷ high ∷ 0 ∷ [])
byte_keeps (Inside zero held) b = alone (turned held (b ∷ [])) ∙ turned_before held (b ∷ [])
byte_keeps (Inside (suc n) held) b = turned_before held (b ∷ [])
byte_keeps Passing b = refl

-- from any stage
pub joined_from : (s : PacketStage) (bytes : List ℕ) → all_of (pieces_from s bytes) ≡ held_in s ++ bytes
joined_from s [] = sym (append-nil (held_in s))
joined_from s (b ∷ bs) =
    let first = pieces_by s b in
    let more = pieces_from first.next bs in
    ap (λ xs. xs ++ held_in more.next) (flat_map-append (λ piece. piece) first.pieces more.pieces)
    ∙ append_assoc (flat_map (λ piece. piece) first.pieces) (flat_map (λ piece. piece) more.pieces) (held_in more.next)
    ∙ ap (λ xs. flat_map (λ piece. piece) first.pieces ++ xs) (joined_from first.next bs)
    ∙ sym (append_assoc (flat_map (λ piece. piece) first.pieces) (held_in first.next) bs)
    ∙ ap (λ xs. xs ++ bs) (byte_keeps s b)
    ∙ append_assoc (held_in s) (b ∷ []) bs

pub joined : (bytes : List ℕ) → all_of (pieces_in bytes) ≡ bytes
joined bytes = joined_from Between bytes
