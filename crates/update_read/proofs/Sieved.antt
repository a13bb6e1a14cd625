-- Bytes that went through a sieve, one stretch after another.
use Rattle.std.proofs.Common.{◌≡◌, ◌≤◌, ◌<◌, ◌+◌, ◌-◌, ℕ, zero, suc, List, [], ◌∷◌, ◌++◌, append_assoc, append-nil, length, take, drop, get_or, refl, ap, sym, subst, ◌∙◌, arith}
use Rattle.std.proofs.lemmas.List.{take_more}
use Rattle.std.proofs.lemmas.List.Concat.{flat_map-append}
use Rattle.order_means.specs.Updates.{turned}
use Rattle.order_means.specs.Packets.{PacketStage, Pieces, pieces, pieces_from, kept_piece, kept_pieces}
use Rattle.order_means.specs.Packets.PacketStage.{Inside}
use Rattle.order_means.proofs.PieceJoined.{pieces_joined}
use Rattle.update_read.specs.Sieves.{Sieves}

-- ---- two stretches

sieves_more : (xs ys : List ℕ) (s t u : PacketStage) (before mid after : List ℕ) → Sieves xs s t before mid → Sieves ys t u mid after → Sieves (xs ++ ys) s u before after
sieves_more xs ys s t u before mid after first second =
    let here = pieces_from s xs in
    let more = pieces_from here.next ys in
    let both = pieces_joined s xs ys in
    record {
      handed = second.handed ∙ ap (λ (st : PacketStage). mid ++ kept_pieces (pieces_from st ys).pieces) first.stage ∙ ap (λ (bs : List ℕ). bs ++ kept_pieces more.pieces) first.handed
          ∙ append_assoc before (kept_pieces here.pieces) (kept_pieces more.pieces) ∙ ap (λ (bs : List ℕ). before ++ bs) (sym (flat_map-append kept_piece here.pieces more.pieces))
          ∙ ap (λ (p : Pieces). before ++ kept_pieces p.pieces) (sym both);
      stage = second.stage ∙ ap (λ (st : PacketStage). (pieces_from st ys).next) first.stage ∙ ap (λ (p : Pieces). p.next) (sym both);
    }

-- nothing was handed on, whatever was before
pub nothing_handed : (xs : List ℕ) (s t : PacketStage) (before : List ℕ) → Sieves xs s t [] [] → Sieves xs s t before before
nothing_handed xs s t before h = record { handed = sym (append-nil before) ∙ ap (λ (bs : List ℕ). before ++ bs) h.handed; stage = h.stage }

-- ---- bytes within a packet

turned-more : (held xs : List ℕ) → turned xs (turned held []) ≡ turned (held ++ xs) []
turned-more held xs = by held xs []
  where
    by : (front bs cs : List ℕ) → turned bs (turned front cs) ≡ turned (front ++ bs) cs
    by [] bs cs = refl
    by (a ∷ front) bs cs = by front bs (a ∷ cs)

inside_from : (missing : ℕ) (front xs : List ℕ) → length xs ≤ missing → pieces_from (Inside missing front) xs ≡ pieces [] (Inside (missing - length xs) (turned xs front))
inside_from missing front [] few = let same : missing ≡ missing - 0 = omega arith in ap (λ (n : ℕ). pieces [] (Inside n front)) same
inside_from zero front (x ∷ xs) few = absurd (omega (arith, few))
inside_from (suc n) front (x ∷ xs) few =
    let same : n - length xs ≡ suc n - suc (length xs) = omega arith in
    inside_from n (x ∷ front) xs (omega (arith, few)) ∙ ap (λ (m : ℕ). pieces [] (Inside m (turned (x ∷ xs) front))) same

inside_taken : (missing : ℕ) (held xs : List ℕ) → length xs ≤ missing → Sieves xs (Inside missing (turned held [])) (Inside (missing - length xs) (turned (held ++ xs) [])) [] []
inside_taken missing held xs few =
    let is = inside_from missing (turned held []) xs few in
    record {
      handed = ap (λ (p : Pieces). kept_pieces p.pieces) (sym is);
      stage = ap (Inside (missing - length xs)) (sym (turned-more held xs)) ∙ ap (λ (p : Pieces). p.next) (sym is);
    }

pub taken_inside : (missing n : ℕ) (held xs new : List ℕ) (old : PacketStage) → length xs ≡ n → n ≤ missing → Inside missing (turned held []) ≡ old → new ≡ held ++ xs → Sieves xs old (Inside (missing - n) (turned new [])) [] []
taken_inside missing n held xs new old size few is all =
    subst (λ (s : PacketStage). Sieves xs s (Inside (missing - n) (turned new [])) [] []) is (rw (all, ← size) (inside_taken missing held xs (omega (arith, size, few))))

-- ---- a loop over bytes

front_none : (k : ℕ) → take {A = ℕ} k [] ≡ []
front_none zero = refl
front_none (suc k) = refl

front_more : (n m : ℕ) (xs : List ℕ) → take (n + m) xs ≡ take n xs ++ take m (drop n xs)
front_more zero m xs = let same : 0 + m ≡ m = omega arith in ap (λ (k : ℕ). take k xs) same
front_more (suc n) m [] = front_none (suc n + m) ∙ sym (front_none m)
front_more (suc n) m (x ∷ xs) = let same : suc n + m ≡ suc (n + m) = omega arith in ap (λ (k : ℕ). take k (x ∷ xs)) same ∙ ap (λ (ys : List ℕ). x ∷ ys) (front_more n m xs)

-- bytes behind those so far went through
pub passed_further : (i n : ℕ) (xs : List ℕ) (s t u : PacketStage) (before mid after : List ℕ) → Sieves (take i xs) s t before mid → Sieves (take n (drop i xs)) t u mid after → Sieves (take (i + n) xs) s u before after
passed_further i n xs s t u before mid after so_far next =
    subst (λ (front : List ℕ). Sieves front s u before after) (sym (front_more i n xs)) (sieves_more (take i xs) (take n (drop i xs)) s t u before mid after so_far next)

-- none did
pub none_further : (i n : ℕ) (xs : List ℕ) (s t u : PacketStage) (before mid after : List ℕ) → n ≡ 0 → Sieves (take i xs) s t before mid → Sieves (take n (drop i xs)) t u mid after → Sieves (take i xs) s u before after
none_further i n xs s t u before mid after none so_far next =
    let same : i + n ≡ i = omega (arith, none) in
    subst (λ (k : ℕ). Sieves (take k xs) s u before after) same (passed_further i n xs s t u before mid after so_far next)

-- a byte behind them was taken
pub byte_further : (i : ℕ) (xs : List ℕ) (s t u : PacketStage) (before mid after : List ℕ) → i < length xs → Sieves (take i xs) s t before mid → Sieves (get_or xs i 0 ∷ []) t u mid after → Sieves (take (i + 1) xs) s u before after
byte_further i xs s t u before mid after less so_far next =
    subst (λ (front : List ℕ). Sieves front s u before after) (sym (take_more xs i 0 less)) (sieves_more (take i xs) (get_or xs i 0 ∷ []) s t u before mid after so_far next)
