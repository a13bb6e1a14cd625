-- What a viewer reads without a refusal is cut into the same packets, and none of these is a pointer's.
use Rattle.std.proofs.Common.{◌≡◌, ℕ, zero, suc, ◌+◌, ◌-◌, ◌*◌, Bool, true, false, List, [], ◌∷◌, ◌++◌, length, refl, ap, sym, ◌∙◌, subst, arith}
use Rattle.std.specs.Prelude.{⊤, All, Some, None, Ok, Err, nat_lt, nat_le, ◌==◌, ◌&&◌, if◌then◌else◌}
use Rattle.std.specs.List.{AllByRecursion}
use Rattle.std.proofs.lemmas.Bool.Decides.{nat_tests}
use Rattle.std.proofs.lemmas.List.Elements.{All-from_recursion}
use Rattle.wire_num.specs.Field.{Read, kept}
use Rattle.tpkt_x224.specs.Tpkt.{packet_at}
use Rattle.share_pdu.specs.Share.{Within}
use Rattle.share_pdu.specs.Packet.{indication_at}
use Rattle.px_core.specs.Picture.{turned}
use Rattle.order_means.specs.Updates.{Stage, BodyForm, Cutting, cutting, Updates, updates, stage_if, whole_packet, fast_update_at, then_updates, more_updates, whole_fast, fast_inside, fast_begun, updates_by, updates_from, refusal_in}
use Rattle.order_means.specs.Updates.Stage.{Between, One, Two, Three, Inside, Fast, FastLong, FastInside, Refused}
use Rattle.order_means.specs.PointerPackets.{pointer_kind, indicated_at, is_all, is_read, is_pointer}
use Rattle.order_means.specs.Packets.{PacketStage, Pieces, pieces, before_pieces, piece_begun_if, pieces_by, pieces_from, pieces_in}
use Rattle.order_means.specs.Packets.PacketStage.{Between as NoPacket, Head, FastHead, FastLong as FastHigh, Inside as Missing, Passing}
use Rattle.order_means.proofs.KindRead.{update_not_pointer}

-- ---- how far a packet has come, to a viewer and to who cuts packets alone

abbrev pub stage_of : Stage → PacketStage
stage_of Between = NoPacket
stage_of One = Head (3 ∷ [])
stage_of (Two second) = Head (second ∷ 3 ∷ [])
stage_of (Three second high) = Head (high ∷ second ∷ 3 ∷ [])
stage_of (Inside missing second high low front) = Missing missing (front ++ low ∷ high ∷ second ∷ 3 ∷ [])
stage_of Fast = FastHead
stage_of (FastLong high) = FastHigh high
stage_of (FastInside missing head front) = Missing missing (front ++ turned head [])
stage_of (Refused place) = Passing

-- a header of the fast path begins with 0
abbrev BeginsFast : List ℕ → Type 0
BeginsFast [] = ⊥
BeginsFast (v ∷ bs) = v ≡ 0

abbrev pub IsSound : Stage → Type 0
IsSound Between = ⊤
IsSound One = ⊤
IsSound (Two second) = ⊤
IsSound (Three second high) = ⊤
IsSound (Inside missing second high low front) = ⊤
IsSound Fast = ⊤
IsSound (FastLong high) = ⊤
IsSound (FastInside missing head front) = BeginsFast head
IsSound (Refused place) = ⊤

abbrev pub IsNoPointer : List ℕ → Type 0
IsNoPointer piece = is_pointer piece ≡ false

-- these pieces are none of pointers, and lead where the viewer is
pub record Agrees (s : Stage) (p : Pieces) : Type 0 where
  pub same : p.next ≡ stage_of s
  pub sound : IsSound s
  pub free : AllByRecursion IsNoPointer p.pieces

-- unless the viewer refuses
abbrev pub AgreesUnlessRefused : Stage → Pieces → Type 0
AgreesUnlessRefused s p = refusal_in s ≡ None → Agrees s p

-- ---- whole packets

turned_twice : (xs ys zs : List ℕ) → turned (turned xs ys) zs ≡ turned ys (xs ++ zs)
turned_twice [] ys zs = refl
turned_twice (x ∷ xs) ys zs = turned_twice xs (x ∷ ys) zs

turned_both : (xs ys zs : List ℕ) → turned (xs ++ ys) zs ≡ turned ys (turned xs zs)
turned_both [] ys zs = refl
turned_both (x ∷ xs) ys zs = turned_both xs ys (x ∷ zs)

-- no pointer's, whether or not all is there
refused_kept : (t : Bool) (r : Read (List ℕ)) (bs : List ℕ) → is_read r ≡ false → is_read (kept t r bs) ≡ false
refused_kept true r bs e = e
refused_kept false r bs e = refl

slow_free : (second high low : ℕ) (bs : List ℕ) (v : Within × List ℕ) → indication_at bs ≡ Ok v → IsNoPointer (3 ∷ second ∷ high ∷ low ∷ bs)
slow_free second high low bs v e =
    let packet = 3 ∷ second ∷ high ∷ low ∷ bs in
    refused_kept (is_all (packet_at packet) (length packet)) (indicated_at pointer_kind bs) packet (update_not_pointer bs v e)

slow_whole : (at second high low : ℕ) (front : List ℕ) (b : ℕ) →
    AgreesUnlessRefused (updates_by true at (Inside zero second high low front) b).next.stage (pieces_by (stage_of (Inside zero second high low front)) b)
slow_whole at second high low front b = by (indication_at (turned front (b ∷ []))) refl
  where
    piece : List ℕ
    piece = turned (front ++ low ∷ high ∷ second ∷ 3 ∷ []) (b ∷ [])

    same : piece ≡ 3 ∷ second ∷ high ∷ low ∷ turned front (b ∷ [])
    same = turned_both front (low ∷ high ∷ second ∷ 3 ∷ []) (b ∷ [])

    by : (r : Read Within) → indication_at (turned front (b ∷ [])) ≡ r → AgreesUnlessRefused (whole_packet (at + 1) r).next.stage (pieces (piece ∷ []) NoPacket)
    by (Ok v) e = λ none. record { same = refl; sound = tt; free = (subst IsNoPointer (sym same) (slow_free second high low (turned front (b ∷ [])) v e), tt) }
    by (Err left) e = λ none. absurd (let no : ⊥ = cc in no)

-- whoever doesn't refuse what is in a packet of the fast path is between packets
abbrev EndsBetween : Updates → Type 0
EndsBetween u = refusal_in u.next.stage ≡ None → u.next.stage ≡ Between

then_ends : (end : ℕ) (r : Read (BodyForm × List ℕ)) (others : List ℕ → Updates) → ((bs : List ℕ) → EndsBetween (others bs)) → EndsBetween (then_updates end r others)
then_ends end (Ok v) others h = h v.1
then_ends end (Err left) others h = λ none. absurd (let no : ⊥ = cc in no)

others_end : (end most : ℕ) (bs : List ℕ) → EndsBetween (more_updates most end bs)
others_end end most [] = λ none. refl
others_end end zero (b ∷ bs) = λ none. refl
others_end end (suc most) (b ∷ bs) = then_ends end (fast_update_at (b ∷ bs)) (more_updates most end) (others_end end most)

fast_ends : (end : ℕ) (bs : List ℕ) → EndsBetween (whole_fast end bs)
fast_ends end bs = then_ends end (fast_update_at bs) (more_updates (length bs) end) (others_end end (length bs))

fast_free : (head bs : List ℕ) → BeginsFast head → IsNoPointer (head ++ bs)
fast_free [] bs e = absurd e
fast_free (v ∷ head) bs e = subst (λ w. IsNoPointer (w ∷ (head ++ bs))) (sym e) refl

fast_last : (at : ℕ) (head front : List ℕ) (b : ℕ) → BeginsFast head → AgreesUnlessRefused (whole_fast (at + 1) (turned front (b ∷ []))).next.stage (pieces (turned (front ++ turned head []) (b ∷ []) ∷ []) NoPacket)
fast_last at head front b begins = λ none.
    let bs = turned front (b ∷ []) in
    let whole : turned (front ++ turned head []) (b ∷ []) ≡ head ++ bs = turned_both front (turned head []) (b ∷ []) ∙ turned_twice head [] bs in
    let ends = fast_ends (at + 1) bs none in
    subst (λ s. Agrees s (pieces (turned (front ++ turned head []) (b ∷ []) ∷ []) NoPacket)) (sym ends)
    (record { same = refl; sound = tt; free = (subst IsNoPointer (sym whole) (fast_free head bs begins), tt) })

-- ---- headers

inside_agrees : (next n : ℕ) (head : List ℕ) → BeginsFast head → AgreesUnlessRefused (fast_inside next n head).next.stage (piece_begun_if true n (turned head []))
inside_agrees next zero head begins = λ none. absurd (let no : ⊥ = cc in no)
inside_agrees next (suc n) head begins = λ none. record { same = refl; sound = begins; free = tt }

begun_agrees : (next place n : ℕ) (head : List ℕ) → BeginsFast head →
    AgreesUnlessRefused (fast_begun next place n head).next.stage (piece_begun_if (nat_le (length head) n) (n - length head) (turned head []))
begun_agrees next place n head begins = by (nat_lt n (length head)) refl
  where
    by : (t : Bool) → nat_lt n (length head) ≡ t →
        AgreesUnlessRefused (if t then updates [] (cutting next (Refused place)) else fast_inside next (n - length head) head).next.stage (piece_begun_if (nat_le (length head) n) (n - length head) (turned head []))
    by true e = λ none. absurd (let no : ⊥ = cc in no)
    by false e =
        let enough : nat_le (length head) n ≡ true = grind (arith, nat_tests, e) in
        rw enough (inside_agrees next (n - length head) head begins)

first_agrees : (fast : Bool) (at b : ℕ) → AgreesUnlessRefused (updates_by fast at Between b).next.stage (pieces_by NoPacket b)
first_agrees fast at b = by (b == 3) (b == 0) fast
  where
    by : (t z f : Bool) → AgreesUnlessRefused (if t then One else stage_if (f && z) Fast at) (if t then pieces [] (Head (3 ∷ [])) else (if z then pieces [] FastHead else pieces ((b ∷ []) ∷ []) Passing))
    by true z f = λ none. record { same = refl; sound = tt; free = tt }
    by false true true = λ none. record { same = refl; sound = tt; free = tt }
    by false true false = λ none. absurd (let no : ⊥ = cc in no)
    by false false true = λ none. absurd (let no : ⊥ = cc in no)
    by false false false = λ none. absurd (let no : ⊥ = cc in no)

length_agrees : (fast : Bool) (at second high b : ℕ) → AgreesUnlessRefused (updates_by fast at (Three second high) b).next.stage (pieces_by (Head (high ∷ second ∷ 3 ∷ [])) b)
length_agrees fast at second high b = by (nat_le 7 (256 * high + b)) refl
  where
    by : (t : Bool) → nat_le 7 (256 * high + b) ≡ t →
        AgreesUnlessRefused (stage_if t (Inside ((256 * high + b) - 5) second high b []) (at - 1)) (piece_begun_if t ((256 * high + b) - 4) (b ∷ high ∷ second ∷ 3 ∷ []))
    by true e =
        let long : (256 * high + b) - 4 ≡ suc ((256 * high + b) - 5) = grind (arith, nat_tests, e) in
        rw long (λ none. record { same = refl; sound = tt; free = tt })
    by false e = λ none. absurd (let no : ⊥ = cc in no)

short_agrees : (fast : Bool) (at b : ℕ) → AgreesUnlessRefused (updates_by fast at Fast b).next.stage (pieces_by FastHead b)
short_agrees fast at b = by (nat_lt b 128)
  where
    by : (t : Bool) → AgreesUnlessRefused (if t then fast_begun (at + 1) at b (0 ∷ b ∷ []) else updates [] (cutting (at + 1) (FastLong b))).next.stage (if t then piece_begun_if (nat_le 2 b) (b - 2) (b ∷ 0 ∷ []) else pieces [] (FastHigh b))
    by true = begun_agrees (at + 1) at b (0 ∷ b ∷ []) refl
    by false = λ none. record { same = refl; sound = tt; free = tt }

-- ---- byte by byte

byte_agrees : (fast : Bool) (at : ℕ) (s : Stage) (b : ℕ) → IsSound s → AgreesUnlessRefused (updates_by fast at s b).next.stage (pieces_by (stage_of s) b)
byte_agrees fast at Between b sound = first_agrees fast at b
byte_agrees fast at One b sound = λ none. record { same = refl; sound = tt; free = tt }
byte_agrees fast at (Two second) b sound = λ none. record { same = refl; sound = tt; free = tt }
byte_agrees fast at (Three second high) b sound = length_agrees fast at second high b
byte_agrees fast at (Inside zero second high low front) b sound = slow_whole at second high low front b
byte_agrees fast at (Inside (suc n) second high low front) b sound = λ none. record { same = refl; sound = tt; free = tt }
byte_agrees fast at Fast b sound = short_agrees fast at b
byte_agrees fast at (FastLong high) b sound = begun_agrees (at + 1) (at - 1) (256 * (high - 128) + b) (0 ∷ high ∷ b ∷ []) refl
byte_agrees fast at (FastInside zero head front) b sound = fast_last at head front b sound
byte_agrees fast at (FastInside (suc n) head front) b sound = λ none. record { same = refl; sound = sound; free = tt }
byte_agrees fast at (Refused place) b sound = λ none. absurd (let no : ⊥ = cc in no)

-- a refused stream stays refused
stays_refused : (fast : Bool) (at place : ℕ) (bs : List ℕ) → refusal_in (updates_from fast (cutting at (Refused place)) bs).next.stage ≡ Some place
stays_refused fast at place [] = refl
stays_refused fast at place (b ∷ bs) = stays_refused fast (at + 1) place bs

-- so what isn't refused in the end never was
never_refused : (fast : Bool) (at : ℕ) (s : Stage) (bs : List ℕ) → refusal_in (updates_from fast (cutting at s) bs).next.stage ≡ None → refusal_in s ≡ None
never_refused fast at Between bs none = refl
never_refused fast at One bs none = refl
never_refused fast at (Two second) bs none = refl
never_refused fast at (Three second high) bs none = refl
never_refused fast at (Inside missing second high low front) bs none = refl
never_refused fast at Fast bs none = refl
never_refused fast at (FastLong high) bs none = refl
never_refused fast at (FastInside missing head front) bs none = refl
never_refused fast at (Refused place) bs none = sym (stays_refused fast at place bs) ∙ none

all_both : (xs ys : List (List ℕ)) → AllByRecursion IsNoPointer xs → AllByRecursion IsNoPointer ys → AllByRecursion IsNoPointer (xs ++ ys)
all_both [] ys a b = b
all_both (x ∷ xs) ys a b = (a.0, all_both xs ys a.1 b)

behind : (s : Stage) (cut : List (List ℕ)) (p : Pieces) → AllByRecursion IsNoPointer cut → Agrees s p → Agrees s (before_pieces cut p)
behind s cut p free agrees = record { same = agrees.same; sound = agrees.sound; free = all_both cut p.pieces free agrees.free }

pub all_agree : (fast : Bool) (at : ℕ) (s : Stage) (bytes : List ℕ) → IsSound s → AgreesUnlessRefused (updates_from fast (cutting at s) bytes).next.stage (pieces_from (stage_of s) bytes)
all_agree fast at s [] sound = λ none. record { same = refl; sound = sound; free = tt }
all_agree fast at s (b ∷ bs) sound = λ none.
    let next : Cutting = (updates_by fast at s b).next in
    let end : Stage = (updates_from fast next bs).next.stage in
    let first : Agrees next.stage (pieces_by (stage_of s) b) = byte_agrees fast at s b sound (never_refused fast next.place next.stage bs none) in
    let more : Agrees end (pieces_from (stage_of next.stage) bs) = all_agree fast next.place next.stage bs first.sound none in
    behind end (pieces_by (stage_of s) b).pieces (pieces_from (pieces_by (stage_of s) b).next bs) first.free
    (subst (λ (t : PacketStage). Agrees end (pieces_from t bs)) (sym first.same) more)

-- ---- without a refusal, and to a place between packets

pub none_refused : (fast : Bool) (at : ℕ) (bytes : List ℕ) → refusal_in (updates_from fast (cutting at Between) bytes).next.stage ≡ None → AllByRecursion IsNoPointer (pieces_in bytes).pieces
none_refused fast at bytes none = (all_agree fast at Between bytes tt none).free

pub no_pointers : (fast : Bool) (at : ℕ) (bytes : List ℕ) (end : ℕ) → (updates_from fast (cutting at Between) bytes).next ≡ cutting end Between →
    ((pieces_in bytes).next ≡ NoPacket) × AllByRecursion IsNoPointer (pieces_in bytes).pieces
no_pointers fast at bytes end e =
    let agrees = all_agree fast at Between bytes tt (ap (λ (c : Cutting). refusal_in c.stage) e) in
    (agrees.same ∙ ap (λ (c : Cutting). stage_of c.stage) e, agrees.free)

pub read_has_no_pointers : (fast : Bool) (at : ℕ) (bytes : List ℕ) (end : ℕ) → (updates_from fast (cutting at Between) bytes).next ≡ cutting end Between →
    ((pieces_in bytes).next ≡ NoPacket) × All (λ p. is_pointer p ≡ false) (pieces_in bytes).pieces
read_has_no_pointers fast at bytes end e =
    let read = no_pointers fast at bytes end e in
    (read.0, All-from_recursion (λ p. is_pointer p ≡ false) (pieces_in bytes).pieces read.1)
