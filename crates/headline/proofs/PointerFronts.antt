-- A front of bytes that are read without the packets of pointers is read without them, wherever it is cut: what it ends with is a front of a packet.
use Rattle.std.proofs.Common.{◌≡◌, ℕ, zero, suc, ◌+◌, ◌-◌, ◌*◌, ◌<◌, Bool, true, false, List, [], ◌∷◌, ◌++◌, length, take, drop, refl, ap, sym, ◌∙◌, subst, arith, append_assoc, Some, None, ◌⊎◌, inl, inr}
use Rattle.std.specs.Prelude.{⊤, Option, Result, Ok, Err, ◌==◌, nat_lt, nat_le, flat_map, if◌then◌else◌}
use Rattle.std.proofs.lemmas.Bool.Decides.{nat_tests}
use Rattle.std.proofs.lemmas.List.{append-nil}
use Rattle.std.proofs.lemmas.Grind.{flat_map-append}
use Rattle.px_core.specs.declared.surface.Size.{Size}
use Rattle.caps_sets.specs.declared.confirmed.Confirmed.{Confirmed}
use Rattle.caps_sets.specs.Confirmed.{takes_fast}
use Rattle.wire_num.specs.Field.{Read, kept, bind}
use Rattle.tpkt_x224.specs.declared.tpkt.Packet.{Packet}
use Rattle.tpkt_x224.specs.declared.tpkt.Packet.TheVariants.{Whole, Part, NotTpkt, BadLength}
use Rattle.tpkt_x224.specs.Tpkt.{IsPacket, packet_at}
use Rattle.tpkt_x224.proofs.Heads.{whole_head, part_head}
use Rattle.px_core.specs.Picture.{turned}
use Rattle.order_means.specs.Updates.{Body, Stage, Cutting, cutting, updates_from, updates_in, refusal_in}
use Rattle.order_means.specs.Updates.Stage.{Between as NoneBegun, One, Two, Three, Inside as Behind, Fast, FastLong as FastHigh, FastInside, Refused}
use Rattle.order_means.specs.FrameMarks.{View, Refusal, ClientReading, reading, first_reading, unless_refused_at, view_after_bodies, reading_after, read_on, read_stream, pictures_at_marks}
use Rattle.order_means.specs.PointerPackets.{pointer_kind, indicated_at, is_all, is_read, is_pointer}
use Rattle.order_means.specs.Packets.{PacketStage, Pieces, pieces, before_pieces, held_in, first_piece, piece_begun, piece_begun_if, head_piece, pieces_by, pieces_from, pieces_in, kept_piece, kept_pieces, without_pointers}
use Rattle.order_means.specs.Packets.PacketStage.{Between, Head, FastHead, FastLong, Inside, Passing}
use Rattle.order_means.proofs.Pieces.{read_joined}
use Rattle.order_means.proofs.Cut.{part_left}
use Rattle.order_means.proofs.PieceJoined.{pieces_joined, joined_from}
use Rattle.order_means.proofs.ReadPieces.{stage_of, all_agree}
use Rattle.headline.specs.Fronts.{ShowsFirst}
use Rattle.headline.proofs.StreamFronts.{Pictures, AreFirstOf, stream_front, marks_front}
use Rattle.headline.proofs.Takes.{read_to}

-- ---- byte by byte

-- a byte ends no piece, or one, behind which nothing is held
data EndsOne (p : Pieces) : Type 0 where
  NoPiece : p.pieces ≡ [] → EndsOne p
  OnePiece : (piece : List ℕ) → p.pieces ≡ piece ∷ [] → (p.next ≡ Between) ⊎ (p.next ≡ Passing) → EndsOne p

begun_one : (n : ℕ) (held : List ℕ) → EndsOne (piece_begun n held)
begun_one zero held = OnePiece (turned held []) refl (inl refl)
begun_one (suc n) held = NoPiece refl

begun_if_one : (t : Bool) (n : ℕ) (held : List ℕ) → EndsOne (piece_begun_if t n held)
begun_if_one true n held = begun_one n held
begun_if_one false n held = OnePiece (turned held []) refl (inr refl)

first_one : (b : ℕ) → EndsOne (first_piece b)
first_one b = by (b == 3) (b == 0)
  where
    by : (t z : Bool) → EndsOne (if t then pieces [] (Head (3 ∷ [])) else (if z then pieces [] FastHead else pieces ((b ∷ []) ∷ []) Passing))
    by true z = NoPiece refl
    by false true = NoPiece refl
    by false false = OnePiece (b ∷ []) refl (inr refl)

head_one : (held : List ℕ) (b : ℕ) → EndsOne (head_piece held b)
head_one [] b = NoPiece refl
head_one (x ∷ []) b = NoPiece refl
head_one (x ∷ y ∷ []) b = NoPiece refl
head_one (high ∷ second ∷ version ∷ []) b = begun_if_one (nat_le 7 (256 * high + b)) ((256 * high + b) - 4) (b ∷ high ∷ second ∷ version ∷ [])
head_one (x ∷ y ∷ z ∷ w ∷ held) b = NoPiece refl

fast_one : (b : ℕ) (t : Bool) → EndsOne (if t then piece_begun_if (nat_le 2 b) (b - 2) (b ∷ 0 ∷ []) else pieces [] (FastLong b))
fast_one b true = begun_if_one (nat_le 2 b) (b - 2) (b ∷ 0 ∷ [])
fast_one b false = NoPiece refl

byte_one : (s : PacketStage) (b : ℕ) → EndsOne (pieces_by s b)
byte_one Between b = first_one b
byte_one (Head held) b = head_one held b
byte_one FastHead b = fast_one b (nat_lt b 128)
byte_one (FastLong high) b = begun_if_one (nat_le 3 (256 * (high - 128) + b)) ((256 * (high - 128) + b) - 3) (b ∷ high ∷ 0 ∷ [])
byte_one (Inside zero held) b = OnePiece (turned held (b ∷ [])) refl (inl refl)
byte_one (Inside (suc n) held) b = NoPiece refl
byte_one Passing b = OnePiece (b ∷ []) refl (inr refl)

-- nothing is held there
nothing_held : (s : PacketStage) → (s ≡ Between) ⊎ (s ≡ Passing) → held_in s ≡ []
nothing_held s (inl e) = ap held_in e
nothing_held s (inr e) = ap held_in e

-- what one more byte comes to
byte_joined : (s : PacketStage) (b : ℕ) → flat_map (λ piece. piece) ((pieces_by s b).pieces ++ []) ++ held_in (pieces_by s b).next ≡ held_in s ++ b ∷ []
byte_joined s b = joined_from s (b ∷ [])

grows : (s : PacketStage) (b : ℕ) → (pieces_by s b).pieces ≡ [] → held_in (pieces_by s b).next ≡ held_in s ++ b ∷ []
grows s b none = sym (ap (λ cut. flat_map (λ piece. piece) (cut ++ []) ++ held_in (pieces_by s b).next) none) ∙ byte_joined s b

ends : (s : PacketStage) (b : ℕ) (piece : List ℕ) → (pieces_by s b).pieces ≡ piece ∷ [] → held_in (pieces_by s b).next ≡ [] → piece ≡ held_in s ++ b ∷ []
ends s b piece one nothing =
    sym (append-nil piece) ∙ sym (append-nil (piece ++ [])) ∙ ap (λ xs. (piece ++ []) ++ xs) (sym nothing)
    ∙ sym (ap (λ cut. flat_map (λ piece. piece) (cut ++ []) ++ held_in (pieces_by s b).next) one) ∙ byte_joined s b

-- ---- what comes behind a held front

-- the packet stays unfinished, or a piece ends somewhere
data GoesOn (s : PacketStage) (rest : List ℕ) : Type 0 where
  Unfinished : (pieces_from s rest).pieces ≡ [] → held_in (pieces_from s rest).next ≡ held_in s ++ rest → GoesOn s rest
  Finished : (xs ys : List ℕ) → 0 < length xs → rest ≡ xs ++ ys → (t : PacketStage)
      → pieces_from s rest ≡ before_pieces ((held_in s ++ xs) ∷ []) (pieces_from t ys) → GoesOn s rest

one_more : (held xs : List ℕ) (b : ℕ) → (held ++ b ∷ []) ++ xs ≡ held ++ b ∷ xs
one_more held xs b = append_assoc held (b ∷ []) xs

goes_on : (s : PacketStage) (rest : List ℕ) → GoesOn s rest
goes_on s [] = Unfinished refl (sym (append-nil (held_in s)))
goes_on s (b ∷ bs) = by (byte_one s b) (goes_on (pieces_by s b).next bs)
  where
    first : Pieces
    first = pieces_by s b

    by : EndsOne first → GoesOn first.next bs → GoesOn s (b ∷ bs)
    by (NoPiece none) (Unfinished more held) = Unfinished (ap (λ cut. cut ++ (pieces_from first.next bs).pieces) none ∙ more)
        (held ∙ ap (λ xs. xs ++ bs) (grows s b none) ∙ one_more (held_in s) bs b)
    by (NoPiece none) (Finished xs ys some is t cut) = Finished (b ∷ xs) ys (omega arith) (ap (λ l. b ∷ l) is) t
        (ap (λ cut. before_pieces cut (pieces_from first.next bs)) none ∙ cut
        ∙ ap (λ piece. before_pieces (piece ∷ []) (pieces_from t ys)) (ap (λ held. held ++ xs) (grows s b none) ∙ one_more (held_in s) xs b))
    by (OnePiece piece one there) more = Finished (b ∷ []) bs (omega arith) refl first.next
        (ap (λ cut. before_pieces cut (pieces_from first.next bs)) one
        ∙ ap (λ piece. before_pieces (piece ∷ []) (pieces_from first.next bs)) (ends s b piece one (nothing_held first.next there)))

-- ---- whole packets

-- a piece that is cut as one
abbrev IsWhole : List ℕ → Type 0
IsWhole piece = pieces_in piece ≡ pieces (piece ∷ []) Between

abbrev AreWhole : List (List ℕ) → Type 0
AreWhole [] = ⊤
AreWhole (piece ∷ cut) = IsWhole piece × AreWhole cut

-- what is held leads there
abbrev IsHeld : PacketStage → Type 0
IsHeld s = pieces_in (held_in s) ≡ pieces [] s

-- packets can still be cut
abbrev pub IsCutting : PacketStage → Type 0
IsCutting Between = ⊤
IsCutting (Head held) = ⊤
IsCutting FastHead = ⊤
IsCutting (FastLong high) = ⊤
IsCutting (Inside missing held) = ⊤
IsCutting Passing = ⊥

passing_stays : (bs : List ℕ) → (pieces_from Passing bs).next ≡ Passing
passing_stays [] = refl
passing_stays (b ∷ bs) = passing_stays bs

-- one more byte behind what is held
byte_cut : (s : PacketStage) (b : ℕ) → IsHeld s → pieces_in (held_in s ++ b ∷ []) ≡ pieces ((pieces_by s b).pieces ++ []) (pieces_by s b).next
byte_cut s b held = pieces_joined Between (held_in s) (b ∷ []) ∙ ap (λ p. before_pieces p.pieces (pieces_from p.next (b ∷ []))) held

pub whole_from : (s : PacketStage) (bs : List ℕ) → IsHeld s → IsCutting (pieces_from s bs).next → AreWhole (pieces_from s bs).pieces
whole_from s [] held going = tt
whole_from s (b ∷ bs) held going = by (byte_one s b) (λ h. whole_from (pieces_by s b).next bs h going)
  where
    first : Pieces
    first = pieces_by s b

    more : List (List ℕ)
    more = (pieces_from first.next bs).pieces

    by : EndsOne first → (IsHeld first.next → AreWhole more) → AreWhole (first.pieces ++ more)
    by (NoPiece none) rest =
        subst (λ cut. AreWhole (cut ++ more)) (sym none)
        (rest (ap pieces_in (grows s b none) ∙ byte_cut s b held ∙ ap (λ cut. pieces (cut ++ []) first.next) none))
    by (OnePiece piece one (inl there)) rest =
        let same = ends s b piece one (ap held_in there) in
        let whole : IsWhole piece = ap pieces_in same ∙ byte_cut s b held ∙ ap (λ cut. pieces (cut ++ []) first.next) one ∙ ap (pieces (piece ∷ [])) there in
        subst (λ cut. AreWhole (cut ++ more)) (sym one) (whole, rest (subst IsHeld (sym there) refl))
    by (OnePiece piece one (inr there)) rest =
        absurd (subst IsCutting (ap (λ t. (pieces_from t bs).next) there ∙ passing_stays bs) going)

-- what is held behind whole packets leads there too
pub held_from : (s : PacketStage) (bs : List ℕ) → IsHeld s → IsCutting (pieces_from s bs).next → IsHeld (pieces_from s bs).next
held_from s [] held going = held
held_from s (b ∷ bs) held going = by (byte_one s b) (λ h. held_from (pieces_by s b).next bs h going)
  where
    first : Pieces
    first = pieces_by s b

    by : EndsOne first → (IsHeld first.next → IsHeld (pieces_from first.next bs).next) → IsHeld (pieces_from first.next bs).next
    by (NoPiece none) rest = rest (ap pieces_in (grows s b none) ∙ byte_cut s b held ∙ ap (λ cut. pieces (cut ++ []) first.next) none)
    by (OnePiece piece one (inl there)) rest = rest (subst IsHeld (sym there) refl)
    by (OnePiece piece one (inr there)) rest =
        absurd (subst IsCutting (ap (λ t. (pieces_from t bs).next) there ∙ passing_stays bs) going)

-- whole packets of which some are left out are whole packets
pub kept_between : (cut : List (List ℕ)) → AreWhole cut → (pieces_in (kept_pieces cut)).next ≡ Between
kept_between [] h = refl
kept_between (piece ∷ cut) h = by (is_pointer piece) (kept_between cut h.1)
  where
    by : (b : Bool) → (pieces_in (kept_pieces cut)).next ≡ Between → (pieces_in ((if b then [] else piece) ++ kept_pieces cut)).next ≡ Between
    by true more = more
    by false more =
        ap (λ p. p.next) (pieces_joined Between piece (kept_pieces cut)) ∙ ap (λ p. (pieces_from p.next (kept_pieces cut)).next) h.0 ∙ more

-- ---- a viewer behind whole packets

only_between : (s : Stage) → stage_of s ≡ Between → s ≡ NoneBegun
only_between NoneBegun e = refl
only_between One e = absurd (let no : ⊥ = cc in no)
only_between (Two second) e = absurd (let no : ⊥ = cc in no)
only_between (Three second high) e = absurd (let no : ⊥ = cc in no)
only_between (Behind missing second high low front) e = absurd (let no : ⊥ = cc in no)
only_between Fast e = absurd (let no : ⊥ = cc in no)
only_between (FastHigh high) e = absurd (let no : ⊥ = cc in no)
only_between (FastInside missing head front) e = absurd (let no : ⊥ = cc in no)
only_between (Refused place) e = absurd (let no : ⊥ = cc in no)

pub unrefused_by : (c : Confirmed) (size : Size) (w : Result View Refusal) (o : Option ℕ) (next : Cutting) (r : ClientReading)
    → bind w (λ v. unless_refused_at o (reading v next)) ≡ Ok r → o ≡ None
unrefused_by c size (Ok v) None next r e = refl
unrefused_by c size (Ok v) (Some place) next r e = absurd (cc e)
unrefused_by c size (Err refusal) o next r e = absurd (cc e)

-- a viewer that isn't refused is between packets where these are whole
pub reads_between : (c : Confirmed) (size : Size) (bytes : List ℕ) (r : ClientReading) → read_stream c size bytes ≡ Ok r → (pieces_in bytes).next ≡ Between
    → r.cut.stage ≡ NoneBegun
reads_between c size bytes r e whole =
    let u = updates_in (takes_fast c) bytes in
    let none = unrefused_by c size (view_after_bodies c size (first_reading c size).view u.bodies) (refusal_in u.next.stage) u.next r e in
    let agrees = all_agree (takes_fast c) 0 NoneBegun bytes tt none in
    let at : u.next ≡ r.cut = read_to c size (first_reading c size) r bytes e in
    ap (λ (cut : Cutting). cut.stage) (sym at) ∙ only_between u.next.stage (sym agrees.same ∙ whole)

-- ---- a front of a pointer's packet

all_is : (p : Packet) (n : ℕ) → is_all p n ≡ true → p ≡ Whole n
all_is (Whole m) n e = let same : m ≡ n = grind (arith, nat_tests, e) in ap Whole same
all_is Part n e = absurd (let no : ⊥ = cc in no)
all_is NotTpkt n e = absurd (let no : ⊥ = cc in no)
all_is BadLength n e = absurd (let no : ⊥ = cc in no)

kept_read : (t : Bool) (r : Read (List ℕ)) (left : List ℕ) → is_read (kept t r left) ≡ true → t ≡ true
kept_read true r left e = refl
kept_read false r left e = absurd (cc e)

take_all : (xs : List ℕ) → take (length xs) xs ≡ xs
take_all [] = refl
take_all (x ∷ xs) = ap (λ l. x ∷ l) (take_all xs)

pointer_is_packet : (packet : List ℕ) → is_pointer packet ≡ true → IsPacket packet
pointer_is_packet packet e =
    let test = is_all (packet_at packet) (length packet) in
    let all : test ≡ true = kept_read test (indicated_at pointer_kind (drop 4 packet)) packet e in
    subst IsPacket (take_all packet) ((whole_head packet (length packet)).0 (all_is (packet_at packet) (length packet) all)).1

pointer_front : (xs ys : List ℕ) → is_pointer (xs ++ ys) ≡ true → 0 < length ys → packet_at xs ≡ Part
pointer_front xs ys e some = (part_head xs).1 (ys, some, pointer_is_packet (xs ++ ys) e)

pub nothing_read : (c : Confirmed) (size : Size) (v : View) (bodies : List Body) (o : Option ℕ) (next : Cutting) → bodies ≡ [] → o ≡ None
    → bind (view_after_bodies c size v bodies) (λ w. unless_refused_at o (reading w next)) ≡ Ok (reading v next)
nothing_read c size v bodies o next none calm =
    ap (λ bs. bind (view_after_bodies c size v bs) (λ w. unless_refused_at o (reading w next))) none ∙ ap (λ p. unless_refused_at p (reading v next)) calm

-- a viewer that is between packets has read nothing of it
part_reads : (c : Confirmed) (size : Size) (r : ClientReading) (bytes : List ℕ) → r.cut.stage ≡ NoneBegun → packet_at bytes ≡ Part
    → read_on c size r bytes ≡ Ok (reading r.view (updates_from (takes_fast c) (cutting r.cut.place NoneBegun) bytes).next)
part_reads c size r bytes between part =
    let left = part_left (takes_fast c) r.cut.place bytes part in
    let u = updates_from (takes_fast c) (cutting r.cut.place NoneBegun) bytes in
    ap (λ (s : Stage). reading_after c size r.view (updates_from (takes_fast c) (cutting r.cut.place s) bytes)) between
    ∙ nothing_read c size r.view u.bodies (refusal_in u.next.stage) u.next left.0 left.2

-- ---- fronts

-- what is left of pieces without those of pointers
abbrev pub left_of : Pieces → List ℕ
left_of p = kept_pieces p.pieces ++ held_in p.next

pub kept_behind : (cut : List (List ℕ)) (p : Pieces) → left_of (before_pieces cut p) ≡ kept_pieces cut ++ left_of p
kept_behind cut p = ap (λ xs. xs ++ held_in p.next) (flat_map-append kept_piece cut p.pieces) ∙ append_assoc (kept_pieces cut) (kept_pieces p.pieces) (held_in p.next)

without_joined : (front rest : List ℕ) → without_pointers (front ++ rest) ≡ kept_pieces (pieces_in front).pieces ++ left_of (pieces_from (pieces_in front).next rest)
without_joined front rest =
    let f = pieces_in front in
    ap left_of (pieces_joined Between front rest) ∙ kept_behind f.pieces (pieces_from f.next rest)

-- a stage at which nothing is held, or one at which packets can be cut
pub held_or_cutting : (s : PacketStage) → (held_in s ≡ []) ⊎ IsCutting s
held_or_cutting Between = inr tt
held_or_cutting (Head held) = inr tt
held_or_cutting FastHead = inr tt
held_or_cutting (FastLong high) = inr tt
held_or_cutting (Inside missing held) = inr tt
held_or_cutting Passing = inl refl

module _ (c : Confirmed) (size : Size) where
  -- behind whole packets a front of a pointer's packet is held
  pointer_held : (kept held xs more : List ℕ) (pictures : Pictures) → (pieces_in kept).next ≡ Between → is_pointer (held ++ xs) ≡ true → 0 < length xs
      → pictures_at_marks c size (kept ++ more) ≡ Ok pictures → ShowsFirst c size (kept ++ held) pictures
  pointer_held kept held xs more pictures whole pointer some e = by (read_stream c size (kept ++ more)) refl e
    where
      by : (r : Result ClientReading Refusal) → read_stream c size (kept ++ more) ≡ r → bind r (λ s. Ok s.view.pictures) ≡ Ok pictures
          → ShowsFirst c size (kept ++ held) pictures
      by (Ok s) is shows =
          let front = stream_front c size kept more s is in
          let between = reads_between c size kept front.reached front.front_is_read whole in
          let held_reads = part_reads c size front.reached held between (pointer_front held xs pointer some) in
          record {
            shown = front.reached.view.pictures;
            marks_show = ap (λ r. bind r (λ s. Ok s.view.pictures))
                (read_joined c size (first_reading c size) kept held ∙ ap (λ r. bind r (λ s. read_on c size s held)) front.front_is_read ∙ held_reads);
            are_first = subst (AreFirstOf front.reached.view.pictures) shows front.pictures_are_first;
          }
      by (Err refusal) is shows = absurd (cc shows)

  pub fronts_without : (front rest : List ℕ) (pictures : Pictures) → pictures_at_marks c size (without_pointers (front ++ rest)) ≡ Ok pictures
      → ShowsFirst c size (without_pointers front) pictures
  fronts_without front rest pictures e = by (held_or_cutting f.next) (goes_on f.next rest)
    where
      f : Pieces
      f = pieces_in front

      r : Pieces
      r = pieces_from f.next rest

      kept_front : List ℕ
      kept_front = kept_pieces f.pieces

      whole : pictures_at_marks c size (kept_front ++ left_of r) ≡ Ok pictures
      whole = ap (pictures_at_marks c size) (sym (without_joined front rest)) ∙ e

      -- all that is held goes on
      held_too : (more : List ℕ) → left_of r ≡ held_in f.next ++ more → ShowsFirst c size (kept_front ++ held_in f.next) pictures
      held_too more is = marks_front c size (kept_front ++ held_in f.next) more pictures
          (ap (pictures_at_marks c size) (append_assoc kept_front (held_in f.next) more ∙ ap (λ l. kept_front ++ l) (sym is)) ∙ whole)

      by_pointer : (xs ys : List ℕ) (t : PacketStage) → 0 < length xs → r ≡ before_pieces ((held_in f.next ++ xs) ∷ []) (pieces_from t ys)
          → IsCutting f.next → (b : Bool) → is_pointer (held_in f.next ++ xs) ≡ b → ShowsFirst c size (kept_front ++ held_in f.next) pictures
      by_pointer xs ys t some is cuts true pointer =
          pointer_held kept_front (held_in f.next) xs (left_of r) pictures (kept_between f.pieces (whole_from Between front refl cuts)) pointer some whole
      by_pointer xs ys t some is cuts false pointer =
          let piece = held_in f.next ++ xs in
          let later = left_of (pieces_from t ys) in
          held_too (xs ++ later) (ap left_of is ∙ kept_behind (piece ∷ []) (pieces_from t ys)
          ∙ ap (λ (b : Bool). ((if b then [] else piece) ++ []) ++ later) pointer ∙ ap (λ l. l ++ later) (append-nil piece) ∙ append_assoc (held_in f.next) xs later)

      by : (held_in f.next ≡ []) ⊎ IsCutting f.next → GoesOn f.next rest → ShowsFirst c size (kept_front ++ held_in f.next) pictures
      by (inl none) on = held_too (left_of r) (ap (λ l. l ++ left_of r) (sym none))
      by (inr cuts) (Unfinished none held) = held_too rest (ap (λ cut. kept_pieces cut ++ held_in r.next) none ∙ held)
      by (inr cuts) (Finished xs ys some rest_is t is) = by_pointer xs ys t some is cuts (is_pointer (held_in f.next ++ xs)) refl
