-- What is read before more bytes, and a told pointer packet, without pointers.
use Rattle.std.proofs.Common.{◌≡◌, ℕ, ◌≤◌, Bool, List, [], ◌∷◌, ◌++◌, length, refl, ap, sym, ◌∙◌, arith, append_assoc}
use Rattle.std.specs.Prelude.{None, filter, flat_map, if◌then◌else◌}
use Rattle.std.specs.List.{AllByRecursion}
use Rattle.std.proofs.lemmas.List.{append-nil}
use Rattle.std.proofs.lemmas.List.Elements.{filter-append}
use Rattle.std.proofs.lemmas.Grind.{flat_map-append}
use Rattle.order_means.specs.Updates.{cutting, updates_from, refusal_in}
use Rattle.order_means.specs.Updates.Stage.{Between}
use Rattle.order_means.specs.PointerPackets.{pointer_kind, pointer_packet, is_pointer}
use Rattle.order_means.specs.Packets.{Pieces, before_pieces, held_in, kept_piece, kept_pieces, pieces_from, pieces_in, without_pointers, pointer_packets}
use Rattle.order_means.specs.Packets.PacketStage.{Between as NoPacket}
use Rattle.order_means.proofs.PieceJoined.{pieces_joined, joined}
use Rattle.order_means.proofs.PointerFound.{pointer_told}
use Rattle.order_means.proofs.PacketPieces.{share_cut}
use Rattle.order_means.proofs.ReadPieces.{IsNoPointer, none_refused, no_pointers}

-- what is left of pieces
abbrev kept_of : Pieces → List ℕ
kept_of p = kept_pieces p.pieces ++ held_in p.next

kept_behind : (cut : List (List ℕ)) (p : Pieces) → kept_of (before_pieces cut p) ≡ kept_pieces cut ++ kept_of p
kept_behind cut p = ap (λ xs. xs ++ held_in p.next) (flat_map-append kept_piece cut p.pieces) ∙ append_assoc (kept_pieces cut) (kept_pieces p.pieces) (held_in p.next)

-- none is dropped where none is a pointer's
all_kept : (cut : List (List ℕ)) → AllByRecursion IsNoPointer cut → kept_pieces cut ≡ flat_map (λ piece. piece) cut
all_kept [] free = refl
all_kept (piece ∷ cut) free = ap (λ t. (if t then [] else piece) ++ kept_pieces cut) free.0 ∙ ap (λ xs. piece ++ xs) (all_kept cut free.1)

none_picked : (cut : List (List ℕ)) → AllByRecursion IsNoPointer cut → filter is_pointer cut ≡ []
none_picked [] free = refl
none_picked (piece ∷ cut) free = ap (λ t. if t then piece ∷ filter is_pointer cut else filter is_pointer cut) free.0 ∙ none_picked cut free.1

-- ---- what is read

-- a viewer that doesn't refuse these bytes
pub all_stays : (fast : Bool) (at : ℕ) (bytes : List ℕ) → refusal_in (updates_from fast (cutting at Between) bytes).next.stage ≡ None → (without_pointers bytes ≡ bytes) × (pointer_packets bytes ≡ [])
all_stays fast at bytes none =
    let free = none_refused fast at bytes none in
    let cut = pieces_in bytes in
    (ap (λ xs. xs ++ held_in cut.next) (all_kept cut.pieces free) ∙ joined bytes, none_picked cut.pieces free)

-- a viewer reads these bytes, to a place between packets
abbrev pub IsReadTo : Bool → ℕ → List ℕ → ℕ → Type 0
IsReadTo fast at bytes end = (updates_from fast (cutting at Between) bytes).next ≡ cutting end Between

pub cut_before : (fast : Bool) (at : ℕ) (bytes : List ℕ) (end : ℕ) → IsReadTo fast at bytes end → (more : List ℕ) → pieces_in (bytes ++ more) ≡ before_pieces (pieces_in bytes).pieces (pieces_in more)
cut_before fast at bytes end e more =
    pieces_joined NoPacket bytes more ∙ ap (λ s. before_pieces (pieces_in bytes).pieces (pieces_from s more)) (no_pointers fast at bytes end e).0

kept_whole : (fast : Bool) (at : ℕ) (bytes : List ℕ) (end : ℕ) → IsReadTo fast at bytes end → kept_pieces (pieces_in bytes).pieces ≡ bytes
kept_whole fast at bytes end e =
    let read = no_pointers fast at bytes end e in
    let cut = (pieces_in bytes).pieces in
    all_kept cut read.1 ∙ sym (append-nil (flat_map (λ piece. piece) cut)) ∙ ap (λ s. flat_map (λ piece. piece) cut ++ held_in s) (sym read.0) ∙ joined bytes

pub kept_before : (fast : Bool) (at : ℕ) (bytes : List ℕ) (end : ℕ) → IsReadTo fast at bytes end → (more : List ℕ) → without_pointers (bytes ++ more) ≡ bytes ++ without_pointers more
kept_before fast at bytes end e more =
    ap (λ p. kept_of p) (cut_before fast at bytes end e more) ∙ kept_behind (pieces_in bytes).pieces (pieces_in more) ∙ ap (λ xs. xs ++ without_pointers more) (kept_whole fast at bytes end e)

pub none_before : (fast : Bool) (at : ℕ) (bytes : List ℕ) (end : ℕ) → IsReadTo fast at bytes end → (more : List ℕ) → pointer_packets (bytes ++ more) ≡ pointer_packets more
none_before fast at bytes end e more =
    ap (λ (p : Pieces). filter is_pointer p.pieces) (cut_before fast at bytes end e more)
    ∙ filter-append is_pointer (pieces_in bytes).pieces (pieces_in more).pieces
    ∙ ap (λ xs. xs ++ pointer_packets more) (none_picked (pieces_in bytes).pieces (no_pointers fast at bytes end e).1)

-- ---- what is told

told_cut : (message more : List ℕ) → length message ≤ 16365 → pieces_in (pointer_packet message ++ more) ≡ before_pieces (pointer_packet message ∷ []) (pieces_in more)
told_cut message more h = share_cut pointer_kind message more (omega (arith, h))

pub told_taken : (message more : List ℕ) → length message ≤ 16365 → without_pointers (pointer_packet message ++ more) ≡ without_pointers more
told_taken message more h =
    ap (λ p. kept_of p) (told_cut message more h) ∙ kept_behind (pointer_packet message ∷ []) (pieces_in more)
    ∙ ap (λ t. ((if t then [] else pointer_packet message) ++ []) ++ without_pointers more) (pointer_told message h)

pub told_picked : (message more : List ℕ) → length message ≤ 16365 → pointer_packets (pointer_packet message ++ more) ≡ pointer_packet message ∷ pointer_packets more
told_picked message more h =
    ap (λ (p : Pieces). filter is_pointer p.pieces) (told_cut message more h)
    ∙ ap (λ t. if t then pointer_packet message ∷ pointer_packets more else pointer_packets more) (pointer_told message h)
