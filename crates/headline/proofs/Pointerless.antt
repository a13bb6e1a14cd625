-- A viewer without pointer cells is sent no packets of pointers.
use Rattle.std.proofs.Common.{◌≡◌, ℕ, List, [], ◌∷◌, ◌++◌, ap, ◌∙◌, refl}
use Rattle.std.specs.Prelude.{Bool, true, false, ◌==◌, filter, flat_map, if◌then◌else◌}
use Rattle.px_core.specs.declared.surface.Size.{Size}
use Rattle.caps_sets.specs.declared.confirmed.Confirmed.{Confirmed}
use Rattle.caps_sets.specs.Confirmed.{pointer_cells}
use Rattle.order_means.specs.PointerPackets.{is_pointer}
use Rattle.order_means.specs.Packets.{held_in, kept_pieces, pieces_in, without_pointers, pointer_packets}
use Rattle.order_means.proofs.PieceJoined.{joined}
use Rattle.session_rules.specs.declared.entry.Entry.{Entry}
use Rattle.frame_rules.specs.Told.{told_packet, told_after, key_at}
use Rattle.headline.specs.Pointed.{listed_packet, packets_told, SeesPointers}

none_told : (c : Confirmed) (size : Size) (j : List Entry) (keys ns : List ℕ) → pointer_cells c ≡ 0 → packets_told c size j keys ns ≡ []
none_told c size j keys [] none = refl
none_told c size j keys (n ∷ ns) none =
    ap (λ cells. (if cells == 0 then [] else listed_packet (told_packet c.cautious (pointer_cells c) keys (key_at size j n))) ++ packets_told c size j (told_after keys (key_at size j n)) ns) none
    ∙ none_told c size j (told_after keys (key_at size j n)) ns none

-- pieces of which none is a pointer's are all kept
all_kept : (cut : List (List ℕ)) → filter is_pointer cut ≡ [] → kept_pieces cut ≡ flat_map (λ piece. piece) cut
all_kept [] none = refl
all_kept (piece ∷ cut) none = by (all_kept cut) (is_pointer piece) none
  where
    by : (filter is_pointer cut ≡ [] → kept_pieces cut ≡ flat_map (λ piece. piece) cut) → (t : Bool) → (if t then piece ∷ filter is_pointer cut else filter is_pointer cut) ≡ []
        → (if t then [] else piece) ++ kept_pieces cut ≡ piece ++ flat_map (λ piece. piece) cut
    by more true h = absurd (cc h)
    by more false h = ap (λ bs. piece ++ bs) (more h)

-- bytes without packets of pointers
all_stays : (bytes : List ℕ) → pointer_packets bytes ≡ [] → without_pointers bytes ≡ bytes
all_stays bytes none = ap (λ bs. bs ++ held_in (pieces_in bytes).next) (all_kept (pieces_in bytes).pieces none) ∙ joined bytes

-- so all its bytes are read
pub all_read : (size : Size) (c : Confirmed) (j : List Entry) (numbers bytes : List ℕ) → pointer_cells c ≡ 0 → SeesPointers size c j numbers bytes → without_pointers bytes ≡ bytes
all_read size c j numbers bytes none sees = all_stays bytes (sees.packets_are_told ∙ none_told c size j [] numbers none)
