-- A viewer's desk stays one while pointers are noted, and its packet is what goes before the viewer's frame.
use Rattle.std.proofs.Common.{◌≡◌, ℕ, List, [], refl, ap, sym, ◌∙◌, arith, Some, None}
use Rattle.std.specs.Prelude.{Bool, false, ◌==◌, Option, Vec, Result, Ok, Err, IfOk, if◌then◌else◌}
use Rattle.std.proofs.lemmas.Bool.Decides.{nat_tests}
use Rattle.caps_sets.specs.declared.confirmed.Confirmed.{Confirmed}
use Rattle.caps_sets.specs.Confirmed.{pointer_cells}
use Rattle.frame_rules.specs.Told.{told_packet, bytes_told, pointer_bytes}
use Rattle.pointer_share.specs.Desk.{DeskOf, packet_bytes, ServesViewer, IsDeskOf, IsNoted, noted_with, bytes_of}

-- ---- as pointers are noted

pub desk_noted : (c : Confirmed) (told : List ℕ) (key : ℕ) (desk : Option DeskOf) → IsDeskOf c told desk → IsDeskOf c told (noted_with key desk)
desk_noted c told key None is = is
desk_noted c told key (Some d) is = record { cells = is.cells; entries = is.entries; form = is.form; told = record { cache = is.told.cache; told = is.told.told } }

pub is_noted : (key : ℕ) (desk : Option DeskOf) → IsNoted (noted_with key desk) key
is_noted key None = tt
is_noted key (Some d) = refl

-- ---- as a pointer is told

abbrev bytes_by : Confirmed → List ℕ → ℕ → Bool → List ℕ
bytes_by c told key none = if none then [] else bytes_told (told_packet c.cautious (pointer_cells c) told key)

packet_told : (c : Confirmed) (told : List ℕ) (key : ℕ) (d : DeskOf) (packet : Option (List ℕ)) → ServesViewer c told d → d.noted ≡ key → packet ≡ told_packet d.wide d.cache.entries told d.noted → bytes_told packet ≡ pointer_bytes c told key
packet_told c told key d packet is noted e =
    let cells = is.cells in
    let some : (pointer_cells c == 0) ≡ false = grind (arith, nat_tests, cells) in
    ap bytes_told (e ∙ ap (λ (w : Bool). told_packet w d.cache.entries told d.noted) is.form ∙ ap (λ n. told_packet c.cautious n told d.noted) is.entries ∙ ap (told_packet c.cautious (pointer_cells c) told) noted)
    ∙ sym (ap (bytes_by c told key) some)

-- the packet of a desk is what goes before the frame
pub desk_tells : {Z E : Type 0} (c : Confirmed) (told : List ℕ) (key : ℕ) (d : DeskOf) (r : Result (Option (Vec ℕ Z)) E) → ServesViewer c told d → d.noted ≡ key → IfOk r (λ packet. packet_bytes packet ≡ told_packet d.wide d.cache.entries told d.noted)
    → IfOk r (λ packet. bytes_of packet ≡ pointer_bytes c told key)
desk_tells c told key d (Ok packet) is noted e = packet_told c told key d (packet_bytes packet) is noted e
desk_tells c told key d (Err f) is noted e = tt
