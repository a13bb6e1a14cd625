-- How many bytes a packet lacks.
use Rattle.std.proofs.Common.{◌≡◌, ℕ, ◌+◌, ◌*◌, ◌<◌, ◌≤◌, List, [], ◌∷◌, ◌++◌, length, length-append, arith}
use Rattle.tpkt_x224.specs.declared.tpkt.Packet.TheVariants.{Whole, Part, NotTpkt}
use Rattle.tpkt_x224.specs.Tpkt.{packet_at, after_version, wanted_length}
use Rattle.tpkt_x224.proofs.Heads.{of_length_whole, of_length_part, right_version, whole_bounds}

not_part : Part ≡ NotTpkt → ⊥
not_part e = cc

not_whole : (n : ℕ) → Whole n ≡ NotTpkt → ⊥
not_whole n e = cc

-- some, where no rule is broken so far
pub lacks : (part : List ℕ) → packet_at part ≡ Part → length part < wanted_length part
lacks [] e = omega arith
lacks (v ∷ []) e = omega arith
lacks (v ∷ r ∷ []) e = omega arith
lacks (v ∷ r ∷ h ∷ []) e = omega arith
lacks (v ∷ r ∷ h ∷ l ∷ carried) e =
    let s = right_version v (after_version (r ∷ h ∷ l ∷ carried)) Part not_part e in
    let f = of_length_part (256 * h + l) (length carried) s.1 in
    omega (arith, f.1)

few : (part chunk : List ℕ) (n : ℕ) → length (part ++ chunk) ≤ 4 → packet_at (part ++ chunk) ≡ Whole n → n ≡ length (part ++ chunk)
few part chunk n h e = let b = whole_bounds (part ++ chunk) n e in absurd (omega (arith, b.0, b.1, h))

-- with no more bytes than these a packet isn't whole, or is all that is there
pub alone : (part chunk : List ℕ) (n : ℕ) → length chunk + length part ≤ wanted_length part → packet_at (part ++ chunk) ≡ Whole n → n ≡ length (part ++ chunk)
alone [] chunk n h e = few [] chunk n (omega (arith, h)) e
alone (v ∷ []) chunk n h e = few (v ∷ []) chunk n (omega (arith, h)) e
alone (v ∷ r ∷ []) chunk n h e = few (v ∷ r ∷ []) chunk n (omega (arith, h)) e
alone (v ∷ r ∷ g ∷ []) chunk n h e = few (v ∷ r ∷ g ∷ []) chunk n (omega (arith, h)) e
alone (v ∷ r ∷ g ∷ l ∷ carried) chunk n h e =
    let s = right_version v (after_version (r ∷ g ∷ l ∷ (carried ++ chunk))) (Whole n) (not_whole n) e in
    let f = of_length_whole (256 * g + l) (length (carried ++ chunk)) n s.1 in
    let both : length (carried ++ chunk) ≡ length carried + length chunk = length-append carried chunk in
    omega (arith, f.0, f.2, both, h)
