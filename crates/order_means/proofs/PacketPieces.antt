-- A packet that is written is one piece, and a front of it none.
use Rattle.std.proofs.Common.{◌≡◌, ℕ, zero, suc, ◌+◌, ◌-◌, ◌*◌, ◌/◌, ◌%◌, ◌<◌, ◌≤◌, Bool, true, List, [], ◌∷◌, ◌++◌, length, refl, ap, sym, ◌∙◌, subst, arith}
use Rattle.std.specs.Prelude.{None, nat_le, flat_map}
use Rattle.std.proofs.lemmas.Bool.Decides.{nat_tests}
use Rattle.tpkt_x224.specs.declared.tpkt.Packet.TheVariants.{Part, NotTpkt}
use Rattle.tpkt_x224.specs.Tpkt.{IsPacket, packet_at, after_version}
use Rattle.tpkt_x224.proofs.Heads.{right_version, of_length_part, part_head}
use Rattle.share_pdu.specs.Packet.{share_packet}
use Rattle.share_pdu.proofs.Packet.{carried}
use Rattle.px_core.specs.Picture.{turned}
use Rattle.order_means.specs.Updates.{cutting, updates_from, rest_of, refusal_in}
use Rattle.order_means.specs.Updates.Stage.{Between as NoneBegun}
use Rattle.order_means.specs.Packets.{before_pieces, held_in, pieces_from, pieces_in}
use Rattle.order_means.specs.Packets.PacketStage.{Inside}
use Rattle.order_means.proofs.Cut.{part_left}
use Rattle.order_means.proofs.PointerFound.{behind_head, high_low, size_fits}
use Rattle.order_means.proofs.PieceJoined.{joined}

-- ---- whole packets

-- the rest of a packet, and what follows it
inside_cut : (held : List ℕ) (b : ℕ) (tail more : List ℕ) → pieces_from (Inside (length tail) held) ((b ∷ tail) ++ more) ≡ before_pieces (turned held (b ∷ tail) ∷ []) (pieces_in more)
inside_cut held b [] more = refl
inside_cut held b (c ∷ tail) more = inside_cut (b ∷ held) c tail more

-- a whole packet at the front
packet_cut : (second high low b : ℕ) (tail more : List ℕ) → 256 * high + low ≡ 5 + length tail → 2 ≤ length tail →
    pieces_in (3 ∷ second ∷ high ∷ low ∷ ((b ∷ tail) ++ more)) ≡ before_pieces ((3 ∷ second ∷ high ∷ low ∷ b ∷ tail) ∷ []) (pieces_in more)
packet_cut second high low b tail more total enough =
    let long : nat_le 7 (256 * high + low) ≡ true = grind (arith, nat_tests, total, enough) in
    let left : (256 * high + low) - 4 ≡ suc (length tail) = omega (arith, total) in
    rw (long, left) (inside_cut (low ∷ high ∷ second ∷ 3 ∷ []) b tail more)

pub share_cut : (kind : ℕ) (body more : List ℕ) → 18 + length body < 16384 → pieces_in (share_packet kind body ++ more) ≡ before_pieces (share_packet kind body ∷ []) (pieces_in more)
share_cut kind body more h =
    let tail = 0xF0 ∷ 0x80 ∷ carried kind body in
    let n = 4 + length (2 ∷ tail) in
    let total : 256 * ((n / 256) % 256) + n % 256 ≡ 5 + length tail = high_low n (size_fits kind body h) ∙ omega arith in
    packet_cut 0 ((n / 256) % 256) (n % 256) 2 tail more total (omega arith)

-- ---- a front

-- no piece is whole, and all is held
inside_held : (missing : ℕ) (held bs : List ℕ) → length bs ≤ missing → (pieces_from (Inside missing held) bs).pieces ≡ []
inside_held missing held [] few = refl
inside_held zero held (b ∷ bs) few = absurd (omega (arith, few))
inside_held (suc n) held (b ∷ bs) few = inside_held n (b ∷ held) bs (omega (arith, few))

part_none : (bytes : List ℕ) → packet_at bytes ≡ Part → (pieces_in bytes).pieces ≡ []
part_none [] e = refl
part_none (v ∷ bs) e =
    let other : Part ≡ NotTpkt → ⊥ = λ f. cc in
    let s = right_version v (after_version bs) Part other e in
    subst (λ w. (pieces_in (w ∷ bs)).pieces ≡ []) (sym s.0) (behind bs s.1)
  where
    behind : (bs : List ℕ) → after_version bs ≡ Part → (pieces_in (3 ∷ bs)).pieces ≡ []
    behind [] f = refl
    behind (r ∷ []) f = refl
    behind (r ∷ h ∷ []) f = refl
    behind (r ∷ h ∷ l ∷ carried) f =
        let size = of_length_part (256 * h + l) (length carried) f in
        let long : nat_le 7 (256 * h + l) ≡ true = grind (arith, nat_tests, size.0) in
        let left : (256 * h + l) - 4 ≡ suc ((256 * h + l) - 5) = omega (arith, size.0) in
        rw (long, left) (inside_held ((256 * h + l) - 5) (l ∷ h ∷ r ∷ 3 ∷ []) carried (omega (arith, size.0, size.1)))

part_held : (bytes : List ℕ) → packet_at bytes ≡ Part → held_in (pieces_in bytes).next ≡ bytes
part_held bytes e = sym (ap (λ cut. flat_map (λ piece. piece) cut ++ held_in (pieces_in bytes).next) (part_none bytes e)) ∙ joined bytes

-- a packet that is written is one
is_packet : (kind : ℕ) (body : List ℕ) → 18 + length body < 16384 → IsPacket (share_packet kind body)
is_packet kind body h = (refl, high_low (4 + length (behind_head kind body)) (size_fits kind body h), omega arith)

front_part : (kind : ℕ) (body xs ys : List ℕ) → 18 + length body < 16384 → share_packet kind body ≡ xs ++ ys → 0 < length ys → packet_at xs ≡ Part
front_part kind body xs ys h e some = (part_head xs).1 (ys, some, subst (λ (p : List ℕ). IsPacket p) e (is_packet kind body h))

-- a viewer reads it as a front, too
pub front_cut : (kind : ℕ) (body xs ys : List ℕ) → 18 + length body < 16384 → share_packet kind body ≡ xs ++ ys → 0 < length ys →
    ((pieces_in xs).pieces ≡ []) × (held_in (pieces_in xs).next ≡ xs)
    × ((fast : Bool) (at : ℕ) → ((updates_from fast (cutting at NoneBegun) xs).bodies ≡ []) × (refusal_in (updates_from fast (cutting at NoneBegun) xs).next.stage ≡ None)
    × (rest_of (updates_from fast (cutting at NoneBegun) xs).next.stage ≡ xs))
front_cut kind body xs ys h e some =
    let part = front_part kind body xs ys h e some in
    (part_none xs part, part_held xs part, λ fast at. let left = part_left fast at xs part in (left.0, left.2, left.1))
