-- A whole packet, and what stands behind its kind.
use Rattle.std.proofs.Common.{◌≡◌, ◌≤◌, ℕ, List, length, drop, ap, sym, subst, arith, true, false}
use Rattle.std.specs.Prelude.{Result, Err}
use Rattle.std.proofs.lemmas.Bool.Decides.{nat_tests}
use Rattle.wire_num.specs.Field.{Read, kept}
use Rattle.wire_num.specs.Cursor.{CursorOf}
use Rattle.wire_num.specs.declared.short.Short.{Short}
use Rattle.tpkt_x224.specs.declared.tpkt.Packet.{Packet}
use Rattle.tpkt_x224.specs.declared.tpkt.Packet.TheVariants.{Whole, Part, NotTpkt, BadLength}
use Rattle.tpkt_x224.specs.Tpkt.{packet_at}
use Rattle.tpkt_x224.proofs.Heads.{whole_bounds}
use Rattle.order_means.specs.PointerPackets.{indicated_at, is_all}
use Rattle.update_read.specs.PacketParts.{packet_content, FindsContent}

all_is : (p : Packet) (size : ℕ) → is_all p size ≡ true → p ≡ Whole size
all_is (Whole n) size e = let same : n ≡ size = grind (arith, nat_tests, e) in ap (λ (k : ℕ). Whole k) same
all_is Part size e = absurd (let no : ⊥ = cc in no)
all_is NotTpkt size e = absurd (let no : ⊥ = cc in no)
all_is BadLength size e = absurd (let no : ⊥ = cc in no)

pub packet_bounds : (packet : List ℕ) → is_all (packet_at packet) (length packet) ≡ true → 4 ≤ length packet
packet_bounds packet e = let b = (whole_bounds packet (length packet) (all_is (packet_at packet) (length packet) e)).0 in omega (arith, b)

pub not_packet : (kind : ℕ) (packet : List ℕ) → is_all (packet_at packet) (length packet) ≡ false → packet_content kind packet ≡ Err packet
not_packet kind packet e = ap (λ b. kept b (indicated_at kind (drop 4 packet)) packet) e

pub is_packet : (kind : ℕ) (packet : List ℕ) → is_all (packet_at packet) (length packet) ≡ true → indicated_at kind (drop 4 packet) ≡ packet_content kind packet
is_packet kind packet e = ap (λ b. kept b (indicated_at kind (drop 4 packet)) packet) (sym e)

pub found_as : (result : Result CursorOf Short) (packet other : List ℕ) (found first : Read (List ℕ)) → packet ≡ other → found ≡ first → FindsContent packet found result → FindsContent other first result
found_as result packet other found first e f h = subst (λ (p : List ℕ). FindsContent p first result) e (subst (λ (r : Read (List ℕ)). FindsContent packet r result) f h)
