-- A packet that is written is found to be one of a pointer, or refused as one.
use Rattle.std.proofs.Common.{◌≡◌, ℕ, ◌+◌, ◌-◌, ◌*◌, ◌/◌, ◌%◌, ◌<◌, ◌≤◌, List, [], ◌∷◌, ◌++◌, length, drop, refl, ap, ◌∙◌, arith, length-append}
use Rattle.std.specs.Prelude.{Bool, true, false, Ok, Err, nat_le, nat_lt, ◌&&◌, ◌==◌, if◌then◌else◌}
use Rattle.std.proofs.lemmas.Bool.Decides.{nat_tests}
use Rattle.byteorder.specs.Endian.{little_bytes}
use Rattle.wire_num.specs.Field.{Read, then_read, kept}
use Rattle.wire_num.specs.Number.{little_value}
use Rattle.wire_num.specs.Length.{per_len_of}
use Rattle.wire_num.proofs.Bytes.{taken_all}
use Rattle.wire_num.proofs.Numbers.{little_back}
use Rattle.tpkt_x224.specs.declared.tpkt.Packet.TheVariants.{Whole, Part, BadLength}
use Rattle.tpkt_x224.specs.Tpkt.{packet_of_length, packet_at}
use Rattle.share_pdu.specs.Share.{share_bytes}
use Rattle.share_pdu.specs.Packet.{share_packet, update_packet}
use Rattle.share_pdu.proofs.Share.{length_share}
use Rattle.share_pdu.proofs.Packet.{per_back, per_short, carried}
use Rattle.order_means.specs.PointerPackets.{pointer_kind, pointer_packet, content_by, content_at, counted_at, indicated_at, is_all, pointer_content, is_read, is_pointer, IsRefused}

-- what stands behind the total
abbrev headers : ℕ → List ℕ → List ℕ
headers kind body = 0x17 ∷ 0 ∷ 0xEA ∷ 3 ∷ 0xEA ∷ 3 ∷ 1 ∷ 0 ∷ 0 ∷ 1 ∷ (little_bytes 2 (4 + length body) ++ kind ∷ 0 ∷ 0 ∷ 0 ∷ body)

-- behind the kind that is wanted, or refused at another one
abbrev pub by_kind : Bool → List ℕ → List ℕ → Read (List ℕ)
by_kind true front rest = Ok (rest, [])
by_kind false front rest = Err (front ++ [])

abbrev found : ℕ → ℕ → List ℕ → Read (List ℕ)
found wanted kind body = by_kind (wanted == kind) (kind ∷ 0 ∷ 0 ∷ 0 ∷ body) (0 ∷ 0 ∷ 0 ∷ body)

by_test : (b : Bool) (front rest : List ℕ) → content_by (kept b (Ok ([], rest)) front) [] ≡ by_kind b front rest
by_test true front rest = refl
by_test false front rest = refl

content_back : (wanted kind : ℕ) (body : List ℕ) → 18 + length body < 65536 → content_at wanted (share_bytes kind body) ≡ found wanted kind body
content_back wanted kind body h =
    let fits : (nat_le 6 (18 + length body) && nat_le (18 + length body) (length (share_bytes kind body))) ≡ true = grind (arith, nat_tests) in
    let left : (18 + length body) - 2 ≡ length (headers kind body) = omega arith in
    let value : little_value (little_bytes 2 (18 + length body)) ≡ 18 + length body = little_back 2 (18 + length body) h in
    rw (value, fits, left, taken_all (share_bytes kind body) (headers kind body)) (by_test (wanted == kind) (kind ∷ 0 ∷ 0 ∷ 0 ∷ body) (0 ∷ 0 ∷ 0 ∷ body))

counted_back : (wanted kind : ℕ) (body : List ℕ) → 18 + length body < 65536 → counted_at wanted (length (share_bytes kind body)) (share_bytes kind body) ≡ found wanted kind body
counted_back wanted kind body h =
    let same : (length (share_bytes kind body) == length (share_bytes kind body)) ≡ true = grind (arith, nat_tests) in
    ap (λ b. kept b (content_at wanted (share_bytes kind body)) (share_bytes kind body)) same ∙ content_back wanted kind body h

-- what a packet has behind its header
abbrev pub behind_head : ℕ → List ℕ → List ℕ
behind_head kind body = 2 ∷ 0xF0 ∷ 0x80 ∷ carried kind body

indicated_back : (wanted kind : ℕ) (body : List ℕ) → 18 + length body < 16384 → indicated_at wanted (behind_head kind body) ≡ found wanted kind body
indicated_back wanted kind body h =
    let n : length (share_bytes kind body) < 16384 = rw (length_share kind body) h in
    let few : 18 + length body < 65536 = omega (arith, h) in
    ap (λ r. then_read r (λ n f. counted_at wanted n f)) (per_back (length (share_bytes kind body)) (share_bytes kind body) n) ∙ counted_back wanted kind body few

pub high_low : (n : ℕ) → n < 65536 → 256 * ((n / 256) % 256) + n % 256 ≡ n
high_low n h = omega (arith, h)

-- a packet's length has place in two bytes
pub size_fits : (kind : ℕ) (body : List ℕ) → 18 + length body < 16384 → 4 + length (behind_head kind body) < 65536
size_fits kind body h =
    let user = length_share kind body in
    let per = per_short (length (share_bytes kind body)) in
    let inner = length-append (per_len_of (length (share_bytes kind body))) (share_bytes kind body) in
    omega (arith, user, per, inner, h)

-- the packet is whole
all_there : (kind : ℕ) (body : List ℕ) → 18 + length body < 16384 → is_all (packet_at (share_packet kind body)) (length (share_packet kind body)) ≡ true
all_there kind body h =
    let n = 4 + length (behind_head kind body) in
    let enough : nat_lt n 7 ≡ false = grind (arith, nat_tests) in
    let there : nat_lt (4 + length (behind_head kind body)) n ≡ false = grind (arith, nat_tests) in
    let size : length (share_packet kind body) ≡ n = omega arith in
    let same : (n == length (share_packet kind body)) ≡ true = grind (arith, nat_tests, size) in
    ap (λ k. is_all (packet_of_length k (length (behind_head kind body))) (length (share_packet kind body))) (high_low n (size_fits kind body h))
    ∙ ap (λ b. is_all (if b then BadLength else (if nat_lt (4 + length (behind_head kind body)) n then Part else Whole n)) (length (share_packet kind body))) enough
    ∙ ap (λ b. is_all (if b then Part else Whole n) (length (share_packet kind body))) there ∙ same

packet_back : (kind : ℕ) (body : List ℕ) → 18 + length body < 16384 → pointer_content (share_packet kind body) ≡ found pointer_kind kind body
packet_back kind body h =
    ap (λ b. kept b (indicated_at pointer_kind (drop 4 (share_packet kind body))) (share_packet kind body)) (all_there kind body h) ∙ indicated_back pointer_kind kind body h

pub written_back : (message : List ℕ) → length message ≤ 16365 → pointer_content (pointer_packet message) ≡ Ok (0 ∷ 0 ∷ 0 ∷ message, [])
written_back message h = packet_back pointer_kind message (omega (arith, h))

pub update_refused : (body : List ℕ) → length body ≤ 16365 → IsRefused (pointer_content (update_packet body))
update_refused body h = ((2 ∷ 0 ∷ 0 ∷ 0 ∷ body) ++ [], packet_back 2 body (omega (arith, h)))

-- so it is a pointer's
pub pointer_told : (message : List ℕ) → length message ≤ 16365 → is_pointer (pointer_packet message) ≡ true
pointer_told message h = ap is_read (written_back message h)
