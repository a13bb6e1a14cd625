-- A share data PDU that is written is read.
use Rattle.std.proofs.Common.{◌≡◌, ℕ, ◌+◌, ◌-◌, ◌<◌, List, [], ◌∷◌, ◌++◌, length, ap, arith, true}
use Rattle.std.specs.Prelude.{Ok, nat_le, ◌&&◌, ◌==◌}
use Rattle.std.proofs.lemmas.List.{append-nil}
use Rattle.std.proofs.lemmas.Bool.Decides.{nat_tests}
use Rattle.byteorder.specs.Endian.{little_bytes}
use Rattle.wire_num.specs.Number.{little_value}
use Rattle.wire_num.proofs.Bytes.{taken_all}
use Rattle.wire_num.proofs.Numbers.{little_back}
use Rattle.share_pdu.specs.Share.{share_bytes, data_at}

-- what stands behind the total
abbrev headers : ℕ → List ℕ → List ℕ
headers kind body = 0x17 ∷ 0 ∷ 0xEA ∷ 3 ∷ 0xEA ∷ 3 ∷ 1 ∷ 0 ∷ 0 ∷ 1 ∷ (little_bytes 2 (4 + length body) ++ kind ∷ 0 ∷ 0 ∷ 0 ∷ body)

pub length_share : (kind : ℕ) (body : List ℕ) → length (share_bytes kind body) ≡ 18 + length body
length_share kind body = omega arith

pub share_back : (kind : ℕ) (body : List ℕ) → 18 + length body < 65536 → data_at kind (share_bytes kind body) ≡ Ok (record { bytes = body; behind = length body }, [])
share_back kind body h =
    let fits : (nat_le 6 (18 + length body) && nat_le (18 + length body) (length (share_bytes kind body))) ≡ true = grind (arith, nat_tests) in
    let left : (18 + length body) - 2 ≡ length (headers kind body) = omega arith in
    let value : little_value (little_bytes 2 (18 + length body)) ≡ 18 + length body = little_back 2 (18 + length body) h in
    let same : (kind == kind) ≡ true = grind (arith, nat_tests) in
    rw (value, fits, left, taken_all (share_bytes kind body) (headers kind body), same) (ap (λ n. Ok (record { bytes = body; behind = n }, [])) (ap length (append-nil body)))
