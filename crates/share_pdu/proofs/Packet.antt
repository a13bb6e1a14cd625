-- The packet of a share data PDU that is written is read.
use Rattle.std.proofs.Common.{◌≡◌, ℕ, ◌+◌, ◌-◌, ◌*◌, ◌/◌, ◌%◌, ◌<◌, ◌≤◌, List, [], ◌∷◌, ◌++◌, length, refl, ap, ◌∙◌, arith, Bool, true, false}
use Rattle.std.specs.Prelude.{Ok, nat_lt, ◌==◌, if◌then◌else◌}
use Rattle.std.proofs.lemmas.Bool.Decides.{nat_tests}
use Rattle.byteorder.specs.Endian.{big_bytes}
use Rattle.wire_num.specs.Field.{then_read}
use Rattle.wire_num.specs.Length.{per_len_of, per_len_at}
use Rattle.mcs_dom.specs.SendData.{indication_start}
use Rattle.share_pdu.specs.Share.{share_bytes}
use Rattle.share_pdu.specs.Packet.{counted_data, data_indication_at}
use Rattle.share_pdu.proofs.Share.{length_share, share_back}

-- ---- packed lengths

by_form : (n : ℕ) (rest : List ℕ) (b : Bool) → nat_lt n 128 ≡ b → n < 16384 →
    per_len_at ((if b then n ∷ [] else big_bytes 2 (32768 + n)) ++ rest) ≡ Ok (n, rest)
by_form n rest true e h = rw e refl
by_form n rest false e h =
    let high : (32768 + n) / 256 % 256 ≡ 128 + n / 256 = omega (arith, h) in
    let low : (32768 + n) % 256 ≡ n % 256 = omega arith in
    let long : nat_lt (128 + n / 256) 128 ≡ false = grind (arith, nat_tests) in
    let tops : nat_lt (128 + n / 256) 192 ≡ true = grind (arith, nat_tests, h) in
    let value : 256 * ((128 + n / 256) - 128) + n % 256 ≡ n = omega arith in
    rw (high, low, long, tops, value) refl

pub per_back : (n : ℕ) (rest : List ℕ) → n < 16384 → per_len_at (per_len_of n ++ rest) ≡ Ok (n, rest)
per_back n rest h = by_form n rest (nat_lt n 128) refl h

pub per_short : (n : ℕ) → length (per_len_of n) ≤ 2
per_short n = by (nat_lt n 128)
  where
    by : (b : Bool) → length (if b then n ∷ [] else big_bytes 2 (32768 + n)) ≤ 2
    by true = omega arith
    by false = omega arith

-- ---- a share data PDU

counted_back : (kind : ℕ) (body : List ℕ) → 18 + length body < 65536 →
    counted_data kind (length (share_bytes kind body)) (share_bytes kind body) ≡ Ok (record { bytes = body; behind = length body }, [])
counted_back kind body h =
    let same : (length (share_bytes kind body) == length (share_bytes kind body)) ≡ true = grind (arith, nat_tests) in
    rw same (share_back kind body h)

-- what a packet carries in its X.224 data
abbrev pub carried : ℕ → List ℕ → List ℕ
carried kind body = indication_start ++ (per_len_of (length (share_bytes kind body)) ++ share_bytes kind body)

pub indication_back : (kind : ℕ) (body : List ℕ) → 18 + length body < 16384 →
    data_indication_at kind (2 ∷ 0xF0 ∷ 0x80 ∷ carried kind body) ≡ Ok (record { bytes = body; behind = length body }, [])
indication_back kind body h =
    let n : length (share_bytes kind body) < 16384 = rw (length_share kind body) h in
    let few : 18 + length body < 65536 = omega (arith, h) in
    ap (λ r. then_read r (λ m f. counted_data kind m f)) (per_back (length (share_bytes kind body)) (share_bytes kind body) n) ∙ counted_back kind body few
