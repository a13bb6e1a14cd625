-- The first pixel that is set, looked for one after the other; and how long what was read is.
use Rattle.std.proofs.Common.{◌≡◌, ◌<◌, ◌+◌, ◌-◌, ℕ, suc, List, length, take, drop, ap, sym, ◌∙◌, arith, true, false}
use Rattle.std.specs.Prelude.{Bool, Ok, nat_lt, slice_index, if◌then◌else◌}
use Rattle.std.proofs.lemmas.List.{length-take-le}
use Rattle.wire_num.specs.Field.{bytes_at}
use Rattle.wire_num.proofs.Bytes.{bytes_at_is}
use Rattle.wire_num.proofs.Steps.{short_ok, fits}
use Rattle.pointer_share.specs.Outlines.{blue_place, is_set, first_blue}

left : (count k : ℕ) → k < count → count - k ≡ suc (count - (k + 1))
left count k h = omega (arith, h)

abbrev by_pixel : Bool → List ℕ → List ℕ → ℕ → ℕ → Bool → ℕ
by_pixel wide xor mask n k b = if b then slice_index xor (blue_place wide k) else first_blue wide xor mask n (k + 1)

pub found_here : (wide : Bool) (xor mask : List ℕ) (count k whole : ℕ) → k < count → is_set wide mask k ≡ true → first_blue wide xor mask (count - k) k ≡ whole → slice_index xor (blue_place wide k) ≡ whole
found_here wide xor mask count k whole h e is =
    sym (ap (λ n. first_blue wide xor mask n k) (left count k h) ∙ ap (by_pixel wide xor mask (count - (k + 1)) k) e) ∙ is

pub goes_on : (wide : Bool) (xor mask : List ℕ) (count k whole : ℕ) → k < count → is_set wide mask k ≡ false → first_blue wide xor mask (count - k) k ≡ whole → first_blue wide xor mask (count - (k + 1)) (k + 1) ≡ whole
goes_on wide xor mask count k whole h e is =
    sym (ap (λ n. first_blue wide xor mask n k) (left count k h) ∙ ap (by_pixel wide xor mask (count - (k + 1)) k) e) ∙ is

pub none_left : (wide : Bool) (xor mask : List ℕ) (count k whole : ℕ) → count - k ≡ 0 → first_blue wide xor mask (count - k) k ≡ whole → 0 ≡ whole
none_left wide xor mask count k whole none is = sym (ap (λ n. first_blue wide xor mask n k) none) ∙ is

pub taken_length : (n : ℕ) (bs part more : List ℕ) → bytes_at n bs ≡ Ok (part, more) → length part ≡ n
taken_length n bs part more e =
    let p = short_ok (nat_lt (length bs) n) bs (take n bs, drop n bs) (part, more) (sym (bytes_at_is n bs) ∙ e) in
    ap length (sym (ap (λ x. x.0) p.1)) ∙ length-take-le n bs (fits n (length bs) p.0)
