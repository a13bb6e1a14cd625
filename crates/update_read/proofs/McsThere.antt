-- Headers that stand there.
use Rattle.std.proofs.Common.{◌≡◌, ◌≤◌, ℕ, List, [], ◌∷◌, length, get_or, refl, arith}
use Rattle.std.specs.Prelude.{Ok}
use Rattle.wire_num.specs.Field.{bytes_at}
use Rattle.order_means.specs.PointerPackets.{mcs_at}
use Rattle.wire_num.proofs.ReadIsText.{bytes_ok}

-- the headers before the length, read at once
pub mcs_there : (bs front after : List ℕ) → 9 ≤ length bs → get_or bs 0 0 ≡ 2 → get_or bs 1 0 ≡ 0xF0 → get_or bs 2 0 ≡ 0x80 → get_or bs 3 0 ≡ 0x68 → get_or bs 4 0 ≡ 0 → get_or bs 5 0 ≡ 1
    → get_or bs 6 0 ≡ 3 → get_or bs 7 0 ≡ 0xEB → get_or bs 8 0 ≡ 0x70 → bytes_at 9 bs ≡ Ok (front, after) → mcs_at bs ≡ Ok ([], after)
mcs_there (a ∷ b ∷ c ∷ d ∷ e ∷ f ∷ g ∷ h ∷ i ∷ more) front after many p q r s t u v w x read =
    rw (p, q, r, s, t, u, v, w, x) (let is = (bytes_ok 9 (a ∷ b ∷ c ∷ d ∷ e ∷ f ∷ g ∷ h ∷ i ∷ more) (front, after) read).2 in rw is refl)
mcs_there [] front after many p q r s t u v w x read = absurd (omega (arith, many))
mcs_there (a ∷ []) front after many p q r s t u v w x read = absurd (omega (arith, many))
mcs_there (a ∷ b ∷ []) front after many p q r s t u v w x read = absurd (omega (arith, many))
mcs_there (a ∷ b ∷ c ∷ []) front after many p q r s t u v w x read = absurd (omega (arith, many))
mcs_there (a ∷ b ∷ c ∷ d ∷ []) front after many p q r s t u v w x read = absurd (omega (arith, many))
mcs_there (a ∷ b ∷ c ∷ d ∷ e ∷ []) front after many p q r s t u v w x read = absurd (omega (arith, many))
mcs_there (a ∷ b ∷ c ∷ d ∷ e ∷ f ∷ []) front after many p q r s t u v w x read = absurd (omega (arith, many))
mcs_there (a ∷ b ∷ c ∷ d ∷ e ∷ f ∷ g ∷ []) front after many p q r s t u v w x read = absurd (omega (arith, many))
mcs_there (a ∷ b ∷ c ∷ d ∷ e ∷ f ∷ g ∷ h ∷ []) front after many p q r s t u v w x read = absurd (omega (arith, many))
