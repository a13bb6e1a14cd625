-- The image's pixels, one after the other.
use Rattle.std.proofs.Common.{◌≡◌, ℕ, suc, ◌+◌, ◌*◌, ◌/◌, ◌%◌, ◌<◌, List, [], ◌∷◌, ◌++◌, length, take, set, refl, ap, sym, ◌∙◌, arith}
use Rattle.std.proofs.lemmas.Grind.{take-set_at}
use Rattle.std.proofs.lemmas.List.{take_all}
use Rattle.px_core.specs.Picture.{listed}
use Rattle.px_core.proofs.Pictures.{listed-more}
use Rattle.session_rules.specs.Board.{shaded}

abbrev pub shade_of : ℕ → ℕ
shade_of i = 65536 * (16 * (i % 16)) + (256 * (16 * (i / 16)) + 255)

pub shades_more : (i y : ℕ) (ps : List ℕ) → i < length ps → take i ps ≡ listed i 0 shade_of → y ≡ shade_of i → take (i + 1) (set ps i y) ≡ listed (i + 1) 0 shade_of
shades_more i y ps inside e is =
    let next : i + 1 ≡ suc i = omega arith in
    let from : 0 + i ≡ i = omega arith in
    take-set_at ps i (i + 1) y refl inside
    ∙ ap (λ xs. xs ++ y ∷ []) e
    ∙ ap (λ z. listed i 0 shade_of ++ z ∷ []) (is ∙ ap shade_of (sym from))
    ∙ sym (listed-more i 0 shade_of)
    ∙ ap (λ n. listed n 0 shade_of) (sym next)

pub all_shades : (n : ℕ) (ps : List ℕ) → n ≡ 256 → length ps ≡ 256 → take n ps ≡ listed n 0 shade_of → ps ≡ shaded
all_shades n ps is size e =
    sym (take_all n ps (omega (arith, is, size))) ∙ e ∙ ap (λ m. listed m 0 shade_of) is
