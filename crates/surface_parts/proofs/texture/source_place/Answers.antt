use Rattle.std.proofs.Common.{◌≡◌, arith, w64, pos, ◌+ℤ◌, ◌-ℤ◌, ◌≤ℤ◌, to_z, of_z, ℤ, refl, ap, ◌∙◌}
use Rattle.std.specs.Prelude.{nat_abs, negsuc}
use Rattle.std.proofs.lemmas.Int.{ints}
use Rattle.surface_parts.proofs.texture.source_place.Goals as goal

not_negative : (z : ℤ) → pos 0 ≤ℤ z → pos (nat_abs z) ≡ z
not_negative (pos n) h = refl
not_negative (negsuc n) h = absurd (omega (arith, ints, h))

pub returns : goal.returns
returns c =
    let value : to_z w64 (of_z w64 (to_z w64 (of_z w64 (to_z w64 c.args.at -ℤ to_z w64 (of_z w64 c.from.result))) +ℤ to_z w64 (of_z w64 c.from-2.result))) ≡ (pos c.args.at -ℤ c.args.corner) +ℤ c.args.start = omega (arith, ints) in
    ap (λ (z : ℤ). pos (nat_abs z)) value ∙ not_negative ((pos c.args.at -ℤ c.args.corner) +ℤ c.args.start) (omega (arith, ints))
