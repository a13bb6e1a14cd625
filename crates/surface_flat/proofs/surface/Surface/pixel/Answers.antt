use Rattle.std.proofs.Common.{ℕ, ◌+◌, ◌*◌, ◌<◌, ◌^◌, length, sym, subst, arith}
use Rattle.std.proofs.lemmas.Nat.{rows}
use Rattle.px_core.proofs.Colors.{colors_are_below}
use Rattle.surface_flat.proofs.surface.Surface.pixel.Goals as goal
use Rattle.std.proofs.lemmas.Grind.{common_steps}

pub returns-clause-color : goal.returns-clause-color
returns-clause-color c =
    let ps = c.self.inside.pixels.items in
    let w = c.self.inside.size.w in
    let at = w * c.args.y + c.args.x in
    let below : w * c.args.y + c.args.x < w * c.self.inside.size.h = grind (arith, rows) in
    let inside : at < length ps = omega (arith, c.self.invariant.0.picture) in
    let P : ℕ → Type 0 = λ n. n < 2 ^ 24 in
    subst P (sym c.index.ensures) (colors_are_below ps c.self.invariant.0.colors.picture at c.index.result.now inside)

pub returns-clause-pixel : goal.returns-clause-pixel
returns-clause-pixel c = grind (arith, common_steps)
