use Rattle.std.proofs.Common.{◌≡◌, ◌*◌, ◌∙◌, ap, ap₂, sym, true, length, List, Option, ℕ, arith}
use Rattle.std.specs.Prelude.{Ok}
use Rattle.px_core.specs.Rectangle.{is_inside}
use Rattle.client_picture.specs.Pictures.{Pictures}
use Rattle.client_view.specs.Views.{client_of}
use Rattle.client_view.proofs.Restored.{restored}
use Rattle.client_view.proofs.saved.restore.Goals as goal

pub restore-requires-clause-whole : goal.restore-requires-clause-whole
restore-requires-clause-whole c =
    ap (λ (xs : List (Option ℕ)). length xs) c.pixels.ensures.value ∙ c.pixels.ensures.filled ∙ ap₂ (λ (a b : ℕ). a * b) c.in-Some.ensures.sides.0 c.in-Some.ensures.sides.1

pub returns-in-Some-clause-drawn : goal.returns-in-Some-clause-drawn
returns-in-Some-clause-drawn c = λ confirmed caches registers.
    let inside : is_inside c.args.pictures.now.size c.args.rect ≡ true = grind arith in
    restored confirmed c.args.pictures.now.size c.args.bounds c.args.position c.args.rect (client_of registers caches c.args.blocks.now c.args.pictures.now) c.in-Some.block.now c.pixels.result.now
    inside (sym c.in-Some.ensures.block) c.in-Some.ensures.sides.0 c.in-Some.ensures.sides.1 c.pixels.ensures.value
    ∙ ap (λ (p : Pictures). Ok (client_of registers caches c.args.blocks.now p)) (sym c.restore.ensures)
