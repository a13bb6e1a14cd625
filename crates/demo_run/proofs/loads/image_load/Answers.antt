use Rattle.std.proofs.Common.{ℕ, ◌∙◌, ap, replicate}
use Rattle.draw_ops.specs.Content.{ImageOf}
use Rattle.draw_ops.specs.declared.shape.Shape.TheVariants.{LoadImage}
use Rattle.demo_run.proofs.loads.image_load.Goals as goal

pub returns-clause-value : goal.returns-clause-value
returns-clause-value c =
    let colored : ℕ → ImageOf = λ k. record { w = 16; h = 16; pixels = replicate 256 k } in
    ap (λ (image : ImageOf). LoadImage c.args.slot image) (c.in_ok-image.ensures ∙ ap colored c.image_color-color.ensures.value)
