use Rattle.std.proofs.Common.{◌≡◌, ℕ, List, [], ◌+◌, ◌*◌, ◌-◌, ◌<◌, ◌++◌, refl, ap, ◌∙◌, subst, sym, arith}
use borrow.Rule.Slice.PartMut.{mid_of}
use Rattle.px_core.specs.Picture.{pixel_at}
use Rattle.surface_parts.specs.Parts.{AreFirstRows}
use Rattle.surface_parts.proofs.Repaint.{stretch_fits, length_mid, stretch_pixel}
use Rattle.surface_parts.proofs.Cuts.{no_rows_yet, one_row_more, rows_are_cut}
use Rattle.surface_parts.proofs.rows.cut_pixels.Goals as goal

pub loop-y-init : goal.loop-y-init
loop-y-init c = let p = c.part_of-part.result in let size = c.args.size in let ps = c.args.pixels.now in
    let none : 0 ≡ p.y - p.y = omega arith in
    subst (λ (cut : List ℕ). AreFirstRows size ps p (p.y - p.y) cut) (sym c.in_ok-cut.ensures.items)
    (subst (λ (k : ℕ). AreFirstRows size ps p k []) none (no_rows_yet size ps p))

pub loop-y-preserved : goal.loop-y-preserved
loop-y-preserved c = let p = c.part_of-part.result in let size = c.args.size in let ps = c.args.pixels.now in let y = c.loop-y.y in
    let inside = c.part_of-part.ensures.inside in
    let high : y < size.h = omega (arith, inside.rows) in
    let n = size.w * y + p.x in
    let row = mid_of n ((n + p.w) - n) ps in
    let fits = stretch_fits size p.x y p.w ps c.requires.canvas.sized high inside.columns in
    let next : (y - p.y) + 1 ≡ y + 1 - p.y = omega arith in
    let here : y ≡ p.y + (y - p.y) = omega arith in
    subst (λ (cut : List ℕ). AreFirstRows size ps p (y + 1 - p.y) cut) (sym c.in_ok-extend_from_slice.ensures.items)
    (subst (λ (k : ℕ). AreFirstRows size ps p k (c.loop-y.cut.items ++ row)) next
    (one_row_more size ps p (y - p.y) c.loop-y.cut.items row c.loop-y.invariant (length_mid n ((n + p.w) - n) p.w ps fits (omega arith))
    (λ u below. stretch_pixel size n ((n + p.w) - n) p.x y u ps refl (omega (arith, below)) ∙ ap (pixel_at size ps 0 (p.x + u)) here)))

pub returns : goal.returns
returns c = let p = c.part_of-part.result in let size = c.args.size in let ps = c.args.pixels.now in
    let all : c.loop-y.y - p.y ≡ p.h = omega arith in
    rows_are_cut size ps c.args.rect p c.part_of-part.ensures.same c.part_of-part.ensures.inside c.loop-y.cut.items
    (subst (λ (k : ℕ). AreFirstRows size ps p k c.loop-y.cut.items) all c.loop-y.invariant)
