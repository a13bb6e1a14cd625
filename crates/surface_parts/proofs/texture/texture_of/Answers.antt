use Rattle.std.proofs.Common.{◌≡◌, ℕ, ◌+◌, ◌-◌, ◌*◌, ◌≤◌, ◌<◌, pos, ◌+ℤ◌, ◌-ℤ◌, ap, sym, ◌∙◌, arith}
use Rattle.std.proofs.lemmas.Int.{ints}
use Rattle.std.proofs.lemmas.Bool.Decides.{nat_tests}
use Rattle.px_core.specs.Picture.{pixel_in, rows_of}
use Rattle.px_core.specs.Rectangle.{boxed}
use Rattle.px_core.proofs.Pictures.{item-get_or, pixel-rows_of}
use Rattle.surface_parts.proofs.Seen.{lies_on}
use Rattle.surface_parts.proofs.texture.texture_of.Goals as goal

rows_fit : (w a h : ℕ) → a ≤ h → w * a ≤ w * h
rows_fit w a h le = grind (arith, le)

pub returns-clause-covers : goal.returns-clause-covers
returns-clause-covers c = let p = c.args.part in let size = c.args.size in
    let on = lies_on (record { w = size.w; h = size.h }) (boxed c.args.sx c.args.sy c.args.rect.w c.args.rect.h) c.requires.inside in
    let low : c.source_place-2.result + p.h ≤ size.h = omega (arith, ints, on.below, c.source_place-2.ensures, c.requires.part.below) in
    let fit = rows_fit size.w (c.source_place-2.result + p.h) size.h low in
    record {
      columns = omega (arith, ints, on.right, c.source_place.ensures, c.requires.part.right);
      rows = omega (arith, fit, c.requires.whole);
      narrow = omega (arith, c.requires.wide);
      low = omega (arith, low, c.requires.high);
    }

pub returns-clause-colors : goal.returns-clause-colors
returns-clause-colors c = λ x y is_in. let p = c.args.part in let size = c.args.size in
    let on = lies_on (record { w = size.w; h = size.h }) (boxed c.args.sx c.args.sy c.args.rect.w c.args.rect.h) c.requires.inside in
    let left : p.x ≤ x = grind (arith, nat_tests, is_in) in
    let right : x < p.x + p.w = grind (arith, nat_tests, is_in) in
    let above : p.y ≤ y = grind (arith, nat_tests, is_in) in
    let below : y < p.y + p.h = grind (arith, nat_tests, is_in) in
    let u = c.source_place.result + (x - p.x) in
    let v = c.source_place-2.result + (y - p.y) in
    let eu : (pos x -ℤ c.args.rect.x) +ℤ c.args.sx ≡ pos (c.source_place.result + (x - p.x)) = omega (arith, ints, left, c.source_place.ensures) in
    let ev : (pos y -ℤ c.args.rect.y) +ℤ c.args.sy ≡ pos (c.source_place-2.result + (y - p.y)) = omega (arith, ints, above, c.source_place-2.ensures) in
    sym (item-get_or c.args.pixels.now (size.w * v + u) 0)
    ∙ sym (pixel-rows_of size.w size.h c.args.pixels.now u v 0 (omega (arith, ints, left, right, on.right, c.source_place.ensures, c.requires.part.right)) (omega (arith, ints, above, below, on.below, c.source_place-2.ensures, c.requires.part.below)))
    ∙ ap (λ z. pixel_in (rows_of size.w size.h c.args.pixels.now) 0 z (pos v)) (sym eu)
    ∙ ap (λ z. pixel_in (rows_of size.w size.h c.args.pixels.now) 0 ((pos x -ℤ c.args.rect.x) +ℤ c.args.sx) z) (sym ev)
