use Rattle.std.proofs.Common.{◌≡◌, ℕ, ◌^◌, ◌<◌, length, refl, get_or, ap, sym, subst, ◌∙◌, arith, rules, w32, to_z, of_z}
use Rattle.std.proofs.lemmas.Int.{to_z-of_z}
use Rattle.px_core.specs.Picture.{item}
use Rattle.px_core.specs.Rectangle.{boxed}
use Rattle.px_core.proofs.Colors.{color_below, is_color-item}
use Rattle.px_core.proofs.Pictures.{item-get_or}
use Rattle.client_picture.specs.Sources.{place_in, IsCorner, Covers}
use Rattle.client_picture.proofs.Shifts.{is_on, corner_is, covers_is, shifted_is}
use Rattle.client_picture.proofs.rects.texture_of.Goals as goal

corner : (c : goal.After-corner_of) → IsCorner c.args.rect c.args.source.sx c.args.source.sy c.args.part c.corner_of.result
corner c = let s = c.args.source in
    let ex : to_z w32 (of_z w32 s.sx) ≡ s.sx = search (rules, to_z-of_z) in
    let ey : to_z w32 (of_z w32 s.sy) ≡ s.sy = search (rules, to_z-of_z) in
    corner_is c.args.rect (to_z w32 (of_z w32 s.sx)) (to_z w32 (of_z w32 s.sy)) s.sx s.sy c.args.part c.corner_of.result c.corner_of.ensures ex ey

pub returns-clause-covers : goal.returns-clause-covers
returns-clause-covers c = let s = c.args.source in let r = c.args.rect in
    subst (λ (w : ℕ). Covers c.args.part w (length s.pixels.now) c.corner_of.result) (sym c.from.ensures)
    (covers_is s.w s.h r s.sx s.sy c.args.part c.corner_of.result (corner c) (is_on (record { w = s.w; h = s.h }) (boxed s.sx s.sy r.w r.h) c.requires.source.inside) c.requires.within _ c.requires.source.whole (omega arith) (omega arith))

pub returns-clause-bound : goal.returns-clause-bound
returns-clause-bound c = λ colors x y. let s = c.args.source in let n = place_in c.from.result c.corner_of.result c.args.part x y in
    subst (λ (color : ℕ). color < 2 ^ 24) (item-get_or s.pixels.now n 0) (color_below (item s.pixels.now n 0) (is_color-item s.pixels.now n 0 colors refl))

pub returns-clause-colors : goal.returns-clause-colors
returns-clause-colors c = λ x y is_in. let s = c.args.source in let r = c.args.rect in
    ap (λ w. get_or s.pixels.now (place_in w c.corner_of.result c.args.part x y) 0) c.from.ensures
    ∙ sym (item-get_or s.pixels.now _ 0)
    ∙ sym (shifted_is s.w s.h r s.sx s.sy c.args.part c.corner_of.result (corner c) (is_on (record { w = s.w; h = s.h }) (boxed s.sx s.sy r.w r.h) c.requires.source.inside) c.requires.within s.pixels.now 0 x y is_in)
