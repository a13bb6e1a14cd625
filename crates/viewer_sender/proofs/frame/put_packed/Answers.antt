use Rattle.std.proofs.Common.{◌≡◌, ◌∙◌, ◌*◌, ℕ, List, length, true, ap, sym, subst}
use Rattle.std.specs.Prelude.{option_copied}
use Rattle.px_core.specs.declared.depth.Depth.{Depth}
use Rattle.rle_enc.specs.Packed.{IsTilePacked}
use Rattle.frame_plan.proofs.TileParts.{whole_is_high, whole_is_wide}
use Rattle.viewer_sender.proofs.frame.put_packed.Goals as goal

pub put_packed_tile-requires-clause-packed : goal.put_packed_tile-requires-clause-packed
put_packed_tile-requires-clause-packed c =
    let r = c.args.r in
    let p = c.args.packed.now in
    let bytes = option_copied c.bytes.result in
    let all : r.w * r.h ≡ 4096 = sym c.requires.number ∙ ap (λ (ps : List ℕ). length ps) (sym c.pixels.ensures.pixels) ∙ c.pixels.ensures.sized in
    let wide = whole_is_wide r.w r.h c.requires.place.narrow c.requires.place.low all in
    let high = whole_is_high r.w r.h c.requires.place.narrow c.requires.place.low all in
    subst (λ (d : Depth). IsTilePacked d true r.w r.h c.pixels.result.now bytes) (sym c.depth.ensures)
    (subst (λ (ps : List ℕ). IsTilePacked p.depth true r.w r.h ps bytes) (sym c.pixels.ensures.pixels)
    (subst (λ (h : ℕ). IsTilePacked p.depth true r.w h p.pixels bytes) (sym high) (subst (λ (w : ℕ). IsTilePacked p.depth true w 64 p.pixels bytes) (sym wide) c.bytes.ensures)))
