use Rattle.std.proofs.Common.{◌≡◌, ◌∙◌, ◌%◌, ◌*◌, ap, sym, subst, length, rules}
use Rattle.std.specs.Prelude.{Bool, true, IfOk, option_map}
use Rattle.std.proofs.Math.Nat.{mul-mod_right}
use Rattle.px_core.specs.Depth.{shown_colors}
use Rattle.px_core.specs.Picture.{turned_over}
use Rattle.rle_enc.specs.Packed.{IsTilePacked}
use Rattle.rle_enc.proofs.TilePacked.{tile_packed}
use Rattle.rle_enc.proofs.tile.packed_tile.Goals as goal

pub packed_pixels-requires-clause-rows : goal.packed_pixels-requires-clause-rows
packed_pixels-requires-clause-rows c =
    ap (λ k. k % c.args.w) (ap length c.deref.ensures.value ∙ c.show_all-wire.ensures.number ∙ c.in_ok-turn_over.ensures.number) ∙ mul-mod_right c.args.w c.args.h

pub returns : goal.returns
returns c =
    let d = c.args.depth in
    let is : c.deref.result.now ≡ shown_colors d (turned_over c.args.w c.args.h c.args.pixels.now)
    = c.deref.ensures.value ∙ c.show_all-wire.ensures.shown ∙ ap (shown_colors d) c.in_ok-turn_over.ensures.value in
    let long : length c.deref.result.now ≡ c.args.w * c.args.h = ap length c.deref.ensures.value ∙ c.show_all-wire.ensures.number ∙ c.in_ok-turn_over.ensures.number in
    let there : c.args.no_header ≡ true = search rules in
    subst (λ (b : Bool). IfOk c.packed_pixels.result (λ packed. IsTilePacked d b c.args.w c.args.h c.args.pixels.now (option_map (λ bytes. bytes.items) packed))) (sym there)
    (tile_packed d c.args.w c.args.h c.args.pixels.now c.deref.result.now c.packed_pixels.result is long c.requires.narrow c.requires.low c.packed_pixels.ensures.value c.packed_pixels.ensures.bound)
