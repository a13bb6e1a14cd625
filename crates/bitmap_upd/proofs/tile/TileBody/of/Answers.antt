use Rattle.std.proofs.Common.{◌≡◌, ◌∙◌, rules}
use Rattle.std.specs.Prelude.{option_copied}
use Rattle.px_core.specs.Picture.{nat_of, turned_over}
use Rattle.rle_enc.proofs.Bytes.{shown_bytes}
use Rattle.bitmap_upd.proofs.Body.{raw_length, body_is, there_as}
use Rattle.bitmap_upd.proofs.tile.TileBody.of.Goals as goal

pub returns : goal.returns
returns c =
    let r = c.args.r in
    let left : c.place.result ≡ nat_of c.args.r.x = search rules in
    let top : c.place-2.result ≡ nat_of c.args.r.y = search rules in
    body_is c.args.depth c.args.no_header r c.args.pixels.now (option_copied c.args.packed) c.place.result c.place-2.result c.bytes_of-size.result c.is_some.result c.tile_head-head.result left top (c.is_some.ensures ∙ there_as (λ bytes. bytes.now) c.args.packed)
    c.tile_head-head.ensures (c.bytes_of-size.ensures.value (shown_bytes c.args.depth (turned_over r.w r.h c.args.pixels.now)) (raw_length c.args.depth r.w r.h c.args.pixels.now c.requires.number))
    c.requires.packed.goes
