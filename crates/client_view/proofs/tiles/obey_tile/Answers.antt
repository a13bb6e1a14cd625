use Rattle.std.proofs.Common.{◌≡◌, ◌∙◌, ap, sym, true, None, Some, arith}
use Rattle.std.specs.Prelude.{Ok}
use Rattle.order_means.specs.ClientState.{ClientState}
use Rattle.order_means.specs.FrameMarks.{is_tile, is_packed_tile, showing}
use Rattle.update_read.specs.Told.{told_tile, part_of}
use Rattle.client_picture.specs.Pictures.{painted_within}
use Rattle.client_caches.specs.Caches.{upright_pixels}
use Rattle.client_view.specs.Tiles.{bare_tile}
use Rattle.client_view.proofs.Obeyed.{one_more}
use Rattle.client_view.proofs.TilesObeyed.{view_tiled, tile_shown, tile_stands}
use Rattle.client_view.proofs.tiles.obey_tile.Goals as goal

pub returns-clause-obeyed : goal.returns-clause-obeyed
returns-clause-obeyed c = λ v s.
    let m = c.args.viewer.now in
    let t = told_tile c.args.body.now c.args.t.now in
    let pixels = c.in_ok-pixels.pixels.items in
    let depth = c.depth-depth.result in
    let here : v.client.depth ≡ depth = ap (λ (x : ClientState). x.depth) s.client ∙ sym c.depth-depth.ensures in
    let test : is_tile depth m.pictures.size (bare_tile c.args.t.now) ≡ true = grind arith in
    let flags : is_packed_tile c.args.t.now.flags ≡ Some c.in-Some.packed = grind arith in
    let read : upright_pixels depth c.in-Some.packed c.args.t.now.w c.args.t.now.h (part_of c.args.body.now c.args.t.now.at) ≡ Ok pixels = rw (c.from-w.ensures, c.from-h.ensures, c.part.ensures) at c.in_ok-pixels.ensures.value in
    let new : c.write.new.self ≡ painted_within None (showing t pixels) m.pictures = rw (c.tile_rect-rect.ensures, c.deref.ensures.value) at c.write.ensures in (
      view_tiled m.pictures.size v t pixels,
      tile_shown m.pictures.size v t c.in-Some.packed pixels depth here test flags read,
      tile_stands v m t pixels c.write.new.self c.saturating_add-viewer.result s new (one_more v.tiles m.tiles c.saturating_add-viewer.result s.tiles c.saturating_add-viewer.ensures),
    )
