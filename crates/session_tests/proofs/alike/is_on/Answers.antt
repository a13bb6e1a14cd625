use Rattle.std.proofs.Common.{◌∙◌, ap}
use Rattle.px_core.specs.Rectangle.{whole}
use Rattle.px_core.specs.Tiles.{Tiles, either_tiles, tiles_of}
use Rattle.session_tests.proofs.alike.is_on.Goals as goal

pub returns : goal.returns
returns c =
    let here = tiles_of c.args.size (whole c.args.size) in
    c.has.ensures ∙ ap (λ (set : Tiles). set c.args.tile) (c.add.ensures ∙ ap (λ (set : Tiles). either_tiles set here) c.none-all.ensures)
