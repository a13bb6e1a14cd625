use Rattle.std.proofs.Common.{◌∙◌, ap, sym, List, ℕ}
use Rattle.std.specs.Prelude.{Ok}
use Rattle.wire_num.specs.Cursor.{rest}
use Rattle.update_read.proofs.Tiles.{tile_read, part_read, rectangle}
use Rattle.update_read.proofs.tile.read_tile.Goals as goal

pub returns : goal.returns
returns c =
    let corners = c.in_ok-corners.corners in
    let shape = c.in_ok-shape.shape in
    let bytes = rw c.from.ensures at c.in_ok-bytes.ensures.0 in
    let whole = tile_read corners shape (rest c.args.cursor.now) (rest c.read_corners.new.cursor) (rest c.read_shape.new.cursor) (rest c.bytes.new.self) c.in_ok-bytes.field-0.now c.in_ok-corners.ensures.0 c.in_ok-shape.ensures.0 bytes in
    let part = part_read c.args.cursor.now.bytes c.in_ok-bytes.field-0.now c.read_shape.new.cursor c.bytes.new.self c.at-from.result c.at.result shape.count (c.in_ok-shape.ensures.1 ∙ c.in_ok-corners.ensures.1) c.in_ok-bytes.ensures.1
    c.at-from.ensures.place c.at.ensures.place c.at-from.ensures.inside c.at.ensures.inside bytes in
    (whole ∙ ap (λ (xs : List ℕ). Ok (rectangle corners shape xs, rest c.bytes.new.self)) (sym part), c.in_ok-bytes.ensures.1 ∙ c.in_ok-shape.ensures.1 ∙ c.in_ok-corners.ensures.1)
