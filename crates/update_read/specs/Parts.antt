-- Parts of a rectangle of a Bitmap update.
use Rattle.std.specs.Prelude.{ℕ, List}
use Rattle.wire_num.specs.Field.{Read, then_read, map_read}
use Rattle.wire_num.specs.Number.{little_at}
use Rattle.update_read.specs.declared.tile.Corners.{Corners}
use Rattle.update_read.specs.declared.tile.Shape.{Shape}

-- destLeft, destTop, destRight, destBottom
abbrev pub corners_at : List ℕ → Read Corners
corners_at bs =
    then_read (little_at 2 bs) (λ l a. then_read (little_at 2 a) (λ t b. then_read (little_at 2 b) (λ r c.
    map_read (λ m. record { left = l; top = t; right = r; bottom = m }) (little_at 2 c))))

-- width, height, bitsPerPixel, flags, bitmapLength
abbrev pub shape_at : List ℕ → Read Shape
shape_at bs =
    then_read (little_at 2 bs) (λ w a. then_read (little_at 2 a) (λ h b. then_read (little_at 2 b) (λ depth c. then_read (little_at 2 c) (λ flags d.
    map_read (λ n. record { w = w; h = h; depth = depth; flags = flags; count = n }) (little_at 2 d)))))
