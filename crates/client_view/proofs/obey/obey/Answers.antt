use Rattle.std.proofs.Common.{◌≡◌, ap, refl, sym, true, arith}
use Rattle.std.specs.Prelude.{Ok, ◌&&◌}
use Rattle.order_fields.specs.Secondary.{BitmapOrder}
use Rattle.order_fields.specs.Secondary.Cached.{Bitmap}
use Rattle.order_read.specs.Told.{part_of}
use Rattle.order_means.specs.FrameMarks.{marked_if}
use Rattle.client_view.specs.Views.{client_of}
use Rattle.client_view.proofs.Obeyed.{stored_obeys, marked_stands}
use Rattle.client_view.proofs.obey.obey.Goals as goal

pub returns-in-Primary-clause-obeyed : goal.returns-in-Primary-clause-obeyed
returns-in-Primary-clause-obeyed c = rw c.in-Primary.is c.obey_drawing.ensures.obeyed

pub returns-in-Bitmap-clause-obeyed : goal.returns-in-Bitmap-clause-obeyed
returns-in-Bitmap-clause-obeyed c = λ v s.
    let m = c.args.viewer.now in
    let b : BitmapOrder = record { cache = c.in-Bitmap.cache; index = c.in-Bitmap.index; w = c.in-Bitmap.w; h = c.in-Bitmap.h; depth = c.in-Bitmap.depth; flags = c.in-Bitmap.flags; packed = c.in-Bitmap.packed; bytes = part_of c.args.body.now c.in-Bitmap.at } in
    rw c.in-Bitmap.is (stored_obeys c.store_bitmap.result m.confirmed m.pictures.size v (Bitmap b) m c.store_bitmap.new.self s refl (rw c.part-bytes.ensures at (c.store_bitmap.ensures.stored (client_of m.regs m.caches m.blocks m.pictures) (sym c.depth-depth.ensures))))

pub returns-then-end-clause-obeyed : goal.returns-then-end-clause-obeyed
returns-then-end-clause-obeyed c = λ v s.
    let test : (c.args.viewer.now.confirmed.marker && c.in-Marker.end) ≡ true = grind arith in
    rw c.in-Marker.is (marked_if true v, ap (λ b. Ok (marked_if b v)) test, marked_stands v c.args.viewer.now c.mark.new.viewer s c.mark.ensures)
