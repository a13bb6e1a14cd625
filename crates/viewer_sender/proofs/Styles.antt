-- Orders of a depth hold their values at 24 bits, too, since the style of a brush is one byte at either; and the fields of a first frame hold black.
use Rattle.std.proofs.Common.{◌≡◌, ℕ, refl, arith}
use Rattle.std.specs.Prelude.{ℤ, pos, true, None}
use Rattle.px_core.specs.declared.surface.Size.{Size}
use Rattle.px_core.specs.Rectangle.{is_session_size, whole}
use Rattle.px_core.specs.declared.rectangle.Rect.{Rect}
use Rattle.px_core.specs.declared.depth.Depth.{Depth}
use Rattle.px_core.specs.declared.depth.Depth.TheVariants.{Bits24, Bits16}
use Rattle.order_fields.specs.OrderTable.{IsFieldList, pat_blt, mem3_blt}
use Rattle.order_fields.specs.NamedDrawing.{drawing_fields}
use Rattle.order_fields.specs.NamedDrawing.NamedDrawing.{Opaque, Pat, Mem3}
use Rattle.depth_cut.proofs.Styled.{set_fits}
use Rattle.session_rules.proofs.Fitting.{sides_of}
use Rattle.frame_laws.proofs.OrderValues.{side_fits}
use Rattle.frame_laws.proofs.OrdersFit.{wire_below}
use Rattle.viewer_sender.specs.Goes.{FitsDrawn}

pub pat_style : (d : Depth) (r : Rect) (code entry : ℕ) → IsFieldList (drawing_fields d r (Pat r code entry)) → IsFieldList (drawing_fields Bits24 r (Pat r code entry))
pat_style Bits24 r code entry h = h
pat_style Bits16 r code entry h =
    record { numbers = set_fits pat_blt.kinds (drawing_fields Bits16 r (Pat r code entry)).values.numbers 9 (pos 0x85) h.numbers (omega arith); bytes = h.bytes }

pub mem3_style : (d : Depth) (r : Rect) (cache index code : ℕ) (sx sy : ℤ) (entry : ℕ) → IsFieldList (drawing_fields d r (Mem3 cache index r code sx sy entry))
    → IsFieldList (drawing_fields Bits24 r (Mem3 cache index r code sx sy entry))
mem3_style Bits24 r cache index code sx sy entry h = h
mem3_style Bits16 r cache index code sx sy entry h =
    record { numbers = set_fits mem3_blt.kinds (drawing_fields Bits16 r (Mem3 cache index r code sx sy entry)).values.numbers 12 (pos 0x85) h.numbers (omega arith); bytes = h.bytes }

pub black_goes : (d : Depth) (size : Size) → is_session_size size.w size.h ≡ true → FitsDrawn d (whole size) (Opaque (whole size) 0) None
black_goes d size sized =
    let low = wire_below d 0 (omega arith) in
    let sides = sides_of size.w size.h sized in
    record {
      fields = record {
        numbers = (
          refl,
          (refl, (side_fits size.w sides.not_wider, (side_fits size.h sides.not_higher, (omega (arith, low), (omega (arith, low), (omega (arith, low), tt)))))),
        );
        bytes = refl;
      };
      bounds = tt;
    }
