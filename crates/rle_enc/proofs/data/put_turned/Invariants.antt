use Rattle.px_core.specs.Picture.{turned_over}
use Rattle.rle_enc.proofs.Bytes.{TurnsOn, shown_bytes}
use Rattle.rle_enc.proofs.data.put_turned.Given as goal

abbrev pub invariant-loop-y : goal.invariant-loop-y
invariant-loop-y l = TurnsOn l.fn.depth l.fn.w l.fn.h l.fn.out.items (shown_bytes l.fn.depth (turned_over l.fn.w l.fn.h l.fn.colors)) l.out.items l.y l.above
