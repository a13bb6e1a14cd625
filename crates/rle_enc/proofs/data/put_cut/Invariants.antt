use Rattle.std.proofs.Common.{drop}
use Rattle.px_core.specs.declared.depth.Depth.TheVariants.{Bits16}
use Rattle.wire_num.proofs.Sent.{HasSent}
use Rattle.rle_enc.proofs.Bytes.{shown_bytes}
use Rattle.rle_enc.proofs.data.put_cut.Given as goal

abbrev pub invariant-loop-color : goal.invariant-loop-color
invariant-loop-color l = HasSent l.fn.out.items (shown_bytes Bits16 l.colors) l.out.items (shown_bytes Bits16 (drop l.color-index l.colors))
