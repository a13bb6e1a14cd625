use Rattle.std.proofs.Common.{drop}
use Rattle.std.specs.Prelude.{flat_map}
use Rattle.byteorder.specs.Endian.{big_bytes}
use Rattle.wire_num.proofs.Sent.{HasSent}
use Rattle.record_file.proofs.put.put_colors.Given as goal

abbrev pub invariant-loop-color : goal.invariant-loop-color
invariant-loop-color l = HasSent l.fn.out.items (flat_map (big_bytes 3) l.colors) l.out.items (flat_map (big_bytes 3) (drop l.color-index l.colors))
