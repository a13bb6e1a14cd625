use Rattle.std.proofs.Common.{drop}
use Rattle.record_rules.specs.Fields.{colors_bytes}
use Rattle.wire_num.proofs.Sent.{HasSent}
use Rattle.record_run.proofs.text.add_pixels.Given as goal

abbrev pub invariant-loop-color : goal.invariant-loop-color
invariant-loop-color l = HasSent l.fn.out.items (colors_bytes l.pixels) l.out.items (colors_bytes (drop l.color-index l.pixels))
