use Rattle.std.proofs.Common.{Fits, w8, arith}
use Rattle.std.specs.Prelude.{slice_index_or}
use Rattle.run_lengths.proofs.Laws.{length-decompressed}
use Rattle.client_caches.proofs.Unpacked.{unpacked_are_colors}
use Rattle.client_caches.proofs.wire.packed_pixels.Goals as goal

pub returns-in-Ok-clause-number : goal.returns-in-Ok-clause-number
returns-in-Ok-clause-number c = length-decompressed c.args.depth c.args.bytes.now c.args.w c.args.h _ c.requires.width.0 c.in-Ok.ensures.drawn

pub returns-in-Ok-clause-colors : goal.returns-in-Ok-clause-colors
returns-in-Ok-clause-colors c = let bytes = c.args.bytes.now in
    unpacked_are_colors c.args.depth bytes c.args.w c.args.h _ (λ k below. let fits : Fits w8 (slice_index_or bytes k 0) = c.type_inv.bytes k in omega (arith, fits)) c.in-Ok.ensures.ok
