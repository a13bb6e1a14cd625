use Rattle.std.proofs.Common.{◌++◌, ◌∙◌, List, ℕ, arith}
use Rattle.std.specs.Prelude.{flat_map}
use Rattle.run_lengths.specs.Packer.{run_bytes, packed_runs}
use Rattle.rle_enc.specs.Stretch.{row_of, spots_of}
use Rattle.rle_enc.proofs.Pending.{stretch_end}
use Rattle.rle_enc.proofs.stretch.pack_stretch.Goals as goal

pub loop-at-preserved : goal.loop-at-preserved
loop-at-preserved c = (c.in_ok-at-2.ensures.within, c.in_ok-at-2.ensures.packed.packed ∙ c.in_ok-at.ensures.packed.packed ∙ c.loop-at.invariant.1)

pub returns : goal.returns
returns c =
    let ps : List ℕ = c.args.pixels.now in
    stretch_end c.args.depth (row_of c.args.aboves) ps c.loop-at.at c.loop-at.out.items (c.args.out.now.items ++ flat_map (run_bytes c.args.depth) (packed_runs (spots_of c.args.aboves ps))) (omega (arith, c.loop-at-test.false)) c.requires.row c.loop-at.invariant.1
