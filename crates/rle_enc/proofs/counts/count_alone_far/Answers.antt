use Rattle.std.proofs.Common.{◌<◌, length, arith}
use Rattle.rle_enc.specs.Words.{AreWords}
use Rattle.rle_enc.proofs.Telling.{told_on, words_of_slices}
use Rattle.rle_enc.proofs.counts.count_alone_far.Goals as goal

pub returns-then-more-lt-WORD-clause-alone : goal.returns-then-more-lt-WORD-clause-alone
returns-then-more-lt-WORD-clause-alone c =
    let some : c.loop-n.n < length c.args.pixels.now = omega (arith, c.loop-n-test.true) in
    let are : AreWords c.args.pixels.now c.args.row.now c.loop-n.n c.new.result = words_of_slices c.args.pixels.now c.args.row.now c.loop-n.n c.new.result some c.requires.row c.new.ensures in
    told_on c.args.pixels.now c.args.row.now c.loop-n.n c.alone-more.result c.new.result c.requires.row are c.alone-more.ensures.few c.alone-more.ensures.none c.loop-n.invariant.2

pub loop-n-preserved : goal.loop-n-preserved
loop-n-preserved c =
    let some : c.loop-n.n < length c.args.pixels.now = omega (arith, c.loop-n-test.true) in
    let are : AreWords c.args.pixels.now c.args.row.now c.loop-n.n c.new.result = words_of_slices c.args.pixels.now c.args.row.now c.loop-n.n c.new.result some c.requires.row c.new.ensures in
    (omega (arith, are.within, c.alone-more.ensures.few), omega (arith, c.loop-n.invariant.1), told_on c.args.pixels.now c.args.row.now c.loop-n.n c.alone-more.result c.new.result c.requires.row are c.alone-more.ensures.few c.alone-more.ensures.none c.loop-n.invariant.2)
