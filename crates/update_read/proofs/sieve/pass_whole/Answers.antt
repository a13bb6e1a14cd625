use Rattle.std.proofs.Common.{arith}
use Rattle.update_read.proofs.WholePieces.{whole_passed}
use Rattle.update_read.proofs.sieve.pass_whole.Goals as goal

pub returns-in_ok-keep-clause-passed : goal.returns-in_ok-keep-clause-passed
returns-in_ok-keep-clause-passed c =
    whole_passed c.args.bytes.now c.args.out.now.items c.keep.new.out.items c.whole_size-count.result c.whole_size-count.ensures.value (omega arith) c.in_ok-keep.ensures
