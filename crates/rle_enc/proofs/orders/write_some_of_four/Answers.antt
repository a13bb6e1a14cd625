use Rattle.std.proofs.Common.{arith}
use Rattle.rle_enc.proofs.Counting.{some_of_four}
use Rattle.rle_enc.proofs.orders.write_some_of_four.Goals as goal

pub returns : goal.returns
returns c =
    some_of_four c.args.n c.len.result c.args.out.now.items c.extend_from_slice.new.self.items c.truncate.new.self.items c.coded_lowest_three-coded.result c.args.pixels.now c.requires.some c.requires.few c.requires.four c.coded_lowest_three-coded.ensures.long c.coded_lowest_three-coded.ensures.bytes c.in_ok-extend_from_slice.ensures.items c.truncate.ensures.items (omega (arith, c.len.ensures)) (omega (arith, c.requires.few))
