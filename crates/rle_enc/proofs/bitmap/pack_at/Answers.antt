use Rattle.std.proofs.Common.{◌≡◌, ◌*◌, length, ap, arith}
use Rattle.run_lengths.specs.Packer.{packed}
use Rattle.rle_enc.proofs.Whole.{bytes_are_packed, bytes_read_back, bytes_are_few, at_least_a_row}
use Rattle.rle_enc.proofs.bitmap.pack_at.Goals as goal

pub returns-then-len-raw-clause-packed : goal.returns-then-len-raw-clause-packed
returns-then-len-raw-clause-packed c =
    let bytes : c.pack_stretch-2.new.out.items ≡ packed c.args.depth c.args.w c.args.pixels.now = bytes_are_packed c.args.depth c.args.w c.args.pixels.now c.split_at.result.0.now c.split_at.result.1.now c.in_ok-out.out.items c.pack_stretch.new.out.items c.pack_stretch-2.new.out.items c.in_ok-out.ensures.items (at_least_a_row (length c.args.pixels.now) c.args.w c.requires.wide c.requires.some c.requires.rows) c.split_at.ensures.front c.split_at.ensures.back c.in_ok-pack_stretch.ensures c.in_ok-pack_stretch-2.ensures in
    (bytes, omega (arith, c.if-len-raw.true, c.len.ensures, ap (λ n. n * length c.args.pixels.now) c.bytes_in.ensures))

pub returns-then-len-raw-clause-reads_back : goal.returns-then-len-raw-clause-reads_back
returns-then-len-raw-clause-reads_back c =
    let bytes : c.pack_stretch-2.new.out.items ≡ packed c.args.depth c.args.w c.args.pixels.now = bytes_are_packed c.args.depth c.args.w c.args.pixels.now c.split_at.result.0.now c.split_at.result.1.now c.in_ok-out.out.items c.pack_stretch.new.out.items c.pack_stretch-2.new.out.items c.in_ok-out.ensures.items (at_least_a_row (length c.args.pixels.now) c.args.w c.requires.wide c.requires.some c.requires.rows) c.split_at.ensures.front c.split_at.ensures.back c.in_ok-pack_stretch.ensures c.in_ok-pack_stretch-2.ensures in
    bytes_read_back c.args.depth c.args.w c.args.pixels.now c.pack_stretch-2.new.out.items c.requires.wide c.requires.rows c.requires.some c.requires.few c.requires.pixels bytes

pub returns-then-len-raw-clause-bound : goal.returns-then-len-raw-clause-bound
returns-then-len-raw-clause-bound c =
    let bytes : c.pack_stretch-2.new.out.items ≡ packed c.args.depth c.args.w c.args.pixels.now = bytes_are_packed c.args.depth c.args.w c.args.pixels.now c.split_at.result.0.now c.split_at.result.1.now c.in_ok-out.out.items c.pack_stretch.new.out.items c.pack_stretch-2.new.out.items c.in_ok-out.ensures.items (at_least_a_row (length c.args.pixels.now) c.args.w c.requires.wide c.requires.some c.requires.rows) c.split_at.ensures.front c.split_at.ensures.back c.in_ok-pack_stretch.ensures c.in_ok-pack_stretch-2.ensures in
    bytes_are_few c.args.depth c.args.w c.args.pixels.now c.pack_stretch-2.new.out.items bytes

pub returns-else-len-raw-clause-packed : goal.returns-else-len-raw-clause-packed
returns-else-len-raw-clause-packed c =
    let bytes : c.pack_stretch-2.new.out.items ≡ packed c.args.depth c.args.w c.args.pixels.now = bytes_are_packed c.args.depth c.args.w c.args.pixels.now c.split_at.result.0.now c.split_at.result.1.now c.in_ok-out.out.items c.pack_stretch.new.out.items c.pack_stretch-2.new.out.items c.in_ok-out.ensures.items (at_least_a_row (length c.args.pixels.now) c.args.w c.requires.wide c.requires.some c.requires.rows) c.split_at.ensures.front c.split_at.ensures.back c.in_ok-pack_stretch.ensures c.in_ok-pack_stretch-2.ensures in
    omega (arith, c.if-len-raw.false, c.len.ensures, ap (λ n. n * length c.args.pixels.now) c.bytes_in.ensures, ap length bytes)
