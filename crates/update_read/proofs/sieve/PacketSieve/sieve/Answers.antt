use Rattle.std.proofs.Common.{◌≡◌, ◌≤◌, ◌-◌, arith, drop, take, length}
use Rattle.std.proofs.lemmas.List.{take_all, length-drop}
use Rattle.update_read.proofs.Sieved.{passed_further, none_further, byte_further}
use Rattle.update_read.proofs.sieve.PacketSieve.sieve.Goals as goal

pub loop-at-preserved-then-count-eq0 : goal.loop-at-preserved-then-count-eq0
loop-at-preserved-then-count-eq0 c =
    let bytes = c.args.bytes.now in
    let i = c.loop-at.at in
    let n = c.in_ok-count.count in
    let size = length-drop i bytes in
    let ahead : take (length bytes - i) (drop i bytes) ≡ drop i bytes = take_all (length bytes - i) (drop i bytes) (omega (arith, size)) in
    let passed = rw ahead at c.in_ok-count.ensures.passed in
    let so_far = none_further i n bytes c.args.self.now c.loop-at.self c.pass.new.self c.args.out.now.items c.loop-at.out.items c.pass.new.out.items c.if-count-eq0.true c.loop-at.invariant.so_far passed in
    record {
      so_far = byte_further i bytes c.args.self.now c.pass.new.self c.push.new.self c.args.out.now.items c.pass.new.out.items c.push.new.out.items c.loop-at-test.true so_far c.in_ok-push.ensures;
      within = omega arith;
    }

pub loop-at-preserved : goal.loop-at-preserved
loop-at-preserved c =
    let bytes = c.args.bytes.now in
    let i = c.loop-at.at in
    let n = c.in_ok-count.count in
    let size = length-drop i bytes in
    let ahead : take (length bytes - i) (drop i bytes) ≡ drop i bytes = take_all (length bytes - i) (drop i bytes) (omega (arith, size)) in
    let passed = rw ahead at c.in_ok-count.ensures.passed in
    let count : n ≤ length (drop i bytes) = rw ahead at c.in_ok-count.ensures.count in
    record {
      so_far = passed_further i n bytes c.args.self.now c.loop-at.self c.pass.new.self c.args.out.now.items c.loop-at.out.items c.pass.new.out.items c.loop-at.invariant.so_far passed;
      within = omega (arith, count, size, c.loop-at.invariant.within);
    }
