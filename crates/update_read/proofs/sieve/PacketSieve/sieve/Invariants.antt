use Rattle.std.proofs.Common.{◌≤◌, ◌-◌, length, take}
use Rattle.update_read.specs.Sieves.{Sieves}
use Rattle.update_read.proofs.sieve.PacketSieve.sieve.Given as goal

-- the bytes so far went through
abbrev pub invariant-loop-at : goal.invariant-loop-at
invariant-loop-at l = record {
  so_far : Sieves (take l.at l.bytes) l.fn.self l.self l.fn.out.items l.out.items;
  within : l.at ≤ length l.bytes;
}

abbrev pub decreases-loop-at : goal.decreases-loop-at
decreases-loop-at l = length l.bytes - l.at
