use Rattle.std.proofs.Common.{◌≡◌, drop}
use Rattle.order_means.specs.ClientState.{block_at}
use Rattle.client_caches.proofs.blocks.ClientBlocks.at.Given as goal

-- the blocks that are left decide
abbrev pub invariant-loop-block : goal.invariant-loop-block
invariant-loop-block l = block_at l.position l.w l.h (drop l.block-index l.block-items) ≡ block_at l.position l.w l.h l.block-items
