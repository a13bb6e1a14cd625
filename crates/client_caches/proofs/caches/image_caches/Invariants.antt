use Rattle.std.proofs.Common.{◌≡◌, map, take}
use Rattle.order_means.specs.ClientState.{empty_cache}
use Rattle.client_caches.proofs.caches.image_caches.Given as goal

-- a cache for each size so far
abbrev pub invariant-loop-size : goal.invariant-loop-size
invariant-loop-size l = l.caches.items ≡ map empty_cache (take l.size-index l.sizes)
