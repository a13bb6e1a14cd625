-- What a cache must have to serve.
use Rattle.std.specs.Prelude.{◌/◌, nat_le, min, Bool, ◌&&◌}
use Rattle.caps_sets.specs.declared.cache_size.CacheSize.{CacheSize}
use Rattle.frame_plan.specs.declared.needs.Needs.{Needs}

-- whether a cache has as many used entries, and a cell of as many times four bytes
abbrev pub serves : Needs → CacheSize → Bool
serves n s = nat_le n.entries (min s.entries n.most) && nat_le n.words (s.cell / 4)
