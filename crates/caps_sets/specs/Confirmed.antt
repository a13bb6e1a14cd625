-- What the presets confirm, all of them at 24 bits, one cache of another size, and the cache that serves (all of it profile).
use Rattle.std.specs.Prelude.{ℕ, zero, suc, ◌+◌, min, Bool, true, false, List, [], ◌∷◌, replicate, slice_set, Option, Some, None, if◌then◌else◌}
use Rattle.caps_sets.specs.declared.cache_size.CacheSize.{CacheSize}
use Rattle.caps_sets.specs.declared.confirmed.Confirmed.{Confirmed}
use Rattle.px_core.specs.declared.depth.Depth.{Depth}
use Rattle.px_core.specs.declared.depth.Depth.TheVariants.{Bits24}

-- a cache of so many entries, whose greatest cell has so many bytes
abbrev pub sized : ℕ → ℕ → CacheSize
sized entries cell = record { entries = entries; cell = cell }

-- the preset `plain`: opaque rectangles alone, and no caches
abbrev pub plain : Confirmed
plain = record {
  dst = false;
  pat = true;
  scr = false;
  mem = false;
  mem3 = false;
  save = false;
  glyph = false;
  zero_bounds = false;
  marker = false;
  no_header = false;
  brush = false;
  glyph_level = 0;
  bitmaps = replicate 3 (sized 0 0);
  glyphs = replicate 10 (sized 0 0);
  cautious = false;
  depth = Bits24;
  fast = false;
  pointers = 0;
}

-- the preset `bare`: all orders, and caches without an entry
abbrev pub bare : Confirmed
bare = record {
  dst = true;
  pat = true;
  scr = true;
  mem = true;
  mem3 = true;
  save = true;
  glyph = true;
  zero_bounds = true;
  marker = false;
  no_header = true;
  brush = true;
  glyph_level = 2;
  bitmaps = replicate 3 (sized 0 0);
  glyphs = replicate 10 (sized 0 0);
  cautious = false;
  depth = Bits24;
  fast = false;
  pointers = 0;
}

-- the preset `full`: all orders, and all caches
abbrev pub full : Confirmed
full = record bare {
  bitmaps = sized 120 768 ∷ sized 120 3072 ∷ sized 336 12288 ∷ [];
  glyphs = sized 254 4 ∷ sized 254 4 ∷ sized 254 8 ∷ sized 254 8 ∷ sized 254 16 ∷ sized 254 32 ∷ sized 254 64 ∷ sized 254 128 ∷ sized 254 256 ∷ sized 64 2048 ∷ [];
}

-- the preset `marked`: `full`, with frame markers
abbrev pub marked : Confirmed
marked = record full { marker = true }

-- ---- what the host's bytes go by

-- the bits of a pixel that a viewer is shown
abbrev pub depth_of : Confirmed → Depth
depth_of c = c.depth

-- whether a viewer's updates go in packets of the fast path
abbrev pub takes_fast : Confirmed → Bool
takes_fast c = c.fast

-- the most shapes of pointers that a viewer is told to keep; more count as so many
abbrev pub most_pointers : ℕ
most_pointers = 25

-- how many shapes of pointers a viewer keeps; one that keeps none is told no pointer
abbrev pub pointer_cells : Confirmed → ℕ
pointer_cells c = min most_pointers c.pointers

-- ---- caches of other sizes

-- the same but for one bitmap cache
abbrev pub with_bitmap_cache : ℕ → CacheSize → Confirmed → Confirmed
with_bitmap_cache cache size c = record c { bitmaps = slice_set c.bitmaps cache size }

-- the same but for one glyph cache
abbrev pub with_glyph_cache : ℕ → CacheSize → Confirmed → Confirmed
with_glyph_cache cache size c = record c { glyphs = slice_set c.glyphs cache size }

-- the size of a cache, of which past the last there is nothing
abbrev pub cache_size : List CacheSize → ℕ → CacheSize
cache_size [] cache = sized 0 0
cache_size (s ∷ ss) zero = s
cache_size (s ∷ ss) (suc cache) = cache_size ss cache

-- the number of the first of these caches that passes the test, which are numbered from a number on
abbrev pub first_cache_from : ℕ → (CacheSize → Bool) → List CacheSize → Option ℕ
first_cache_from cache serves [] = None
first_cache_from cache serves (s ∷ ss) = if serves s then Some cache else first_cache_from (cache + 1) serves ss

-- the lowest-numbered cache that serves
abbrev pub first_cache : (CacheSize → Bool) → List CacheSize → Option ℕ
first_cache serves sizes = first_cache_from 0 serves sizes
