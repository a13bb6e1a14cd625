-- Which drawings a viewer can be sent as orders, by what it confirmed (profile).
use Rattle.std.specs.Prelude.{ℕ, nat_le, Bool, false, ◌&&◌, not, List, length, map, fold, min, max, Option, Some, None, is_some}
use Rattle.draw_ops.specs.declared.shape.Shape.{Shape}
use Rattle.draw_ops.specs.declared.shape.Shape.TheVariants.{Fill, Dst, Pat, Copy, Blit, Blit3, Text, Line, Save, Restore, LoadImage, LoadBrush, LoadGlyph}
use Rattle.draw_ops.specs.Content.{ImageOf, GlyphOf}
use Rattle.draw_ops.specs.Slots.{Loaded}
use Rattle.caps_sets.specs.declared.cache_size.CacheSize.{CacheSize}
use Rattle.caps_sets.specs.declared.confirmed.Confirmed.{Confirmed}
use Rattle.caps_sets.specs.Confirmed.{first_cache}
use Rattle.order_means.specs.KeptContent.{image_cell, glyph_cell_bytes}
use Rattle.cache_plan.specs.CacheUse.{distinct_keys}
use Rattle.session_rules.specs.Pending.{Pending}

-- how many entries of a bitmap cache and of a glyph cache are used
abbrev pub used_bitmap_entries : CacheSize → ℕ
used_bitmap_entries s = min s.entries 512

abbrev pub used_glyph_entries : CacheSize → ℕ
used_glyph_entries s = min s.entries 254

-- the cell of the greatest glyph of a run
abbrev pub greatest_cell : List (Loaded GlyphOf) → ℕ
greatest_cell glyphs = fold max 0 (map (λ g. glyph_cell_bytes g.content) glyphs)

-- how many different loads a run draws
abbrev pub distinct_loads : List (Loaded GlyphOf) → ℕ
distinct_loads glyphs = length (distinct_keys (map (λ g. g.number) glyphs))

-- a bitmap cache serves an image where it has an entry, and a cell that holds the image
abbrev pub serves_image : ImageOf → CacheSize → Bool
serves_image image s = nat_le 1 s.entries && nat_le (image_cell image) s.cell

-- a glyph cache serves a run where it has as many entries as the run has different glyphs, and a cell that holds its greatest one
abbrev pub serves_run : List (Loaded GlyphOf) → CacheSize → Bool
serves_run glyphs s = nat_le (distinct_loads glyphs) (used_glyph_entries s) && nat_le (greatest_cell glyphs) s.cell

-- the number of the bitmap cache that an image goes to
abbrev pub image_cache : Confirmed → Option (Loaded ImageOf) → Option ℕ
image_cache c None = None
image_cache c (Some image) = first_cache (serves_image image.content) c.bitmaps

-- the number of the glyph cache that a run's glyphs go to
abbrev pub run_cache : Confirmed → List (Loaded GlyphOf) → Option ℕ
run_cache c glyphs = first_cache (serves_run glyphs) c.glyphs

abbrev pub has_glyph_level : ℕ → Bool
has_glyph_level level = nat_le 1 level && nat_le level 2

-- whether the viewer has the order of a shape, and caches that hold what it needs; a line has no order, and a load needs none
abbrev pub supports : Confirmed → Pending → Shape → Bool
supports c p (Fill r color) = c.pat
supports c p (Dst r code) = c.dst
supports c p (Pat r code brush) = c.pat && c.brush
supports c p (Copy r code sx sy) = c.scr
supports c p (Blit r code image sx sy) = c.mem && is_some (image_cache c p.image)
supports c p (Blit3 r code image sx sy brush) = c.mem3 && (is_some (image_cache c p.image) && c.brush)
supports c p (Text x y color font run) = not c.cautious && ((c.glyph && has_glyph_level c.glyph_level) && is_some (run_cache c p.glyphs))
supports c p (Line x0 y0 x1 y1 color) = false
supports c p (Save slot r) = c.save
supports c p (Restore slot x y) = c.save
supports c p (LoadImage slot image) = false
supports c p (LoadBrush slot brush) = false
supports c p (LoadGlyph font code glyph) = false
