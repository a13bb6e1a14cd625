use Rattle.std.proofs.Common.{◌++◌, take, map}
use Rattle.frame_rules.specs.Support.{used_bitmap_entries, used_glyph_entries}
use Rattle.viewer_sender.specs.Stands.{AreNew}
use Rattle.viewer_sender.proofs.caches.Caches.new.Given as goal

abbrev pub invariant-loop-size : goal.invariant-loop-size
invariant-loop-size l = AreNew l.caches.items (map used_bitmap_entries (take l.size-index l.size-items))

abbrev pub invariant-loop-size-2 : goal.invariant-loop-size-2
invariant-loop-size-2 l = AreNew l.caches.items (map used_bitmap_entries l.confirmed.bitmaps ++ map used_glyph_entries (take l.size-index l.size-items))
