-- The cache orders of a run's glyphs, and the indices that the run's order names.
use Rattle.std.specs.Prelude.{◌≡◌, ℕ, List, [], ◌∷◌, ⊤}
use Rattle.frame_rules.specs.FrameOrders.{SentOrder}
use Rattle.frame_rules.specs.FrameOrders.SentOrder.{Drawn, CacheImage, CacheGlyph, CacheBrush, FrameMarker}
use Rattle.headline.specs.TilesSent.{IsOneOf}

-- the indices among pairs of index and delta
abbrev pub indices_in : List ℕ → List ℕ
indices_in [] = []
indices_in (index ∷ []) = []
indices_in (index ∷ delta ∷ more) = index ∷ indices_in more

-- a cache order of a glyph cache, for one of these indices
abbrev pub IsOrderOfRun : ℕ → List ℕ → SentOrder → Type 0
IsOrderOfRun cache indices (Drawn touched d bounds) = ⊥
IsOrderOfRun cache indices (CacheImage of_cache at_index image) = ⊥
IsOrderOfRun cache indices (CacheGlyph of_cache at_index glyph) = (of_cache ≡ cache) × IsOneOf at_index indices
IsOrderOfRun cache indices (CacheBrush entry brush) = ⊥
IsOrderOfRun cache indices (FrameMarker ends) = ⊥

abbrev pub AreOrdersOfRun : ℕ → List ℕ → List SentOrder → Type 0
AreOrdersOfRun cache indices [] = ⊤
AreOrdersOfRun cache indices (o ∷ os) = IsOrderOfRun cache indices o × AreOrdersOfRun cache indices os
