-- The definitions, computed on worked lists: orders of updates, orders that draw, rectangles, and lists that aren't what the laws say.
use Rattle.std.proofs.Common.{◌≡◌, [], ◌∷◌, refl, arith, None}
use Rattle.std.specs.Prelude.{pos, true, false}
use Rattle.px_core.specs.Rectangle.{boxed}
use Rattle.order_fields.specs.NamedDrawing.NamedDrawing.{Opaque as OpaqueRect, Pat as PatBlt}
use Rattle.frame_rules.specs.FrameOrders.FrameOrder.{Ordered, Tile, Synchronize}
use Rattle.frame_rules.specs.FrameOrders.SentOrder.{Drawn, CacheBrush, FrameMarker}
use Rattle.frame_rules.specs.FrameBytes.{gathered}
use Rattle.headline.specs.Gathering.{bytes_in, AreGathered, orders_of_updates}
use Rattle.headline.specs.SentOnce.{drawn_orders, AreUsedBy}
use Rattle.headline.specs.TilesSent.{tiles_among, IsAscending}

three_bytes_in_two_orders : bytes_in ((1 ∷ []) ∷ (2 ∷ 3 ∷ []) ∷ []) ≡ 3
three_bytes_in_two_orders = refl

orders_of_two_updates : orders_of_updates (((1 ∷ []) ∷ []) ∷ ((2 ∷ 3 ∷ []) ∷ []) ∷ []) ≡ (1 ∷ []) ∷ (2 ∷ 3 ∷ []) ∷ []
orders_of_two_updates = refl

two_short_orders_share_an_update : gathered false ((1 ∷ []) ∷ (2 ∷ 3 ∷ []) ∷ []) ≡ ((1 ∷ []) ∷ (2 ∷ 3 ∷ []) ∷ []) ∷ []
two_short_orders_share_an_update = refl

so_they_do_on_the_fast_path : gathered true ((1 ∷ []) ∷ (2 ∷ 3 ∷ []) ∷ []) ≡ ((1 ∷ []) ∷ (2 ∷ 3 ∷ []) ∷ []) ∷ []
so_they_do_on_the_fast_path = refl

-- two short orders in two updates aren't gathered
two_updates_are_too_many : AreGathered false (((1 ∷ []) ∷ []) ∷ ((2 ∷ 3 ∷ []) ∷ []) ∷ []) → ⊥
two_updates_are_too_many h = let full = h.1 in absurd (omega (arith, full))

one_order_draws : drawn_orders (FrameMarker false ∷ CacheBrush 5 [] ∷ Drawn (boxed (pos 0) (pos 0) 8 8) (PatBlt (boxed (pos 0) (pos 0) 8 8) 0xF0 5) None ∷ [])
    ≡ Drawn (boxed (pos 0) (pos 0) 8 8) (PatBlt (boxed (pos 0) (pos 0) 8 8) 0xF0 5) None ∷ []
one_order_draws = refl

its_brush : AreUsedBy (PatBlt (boxed (pos 0) (pos 0) 8 8) 0xF0 5) (CacheBrush 5 [] ∷ [])
its_brush = (refl, tt)

-- another brush is none that the drawing uses, and a fill uses none
another_brush : AreUsedBy (PatBlt (boxed (pos 0) (pos 0) 8 8) 0xF0 5) (CacheBrush 6 [] ∷ []) → ⊥
another_brush h = let same = h.0 in absurd (omega (arith, same))

no_brush : AreUsedBy (OpaqueRect (boxed (pos 0) (pos 0) 8 8) 0) (CacheBrush 5 [] ∷ []) → ⊥
no_brush h = h.0

rectangles_alone : tiles_among (Ordered (FrameMarker false) ∷ Tile (boxed (pos 64) (pos 0) 64 64) (7 ∷ []) ∷ Synchronize ∷ [])
    ≡ Tile (boxed (pos 64) (pos 0) 64 64) (7 ∷ []) ∷ []
rectangles_alone = refl

ascending : IsAscending (1 ∷ 2 ∷ 33 ∷ [])
ascending = (omega arith, (omega arith, tt))

falling : IsAscending (2 ∷ 1 ∷ []) → ⊥
falling h = let up = h.0 in absurd (omega (arith, up))
