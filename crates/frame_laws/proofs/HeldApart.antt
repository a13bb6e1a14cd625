-- The blocks that a viewer holds stand apart, within the positions, through any frame.
use Rattle.std.proofs.Common.{◌≡◌, ℕ, ◌≤◌, List, [], ◌∷◌, refl, Some, None, subst}
use Rattle.std.specs.Prelude.{Bool, true, false, ◌&&◌, ◌==◌, Option}
use Rattle.px_core.specs.declared.surface.Size.{Size}
use Rattle.px_core.specs.declared.rectangle.Rect.{Rect}
use Rattle.px_core.specs.Tiles.{Tiles, either_tiles}
use Rattle.draw_ops.specs.declared.shape.Shape.{Shape}
use Rattle.draw_ops.specs.declared.shape.Shape.TheVariants.{Fill, Dst, Pat, Copy, Blit, Blit3, Text, Line, Save, Restore, LoadImage, LoadBrush, LoadGlyph}
use Rattle.caps_sets.specs.declared.confirmed.Confirmed.{Confirmed}
use Rattle.save_plan.specs.Blocks.{all_positions, AreApart}
use Rattle.save_plan.proofs.Apart.{apart_without}
use Rattle.save_plan.proofs.LeastFree.{computed_is_least}
use Rattle.frame_rules.specs.Blocks.{Place, Held, positions_of, end_of, least_free, place_if, place_of}
use Rattle.session_rules.specs.Pending.{Pending}
use Rattle.frame_rules.specs.Cautious.{as_walked}
use Rattle.frame_rules.specs.Support.{supports}
use Rattle.frame_rules.specs.Frame.{Walk, touched_tiles, given_up, sent_if, saved_at, saved_if, restored_from, block_if, reads_clean_tiles, walked, walked_as}
use Rattle.frame_rules.specs.Frame.{walked_pending, walk_after, jumped_shape, jumped_one, jumped, framed_by}

-- the place of a held block ends within the positions
pub place_ends : (slot : ℕ) (held : Held) (place : Place) → AreApart held → place_of slot held ≡ Some place → end_of place ≤ all_positions
place_ends slot [] place apart e = absurd (cc e)
place_ends slot (b ∷ bs) place apart e = by (b.0 == slot) e (λ h. place_ends slot bs place apart.1 h)
  where
    by : (test : Bool) → place_if test b.1 (place_of slot bs) ≡ Some place → (place_of slot bs ≡ Some place → end_of place ≤ all_positions)
        → end_of place ≤ all_positions
    by true h rest = let same : b.1 ≡ place = cc h in subst (λ (p : Place). end_of p ≤ all_positions) same apart.0.there
    by false h rest = rest h

by_test : (b : Bool) (size : Size) (w : Walk) (p : Pending) → AreApart w.held → AreApart (sent_if b size w p).walk.held
by_test true size w p h = h
by_test false size w p h = h

by_place : (o : Option Place) (size : Size) (w : Walk) (p : Pending) → AreApart w.held → AreApart (restored_from size w p o).walk.held
by_place None size w p h = h
by_place (Some place) size w p h = h

by_position : (o : Option ℕ) (size : Size) (w : Walk) (p : Pending) (slot : ℕ) (r : Rect) → least_free (positions_of r.w r.h) w.held ≡ o → AreApart w.held
    → AreApart (saved_at size w p slot r o).walk.held
by_position None size w p slot r e h = h
by_position (Some position) size w p slot r e h = ((computed_is_least (positions_of r.w r.h) position w.held e).is_free, h)

by_save : (b : Bool) (size : Size) (w : Walk) (p : Pending) (slot : ℕ) (r : Rect) → AreApart w.held → AreApart (saved_if b size w p slot r).walk.held
by_save true size w p slot r h = by_position (least_free (positions_of r.w r.h) w.held) size w p slot r refl h
by_save false size w p slot r h = h

shape_apart : (size : Size) (c : Confirmed) (w : Walk) (p : Pending) (s : Shape) → AreApart w.held → AreApart (walked size c w p s).walk.held
shape_apart size c w p (Fill r color) h = by_test (supports c p (Fill r color)) size w p h
shape_apart size c w p (Dst r code) h = by_test (supports c p (Dst r code)) size w p h
shape_apart size c w p (Pat r code brush) h = by_test (supports c p (Pat r code brush)) size w p h
shape_apart size c w p (Copy r code sx sy) h = by_test (supports c p (Copy r code sx sy) && reads_clean_tiles size w (Copy r code sx sy)) size w p h
shape_apart size c w p (Blit r code image sx sy) h = by_test (supports c p (Blit r code image sx sy)) size w p h
shape_apart size c w p (Blit3 r code image sx sy brush) h = by_test (supports c p (Blit3 r code image sx sy brush)) size w p h
shape_apart size c w p (Text x y color font run) h = by_test (supports c p (Text x y color font run)) size w p h
shape_apart size c w p (Line x0 y0 x1 y1 color) h = h
shape_apart size c w p (Save slot r) h = by_save (supports c p (Save slot r) && reads_clean_tiles size w (Save slot r)) size (given_up slot w) p slot r
    (apart_without slot w.held h)
shape_apart size c w p (Restore slot x y) h = by_place (block_if (supports c p (Restore slot x y)) slot w) size w p h
shape_apart size c w p (LoadImage slot image) h = h
shape_apart size c w p (LoadBrush slot brush) h = h
shape_apart size c w p (LoadGlyph font code glyph) h = h

as_apart : (size : Size) (c : Confirmed) (w : Walk) (o : Option Pending) → AreApart w.held → AreApart (walked_as size c w o).walk.held
as_apart size c w None h = h
as_apart size c w (Some q) h = shape_apart size c w q q.drawing.shape h

-- through a drawing in its turn
pub walked_apart : (size : Size) (c : Confirmed) (w : Walk) (p : Pending) → AreApart w.held → AreApart (walked_pending size c w p).walk.held
walked_apart size c w p h = as_apart size c w (as_walked size c p) h

walk_apart : (size : Size) (c : Confirmed) (ps : List Pending) (w : Walk) → AreApart w.held → AreApart (walk_after size c w ps).held
walk_apart size c [] w h = h
walk_apart size c (p ∷ ps) w h = walk_apart size c ps (walked_pending size c w p).walk (walked_apart size c w p h)

jumped_shape_apart : (w : Walk) (s : Shape) → AreApart w.held → AreApart (jumped_shape w s).held
jumped_shape_apart w (Fill r color) h = h
jumped_shape_apart w (Dst r code) h = h
jumped_shape_apart w (Pat r code brush) h = h
jumped_shape_apart w (Copy r code sx sy) h = h
jumped_shape_apart w (Blit r code image sx sy) h = h
jumped_shape_apart w (Blit3 r code image sx sy brush) h = h
jumped_shape_apart w (Text x y color font run) h = h
jumped_shape_apart w (Line x0 y0 x1 y1 color) h = h
jumped_shape_apart w (Save slot r) h = apart_without slot w.held h
jumped_shape_apart w (Restore slot x y) h = h
jumped_shape_apart w (LoadImage slot image) h = h
jumped_shape_apart w (LoadBrush slot brush) h = h
jumped_shape_apart w (LoadGlyph font code glyph) h = h

jump_apart : (size : Size) (ps : List Pending) (w : Walk) → AreApart w.held → AreApart (jumped size w ps).held
jump_apart size [] w h = h
jump_apart size (p ∷ ps) w h = jump_apart size ps (jumped_one size w p)
    (jumped_shape_apart (record w { dirty = either_tiles w.dirty (touched_tiles size p) }) p.drawing.shape h)

-- through a frame, walk or jump
pub frame_apart : (jump : Bool) (size : Size) (c : Confirmed) (first : Bool) (w : Walk) (asked : Tiles) (picture : List ℕ) (ps : List Pending) → AreApart w.held
    → AreApart (framed_by jump size c first w asked picture ps).held
frame_apart true size c first w asked picture ps h = jump_apart size ps w h
frame_apart false size c first w asked picture ps h = walk_apart size c ps w h
