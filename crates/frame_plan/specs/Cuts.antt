-- Where drawings stand that are walked, and that are cut before.
use Rattle.std.specs.Prelude.{◌≡◌, ⊤, true, Option, Some, None, List, [], ◌∷◌}
use Rattle.px_core.specs.declared.surface.Size.{Size}
use Rattle.px_core.specs.declared.rectangle.Rect.{Rect}
use Rattle.px_core.specs.Rectangle.{boxed, is_inside, IsPlaced, IsPlacedClip}
use Rattle.draw_ops.specs.declared.shape.Shape.{Shape}
use Rattle.draw_ops.specs.declared.shape.Shape.TheVariants.{Fill, Dst, Pat, Copy, Blit, Blit3, Text, Line, Save, Restore, LoadImage, LoadBrush, LoadGlyph}
use Rattle.session_rules.specs.Pending.{Pending}

-- the rectangle that a shape's order reads is one that calls may be given
abbrev pub ReadsPlaced : Shape → Type 0
ReadsPlaced (Fill r color) = ⊤
ReadsPlaced (Dst r code) = ⊤
ReadsPlaced (Pat r code brush) = ⊤
ReadsPlaced (Copy r code sx sy) = IsPlaced (boxed sx sy r.w r.h)
ReadsPlaced (Blit r code image sx sy) = ⊤
ReadsPlaced (Blit3 r code image sx sy brush) = ⊤
ReadsPlaced (Text x y color font run) = ⊤
ReadsPlaced (Line x0 y0 x1 y1 color) = ⊤
ReadsPlaced (Save slot r) = IsPlaced r
ReadsPlaced (Restore slot x y) = ⊤
ReadsPlaced (LoadImage slot image) = ⊤
ReadsPlaced (LoadBrush slot brush) = ⊤
ReadsPlaced (LoadGlyph font code glyph) = ⊤

-- the rectangles of a drawing are ones that calls may be given
pub record IsWalkable (p : Pending) : Type 0 where
  pub rect : IsPlaced p.rect
  pub clip : IsPlacedClip p.drawing.clip
  pub reads : ReadsPlaced p.drawing.shape

-- a source can be moved along with its rectangle, which is the one that the drawing touches; that of a copy lies inside the picture
abbrev pub CanMove : Size → Rect → Shape → Type 0
CanMove size touched (Fill r color) = ⊤
CanMove size touched (Dst r code) = ⊤
CanMove size touched (Pat r code brush) = ⊤
CanMove size touched (Copy r code sx sy) = (touched ≡ r) × (is_inside size (boxed sx sy r.w r.h) ≡ true)
CanMove size touched (Blit r code image sx sy) = (touched ≡ r) × IsPlaced (boxed sx sy r.w r.h)
CanMove size touched (Blit3 r code image sx sy brush) = (touched ≡ r) × IsPlaced (boxed sx sy r.w r.h)
CanMove size touched (Text x y color font run) = ⊤
CanMove size touched (Line x0 y0 x1 y1 color) = ⊤
CanMove size touched (Save slot r) = ⊤
CanMove size touched (Restore slot x y) = ⊤
CanMove size touched (LoadImage slot image) = ⊤
CanMove size touched (LoadBrush slot brush) = ⊤
CanMove size touched (LoadGlyph font code glyph) = ⊤

pub record IsCuttable (size : Size) (p : Pending) : Type 0 where
  pub walkable : IsWalkable p
  pub source : CanMove size p.rect p.drawing.shape

-- each of some drawings
abbrev pub AllCuttable : Size → List Pending → Type 0
AllCuttable size [] = ⊤
AllCuttable size (p ∷ ps) = IsCuttable size p × AllCuttable size ps

abbrev pub AllWalkable : List Pending → Type 0
AllWalkable [] = ⊤
AllWalkable (p ∷ ps) = IsWalkable p × AllWalkable ps

-- what a drawing is walked as, where it is walked at all
abbrev pub IsWalkableAs : Option Pending → Type 0
IsWalkableAs None = ⊤
IsWalkableAs (Some p) = IsWalkable p

-- the corner of a source, where a shape that is cut has one, and its rectangle stand where calls may be given them
abbrev pub NearSource : Shape → Type 0
NearSource (Fill r color) = ⊤
NearSource (Dst r code) = ⊤
NearSource (Pat r code brush) = ⊤
NearSource (Copy r code sx sy) = IsPlaced r × IsPlaced (boxed sx sy r.w r.h)
NearSource (Blit r code image sx sy) = IsPlaced r × IsPlaced (boxed sx sy r.w r.h)
NearSource (Blit3 r code image sx sy brush) = IsPlaced r × IsPlaced (boxed sx sy r.w r.h)
NearSource (Text x y color font run) = ⊤
NearSource (Line x0 y0 x1 y1 color) = ⊤
NearSource (Save slot r) = ⊤
NearSource (Restore slot x y) = ⊤
NearSource (LoadImage slot image) = ⊤
NearSource (LoadBrush slot brush) = ⊤
NearSource (LoadGlyph font code glyph) = ⊤
