-- What a cautious viewer's drawings are walked as: cut to the pixels that they may change, or passed over (profile).
use Rattle.std.specs.Prelude.{ℕ, ◌==◌, Bool, true, false, ℤ, ◌+ℤ◌, ◌-ℤ◌, Option, Some, None}
use Rattle.px_core.specs.declared.surface.Size.{Size}
use Rattle.px_core.specs.declared.rectangle.Rect.{Rect}
use Rattle.px_core.specs.Rectangle.{whole, common, clipped, has_pixel}
use Rattle.draw_ops.specs.declared.shape.Shape.{Shape}
use Rattle.draw_ops.specs.declared.shape.Shape.TheVariants.{Fill, Dst, Pat, Copy, Blit, Blit3, Text, Line, Save, Restore, LoadImage, LoadBrush, LoadGlyph}
use Rattle.caps_sets.specs.declared.confirmed.Confirmed.{Confirmed}
use Rattle.session_rules.specs.Pending.{Pending}

-- the pixels of a drawing's rectangle, its clip and the surface
abbrev pub area_of : Size → Pending → Rect
area_of size p = common (whole size) (clipped p.rect p.drawing.clip)

-- the code of the raster operation that leaves every pixel as it was
abbrev pub changes_nothing : ℕ → Bool
changes_nothing code = code == 0xAA

-- a source moves as far as its rectangle's corner
abbrev pub moved : ℤ → ℤ → ℤ → ℤ
moved from to s = s +ℤ (to -ℤ from)

abbrev pub unless : Bool → Shape → Option Shape
unless true s = None
unless false s = Some s

-- a shape of a rectangle with another rectangle and with its source moved along; there is none where its code changes nothing
abbrev pub cut_to : Rect → Shape → Option Shape
cut_to a (Fill r color) = Some (Fill a color)
cut_to a (Dst r code) = unless (changes_nothing code) (Dst a code)
cut_to a (Pat r code brush) = unless (changes_nothing code) (Pat a code brush)
cut_to a (Copy r code sx sy) = unless (changes_nothing code) (Copy a code (moved r.x a.x sx) (moved r.y a.y sy))
cut_to a (Blit r code image sx sy) = unless (changes_nothing code) (Blit a code image (moved r.x a.x sx) (moved r.y a.y sy))
cut_to a (Blit3 r code image sx sy brush) = unless (changes_nothing code) (Blit3 a code image (moved r.x a.x sx) (moved r.y a.y sy) brush)
cut_to a (Text x y color font run) = Some (Text x y color font run)
cut_to a (Line x0 y0 x1 y1 color) = Some (Line x0 y0 x1 y1 color)
cut_to a (Save slot r) = Some (Save slot r)
cut_to a (Restore slot x y) = Some (Restore slot x y)
cut_to a (LoadImage slot image) = Some (LoadImage slot image)
cut_to a (LoadBrush slot brush) = Some (LoadBrush slot brush)
cut_to a (LoadGlyph font code glyph) = Some (LoadGlyph font code glyph)

-- whether a shape is one of those that are cut
abbrev pub is_cut : Shape → Bool
is_cut (Fill r color) = true
is_cut (Dst r code) = true
is_cut (Pat r code brush) = true
is_cut (Copy r code sx sy) = true
is_cut (Blit r code image sx sy) = true
is_cut (Blit3 r code image sx sy brush) = true
is_cut (Text x y color font run) = false
is_cut (Line x0 y0 x1 y1 color) = false
is_cut (Save slot r) = false
is_cut (Restore slot x y) = false
is_cut (LoadImage slot image) = false
is_cut (LoadBrush slot brush) = false
is_cut (LoadGlyph font code glyph) = false

abbrev pub with_shape : Pending → Rect → Option Shape → Option Pending
with_shape p a None = None
with_shape p a (Some s) = Some (record p { drawing = record { shape = s; clip = None }; rect = a })

abbrev pub cut_by : Bool → Bool → Size → Pending → Option Pending
cut_by false some size p = Some p
cut_by true false size p = None
cut_by true true size p = with_shape p (area_of size p) (cut_to (area_of size p) p.drawing.shape)

-- a drawing cut to its area, without a clip; there is none where the area has no pixel, or the code changes nothing
abbrev pub cut : Size → Pending → Option Pending
cut size p = cut_by (is_cut p.drawing.shape) (has_pixel (area_of size p)) size p

abbrev pub cut_if : Bool → Size → Pending → Option Pending
cut_if true size p = cut size p
cut_if false size p = Some p

-- what a viewer's drawing is walked as
abbrev pub as_walked : Size → Confirmed → Pending → Option Pending
as_walked size c p = cut_if c.cautious size p
