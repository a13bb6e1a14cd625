-- The frame of a take: which pending drawings go as orders, and which tiles go as bitmaps (profile).
use Rattle.std.specs.Prelude.{ℕ, ◌==◌, nat_lt, Bool, true, false, ◌&&◌, not, List, [], ◌∷◌, ◌++◌, length, Option, Some, None, if◌then◌else◌}
use Rattle.px_core.specs.declared.surface.Size.{Size}
use Rattle.px_core.specs.declared.rectangle.Rect.{Rect}
use Rattle.px_core.specs.Rectangle.{boxed, whole, clipped}
use Rattle.px_core.specs.Tiles.{Tiles, no_tiles, either_tiles, tiles_of, tiles_in, share_tile}
use Rattle.draw_ops.specs.declared.shape.Shape.{Shape}
use Rattle.draw_ops.specs.declared.shape.Shape.TheVariants.{Fill, Dst, Pat, Copy, Blit, Blit3, Text, Line, Save, Restore, LoadImage, LoadBrush, LoadGlyph}
use Rattle.caps_sets.specs.declared.confirmed.Confirmed.{Confirmed}
use Rattle.session_rules.specs.declared.entry.Entry.{Entry}
use Rattle.session_rules.specs.Journal.{state_after}
use Rattle.session_rules.specs.Steps.{TakeOf}
use Rattle.session_rules.specs.Pending.{Pending, pending_between}
use Rattle.frame_rules.specs.Blocks.{Place, placed, Held, positions_of, least_free, place_of, without_slot}
use Rattle.frame_rules.specs.Support.{supports}
use Rattle.frame_rules.specs.Cautious.{as_walked}

-- ---- the walk over pending drawings

-- the tiles that will go as bitmaps, and the blocks that the viewer holds
pub record Walk : Type 0 where
  pub dirty : Tiles
  pub held : Held

-- a drawing that goes as an order, and the position of its block, where it has one
pub record Sent : Type 0 where
  pub pending : Pending
  pub position : ℕ

-- what a drawing sends, and the walk after it
pub record Walked : Type 0 where
  pub sent : List Sent
  pub walk : Walk

-- the tiles with a pixel of the drawing's rectangle, its clip and the surface
abbrev pub touched_tiles : Size → Pending → Tiles
touched_tiles size p = tiles_of size (clipped p.rect p.drawing.clip)

-- the tiles that a shape's order reads: those of a copy's whole source, and of a save's rectangle
abbrev pub read_tiles : Size → Shape → Tiles
read_tiles size (Fill r color) = no_tiles
read_tiles size (Dst r code) = no_tiles
read_tiles size (Pat r code brush) = no_tiles
read_tiles size (Copy r code sx sy) = tiles_of size (boxed sx sy r.w r.h)
read_tiles size (Blit r code image sx sy) = no_tiles
read_tiles size (Blit3 r code image sx sy brush) = no_tiles
read_tiles size (Text x y color font run) = no_tiles
read_tiles size (Line x0 y0 x1 y1 color) = no_tiles
read_tiles size (Save slot r) = tiles_of size r
read_tiles size (Restore slot x y) = no_tiles
read_tiles size (LoadImage slot image) = no_tiles
read_tiles size (LoadBrush slot brush) = no_tiles
read_tiles size (LoadGlyph font code glyph) = no_tiles

abbrev pub reads_clean_tiles : Size → Walk → Shape → Bool
reads_clean_tiles size w s = not (share_tile size w.dirty (read_tiles size s))

-- a drawing that isn't sent as an order makes the tiles that it touches dirty
abbrev pub skipped : Size → Walk → Pending → Walked
skipped size w p = record { sent = []; walk = record w { dirty = either_tiles w.dirty (touched_tiles size p) } }

-- a drawing that is sent as an order
abbrev pub sent_at : Walk → Pending → ℕ → Walked
sent_at w p position = record { sent = record { pending = p; position = position } ∷ []; walk = w }

-- a load: nothing is sent, and nothing becomes dirty
abbrev pub unsent : Walk → Walked
unsent w = record { sent = []; walk = w }

abbrev pub sent_if : Bool → Size → Walk → Pending → Walked
sent_if true size w p = sent_at w p 0
sent_if false size w p = skipped size w p

abbrev pub with_block : ℕ → Place → Walk → Walk
with_block slot place w = record w { held = (slot, place) ∷ w.held }

-- a save goes to the least free position, which its slot then holds; without one it isn't sent
abbrev pub saved_at : Size → Walk → Pending → ℕ → Rect → Option ℕ → Walked
saved_at size w p slot r None = skipped size w p
saved_at size w p slot r (Some position) = sent_at (with_block slot (placed position r.w r.h) w) p position

abbrev pub saved_if : Bool → Size → Walk → Pending → ℕ → Rect → Walked
saved_if true size w p slot r = saved_at size w p slot r (least_free (positions_of r.w r.h) w.held)
saved_if false size w p slot r = skipped size w p

-- a save first gives up its slot's block
abbrev pub given_up : ℕ → Walk → Walk
given_up slot w = record w { held = without_slot slot w.held }

-- a restore reads the block that its slot holds
abbrev pub restored_from : Size → Walk → Pending → Option Place → Walked
restored_from size w p None = skipped size w p
restored_from size w p (Some place) = sent_at w p place.position

abbrev pub block_if : Bool → ℕ → Walk → Option Place
block_if true slot w = place_of slot w.held
block_if false slot w = None

-- a drawing in its turn
abbrev pub walked : Size → Confirmed → Walk → Pending → Shape → Walked
walked size c w p (Fill r color) = sent_if (supports c p (Fill r color)) size w p
walked size c w p (Dst r code) = sent_if (supports c p (Dst r code)) size w p
walked size c w p (Pat r code brush) = sent_if (supports c p (Pat r code brush)) size w p
walked size c w p (Copy r code sx sy) = sent_if (supports c p (Copy r code sx sy) && reads_clean_tiles size w (Copy r code sx sy)) size w p
walked size c w p (Blit r code image sx sy) = sent_if (supports c p (Blit r code image sx sy)) size w p
walked size c w p (Blit3 r code image sx sy brush) = sent_if (supports c p (Blit3 r code image sx sy brush)) size w p
walked size c w p (Text x y color font run) = sent_if (supports c p (Text x y color font run)) size w p
walked size c w p (Line x0 y0 x1 y1 color) = skipped size w p
walked size c w p (Save slot r) = saved_if (supports c p (Save slot r) && reads_clean_tiles size w (Save slot r)) size (given_up slot w) p slot r
walked size c w p (Restore slot x y) = restored_from size w p (block_if (supports c p (Restore slot x y)) slot w)
walked size c w p (LoadImage slot image) = unsent w
walked size c w p (LoadBrush slot brush) = unsent w
walked size c w p (LoadGlyph font code glyph) = unsent w

-- a drawing that is walked as none is passed over like a load
abbrev pub walked_as : Size → Confirmed → Walk → Option Pending → Walked
walked_as size c w None = unsent w
walked_as size c w (Some p) = walked size c w p p.drawing.shape

abbrev pub walked_pending : Size → Confirmed → Walk → Pending → Walked
walked_pending size c w p = walked_as size c w (as_walked size c p)

-- the drawings that go as orders, in order
abbrev pub sent_from : Size → Confirmed → Walk → List Pending → List Sent
sent_from size c w [] = []
sent_from size c w (p ∷ ps) = (walked_pending size c w p).sent ++ sent_from size c (walked_pending size c w p).walk ps

abbrev pub walk_after : Size → Confirmed → Walk → List Pending → Walk
walk_after size c w [] = w
walk_after size c w (p ∷ ps) = walk_after size c (walked_pending size c w p).walk ps

-- ---- the jump over more than 256 pending drawings: none is sent as an order

abbrev pub most_orders : ℕ
most_orders = 256

-- each slot that a save names is held no longer
abbrev pub jumped_shape : Walk → Shape → Walk
jumped_shape w (Fill r color) = w
jumped_shape w (Dst r code) = w
jumped_shape w (Pat r code brush) = w
jumped_shape w (Copy r code sx sy) = w
jumped_shape w (Blit r code image sx sy) = w
jumped_shape w (Blit3 r code image sx sy brush) = w
jumped_shape w (Text x y color font run) = w
jumped_shape w (Line x0 y0 x1 y1 color) = w
jumped_shape w (Save slot r) = given_up slot w
jumped_shape w (Restore slot x y) = w
jumped_shape w (LoadImage slot image) = w
jumped_shape w (LoadBrush slot brush) = w
jumped_shape w (LoadGlyph font code glyph) = w

abbrev pub jumped_one : Size → Walk → Pending → Walk
jumped_one size w p = jumped_shape (record w { dirty = either_tiles w.dirty (touched_tiles size p) }) p.drawing.shape

-- the tiles that any of them touches are dirty
abbrev pub jumped : Size → Walk → List Pending → Walk
jumped size w [] = w
jumped size w (p ∷ ps) = jumped size (jumped_one size w p) ps

-- ---- the frame

-- whether it is the viewer's first, the drawings that go as orders, the tiles that go as bitmaps, the blocks held after it, and the picture that it shows
pub record FrameOf : Type 0 where
  pub first : Bool
  pub sent : List Sent
  pub tiles : List ℕ
  pub held : Held
  pub picture : List ℕ

-- a frame without a viewer's support for PatBlt can't begin with a black fill, so its first one begins with every tile of the picture dirty
abbrev pub first_dirty : Size → Bool → Confirmed → Tiles
first_dirty size first c = if first && not c.pat then tiles_of size (whole size) else no_tiles

abbrev pub framed : Size → Bool → Tiles → List ℕ → List Sent → Walk → FrameOf
framed size first asked picture sent w = record {
  first = first;
  sent = sent;
  tiles = tiles_in size
      (either_tiles w.dirty asked);
  held = w.held;
  picture = picture;
}

abbrev pub framed_by : Bool → Size → Confirmed → Bool → Walk → Tiles → List ℕ → List Pending → FrameOf
framed_by true size c first w asked picture ps = framed size first asked picture [] (jumped size w ps)
framed_by false size c first w asked picture ps = framed size first asked picture (sent_from size c w ps) (walk_after size c w ps)

-- the frame over these pending drawings: whether it is the first, the blocks held before it, the tiles that were asked for, and the picture that it is to show
abbrev pub frame_over : Size → Confirmed → Bool → Held → Tiles → List ℕ → List Pending → FrameOf
frame_over size c first held asked picture ps =
    framed_by (nat_lt most_orders (length ps)) size c first (record { dirty = first_dirty size first c; held = held }) asked picture ps

-- whether a take is its viewer's first
abbrev pub is_first : TakeOf → Bool
is_first t = t.before == 0

-- the frame of a take over a journal; its number, and the viewer's next one, is the take's
abbrev pub frame_of : Size → Confirmed → List Entry → Held → TakeOf → FrameOf
frame_of size c j held t = frame_over size c (is_first t) held t.asked (state_after size j t.number).surface.picture (pending_between size j t.before t.number)

-- the tiles that go as bitmaps: the dirty ones, and those that the viewer asked for
abbrev pub tiles_to_send : Size → Confirmed → List Entry → Held → TakeOf → List ℕ
tiles_to_send size c j held t = (frame_of size c j held t).tiles
