-- Drawings that go as orders, and what was decided of each.
use Rattle.std.specs.Prelude.{◌≡◌, ℕ, List, [], ◌∷◌, map, Option, Some, None}
use Rattle.draw_ops.specs.declared.shape.Shape.{Shape}
use Rattle.draw_ops.specs.declared.shape.Shape.TheVariants.{Fill, Dst, Pat, Copy, Blit, Blit3, Text, Line, Save, Restore, LoadImage, LoadBrush, LoadGlyph}
use Rattle.draw_ops.specs.Content.{ImageOf}
use Rattle.draw_ops.specs.Slots.{Loaded}
use Rattle.caps_sets.specs.declared.confirmed.Confirmed.{Confirmed}
use Rattle.session_rules.specs.Pending.{Pending}
use Rattle.frame_rules.specs.Frame.{Sent}
use Rattle.frame_rules.specs.Support.{image_cache, run_cache}
use Rattle.frame_plan.specs.declared.orders.Planned.{Planned}
use Rattle.frame_plan.specs.declared.cached.Cached.{Cached}
use Rattle.frame_plan.specs.declared.cached.Cached.TheVariants.{Nothing, Brush, Image, ImageAndBrush, Glyphs}

-- a drawing goes as an order where it has a position
abbrev pub sent_to : Pending → Option ℕ → List Sent
sent_to p None = []
sent_to p (Some position) = record { pending = p; position = position } ∷ []

-- the number of the cache that a shape's image or its glyphs go to, where it has some and a cache serves
abbrev pub cache_for : Confirmed → Pending → Shape → Option ℕ
cache_for c p (Fill r color) = None
cache_for c p (Dst r code) = None
cache_for c p (Pat r code brush) = None
cache_for c p (Copy r code sx sy) = None
cache_for c p (Blit r code image sx sy) = image_cache c p.image
cache_for c p (Blit3 r code image sx sy brush) = image_cache c p.image
cache_for c p (Text x y color font run) = run_cache c p.glyphs
cache_for c p (Line x0 y0 x1 y1 color) = None
cache_for c p (Save slot r) = None
cache_for c p (Restore slot x y) = None
cache_for c p (LoadImage slot image) = None
cache_for c p (LoadBrush slot brush) = None
cache_for c p (LoadGlyph font code glyph) = None

-- what a drawing takes from caches, with the image and the brush of its slots, and the cache that its image goes to, or its glyphs where it has no image
abbrev pub cached_with : Option ℕ → Option (Loaded ImageOf) → Option (Loaded (List ℕ)) → Cached
cached_with (Some cache) (Some image) (Some brush) = ImageAndBrush cache image brush
cached_with (Some cache) (Some image) None = Image cache image
cached_with (Some cache) None brush = Glyphs cache
cached_with None image (Some brush) = Brush brush
cached_with None image None = Nothing

-- what a drawing that goes as an order takes, of the cache that serves it
abbrev pub cached_of : Confirmed → Sent → Cached
cached_of c s = cached_with (cache_for c s.pending s.pending.drawing.shape) s.pending.image s.pending.brush

abbrev pub all_cached : Confirmed → List Sent → List Cached
all_cached c ss = map (cached_of c) ss

-- what was decided, as a drawing that goes as an order, and as what it takes
abbrev pub sent_as : Planned → Sent
sent_as p = record { pending = p.pending; position = p.position }

abbrev pub drawings_in : List Planned → List Sent
drawings_in ps = map sent_as ps

abbrev pub cached_in : List Planned → List Cached
cached_in ps = map (λ p. p.cached) ps

-- they take what the drawings' slots held, of the caches that serve
abbrev pub AreChosen : Confirmed → List Planned → Type 0
AreChosen c ps = cached_in ps ≡ all_cached c (drawings_in ps)
