-- The caches of a client.
use Rattle.std.specs.Prelude.{◌≡◌, ℕ, Bool, List, map, length, Result, Ok}
use Rattle.px_core.specs.declared.depth.Depth.{Depth}
use Rattle.draw_ops.specs.Content.{ImageOf, GlyphOf}
use Rattle.draw_ops.specs.Slots.{Slots, empty_slots}
use Rattle.wire_num.specs.Field.{bind}
use Rattle.px_core.specs.Picture.{turned_over}
use Rattle.caps_sets.specs.declared.confirmed.Confirmed.{Confirmed}
use Rattle.order_means.specs.ClientState.{ClientState, Fault, empty_cache, brush_entries, wire_pixels}
use Rattle.client_caches.specs.declared.obey_fault.ObeyFault.{ObeyFault}
use Rattle.client_caches.specs.Answers.{Gives}

-- what three bitmap caches, ten glyph caches and the brush cache hold, by index
pub record CachesOf : Type 0 where
  pub images : List (Slots ImageOf)
  pub glyphs : List (Slots GlyphOf)
  pub brushes : Slots (List ℕ)

abbrev pub first_caches : Confirmed → CachesOf
first_caches confirmed = record { images = map empty_cache confirmed.bitmaps; glyphs = map empty_cache confirmed.glyphs; brushes = empty_slots (brush_entries confirmed.brush) }

-- a client with these caches
abbrev pub with_caches : ClientState → CachesOf → ClientState
with_caches c k = record c { images = k.images; glyphs = k.glyphs; brushes = k.brushes }

-- three bitmap caches and ten glyph caches
pub record HasAll (k : CachesOf) : Type 0 where
  pub images : length k.images ≡ 3
  pub glyphs : length k.glyphs ≡ 10

-- what was stored is what a client stores, whatever else it has; a refusal is the client's, and changes nothing
abbrev pub Stores : Result (Unit {0}) ObeyFault → (ClientState → Result ClientState Fault) → CachesOf → CachesOf → Type 0
Stores result after old new = (c : ClientState) → Gives (λ _. with_caches c new) result (after (with_caches c old))

-- the same for clients of a depth
abbrev pub StoresAt : Depth → Result (Unit {0}) ObeyFault → (ClientState → Result ClientState Fault) → CachesOf → CachesOf → Type 0
StoresAt depth result after old new = (c : ClientState) → c.depth ≡ depth → Gives (λ _. with_caches c new) result (after (with_caches c old))

-- the pixels of raw or packed bytes, rows from the top
abbrev pub upright_pixels : Depth → Bool → ℕ → ℕ → List ℕ → Result (List ℕ) Fault
upright_pixels depth packed w h bytes = bind (wire_pixels depth packed w h bytes) (λ pixels. Ok (turned_over w h pixels))

-- the image of raw or packed bytes, rows from the top
abbrev pub kept_image : Depth → Bool → ℕ → ℕ → List ℕ → Result ImageOf Fault
kept_image depth packed w h bytes = bind (upright_pixels depth packed w h bytes) (λ pixels. Ok (record { w = w; h = h; pixels = pixels }))
