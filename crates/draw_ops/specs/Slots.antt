-- Slots and what they hold, and the state of the session's surface.
use Rattle.std.specs.Prelude.{ℕ, ◌+◌, ◌*◌, List, Option, Some, None, replicate, slice_get, slice_set}
use Rattle.px_core.specs.declared.surface.Size.{Size}
use Rattle.px_core.specs.Picture.{black_picture}
use Rattle.draw_ops.specs.Content.{ImageOf, GlyphOf}

-- what each slot holds, by its number. A list, so that a struct may have it as its value
abbrev pub Slots : Type 0 → Type 0
Slots A = List (Option A)

abbrev pub empty_slots : {A : Type 0} → ℕ → Slots A
empty_slots n = replicate n None

-- the slots after one was filled
abbrev pub filled_slot : {A : Type 0} → ℕ → A → Slots A → Slots A
filled_slot slot x slots = slice_set slots slot (Some x)

abbrev pub flattened : {A : Type 0} → Option (Option A) → Option A
flattened None = None
flattened (Some o) = o

-- what a slot holds
abbrev pub lookup : {A : Type 0} → ℕ → Slots A → Option A
lookup slot slots = flattened (slice_get slots slot)

-- what was loaded into a slot, and the number of the drawing that loaded it
pub record Loaded (A : Type 0) : Type 0 where
  pub number : ℕ
  pub content : A

-- a glyph's slot, of its font and its code
abbrev pub glyph_slot : ℕ → ℕ → ℕ
glyph_slot font code = 256 * font + code

-- the state of a surface: its picture, what its slots hold, and the number of drawings so far
pub record SurfaceState : Type 0 where
  pub picture : List ℕ
  pub images : Slots (Loaded ImageOf)
  pub brushes : Slots (Loaded (List ℕ))
  pub glyphs : Slots (Loaded GlyphOf)
  pub blocks : Slots ImageOf
  pub count : ℕ

-- the state that a session of this size opens with: all black, all slots empty
abbrev pub opening_surface : Size → SurfaceState
opening_surface size = record {
  picture = black_picture size;
  images = empty_slots 256;
  brushes = empty_slots 64;
  glyphs = empty_slots 1024;
  blocks = empty_slots 16;
  count = 0;
}
