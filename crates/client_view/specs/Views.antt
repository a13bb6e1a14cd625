-- Which view a viewer in code stands for, and what calls say that let it obey.
use Rattle.std.specs.Prelude.{◌≡◌, ℕ, ℤ, ◌+◌, ◌-◌, ◌*◌, ◌^◌, min, List, [], ◌∷◌, length, Option, Result, Ok, Err}
use Rattle.px_core.specs.declared.surface.Size.{Size}
use Rattle.caps_sets.specs.declared.confirmed.Confirmed.{Confirmed}
use Rattle.draw_ops.specs.Content.{ImageOf}
use Rattle.order_fields.specs.OrderTable.{Registers}
use Rattle.order_means.specs.ClientState.{ClientState, Fault, Block}
use Rattle.order_means.specs.FrameMarks.{View, first_view}
use Rattle.client_picture.specs.declared.source.Source.{Source}
use Rattle.client_picture.specs.Pictures.{Pictures, unknown_picture, marked_now}
use Rattle.client_caches.specs.declared.obey_fault.ObeyFault.{ObeyFault}
use Rattle.client_caches.specs.Answers.{Refuses, Gives}
use Rattle.client_caches.specs.Caches.{CachesOf}
use Rattle.client_view.specs.declared.viewer.Viewer.{Viewer}

-- a number that is kept in 64 bits
abbrev pub capped : ℕ → ℕ
capped n = min n (2 ^ 64 - 1)

-- a client of its parts
abbrev pub client_of : Registers → CachesOf → List Block → Pictures → ClientState
client_of registers caches blocks pictures = record {
  depth = pictures.depth;
  registers = registers;
  images = caches.images;
  glyphs = caches.glyphs;
  brushes = caches.brushes;
  blocks = blocks;
  picture = pictures.picture;
}

-- the last of pictures, else the other one
abbrev pub last_picture : List (Option ℕ) → List (List (Option ℕ)) → List (Option ℕ)
last_picture other [] = other
last_picture other (p ∷ ps) = last_picture p ps

-- a viewer stands for a view: it has its client, its last picture at a mark, and its counts
pub record StandsFor (v : View) (m : Viewer) : Type 0 where
  pub client : v.client ≡ client_of m.regs m.caches m.blocks m.pictures
  pub marked : m.pictures.marked ≡ last_picture (unknown_picture m.pictures.size) v.pictures
  pub marks : m.marks ≡ capped (length v.pictures)
  pub orders : m.orders ≡ capped v.orders
  pub tiles : m.tiles ≡ capped v.tiles

-- what a viewer confirmed and the size of its picture stay
pub record SameViewer (old new : Viewer) : Type 0 where
  pub confirmed : new.confirmed ≡ old.confirmed
  pub size : new.pictures.size ≡ old.pictures.size

-- a viewer before the first update
pub record IsFirst (confirmed : Confirmed) (size : Size) (m : Viewer) : Type 0 where
  pub stands : StandsFor (first_view confirmed size) m
  pub confirmed_is : m.confirmed ≡ confirmed
  pub size_is : m.pictures.size ≡ size

-- the meaning gives a view, for which the viewer then stands, or a refusal
abbrev pub Obeys : Result (Unit {0}) ObeyFault → Result View Fault → Viewer → Type 0
Obeys (Ok done) meaning new = (w : View) × (meaning ≡ Ok w) × StandsFor w new
Obeys (Err f) meaning new = Refuses f meaning

-- the size of a picture stays, and the picture at the last mark
pub record SamePlace (old new : Pictures) : Type 0 where
  pub size : new.size ≡ old.size
  pub marked : new.marked ≡ old.marked

-- what is drawn is what a client draws, whatever its registers are
abbrev pub Draws : Result (Unit {0}) ObeyFault → (ClientState → Result ClientState Fault) → CachesOf → List Block → List Block → Pictures → Pictures → Type 0
Draws result after caches blocks new_blocks old new =
    (registers : Registers) → Gives (λ _. client_of registers caches new_blocks new) result (after (client_of registers caches blocks old))

-- an image as a source
pub record IsSourceOf (image : ImageOf) (sx sy : ℤ) (s : Source) : Type 0 where
  pub pixels : s.pixels.now ≡ image.pixels
  pub w : s.w ≡ image.w
  pub h : s.h ≡ image.h
  pub sx_is : s.sx ≡ sx
  pub sy_is : s.sy ≡ sy
  pub filled : length image.pixels ≡ image.w * image.h

-- the picture is kept at a mark, and the mark is counted
abbrev pub IsMarked : Viewer → Viewer → Type 0
IsMarked old new = new ≡ record old { pictures = marked_now old.pictures; marks = capped (old.marks + 1) }
