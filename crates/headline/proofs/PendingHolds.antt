-- What the drawings that are sent hold: their images are sound, the bits of their glyphs are bytes, and their runs are short and of small deltas.
use Rattle.std.proofs.Common.{◌≡◌, ℕ, ◌≤◌, List, [], ◌∷◌, ◌++◌, length, refl, sym, subst, arith, Some, None}
use Rattle.std.specs.Prelude.{⊤, Bool, true, false, ◌&&◌, nat_le, Option}
use Rattle.std.proofs.lemmas.Bool.{and_parts}
use Rattle.std.proofs.lemmas.Bool.Decides.{nat_tests}
use Rattle.px_core.specs.declared.surface.Size.{Size}
use Rattle.px_core.specs.declared.rectangle.Rect.{Rect}
use Rattle.draw_ops.specs.declared.shape.Drawing.{Drawing}
use Rattle.draw_ops.specs.declared.shape.Shape.{Shape}
use Rattle.draw_ops.specs.declared.shape.Shape.TheVariants.{Fill, Dst, Pat, Copy, Blit, Blit3, Text, Line, Save, Restore, LoadImage, LoadBrush, LoadGlyph}
use Rattle.draw_ops.specs.Content.{ImageOf, GlyphOf}
use Rattle.draw_ops.specs.Slots.{SurfaceState, Loaded, lookup, glyph_slot}
use Rattle.draw_ops.specs.Drawing.{state_after_drawing}
use Rattle.draw_ops.specs.Fits.{rules_of, starts_at_0, deltas_are_small}
use Rattle.caps_sets.specs.declared.confirmed.Confirmed.{Confirmed}
use Rattle.session_rules.specs.declared.entry.Entry.{Entry}
use Rattle.session_rules.proofs.OwnSteps.{AllNone}
use Rattle.session_rules.proofs.Fitting.{Sides}
use Rattle.frame_rules.specs.Blocks.{Place, positions_of, least_free}
use Rattle.session_rules.specs.Pending.{Pending, image_of, glyphs_of, run_glyphs, onto_optional, pending_of, pending_drawings}
use Rattle.frame_rules.specs.Cautious.{cut, cut_if, as_walked}
use Rattle.frame_rules.specs.Support.{supports}
use Rattle.frame_rules.specs.Frame.{Walk, Sent, sent_if, saved_at, saved_if, given_up, restored_from, block_if, reads_clean_tiles, walked, walked_as}
use Rattle.frame_rules.specs.Frame.{walked_pending}
use Rattle.frame_rules.specs.Frame.{sent_from}
use Rattle.frame_rules.specs.Describes.{glyph_loaded}
use Rattle.frame_laws.proofs.CutDrawing.{cut_does}
use Rattle.frame_laws.specs.Sound.{IsSoundImage}
use Rattle.frame_laws.specs.Run.{AreDeltas}
use Rattle.frame_laws.specs.SoundState.{IsSound}
use Rattle.frame_laws.specs.Drawings.{Suits, AllSound}
use Rattle.frame_laws.proofs.Rules.{rules_kept, kept_test}
use Rattle.frame_laws.proofs.CutSuits.{cut_suits}
use Rattle.headline.specs.Sent.{AreBytes}

-- the run that a shape draws
abbrev pub run_of : Shape → List (ℕ × ℕ)
run_of (Text x y color font run) = run
run_of (Fill r color) = []
run_of (Dst r code) = []
run_of (Pat r code brush) = []
run_of (Copy r code sx sy) = []
run_of (Blit r code image sx sy) = []
run_of (Blit3 r code image sx sy brush) = []
run_of (Line x0 y0 x1 y1 color) = []
run_of (Save slot r) = []
run_of (Restore slot x y) = []
run_of (LoadImage slot image) = []
run_of (LoadBrush slot brush) = []
run_of (LoadGlyph font code glyph) = []

-- the bits of each glyph are bytes
abbrev pub AreOfBytes : List (Loaded GlyphOf) → Type 0
AreOfBytes [] = ⊤
AreOfBytes (g ∷ gs) = AreBytes g.content.bits × AreOfBytes gs

abbrev pub IsSoundIfAny : Option (Loaded ImageOf) → Type 0
IsSoundIfAny None = ⊤
IsSoundIfAny (Some image) = IsSoundImage image.content

pub record RunHolds (run : List (ℕ × ℕ)) : Type 0 where
  pub deltas : AreDeltas run
  pub few : length run ≤ 64

-- a pending drawing whose contents bytes can hold
pub record Holds (p : Pending) : Type 0 where
  pub run : RunHolds (run_of p.drawing.shape)
  pub image : IsSoundIfAny p.image
  pub glyphs : AreOfBytes p.glyphs

abbrev HoldsIfAny : Option Pending → Type 0
HoldsIfAny None = ⊤
HoldsIfAny (Some p) = Holds p

abbrev pub AllHold : List Sent → Type 0
AllHold [] = ⊤
AllHold (s ∷ ss) = Holds s.pending × AllHold ss

hold_append : (xs ys : List Sent) → AllHold xs → AllHold ys → AllHold (xs ++ ys)
hold_append [] ys h k = k
hold_append (x ∷ xs) ys h k = (h.0, hold_append xs ys h.1 k)

-- ---- a pending drawing of a sound state

small_deltas : (run : List (ℕ × ℕ)) → deltas_are_small run ≡ true → AreDeltas run
small_deltas [] h = tt
small_deltas (p ∷ ps) h = let parts = and_parts (nat_le p.1 127) (deltas_are_small ps) h in let one = parts.0 in
    (grind (arith, nat_tests, one), small_deltas ps parts.1)

at_most : (m n : ℕ) → nat_le m n ≡ true → m ≤ n
at_most m n h = grind (arith, nat_tests, h)

no_run : RunHolds []
no_run = record { deltas = tt; few = omega arith }

run_holds : (size : Size) (clip : Option Rect) (s : Shape) → AllNone (rules_of size clip s) → RunHolds (run_of s)
run_holds size clip (Text x y color font run) rules =
    let t = and_parts (nat_le (length run) 64) (starts_at_0 run && deltas_are_small run)
    (kept_test (nat_le (length run) 64 && (starts_at_0 run && deltas_are_small run)) 8 rules.1.1.1.1.0) in
    let u = and_parts (starts_at_0 run) (deltas_are_small run) t.1 in
    record { deltas = small_deltas run u.1; few = at_most (length run) 64 t.0 }
run_holds size clip (Fill r color) rules = no_run
run_holds size clip (Dst r code) rules = no_run
run_holds size clip (Pat r code brush) rules = no_run
run_holds size clip (Copy r code sx sy) rules = no_run
run_holds size clip (Blit r code image sx sy) rules = no_run
run_holds size clip (Blit3 r code image sx sy brush) rules = no_run
run_holds size clip (Line x0 y0 x1 y1 color) rules = no_run
run_holds size clip (Save slot r) rules = no_run
run_holds size clip (Restore slot x y) rules = no_run
run_holds size clip (LoadImage slot image) rules = no_run
run_holds size clip (LoadBrush slot brush) rules = no_run
run_holds size clip (LoadGlyph font code glyph) rules = no_run

module _ (size : Size) (j : List Entry) (bits : (n : ℕ) (g : GlyphOf) → glyph_loaded size j n ≡ Some g → AreBytes g.bits) where
  looked_up : (o : Option (Loaded ImageOf)) → ((image : Loaded ImageOf) → o ≡ Some image → IsSoundImage image.content) → IsSoundIfAny o
  looked_up None h = tt
  looked_up (Some image) h = h image refl

  image_holds : (st : SurfaceState) → IsSound size j st → (s : Shape) → IsSoundIfAny (image_of st s)
  image_holds st h (Blit r code image sx sy) = looked_up (lookup image st.images) (λ x e. (h.images image x e).sound)
  image_holds st h (Blit3 r code image sx sy brush) = looked_up (lookup image st.images) (λ x e. (h.images image x e).sound)
  image_holds st h (Fill r color) = tt
  image_holds st h (Dst r code) = tt
  image_holds st h (Pat r code brush) = tt
  image_holds st h (Copy r code sx sy) = tt
  image_holds st h (Text x y color font run) = tt
  image_holds st h (Line x0 y0 x1 y1 color) = tt
  image_holds st h (Save slot r) = tt
  image_holds st h (Restore slot x y) = tt
  image_holds st h (LoadImage slot image) = tt
  image_holds st h (LoadBrush slot brush) = tt
  image_holds st h (LoadGlyph font code glyph) = tt

  onto_holds : (o : Option (Loaded GlyphOf)) (gs : List (Loaded GlyphOf)) → ((g : Loaded GlyphOf) → o ≡ Some g → AreBytes g.content.bits) → AreOfBytes gs
      → AreOfBytes (onto_optional o gs)
  onto_holds None gs h rest = rest
  onto_holds (Some g) gs h rest = (h g refl, rest)

  glyphs_hold : (st : SurfaceState) → IsSound size j st → (font : ℕ) (run : List (ℕ × ℕ)) → AreOfBytes (run_glyphs st.glyphs font run)
  glyphs_hold st h font [] = tt
  glyphs_hold st h font (p ∷ ps) =
      onto_holds (lookup (glyph_slot font p.0) st.glyphs) (run_glyphs st.glyphs font ps)
      (λ g e. bits g.number g.content (h.glyphs (glyph_slot font p.0) g e).loaded) (glyphs_hold st h font ps)

  shape_glyphs_hold : (st : SurfaceState) → IsSound size j st → (s : Shape) → AreOfBytes (glyphs_of st s)
  shape_glyphs_hold st h (Text x y color font run) = glyphs_hold st h font run
  shape_glyphs_hold st h (Fill r color) = tt
  shape_glyphs_hold st h (Dst r code) = tt
  shape_glyphs_hold st h (Pat r code brush) = tt
  shape_glyphs_hold st h (Copy r code sx sy) = tt
  shape_glyphs_hold st h (Blit r code image sx sy) = tt
  shape_glyphs_hold st h (Blit3 r code image sx sy brush) = tt
  shape_glyphs_hold st h (Line x0 y0 x1 y1 color) = tt
  shape_glyphs_hold st h (Save slot r) = tt
  shape_glyphs_hold st h (Restore slot x y) = tt
  shape_glyphs_hold st h (LoadImage slot image) = tt
  shape_glyphs_hold st h (LoadBrush slot brush) = tt
  shape_glyphs_hold st h (LoadGlyph font code glyph) = tt

  pending_holds : (st : SurfaceState) (d : Drawing) → IsSound size j st → Suits size st d → Holds (pending_of size st d)
  pending_holds st d h s = record {
    run = run_holds size d.clip d.shape (rules_kept size st d s.fits);
    image = image_holds st h d.shape;
    glyphs = shape_glyphs_hold st h d.shape;
  }

  -- and what it is walked as
  cut_holds : Sides size.w size.h → (st : SurfaceState) (d : Drawing) → IsSound size j st → Suits size st d → (o : Option Pending)
      → cut size (pending_of size st d) ≡ o → HoldsIfAny o
  cut_holds sides st d h s None is = tt
  cut_holds sides st d h s (Some q) is =
      let does = cut_does size st h.sized.pixels d.shape d.clip q is in
      subst Holds (sym does.pending) (pending_holds st q.drawing h (cut_suits size sides st d q s is))

  walked_as_holds : Sides size.w size.h → (st : SurfaceState) (d : Drawing) → IsSound size j st → Suits size st d → (cautious : Bool)
      → HoldsIfAny (cut_if cautious size (pending_of size st d))
  walked_as_holds sides st d h s true = cut_holds sides st d h s (cut size (pending_of size st d)) refl
  walked_as_holds sides st d h s false = pending_holds st d h s

  -- ---- the walk

  by_test : (b : Bool) (w : Walk) (p : Pending) → Holds p → AllHold (sent_if b size w p).sent
  by_test true w p h = (h, tt)
  by_test false w p h = tt

  by_place : (o : Option Place) (w : Walk) (p : Pending) → Holds p → AllHold (restored_from size w p o).sent
  by_place None w p h = tt
  by_place (Some place) w p h = (h, tt)

  by_position : (o : Option ℕ) (w : Walk) (p : Pending) (slot : ℕ) (r : Rect) → Holds p → AllHold (saved_at size w p slot r o).sent
  by_position None w p slot r h = tt
  by_position (Some position) w p slot r h = (h, tt)

  by_save : (b : Bool) (w : Walk) (p : Pending) (slot : ℕ) (r : Rect) → Holds p → AllHold (saved_if b size w p slot r).sent
  by_save true w p slot r h = by_position (least_free (positions_of r.w r.h) w.held) w p slot r h
  by_save false w p slot r h = tt

  walked_holds : (c : Confirmed) (w : Walk) (p : Pending) (s : Shape) → Holds p → AllHold (walked size c w p s).sent
  walked_holds c w p (Fill r color) h = by_test (supports c p (Fill r color)) w p h
  walked_holds c w p (Dst r code) h = by_test (supports c p (Dst r code)) w p h
  walked_holds c w p (Pat r code brush) h = by_test (supports c p (Pat r code brush)) w p h
  walked_holds c w p (Copy r code sx sy) h = by_test (supports c p (Copy r code sx sy) && reads_clean_tiles size w (Copy r code sx sy)) w p h
  walked_holds c w p (Blit r code image sx sy) h = by_test (supports c p (Blit r code image sx sy)) w p h
  walked_holds c w p (Blit3 r code image sx sy brush) h = by_test (supports c p (Blit3 r code image sx sy brush)) w p h
  walked_holds c w p (Text x y color font run) h = by_test (supports c p (Text x y color font run)) w p h
  walked_holds c w p (Line x0 y0 x1 y1 color) h = tt
  walked_holds c w p (Save slot r) h = by_save (supports c p (Save slot r) && reads_clean_tiles size w (Save slot r)) (given_up slot w) p slot r h
  walked_holds c w p (Restore slot x y) h = by_place (block_if (supports c p (Restore slot x y)) slot w) w p h
  walked_holds c w p (LoadImage slot image) h = tt
  walked_holds c w p (LoadBrush slot brush) h = tt
  walked_holds c w p (LoadGlyph font code glyph) h = tt

  optional_holds : (c : Confirmed) (w : Walk) (o : Option Pending) → HoldsIfAny o → AllHold (walked_as size c w o).sent
  optional_holds c w None h = tt
  optional_holds c w (Some q) h = walked_holds c w q q.drawing.shape h

  -- what is sent of drawings that find sound states
  pub sent_hold : Sides size.w size.h → (c : Confirmed) (ds : List Drawing) (st : SurfaceState) (w : Walk) → AllSound size j st ds
      → AllHold (sent_from size c w (pending_drawings size st ds))
  sent_hold sides c [] st w h = tt
  sent_hold sides c (d ∷ ds) st w h =
      let p = pending_of size st d in
      let next = (walked_pending size c w p).walk in
      let after = state_after_drawing size st d in
      hold_append (walked_pending size c w p).sent (sent_from size c next (pending_drawings size after ds))
      (optional_holds c w (as_walked size c p) (walked_as_holds sides st d h.0 h.1 c.cautious))
      (sent_hold sides c ds after next h.2)
