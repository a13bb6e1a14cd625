-- What a slot holds after drawings: what the last of them that fills it put there, or what it held before.
use Rattle.std.proofs.Common.{◌≡◌, ◌≢◌, ℕ, zero, suc, ◌+◌, ◌≤◌, ◌<◌, List, [], ◌∷◌, ◌++◌, length, take, refl, ap, sym, ◌∙◌, Some, None, arith, eq-eqb}
use Rattle.std.proofs.lemmas.Bool.{eqb-true}
use Rattle.std.specs.Prelude.{Bool, true, false, ◌==◌, slice_get, slice_index_or, Option, option_map, IfSome, if◌then◌else◌}
use Rattle.px_core.specs.declared.surface.Size.{Size}
use Rattle.draw_ops.specs.declared.shape.Drawing.{Drawing}
use Rattle.draw_ops.specs.declared.shape.Shape.{Shape}
use Rattle.draw_ops.specs.declared.shape.Shape.TheVariants as shape
use Rattle.draw_ops.specs.Content.{ImageOf}
use Rattle.draw_ops.specs.Slots.{SurfaceState, lookup, glyph_slot}
use Rattle.draw_ops.specs.Drawing.{slots_after, state_after_drawing, state_after_drawings}
use Rattle.session_rules.proofs.Slots.{lookup-other, lookup-filled, length-filled}
use Rattle.session_rules.proofs.Sound.{count_drawings}
use Rattle.session_core.specs.declared.filled.Slot.{Slot}
use Rattle.session_core.specs.declared.filled.Slot.TheVariants.{Image, Brush, Glyph, Block}
use Rattle.session_core.specs.Filled.{fills, or_here, last_filling, image_load, brush_load, glyph_load, sides_saved, sides_of}

-- ---- the loop

-- one drawing more
pub filling_push : (wanted : Slot) (ds : List Drawing) (d : Drawing) → last_filling wanted (ds ++ d ∷ []) ≡ (if fills wanted d.shape then Some (length ds) else last_filling wanted ds)
filling_push wanted [] d = refl
filling_push wanted (x ∷ xs) d = ap (λ o. or_here o (fills wanted x.shape)) (filling_push wanted xs d) ∙ by (fills wanted d.shape)
  where
    by : (t : Bool) → or_here (if t then Some (length xs) else last_filling wanted xs) (fills wanted x.shape)
        ≡ (if t then Some (suc (length xs)) else or_here (last_filling wanted xs) (fills wanted x.shape))
    by true = refl
    by false = refl

pub take_more : {A : Type 0} (xs : List A) (i : ℕ) (x : A) → i < length xs → x ≡ slice_index_or xs i x → take (i + 1) xs ≡ take i xs ++ x ∷ []
take_more [] i x below is = absurd (omega (arith, below))
take_more (y ∷ ys) zero x below is = ap (λ z. z ∷ []) (sym is)
take_more (y ∷ ys) (suc i) x below is =
    let one : suc i + 1 ≡ suc (i + 1) = omega arith in
    rw one (ap (λ zs. y ∷ zs) (take_more ys i x (omega (arith, below)) is))

pub length_take : {A : Type 0} (xs : List A) (i : ℕ) → i ≤ length xs → length (take i xs) ≡ i
length_take xs zero below = refl
length_take [] (suc i) below = absurd (omega (arith, below))
length_take (x ∷ xs) (suc i) below = ap suc (length_take xs i (omega (arith, below)))

-- ---- what is found

none_parts : (o : Option ℕ) (here : Bool) → or_here o here ≡ None → (o ≡ None) × (here ≡ false)
none_parts None true h = absurd (cc h)
none_parts None false h = (refl, refl)
none_parts (Some i) here h = absurd (cc h)

module _ {A : Type 0} (size : Size) (look : SurfaceState → Option A) (wanted : Slot)
    (other : (st : SurfaceState) (d : Drawing) → fills wanted d.shape ≡ false → look (state_after_drawing size st d) ≡ look st) where
  -- nothing fills the slot
  pub unfilled : (ds : List Drawing) (st : SurfaceState) → last_filling wanted ds ≡ None → look (state_after_drawings size st ds) ≡ look st
  unfilled [] st h = refl
  unfilled (d ∷ ds) st h =
      let k = none_parts (last_filling wanted ds) (fills wanted d.shape) h in
      unfilled ds (state_after_drawing size st d) k.0 ∙ other st d k.1

  -- the last drawing that fills the slot says what it holds
  pub record IsFilledAt (ds : List Drawing) (st : SurfaceState) (i : ℕ) : Type 0 where
    pub filling : Drawing
    pub at : slice_get ds i ≡ Some filling
    pub fills_it : fills wanted filling.shape ≡ true
    pub holds : look (state_after_drawings size st ds) ≡ look (state_after_drawing size (state_after_drawings size st (take i ds)) filling)

  pub filled_at : (ds : List Drawing) (st : SurfaceState) (i : ℕ) → last_filling wanted ds ≡ Some i → IsFilledAt ds st i
  filled_at [] st i h = absurd (cc h)
  filled_at (d ∷ ds) st i h = by (filled_at ds (state_after_drawing size st d)) (last_filling wanted ds) refl (fills wanted d.shape) refl h
    where
      by : ((j : ℕ) → last_filling wanted ds ≡ Some j → IsFilledAt ds (state_after_drawing size st d) j) → (o : Option ℕ) → last_filling wanted ds ≡ o → (t : Bool) → fills wanted d.shape ≡ t
          → or_here o t ≡ Some i → IsFilledAt (d ∷ ds) st i
      by again None eq true here k =
          let first : i ≡ 0 = cc k in
          rw first (record { filling = d; at = refl; fills_it = here; holds = unfilled ds (state_after_drawing size st d) eq })
      by again None eq false here k = absurd (cc k)
      by again (Some j) eq t here k =
          let next : i ≡ suc j = cc k in
          let rest = again j eq in
          rw next (record { filling = rest.filling; at = rest.at; fills_it = rest.fills_it; holds = rest.holds })

-- ---- images

same_number : (a b : ℕ) → (a == b) ≡ false → a ≢ b
same_number a b h e = absurd (cc (h, eq-eqb a b e))

pub image_other : (size : Size) (slot : ℕ) (st : SurfaceState) (d : Drawing) → fills (Image slot) d.shape ≡ false → lookup slot (state_after_drawing size st d).images ≡ lookup slot st.images
image_other size slot st d h = by d.shape h
  where
    by : (s : Shape) → fills (Image slot) s ≡ false → lookup slot (slots_after size st s).images ≡ lookup slot st.images
    by (shape.Fill r color) k = refl
    by (shape.Dst r code) k = refl
    by (shape.Pat r code brush) k = refl
    by (shape.Copy r code sx sy) k = refl
    by (shape.Blit r code image sx sy) k = refl
    by (shape.Blit3 r code image sx sy brush) k = refl
    by (shape.Text x y color font run) k = refl
    by (shape.Line x0 y0 x1 y1 color) k = refl
    by (shape.Save at r) k = refl
    by (shape.Restore at x y) k = refl
    by (shape.LoadImage at image) k = lookup-other st.images at slot _ (same_number slot at k)
    by (shape.LoadBrush at brush) k = refl
    by (shape.LoadGlyph font code glyph) k = refl

pub brush_other : (size : Size) (slot : ℕ) (st : SurfaceState) (d : Drawing) → fills (Brush slot) d.shape ≡ false → lookup slot (state_after_drawing size st d).brushes ≡ lookup slot st.brushes
brush_other size slot st d h = by d.shape h
  where
    by : (s : Shape) → fills (Brush slot) s ≡ false → lookup slot (slots_after size st s).brushes ≡ lookup slot st.brushes
    by (shape.Fill r color) k = refl
    by (shape.Dst r code) k = refl
    by (shape.Pat r code brush) k = refl
    by (shape.Copy r code sx sy) k = refl
    by (shape.Blit r code image sx sy) k = refl
    by (shape.Blit3 r code image sx sy brush) k = refl
    by (shape.Text x y color font run) k = refl
    by (shape.Line x0 y0 x1 y1 color) k = refl
    by (shape.Save at r) k = refl
    by (shape.Restore at x y) k = refl
    by (shape.LoadImage at image) k = refl
    by (shape.LoadBrush at brush) k = lookup-other st.brushes at slot _ (same_number slot at k)
    by (shape.LoadGlyph font code glyph) k = refl

pub glyph_other : (size : Size) (slot : ℕ) (st : SurfaceState) (d : Drawing) → fills (Glyph slot) d.shape ≡ false → lookup slot (state_after_drawing size st d).glyphs ≡ lookup slot st.glyphs
glyph_other size slot st d h = by d.shape h
  where
    by : (s : Shape) → fills (Glyph slot) s ≡ false → lookup slot (slots_after size st s).glyphs ≡ lookup slot st.glyphs
    by (shape.Fill r color) k = refl
    by (shape.Dst r code) k = refl
    by (shape.Pat r code brush) k = refl
    by (shape.Copy r code sx sy) k = refl
    by (shape.Blit r code image sx sy) k = refl
    by (shape.Blit3 r code image sx sy brush) k = refl
    by (shape.Text x y color font run) k = refl
    by (shape.Line x0 y0 x1 y1 color) k = refl
    by (shape.Save at r) k = refl
    by (shape.Restore at x y) k = refl
    by (shape.LoadImage at image) k = refl
    by (shape.LoadBrush at brush) k = refl
    by (shape.LoadGlyph font code glyph) k = lookup-other st.glyphs (glyph_slot font code) slot _ (same_number slot (glyph_slot font code) k)

pub block_other : (size : Size) (slot : ℕ) (st : SurfaceState) (d : Drawing) → fills (Block slot) d.shape ≡ false → lookup slot (state_after_drawing size st d).blocks ≡ lookup slot st.blocks
block_other size slot st d h = by d.shape h
  where
    by : (s : Shape) → fills (Block slot) s ≡ false → lookup slot (slots_after size st s).blocks ≡ lookup slot st.blocks
    by (shape.Fill r color) k = refl
    by (shape.Dst r code) k = refl
    by (shape.Pat r code brush) k = refl
    by (shape.Copy r code sx sy) k = refl
    by (shape.Blit r code image sx sy) k = refl
    by (shape.Blit3 r code image sx sy brush) k = refl
    by (shape.Text x y color font run) k = refl
    by (shape.Line x0 y0 x1 y1 color) k = refl
    by (shape.Save at r) k = lookup-other st.blocks at slot _ (same_number slot at k)
    by (shape.Restore at x y) k = refl
    by (shape.LoadImage at image) k = refl
    by (shape.LoadBrush at brush) k = refl
    by (shape.LoadGlyph font code glyph) k = refl

-- what a load puts into its slot
pub image_here : (size : Size) (slot : ℕ) (st : SurfaceState) (d : Drawing) → slot < length st.images → fills (Image slot) d.shape ≡ true → lookup slot (state_after_drawing size st d).images ≡ image_load d.shape (st.count + 1)
image_here size slot st d within h = by d.shape h
  where
    by : (s : Shape) → fills (Image slot) s ≡ true → lookup slot (slots_after size st s).images ≡ image_load s (st.count + 1)
    by (shape.Fill r color) k = absurd (cc k)
    by (shape.Dst r code) k = absurd (cc k)
    by (shape.Pat r code brush) k = absurd (cc k)
    by (shape.Copy r code sx sy) k = absurd (cc k)
    by (shape.Blit r code image sx sy) k = absurd (cc k)
    by (shape.Blit3 r code image sx sy brush) k = absurd (cc k)
    by (shape.Text x y color font run) k = absurd (cc k)
    by (shape.Line x0 y0 x1 y1 color) k = absurd (cc k)
    by (shape.Save at r) k = absurd (cc k)
    by (shape.Restore at x y) k = absurd (cc k)
    by (shape.LoadImage at image) k = let same = eqb-true slot at k in rw (← same) (lookup-filled st.images slot _ within)
    by (shape.LoadBrush at brush) k = absurd (cc k)
    by (shape.LoadGlyph font code glyph) k = absurd (cc k)

-- what a load puts into its slot
pub brush_here : (size : Size) (slot : ℕ) (st : SurfaceState) (d : Drawing) → slot < length st.brushes → fills (Brush slot) d.shape ≡ true → lookup slot (state_after_drawing size st d).brushes ≡ brush_load d.shape (st.count + 1)
brush_here size slot st d within h = by d.shape h
  where
    by : (s : Shape) → fills (Brush slot) s ≡ true → lookup slot (slots_after size st s).brushes ≡ brush_load s (st.count + 1)
    by (shape.Fill r color) k = absurd (cc k)
    by (shape.Dst r code) k = absurd (cc k)
    by (shape.Pat r code brush) k = absurd (cc k)
    by (shape.Copy r code sx sy) k = absurd (cc k)
    by (shape.Blit r code image sx sy) k = absurd (cc k)
    by (shape.Blit3 r code image sx sy brush) k = absurd (cc k)
    by (shape.Text x y color font run) k = absurd (cc k)
    by (shape.Line x0 y0 x1 y1 color) k = absurd (cc k)
    by (shape.Save at r) k = absurd (cc k)
    by (shape.Restore at x y) k = absurd (cc k)
    by (shape.LoadImage at image) k = absurd (cc k)
    by (shape.LoadBrush at brush) k = let same = eqb-true slot at k in rw (← same) (lookup-filled st.brushes slot _ within)
    by (shape.LoadGlyph font code glyph) k = absurd (cc k)

-- what a load puts into its slot
pub glyph_here : (size : Size) (slot : ℕ) (st : SurfaceState) (d : Drawing) → slot < length st.glyphs → fills (Glyph slot) d.shape ≡ true → lookup slot (state_after_drawing size st d).glyphs ≡ glyph_load d.shape (st.count + 1)
glyph_here size slot st d within h = by d.shape h
  where
    by : (s : Shape) → fills (Glyph slot) s ≡ true → lookup slot (slots_after size st s).glyphs ≡ glyph_load s (st.count + 1)
    by (shape.Fill r color) k = absurd (cc k)
    by (shape.Dst r code) k = absurd (cc k)
    by (shape.Pat r code brush) k = absurd (cc k)
    by (shape.Copy r code sx sy) k = absurd (cc k)
    by (shape.Blit r code image sx sy) k = absurd (cc k)
    by (shape.Blit3 r code image sx sy brush) k = absurd (cc k)
    by (shape.Text x y color font run) k = absurd (cc k)
    by (shape.Line x0 y0 x1 y1 color) k = absurd (cc k)
    by (shape.Save at r) k = absurd (cc k)
    by (shape.Restore at x y) k = absurd (cc k)
    by (shape.LoadImage at image) k = absurd (cc k)
    by (shape.LoadBrush at brush) k = absurd (cc k)
    by (shape.LoadGlyph font code glyph) k = let same = eqb-true slot (glyph_slot font code) k in rw (← same) (lookup-filled st.glyphs slot _ within)

-- the sides of what a save puts into its slot
pub block_here : (size : Size) (slot : ℕ) (st : SurfaceState) (d : Drawing) → slot < length st.blocks → fills (Block slot) d.shape ≡ true
    → sides_of (lookup slot (state_after_drawing size st d).blocks) ≡ sides_saved d.shape
block_here size slot st d within h = by d.shape h
  where
    by : (s : Shape) → fills (Block slot) s ≡ true → sides_of (lookup slot (slots_after size st s).blocks) ≡ sides_saved s
    by (shape.Fill r color) k = absurd (cc k)
    by (shape.Dst r code) k = absurd (cc k)
    by (shape.Pat r code brush) k = absurd (cc k)
    by (shape.Copy r code sx sy) k = absurd (cc k)
    by (shape.Blit r code image sx sy) k = absurd (cc k)
    by (shape.Blit3 r code image sx sy brush) k = absurd (cc k)
    by (shape.Text x y color font run) k = absurd (cc k)
    by (shape.Line x0 y0 x1 y1 color) k = absurd (cc k)
    by (shape.Save at r) k = let same = eqb-true slot at k in rw (← same) (ap sides_of (lookup-filled st.blocks slot _ within))
    by (shape.Restore at x y) k = absurd (cc k)
    by (shape.LoadImage at image) k = absurd (cc k)
    by (shape.LoadBrush at brush) k = absurd (cc k)
    by (shape.LoadGlyph font code glyph) k = absurd (cc k)

-- the numbers of slots stay
pub record SameSlots (a b : SurfaceState) : Type 0 where
  pub images : length a.images ≡ length b.images
  pub brushes : length a.brushes ≡ length b.brushes
  pub glyphs : length a.glyphs ≡ length b.glyphs
  pub blocks : length a.blocks ≡ length b.blocks

same_after : (size : Size) (st : SurfaceState) (s : Shape) → SameSlots (slots_after size st s) st
same_after size st (shape.Fill r color) = record { images = refl; brushes = refl; glyphs = refl; blocks = refl }
same_after size st (shape.Dst r code) = record { images = refl; brushes = refl; glyphs = refl; blocks = refl }
same_after size st (shape.Pat r code brush) = record { images = refl; brushes = refl; glyphs = refl; blocks = refl }
same_after size st (shape.Copy r code sx sy) = record { images = refl; brushes = refl; glyphs = refl; blocks = refl }
same_after size st (shape.Blit r code image sx sy) = record { images = refl; brushes = refl; glyphs = refl; blocks = refl }
same_after size st (shape.Blit3 r code image sx sy brush) = record { images = refl; brushes = refl; glyphs = refl; blocks = refl }
same_after size st (shape.Text x y color font run) = record { images = refl; brushes = refl; glyphs = refl; blocks = refl }
same_after size st (shape.Line x0 y0 x1 y1 color) = record { images = refl; brushes = refl; glyphs = refl; blocks = refl }
same_after size st (shape.Save at r) = record { images = refl; brushes = refl; glyphs = refl; blocks = length-filled st.blocks at _ }
same_after size st (shape.Restore at x y) = record { images = refl; brushes = refl; glyphs = refl; blocks = refl }
same_after size st (shape.LoadImage at image) = record { images = length-filled st.images at _; brushes = refl; glyphs = refl; blocks = refl }
same_after size st (shape.LoadBrush at brush) = record { images = refl; brushes = length-filled st.brushes at _; glyphs = refl; blocks = refl }
same_after size st (shape.LoadGlyph font code glyph) = record { images = refl; brushes = refl; glyphs = length-filled st.glyphs (glyph_slot font code) _; blocks = refl }

pub same_slots : (size : Size) (ds : List Drawing) (st : SurfaceState) → SameSlots (state_after_drawings size st ds) st
same_slots size [] st = record { images = refl; brushes = refl; glyphs = refl; blocks = refl }
same_slots size (d ∷ ds) st =
    let rest = same_slots size ds (state_after_drawing size st d) in
    let one = same_after size st d.shape in
    record { images = rest.images ∙ one.images; brushes = rest.brushes ∙ one.brushes; glyphs = rest.glyphs ∙ one.glyphs; blocks = rest.blocks ∙ one.blocks }

-- ---- after drawings

place_within : (wanted : Slot) (ds : List Drawing) (i : ℕ) → last_filling wanted ds ≡ Some i → i < length ds
place_within wanted [] i h = absurd (cc h)
place_within wanted (d ∷ ds) i h = by (last_filling wanted ds) refl (fills wanted d.shape) h (place_within wanted ds)
  where
    by : (o : Option ℕ) → last_filling wanted ds ≡ o → (t : Bool) → or_here o t ≡ Some i → ((j : ℕ) → last_filling wanted ds ≡ Some j → j < length ds) → i < suc (length ds)
    by None eq true k again = let first : i ≡ 0 = cc k in omega (arith, first)
    by None eq false k again = absurd (cc k)
    by (Some j) eq t k again = let next : i ≡ suc j = cc k in omega (arith, next, again j eq)

pub filling_within : (wanted : Slot) (ds : List Drawing) (i : ℕ) → last_filling wanted ds ≡ Some i → i < length ds
filling_within = place_within

item_is : {A : Type 0} (xs : List A) (i : ℕ) (x y : A) → slice_get xs i ≡ Some x → y ≡ slice_index_or xs i y → y ≡ x
item_is [] i x y h is = absurd (cc h)
item_is (z ∷ zs) zero x y h is = is ∙ cc h
item_is (z ∷ zs) (suc i) x y h is = item_is zs i x y h is

count_at : (size : Size) (st : SurfaceState) (ds : List Drawing) (i : ℕ) → i ≤ length ds → (state_after_drawings size st (take i ds)).count + 1 ≡ st.count + i + 1
count_at size st ds i below = let n = count_drawings size st (take i ds) in let l = length_take ds i below in omega (arith, n, l)

pub image_after : (size : Size) (slot : ℕ) (st : SurfaceState) (ds : List Drawing) (i : ℕ) (d : Drawing) → slot < length st.images → last_filling (Image slot) ds ≡ Some i
    → d ≡ slice_index_or ds i d → lookup slot (state_after_drawings size st ds).images ≡ image_load d.shape (st.count + i + 1)
image_after size slot st ds i d within h is =
    let f = filled_at size (λ s. lookup slot s.images) (Image slot) (image_other size slot) ds st i h in
    let same : d ≡ f.filling = item_is ds i f.filling d f.at is in
    let slots = same_slots size (take i ds) st in
    let room : slot < length (state_after_drawings size st (take i ds)).images = omega (arith, within, slots.images) in
    f.holds ∙ image_here size slot (state_after_drawings size st (take i ds)) f.filling room f.fills_it
    ∙ ap (image_load f.filling.shape) (count_at size st ds i (omega (arith, filling_within (Image slot) ds i h))) ∙ ap (λ x. image_load x.shape (st.count + i + 1)) (sym same)

pub image_before : (size : Size) (slot : ℕ) (st : SurfaceState) (ds : List Drawing) → last_filling (Image slot) ds ≡ None → lookup slot (state_after_drawings size st ds).images ≡ lookup slot st.images
image_before size slot st ds h = unfilled size (λ s. lookup slot s.images) (Image slot) (image_other size slot) ds st h

pub brush_after : (size : Size) (slot : ℕ) (st : SurfaceState) (ds : List Drawing) (i : ℕ) (d : Drawing) → slot < length st.brushes → last_filling (Brush slot) ds ≡ Some i
    → d ≡ slice_index_or ds i d → lookup slot (state_after_drawings size st ds).brushes ≡ brush_load d.shape (st.count + i + 1)
brush_after size slot st ds i d within h is =
    let f = filled_at size (λ s. lookup slot s.brushes) (Brush slot) (brush_other size slot) ds st i h in
    let same : d ≡ f.filling = item_is ds i f.filling d f.at is in
    let slots = same_slots size (take i ds) st in
    let room : slot < length (state_after_drawings size st (take i ds)).brushes = omega (arith, within, slots.brushes) in
    f.holds ∙ brush_here size slot (state_after_drawings size st (take i ds)) f.filling room f.fills_it
    ∙ ap (brush_load f.filling.shape) (count_at size st ds i (omega (arith, filling_within (Brush slot) ds i h))) ∙ ap (λ x. brush_load x.shape (st.count + i + 1)) (sym same)

pub brush_before : (size : Size) (slot : ℕ) (st : SurfaceState) (ds : List Drawing) → last_filling (Brush slot) ds ≡ None → lookup slot (state_after_drawings size st ds).brushes ≡ lookup slot st.brushes
brush_before size slot st ds h = unfilled size (λ s. lookup slot s.brushes) (Brush slot) (brush_other size slot) ds st h

pub glyph_after : (size : Size) (slot : ℕ) (st : SurfaceState) (ds : List Drawing) (i : ℕ) (d : Drawing) → slot < length st.glyphs → last_filling (Glyph slot) ds ≡ Some i
    → d ≡ slice_index_or ds i d → lookup slot (state_after_drawings size st ds).glyphs ≡ glyph_load d.shape (st.count + i + 1)
glyph_after size slot st ds i d within h is =
    let f = filled_at size (λ s. lookup slot s.glyphs) (Glyph slot) (glyph_other size slot) ds st i h in
    let same : d ≡ f.filling = item_is ds i f.filling d f.at is in
    let slots = same_slots size (take i ds) st in
    let room : slot < length (state_after_drawings size st (take i ds)).glyphs = omega (arith, within, slots.glyphs) in
    f.holds ∙ glyph_here size slot (state_after_drawings size st (take i ds)) f.filling room f.fills_it
    ∙ ap (glyph_load f.filling.shape) (count_at size st ds i (omega (arith, filling_within (Glyph slot) ds i h))) ∙ ap (λ x. glyph_load x.shape (st.count + i + 1)) (sym same)

pub glyph_before : (size : Size) (slot : ℕ) (st : SurfaceState) (ds : List Drawing) → last_filling (Glyph slot) ds ≡ None → lookup slot (state_after_drawings size st ds).glyphs ≡ lookup slot st.glyphs
glyph_before size slot st ds h = unfilled size (λ s. lookup slot s.glyphs) (Glyph slot) (glyph_other size slot) ds st h

pub block_after : (size : Size) (slot : ℕ) (st : SurfaceState) (ds : List Drawing) (i : ℕ) (d : Drawing) → slot < length st.blocks → last_filling (Block slot) ds ≡ Some i
    → d ≡ slice_index_or ds i d → sides_of (lookup slot (state_after_drawings size st ds).blocks) ≡ sides_saved d.shape
block_after size slot st ds i d within h is =
    let f = filled_at size (λ s. lookup slot s.blocks) (Block slot) (block_other size slot) ds st i h in
    let same : d ≡ f.filling = item_is ds i f.filling d f.at is in
    let slots = same_slots size (take i ds) st in
    let room : slot < length (state_after_drawings size st (take i ds)).blocks = omega (arith, within, slots.blocks) in
    ap sides_of f.holds ∙ block_here size slot (state_after_drawings size st (take i ds)) f.filling room f.fills_it ∙ ap (λ x. sides_saved x.shape) (sym same)

pub block_before : (size : Size) (slot : ℕ) (st : SurfaceState) (ds : List Drawing) → last_filling (Block slot) ds ≡ None
    → sides_of (lookup slot (state_after_drawings size st ds).blocks) ≡ sides_of (lookup slot st.blocks)
block_before size slot st ds h = ap sides_of (unfilled size (λ s. lookup slot s.blocks) (Block slot) (block_other size slot) ds st h)

pub within_if : (o : Option ℕ) (wanted : Slot) (ds : List Drawing) → o ≡ last_filling wanted ds → IfSome o (λ i. i < length ds)
within_if None wanted ds h = tt
within_if (Some i) wanted ds h = filling_within wanted ds i (sym h)

pub sides_mapped : (o : Option ImageOf) → option_map (λ (block : ImageOf). record { w = block.w; h = block.h }) o ≡ sides_of o
sides_mapped None = refl
sides_mapped (Some block) = refl

-- for the loop
pub here : (t : Bool) (o : Option ℕ) {n : ℕ} → t ≡ true → (if t then Some n else o) ≡ Some n
here true o h = refl
here false o h = absurd (cc h)

pub not_here : (t : Bool) (n : ℕ) {o : Option ℕ} → t ≡ false → (if t then Some n else o) ≡ o
not_here true n h = absurd (cc h)
not_here false n h = refl

pub fills_is : (wanted : Slot) (ds : List Drawing) (i : ℕ) (d : Drawing) (t : Bool) → d ≡ slice_index_or ds i d → t ≡ fills wanted (slice_index_or ds i d).shape → t ≡ fills wanted d.shape
fills_is wanted ds i d t is h = h ∙ ap (λ (x : Drawing). fills wanted x.shape) (sym is)

pub within_front : (o : Option ℕ) (wanted : Slot) (ds : List Drawing) (n : ℕ) → n ≤ length ds → o ≡ last_filling wanted (take n ds) → IfSome o (λ i. i < length ds)
within_front None wanted ds n below h = tt
within_front (Some i) wanted ds n below h = omega (arith, below, filling_within wanted (take n ds) i (sym h), length_take ds n below)
