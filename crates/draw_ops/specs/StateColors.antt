-- The colours that a state has: every one of them is a number below 2^24 after each drawing, as it is before.
use Rattle.std.specs.Prelude.{ℕ, Bool, true, ◌&&◌, IsTrue, List, [], ◌∷◌, Option, Some, None}
use Rattle.px_core.specs.Colors.{are_colors}
use Rattle.draw_ops.specs.Content.{ImageOf}
use Rattle.draw_ops.specs.Slots.{SurfaceState, Loaded, Slots}

-- the colours of what a slot may hold
abbrev pub colors_in : {A : Type 0} → (A → List ℕ) → Option A → List ℕ
colors_in colors None = []
colors_in colors (Some x) = colors x

-- what each slot holds has only colours below 2^24
abbrev pub have_colors : {A : Type 0} → (A → List ℕ) → Slots A → Bool
have_colors colors [] = true
have_colors colors (slot ∷ slots) = are_colors (colors_in colors slot) && have_colors colors slots

abbrev pub image_colors : Loaded ImageOf → List ℕ
image_colors image = image.content.pixels

abbrev pub brush_colors : Loaded (List ℕ) → List ℕ
brush_colors brush = brush.content

abbrev pub block_colors : ImageOf → List ℕ
block_colors block = block.pixels

-- every colour of a state is one: in its picture, and in each image, brush and saved block that its slots hold
pub record StateHasColors (st : SurfaceState) : Type 0 where
  pub picture : IsTrue (are_colors st.picture)
  pub images : IsTrue (have_colors image_colors st.images)
  pub brushes : IsTrue (have_colors brush_colors st.brushes)
  pub blocks : IsTrue (have_colors block_colors st.blocks)
