-- The forms of a new pixel, over any kind of colours: the old one, a colour that the drawing names, one that it copies, the raster operation of a pattern, a
-- source and the old pixel.
use Rattle.std.specs.Prelude.{◌≡◌, ℕ, ℤ}
use Rattle.px_core.specs.Picture.{Formula}
use Rattle.rop3_core.specs.Palette.{Palette}
use Rattle.draw_ops.specs.Formulas.{Operand, solid, rastered, replaced}

pub data Form (A : Type 0) : Type 0 where
  Kept : Form A
  Named : ℕ → Form A
  Copied : Operand A → Form A
  Mixed : ℕ → Operand A → Operand A → Form A

abbrev pub formula_of : {A : Type 0} → Palette A → Form A → Formula A
formula_of palette Kept = λ x y old. old
formula_of palette (Named color) = solid palette color
formula_of palette (Copied source) = replaced source
formula_of palette (Mixed code pattern source) = rastered palette code pattern source

-- a change of colours: what becomes of a colour of the one kind, and of a colour that is named, so that the operation over changed operands is the changed
-- operation
pub record Changes {A B : Type 0} (P : Palette A) (Q : Palette B) (colour : ℕ → ℕ) (pixel : A → B) : Type 0 where
  pub known : (c : ℕ) → pixel (P.known c) ≡ Q.known (colour c)
  pub mixed : (code : ℕ) (p s o : A) → pixel (P.mixed code p s o) ≡ Q.mixed code (pixel p) (pixel s) (pixel o)

abbrev pub changed_operand : {A B : Type 0} → (A → B) → Operand A → Operand B
changed_operand pixel source x y = pixel (source x y)

-- the same form over changed colours
abbrev pub changed_form : {A B : Type 0} → (ℕ → ℕ) → (A → B) → Form A → Form B
changed_form colour pixel Kept = Kept
changed_form colour pixel (Named color) = Named (colour color)
changed_form colour pixel (Copied source) = Copied (changed_operand pixel source)
changed_form colour pixel (Mixed code pattern source) = Mixed code (changed_operand pixel pattern) (changed_operand pixel source)

-- a formula over changed pixels gives the change of what the other gives
abbrev pub Follows : {A B : Type 0} → (A → B) → Formula A → Formula B → Type 0
Follows {A} pixel f g = (x y : ℤ) (old : A) → g x y (pixel old) ≡ pixel (f x y old)
