-- The step that the demonstration draws next: which one it is, and its numbers in the order in which they are drawn (profile).
use Rattle.std.specs.Prelude.{ℕ, ◌+◌, ◌-◌, ◌==◌, nat_le, ◌||◌, false, List, [], ◌∷◌, pos, None, if◌then◌else◌}
use Rattle.px_core.specs.declared.surface.Size.{Size}
use Rattle.px_core.specs.declared.rectangle.Rect.{Rect}
use Rattle.px_core.specs.Rectangle.{boxed}
use Rattle.input_pdu.specs.declared.event.Event.TheVariants.{Scan}
use Rattle.draw_ops.specs.declared.shape.Shape.{Shape}
use Rattle.draw_ops.specs.declared.shape.Shape.TheVariants as shape
use Rattle.session_rules.specs.Journal.{f12}
use Rattle.session_rules.specs.Steps.{Step}
use Rattle.session_rules.specs.Steps.Step.{InputStep, DrawStep, TakeStep}
use Rattle.rand_pcg.specs.Lcg.{Lcg}
use Rattle.demo_run.specs.declared.step_kind.StepKind.{StepKind}
use Rattle.demo_run.specs.declared.step_kind.StepKind.TheVariants.{Fill, Copy, Dst, Line, Pat, Blit, Text, Save, Restore, Give, Take}
use Rattle.demo_run.specs.Numbers.{Drawn, drawn, below, and_then}

-- ---- rectangles

-- 1 to 64 columns, and as many rows
abbrev pub sides_drawn : Lcg → Drawn Size
sides_drawn g = and_then (below 64 g) (λ w a. and_then (below 64 a) (λ h b. drawn (record { w = 1 + w; h = 1 + h }) b))

-- a rectangle whose upper left pixel is on the picture
abbrev pub rect_drawn : Lcg → Drawn Rect
rect_drawn g = and_then (below 256 g) (λ x a. and_then (below 192 a) (λ y b. and_then (sides_drawn b) (λ s c. drawn (boxed (pos x) (pos y) s.w s.h) c)))

-- a rectangle that lies on the picture; its sides are drawn first
abbrev pub inner_drawn : Lcg → Drawn Rect
inner_drawn g = and_then (sides_drawn g) (λ s a. and_then (below (257 - s.w) a)
    (λ x b. and_then (below (193 - s.h) b) (λ y c. drawn (boxed (pos x) (pos y) s.w s.h) c)))

-- ---- drawings

abbrev pub green : ℕ
green = 0x00FF00

-- a straight line would break the rules of drawings, so a pixel stands for it
abbrev pub line_or_pixel : ℕ → ℕ → ℕ → ℕ → Shape
line_or_pixel x0 y0 x1 y1 = if (x0 == x1) || (y0 == y1) then shape.Fill (boxed (pos x0) (pos y0) 1 1) green
    else shape.Line (pos x0) (pos y0) (pos x1) (pos y1) green

abbrev pub fill_drawn : Lcg → Drawn Shape
fill_drawn g = and_then (rect_drawn g) (λ r a. and_then (below 16777216 a) (λ color b. drawn (shape.Fill r color) b))

abbrev pub copy_drawn : Lcg → Drawn Shape
copy_drawn g = and_then (inner_drawn g) (λ from a. and_then (below 256 a) (λ x b. and_then (below 192 b) (λ y c.
    drawn (shape.Copy (boxed (pos x) (pos y) from.w from.h) 0xCC from.x from.y) c)))

abbrev pub dst_drawn : Lcg → Drawn Shape
dst_drawn g = and_then (rect_drawn g) (λ r a. drawn (shape.Dst r 0x55) a)

abbrev pub line_drawn : Lcg → Drawn Shape
line_drawn g = and_then (below 256 g) (λ x0 a. and_then (below 192 a) (λ y0 b. and_then (below 256 b) (λ x1 c. and_then (below 192 c) (λ y1 d.
    drawn (line_or_pixel x0 y0 x1 y1) d))))

abbrev pub pat_drawn : Lcg → Drawn Shape
pat_drawn g = and_then (rect_drawn g) (λ r a. and_then (below 4 a) (λ brush b. drawn (shape.Pat r 0x5A brush) b))

abbrev pub blit_drawn : Lcg → Drawn Shape
blit_drawn g = and_then (below 256 g) (λ x a. and_then (below 192 a) (λ y b. and_then (below 8 b) (λ image c.
    drawn (shape.Blit (boxed (pos x) (pos y) 16 16) 0xCC image (pos 0) (pos 0)) c)))

-- three glyphs, side by side
abbrev pub text_drawn : Lcg → Drawn Shape
text_drawn g = and_then (below 256 g) (λ x a. and_then (below 192 a)
    (λ y b. and_then (below 8 b) (λ k c. and_then (below 8 c) (λ m d. and_then (below 8 d) (λ n e.
    drawn (shape.Text (pos x) (pos y) 0xFFFFFF 0 ((k, 0) ∷ (m, 8) ∷ (n, 8) ∷ [])) e)))))

abbrev pub save_drawn : Lcg → Drawn Shape
save_drawn g = and_then (below 4 g) (λ slot a. and_then (inner_drawn a) (λ r b. drawn (shape.Save slot r) b))

abbrev pub restore_drawn : Lcg → Drawn Shape
restore_drawn g = and_then (below 4 g) (λ slot a. drawn (shape.Restore slot (pos 0) (pos 0)) a)

-- ---- steps

-- which step one of sixteen numbers stands for
abbrev pub kind_of : ℕ → StepKind
kind_of n = if nat_le n 2 then Fill else (if n == 3 then Copy else (if n == 4 then Dst else (if n == 5 then Line else (if n == 6 then Pat
    else (if nat_le n 8 then Blit else (if n == 9 then Text else
    (if n == 10 then Save else (if n == 11 then Restore else (if n == 12 then Give else Take)))))))))

-- who holds control draws
abbrev pub by_holder : ℕ → Drawn Shape → Drawn Step
by_holder holder d = drawn (DrawStep holder (record { shape = d.value; clip = None })) d.after

-- one of the sixteen viewers takes
abbrev pub take_drawn : Lcg → Drawn Step
take_drawn g = and_then (below 16 g) (λ n a. drawn (TakeStep (1 + n)) a)

abbrev pub step_of_kind : StepKind → ℕ → Lcg → Drawn Step
step_of_kind Fill holder g = by_holder holder (fill_drawn g)
step_of_kind Copy holder g = by_holder holder (copy_drawn g)
step_of_kind Dst holder g = by_holder holder (dst_drawn g)
step_of_kind Line holder g = by_holder holder (line_drawn g)
step_of_kind Pat holder g = by_holder holder (pat_drawn g)
step_of_kind Blit holder g = by_holder holder (blit_drawn g)
step_of_kind Text holder g = by_holder holder (text_drawn g)
step_of_kind Save holder g = by_holder holder (save_drawn g)
step_of_kind Restore holder g = by_holder holder (restore_drawn g)
step_of_kind Give holder g = drawn (InputStep holder (Scan f12 false)) g
step_of_kind Take holder g = take_drawn g

-- the next step, where this viewer holds control
abbrev pub step_drawn : ℕ → Lcg → Drawn Step
step_drawn holder g = and_then (below 16 g) (λ n a. step_of_kind (kind_of n) holder a)
