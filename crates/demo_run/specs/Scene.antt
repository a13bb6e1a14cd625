-- The session of the demonstration before its steps: who may join, who joins, and what the first viewer loads (profile).
use Rattle.std.specs.Prelude.{ℕ, ◌+◌, ◌*◌, ◌%◌, ◌^◌, ◌==◌, List, [], ◌∷◌, ◌++◌, replicate, codes, decimal, pos, None, if◌then◌else◌}
use Rattle.px_core.specs.declared.surface.Size.{Size}
use Rattle.px_core.specs.Picture.{listed}
use Rattle.caps_sets.specs.declared.confirmed.Confirmed.{Confirmed}
use Rattle.caps_sets.specs.Confirmed.{plain, full, marked, bare}
use Rattle.draw_ops.specs.declared.shape.Drawing.{Drawing}
use Rattle.draw_ops.specs.declared.shape.Shape.{Shape}
use Rattle.draw_ops.specs.declared.shape.Shape.TheVariants.{LoadImage, LoadBrush, LoadGlyph}
use Rattle.session_rules.specs.declared.entry.Role.{Role}
use Rattle.session_rules.specs.declared.entry.Role.TheVariants.{Owner, Control}
use Rattle.session_rules.specs.Board.{sign_of}
use Rattle.session_rules.specs.Journal.{Head, Row}
use Rattle.session_rules.specs.Steps.Step.{JoinStep, DrawStep}
use Rattle.script_rules.specs.Script.{Asked, without_preset}

abbrev pub demo_size : Size
demo_size = record { w = 256; h = 192 }

-- ---- viewers

abbrev pub viewer_count : ℕ
viewer_count = 16

-- `v1` to `v16`
abbrev pub name_of : ℕ → List ℕ
name_of v = codes "v" ++ decimal v

-- the first viewer is the owner, the others may hold control
abbrev pub role_of : ℕ → Role
role_of v = if v == 1 then Owner else Control

abbrev pub row_of : ℕ → Row
row_of v = record { name = name_of v; role = role_of v }

-- a row for each viewer
abbrev pub demo_head : Head
demo_head = record { size = demo_size; rows = listed viewer_count 1 row_of }

-- a preset by its word, and what it confirms
pub record Preset : Type 0 where
  pub word : List ℕ
  pub confirmed : Confirmed

abbrev pub preset_of : ℕ → Preset
preset_of v = if v % 4 == 1 then record { word = codes "full"; confirmed = full }
    else (if v % 4 == 2 then record { word = codes "marked"; confirmed = marked }
    else (if v % 4 == 3 then record { word = codes "plain"; confirmed = plain } else record { word = codes "bare"; confirmed = bare }))

abbrev pub join_of : ℕ → Asked
join_of v = record { step = JoinStep (name_of v); preset = (preset_of v).word ∷ []; confirmed = (preset_of v).confirmed }

-- each viewer joins, in their order
abbrev pub joins : List Asked
joins = listed viewer_count 1 join_of

-- ---- what is loaded

abbrev pub image_color : ℕ → ℕ
image_color slot = (slot + 1) * 2039583 % 2 ^ 24

-- an image of 16 by 16 pixels, in one colour
abbrev pub image_load : ℕ → Shape
image_load slot = LoadImage slot (record { w = 16; h = 16; pixels = replicate 256 (image_color slot) })

-- a brush in one colour
abbrev pub brush_load : ℕ → Shape
brush_load slot = LoadBrush slot (replicate 64 ((slot + 1) * 63))

-- a glyph of font 0: the sign of a letter from `A` on
abbrev pub glyph_load : ℕ → Shape
glyph_load code = LoadGlyph 0 code (record { x = pos 0; y = pos 0; cx = 8; cy = 8; bits = sign_of (code + 65) })

-- a viewer draws without a clip
abbrev pub draw_by : ℕ → Shape → Asked
draw_by v shape = without_preset (DrawStep v (record { shape = shape; clip = None }))

-- eight images, four brushes and eight glyphs, by the first viewer
abbrev pub loads : List Asked
loads = listed 8 0 (λ slot. draw_by 1 (image_load slot))
    ++ (listed 4 0 (λ slot. draw_by 1 (brush_load slot)) ++ listed 8 0 (λ code. draw_by 1 (glyph_load code)))

-- what is asked before the first step that is drawn
abbrev pub beginning : List Asked
beginning = joins ++ loads
