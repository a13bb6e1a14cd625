-- The forms of a script's lines, as a table: a row for each first word, with what its other words ask for.
use Rattle.std.specs.Prelude.{ℕ, Bool, true, false, ℤ, List, [], ◌∷◌, ◌++◌, if◌then◌else◌, codes}
use Rattle.std.specs.declared.option.Option.{Option}
use Rattle.std.specs.declared.option.Option.TheVariants.{Some, None}
use Rattle.std.specs.Option.{option_map, option_and_then}
use Rattle.px_core.specs.Picture.{nat_of}
use Rattle.line_text.specs.Numbers.{number_up_to}
use Rattle.line_text.specs.Hexadecimal.{hexadecimal_of}
use Rattle.draw_ops.specs.declared.shape.Shape.{Shape}
use Rattle.draw_ops.specs.declared.shape.Drawing.{Drawing}
use Rattle.input_pdu.specs.declared.event.Event.TheVariants.{Scan, Unicode, Mouse}
use Rattle.session_rules.specs.Steps.{Step}
use Rattle.line_text.specs.Words.{is_same_word}
use Rattle.session_rules.specs.Steps.Step.{LeaveStep, InputStep, DrawStep, RefreshStep, SuppressStep, TakeStep}
use Rattle.script_rules.specs.Fields.{Field, values_of, rect_fields, rect_of, with_clip, without_clip, pairs_of, text_by, fill_by, dst_by, pat_by}
use Rattle.script_rules.specs.Fields.{copy_by, blit_by, blit3_by, line_by, save_by, restore_by, image_by, brush_by, glyph_by}
use Rattle.script_rules.specs.Fields.Field.{Coordinate, Count, Small, Digits}

-- a form: its first word, and the step that a viewer and the other words ask for
pub record Form : Type 0 where
  pub word : List ℕ
  pub reads : ℕ → List (List ℕ) → Option Step

abbrev pub form : List ℕ → (ℕ → List (List ℕ) → Option Step) → Form
form word reads = record { word = word; reads = reads }

-- ---- drawings

abbrev pub draw_step : ℕ → Drawing → Step
draw_step v d = DrawStep v d

-- a drawing by its fields, and what may stand after them
abbrev pub drawing_by : (Shape → List (List ℕ) → Option Drawing) → List Field → (List ℤ → Option Shape) → ℕ → List (List ℕ) → Option Step
drawing_by ends fields make v words = option_and_then (λ vs.
    option_map (draw_step v) (option_and_then (λ shape. ends shape vs.words) (make vs.numbers))) (values_of fields words)

-- a load, which has no clip
abbrev pub load_by : List Field → (List ℤ → List (List ℕ) → Option Shape) → ℕ → List (List ℕ) → Option Step
load_by fields make v words = option_and_then (λ vs.
    option_map (λ shape. draw_step v (record { shape = shape; clip = None })) (make vs.numbers vs.words)) (values_of fields words)

abbrev pub text_fields : List Field
text_fields = Coordinate ∷ Coordinate ∷ Digits 6 ∷ Small ∷ []

abbrev pub text_step : ℕ → List (List ℕ) → Option Step
text_step v words = option_and_then (λ vs. option_and_then (λ run.
    option_map (draw_step v) (option_and_then (λ shape. with_clip shape run.words)
    (text_by vs.numbers run.pairs))) (pairs_of vs.words)) (values_of text_fields words)

-- ---- other steps

-- a step whose word stands alone
abbrev pub alone : (ℕ → Step) → ℕ → List (List ℕ) → Option Step
alone make v [] = Some (make v)
alone make v (word ∷ words) = None

abbrev pub is_up : List ℕ → Option Bool
is_up word = if is_same_word word (codes "down") then Some false else (if is_same_word word (codes "up") then Some true else None)

abbrev pub key_step : ℕ → List (List ℕ) → Option Step
key_step v (code ∷ direction ∷ []) = option_and_then (λ c. option_map (λ up. InputStep v (Scan c up)) (is_up direction)) (hexadecimal_of 2 code)
key_step v words = None

-- the greatest code of a Unicode event
abbrev pub unicode_limit : ℕ
unicode_limit = 65535

abbrev pub char_step : ℕ → List (List ℕ) → Option Step
char_step v (word ∷ []) = option_map (λ code. InputStep v (Unicode code false)) (number_up_to unicode_limit word)
char_step v words = None

abbrev pub mouse_by : ℕ → List ℤ → List (List ℕ) → Option Step
mouse_by v (flags ∷ x ∷ y ∷ []) [] = Some (InputStep v (Mouse (nat_of flags) (nat_of x) (nat_of y)))
mouse_by v numbers words = None

abbrev pub mouse_step : ℕ → List (List ℕ) → Option Step
mouse_step v words = option_and_then (λ vs. mouse_by v vs.numbers vs.words) (values_of (Digits 4 ∷ Count ∷ Count ∷ []) words)

abbrev pub refresh_step : ℕ → List (List ℕ) → Option Step
refresh_step v words = option_map (RefreshStep v) (rect_of words)

-- ---- the table

abbrev pub fill_fields : List Field
fill_fields = rect_fields ++ Digits 6 ∷ []

-- a rectangle and an operation's code, and then these fields
abbrev pub raster_fields : List Field → List Field
raster_fields others = rect_fields ++ Digits 2 ∷ others

abbrev pub step_forms : List Form
step_forms =
    form (codes "leave") (alone LeaveStep)
    ∷ form (codes "take") (alone TakeStep)
    ∷ form (codes "suppress") (alone (λ v. SuppressStep v true))
    ∷ form (codes "allow") (alone (λ v. SuppressStep v false))
    ∷ form (codes "refresh") refresh_step
    ∷ form (codes "key") key_step
    ∷ form (codes "char") char_step
    ∷ form (codes "mouse") mouse_step
    ∷ form (codes "fill") (drawing_by with_clip fill_fields fill_by)
    ∷ form (codes "dst") (drawing_by with_clip (raster_fields []) dst_by)
    ∷ form (codes "pat") (drawing_by with_clip (raster_fields (Small ∷ [])) pat_by)
    ∷ form (codes "copy") (drawing_by with_clip (raster_fields (Coordinate ∷ Coordinate ∷ [])) copy_by)
    ∷ form (codes "blit") (drawing_by with_clip (raster_fields (Small ∷ Coordinate ∷ Coordinate ∷ [])) blit_by)
    ∷ form (codes "blit3") (drawing_by with_clip (raster_fields (Small ∷ Coordinate ∷ Coordinate ∷ Small ∷ [])) blit3_by)
    ∷ form (codes "text") text_step
    ∷ form (codes "line") (drawing_by with_clip (Coordinate ∷ Coordinate ∷ Coordinate ∷ Coordinate ∷ Digits 6 ∷ []) line_by)
    ∷ form (codes "save") (drawing_by without_clip (Small ∷ rect_fields) save_by)
    ∷ form (codes "restore") (drawing_by without_clip (Small ∷ Coordinate ∷ Coordinate ∷ []) restore_by)
    ∷ form (codes "image") (load_by (Small ∷ Count ∷ Count ∷ []) image_by)
    ∷ form (codes "brush") (load_by (Small ∷ []) brush_by)
    ∷ form (codes "glyph") (load_by (Small ∷ Small ∷ Coordinate ∷ Coordinate ∷ Count ∷ Count ∷ []) glyph_by)
    ∷ []

-- the step of the form with this first word
abbrev pub step_in : List Form → ℕ → List ℕ → List (List ℕ) → Option Step
step_in [] v word words = None
step_in (f ∷ forms) v word words = if is_same_word word f.word then f.reads v words else step_in forms v word words
