-- The first words of the forms of steps, and what the words after each ask for.
use Rattle.std.specs.Prelude.{ℕ, List, [], ◌∷◌, true, false, codes, find}
use Rattle.line_text.specs.Words.{is_same_word}
use Rattle.std.specs.declared.option.Option.{Option}
use Rattle.std.specs.declared.option.Option.TheVariants.{Some, None}
use Rattle.std.specs.Option.{option_map, option_and_then}
use Rattle.draw_ops.specs.declared.shape.Drawing.{Drawing}
use Rattle.session_rules.specs.Steps.{Step}
use Rattle.session_rules.specs.Steps.Step.{LeaveStep, InputStep, DrawStep, RefreshStep, SuppressStep, TakeStep}
use Rattle.script_rules.specs.Fields.{rect_of, with_clip, without_clip, fill_by, dst_by, pat_by, copy_by, blit_by, blit3_by, line_by, save_by, restore_by, image_by, brush_by, glyph_by}
use Rattle.script_rules.specs.Fields.Field.{Coordinate, Small}
use Rattle.script_rules.specs.Forms.{fill_fields, raster_fields}
use Rattle.script_lines.specs.declared.keyword.Keyword.{Keyword}
use Rattle.script_lines.specs.declared.keyword.Keyword.TheVariants as word
use Rattle.script_lines.specs.declared.step.ViewerStep.{ViewerStep}
use Rattle.script_lines.specs.declared.step.ViewerStep.TheVariants as asks
use Rattle.script_lines.specs.Reading.{drawing_of, text_of_words, load_of, line_fields, save_fields, restore_fields, image_fields, brush_fields, glyph_fields}
use Rattle.script_lines.specs.Steps.{key_of, char_of, mouse_of}

-- a keyword as it is written
abbrev pub text_of : Keyword → List ℕ
text_of word.Leave = codes "leave"
text_of word.Take = codes "take"
text_of word.Suppress = codes "suppress"
text_of word.Allow = codes "allow"
text_of word.Refresh = codes "refresh"
text_of word.Key = codes "key"
text_of word.Char = codes "char"
text_of word.Mouse = codes "mouse"
text_of word.Fill = codes "fill"
text_of word.Dst = codes "dst"
text_of word.Pat = codes "pat"
text_of word.Copy = codes "copy"
text_of word.Blit = codes "blit"
text_of word.Blit3 = codes "blit3"
text_of word.Text = codes "text"
text_of word.Line = codes "line"
text_of word.Save = codes "save"
text_of word.Restore = codes "restore"
text_of word.Image = codes "image"
text_of word.Brush = codes "brush"
text_of word.Glyph = codes "glyph"

abbrev pub keywords : List Keyword
keywords = word.Leave ∷ word.Take ∷ word.Suppress ∷ word.Allow ∷ word.Refresh ∷ word.Key ∷ word.Char ∷ word.Mouse
    ∷ word.Fill ∷ word.Dst ∷ word.Pat ∷ word.Copy ∷ word.Blit ∷ word.Blit3 ∷ word.Text ∷ word.Line
    ∷ word.Save ∷ word.Restore ∷ word.Image ∷ word.Brush ∷ word.Glyph ∷ []

-- a step whose word stands alone
abbrev pub alone_of : ViewerStep → List (List ℕ) → Option ViewerStep
alone_of s [] = Some s
alone_of s (word ∷ words) = None

-- what the words after a keyword ask for
abbrev pub step_read : Keyword → List (List ℕ) → Option ViewerStep
step_read word.Leave words = alone_of asks.Leave words
step_read word.Take words = alone_of asks.Take words
step_read word.Suppress words = alone_of (asks.Suppress true) words
step_read word.Allow words = alone_of (asks.Suppress false) words
step_read word.Refresh words = option_map (λ r. asks.Refresh r) (rect_of words)
step_read word.Key words = option_map (λ e. asks.Input e) (key_of words)
step_read word.Char words = option_map (λ e. asks.Input e) (char_of words)
step_read word.Mouse words = option_map (λ e. asks.Input e) (mouse_of words)
step_read word.Fill words = option_map (λ d. asks.Draw d) (drawing_of with_clip fill_fields fill_by words)
step_read word.Dst words = option_map (λ d. asks.Draw d) (drawing_of with_clip (raster_fields []) dst_by words)
step_read word.Pat words = option_map (λ d. asks.Draw d) (drawing_of with_clip (raster_fields (Small ∷ [])) pat_by words)
step_read word.Copy words = option_map (λ d. asks.Draw d) (drawing_of with_clip (raster_fields (Coordinate ∷ Coordinate ∷ [])) copy_by words)
step_read word.Blit words = option_map (λ d. asks.Draw d) (drawing_of with_clip (raster_fields (Small ∷ Coordinate ∷ Coordinate ∷ [])) blit_by words)
step_read word.Blit3 words = option_map (λ d. asks.Draw d) (drawing_of with_clip (raster_fields (Small ∷ Coordinate ∷ Coordinate ∷ Small ∷ [])) blit3_by words)
step_read word.Text words = option_map (λ d. asks.Draw d) (text_of_words words)
step_read word.Line words = option_map (λ d. asks.Draw d) (drawing_of with_clip line_fields line_by words)
step_read word.Save words = option_map (λ d. asks.Draw d) (drawing_of without_clip save_fields save_by words)
step_read word.Restore words = option_map (λ d. asks.Draw d) (drawing_of without_clip restore_fields restore_by words)
step_read word.Image words = option_map (λ d. asks.Draw d) (load_of image_fields image_by words)
step_read word.Brush words = option_map (λ d. asks.Draw d) (load_of brush_fields brush_by words)
step_read word.Glyph words = option_map (λ d. asks.Draw d) (load_of glyph_fields glyph_by words)

-- what a keyword asks for that stands alone
abbrev pub step_alone : Keyword → Option ViewerStep
step_alone word.Leave = Some asks.Leave
step_alone word.Take = Some asks.Take
step_alone word.Suppress = Some (asks.Suppress true)
step_alone word.Allow = Some (asks.Suppress false)
step_alone keyword = None

-- what a keyword asks for that has to stand alone
abbrev pub alone_read : Keyword → List (List ℕ) → Option ViewerStep
alone_read keyword words = option_and_then (λ s. alone_of s words) (step_alone keyword)

-- the drawing that the words after a keyword ask for, where its form has no glyphs, pixels or rows
abbrev pub plain_drawing : Keyword → List (List ℕ) → Option Drawing
plain_drawing word.Fill words = drawing_of with_clip fill_fields fill_by words
plain_drawing word.Dst words = drawing_of with_clip (raster_fields []) dst_by words
plain_drawing word.Pat words = drawing_of with_clip (raster_fields (Small ∷ [])) pat_by words
plain_drawing word.Copy words = drawing_of with_clip (raster_fields (Coordinate ∷ Coordinate ∷ [])) copy_by words
plain_drawing word.Blit words = drawing_of with_clip (raster_fields (Small ∷ Coordinate ∷ Coordinate ∷ [])) blit_by words
plain_drawing word.Blit3 words = drawing_of with_clip (raster_fields (Small ∷ Coordinate ∷ Coordinate ∷ Small ∷ [])) blit3_by words
plain_drawing word.Line words = drawing_of with_clip line_fields line_by words
plain_drawing word.Save words = drawing_of without_clip save_fields save_by words
plain_drawing word.Restore words = drawing_of without_clip restore_fields restore_by words
plain_drawing keyword words = None

-- the drawing that they ask for, where its form has glyphs, pixels or rows
abbrev pub stored_drawing : Keyword → List (List ℕ) → Option Drawing
stored_drawing word.Text words = text_of_words words
stored_drawing word.Image words = load_of image_fields image_by words
stored_drawing word.Brush words = load_of brush_fields brush_by words
stored_drawing word.Glyph words = load_of glyph_fields glyph_by words
stored_drawing keyword words = None

-- the step of a viewer
abbrev pub step_of : ℕ → ViewerStep → Step
step_of v asks.Leave = LeaveStep v
step_of v asks.Take = TakeStep v
step_of v (asks.Suppress stop) = SuppressStep v stop
step_of v (asks.Refresh r) = RefreshStep v r
step_of v (asks.Input e) = InputStep v e
step_of v (asks.Draw d) = DrawStep v d

-- the keyword that a word is
abbrev pub keyword_of : List ℕ → Option Keyword
keyword_of word = find (λ k. is_same_word word (text_of k)) keywords

-- what words ask for
abbrev pub step_in_words : List (List ℕ) → Option ViewerStep
step_in_words [] = None
step_in_words (word ∷ words) = option_and_then (λ k. step_read k words) (keyword_of word)
