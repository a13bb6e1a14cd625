-- The table of forms reads what the code reads.
use Rattle.std.proofs.Common.{◌≡◌, ℕ, List, [], ◌∷◌, refl, ap, ◌∙◌, Some, None, Bool, true, false}
use Rattle.std.specs.Prelude.{Option, ℤ, option_map, if◌then◌else◌, find}
use Rattle.std.specs.Option.{option_and_then}
use Rattle.line_text.specs.Words.{is_same_word}
use Rattle.line_text.specs.Numbers.{number_up_to}
use Rattle.line_text.specs.Hexadecimal.{hexadecimal_of}
use Rattle.px_core.specs.declared.rectangle.Rect.{Rect}
use Rattle.draw_ops.specs.declared.shape.Shape.{Shape}
use Rattle.draw_ops.specs.declared.shape.Drawing.{Drawing}
use Rattle.input_pdu.specs.declared.event.Event.{Event}
use Rattle.input_pdu.specs.declared.event.Event.TheVariants.{Scan, Unicode}
use Rattle.session_rules.specs.Steps.{Step}
use Rattle.session_rules.specs.Steps.Step.{LeaveStep, InputStep, RefreshStep, SuppressStep, TakeStep}
use Rattle.script_rules.specs.Fields.{Field, Values, Pairs, values_of, rect_of, pairs_of, text_by, with_clip, without_clip, fill_by, dst_by, pat_by, copy_by, blit_by, blit3_by, line_by, save_by, restore_by, image_by, brush_by, glyph_by}
use Rattle.script_rules.specs.Fields.Field.{Coordinate, Count, Small, Digits}
use Rattle.script_rules.specs.Forms.{alone, drawing_by, load_by, draw_step, text_step, text_fields, key_step, char_step, mouse_step, refresh_step, is_up, unicode_limit, fill_fields, raster_fields, step_forms, step_in}
use Rattle.script_rules.specs.Forms.{mouse_by as form_mouse}
use Rattle.script_rules.specs.Script.{LineForm, step_form}
use Rattle.script_rules.specs.Script.LineForm.{StepForm}
use Rattle.script_lines.specs.declared.keyword.Keyword.{Keyword}
use Rattle.script_lines.specs.declared.keyword.Keyword.TheVariants as key
use Rattle.script_lines.specs.declared.step.ViewerStep.{ViewerStep}
use Rattle.script_lines.specs.declared.step.ViewerStep.TheVariants as asks
use Rattle.script_lines.specs.Reading.{drawing_of, text_of_words, load_of, loaded, line_fields, save_fields, restore_fields, image_fields, brush_fields, glyph_fields}
use Rattle.script_lines.specs.Steps.{key_of, char_of, mouse_by, mouse_of}
use Rattle.script_lines.specs.Keywords.{text_of, keywords, alone_of, step_read, step_of, step_in_words}

-- what a keyword's words ask for, as a step of a viewer
abbrev Asks : ℕ → Keyword → List (List ℕ) → Option Step → Type 0
Asks v k words reads = reads ≡ option_map (step_of v) (step_read k words)

alone_is : (s : ViewerStep) (make : ℕ → Step) (v : ℕ) (words : List (List ℕ)) → make v ≡ step_of v s → alone make v words ≡ option_map (step_of v) (alone_of s words)
alone_is s make v [] e = ap Some e
alone_is s make v (word ∷ words) e = refl

draws : (v : ℕ) (o : Option Drawing) → option_map (draw_step v) o ≡ option_map (step_of v) (option_map (λ d. asks.Draw d) o)
draws v None = refl
draws v (Some d) = refl

drawing_is : (ends : Shape → List (List ℕ) → Option Drawing) (fields : List Field) (make : List ℤ → Option Shape) (v : ℕ) (words : List (List ℕ)) →
    drawing_by ends fields make v words ≡ option_map (step_of v) (option_map (λ d. asks.Draw d) (drawing_of ends fields make words))
drawing_is ends fields make v words = by (values_of fields words)
  where
    by : (o : Option Values) → option_and_then (λ vs. option_map (draw_step v) (option_and_then (λ shape. ends shape vs.words) (make vs.numbers))) o
        ≡ option_map (step_of v) (option_map (λ d. asks.Draw d) (option_and_then (λ vs. option_and_then (λ shape. ends shape vs.words) (make vs.numbers)) o))
    by None = refl
    by (Some vs) = draws v (option_and_then (λ shape. ends shape vs.words) (make vs.numbers))

load_is : (fields : List Field) (make : List ℤ → List (List ℕ) → Option Shape) (v : ℕ) (words : List (List ℕ)) →
    load_by fields make v words ≡ option_map (step_of v) (option_map (λ d. asks.Draw d) (load_of fields make words))
load_is fields make v words = by (values_of fields words)
  where
    one : (o : Option Shape) → option_map (λ shape. draw_step v (loaded shape)) o ≡ option_map (step_of v) (option_map (λ d. asks.Draw d) (option_map loaded o))
    one None = refl
    one (Some shape) = refl

    by : (o : Option Values) → option_and_then (λ vs. option_map (λ shape. draw_step v (loaded shape)) (make vs.numbers vs.words)) o
        ≡ option_map (step_of v) (option_map (λ d. asks.Draw d) (option_and_then (λ vs. option_map loaded (make vs.numbers vs.words)) o))
    by None = refl
    by (Some vs) = one (make vs.numbers vs.words)

text_is : (v : ℕ) (words : List (List ℕ)) → text_step v words ≡ option_map (step_of v) (option_map (λ d. asks.Draw d) (text_of_words words))
text_is v words = by (values_of text_fields words)
  where
    one : (numbers : List ℤ) (o : Option Pairs) → option_and_then (λ run. option_map (draw_step v) (option_and_then (λ shape. with_clip shape run.words) (text_by numbers run.pairs))) o
        ≡ option_map (step_of v) (option_map (λ d. asks.Draw d) (option_and_then (λ run. option_and_then (λ shape. with_clip shape run.words) (text_by numbers run.pairs)) o))
    one numbers None = refl
    one numbers (Some run) = draws v (option_and_then (λ shape. with_clip shape run.words) (text_by numbers run.pairs))

    by : (o : Option Values) → option_and_then (λ vs. option_and_then (λ run. option_map (draw_step v) (option_and_then (λ shape. with_clip shape run.words) (text_by vs.numbers run.pairs))) (pairs_of vs.words)) o
        ≡ option_map (step_of v) (option_map (λ d. asks.Draw d) (option_and_then (λ vs. option_and_then (λ run. option_and_then (λ shape. with_clip shape run.words) (text_by vs.numbers run.pairs)) (pairs_of vs.words)) o))
    by None = refl
    by (Some vs) = one vs.numbers (pairs_of vs.words)

-- ---- input events

inputs : (v : ℕ) (o : Option Event) → option_map (InputStep v) o ≡ option_map (step_of v) (option_map (λ e. asks.Input e) o)
inputs v None = refl
inputs v (Some e) = refl

key_is : (v : ℕ) (words : List (List ℕ)) → key_step v words ≡ option_map (step_of v) (option_map (λ e. asks.Input e) (key_of words))
key_is v [] = refl
key_is v (code ∷ []) = refl
key_is v (code ∷ direction ∷ []) = by (hexadecimal_of 2 code) (is_up direction)
  where
    by : (c : Option ℕ) (up : Option Bool) → option_and_then (λ n. option_map (λ b. InputStep v (Scan n b)) up) c
        ≡ option_map (step_of v) (option_map (λ e. asks.Input e) (option_and_then (λ n. option_map (λ b. Scan n b) up) c))
    by None up = refl
    by (Some n) None = refl
    by (Some n) (Some b) = refl
key_is v (code ∷ direction ∷ word ∷ words) = refl

char_is : (v : ℕ) (words : List (List ℕ)) → char_step v words ≡ option_map (step_of v) (option_map (λ e. asks.Input e) (char_of words))
char_is v [] = refl
char_is v (word ∷ []) = by (number_up_to unicode_limit word)
  where
    by : (o : Option ℕ) → option_map (λ code. InputStep v (Unicode code false)) o ≡ option_map (step_of v) (option_map (λ e. asks.Input e) (option_map (λ code. Unicode code false) o))
    by None = refl
    by (Some code) = refl
char_is v (word ∷ next ∷ words) = refl

mouse_is : (v : ℕ) (words : List (List ℕ)) → mouse_step v words ≡ option_map (step_of v) (option_map (λ e. asks.Input e) (mouse_of words))
mouse_is v words = by (values_of (Digits 4 ∷ Count ∷ Count ∷ []) words)
  where
    one : (numbers : List ℤ) (rest : List (List ℕ)) → form_mouse v numbers rest ≡ option_map (step_of v) (option_map (λ e. asks.Input e) (mouse_by numbers rest))
    one [] rest = refl
    one (a ∷ []) rest = refl
    one (a ∷ b ∷ []) rest = refl
    one (a ∷ b ∷ c ∷ []) [] = refl
    one (a ∷ b ∷ c ∷ []) (word ∷ rest) = refl
    one (a ∷ b ∷ c ∷ d ∷ numbers) rest = refl

    by : (o : Option Values) → option_and_then (λ vs. form_mouse v vs.numbers vs.words) o
        ≡ option_map (step_of v) (option_map (λ e. asks.Input e) (option_and_then (λ vs. mouse_by vs.numbers vs.words) o))
    by None = refl
    by (Some vs) = one vs.numbers vs.words

refresh_is : (v : ℕ) (words : List (List ℕ)) → refresh_step v words ≡ option_map (step_of v) (option_map (λ r. asks.Refresh r) (rect_of words))
refresh_is v words = by (rect_of words)
  where
    by : (o : Option Rect) → option_map (RefreshStep v) o ≡ option_map (step_of v) (option_map (λ r. asks.Refresh r) o)
    by None = refl
    by (Some r) = refl

-- ---- the table

-- what the first of these keywords asks for that a word is
found : ℕ → List ℕ → List (List ℕ) → List Keyword → Option Step
found v word words ks = option_map (step_of v) (option_and_then (λ k. step_read k words) (find (λ k. is_same_word word (text_of k)) ks))

-- a row of the table before others
row : (v : ℕ) (word : List ℕ) (words : List (List ℕ)) (ks : List Keyword) {reads rest : Option Step} (k : Keyword) → Asks v k words reads → rest ≡ found v word words ks
    → (if is_same_word word (text_of k) then reads else rest) ≡ found v word words (k ∷ ks)
unfolding found
row v word words ks {reads} {rest} k e others = by (is_same_word word (text_of k))
  where
    by : (b : Bool) → (if b then reads else rest) ≡ option_map (step_of v) (option_and_then (λ k. step_read k words) (if b then Some k else find (λ k. is_same_word word (text_of k)) ks))
    by true = e
    by false = others

none_found : (v : ℕ) (word : List ℕ) (words : List (List ℕ)) → None ≡ found v word words []
unfolding found
none_found v word words = refl

step_in_found : (v : ℕ) (word : List ℕ) (words : List (List ℕ)) → step_in step_forms v word words ≡ found v word words keywords
step_in_found v word words =
    row v word words _ key.Leave (alone_is asks.Leave LeaveStep v words refl)
    (row v word words _ key.Take (alone_is asks.Take TakeStep v words refl)
    (row v word words _ key.Suppress (alone_is (asks.Suppress true) (λ u. SuppressStep u true) v words refl)
    (row v word words _ key.Allow (alone_is (asks.Suppress false) (λ u. SuppressStep u false) v words refl)
    (row v word words _ key.Refresh (refresh_is v words)
    (row v word words _ key.Key (key_is v words)
    (row v word words _ key.Char (char_is v words)
    (row v word words _ key.Mouse (mouse_is v words)
    (row v word words _ key.Fill (drawing_is with_clip fill_fields fill_by v words)
    (row v word words _ key.Dst (drawing_is with_clip (raster_fields []) dst_by v words)
    (row v word words _ key.Pat (drawing_is with_clip (raster_fields (Small ∷ [])) pat_by v words)
    (row v word words _ key.Copy (drawing_is with_clip (raster_fields (Coordinate ∷ Coordinate ∷ [])) copy_by v words)
    (row v word words _ key.Blit (drawing_is with_clip (raster_fields (Small ∷ Coordinate ∷ Coordinate ∷ [])) blit_by v words)
    (row v word words _ key.Blit3 (drawing_is with_clip (raster_fields (Small ∷ Coordinate ∷ Coordinate ∷ Small ∷ [])) blit3_by v words)
    (row v word words _ key.Text (text_is v words)
    (row v word words _ key.Line (drawing_is with_clip line_fields line_by v words)
    (row v word words _ key.Save (drawing_is without_clip save_fields save_by v words)
    (row v word words _ key.Restore (drawing_is without_clip restore_fields restore_by v words)
    (row v word words _ key.Image (load_is image_fields image_by v words)
    (row v word words _ key.Brush (load_is brush_fields brush_by v words)
    (row v word words _ key.Glyph (load_is glyph_fields glyph_by v words) (none_found v word words)))))))))))))))))))))

pub step_in_is : (v : ℕ) (word : List ℕ) (words : List (List ℕ)) → step_in step_forms v word words ≡ option_map (step_of v) (step_in_words (word ∷ words))
unfolding found
step_in_is v word words = step_in_found v word words

-- a step as a line's form
abbrev pub step_line : ℕ → ViewerStep → LineForm
step_line v s = StepForm v (step_of v s)

-- the step of a viewer that words ask for
pub step_form_is : (v : ℕ) (words : List (List ℕ)) → step_form v words ≡ option_map (step_line v) (step_in_words words)
step_form_is v [] = refl
step_form_is v (word ∷ words) = ap (option_map (StepForm v)) (step_in_is v word words) ∙ by (step_in_words (word ∷ words))
  where
    by : (o : Option ViewerStep) → option_map (StepForm v) (option_map (step_of v) o) ≡ option_map (step_line v) o
    by None = refl
    by (Some s) = refl
