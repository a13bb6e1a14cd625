-- Each form of a script asks for a step of the viewer that it is addressed to.
use Rattle.std.proofs.Common.{◌≡◌, ℕ, Bool, true, false, List, [], ◌∷◌, refl, Some, None}
use Rattle.std.specs.Prelude.{Option, ℤ, IfSome, ⊤, ◌&&◌, codes, if◌then◌else◌}
use Rattle.std.specs.Option.{option_map, option_and_then}
use Rattle.draw_ops.specs.Fits.{first_some}
use Rattle.draw_ops.specs.declared.shape.Shape.{Shape}
use Rattle.draw_ops.specs.declared.shape.Drawing.{Drawing}
use Rattle.input_pdu.specs.declared.event.Event.TheVariants.{Scan, Unicode}
use Rattle.session_rules.specs.Steps.{Step}
use Rattle.line_text.specs.Words.{is_same_word}
use Rattle.session_rules.specs.Steps.Step.{JoinStep, LeaveStep, InputStep, DrawStep, RefreshStep, SuppressStep, TakeStep}
use Rattle.line_text.specs.Numbers.{number_up_to}
use Rattle.line_text.specs.Hexadecimal.{hexadecimal_of}
use Rattle.script_rules.specs.Fields.{Field, Values, values_of, rect_fields, rect_of, with_clip, without_clip, pairs_of, text_by, fill_by, dst_by, pat_by}
use Rattle.script_rules.specs.Fields.{copy_by, blit_by, blit3_by, line_by, save_by, restore_by, image_by, brush_by, glyph_by}
use Rattle.script_rules.specs.Fields.Field.{Coordinate, Count, Small, Digits}
use Rattle.script_rules.specs.Forms.{Form, draw_step, drawing_by, load_by, text_fields, text_step, alone, is_up, key_step, unicode_limit, char_step, mouse_by}
use Rattle.script_rules.specs.Forms.{mouse_step, refresh_step, fill_fields, raster_fields, step_forms, step_in}
use Rattle.script_rules.specs.Script.{LineForm, role_named, invite_form, join_form, is_word, are_words, step_form, viewer_of_word, addressed_form}
use Rattle.script_rules.specs.Script.{line_form}
use Rattle.script_rules.specs.Script.LineForm.{InviteForm, JoinForm, StepForm}

-- a step of a viewer, and no join
abbrev pub IsStepOf : ℕ → Step → Type 0
IsStepOf v (JoinStep name) = ⊥
IsStepOf v (LeaveStep u) = u ≡ v
IsStepOf v (InputStep u event) = u ≡ v
IsStepOf v (DrawStep u d) = u ≡ v
IsStepOf v (RefreshStep u rect) = u ≡ v
IsStepOf v (SuppressStep u stop) = u ≡ v
IsStepOf v (TakeStep u) = u ≡ v

abbrev pub IsOf : ℕ → Option Step → Type 0
IsOf v o = IfSome o (IsStepOf v)

-- ---- options

pub some_of : {A B : Type 0} (P : B → Type 0) (f : A → Option B) (o : Option A) → ((x : A) → IfSome (f x) P) → IfSome (option_and_then f o) P
some_of P f None h = tt
some_of P f (Some x) h = h x

pub mapped : {A B : Type 0} (P : B → Type 0) (f : A → B) (o : Option A) → ((x : A) → P (f x)) → IfSome (option_map f o) P
mapped P f None h = tt
mapped P f (Some x) h = h x

-- ---- forms

drawn : (v : ℕ) (o : Option Drawing) → IsOf v (option_map (draw_step v) o)
drawn v None = tt
drawn v (Some d) = refl

drawing_is : (ends : Shape → List (List ℕ) → Option Drawing) (fields : List Field) (make : List ℤ → Option Shape) (v : ℕ) (words : List (List ℕ))
    → IsOf v (drawing_by ends fields make v words)
drawing_is ends fields make v words = by (values_of fields words)
  where
    by : (o : Option Values) → IsOf v (option_and_then (λ vs. option_map (draw_step v) (option_and_then (λ shape. ends shape vs.words) (make vs.numbers))) o)
    by None = tt
    by (Some vs) = drawn v (option_and_then (λ shape. ends shape vs.words) (make vs.numbers))

load_is : (fields : List Field) (make : List ℤ → List (List ℕ) → Option Shape) (v : ℕ) (words : List (List ℕ)) → IsOf v (load_by fields make v words)
load_is fields make v words = by (values_of fields words)
  where
    made : (o : Option Shape) → IsOf v (option_map (λ shape. draw_step v (record { shape = shape; clip = None })) o)
    made None = tt
    made (Some shape) = refl

    by : (o : Option Values)
        → IsOf v (option_and_then (λ vs. option_map (λ shape. draw_step v (record { shape = shape; clip = None })) (make vs.numbers vs.words)) o)
    by None = tt
    by (Some vs) = made (make vs.numbers vs.words)

text_is : (v : ℕ) (words : List (List ℕ)) → IsOf v (text_step v words)
text_is v words =
    some_of (IsStepOf v) (λ vs. option_and_then
    (λ run. option_map (draw_step v) (option_and_then (λ shape. with_clip shape run.words) (text_by vs.numbers run.pairs))) (pairs_of vs.words))
    (values_of text_fields words) (λ vs.
    some_of (IsStepOf v) (λ run. option_map (draw_step v) (option_and_then (λ shape. with_clip shape run.words) (text_by vs.numbers run.pairs)))
    (pairs_of vs.words) (λ run.
    drawn v (option_and_then (λ shape. with_clip shape run.words) (text_by vs.numbers run.pairs))))

alone_is : (make : ℕ → Step) (v : ℕ) (words : List (List ℕ)) → IsStepOf v (make v) → IsOf v (alone make v words)
alone_is make v [] h = h
alone_is make v (word ∷ words) h = tt

key_is : (v : ℕ) (words : List (List ℕ)) → IsOf v (key_step v words)
key_is v [] = tt
key_is v (code ∷ []) = tt
key_is v (code ∷ direction ∷ []) =
    some_of (IsStepOf v) (λ c. option_map (λ up. InputStep v (Scan c up)) (is_up direction)) (hexadecimal_of 2 code) (λ c.
    mapped (IsStepOf v) (λ up. InputStep v (Scan c up)) (is_up direction) (λ up. refl))
key_is v (code ∷ direction ∷ more ∷ words) = tt

char_is : (v : ℕ) (words : List (List ℕ)) → IsOf v (char_step v words)
char_is v [] = tt
char_is v (word ∷ []) = mapped (IsStepOf v) (λ code. InputStep v (Unicode code false)) (number_up_to unicode_limit word) (λ code. refl)
char_is v (word ∷ more ∷ words) = tt

mouse_numbers : (v : ℕ) (zs : List ℤ) (words : List (List ℕ)) → IsOf v (mouse_by v zs words)
mouse_numbers v [] words = tt
mouse_numbers v (a ∷ []) words = tt
mouse_numbers v (a ∷ b ∷ []) words = tt
mouse_numbers v (a ∷ b ∷ c ∷ []) [] = refl
mouse_numbers v (a ∷ b ∷ c ∷ []) (word ∷ words) = tt
mouse_numbers v (a ∷ b ∷ c ∷ d ∷ zs) words = tt

mouse_is : (v : ℕ) (words : List (List ℕ)) → IsOf v (mouse_step v words)
mouse_is v words = some_of (IsStepOf v) (λ vs. mouse_by v vs.numbers vs.words) (values_of (Digits 4 ∷ Count ∷ Count ∷ []) words)
    (λ vs. mouse_numbers v vs.numbers vs.words)

refresh_is : (v : ℕ) (words : List (List ℕ)) → IsOf v (refresh_step v words)
refresh_is v words = mapped (IsStepOf v) (RefreshStep v) (rect_of words) (λ r. refl)

-- ---- tables

-- each form of a table asks for a step of its viewer
abbrev pub AreOfTheirViewers : List Form → Type 0
AreOfTheirViewers [] = ⊤
AreOfTheirViewers (f ∷ forms) = ((v : ℕ) (words : List (List ℕ)) → IsOf v (f.reads v words)) × AreOfTheirViewers forms

step_forms_are : AreOfTheirViewers step_forms
step_forms_are = (
  λ v words. alone_is LeaveStep v words refl,
  (
    λ v words. alone_is TakeStep v words refl,
    (
      λ v words. alone_is (λ u. SuppressStep u true) v words refl,
      (
        λ v words. alone_is (λ u. SuppressStep u false) v words refl,
        (
          refresh_is,
          (
            key_is,
            (
              char_is,
              (
                mouse_is,
                (
                  drawing_is with_clip fill_fields fill_by,
                  (
                    drawing_is with_clip (raster_fields []) dst_by,
                    (
                      drawing_is with_clip (raster_fields (Small ∷ [])) pat_by,
                      (
                        drawing_is with_clip (raster_fields (Coordinate ∷ Coordinate ∷ [])) copy_by,
                        (
                          drawing_is with_clip (raster_fields (Small ∷ Coordinate ∷ Coordinate ∷ [])) blit_by,
                          (
                            drawing_is with_clip (raster_fields (Small ∷ Coordinate ∷ Coordinate ∷ Small ∷ [])) blit3_by,
                            (
                              text_is,
                              (
                                drawing_is with_clip (Coordinate ∷ Coordinate ∷ Coordinate ∷ Coordinate ∷ Digits 6 ∷ []) line_by,
                                (
                                  drawing_is without_clip (Small ∷ rect_fields) save_by,
                                  (
                                    drawing_is without_clip (Small ∷ Coordinate ∷ Coordinate ∷ []) restore_by,
                                    (
                                      load_is (Small ∷ Count ∷ Count ∷ []) image_by,
                                      (
                                        load_is (Small ∷ []) brush_by,
                                        (load_is (Small ∷ Small ∷ Coordinate ∷ Coordinate ∷ Count ∷ Count ∷ []) glyph_by, tt),
                                      ),
                                    ),
                                  ),
                                ),
                              ),
                            ),
                          ),
                        ),
                      ),
                    ),
                  ),
                ),
              ),
            ),
          ),
        ),
      ),
    ),
  ),
)

step_in_is : (forms : List Form) (v : ℕ) (word : List ℕ) (words : List (List ℕ)) → AreOfTheirViewers forms → IsOf v (step_in forms v word words)
step_in_is [] v word words are = tt
step_in_is (f ∷ forms) v word words are = by (is_same_word word f.word) (step_in_is forms v word words are.1)
  where
    by : (t : Bool) → IsOf v (step_in forms v word words) → IsOf v (if t then f.reads v words else step_in forms v word words)
    by true rest = are.0 v words
    by false rest = rest

-- ---- lines

-- the step of a line is of the line's viewer
abbrev pub IsFormOfItsViewer : LineForm → Type 0
IsFormOfItsViewer (InviteForm name role) = ⊤
IsFormOfItsViewer (JoinForm name words) = ⊤
IsFormOfItsViewer (StepForm v step) = IsStepOf v step

abbrev IsGood : Option LineForm → Type 0
IsGood o = IfSome o IsFormOfItsViewer

step_form_is : (v : ℕ) (words : List (List ℕ)) → IsGood (step_form v words)
step_form_is v [] = tt
step_form_is v (word ∷ words) = by (step_in step_forms v word words) (step_in_is step_forms v word words step_forms_are)
  where
    by : (o : Option Step) → IsOf v o → IsGood (option_map (StepForm v) o)
    by None h = tt
    by (Some step) h = h

invite_form_is : (words : List (List ℕ)) → IsGood (invite_form words)
invite_form_is [] = tt
invite_form_is (word ∷ []) = tt
invite_form_is (word ∷ name ∷ []) = tt
invite_form_is (word ∷ name ∷ role ∷ []) = by (is_same_word word (codes "invite") && is_word name)
  where
    by : (t : Bool) → IsGood (if t then option_map (InviteForm name) (role_named role) else None)
    by true = mapped IsFormOfItsViewer (InviteForm name) (role_named role) (λ r. tt)
    by false = tt
invite_form_is (word ∷ name ∷ role ∷ more ∷ words) = tt

join_form_is : (words : List (List ℕ)) → IsGood (join_form words)
join_form_is [] = tt
join_form_is (word ∷ []) = tt
join_form_is (word ∷ name ∷ []) = tt
join_form_is (word ∷ name ∷ preset ∷ words) = by (is_same_word word (codes "join") && are_words (name ∷ preset ∷ words))
  where
    by : (t : Bool) → IsGood (if t then Some (JoinForm name (preset ∷ words)) else None)
    by true = tt
    by false = tt

addressed_form_is : (words : List (List ℕ)) → IsGood (addressed_form words)
addressed_form_is [] = tt
addressed_form_is (word ∷ words) = some_of IsFormOfItsViewer (λ v. step_form v words) (viewer_of_word word) (λ v. step_form_is v words)

abbrev AreGood : List (Option LineForm) → Type 0
AreGood [] = ⊤
AreGood (o ∷ os) = IsGood o × AreGood os

first_is : (os : List (Option LineForm)) → AreGood os → IsGood (first_some os)
first_is [] h = tt
first_is (None ∷ os) h = first_is os h.1
first_is (Some f ∷ os) h = h.0

-- what a line asks for by its form is of its viewer
pub line_form_is : (words : List (List ℕ)) → IsGood (line_form words)
line_form_is words = first_is (step_form 1 words ∷ invite_form words ∷ join_form words ∷ addressed_form words ∷ [])
    (step_form_is 1 words, (invite_form_is words, (join_form_is words, (addressed_form_is words, tt))))
