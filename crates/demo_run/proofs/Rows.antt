-- The first numbers and steps of some seeds, as an independent model of the generator has them, and the session before its steps.
use Rattle.std.proofs.Common.{◌≡◌, ℕ, suc, zero, List, [], ◌∷◌, length, refl}
use Rattle.std.specs.Prelude.{pos, false}
use Rattle.std.specs.Fmt.{digits}
use Rattle.px_core.specs.Rectangle.{boxed}
use Rattle.input_pdu.specs.declared.event.Event.TheVariants.{Scan}
use Rattle.draw_ops.specs.declared.shape.Shape.TheVariants.{Fill, Dst, Pat, Copy, Blit, Text, Line, Save, Restore}
use Rattle.session_rules.specs.Journal.{f12}
use Rattle.session_rules.specs.Steps.{Step, journal_of_steps, answers_of_steps}
use Rattle.session_rules.specs.Steps.Step.{InputStep, TakeStep}
use Rattle.script_rules.specs.Script.{Asked}
use Rattle.headline.specs.Headline.{steps_of}
use Rattle.rand_pcg.specs.Lcg.{Lcg}
use Rattle.demo_run.specs.Numbers.{Drawn, drawn, generator_of, number_below, after_word}
use Rattle.demo_run.specs.Scene.{demo_head, draw_by, beginning}
use Rattle.demo_run.specs.Steps.{step_drawn}
use Rattle.demo_run.specs.Load.{demo_asked}
use Rattle.demo_run.specs.Counts.{over_viewers, takes_of, refused_count}

-- the next words, whole
abbrev words : ℕ → Lcg → List ℕ
words zero g = []
words (suc n) g = number_below 4294967296 g ∷ words n (after_word g)

seed_1_has_these_words : words 6 (generator_of 1) ≡ 3380776849 ∷ 361947764 ∷ 3223725655 ∷ 2781001427 ∷ 2944471638 ∷ 1813784697 ∷ []
unfolding number_below after_word
seed_1_has_these_words = refl

the_greatest_seed_has_these_words : words 6 (generator_of 18446744073709551615) ≡ 3795398737 ∷ 3572406950 ∷ 1916827069 ∷ 3687248187 ∷ 3217546645 ∷ 2066560389 ∷ []
unfolding number_below after_word
the_greatest_seed_has_these_words = refl

-- the first step of a seed, where viewer 3 holds control, and the word that is drawn next
record First : Type 0 where
  step : Step
  next : ℕ

abbrev shown : Drawn Step → First
shown d = record { step = d.value; next = number_below 4294967296 d.after }

abbrev first_of : ℕ → First
first_of seed = shown (step_drawn 3 (generator_of seed))

a_fill : first_of 1 ≡ record { step = (draw_by 3 (Fill (boxed (pos 116) (pos 151) 20 23) 1845369)).step; next = 806554406 }
unfolding number_below after_word
a_fill = refl

a_copy : first_of 11 ≡ record { step = (draw_by 3 (Copy (boxed (pos 65) (pos 33) 13 18) 0xCC (pos 144) (pos 124))).step; next = 268677009 }
unfolding number_below after_word
a_copy = refl

an_inversion : first_of 9 ≡ record { step = (draw_by 3 (Dst (boxed (pos 189) (pos 137) 14 7) 0x55)).step; next = 1747300415 }
unfolding number_below after_word
an_inversion = refl

a_line : first_of 14 ≡ record { step = (draw_by 3 (Line (pos 223) (pos 5) (pos 254) (pos 61) 0x00FF00)).step; next = 3244468961 }
unfolding number_below after_word
a_line = refl

a_straight_line_is_a_pixel : first_of 5753 ≡ record { step = (draw_by 3 (Fill (boxed (pos 230) (pos 166) 1 1) 0x00FF00)).step; next = 2716645778 }
unfolding number_below after_word
a_straight_line_is_a_pixel = refl

a_brush : first_of 2 ≡ record { step = (draw_by 3 (Pat (boxed (pos 40) (pos 42) 59 60) 0x5A 3)).step; next = 3727396695 }
unfolding number_below after_word
a_brush = refl

an_image : first_of 4 ≡ record { step = (draw_by 3 (Blit (boxed (pos 103) (pos 122) 16 16) 0xCC 0 (pos 0) (pos 0))).step; next = 1602411226 }
unfolding number_below after_word
an_image = refl

a_text : first_of 0 ≡ record { step = (draw_by 3 (Text (pos 221) (pos 116) 0xFFFFFF 0 ((1, 0) ∷ (1, 8) ∷ (3, 8) ∷ []))).step; next = 618144122 }
unfolding number_below after_word
a_text = refl

a_saved_rectangle : first_of 7 ≡ record { step = (draw_by 3 (Save 2 (boxed (pos 21) (pos 137) 33 32))).step; next = 1695204567 }
unfolding number_below after_word
a_saved_rectangle = refl

a_restored_one : first_of 34 ≡ record { step = (draw_by 3 (Restore 2 (pos 0) (pos 0))).step; next = 3746286662 }
unfolding number_below after_word
a_restored_one = refl

control_is_given : first_of 13 ≡ record { step = InputStep 3 (Scan f12 false); next = 1371696884 }
unfolding number_below after_word
control_is_given = refl

a_take : first_of 6 ≡ record { step = TakeStep 10; next = 3852925560 }
unfolding number_below after_word
a_take = refl

-- ---- before the steps

thirty_six_entries_come_first : length (journal_of_steps demo_head (steps_of beginning)) ≡ 36
unfolding digits
thirty_six_entries_come_first = refl

nothing_is_refused_before_the_steps : refused_count (answers_of_steps demo_head (steps_of beginning)) ≡ 0
unfolding digits
nothing_is_refused_before_the_steps = refl

with_no_step_each_viewer_takes_once : over_viewers (takes_of (demo_asked 1 0)) ≡ 16
unfolding digits
with_no_step_each_viewer_takes_once = refl
