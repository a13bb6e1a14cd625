-- What the demonstration loads, who confirms what, which step each number stands for, and its line.
use Rattle.std.proofs.Common.{◌≡◌, ℕ, List, [], ◌∷◌, ◌++◌, map, replicate, refl}
use Rattle.std.specs.Prelude.{codes, pos}
use Rattle.std.specs.Fmt.{digits}
use Rattle.px_core.specs.Picture.{listed}
use Rattle.caps_sets.specs.declared.confirmed.Confirmed.{Confirmed}
use Rattle.caps_sets.specs.Confirmed.{plain, full, marked, bare}
use Rattle.draw_ops.specs.declared.shape.Shape.TheVariants.{LoadImage, LoadBrush, LoadGlyph}
use Rattle.session_rules.specs.Journal.Refusal.{NotInvited}
use Rattle.session_rules.specs.Steps.Answer.{Left, Refused, Nothing}
use Rattle.demo_run.specs.declared.step_kind.StepKind.TheVariants.{Fill, Copy, Dst, Line, Pat, Blit, Text, Save, Restore, Give, Take}
use Rattle.px_core.specs.Rectangle.{boxed}
use Rattle.draw_ops.specs.declared.shape.Shape.TheVariants as shape
use Rattle.demo_run.specs.Numbers.{generator_of, number_below, after_word}
use Rattle.demo_run.specs.Scene.{image_color, brush_load, glyph_load, draw_by, Preset, preset_of}
use Rattle.demo_run.specs.Steps.{kind_of, step_drawn}
use Rattle.demo_run.specs.Counts.{refused_count, line_of}

colours_of_images : image_color 0 ∷ image_color 7 ∷ [] ≡ 0x1F1F1F ∷ 0xF8F8F8 ∷ []
colours_of_images = refl

the_second_brush : brush_load 1 ≡ LoadBrush 1 (replicate 64 126)
the_second_brush = refl

the_first_glyph_is_a : glyph_load 0 ≡ LoadGlyph 0 0 (record { x = pos 0; y = pos 0; cx = 8; cy = 8; bits = 0x41 ∷ 0x82 ∷ 0x05 ∷ 0x0A ∷ 0x14 ∷ 0x28 ∷ 0x50 ∷ 0xA0 ∷ [] })
the_first_glyph_is_a = refl

abbrev preset : List ℕ → Confirmed → Preset
preset word c = record { word = word; confirmed = c }

presets_go_round : preset_of 1 ∷ preset_of 2 ∷ preset_of 3 ∷ preset_of 16 ∷ []
    ≡ preset (codes "full") full ∷ preset (codes "marked") marked ∷ preset (codes "plain") plain ∷ preset (codes "bare") bare ∷ []
presets_go_round = refl

kinds_of_sixteen_numbers : map kind_of (listed 16 0 (λ n. n))
    ≡ Fill ∷ Fill ∷ Fill ∷ Copy ∷ Dst ∷ Line ∷ Pat ∷ Blit ∷ Blit ∷ Text ∷ Save ∷ Restore ∷ Give ∷ Take ∷ Take ∷ Take ∷ []
kinds_of_sixteen_numbers = refl

-- seed 5: a colour of 24 bits, of which the highest is set (the words by an independent model of the generator)
a_fill_of_a_bright_red : (step_drawn 3 (generator_of 5)).value ≡ (draw_by 3 (shape.Fill (boxed (pos 54) (pos 31) 36 38) 0xC91F1A)).step
unfolding number_below after_word
a_fill_of_a_bright_red = refl

a_take_without_work_is_no_refusal : refused_count (Refused NotInvited ∷ Nothing ∷ Left ∷ []) ≡ 1
a_take_without_work_is_no_refusal = refl

the_line_of_counts : line_of (record { steps = 1; entries = 2; takes = 3; marks = 4; orders = 5; tiles = 6; bytes = 7; refused = 8 })
    ≡ codes "steps 1 entries 2 takes 3 marks 4 orders 5 tiles 6 bytes 7 refused 8" ++ 10 ∷ []
unfolding digits
the_line_of_counts = refl
