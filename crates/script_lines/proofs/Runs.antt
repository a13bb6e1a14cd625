-- Runs of glyphs, word by word.
use Rattle.std.proofs.Common.{◌≡◌, ℕ, List, [], ◌∷◌, ◌++◌, refl, ap, ◌∙◌, Some, None, true, false, append_assoc}
use Rattle.std.specs.Prelude.{Option, ℤ, pos, option_map, if◌then◌else◌}
use Rattle.std.specs.Option.{option_and_then}
use Rattle.px_core.specs.declared.rectangle.Rect.{Rect}
use Rattle.draw_ops.specs.declared.shape.Shape.TheVariants.{Text}
use Rattle.draw_ops.specs.declared.shape.Drawing.{Drawing}
use Rattle.script_rules.specs.Forms.{text_fields}
use Rattle.script_rules.specs.Fields.{with_clip, text_by, Pairs, pairs_of, pair_of, with_pair, is_clip_word, rect_of}
use Rattle.script_lines.specs.Reading.{clip_of, run_of, run_with, Reads, ReadsNone, text_of_words}
use Rattle.script_lines.proofs.Fields.{clip_is}

-- glyphs in front of a run
abbrev pub run_behind : List (ℕ × ℕ) → (List (ℕ × ℕ) × Option Rect) → List (ℕ × ℕ) × Option Rect
run_behind pairs run = (pairs ++ run.0, run.1)

-- a word that isn't a clip's gives one glyph more
pub run_of-pair : (word : List ℕ) (words : List (List ℕ)) → is_clip_word word ≡ false →
    run_of (word ∷ words) ≡ option_and_then (λ p. option_map (run_behind (p ∷ [])) (run_of words)) (pair_of word)
run_of-pair word words e =
    ap (λ b. option_and_then (λ run. option_map (λ clip. let t : List (ℕ × ℕ) × Option Rect = (run.pairs, clip) in t) (clip_of run.words))
    (if b then (let ps : Pairs = record { pairs = []; words = word ∷ words } in Some ps) else option_and_then (λ p. option_map (with_pair p) (pairs_of words)) (pair_of word))) e
    ∙ by (pair_of word) (pairs_of words)
  where
    inner : (p : ℕ × ℕ) (ps : Pairs) (o : Option (Option Rect)) → option_map (λ clip. let t : List (ℕ × ℕ) × Option Rect = (p ∷ ps.pairs, clip) in t) o
        ≡ option_map (run_behind (p ∷ [])) (option_map (λ clip. let t : List (ℕ × ℕ) × Option Rect = (ps.pairs, clip) in t) o)
    inner p ps None = refl
    inner p ps (Some clip) = refl

    by : (o : Option (ℕ × ℕ)) (rest : Option Pairs) → option_and_then (λ run. option_map (λ clip. let t : List (ℕ × ℕ) × Option Rect = (run.pairs, clip) in t) (clip_of run.words))
        (option_and_then (λ p. option_map (with_pair p) rest) o)
        ≡ option_and_then (λ p. option_map (run_behind (p ∷ [])) (option_and_then (λ run. option_map (λ clip. let t : List (ℕ × ℕ) × Option Rect = (run.pairs, clip) in t) (clip_of run.words)) rest)) o
    by None rest = refl
    by (Some p) None = refl
    by (Some p) (Some ps) = inner p ps (clip_of ps.words)

-- a clip's word ends the glyphs
pub run_of-clip : (word : List ℕ) (words : List (List ℕ)) → is_clip_word word ≡ true → run_of (word ∷ words) ≡ option_map (run_with []) (rect_of words)
run_of-clip word words e =
    ap (λ b. option_and_then (λ run. option_map (λ clip. let t : List (ℕ × ℕ) × Option Rect = (run.pairs, clip) in t) (clip_of run.words))
    (if b then (let ps : Pairs = record { pairs = []; words = word ∷ words } in Some ps) else option_and_then (λ p. option_map (with_pair p) (pairs_of words)) (pair_of word))) e
    ∙ ap (λ b. option_map (λ clip. let t : List (ℕ × ℕ) × Option Rect = ([], clip) in t) (if b then option_map (λ clip. Some clip) (rect_of words) else None)) e
    ∙ by (rect_of words)
  where
    by : (o : Option Rect) → option_map (λ clip. let t : List (ℕ × ℕ) × Option Rect = ([], clip) in t) (option_map (λ clip. Some clip) o) ≡ option_map (run_with []) o
    by None = refl
    by (Some r) = refl

-- a run behind glyphs and one more
pub behind_one : (pairs : List (ℕ × ℕ)) (p : ℕ × ℕ) (o : Option (List (ℕ × ℕ) × Option Rect)) →
    option_map (run_behind (pairs ++ p ∷ [])) o ≡ option_map (run_behind pairs) (option_map (run_behind (p ∷ [])) o)
behind_one pairs p None = refl
behind_one pairs p (Some run) = ap (λ ps. let t : List (ℕ × ℕ) × Option Rect = (ps, run.1) in Some t) (append_assoc pairs (p ∷ []) run.0)

pub behind_clip : (pairs : List (ℕ × ℕ)) (o : Option Rect) → option_map (run_with (pairs ++ [])) o ≡ option_map (run_behind pairs) (option_map (run_with []) o)
behind_clip pairs None = refl
behind_clip pairs (Some r) = refl

-- ---- texts

-- a text's drawing
abbrev pub text_drawing : ℤ → ℤ → ℕ → ℕ → List (ℕ × ℕ) → Option Rect → Drawing
text_drawing x y color font pairs clip = record { shape = Text x y color font pairs; clip = clip }

abbrev pub text_with : ℤ → ℤ → ℕ → ℕ → (List (ℕ × ℕ) × Option Rect) → Drawing
text_with x y color font run = text_drawing x y color font run.0 run.1

pub no_text : {words : List (List ℕ)} → ReadsNone text_fields words → text_of_words words ≡ None
no_text {words} r =
    ap (option_and_then (λ vs. option_and_then (λ run. option_and_then (λ shape. with_clip shape run.words) (text_by vs.numbers run.pairs)) (pairs_of vs.words))) (r.none [])

run_drawn : (x y : ℤ) (color font : ℕ) (o : Option Pairs) → option_and_then (λ run. with_clip (Text x y color font run.pairs) run.words) o
    ≡ option_map (text_with x y color font) (option_and_then (λ run. option_map (λ clip. let t : List (ℕ × ℕ) × Option Rect = (run.pairs, clip) in t) (clip_of run.words)) o)
run_drawn x y color font None = refl
run_drawn x y color font (Some run) = clip_is (Text x y color font run.pairs) run.words ∙ by (clip_of run.words)
  where
    by : (o : Option (Option Rect)) → option_map (λ clip. text_drawing x y color font run.pairs clip) o
        ≡ option_map (text_with x y color font) (option_map (λ clip. let t : List (ℕ × ℕ) × Option Rect = (run.pairs, clip) in t) o)
    by None = refl
    by (Some clip) = refl

-- the fields of a text, and then its run
pub text_read : {x y : ℤ} {color font : ℕ} {words rest : List (List ℕ)} → Reads text_fields (x ∷ y ∷ pos color ∷ pos font ∷ []) words rest
    → text_of_words words ≡ option_map (text_with x y color font) (run_of rest)
text_read {x} {y} {color} {font} {words} {rest} reads =
    ap (option_and_then (λ vs. option_and_then (λ run. option_and_then (λ shape. with_clip shape run.words) (text_by vs.numbers run.pairs)) (pairs_of vs.words))) (reads.values [])
    ∙ run_drawn x y color font (pairs_of rest)
