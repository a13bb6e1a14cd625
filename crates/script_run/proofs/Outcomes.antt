-- What a found line does.
use Rattle.std.proofs.Common.{◌≡◌, ℕ, ◌+◌, ◌<◌, ◌≤◌, List, [], ◌∷◌, length, refl, ap, sym, ◌∙◌, subst, Some, None, Bool, true, false, arith}
use Rattle.std.proofs.Common.{length-append}
use Rattle.std.specs.Prelude.{Option, ⊤, ◌||◌, ◌&&◌, not, nat_lt}
use Rattle.std.specs.Io.KnownBytes.{IsAtEnd}
use Rattle.std.proofs.lemmas.Bool.Decides.{nat_tests}
use Rattle.line_text.specs.Lines.{Line, line_bytes, lines_of, is_past_limits, script_limit, line_limit}
use Rattle.line_text.specs.Words.{words_of}
use Rattle.edge_io.specs.Reading.{LineReading, HandsOut, IsPastLimits, first_is_past}
use Rattle.edge_io.specs.Finding.{Finds}
use Rattle.edge_io.specs.declared.reader.Found.{Found}
use Rattle.edge_io.specs.declared.reader.Found.TheVariants as found
use Rattle.script_rules.specs.Script.{ScriptReading, LineOutcome, line_form, form_outcome, line_outcome, unless_broken, broken_if, all_bytes, is_ascii, text_rule}
use Rattle.script_rules.specs.Script.LineOutcome.{Breaks, Invites, Asks}
use Rattle.script_run.specs.Run.{Tells}
use Rattle.script_run.specs.Outcomes.{outcome_within, found_outcome, BreaksNone}

-- ---- a line

-- within the limits a line's own bytes say what it does
pub outcome_is : (at : ℕ) (r : ScriptReading) (text : List ℕ) (ended : Bool) → is_past_limits at (record { text = text; ended = ended }) ≡ false
    → line_outcome at r (record { text = text; ended = ended }) ≡ outcome_within r text ended
outcome_is at r text ended within =
    ap (λ past. unless_broken (broken_if (past || not (ended && all_bytes is_ascii text)) text_rule) (form_outcome r (line_form (words_of text)))) within

pub past_outcome : (at : ℕ) (r : ScriptReading) (line : Line) → is_past_limits at line ≡ true → line_outcome at r line ≡ Breaks text_rule
past_outcome at r line past =
    ap (λ p. unless_broken (broken_if (p || not (line.ended && all_bytes is_ascii line.text)) text_rule) (form_outcome r (line_form (words_of line.text)))) past

pub done_is_ended : (r : ScriptReading) (text : List ℕ) (ended : Bool) (o : LineOutcome) → outcome_within r text ended ≡ o → BreaksNone o → ended ≡ true
done_is_ended r text true o e none = refl
done_is_ended r text false (Breaks rule) e none = absurd none
done_is_ended r text false (Invites row) e none = absurd (cc e)
done_is_ended r text false (Asks a) e none = absurd (cc e)

pub is_longer : (at next_at : ℕ) (text : List ℕ) → next_at ≡ at + length (line_bytes (record { text = text; ended = true })) → at < next_at
is_longer at next_at text is = omega (arith, is, length-append text (10 ∷ []))

not_past : (at : ℕ) (line : Line) (long : Bool) → (long || nat_lt script_limit (at + length (line_bytes line))) ≡ false
    → at + length (line_bytes line) ≤ script_limit
not_past at line true within = absurd (cc within)
not_past at line false within = grind (arith, nat_tests, within)

pub is_inside : (at next_at : ℕ) (line : Line) → next_at ≡ at + length (line_bytes line) → is_past_limits at line ≡ false → next_at ≤ script_limit
is_inside at next_at line is within = omega (arith, is, not_past at line (nat_lt line_limit (length line.text)) within)

-- ---- the lines that begin as what was found

-- of these lines the first is the one that was found, or they are none where the end was
abbrev pub StartAs : Found → ℕ → List ℕ → List Line → Type 0
StartAs (found.Line ended) at text [] = ⊥
StartAs (found.Line ended) at text (line ∷ lines) = line ≡ record { text = text; ended = ended }
StartAs found.PastLimits at text [] = ⊥
StartAs found.PastLimits at text (line ∷ lines) = is_past_limits at line ≡ true
StartAs found.End at text [] = ⊤
StartAs found.End at text (line ∷ lines) = ⊥
StartAs found.Failed at text lines = ⊥

first_past : (at : ℕ) (text : List ℕ) (lines : List Line) → first_is_past at lines ≡ true → StartAs found.PastLimits at text lines
first_past at text [] past = absurd (cc past)
first_past at text (line ∷ lines) past = past

past_starts : (before : Option (List ℕ)) (at : ℕ) (text : List ℕ) → IsPastLimits at before → Tells before (λ bytes. StartAs found.PastLimits at text (lines_of bytes))
past_starts None at text past = tt
past_starts (Some bytes) at text past = first_past at text (lines_of bytes) past

end_starts : (before : Option (List ℕ)) (at : ℕ) (text : List ℕ) → IsAtEnd before → Tells before (λ bytes. StartAs found.End at text (lines_of bytes))
end_starts None at text end = tt
end_starts (Some bytes) at text end = subst (λ b. StartAs found.End at text (lines_of b)) (sym end) tt

starts_at : (lines rest : List Line) (line : Line) (ended : Bool) (at : ℕ) (text : List ℕ) → lines ≡ line ∷ rest → line ≡ record { text = text; ended = ended }
    → StartAs (found.Line ended) at text lines
starts_at [] rest line ended at text e is = absurd (cc e)
starts_at (l ∷ ls) rest line ended at text e is = first_line e ∙ is
  where
    first_of : List Line → Line
    first_of [] = l
    first_of (m ∷ ms) = m

    first_line : (l ∷ ls) ≡ line ∷ rest → l ≡ line
    first_line e = ap first_of e

line_starts : (before now : Option (List ℕ)) (ended : Bool) (at : ℕ) (text : List ℕ) → HandsOut before now (record { text = text; ended = ended } ∷ [])
    → Tells before (λ bytes. StartAs (found.Line ended) at text (lines_of bytes))
line_starts None now ended at text hands = tt
line_starts (Some bytes) None ended at text hands = absurd hands
line_starts (Some bytes) (Some left) ended at text hands =
    starts_at (lines_of bytes) (lines_of left) (record { text = text; ended = ended }) ended at text hands refl

-- the lines ahead begin as what was found
pub found_starts : (f : Found) (old new : LineReading) (before now : Option (List ℕ)) → Finds f old new before now → (f ≡ found.Failed → ⊥)
    → Tells before (λ bytes. StartAs f old.at new.text (lines_of bytes))
found_starts (found.Line ended) old new before now finds read = line_starts before now ended old.at new.text finds.takes.hands_out
found_starts found.PastLimits old new before now finds read = past_starts before old.at new.text finds.1
found_starts found.End old new before now finds read = end_starts before old.at new.text finds.1
found_starts found.Failed old new before now finds read = absurd (read refl)

-- so does the first of them alone
pub starts_alone : (f : Found) (at : ℕ) (text : List ℕ) (line : Line) (lines : List Line) → StartAs f at text (line ∷ lines) → StartAs f at text (line ∷ [])
starts_alone (found.Line ended) at text line lines s = s
starts_alone found.PastLimits at text line lines s = s
starts_alone found.End at text line lines s = absurd s
starts_alone found.Failed at text line lines s = absurd s

-- what it does
pub first_does : (f : Found) (old : LineReading) (text : List ℕ) (r : ScriptReading) (line : Line) (lines : List Line) (o : LineOutcome)
    → ((ended : Bool) → f ≡ found.Line ended → is_past_limits old.at (record { text = text; ended = ended }) ≡ false)
    → StartAs f old.at text (line ∷ lines) → found_outcome f r text ≡ Some o → line_outcome old.at r line ≡ o
first_does (found.Line ended) old text r line lines o within s is =
    ap (line_outcome old.at r) s ∙ outcome_is old.at r text ended (within ended refl) ∙ some_is (outcome_within r text ended) o is
  where
    some_is : (a b : LineOutcome) → Some a ≡ Some b → a ≡ b
    some_is a b e = cc e
first_does found.PastLimits old text r line lines o within s is = past_outcome old.at r line s ∙ some_is (Breaks text_rule) o is
  where
    some_is : (a b : LineOutcome) → Some a ≡ Some b → a ≡ b
    some_is a b e = cc e
first_does found.End old text r line lines o within s is = absurd s
first_does found.Failed old text r line lines o within s is = absurd s
