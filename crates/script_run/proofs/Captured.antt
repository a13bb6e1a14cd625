-- A capture is written line by line.
use Rattle.std.proofs.Common.{◌≡◌, ℕ, ◌+◌, List, [], ◌∷◌, ◌++◌, length, refl, ap, sym, ◌∙◌, Some, None, Bool, true, false, append_assoc}
use Rattle.std.specs.Prelude.{if◌then◌else◌}
use Rattle.px_core.specs.declared.surface.Size.{Size}
use Rattle.line_text.specs.Lines.{Line, line_bytes}
use Rattle.line_text.specs.Words.{words_of}
use Rattle.session_rules.specs.Journal.{Head}
use Rattle.frame_rules.specs.Encoder.{Encoder}
use Rattle.script_rules.specs.Script.{ScriptReading, Script, Asked, LineOutcome, line_outcome, size_of_words, size_rule, text_rule}
use Rattle.script_rules.specs.Script.{after_step, with_asked, proceeding, script_from, opening_by, script_after, begins_with_invite}
use Rattle.script_rules.specs.Script.{opened_reading, solo_join, solo_script, invited_script}
use Rattle.script_rules.specs.Script.LineOutcome.{Breaks, Invites, Asks}
use Rattle.script_rules.specs.Script.Opening.{Unended, Opened}
use Rattle.script_rules.specs.Capture.{broken_line, last_line}
use Rattle.script_rules.specs.CaptureText.{Run, run_after, run_at_first, lines_from, line_in_run, capture_of_opening, capture_of_script, encoder_frames}
use Rattle.script_run.specs.Done.{text_of_opening, text_of_first}
use Rattle.script_run.specs.Solo.{first_run, solo_head, solo_reading, solo_run}
use Rattle.script_run.specs.Run.{refusal_at, refusal_of}
use Rattle.script_run.specs.Outcomes.{reading_by, run_by_outcome, BreaksNone}
use Rattle.script_run.specs.Writing.{line_text, joined, Follows, Begins, Ends, IsWriting}
use Rattle.script_run.specs.Captures.{captures, of_script, of_rest, of_lines, text_from, text_after, so_far_after}
use Rattle.script_run.proofs.Following.{head_stays, refused_by, size_stays, by_invite}

-- ---- one line

asked_text : (run : Run Encoder) (head : Head) (a : Asked) (s : Script) → s.head ≡ head
    → text_from run (with_asked a s) ≡ line_in_run encoder_frames head run a ++ text_from (run_after encoder_frames head run a) s
asked_text run head a s is =
    ap (λ h. (line_in_run encoder_frames h run a ++ lines_from encoder_frames s.head (run_after encoder_frames h run a) s.asked) ++ last_line s.refusal) is
    ∙ append_assoc (line_in_run encoder_frames head run a) (lines_from encoder_frames s.head (run_after encoder_frames head run a) s.asked)
    (last_line s.refusal)

-- what stands first of the lines behind a step
text_by : (r : ScriptReading) (run : Run Encoder) (k : ℕ) (o : LineOutcome) (others : ScriptReading → Script) → BreaksNone o
    → ((next : ScriptReading) → next.begun ≡ true → (others next).head ≡ next.head)
    → text_from run (proceeding r k o others) ≡ line_text captures k r run o ++ text_from (run_by_outcome r.head run o) (others (reading_by r o))
text_by r run k (Breaks rule) others none heads = absurd none
text_by r run k (Invites row) others none heads = refl
text_by r run k (Asks a) others none heads = asked_text run r.head a (others (after_step r a.step)) (heads (after_step r a.step) refl)

-- a line that breaks no rule is done, and then those behind it
line_follows : (line : Line) (k at next_at : ℕ) (r : ScriptReading) (run : Run Encoder) (o : LineOutcome) → line_outcome at r line ≡ o → BreaksNone o
    → next_at ≡ at + length (line_bytes line)
    → Follows (of_lines k at r run) (line ∷ []) (line_text captures k r run o) (of_lines (k + 1) next_at (reading_by r o) (run_by_outcome r.head run o))
line_follows line k at next_at r run o is none place =
    let others = λ (n : ℕ) (more : List Line) (next : ScriptReading). script_from (k + 1) n next more in
    let written : (more : List Line) → text_from run (script_from k at r (line ∷ more)) ≡ line_text captures k r run o
    ++ text_from (run_by_outcome r.head run o) (script_from (k + 1) next_at (reading_by r o) more)
    = λ more. ap (λ p. text_from run (proceeding r k p (others (at + length (line_bytes line)) more))) is
    ∙ ap (λ n. text_from run (proceeding r k o (others n more))) (sym place)
    ∙ text_by r run k o (others next_at more) none (λ next. head_stays (k + 1) next_at next more) in
    record {
      writes = written;
      so_far = written;
      refuses = λ more. ap (λ p. (proceeding r k p (others (at + length (line_bytes line)) more)).refusal) is
          ∙ ap (λ n. (proceeding r k o (others n more)).refusal) (sym place) ∙ refused_by r k o (others next_at more) none;
    }

-- a line that breaks a rule ends the script
line_breaks : (line : Line) (more : List Line) (k at rule : ℕ) (r : ScriptReading) (run : Run Encoder) → line_outcome at r line ≡ Breaks rule
    → Ends (of_lines k at r run) (line ∷ more) (broken_line k rule) (refusal_at k rule)
line_breaks line more k at rule r run is =
    let others = λ (next : ScriptReading). script_from (k + 1) (at + length (line_bytes line)) next more in
    let writes : text_from run (script_from k at r (line ∷ more)) ≡ broken_line k rule = ap (λ p. text_from run (proceeding r k p others)) is in
    record { writes = writes; so_far = writes; refuses = ap (λ p. (proceeding r k p others).refusal) is }

-- ---- behind the first line

-- a script whose second line is an invite
invited_text : (size : Size) (at : ℕ) (lines : List Line)
    → capture_of_script encoder_frames (invited_script at size lines) ≡ text_from (first_run size) (script_from 2 at (opened_reading size []) lines)
invited_text size at lines =
    ap (λ z. text_from (run_at_first encoder_frames z) (invited_script at size lines)) (size_stays 2 at (opened_reading size []) lines)

-- any other script
solo_text : (size : Size) (at : ℕ) (lines : List Line)
    → capture_of_script encoder_frames (solo_script at size lines) ≡ joined captures size ++ text_from (solo_run size) (script_from 2 at (solo_reading size) lines)
solo_text size at lines =
    let s = script_from 2 at (solo_reading size) lines in
    let head : s.head ≡ solo_head size = head_stays 2 at (solo_reading size) lines refl in
    ap (λ z. text_from (run_at_first encoder_frames z) (with_asked solo_join s)) (ap (λ h. h.size) head)
    ∙ asked_text (first_run size) (solo_head size) solo_join s head

-- the lines behind a size, of which the first is an invite
invited_begins : (size : Size) (at : ℕ) (lines : List Line) → begins_with_invite at lines ≡ true
    → Begins (of_rest size at) lines [] (of_lines 2 at (opened_reading size []) (first_run size))
invited_begins size at [] is = absurd (cc is)
invited_begins size at (line ∷ lines) is =
    let writes = ap (capture_of_script encoder_frames) (by_invite size at (line ∷ lines) true is) ∙ invited_text size at (line ∷ lines) in
    record { writes = writes; so_far = λ l more e. writes; refuses = ap (λ s. s.refusal) (by_invite size at (line ∷ lines) true is) }

-- or isn't
solo_begins : (size : Size) (at : ℕ) (lines : List Line) → begins_with_invite at lines ≡ false
    → Begins (of_rest size at) lines (joined captures size) (of_lines 2 at (solo_reading size) (solo_run size))
solo_begins size at lines is =
    let writes : text_after size at lines ≡ joined captures size ++ text_from (solo_run size) (script_from 2 at (solo_reading size) lines)
    = ap (capture_of_script encoder_frames) (by_invite size at lines false is) ∙ solo_text size at lines in
    record {
      writes = writes;
      so_far = λ line more e. ap (so_far_after size at) e ∙ ap (text_after size at) (sym e) ∙ writes;
      refuses = ap (λ s. s.refusal) (by_invite size at lines false is);
    }

-- ---- the first line

so_far_by : (line : Line) (size : Size) (more : List Line) → size_of_words (words_of line.text) ≡ Some size → line.ended ≡ true
    → text_of_first (line ∷ more) ≡ so_far_after size (length (line_bytes line)) more
so_far_by line size [] is ended = ap (λ o. text_of_opening (opening_by line o [])) is
    ∙ ap (λ b. text_of_opening (if b then Opened (script_after (length (line_bytes line)) size []) else Unended)) ended
so_far_by line size (second ∷ more) is ended = ap (λ o. capture_of_opening encoder_frames (opening_by line o (second ∷ more))) is
    ∙ ap (λ b. capture_of_opening encoder_frames (if b then Opened (script_after (length (line_bytes line)) size (second ∷ more)) else Unended)) ended

-- the lines behind a size decide
size_follows : (line : Line) (size : Size) (at : ℕ) → size_of_words (words_of line.text) ≡ Some size → line.ended ≡ true → at ≡ length (line_bytes line)
    → Follows of_script (line ∷ []) [] (of_rest size at)
size_follows line size at is ended place =
    let opens = λ (more : List Line) (b : Bool). if b then Opened (script_after (length (line_bytes line)) size more) else Unended in
    record {
      writes = λ more. ap (λ o. capture_of_opening encoder_frames (opening_by line o more)) is ∙ ap (λ b. capture_of_opening encoder_frames (opens more b)) ended
          ∙ ap (λ n. text_after size n more) (sym place);
      so_far = λ more. so_far_by line size more is ended ∙ ap (λ n. so_far_after size n more) (sym place);
      refuses = λ more. ap (λ o. refusal_of (opening_by line o more)) is ∙ ap (λ b. refusal_of (opens more b)) ended ∙ ap (λ n. (script_after n size more).refusal) (sym place);
    }

first_none : (line : Line) (more : List Line) → size_of_words (words_of line.text) ≡ None → text_of_first (line ∷ more) ≡ broken_line 1 size_rule
first_none line [] is = ap (λ o. text_of_opening (opening_by line o [])) is
first_none line (second ∷ more) is = ap (λ o. capture_of_opening encoder_frames (opening_by line o (second ∷ more))) is

-- a first line that gives no size is refused
unsized : (line : Line) (more : List Line) → size_of_words (words_of line.text) ≡ None → Ends of_script (line ∷ more) (broken_line 1 size_rule) (refusal_at 1 size_rule)
unsized line more is = record {
  writes = ap (λ o. capture_of_opening encoder_frames (opening_by line o more)) is;
  so_far = first_none line more is;
  refuses = ap (λ o. refusal_of (opening_by line o more)) is;
}

first_unended : (line : Line) (size : Size) (more : List Line) → size_of_words (words_of line.text) ≡ Some size → line.ended ≡ false
    → text_of_first (line ∷ more) ≡ broken_line 1 text_rule
first_unended line size [] is ended = ap (λ o. text_of_opening (opening_by line o [])) is
    ∙ ap (λ b. text_of_opening (if b then Opened (script_after (length (line_bytes line)) size []) else Unended)) ended
first_unended line size (second ∷ more) is ended = ap (λ o. capture_of_opening encoder_frames (opening_by line o (second ∷ more))) is
    ∙ ap (λ b. capture_of_opening encoder_frames (if b then Opened (script_after (length (line_bytes line)) size (second ∷ more)) else Unended)) ended

-- so is one that isn't ended
unended : (line : Line) (size : Size) (more : List Line) → size_of_words (words_of line.text) ≡ Some size → line.ended ≡ false
    → Ends of_script (line ∷ more) (broken_line 1 text_rule) (refusal_at 1 text_rule)
unended line size more is ended =
    let opens = λ (b : Bool). if b then Opened (script_after (length (line_bytes line)) size more) else Unended in
    record {
      writes = ap (λ o. capture_of_opening encoder_frames (opening_by line o more)) is ∙ ap (λ b. capture_of_opening encoder_frames (opens b)) ended;
      so_far = first_unended line size more is ended;
      refuses = ap (λ o. refusal_of (opening_by line o more)) is ∙ ap (λ b. refusal_of (opens b)) ended;
    }

pub captures_are_written : IsWriting captures
captures_are_written = record {
  follows = line_follows;
  breaks = line_breaks;
  ends = λ k at r run. record { writes = refl; refuses = refl };
  none = λ k at r run. refl;
  invited = invited_begins;
  solo = solo_begins;
  none_behind = λ size at. refl;
  opened = size_follows;
  unsized = unsized;
  unended = unended;
  missing = record { writes = refl; refuses = refl };
  none_at_first = refl;
}
