-- A record is written line by line.
use Rattle.std.proofs.Common.{◌≡◌, ℕ, ◌+◌, List, [], ◌∷◌, ◌++◌, length, refl, ap, sym, ◌∙◌, Some, None, Bool, true, false, append_assoc, append-nil}
use Rattle.std.specs.Prelude.{option_to_list, if◌then◌else◌}
use Rattle.std.proofs.lemmas.Grind.{flat_map-append}
use Rattle.px_core.specs.declared.surface.Size.{Size}
use Rattle.line_text.specs.Lines.{Line, line_bytes}
use Rattle.line_text.specs.Words.{words_of}
use Rattle.session_rules.specs.declared.entry.Entry.{Entry}
use Rattle.session_rules.specs.Journal.{Row}
use Rattle.session_rules.specs.Steps.{outcome, entries_from, play_at_first}
use Rattle.frame_rules.specs.Encoder.{Encoder}
use Rattle.script_rules.specs.Script.{ScriptReading, Script, Asked, LineOutcome, line_outcome, refused_at, ended_at, after_step, with_asked, proceeding, script_from}
use Rattle.script_rules.specs.Script.{opening_by, script_after, begins_with_invite, opened_reading, solo_rows, solo_join, invited_script, size_of_words, size_rule, text_rule}
use Rattle.script_rules.specs.Script.LineOutcome.{Breaks, Invites, Asks}
use Rattle.script_rules.specs.Script.Opening.{Unended, Opened}
use Rattle.script_rules.specs.CaptureText.{Run}
use Rattle.record_rules.specs.Tables.{head_bytes, entry_bytes, entries_bytes}
use Rattle.script_run.specs.Solo.{first_run, solo_reading, solo_run}
use Rattle.script_run.specs.Run.{refusal_at, refusal_of}
use Rattle.script_run.specs.Outcomes.{reading_by, run_by_outcome, BreaksNone}
use Rattle.script_run.specs.Writing.{line_text, joined, Follows, Begins, Ends, IsWriting}
use Rattle.script_run.proofs.Following.{head_stays, refused_by, size_stays, by_invite}
use Rattle.record_run.specs.Recording.{steps_asked, record_of_script, record_of_opening, may_get_rows, written_of_script, written_of_opening, written_of_first}
use Rattle.record_run.specs.Recording.{head_text, step_text, text_from, written_from}
use Rattle.record_run.specs.Reading.{records, of_script, of_rest, of_lines, so_far_after}

either_same : {A : Type 0} (b : Bool) (t : A) → (if b then t else t) ≡ t
either_same true t = refl
either_same false t = refl

entries_more : (xs ys : List Entry) → entries_bytes (xs ++ ys) ≡ entries_bytes xs ++ entries_bytes ys
entries_more xs ys = flat_map-append entry_bytes xs ys

-- ---- one line

asked_text : (r : ScriptReading) (a : Asked) (s : Script) → s.head ≡ r.head → text_from r (with_asked a s) ≡ step_text r a.step ++ text_from (after_step r a.step) s
asked_text r a s is =
    let first = option_to_list (outcome r.head r.play a.step).entry in
    let others = entries_from s.head (outcome r.head r.play a.step).play (steps_asked s.asked) in
    ap (λ h. (if r.begun then [] else head_bytes s.head) ++ entries_bytes (option_to_list (outcome h r.play a.step).entry ++ entries_from s.head (outcome h r.play a.step).play (steps_asked s.asked))) is
    ∙ ap (λ h. (if r.begun then [] else head_bytes h) ++ entries_bytes (first ++ others)) is
    ∙ ap (λ t. head_text r ++ t) (entries_more first others)
    ∙ sym (append_assoc (head_text r) (entries_bytes first) (entries_bytes others))

-- what stands first of the lines behind a step
text_by : (r : ScriptReading) (run : Run Encoder) (k : ℕ) (o : LineOutcome) (others : ScriptReading → Script) → BreaksNone o
    → ((next : ScriptReading) → next.begun ≡ true → (others next).head ≡ next.head)
    → text_from r (proceeding r k o others) ≡ line_text records k r run o ++ text_from (reading_by r o) (others (reading_by r o))
text_by r run k (Breaks rule) others none heads = absurd none
text_by r run k (Invites row) others none heads = refl
text_by r run k (Asks a) others none heads = asked_text r a (others (after_step r a.step)) (heads (after_step r a.step) refl)

written_by : (r : ScriptReading) (run : Run Encoder) (k : ℕ) (o : LineOutcome) (others : ScriptReading → Script) → BreaksNone o
    → ((next : ScriptReading) → next.begun ≡ true → (others next).head ≡ next.head)
    → written_from r (proceeding r k o others) ≡ line_text records k r run o ++ written_from (reading_by r o) (others (reading_by r o))
written_by r run k (Breaks rule) others none heads = absurd none
written_by r run k (Invites row) others none heads = refl
written_by r run k (Asks a) others none heads =
    let s = others (after_step r a.step) in either_same r.begun (text_from r (with_asked a s)) ∙ asked_text r a s (heads (after_step r a.step) refl)

-- a line that breaks no rule is done, and then those behind it
line_follows : (line : Line) (k at next_at : ℕ) (r : ScriptReading) (run : Run Encoder) (o : LineOutcome) → line_outcome at r line ≡ o → BreaksNone o
    → next_at ≡ at + length (line_bytes line) → Follows (of_lines k at r run) (line ∷ []) (line_text records k r run o) (of_lines (k + 1) next_at (reading_by r o) (run_by_outcome r.head run o))
line_follows line k at next_at r run o is none place =
    let others = λ (n : ℕ) (more : List Line) (next : ScriptReading). script_from (k + 1) n next more in
    let here = at + length (line_bytes line) in
    record {
      writes = λ more. ap (λ p. text_from r (proceeding r k p (others here more))) is ∙ ap (λ n. text_from r (proceeding r k o (others n more))) (sym place)
          ∙ text_by r run k o (others next_at more) none (λ next. head_stays (k + 1) next_at next more);
      so_far = λ more. ap (λ p. written_from r (proceeding r k p (others here more))) is ∙ ap (λ n. written_from r (proceeding r k o (others n more))) (sym place)
          ∙ written_by r run k o (others next_at more) none (λ next. head_stays (k + 1) next_at next more);
      refuses = λ more. ap (λ p. (proceeding r k p (others here more)).refusal) is ∙ ap (λ n. (proceeding r k o (others n more)).refusal) (sym place)
          ∙ refused_by r k o (others next_at more) none;
    }

-- a line that breaks a rule ends the script, and the record
line_breaks : (line : Line) (more : List Line) (k at rule : ℕ) (r : ScriptReading) (run : Run Encoder) → line_outcome at r line ≡ Breaks rule
    → Ends (of_lines k at r run) (line ∷ more) (head_text r) (refusal_at k rule)
line_breaks line more k at rule r run is =
    let others = λ (next : ScriptReading). script_from (k + 1) (at + length (line_bytes line)) next more in
    let ends : text_from r (refused_at r k rule) ≡ head_text r = append-nil (head_text r) in
    record {
      writes = ap (λ p. text_from r (proceeding r k p others)) is ∙ ends;
      so_far = ap (λ p. written_from r (proceeding r k p others)) is ∙ either_same r.begun (text_from r (refused_at r k rule)) ∙ ends;
      refuses = ap (λ p. (proceeding r k p others).refusal) is;
    }

-- before any line nothing is written
none_written : (r : ScriptReading) → written_from r (ended_at r) ≡ []
none_written r = by r.begun
  where
    by : (b : Bool) → (if b then (if b then [] else head_bytes r.head) ++ [] else []) ≡ []
    by true = refl
    by false = refl

-- ---- behind the first line

-- a whole script's record is what it writes from its size on
whole_text : (size : Size) (rows : List Row) (s : Script) → s.head.size ≡ size → record_of_script s ≡ text_from (opened_reading size rows) s
whole_text size rows s is = ap (λ z. head_bytes s.head ++ entries_bytes (entries_from s.head (play_at_first z) (steps_asked s.asked))) is

-- the lines behind a size, of which the first is an invite
invited_begins : (size : Size) (at : ℕ) (lines : List Line) → begins_with_invite at lines ≡ true
    → Begins (of_rest size at) lines [] (of_lines 2 at (opened_reading size []) (first_run size))
invited_begins size at lines is =
    let s = invited_script at size lines in
    let whole = whole_text size [] s (size_stays 2 at (opened_reading size []) lines) in
    let after = by_invite size at lines true is in
    record {
      writes = ap record_of_script after ∙ whole;
      so_far = λ line more e. ap (so_far_after size at) e ∙ ap (λ ls. written_of_script (script_after at size ls)) (sym e)
          ∙ ap written_of_script after ∙ ap (λ t. if may_get_rows s then [] else t) whole;
      refuses = ap (λ t. t.refusal) after;
    }

-- or isn't
solo_begins : (size : Size) (at : ℕ) (lines : List Line) → begins_with_invite at lines ≡ false
    → Begins (of_rest size at) lines (joined records size) (of_lines 2 at (solo_reading size) (solo_run size))
solo_begins size at lines is =
    let s = script_from 2 at (solo_reading size) lines in
    let head : s.head ≡ (solo_reading size).head = head_stays 2 at (solo_reading size) lines refl in
    let whole = whole_text size (solo_reading size).head.rows (with_asked solo_join s) (ap (λ h. h.size) head) ∙ asked_text (opened_reading size solo_rows) solo_join s head in
    let after = by_invite size at lines false is in
    record {
      writes = ap record_of_script after ∙ whole;
      so_far = λ line more e. ap (so_far_after size at) e ∙ ap (λ ls. written_of_script (script_after at size ls)) (sym e) ∙ ap written_of_script after ∙ whole;
      refuses = ap (λ t. t.refusal) after;
    }

-- ---- the first line

so_far_by : (line : Line) (size : Size) (more : List Line) → size_of_words (words_of line.text) ≡ Some size → line.ended ≡ true
    → written_of_first (line ∷ more) ≡ so_far_after size (length (line_bytes line)) more
so_far_by line size [] is ended = refl
so_far_by line size (second ∷ more) is ended = ap (λ o. written_of_opening (opening_by line o (second ∷ more))) is
    ∙ ap (λ b. written_of_opening (if b then Opened (script_after (length (line_bytes line)) size (second ∷ more)) else Unended)) ended

-- the lines behind a size decide
size_follows : (line : Line) (size : Size) (at : ℕ) → size_of_words (words_of line.text) ≡ Some size → line.ended ≡ true → at ≡ length (line_bytes line)
    → Follows of_script (line ∷ []) [] (of_rest size at)
size_follows line size at is ended place =
    let opens = λ (more : List Line) (b : Bool). if b then Opened (script_after (length (line_bytes line)) size more) else Unended in
    record {
      writes = λ more. ap (λ o. record_of_opening (opening_by line o more)) is ∙ ap (λ b. record_of_opening (opens more b)) ended
          ∙ ap (λ n. record_of_script (script_after n size more)) (sym place);
      so_far = λ more. so_far_by line size more is ended ∙ ap (λ n. so_far_after size n more) (sym place);
      refuses = λ more. ap (λ o. refusal_of (opening_by line o more)) is ∙ ap (λ b. refusal_of (opens more b)) ended
          ∙ ap (λ n. (script_after n size more).refusal) (sym place);
    }

first_none : (line : Line) (more : List Line) → size_of_words (words_of line.text) ≡ None → written_of_first (line ∷ more) ≡ []
first_none line [] is = refl
first_none line (second ∷ more) is = ap (λ o. written_of_opening (opening_by line o (second ∷ more))) is

-- a first line that gives no size is refused
unsized : (line : Line) (more : List Line) → size_of_words (words_of line.text) ≡ None → Ends of_script (line ∷ more) [] (refusal_at 1 size_rule)
unsized line more is = record {
  writes = ap (λ o. record_of_opening (opening_by line o more)) is;
  so_far = first_none line more is;
  refuses = ap (λ o. refusal_of (opening_by line o more)) is;
}

first_unended : (line : Line) (size : Size) (more : List Line) → size_of_words (words_of line.text) ≡ Some size → line.ended ≡ false → written_of_first (line ∷ more) ≡ []
first_unended line size [] is ended = refl
first_unended line size (second ∷ more) is ended = ap (λ o. written_of_opening (opening_by line o (second ∷ more))) is
    ∙ ap (λ b. written_of_opening (if b then Opened (script_after (length (line_bytes line)) size (second ∷ more)) else Unended)) ended

-- so is one that isn't ended
unended : (line : Line) (size : Size) (more : List Line) → size_of_words (words_of line.text) ≡ Some size → line.ended ≡ false
    → Ends of_script (line ∷ more) [] (refusal_at 1 text_rule)
unended line size more is ended =
    let opens = λ (b : Bool). if b then Opened (script_after (length (line_bytes line)) size more) else Unended in
    record {
      writes = ap (λ o. record_of_opening (opening_by line o more)) is ∙ ap (λ b. record_of_opening (opens b)) ended;
      so_far = first_unended line size more is ended;
      refuses = ap (λ o. refusal_of (opening_by line o more)) is ∙ ap (λ b. refusal_of (opens b)) ended;
    }

pub records_are_written : IsWriting records
records_are_written = record {
  follows = line_follows;
  breaks = line_breaks;
  ends = λ k at r run. record { writes = append-nil (head_text r); refuses = refl };
  none = λ k at r run. none_written r;
  invited = invited_begins;
  solo = solo_begins;
  none_behind = λ size at. refl;
  opened = size_follows;
  unsized = unsized;
  unended = unended;
  missing = record { writes = refl; refuses = refl };
  none_at_first = refl;
}
