-- What is written line by line grows with each line.
use Rattle.std.proofs.Common.{◌≡◌, ℕ, ◌+◌, List, [], ◌∷◌, ◌++◌, length, refl, sym, ◌∙◌, subst, Some, None, Bool, true, false, append_assoc, append-nil}
use Rattle.std.specs.Prelude.{Option}
use Rattle.px_core.specs.declared.surface.Size.{Size}
use Rattle.line_text.specs.Lines.{Line, line_bytes}
use Rattle.line_text.specs.Words.{words_of}
use Rattle.frame_rules.specs.Encoder.{Encoder}
use Rattle.script_rules.specs.Script.{ScriptReading, LineOutcome, line_outcome, begins_with_invite, size_of_words, size_rule, text_rule}
use Rattle.script_rules.specs.Script.LineOutcome.{Breaks, Invites, Asks}
use Rattle.script_rules.specs.CaptureText.{Run}
use Rattle.headline.specs.Fronts.{IsFront}
use Rattle.script_run.specs.Outcomes.{reading_by, run_by_outcome}
use Rattle.script_run.specs.Writing.{ByLines, Writing, line_text, joined, Begins, IsSteady, IsWriting, with_next}
use Rattle.script_run.proofs.Fronts.{nothing_is_front, whole_is_front, front_behind, front_of_front}

-- nothing is a front
none_is_front : (front text : List ℕ) → front ≡ [] → IsFront front text
none_is_front front text none = subst (λ t. IsFront t text) (sym none) (nothing_is_front text)

same_is_front : (front text whole : List ℕ) → front ≡ text → whole ≡ text → IsFront front whole
same_is_front front text whole a b = subst (λ t. IsFront t whole) (b ∙ sym a) (whole_is_front whole)

behind_is_front : (text front whole all more : List ℕ) → all ≡ text ++ front → more ≡ text ++ whole → IsFront front whole → IsFront all more
behind_is_front text front whole all more a b f =
    subst (λ t. IsFront t more) (sym a) (subst (IsFront (text ++ front)) (sym b) (front_behind text front whole f))

-- ---- the lines from one on

grows_by : (made : Writing) (laws : IsWriting made) (line : Line) (lines more : List Line) (k at : ℕ) (r : ScriptReading) (run : Run Encoder) (o : LineOutcome)
    → line_outcome at r line ≡ o
    → ((next_at : ℕ) (next : ScriptReading) (later : Run Encoder)
    → IsFront ((made.from (k + 1) next_at next later).so_far lines) ((made.from (k + 1) next_at next later).so_far (lines ++ more)))
    → IsFront ((made.from k at r run).so_far (line ∷ lines)) ((made.from k at r run).so_far (line ∷ lines ++ more))
grows_by made laws line lines more k at r run (Breaks rule) is rest =
    same_is_front _ (made.broken k r rule) _ (laws.breaks line lines k at rule r run is).so_far (laws.breaks line (lines ++ more) k at rule r run is).so_far
grows_by made laws line lines more k at r run (Invites row) is rest =
    let next_at = at + length (line_bytes line) in
    let f = laws.follows line k at next_at r run (Invites row) is tt refl in
    behind_is_front [] _ _ _ _ (f.so_far lines) (f.so_far (lines ++ more)) (rest next_at (reading_by r (Invites row)) (run_by_outcome r.head run (Invites row)))
grows_by made laws line lines more k at r run (Asks a) is rest =
    let next_at = at + length (line_bytes line) in
    let f = laws.follows line k at next_at r run (Asks a) is tt refl in
    behind_is_front (line_text made k r run (Asks a)) _ _ _ _ (f.so_far lines) (f.so_far (lines ++ more))
    (rest next_at (reading_by r (Asks a)) (run_by_outcome r.head run (Asks a)))

grows : (made : Writing) (laws : IsWriting made) (lines more : List Line) (k at : ℕ) (r : ScriptReading) (run : Run Encoder)
    → IsFront ((made.from k at r run).so_far lines) ((made.from k at r run).so_far (lines ++ more))
grows made laws [] more k at r run = none_is_front _ _ (laws.none k at r run)
grows made laws (line ∷ lines) more k at r run = grows_by made laws line lines more k at r run (line_outcome at r line) refl
    (λ next_at next later. grows made laws lines more (k + 1) next_at next later)

ends_by : (made : Writing) (laws : IsWriting made) (line : Line) (lines : List Line) (k at : ℕ) (r : ScriptReading) (run : Run Encoder) (o : LineOutcome)
    → line_outcome at r line ≡ o
    → ((next_at : ℕ) (next : ScriptReading) (later : Run Encoder)
    → IsFront ((made.from (k + 1) next_at next later).so_far lines) ((made.from (k + 1) next_at next later).writes lines))
    → IsFront ((made.from k at r run).so_far (line ∷ lines)) ((made.from k at r run).writes (line ∷ lines))
ends_by made laws line lines k at r run (Breaks rule) is rest =
    let b = laws.breaks line lines k at rule r run is in same_is_front _ (made.broken k r rule) _ b.so_far b.writes
ends_by made laws line lines k at r run (Invites row) is rest =
    let next_at = at + length (line_bytes line) in
    let f = laws.follows line k at next_at r run (Invites row) is tt refl in
    behind_is_front [] _ _ _ _ (f.so_far lines) (f.writes lines) (rest next_at (reading_by r (Invites row)) (run_by_outcome r.head run (Invites row)))
ends_by made laws line lines k at r run (Asks a) is rest =
    let next_at = at + length (line_bytes line) in
    let f = laws.follows line k at next_at r run (Asks a) is tt refl in
    behind_is_front (line_text made k r run (Asks a)) _ _ _ _ (f.so_far lines) (f.writes lines)
    (rest next_at (reading_by r (Asks a)) (run_by_outcome r.head run (Asks a)))

ends : (made : Writing) (laws : IsWriting made) (lines : List Line) (k at : ℕ) (r : ScriptReading) (run : Run Encoder)
    → IsFront ((made.from k at r run).so_far lines) ((made.from k at r run).writes lines)
ends made laws [] k at r run = none_is_front _ _ (laws.none k at r run)
ends made laws (line ∷ lines) k at r run = ends_by made laws line lines k at r run (line_outcome at r line) refl
    (λ next_at next later. ends made laws lines (k + 1) next_at next later)

pub steady_lines : (made : Writing) (laws : IsWriting made) (k at : ℕ) (r : ScriptReading) (run : Run Encoder) → IsSteady (made.from k at r run)
steady_lines made laws k at r run = record {
  none = laws.none k at r run;
  grows = λ lines more. grows made laws lines more k at r run;
  ends = λ lines. ends made laws lines k at r run;
}

-- ---- behind the first line

begun_grows : (whole rest : ByLines) (line : Line) (lines more : List Line) (text : List ℕ) → IsSteady rest → Begins whole (line ∷ lines) text rest
    → Begins whole (line ∷ lines ++ more) text rest → IsFront (whole.so_far (line ∷ lines)) (whole.so_far (line ∷ lines ++ more))
begun_grows whole rest line lines more text s b c =
    behind_is_front text _ _ _ _ (b.so_far line lines refl) (c.so_far line (lines ++ more) refl) (s.grows (line ∷ lines) more)

begun_ends : (whole rest : ByLines) (line : Line) (lines : List Line) (text : List ℕ) → IsSteady rest → Begins whole (line ∷ lines) text rest
    → IsFront (whole.so_far (line ∷ lines)) (whole.writes (line ∷ lines))
begun_ends whole rest line lines text s b = behind_is_front text _ _ _ _ (b.so_far line lines refl) b.writes (s.ends (line ∷ lines))

rest_grows : (made : Writing) (laws : IsWriting made) (size : Size) (at : ℕ) (lines more : List Line)
    → IsFront ((made.rest size at).so_far lines) ((made.rest size at).so_far (lines ++ more))
rest_grows made laws size at [] more = none_is_front _ _ (laws.none_behind size at)
rest_grows made laws size at (line ∷ lines) more = by (begins_with_invite at (line ∷ lines)) refl
  where
    by : (b : Bool) → begins_with_invite at (line ∷ lines) ≡ b → IsFront ((made.rest size at).so_far (line ∷ lines)) ((made.rest size at).so_far (line ∷ lines ++ more))
    by true is = begun_grows (made.rest size at) _ line lines more [] (steady_lines made laws _ _ _ _)
        (laws.invited size at (line ∷ lines) is) (laws.invited size at (line ∷ lines ++ more) is)
    by false is = begun_grows (made.rest size at) _ line lines more (joined made size) (steady_lines made laws _ _ _ _)
        (laws.solo size at (line ∷ lines) is) (laws.solo size at (line ∷ lines ++ more) is)

rest_ends : (made : Writing) (laws : IsWriting made) (size : Size) (at : ℕ) (lines : List Line)
    → IsFront ((made.rest size at).so_far lines) ((made.rest size at).writes lines)
rest_ends made laws size at [] = none_is_front _ _ (laws.none_behind size at)
rest_ends made laws size at (line ∷ lines) = by (begins_with_invite at (line ∷ lines)) refl
  where
    by : (b : Bool) → begins_with_invite at (line ∷ lines) ≡ b → IsFront ((made.rest size at).so_far (line ∷ lines)) ((made.rest size at).writes (line ∷ lines))
    by true is = begun_ends (made.rest size at) _ line lines [] (steady_lines made laws _ _ _ _) (laws.invited size at (line ∷ lines) is)
    by false is = begun_ends (made.rest size at) _ line lines (joined made size) (steady_lines made laws _ _ _ _) (laws.solo size at (line ∷ lines) is)

pub steady_rest : (made : Writing) (laws : IsWriting made) (size : Size) (at : ℕ) → IsSteady (made.rest size at)
steady_rest made laws size at = record {
  none = laws.none_behind size at;
  grows = λ lines more. rest_grows made laws size at lines more;
  ends = λ lines. rest_ends made laws size at lines;
}

-- ---- a whole script

opened_front : (made : Writing) (laws : IsWriting made) (line : Line) (lines more : List Line) (o : Option Size) → size_of_words (words_of line.text) ≡ o
    → IsFront (made.script.so_far (line ∷ lines)) (made.script.writes (line ∷ lines ++ more))
opened_front made laws line lines more None is =
    same_is_front _ (made.first size_rule) _ (laws.unsized line lines is).so_far (laws.unsized line (lines ++ more) is).writes
opened_front made laws line lines more (Some size) is = by line.ended refl
  where
    by : (b : Bool) → line.ended ≡ b → IsFront (made.script.so_far (line ∷ lines)) (made.script.writes (line ∷ lines ++ more))
    by false ended =
        same_is_front _ (made.first text_rule) _ (laws.unended line size lines is ended).so_far (laws.unended line size (lines ++ more) is ended).writes
    by true ended =
        let at = length (line_bytes line) in
        let f = laws.opened line size at is ended refl in
        let s = steady_rest made laws size at in
        behind_is_front [] _ _ _ _ (f.so_far lines) (f.writes (lines ++ more))
        (front_of_front ((made.rest size at).so_far lines) ((made.rest size at).so_far (lines ++ more)) ((made.rest size at).writes (lines ++ more))
        (s.grows lines more) (s.ends (lines ++ more)))

-- what the first lines of a script have written is a front of what all write
pub script_front : (made : Writing) (laws : IsWriting made) (lines more : List Line) → IsFront (made.script.so_far lines) (made.script.writes (lines ++ more))
script_front made laws [] more = none_is_front _ _ laws.none_at_first
script_front made laws (line ∷ lines) more = opened_front made laws line lines more (size_of_words (words_of line.text)) refl

-- so is what they have written with the next one, or with the end
pub next_front : (made : Writing) (laws : IsWriting made) (done rest : List Line) → IsFront (with_next made.script done rest) (made.script.writes (done ++ rest))
next_front made laws done [] =
    subst (λ ls. IsFront (made.script.writes done) (made.script.writes ls)) (sym (append-nil done)) (whole_is_front (made.script.writes done))
next_front made laws done (next ∷ lines) =
    subst (λ ls. IsFront (made.script.so_far (done ++ next ∷ [])) (made.script.writes ls)) (append_assoc done (next ∷ []) lines)
    (script_front made laws (done ++ next ∷ []) lines)
