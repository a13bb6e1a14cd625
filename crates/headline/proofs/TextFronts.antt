-- The bytes of a viewer in a front of a text are a front of its bytes in the text: a line that isn't ended has none.
use Rattle.std.proofs.Common.{◌≡◌, ℕ, List, [], ◌∷◌, ◌++◌, refl, ap, sym, subst, ◌∙◌, arith, Bool, true, false, append_assoc}
use Rattle.std.specs.Prelude.{◌==◌}
use Rattle.std.proofs.lemmas.Bool.Decides.{nat_tests}
use Rattle.std.proofs.lemmas.List.{append-nil}
use Rattle.std.proofs.lemmas.List.Splits.{slice_split_none}
use Rattle.line_text.specs.Lines.{line_feed, lines_of_parts, last_line}
use Rattle.script_rules.specs.Capture.{ended, bytes_of_lines, written_bytes}
use Rattle.script_rules.proofs.ReadBack.{Lacks}
use Rattle.headline.specs.Fronts.{IsFront}
use Rattle.headline.proofs.Lacking.{lacks_nil, lacks_cons, lacks_append}
use Rattle.headline.proofs.Lines.{bytes_of_text, front_line}

last_is_silent : (v : ℕ) (text : List ℕ) → bytes_of_lines v (last_line text) ≡ []
last_is_silent v [] = refl
last_is_silent v (b ∷ text) = refl

-- a text without a line feed
unended_is_silent : (v : ℕ) (text : List ℕ) → Lacks line_feed text → written_bytes v text ≡ []
unended_is_silent v text clean = ap (λ parts. bytes_of_lines v (lines_of_parts parts)) (slice_split_none (λ b. b == line_feed) text clean)
    ∙ last_is_silent v text

more_in_front : (before xs ys : List ℕ) → IsFront xs ys → IsFront (before ++ xs) (before ++ ys)
more_in_front before xs ys h = record { rest = h.rest; joined = ap (λ l. before ++ l) h.joined ∙ sym (append_assoc before xs h.rest) }

abbrev FrontIn : ℕ → List ℕ → List ℕ → Type 0
FrontIn v front rest = IsFront (written_bytes v front) (written_bytes v (front ++ rest))

-- after an ended line
line_goes_before : (v : ℕ) (text front rest : List ℕ) → Lacks line_feed text → FrontIn v front rest → FrontIn v (ended text ++ front) rest
line_goes_before v text front rest clean h =
    let at_front = front_line v text front clean in
    let at_whole = ap (written_bytes v) (append_assoc (ended text) front rest) ∙ front_line v text (front ++ rest) clean in
    subst (λ xs. IsFront xs (written_bytes v ((ended text ++ front) ++ rest))) (sym at_front)
    (subst (IsFront (bytes_of_text v text ++ written_bytes v front)) (sym at_whole)
    (more_in_front (bytes_of_text v text) (written_bytes v front) (written_bytes v (front ++ rest)) h))

same_byte : (b : ℕ) → (b == line_feed) ≡ true → b ≡ line_feed
same_byte b e = grind (arith, nat_tests, e)

-- a front that has been gone through up to a place in a line
line_by_line : (v : ℕ) (before front rest : List ℕ) → Lacks line_feed before → FrontIn v (before ++ front) rest
line_by_line v before [] rest clean =
    let none : written_bytes v (before ++ []) ≡ [] = ap (written_bytes v) (append-nil before) ∙ unended_is_silent v before clean in
    let whole = written_bytes v ((before ++ []) ++ rest) in
    subst (λ xs. IsFront xs whole) (sym none) (record { rest = whole; joined = refl })
line_by_line v before (b ∷ front) rest clean =
    by (b == line_feed) refl (line_by_line v [] front rest (lacks_nil line_feed))
    (λ other. line_by_line v (before ++ b ∷ []) front rest
    (lacks_append line_feed before (b ∷ []) clean (lacks_cons line_feed b [] other (lacks_nil line_feed))))
  where
    by : (t : Bool) → (b == line_feed) ≡ t → FrontIn v front rest → ((b == line_feed) ≡ false → FrontIn v ((before ++ b ∷ []) ++ front) rest)
        → FrontIn v (before ++ b ∷ front) rest
    by true is next on =
        let feed = same_byte b is in
        let split : ended before ++ front ≡ before ++ b ∷ front = append_assoc before (line_feed ∷ []) front ∙ ap (λ x. before ++ x ∷ front) (sym feed) in
        subst (λ text. FrontIn v text rest) split (line_goes_before v before front rest clean next)
    by false is next on = subst (λ text. FrontIn v text rest) (append_assoc before (b ∷ []) front) (on is)

pub bytes_in_front : (v : ℕ) (front rest : List ℕ) → IsFront (written_bytes v front) (written_bytes v (front ++ rest))
bytes_in_front v front rest = line_by_line v [] front rest (lacks_nil line_feed)
