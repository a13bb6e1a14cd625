-- A script's first line was found.
use Rattle.std.proofs.Common.{◌≡◌, ℕ, suc, ◌+◌, ◌^◌, ◌<◌, ◌≤◌, List, [], ◌∷◌, ◌++◌, length, refl, ap, sym, ◌∙◌, subst, Some, None, Bool, true, false, arith}
use Rattle.std.proofs.Common.{length-append, position, ◌⊎◌, inl, inr}
use Rattle.std.specs.Prelude.{Option, IsTrue, IfSome, codes, ◌==◌, if◌then◌else◌}
use Rattle.std.specs.Bool.{then_some}
use Rattle.std.specs.Option.{option_and_then}
use Rattle.std.specs.Io.KnownBytes.{IsAtEnd, Consumes, Appends}
use Rattle.std.proofs.KnownBytes.{Appends-nil}
use Rattle.std.proofs.lemmas.Bool.{and_parts}
use Rattle.std.proofs.lemmas.Bool.Decides.{nat_tests}
use Rattle.px_core.specs.declared.surface.Size.{Size}
use Rattle.px_core.specs.Rectangle.{is_session_size}
use Rattle.line_text.specs.Lines.{Line, line_bytes, lines_of, is_past_limits}
use Rattle.line_text.specs.Words.{words_of, is_same_word}
use Rattle.line_text.specs.Numbers.{number_of}
use Rattle.line_text.proofs.NumberLemmas.{number_is_short, length-three_words}
use Rattle.edge_io.specs.Reading.{new_reading, HandsOut, IsPastLimits, first_is_past}
use Rattle.edge_io.specs.declared.reader.Found.{Found}
use Rattle.edge_io.specs.Finding.{Finds, FindsLine}
use Rattle.edge_io.specs.declared.reader.Found.TheVariants as found
use Rattle.script_rules.specs.Script.{size_rule, text_rule, size_with, size_of_words}
use Rattle.script_run.specs.declared.opening.FirstLine.{FirstLine}
use Rattle.script_run.specs.Run.{Tells, refusal_at}
use Rattle.script_run.specs.Writing.{Writing, Ends, RefusesFirst, IsWriting}
use Rattle.script_run.specs.Reading.{Moment, ahead_of, StopsReading, Opens, first_of}
use Rattle.script_run.proofs.Taken.{line_taken, none_taken}

-- ---- a line that gives a size is short

same_length : (a b : List ℕ) → is_same_word a b ≡ true → length a ≡ length b
same_length [] [] e = refl
same_length [] (b ∷ bs) e = absurd (cc e)
same_length (a ∷ xs) [] e = absurd (cc e)
same_length (a ∷ xs) (b ∷ ys) e = ap suc (same_length xs ys (and_parts (a == b) (is_same_word xs ys) e).1)

has_size : (m n : ℕ) (size : Size) (test : Bool) → is_session_size m n ≡ test → then_some test (record { w = m; h = n }) ≡ Some size
    → IsTrue (is_session_size m n)
has_size m n size true is e = is
has_size m n size false is e = absurd (cc e)

short_sides : (w h : List ℕ) (m n : ℕ) → number_of w ≡ Some m → number_of h ≡ Some n → IsTrue (is_session_size m n) → length w + length h ≤ 8
short_sides w h m n first second size =
    let few : m < 10 ^ 4 = grind (arith, nat_tests, size) in
    let low : n < 10 ^ 4 = grind (arith, nat_tests, size) in
    omega (arith, number_is_short w m 3 first few, number_is_short h n 3 second low)

sides_of : (w h : List ℕ) (size : Size) (first second : Option ℕ) → number_of w ≡ first → number_of h ≡ second
    → option_and_then (λ m. option_and_then (λ n. size_with m n) second) first ≡ Some size → length w + length h ≤ 8
sides_of w h size None second a b e = absurd (cc e)
sides_of w h size (Some m) None a b e = absurd (cc e)
sides_of w h size (Some m) (Some n) a b e = short_sides w h m n a b (has_size m n size (is_session_size m n) refl e)

three_words : (word w h : List ℕ) (size : Size) (test : Bool) → is_same_word word (codes "size") ≡ test →
    (if test then option_and_then (λ m. option_and_then (λ n. size_with m n) (number_of h)) (number_of w) else None) ≡ Some size → length word + length w +
    length h ≤ 12
three_words word w h size true same e = omega (arith, same_length word (codes "size") same, sides_of w h size (number_of w) (number_of h) refl refl e)
three_words word w h size false same e = absurd (cc e)

is_short : (text : List ℕ) (words : List (List ℕ)) (size : Size) → words_of text ≡ words → size_of_words words ≡ Some size → length text ≤ 14
is_short text [] size is e = absurd (cc e)
is_short text (a ∷ []) size is e = absurd (cc e)
is_short text (a ∷ b ∷ []) size is e = absurd (cc e)
is_short text (a ∷ b ∷ c ∷ []) size is e = omega (arith, length-three_words text a b c is, three_words a b c size (is_same_word a (codes "size")) refl e)
is_short text (a ∷ b ∷ c ∷ d ∷ words) size is e = absurd (cc e)

short_within : (text : List ℕ) (ended : Bool) → length text ≤ 14 → is_past_limits 0 (record { text = text; ended = ended }) ≡ false
short_within text true short =
    let whole : length (text ++ 10 ∷ []) ≤ 15 = omega (arith, short, length-append text (10 ∷ [])) in grind (arith, nat_tests, short, whole)
short_within text false short = let whole : length (text ++ []) ≤ 14 = omega (arith, short, length-append text []) in grind (arith, nat_tests, short, whole)

past_gives_none : (line : Line) (o : Option Size) → size_of_words (words_of line.text) ≡ o → is_past_limits 0 line ≡ true → o ≡ None
past_gives_none line None is past = refl
past_gives_none line (Some size) is past = absurd (cc (past, short_within line.text line.ended (is_short line.text (words_of line.text) size refl is)))

-- ---- what the first line gives

pub refuses_first : (made : Writing) (line : Line) (more : List Line) (broken : ℕ)
    → ((lines : List Line) → Ends made.script (line ∷ lines) (made.first broken) (refusal_at 1 broken)) → RefusesFirst made (line ∷ more) broken
refuses_first made line more broken ends = record { writes = (ends more).writes; next = (ends []).so_far; refuses = (ends more).refuses }

no_size : (made : Writing) (laws : IsWriting made) (before now : Option (List ℕ)) (line : Line) → HandsOut before now (line ∷ []) → size_of_words (words_of line.text) ≡ None
    → Tells before (λ bytes. RefusesFirst made (lines_of bytes) size_rule)
no_size made laws None now line hands none = tt
no_size made laws (Some bytes) None line hands none = absurd hands
no_size made laws (Some bytes) (Some left) line hands none = subst (λ ls. RefusesFirst made ls size_rule) (sym hands)
    (refuses_first made line (lines_of left) size_rule (λ lines. laws.unsized line lines none))

unended : (made : Writing) (laws : IsWriting made) (before now : Option (List ℕ)) (line : Line) (size : Size) → HandsOut before now (line ∷ [])
    → size_of_words (words_of line.text) ≡ Some size → line.ended ≡ false → Tells before (λ bytes. RefusesFirst made (lines_of bytes) text_rule)
unended made laws None now line size hands is open_end = tt
unended made laws (Some bytes) None line size hands is open_end = absurd hands
unended made laws (Some bytes) (Some left) line size hands is open_end = subst (λ ls. RefusesFirst made ls text_rule) (sym hands)
    (refuses_first made line (lines_of left) text_rule (λ lines. laws.unended line size lines is open_end))

line_opens : (made : Writing) (laws : IsWriting made) (o : Option Size) (ended : Bool) (text : List ℕ) (before now : Moment) → size_of_words (words_of text) ≡ o
    → IfSome o (λ size. IsTrue (is_session_size size.w size.h)) → Consumes (ahead_of before) (ahead_of now) (line_bytes (record { text = text; ended = ended }))
    → HandsOut (ahead_of before) (ahead_of now) (record { text = text; ended = ended } ∷ []) → now.told ≡ before.told
    → now.reading.at ≡ length (line_bytes (record { text = text; ended = ended })) → Opens made (first_of o ended) before now
line_opens made laws None ended text before now is range consumes hands same whole =
    no_size made laws (ahead_of before) (ahead_of now) (record { text = text; ended = ended }) hands is
line_opens made laws (Some size) true text before now is range consumes hands same whole = (
  range,
  record {
    lines = record { text = text; ended = true } ∷ [];
    text = [];
    takes = line_taken (ahead_of before) (ahead_of now) text consumes hands;
    follows = laws.opened (record { text = text; ended = true }) size now.reading.at is refl whole;
    written = subst (λ t. Appends before.told t []) (sym same) (Appends-nil before.told);
  },
)
line_opens made laws (Some size) false text before now is range consumes hands same whole =
    unended made laws (ahead_of before) (ahead_of now) (record { text = text; ended = false }) size hands is refl

past_gives : (made : Writing) (laws : IsWriting made) (lines : List Line) → first_is_past 0 lines ≡ true → RefusesFirst made lines size_rule
past_gives made laws [] past = absurd (cc past)
past_gives made laws (line ∷ lines) past =
    let none : size_of_words (words_of line.text) ≡ None = past_gives_none line (size_of_words (words_of line.text)) refl past in
    refuses_first made line lines size_rule (λ more. laws.unsized line more none)

past_opens : (made : Writing) (laws : IsWriting made) (before : Option (List ℕ)) → IsPastLimits 0 before → Tells before (λ bytes. RefusesFirst made (lines_of bytes) size_rule)
past_opens made laws None past = tt
past_opens made laws (Some bytes) past = past_gives made laws (lines_of bytes) past

no_lines : (made : Writing) (laws : IsWriting made) → RefusesFirst made [] size_rule
no_lines made laws = record { writes = laws.missing.writes; next = laws.missing.writes; refuses = laws.missing.refuses }

end_opens : (made : Writing) (laws : IsWriting made) (before : Option (List ℕ)) → IsAtEnd before → Tells before (λ bytes. RefusesFirst made (lines_of bytes) size_rule)
end_opens made laws None end = tt
end_opens made laws (Some bytes) end = subst (λ b. RefusesFirst made (lines_of b) size_rule) (sym end) (no_lines made laws)

-- what was found gives a rule that the first line breaks
pub none_opens : (made : Writing) (laws : IsWriting made) (f : Found) (before now : Moment) → Finds f before.reading now.reading (ahead_of before) (ahead_of now)
    → before.reading ≡ new_reading → (f ≡ found.PastLimits) ⊎ (f ≡ found.End) → Tells (ahead_of before) (λ bytes. RefusesFirst made (lines_of bytes) size_rule)
none_opens made laws (found.Line ended) before now finds first (inl e) = absurd (cc e)
none_opens made laws (found.Line ended) before now finds first (inr e) = absurd (cc e)
none_opens made laws found.PastLimits before now finds first which =
    past_opens made laws (ahead_of before) (subst (λ n. IsPastLimits n (ahead_of before)) (ap (λ r. r.at) first) finds.1)
none_opens made laws found.End before now finds first which = end_opens made laws (ahead_of before) finds.1
none_opens made laws found.Failed before now finds first (inl e) = absurd (cc e)
none_opens made laws found.Failed before now finds first (inr e) = absurd (cc e)

-- nothing was found, since the source failed
pub failed_opens : (made : Writing) (laws : IsWriting made) (f : Found) (before now : Moment) → Finds f before.reading now.reading (ahead_of before) (ahead_of now)
    → f ≡ found.Failed → now.told ≡ before.told → (f ≡ found.Failed → position (λ b. b == 10) now.reading.held ≡ None) → StopsReading made.script before now
failed_opens made laws f before now finds is same part =
    let none = subst (λ x. Finds x before.reading now.reading (ahead_of before) (ahead_of now)) is finds in
    let nothing : Appends before.told now.told [] = subst (λ t. Appends before.told t []) (sym same) (Appends-nil before.told) in
    record {
      lines = [];
      takes = none_taken (ahead_of before) (ahead_of now) none.keeps;
      written = subst (Appends before.told now.told) (sym laws.none_at_first) nothing;
      part = part is;
    }

-- what was found gives a size, or breaks a rule
pub found_opens : (made : Writing) (laws : IsWriting made) (f : Found) (ended : Bool) (o : Option Size) (answer : FirstLine) (text : List ℕ) (before now : Moment)
    → f ≡ found.Line ended → Finds f before.reading now.reading (ahead_of before) (ahead_of now) → before.reading ≡ new_reading → text ≡ now.reading.text
    → o ≡ size_of_words (words_of text) → IfSome o (λ size. IsTrue (is_session_size size.w size.h)) → answer ≡ first_of o ended → now.told ≡ before.told
    → Opens made answer before now
found_opens made laws f ended o answer text before now is finds first same form range gives told =
    let line : FindsLine before.reading now.reading (ahead_of before) (ahead_of now) (record { text = now.reading.text; ended = ended })
    = subst (λ x. Finds x before.reading now.reading (ahead_of before) (ahead_of now)) is finds in
    subst (λ a. Opens made a before now) (sym gives)
    (line_opens made laws o ended now.reading.text before now (sym (ap (λ t. size_of_words (words_of t)) same) ∙ sym form) range line.takes.consumes line.takes.hands_out
    told (omega (arith, line.at, ap (λ r. r.at) first)))
