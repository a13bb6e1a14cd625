-- Lines that were taken from the front of bytes.
use Rattle.std.proofs.Common.{◌≡◌, ℕ, List, [], ◌∷◌, ◌++◌, refl, ap, sym, ◌∙◌, subst, Some, None, Bool, true, false, append_assoc, append-nil, position, arith}
use Rattle.std.specs.Prelude.{Option}
use Rattle.std.specs.Io.KnownBytes.{Consumes, Keeps}
use Rattle.line_text.specs.Lines.{Line, line_bytes, lines_of}
use Rattle.edge_io.specs.Reading.{HandsOut}
use Rattle.edge_io.proofs.LineLemmas.{is_feed, IsPlain, FeedAt, feed_found, feed_missing, line_ended, line_unended}
use Rattle.script_run.specs.Done.{bytes_of_lines, ended_lines}
use Rattle.script_run.specs.Reading.{TakesLinesOf, TakesLines}

-- ---- an ended line has no line feed

abbrev text_first : List Line → List ℕ
text_first [] = []
text_first (line ∷ lines) = line.text

abbrev ended_first : List Line → Bool
ended_first [] = false
ended_first (line ∷ lines) = line.ended

not_ended : (bytes text : List ℕ) (rest : List Line) → IsPlain bytes → lines_of bytes ≡ record { text = text; ended = true } ∷ rest → IsPlain text
not_ended [] text rest plain e = absurd (cc (ap ended_first e))
not_ended (b ∷ bytes) text rest plain e = absurd (cc (ap ended_first (sym (line_unended (b ∷ bytes) (omega arith) plain) ∙ e)))

plain_at : (bytes text : List ℕ) (rest : List Line) (n : ℕ) → FeedAt bytes 0 n → lines_of bytes ≡ record { text = text; ended = true } ∷ rest → IsPlain text
plain_at bytes text rest n feed e = subst IsPlain
    (ap text_first (sym (line_ended _ _ feed.plain) ∙ sym (ap lines_of feed.cut) ∙ e)) feed.plain

ended_is_plain : (bytes text : List ℕ) (rest : List Line) → lines_of bytes ≡ record { text = text; ended = true } ∷ rest → IsPlain text
ended_is_plain bytes text rest e = by (position is_feed bytes) refl
  where
    by : (o : Option ℕ) → position is_feed bytes ≡ o → IsPlain text
    by None is = not_ended bytes text rest (feed_missing bytes (sym is)) e
    by (Some n) is = plain_at bytes text rest n (feed_found bytes n (sym is)) e

-- ---- one line

one_taken : (bytes left text : List ℕ) → bytes ≡ (text ++ 10 ∷ []) ++ left → lines_of bytes ≡ record { text = text; ended = true } ∷ lines_of left
    → TakesLinesOf bytes left (record { text = text; ended = true } ∷ [])
one_taken bytes left text consumes hands = record {
  consumes = consumes ∙ ap (λ t. t ++ left) (sym (append-nil (text ++ 10 ∷ [])));
  are_lines = λ more. ap (λ t. lines_of (t ++ more)) (append-nil (text ++ 10 ∷ [])) ∙ ap lines_of (append_assoc text (10 ∷ []) more)
      ∙ line_ended text more (ended_is_plain bytes text (lines_of left) hands);
  are_ended = λ more. refl;
}

pub line_taken : (before now : Option (List ℕ)) (text : List ℕ) → Consumes before now (line_bytes (record { text = text; ended = true }))
    → HandsOut before now (record { text = text; ended = true } ∷ []) → TakesLines before now (record { text = text; ended = true } ∷ [])
line_taken None now text consumes hands = tt
line_taken (Some bytes) None text consumes hands = absurd consumes
line_taken (Some bytes) (Some left) text consumes hands = one_taken bytes left text consumes hands

-- ---- none, and some after others

none_of : (bytes left : List ℕ) → left ≡ bytes → TakesLinesOf bytes left []
none_of bytes left same = record { consumes = sym same; are_lines = λ more. refl; are_ended = λ more. refl }

pub none_taken : (before now : Option (List ℕ)) → Keeps before now → TakesLines before now []
none_taken None now keeps = tt
none_taken (Some bytes) None keeps = absurd keeps
none_taken (Some bytes) (Some left) keeps = none_of bytes left keeps

bytes_joined : (lines later : List Line) → bytes_of_lines (lines ++ later) ≡ bytes_of_lines lines ++ bytes_of_lines later
bytes_joined [] later = refl
bytes_joined (line ∷ lines) later = ap (λ t. line_bytes line ++ t) (bytes_joined lines later)
    ∙ sym (append_assoc (line_bytes line) (bytes_of_lines lines) (bytes_of_lines later))

taken_of : (bytes mid left : List ℕ) (lines later : List Line) → TakesLinesOf bytes mid lines → TakesLinesOf mid left later → TakesLinesOf bytes left (lines ++ later)
taken_of bytes mid left lines later t u =
    let first = bytes_of_lines lines in
    let second = bytes_of_lines later in
    record {
      consumes = t.consumes ∙ ap (λ b. first ++ b) u.consumes ∙ sym (append_assoc first second left) ∙ ap (λ b. b ++ left) (sym (bytes_joined lines later));
      are_lines = λ more. ap (λ b. lines_of (b ++ more)) (bytes_joined lines later) ∙ ap lines_of (append_assoc first second more) ∙ t.are_lines (second ++ more)
          ∙ ap (λ ls. lines ++ ls) (u.are_lines more) ∙ sym (append_assoc lines later (lines_of more));
      are_ended = λ more. ap ended_lines (append_assoc lines later more) ∙ t.are_ended (later ++ more) ∙ ap (λ ls. lines ++ ls) (u.are_ended more)
          ∙ sym (append_assoc lines later (ended_lines more));
    }

pub taken_on : (before between now : Option (List ℕ)) (lines later : List Line) → TakesLines before between lines → TakesLines between now later
    → TakesLines before now (lines ++ later)
taken_on None between now lines later t u = tt
taken_on (Some bytes) None now lines later t u = absurd t
taken_on (Some bytes) (Some mid) None lines later t u = absurd u
taken_on (Some bytes) (Some mid) (Some left) lines later t u = taken_of bytes mid left lines later t u

-- the lines that were ahead are those that were taken, and those ahead now
pub lines_are : (bytes left : List ℕ) (lines : List Line) → TakesLinesOf bytes left lines → lines_of bytes ≡ lines ++ lines_of left
lines_are bytes left lines t = ap lines_of t.consumes ∙ t.are_lines left

-- ---- a part of a line behind them

no_line_ended : (part : List ℕ) → IsPlain part → ended_lines (lines_of part) ≡ []
no_line_ended [] plain = refl
no_line_ended (b ∷ part) plain = ap ended_lines (line_unended (b ∷ part) (omega arith) plain)

-- the whole lines of bytes that were handed out are those that were taken of them
pub whole_lines_are : (bytes left part : List ℕ) (lines : List Line) → TakesLinesOf bytes left lines → position is_feed part ≡ None
    → ended_lines (lines_of (bytes_of_lines lines ++ part)) ≡ lines
whole_lines_are bytes left part lines t none =
    ap ended_lines (t.are_lines part) ∙ t.are_ended (lines_of part) ∙ ap (λ ls. lines ++ ls) (no_line_ended part (feed_missing part (sym none)))
    ∙ append-nil lines
