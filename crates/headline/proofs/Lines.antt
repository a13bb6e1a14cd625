-- The bytes of a viewer in a line of a capture, by what the line answers.
use Rattle.std.proofs.Common.{◌≡◌, ℕ, ◌/◌, ◌%◌, ◌<◌, ◌≤◌, List, [], ◌∷◌, ◌++◌, length, refl, ap, sym, ◌∙◌, arith, Some, None, Bool, true, false, append_assoc}
use Rattle.std.specs.Prelude.{Option, ⊤, ◌==◌, ◌&&◌, ◌||◌, codes, decimal, if◌then◌else◌}
use Rattle.std.specs.Bool.{then_some}
use Rattle.std.specs.Option.{option_map, option_and_then}
use Rattle.std.specs.Char.{digit_char}
use Rattle.std.proofs.lemmas.Bool.Decides.{nat_tests}
use Rattle.std.proofs.lemmas.List.{append-nil}
use Rattle.std.proofs.lemmas.List.Elements.{All-head}
use Rattle.std.proofs.lemmas.List.Splits.{length-slice_split}
use Rattle.px_core.specs.declared.surface.Size.{Size}
use Rattle.caps_sets.specs.declared.confirmed.Confirmed.{Confirmed}
use Rattle.line_text.specs.Lines.{line_feed, lines_of}
use Rattle.line_text.specs.Words.{words_of, is_same_word}
use Rattle.line_text.specs.Numbers.{number_of}
use Rattle.line_text.specs.Hexadecimal.{hexadecimal_text}
use Rattle.session_rules.specs.Journal.{Refusal}
use Rattle.session_rules.specs.Journal.Refusal.{NotInvited, RoomFull, JoinsSpent, NotHolder, BadDrawing, EmptySlot, SlotSize, JournalFull, Unfit}
use Rattle.caps_sets.specs.Presets.{presets, confirmed_by}
use Rattle.script_rules.specs.Script.{LineRefusal, size_with, viewer_limit}
use Rattle.script_rules.specs.Capture.{ended, spaced, of_viewer, refusal_line, refused_with, joined_line, broken_line, last_line, viewer_word, bytes_word}
use Rattle.script_rules.specs.Capture.{is_step_refusal, viewer_line, is_broken_line, is_nobody_line, said_of_viewer, capture_line, joined_words, bytes_of_line}
use Rattle.script_rules.specs.Capture.{bytes_of_lines}
use Rattle.script_rules.specs.Capture.CaptureLine.{JoinedLine, OtherLine, BytesLine, NobodyLine}
use Rattle.script_rules.proofs.ReadBack.{Lacks, lines_of-ended, words_of-first, words_of-last, text_lacks, bytes_word-text}
use Rattle.headline.specs.Sent.{AreBytes}
use Rattle.headline.proofs.Lacking.{lacks_nil, lacks_cons, lacks_append, lacks_by, decimal_lacks, viewer_is_read}

-- ---- a line at the front

-- the bytes that a line of a text is read as
abbrev pub bytes_of_text : ℕ → List ℕ → List ℕ
bytes_of_text v text = bytes_of_line v (capture_line (words_of text))

pub front_line : (v : ℕ) (text more : List ℕ) → Lacks line_feed text
    → bytes_of_lines v (lines_of (ended text ++ more)) ≡ bytes_of_text v text ++ bytes_of_lines v (lines_of more)
front_line v text more clean = ap (bytes_of_lines v) (lines_of-ended text more clean)

-- a line that sends nothing
silent_line : (v : ℕ) (text more : List ℕ) → Lacks line_feed text → bytes_of_text v text ≡ []
    → bytes_of_lines v (lines_of (ended text ++ more)) ≡ bytes_of_lines v (lines_of more)
silent_line v text more clean nothing = front_line v text more clean ∙ ap (λ bytes. bytes ++ bytes_of_lines v (lines_of more)) nothing

viewer_text_lacks : (u : ℕ) (text : List ℕ) → Lacks line_feed text → Lacks line_feed (decimal u ++ 32 ∷ text)
viewer_text_lacks u text clean = lacks_append 10 (decimal u) (32 ∷ text) (decimal_lacks 10 u (omega arith)) (lacks_cons 10 32 text refl clean)

viewer_words : (u : ℕ) (text : List ℕ) → words_of (decimal u ++ 32 ∷ text) ≡ decimal u ∷ words_of text
viewer_words u text = words_of-first (decimal u) text (decimal_lacks 32 u (omega arith))

-- ---- what words say

-- three words or more are nobody's bytes
joined_is_silent : (v u : ℕ) (words : List (List ℕ)) → bytes_of_line v (joined_words u words) ≡ []
joined_is_silent v u [] = refl
joined_is_silent v u (w ∷ []) = refl
joined_is_silent v u (w ∷ h ∷ preset) = by (option_and_then (λ m. option_and_then (λ n. size_with m n) (number_of h)) (number_of w))
    (confirmed_by presets preset)
  where
    by : (o : Option Size) (c : Option Confirmed) → bytes_of_line v (option_and_then (λ size. option_map (JoinedLine u size) c) o) ≡ []
    by None c = refl
    by (Some size) None = refl
    by (Some size) (Some c) = refl

other_is_silent : (v u : ℕ) (b : Bool) → bytes_of_line v (then_some b (OtherLine u)) ≡ []
other_is_silent v u true = refl
other_is_silent v u false = refl

viewer_line_is_silent : (v u : ℕ) (word next : List ℕ) (words : List (List ℕ)) → bytes_of_line v (viewer_line u (word ∷ next ∷ words)) ≡ []
viewer_line_is_silent v u word next words = by (is_same_word word (codes "joined"))
  where
    by : (b : Bool) → bytes_of_line v
        (if b then joined_words u (next ∷ words) else then_some (is_same_word word (codes "refused") && is_step_refusal (next ∷ words)) (OtherLine u)) ≡ []
    by true = joined_is_silent v u (next ∷ words)
    by false = other_is_silent v u (is_same_word word (codes "refused") && is_step_refusal (next ∷ words))

-- a line by what it says after its viewer's number
said_is_silent : (v : ℕ) (number word : List ℕ) (words : List (List ℕ)) → ((u : ℕ) → bytes_of_line v (viewer_line u (word ∷ words)) ≡ [])
    → bytes_of_line v (capture_line (number ∷ word ∷ words)) ≡ []
said_is_silent v number word words silent = by (is_nobody_line (number ∷ word ∷ words) || is_broken_line (number ∷ word ∷ words)) (viewer_word number)
  where
    by : (b : Bool) (o : Option ℕ) → bytes_of_line v (if b then Some NobodyLine else option_and_then (λ u. viewer_line u (word ∷ words)) o) ≡ []
    by true o = refl
    by false None = refl
    by false (Some u) = silent u

more_words : (v : ℕ) (number word : List ℕ) (words : List (List ℕ)) → 0 < length words → bytes_of_line v (capture_line (number ∷ word ∷ words)) ≡ []
more_words v number word [] some = absurd (omega arith)
more_words v number word (next ∷ words) some = said_is_silent v number word (next ∷ words) (λ u. viewer_line_is_silent v u word next words)

some_words : (text : List ℕ) → 0 < length (words_of text)
some_words text = omega (arith, length-slice_split (λ b. b == 32) text)

-- a line of a viewer's number, a word and more words
pub spaced_line : (v u : ℕ) (word text more : List ℕ) → Lacks 32 word → Lacks line_feed word → Lacks line_feed text
    → bytes_of_lines v (lines_of (of_viewer u (word ++ 32 ∷ text) ++ more)) ≡ bytes_of_lines v (lines_of more)
spaced_line v u word text more whole clean_word clean_text =
    silent_line v (decimal u ++ 32 ∷ (word ++ 32 ∷ text)) more
    (viewer_text_lacks u (word ++ 32 ∷ text) (lacks_append 10 word (32 ∷ text) clean_word (lacks_cons 10 32 text refl clean_text)))
    (ap (λ words. bytes_of_line v (capture_line words)) (viewer_words u (word ++ 32 ∷ text) ∙ ap (λ words. decimal u ∷ words) (words_of-first word text whole))
    ∙ more_words v (decimal u) word (words_of text) (some_words text))

-- ---- the lines of answers that send nothing

pub left_line : (v u : ℕ) (more : List ℕ) → bytes_of_lines v (lines_of (of_viewer u (codes "left") ++ more)) ≡ bytes_of_lines v (lines_of more)
left_line v u more =
    silent_line v (decimal u ++ 32 ∷ codes "left") more (viewer_text_lacks u (codes "left") (lacks_by 10 (codes "left") refl))
    (ap (λ words. bytes_of_line v (capture_line words)) (viewer_words u (codes "left")) ∙ said_is_silent v (decimal u) (codes "left") [] (λ w. refl))

pub nothing_line : (v u : ℕ) (more : List ℕ) → bytes_of_lines v (lines_of (of_viewer u (codes "nothing") ++ more)) ≡ bytes_of_lines v (lines_of more)
nothing_line v u more =
    silent_line v (decimal u ++ 32 ∷ codes "nothing") more (viewer_text_lacks u (codes "nothing") (lacks_by 10 (codes "nothing") refl))
    (ap (λ words. bytes_of_line v (capture_line words)) (viewer_words u (codes "nothing")) ∙ said_is_silent v (decimal u) (codes "nothing") [] (λ w. refl))

refused_line : (v u : ℕ) (text more : List ℕ) → Lacks line_feed text
    → bytes_of_lines v (lines_of (refused_with u text ++ more)) ≡ bytes_of_lines v (lines_of more)
refused_line v u text more clean = spaced_line v u (codes "refused") text more (lacks_by 32 (codes "refused") refl) (lacks_by 10 (codes "refused") refl) clean

-- a refusal with a number
counted_line : (v u n : ℕ) (text more : List ℕ) → Lacks line_feed text
    → bytes_of_lines v (lines_of (refused_with u (text ++ decimal n) ++ more)) ≡ bytes_of_lines v (lines_of more)
counted_line v u n text more clean = refused_line v u (text ++ decimal n) more (lacks_append 10 text (decimal n) clean (decimal_lacks 10 n (omega arith)))

pub refusal_is_silent : (v u : ℕ) (r : Refusal) (more : List ℕ) → bytes_of_lines v (lines_of (refusal_line u r ++ more)) ≡ bytes_of_lines v (lines_of more)
refusal_is_silent v u NotInvited more = refused_line v u (codes "not-invited") more (lacks_by 10 (codes "not-invited") refl)
refusal_is_silent v u RoomFull more = refused_line v u (codes "room-full") more (lacks_by 10 (codes "room-full") refl)
refusal_is_silent v u JoinsSpent more = refused_line v u (codes "joins-spent") more (lacks_by 10 (codes "joins-spent") refl)
refusal_is_silent v u (NotHolder holder) more = counted_line v u holder (codes "not-holder ") more (lacks_by 10 (codes "not-holder ") refl)
refusal_is_silent v u (BadDrawing rule) more = counted_line v u rule (codes "bad-drawing ") more (lacks_by 10 (codes "bad-drawing ") refl)
refusal_is_silent v u (EmptySlot slot) more = counted_line v u slot (codes "empty-slot ") more (lacks_by 10 (codes "empty-slot ") refl)
refusal_is_silent v u (SlotSize slot) more = counted_line v u slot (codes "slot-size ") more (lacks_by 10 (codes "slot-size ") refl)
refusal_is_silent v u JournalFull more = refused_line v u (codes "journal-full") more (lacks_by 10 (codes "journal-full") refl)
refusal_is_silent v u Unfit more = refl

-- ---- the joined line

-- no word has a line feed
abbrev pub AreOneLine : List (List ℕ) → Type 0
AreOneLine [] = ⊤
AreOneLine (word ∷ words) = Lacks line_feed word × AreOneLine words

spaced_lacks : (words : List (List ℕ)) → AreOneLine words → Lacks line_feed (spaced words)
spaced_lacks [] clean = lacks_nil 10
spaced_lacks (word ∷ words) clean = lacks_cons 10 32 (word ++ spaced words) refl (lacks_append 10 word (spaced words) clean.0 (spaced_lacks words clean.1))

pub joined_line_is_silent : (v u : ℕ) (size : Size) (preset : List (List ℕ)) (more : List ℕ) → AreOneLine preset
    → bytes_of_lines v (lines_of (joined_line size u preset ++ more)) ≡ bytes_of_lines v (lines_of more)
joined_line_is_silent v u size preset more clean =
    let w = decimal size.w in
    let h = decimal size.h in
    spaced_line v u (codes "joined") ((w ++ 32 ∷ h) ++ spaced preset) more (lacks_by 32 (codes "joined") refl) (lacks_by 10 (codes "joined") refl)
    (lacks_append 10 (w ++ 32 ∷ h) (spaced preset)
    (lacks_append 10 w (32 ∷ h) (decimal_lacks 10 size.w (omega arith)) (lacks_cons 10 32 h refl (decimal_lacks 10 size.h (omega arith))))
    (spaced_lacks preset clean))

-- ---- hexadecimal lines

not_a_digit : (b byte : ℕ) → b < 256 → 102 < byte → (digit_char (b / 16) == byte) ≡ false
not_a_digit b byte h other = let d : b / 16 < 16 = omega arith in grind (arith, nat_tests, d)

-- hexadecimal digits aren't the other words of a viewer's line
no_word : (bytes : List ℕ) → 0 < length bytes → AreBytes bytes
    → (is_same_word (hexadecimal_text bytes) (codes "left") || is_same_word (hexadecimal_text bytes) (codes "nothing")) ≡ false
no_word [] some h = absurd (omega arith)
no_word (b ∷ bs) some h =
    let small = All-head (λ x. x < 256) b bs h in
    let after_first = digit_char (b % 16) == 111 && is_same_word (hexadecimal_text bs) (codes "thing") in
    ap (λ t. (t && (digit_char (b % 16) == 101 && is_same_word (hexadecimal_text bs) (codes "ft"))) || (digit_char (b / 16) == 110 && after_first))
    (not_a_digit b 108 small (omega arith))
    ∙ ap (λ t. t && after_first) (not_a_digit b 110 small (omega arith))

neither : (a b : Bool) → (a && (b && false)) ≡ false
neither true true = refl
neither true false = refl
neither false b = refl

-- the words of a viewer's line of bytes
bytes_are_said : (u : ℕ) (bytes : List ℕ) → 0 < u → u ≤ viewer_limit → 0 < length bytes → AreBytes bytes
    → capture_line (decimal u ∷ hexadecimal_text bytes ∷ []) ≡ Some (BytesLine u bytes)
bytes_are_said u bytes first most some h =
    let text = hexadecimal_text bytes in
    ap (λ b. if b || false then Some NobodyLine else said_of_viewer (decimal u ∷ text ∷ []))
    (neither (is_same_word (decimal u) (codes "0")) (is_same_word text (codes "refused")))
    ∙ ap (λ o. option_and_then (λ w. viewer_line w (text ∷ [])) o) (viewer_is_read u first most)
    ∙ ap (λ b. if b then Some (OtherLine u) else option_map (BytesLine u) (bytes_word text)) (no_word bytes some h)
    ∙ ap (option_map (BytesLine u)) (bytes_word-text bytes some h)

-- a viewer's frame is its bytes, and nobody else's
pub bytes_line : (v u : ℕ) (bytes more : List ℕ) → 0 < u → u ≤ viewer_limit → 0 < length bytes → AreBytes bytes
    → bytes_of_lines v (lines_of (of_viewer u (hexadecimal_text bytes) ++ more)) ≡ (if u == v then bytes else []) ++ bytes_of_lines v (lines_of more)
bytes_line v u bytes more first most some h =
    let text = hexadecimal_text bytes in
    front_line v (decimal u ++ 32 ∷ text) more (viewer_text_lacks u text (text_lacks 10 bytes (omega arith) h))
    ∙ ap (λ words. bytes_of_line v (capture_line words) ++ bytes_of_lines v (lines_of more))
    (viewer_words u text ∙ ap (λ words. decimal u ∷ words) (words_of-last text (text_lacks 32 bytes (omega arith) h)))
    ∙ ap (λ said. bytes_of_line v said ++ bytes_of_lines v (lines_of more)) (bytes_are_said u bytes first most some h)

-- ---- the last line

abbrev broken_text : ℕ → ℕ → List ℕ
broken_text line rule = codes "line " ++ decimal line ++ codes " rule " ++ decimal rule

broken_lacks : (line rule : ℕ) → Lacks line_feed (broken_text line rule)
broken_lacks line rule =
    lacks_append 10 (codes "line " ++ decimal line ++ codes " rule ") (decimal rule)
    (lacks_append 10 (codes "line " ++ decimal line) (codes " rule ")
    (lacks_append 10 (codes "line ") (decimal line) (lacks_by 10 (codes "line ") refl) (decimal_lacks 10 line (omega arith)))
    (lacks_by 10 (codes " rule ") refl))
    (decimal_lacks 10 rule (omega arith))

broken_words : (line rule : ℕ) → words_of (broken_text line rule) ≡ codes "line" ∷ decimal line ∷ words_of (codes "rule " ++ decimal rule)
broken_words line rule =
    let d = decimal line in
    let e = decimal rule in
    ap words_of (append_assoc (codes "line " ++ d) (codes " rule ") e ∙ append_assoc (codes "line ") d (codes " rule " ++ e))
    ∙ words_of-first (codes "line") (d ++ (codes " rule " ++ e)) (lacks_by 32 (codes "line") refl)
    ∙ ap (λ words. codes "line" ∷ words) (words_of-first d (codes "rule " ++ e) (decimal_lacks 32 line (omega arith)))

broken_is_silent : (v line rule : ℕ) → bytes_of_lines v (lines_of (broken_line line rule)) ≡ []
broken_is_silent v line rule =
    ap (λ text. bytes_of_lines v (lines_of text)) (sym (append-nil (broken_line line rule)))
    ∙ silent_line v (broken_text line rule) [] (broken_lacks line rule)
    (ap (λ words. bytes_of_line v (capture_line words)) (broken_words line rule)
    ∙ more_words v (codes "line") (decimal line) (words_of (codes "rule " ++ decimal rule)) (some_words (codes "rule " ++ decimal rule)))

pub last_line_is_silent : (v : ℕ) (o : Option LineRefusal) → bytes_of_lines v (lines_of (last_line o)) ≡ []
last_line_is_silent v None = refl
last_line_is_silent v (Some r) = broken_is_silent v r.line r.rule
