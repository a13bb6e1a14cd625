-- Captures: the text of each answer, and what a capture's lines say (profile).
use Rattle.std.specs.Prelude.{ℕ, ◌+◌, ◌%◌, ◌==◌, nat_lt, nat_le, Bool, true, false, ◌&&◌, ◌||◌, not, List, [], ◌∷◌, ◌++◌, length, if◌then◌else◌, codes, decimal}
use Rattle.std.specs.Prelude.{is_some}
use Rattle.std.specs.declared.option.Option.{Option}
use Rattle.std.specs.declared.option.Option.TheVariants.{Some, None}
use Rattle.std.specs.Bool.{then_some}
use Rattle.std.specs.Option.{option_map, option_and_then}
use Rattle.std.specs.Char.{is_ascii_digit}
use Rattle.px_core.specs.declared.surface.Size.{Size}
use Rattle.caps_sets.specs.declared.confirmed.Confirmed.{Confirmed}
use Rattle.line_text.specs.Lines.{Line, line_feed, lines_of}
use Rattle.line_text.specs.Words.{words_of, is_same_word}
use Rattle.line_text.specs.Numbers.{number_of, number_up_to}
use Rattle.line_text.specs.Hexadecimal.{hexadecimals_of, hexadecimal_text}
use Rattle.session_rules.specs.Journal.{Refusal}
use Rattle.session_rules.specs.Journal.Refusal.{NotInvited, RoomFull, JoinsSpent, NotHolder, BadDrawing, EmptySlot, SlotSize, JournalFull, Unfit}
use Rattle.session_rules.specs.Steps.{Step, Answer}
use Rattle.session_rules.specs.Steps.Step.{JoinStep, LeaveStep, InputStep, DrawStep, RefreshStep, SuppressStep, TakeStep}
use Rattle.session_rules.specs.Steps.Answer.{Joined, Left, Accepted, Refused, Nothing, Frame}
use Rattle.caps_sets.specs.Presets.{presets, confirmed_by}
use Rattle.order_means.specs.Packets.{without_pointers}
use Rattle.script_rules.specs.Script.{Asked, LineRefusal, all_bytes, size_with, viewer_limit}

-- ---- lines that are written

-- a text and its line feed
abbrev pub ended : List ℕ → List ℕ
ended text = text ++ line_feed ∷ []

abbrev pub spaced : List (List ℕ) → List ℕ
spaced [] = []
spaced (word ∷ words) = 32 ∷ word ++ spaced words

-- a viewer's number and a text
abbrev pub of_viewer : ℕ → List ℕ → List ℕ
of_viewer v text = ended (decimal v ++ 32 ∷ text)

-- the line of a refusal of a viewer's step, or of a join where the viewer is 0
abbrev pub refused_with : ℕ → List ℕ → List ℕ
refused_with v text = of_viewer v (codes "refused " ++ text)

-- an entry that no call makes has no line
abbrev pub refusal_line : ℕ → Refusal → List ℕ
refusal_line v NotInvited = refused_with v (codes "not-invited")
refusal_line v RoomFull = refused_with v (codes "room-full")
refusal_line v JoinsSpent = refused_with v (codes "joins-spent")
refusal_line v (NotHolder holder) = refused_with v (codes "not-holder " ++ decimal holder)
refusal_line v (BadDrawing rule) = refused_with v (codes "bad-drawing " ++ decimal rule)
refusal_line v (EmptySlot slot) = refused_with v (codes "empty-slot " ++ decimal slot)
refusal_line v (SlotSize slot) = refused_with v (codes "slot-size " ++ decimal slot)
refusal_line v JournalFull = refused_with v (codes "journal-full")
refusal_line v Unfit = []

-- the viewer whose step it is, and 0 for a join
abbrev pub viewer_of : Step → ℕ
viewer_of (JoinStep name) = 0
viewer_of (LeaveStep v) = v
viewer_of (InputStep v event) = v
viewer_of (DrawStep v d) = v
viewer_of (RefreshStep v rect) = v
viewer_of (SuppressStep v stop) = v
viewer_of (TakeStep v) = v

abbrev pub joined_line : Size → ℕ → List (List ℕ) → List ℕ
joined_line size v preset = of_viewer v (codes "joined " ++ decimal size.w ++ 32 ∷ decimal size.h ++ spaced preset)

-- the line of an answer, with the bytes of the frame that a take gives; other accepted steps write nothing
abbrev pub answer_line : Size → Asked → Answer → List ℕ → List ℕ
answer_line size a (Joined v) frame = joined_line size v a.preset
answer_line size a Left frame = of_viewer (viewer_of a.step) (codes "left")
answer_line size a Accepted frame = []
answer_line size a (Refused refusal) frame = refusal_line (viewer_of a.step) refusal
answer_line size a Nothing frame = of_viewer (viewer_of a.step) (codes "nothing")
answer_line size a (Frame take) frame = of_viewer (viewer_of a.step) (hexadecimal_text frame)

-- the line of a script's line that breaks a rule, which ends a capture
abbrev pub broken_line : ℕ → ℕ → List ℕ
broken_line line rule = ended (codes "line " ++ decimal line ++ codes " rule " ++ decimal rule)

abbrev pub last_line : Option LineRefusal → List ℕ
last_line None = []
last_line (Some r) = broken_line r.line r.rule

-- ---- lines that are read

-- what a line of a capture says
pub data CaptureLine : Type 0 where
  JoinedLine : ℕ → Size → Confirmed → CaptureLine
  OtherLine : ℕ → CaptureLine
  BytesLine : ℕ → List ℕ → CaptureLine
  NobodyLine : CaptureLine

abbrev pub number_between : ℕ → ℕ → List ℕ → Option ℕ
number_between least most word = option_and_then (λ n. then_some (nat_le least n) n) (number_up_to most word)

abbrev pub viewer_word : List ℕ → Option ℕ
viewer_word word = number_between 1 viewer_limit word

-- a digit of lower-case hexadecimal
abbrev pub is_lower_digit : ℕ → Bool
is_lower_digit b = is_ascii_digit b || (nat_le 97 b && nat_le b 102)

-- bytes as an even number of such digits, two at least
abbrev pub bytes_word : List ℕ → Option (List ℕ)
bytes_word word = if nat_lt 0 (length word) && ((length word % 2 == 0) && all_bytes is_lower_digit word) then hexadecimals_of 2 word else None

abbrev pub joined_words : ℕ → List (List ℕ) → Option CaptureLine
joined_words v (w ∷ h ∷ preset) = option_and_then (λ size. option_map (JoinedLine v size) (confirmed_by presets preset))
    (option_and_then (λ m. option_and_then (λ n. size_with m n) (number_of h)) (number_of w))
joined_words v words = None

-- a word with a number in a range
abbrev pub is_counted : List ℕ → ℕ → ℕ → List ℕ → List ℕ → Bool
is_counted wanted least most word count = is_same_word word wanted && is_some (number_between least most count)

-- the words of a refusal of a viewer's step
abbrev pub is_step_refusal : List (List ℕ) → Bool
is_step_refusal (word ∷ []) = is_same_word word (codes "journal-full")
is_step_refusal (word ∷ count ∷ []) = (is_counted (codes "not-holder") 0 65535 word count || is_counted (codes "bad-drawing") 1 9 word count)
    || (is_counted (codes "empty-slot") 0 255 word count || is_counted (codes "slot-size") 0 255 word count)
is_step_refusal words = false

-- the words of a refusal of a join
abbrev pub is_join_refusal : List (List ℕ) → Bool
is_join_refusal (word ∷ []) = is_same_word word (codes "not-invited") || (is_same_word word (codes "room-full") || is_same_word word (codes "joins-spent"))
is_join_refusal words = false

-- what stands after a viewer's number
abbrev pub viewer_line : ℕ → List (List ℕ) → Option CaptureLine
viewer_line v [] = None
viewer_line v (word ∷ []) = if is_same_word word (codes "left") || is_same_word word (codes "nothing") then Some (OtherLine v) else option_map (BytesLine v)
    (bytes_word word)
viewer_line v (word ∷ next ∷ words) = if is_same_word word (codes "joined") then joined_words v (next ∷ words)
    else then_some (is_same_word word (codes "refused") && is_step_refusal (next ∷ words)) (OtherLine v)

-- the greatest rule of a script's line that a capture may name
abbrev pub greatest_rule : ℕ
greatest_rule = 7

-- the greatest number of a script's line
abbrev pub greatest_line : ℕ
greatest_line = 4294967295

abbrev pub is_broken_line : List (List ℕ) → Bool
is_broken_line (line ∷ k ∷ rule ∷ r ∷ []) = (is_same_word line (codes "line") && is_some (number_between 1 greatest_line k))
    && is_counted (codes "rule") 1 greatest_rule rule r
is_broken_line words = false

abbrev pub is_nobody_line : List (List ℕ) → Bool
is_nobody_line [] = false
is_nobody_line (zero_word ∷ []) = false
is_nobody_line (zero_word ∷ word ∷ words) = is_same_word zero_word (codes "0") && (is_same_word word (codes "refused") && is_join_refusal words)

abbrev pub said_of_viewer : List (List ℕ) → Option CaptureLine
said_of_viewer [] = None
said_of_viewer (word ∷ words) = option_and_then (λ v. viewer_line v words) (viewer_word word)

-- what the words of a line say
abbrev pub capture_line : List (List ℕ) → Option CaptureLine
capture_line words = if is_nobody_line words || is_broken_line words then Some NobodyLine else said_of_viewer words

-- ---- captures

-- the viewers that have joined
abbrev pub has_joined : ℕ → List ℕ → Bool
has_joined v [] = false
has_joined v (u ∷ us) = (u == v) || has_joined v us

-- whether a line may stand after these have joined
abbrev pub may_stand : List ℕ → CaptureLine → Bool
may_stand joined (JoinedLine v size c) = not (has_joined v joined)
may_stand joined (OtherLine v) = has_joined v joined
may_stand joined (BytesLine v bytes) = has_joined v joined
may_stand joined NobodyLine = true

abbrev pub joined_after : List ℕ → CaptureLine → List ℕ
joined_after joined (JoinedLine v size c) = v ∷ joined
joined_after joined (OtherLine v) = joined
joined_after joined (BytesLine v bytes) = joined
joined_after joined NobodyLine = joined

-- a line of a capture, where it is ended and of a form
abbrev pub line_read : Line → Option CaptureLine
line_read line = if line.ended then capture_line (words_of line.text) else None

abbrev pub first_broken_by : ℕ → List ℕ → Option CaptureLine → (List ℕ → Option ℕ) → Option ℕ
first_broken_by k joined None others = Some k
first_broken_by k joined (Some line) others = if may_stand joined line then others (joined_after joined line) else Some k

abbrev pub first_broken_from : ℕ → List ℕ → List Line → Option ℕ
first_broken_from k joined [] = None
first_broken_from k joined (line ∷ lines) = first_broken_by k joined (line_read line) (λ after. first_broken_from (k + 1) after lines)

-- the number, from 1, of the first line of a capture that breaks its rules
abbrev pub first_broken_line : List ℕ → Option ℕ
first_broken_line capture = first_broken_from 1 [] (lines_of capture)

abbrev pub bytes_of_line : ℕ → Option CaptureLine → List ℕ
bytes_of_line v None = []
bytes_of_line v (Some (JoinedLine u size c)) = []
bytes_of_line v (Some (OtherLine u)) = []
bytes_of_line v (Some (BytesLine u bytes)) = if u == v then bytes else []
bytes_of_line v (Some NobodyLine) = []

abbrev pub bytes_of_lines : ℕ → List Line → List ℕ
bytes_of_lines v [] = []
bytes_of_lines v (line ∷ lines) = bytes_of_line v (line_read line) ++ bytes_of_lines v lines

-- the bytes of a viewer's hexadecimal lines in a capture, joined
abbrev pub written_bytes : ℕ → List ℕ → List ℕ
written_bytes v capture = bytes_of_lines v (lines_of capture)

-- the bytes of a viewer in a capture: those, without the packets of pointers
abbrev pub viewer_bytes : ℕ → List ℕ → List ℕ
viewer_bytes v capture = without_pointers (written_bytes v capture)

-- a viewer's joined line: the size and what it confirmed
pub record JoinedAs : Type 0 where
  pub size : Size
  pub confirmed : Confirmed

abbrev pub joined_in_line : ℕ → Option CaptureLine → Option JoinedAs
joined_in_line v None = None
joined_in_line v (Some (JoinedLine u size c)) = then_some (u == v) (record { size = size; confirmed = c })
joined_in_line v (Some (OtherLine u)) = None
joined_in_line v (Some (BytesLine u bytes)) = None
joined_in_line v (Some NobodyLine) = None

abbrev pub joined_or_later : Option JoinedAs → Option JoinedAs → Option JoinedAs
joined_or_later None later = later
joined_or_later (Some j) later = Some j

abbrev pub joined_in_lines : ℕ → List Line → Option JoinedAs
joined_in_lines v [] = None
joined_in_lines v (line ∷ lines) = joined_or_later (joined_in_line v (line_read line)) (joined_in_lines v lines)

-- as what a viewer joined in a capture
abbrev pub joined_as : ℕ → List ℕ → Option JoinedAs
joined_as v capture = joined_in_lines v (lines_of capture)
