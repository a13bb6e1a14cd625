-- The lines of answers, as text.
use Rattle.std.specs.Prelude.{ℕ, List, ◌∷◌, ◌++◌, codes, decimal}
use Rattle.px_core.specs.declared.surface.Size.{Size}
use Rattle.line_text.specs.Words.{words_of}
use Rattle.session_rules.specs.Journal.{Refusal}
use Rattle.session_rules.specs.Journal.Refusal.{NotInvited, RoomFull, JoinsSpent, NotHolder, BadDrawing, EmptySlot, SlotSize, JournalFull}
use Rattle.script_rules.specs.Capture.{of_viewer, refusal_line, joined_line}
use Rattle.script_lines.specs.declared.answer.Cause.{Cause}
use Rattle.script_lines.specs.declared.answer.Cause.TheVariants as cause
use Rattle.script_lines.specs.declared.answer.AnswerLine.{AnswerLine}
use Rattle.script_lines.specs.declared.answer.AnswerLine.TheVariants as says

-- the refusal that a cause is
abbrev pub refusal_of : Cause → Refusal
refusal_of cause.NotInvited = NotInvited
refusal_of cause.RoomFull = RoomFull
refusal_of cause.JoinsSpent = JoinsSpent
refusal_of (cause.NotHolder holder) = NotHolder holder
refusal_of (cause.BadDrawing rule) = BadDrawing rule
refusal_of (cause.EmptySlot slot) = EmptySlot slot
refusal_of (cause.SlotSize slot) = SlotSize slot
refusal_of cause.JournalFull = JournalFull

-- what a refused line says of a cause
abbrev pub cause_text : Cause → List ℕ
cause_text cause.NotInvited = codes "not-invited"
cause_text cause.RoomFull = codes "room-full"
cause_text cause.JoinsSpent = codes "joins-spent"
cause_text (cause.NotHolder holder) = codes "not-holder " ++ decimal holder
cause_text (cause.BadDrawing rule) = codes "bad-drawing " ++ decimal rule
cause_text (cause.EmptySlot slot) = codes "empty-slot " ++ decimal slot
cause_text (cause.SlotSize slot) = codes "slot-size " ++ decimal slot
cause_text cause.JournalFull = codes "journal-full"

-- what a joined line says, by the text of the preset words
abbrev pub joined_text : Size → List ℕ → List ℕ
joined_text size preset = codes "joined " ++ decimal size.w ++ 32 ∷ decimal size.h ++ 32 ∷ preset

-- the line of an answer
abbrev pub line_of : AnswerLine → List ℕ
line_of (says.Joined viewer size preset) = joined_line size viewer (words_of preset.now)
line_of (says.Left viewer) = of_viewer viewer (codes "left")
line_of (says.Nothing viewer) = of_viewer viewer (codes "nothing")
line_of (says.Refused viewer c) = refusal_line viewer (refusal_of c)
