-- What lines of a script write.
use Rattle.std.specs.Prelude.{ℕ, List, ◌++◌}
use Rattle.script_run.specs.Answers.{frame_end}
use Rattle.script_run.specs.declared.text.Text.{Text}

-- a text of a capture: its words, and the digits of the frame that stands at its end
abbrev pub text_of : Text → List ℕ
text_of text = text.words.items ++ frame_end text.frame
