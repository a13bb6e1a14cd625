-- The one viewer of a script without invites joins.
use Rattle.std.proofs.Common.{◌≡◌, ℕ, List, [], ◌++◌, ◌∙◌, ap, Some, None, Bool, true, false}
use Rattle.std.specs.Prelude.{Option, codes}
use Rattle.px_core.specs.declared.surface.Size.{Size}
use Rattle.line_text.specs.Words.{words_of}
use Rattle.frame_rules.specs.Encoder.{Encoder}
use Rattle.session_rules.specs.declared.entry.Role.TheVariants.{Owner}
use Rattle.script_rules.specs.Script.{ScriptReading, form_outcome, opened_reading, solo_name, solo_rows, solo_join}
use Rattle.script_rules.specs.Script.LineForm.{InviteForm, JoinForm}
use Rattle.script_rules.specs.CaptureText.{Run}
use Rattle.script_lines.specs.declared.rule.LineRule.{LineRule}
use Rattle.script_run.specs.Solo.{first_run, solo_reading, solo_run}
use Rattle.script_run.specs.Standing.{DoesStep}
use Rattle.script_run.specs.Steps.{LineAnswered, BeginsLines}
use Rattle.script_run.specs.Writing.{Writing, joined}

pub invited_alone : (made : Writing) (size : Size) (broken : Option LineRule) (run : Run Encoder) (stands : ScriptReading → Run Encoder → Type 0) (out : List ℕ)
    → LineAnswered made (form_outcome (opened_reading size []) (Some (InviteForm solo_name Owner))) broken (opened_reading size []) run stands out out
    → stands (opened_reading size solo_rows) run
invited_alone made size None run stands out d = d.0
invited_alone made size (Some b) run stands out d = absurd d

pub joined_alone : (made : Writing) (size : Size) (broken : Option LineRule) (run : Run Encoder) (stands : ScriptReading → Run Encoder → Type 0) (old new : List ℕ)
    → LineAnswered made (form_outcome (opened_reading size solo_rows) (Some (JoinForm solo_name (words_of (codes "plain"))))) broken (opened_reading size solo_rows) run stands old new
    → DoesStep made stands (opened_reading size solo_rows) run solo_join old new
joined_alone made size None run stands old new d = d
joined_alone made size (Some b) run stands old new d = absurd d

-- what was written before the second line
pub begins_solo : (made : Writing) (invite : Bool) (size : Size) (stands : ScriptReading → Run Encoder → Type 0) (none text : List ℕ) → invite ≡ false → none ≡ []
    → stands (solo_reading size) (solo_run size) → text ≡ none ++ joined made size → BeginsLines made invite size stands text
begins_solo made true size stands none text e empty standing line = absurd (cc e)
begins_solo made false size stands none text e empty standing line = (standing, line ∙ ap (λ t. t ++ joined made size) empty)

pub begins_invited : (made : Writing) (invite : Bool) (size : Size) (stands : ScriptReading → Run Encoder → Type 0) (text : List ℕ) → invite ≡ true → text ≡ []
    → stands (opened_reading size []) (first_run size) → BeginsLines made invite size stands text
begins_invited made true size stands text e empty standing = (standing, empty)
begins_invited made false size stands text e empty standing = absurd (cc e)
