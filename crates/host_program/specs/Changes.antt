-- Who changed the journal of a run.
use Rattle.std.specs.Prelude.{ℕ, List}
use Rattle.std.specs.declared.option.Option.{Option}
use Rattle.session_rules.specs.declared.entry.Entry.{Entry}
use Rattle.session_rules.specs.Journal.{Head, IsLegalJournal, ChangesAreTheHolders}
use Rattle.session_rules.specs.Steps.{journal_of_steps}
use Rattle.script_rules.specs.Script.{Asked, Script, opening_of}
use Rattle.headline.specs.Headline.{steps_of, IfOpened}
use Rattle.script_run.specs.Run.{Tells}

-- a journal is legal, and each change in it was made by the viewer who held control there
pub record ChangedByHolders (head : Head) (j : List Entry) : Type 0 where
  pub journal_is_legal : IsLegalJournal head j
  pub changes_are_the_holders : ChangesAreTheHolders head.size j

-- likewise the journal that steps make
abbrev pub StepsByHolders : Head → List Asked → Type 0
StepsByHolders head asked = ChangedByHolders head (journal_of_steps head (steps_of asked))

-- likewise that of the steps of the script which an input tells, up to the line that breaks a rule
abbrev pub ScriptByHolders : Option (List ℕ) → Type 0
ScriptByHolders left = Tells left (λ script. IfOpened (opening_of script) (λ (s : Script). StepsByHolders s.head s.asked))
