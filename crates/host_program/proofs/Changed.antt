-- Every journal that a run makes is legal, so each change in it was made by the holder of control.
use Rattle.std.proofs.Common.{ℕ, List}
use Rattle.std.specs.declared.option.Option.{Option}
use Rattle.std.specs.declared.option.Option.TheVariants.{Some, None}
use Rattle.session_rules.specs.declared.entry.Entry.{Entry}
use Rattle.session_rules.specs.Journal.{Head, IsLegalJournal}
use Rattle.session_rules.specs.Steps.{journal_of_steps}
use Rattle.session_rules.proofs.Changes.{ChangesAreTheHolders-legal}
use Rattle.session_rules.proofs.Journals.{IsLegalJournal-journal_of_steps}
use Rattle.script_rules.specs.Script.{Asked, Script, Opening, opening_of}
use Rattle.script_rules.specs.Script.Opening.{NoSize, Unended, Opened}
use Rattle.headline.specs.Headline.{steps_of, IfOpened}
use Rattle.host_program.specs.Changes.{ChangedByHolders, StepsByHolders, ScriptByHolders}

pub changed : (head : Head) (j : List Entry) → IsLegalJournal head j → ChangedByHolders head j
changed head j legal = record { journal_is_legal = legal; changes_are_the_holders = ChangesAreTheHolders-legal head j legal }

pub steps_changed : (head : Head) (asked : List Asked) → StepsByHolders head asked
steps_changed head asked =
    let j = journal_of_steps head (steps_of asked) in
    changed head j (IsLegalJournal-journal_of_steps head (steps_of asked))

opening_changed : (o : Opening) → IfOpened o (λ (s : Script). StepsByHolders s.head s.asked)
opening_changed NoSize = tt
opening_changed Unended = tt
opening_changed (Opened s) = steps_changed s.head s.asked

pub script_changed : (left : Option (List ℕ)) → ScriptByHolders left
script_changed None = tt
script_changed (Some script) = opening_changed (opening_of script)
