-- The viewer's command line: one simple command with the number of a viewer, as clap reads it.
use Rattle.std.specs.Prelude.{ℕ, List, [], Option, codes, true, unwrap_or}
use Rattle.clap.specs.Words.{App, Rule, new_app, new_rule, with_rule, first_of, Row}
use Rattle.script_rules.specs.Capture.{viewer_word}
use Rattle.command_words.specs.Reading.{read_by}

-- the number, which must be there
abbrev pub viewer_rule : Rule
viewer_rule = record (new_rule (codes "V")) { required = true }

abbrev pub look_command : App
look_command = with_rule (new_app (codes "rdp_look")) viewer_rule

-- the viewer of the values that were found
abbrev pub viewer_in : List Row → Option ℕ
viewer_in rows = viewer_word (unwrap_or (first_of (codes "V") rows) [])

-- the viewer that words name, the program's name first: a number from 1 to 65,535
abbrev pub viewer_of_words : List (List ℕ) → Option ℕ
viewer_of_words words = read_by look_command viewer_in words
