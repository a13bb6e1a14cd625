-- The host's command line: one simple command with a mode and arguments, as clap reads it.
use Rattle.std.specs.Prelude.{ℕ, List, [], Option, Some, codes, true, unwrap_or}
use Rattle.clap.specs.Words.{App, Rule, new_app, new_rule, with_rule, first_of, all_of, Row}
use Rattle.clap.specs.declared.builder.action.ArgAction.TheVariants.{Set}
use Rattle.command_words.specs.Reading.{read_by}

-- the mode, which must be there
abbrev pub mode_rule : Rule
mode_rule = record (new_rule (codes "MODE")) { required = true }

-- the arguments behind it, at most 68 (profile)
abbrev pub args_rule : Rule
args_rule = record (new_rule (codes "ARGS")) { action = Some Set; range = Some (record { start_inclusive = 0; end_inclusive = 68 }) }

abbrev pub host_command : App
host_command = with_rule (with_rule (new_app (codes "rdp_host")) mode_rule) args_rule

-- what a command line asks for
pub record RequestOf : Type 0 where
  pub mode : List ℕ
  pub args : List (List ℕ)

-- the request of the values that were found
abbrev pub request_in : List Row → RequestOf
request_in rows = record { mode = unwrap_or (first_of (codes "MODE") rows) []; args = unwrap_or (all_of (codes "ARGS") rows) [] }

-- what words ask for, the program's name first
abbrev pub request_of : List (List ℕ) → Option RequestOf
request_of words = read_by host_command (λ rows. Some (request_in rows)) words
