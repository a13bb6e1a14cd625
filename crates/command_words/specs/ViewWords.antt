-- The network viewer's command line: one simple command with a port, a name, a number of marks and preset words, as clap reads it.
use Rattle.std.specs.Prelude.{ℕ, ◌==◌, Bool, true, List, [], Option, Some, None, codes, unwrap_or, if◌then◌else◌}
use Rattle.std.specs.Bool.{then_some}
use Rattle.std.specs.List.{list_any}
use Rattle.std.specs.Option.{option_map, option_and_then}
use Rattle.clap.specs.Words.{App, Rule, new_app, new_rule, with_rule, first_of, all_of, Row}
use Rattle.clap.specs.Lexer.{usize_max}
use Rattle.clap.specs.declared.builder.action.ArgAction.TheVariants.{Set}
use Rattle.caps_sets.specs.declared.confirmed.Confirmed.{Confirmed}
use Rattle.caps_sets.specs.Presets.{presets, is_pointer_word, confirmed_by}
use Rattle.script_rules.specs.Script.{is_name}
use Rattle.script_rules.specs.Capture.{number_between}
use Rattle.command_words.specs.Reading.{read_by}

-- an argument with one value, which must be there
abbrev pub word_rule : List ℕ → Rule
word_rule id = record (new_rule id) { required = true }

-- the preset words, one at least
abbrev pub preset_rule : Rule
preset_rule = record (new_rule (codes "PRESET")) { action = Some Set; range = Some (record { start_inclusive = 1; end_inclusive = usize_max }); required = true }

abbrev pub view_command : App
view_command = with_rule (with_rule (with_rule (with_rule (new_app (codes "rdp_view")) (word_rule (codes "PORT"))) (word_rule (codes "NAME")))
    (word_rule (codes "MARKS"))) preset_rule

-- what is asked for: the host's port, the name to join by, how many marks are watched, and what is confirmed
pub record ViewingOf : Type 0 where
  pub port : ℕ
  pub name : List ℕ
  pub marks : ℕ
  pub confirmed : Confirmed

abbrev pub viewing : (port : ℕ) (name : List ℕ) (marks : ℕ) → Confirmed → ViewingOf
viewing port name marks confirmed = record { port = port; name = name; marks = marks; confirmed = confirmed }

abbrev pub has_space : List ℕ → Bool
has_space word = list_any (λ b. b == 32) word

-- what preset words confirm, each of them one word of the command; a viewer of this program keeps no pointers, so no word says how many
abbrev pub preset_of : List (List ℕ) → Option Confirmed
preset_of words = if list_any is_pointer_word words then None else (if list_any has_space words then None else confirmed_by presets words)

-- a port and a number of marks are 1 to 65,535
abbrev pub count_of_word : List ℕ → Option ℕ
count_of_word word = number_between 1 65535 word

abbrev pub viewing_of_words : (port name marks : List ℕ) → List (List ℕ) → Option ViewingOf
viewing_of_words port name marks preset = option_and_then (λ p. option_and_then (λ n. option_and_then (λ m. option_map (viewing p n m)
    (preset_of preset)) (count_of_word marks)) (then_some (is_name name) name)) (count_of_word port)

-- what the values that were found ask for
abbrev pub viewing_in : List Row → Option ViewingOf
viewing_in rows = viewing_of_words (unwrap_or (first_of (codes "PORT") rows) []) (unwrap_or (first_of (codes "NAME") rows) [])
    (unwrap_or (first_of (codes "MARKS") rows) []) (unwrap_or (all_of (codes "PRESET") rows) [])

-- what words ask for, the program's name first
abbrev pub view_of_words : List (List ℕ) → Option ViewingOf
view_of_words words = read_by view_command viewing_in words
