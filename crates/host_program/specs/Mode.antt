-- The modes, and which one words ask for.
use Rattle.std.specs.Prelude.{ℕ, List, Bool, true, false, ◌==◌, ⊤, Option, Some, None, length, codes, if◌then◌else◌}
use Rattle.std.specs.Option.{option_map, option_and_then}
use Rattle.std.specs.Bool.{then_some}
use Rattle.line_text.specs.Words.{is_same_word}
use Rattle.command_words.specs.HostWords.{RequestOf, request_of}
use Rattle.host_program.specs.Answering.{client_of_args, IsServable}
use Rattle.host_program.specs.Loading.{load_of_args}
use Rattle.host_program.specs.Recording.{stop_of_args}
use Rattle.host_program.specs.Serving.{hosting_of_args, IsHostable}
use Rattle.host_program.specs.declared.mode.Mode.{Mode}
use Rattle.host_program.specs.declared.mode.Mode.TheVariants.{Script, Record, Answer, Demo, Replay, Serve}

-- a mode that has no argument, where there is none
abbrev pub without_args : Mode → List (List ℕ) → Option Mode
without_args mode args = then_some (length args == 0) mode

-- the mode that a word names, by these arguments
abbrev pub mode_with : List ℕ → List (List ℕ) → Option Mode
mode_with word args =
    if is_same_word word (codes "script") then without_args Script args else
    if is_same_word word (codes "record") then without_args Record args else
    if is_same_word word (codes "answer") then option_map Answer (client_of_args args) else
    if is_same_word word (codes "demo") then option_map Demo (load_of_args args) else
    if is_same_word word (codes "replay") then option_map Replay (stop_of_args args) else
    if is_same_word word (codes "serve") then option_map Serve (hosting_of_args args) else None

-- the mode that a request asks for
abbrev pub mode_of_request : RequestOf → Option Mode
mode_of_request request = mode_with request.mode request.args

-- the mode that the words of a command line ask for, the program's name first
abbrev pub mode_of : List (List ℕ) → Option Mode
mode_of words = option_and_then mode_of_request (request_of words)

-- the mode reads the input
abbrev pub reads_input : Mode → Bool
reads_input Script = true
reads_input Record = true
reads_input (Answer client) = true
reads_input (Demo load) = false
reads_input (Replay stop) = true
reads_input (Serve hosting) = false

-- the mode opens the gate
abbrev pub opens_gate : Mode → Bool
opens_gate Script = false
opens_gate Record = false
opens_gate (Answer client) = false
opens_gate (Demo load) = false
opens_gate (Replay stop) = false
opens_gate (Serve hosting) = true

-- likewise what words ask for, if they ask for a mode
abbrev pub reads_if : Option Mode → Bool
reads_if None = false
reads_if (Some mode) = reads_input mode

abbrev pub opens_if : Option Mode → Bool
opens_if None = false
opens_if (Some mode) = opens_gate mode

-- what is asked for can be done: whom a mode serves may be served
abbrev pub IsRunnable : Mode → Type 0
IsRunnable Script = ⊤
IsRunnable Record = ⊤
IsRunnable (Answer client) = IsServable client
IsRunnable (Demo load) = ⊤
IsRunnable (Replay stop) = ⊤
IsRunnable (Serve hosting) = IsHostable hosting
