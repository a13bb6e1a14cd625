-- How a call answers its step, and what becomes of the journal.
use Rattle.std.specs.Prelude.{◌≡◌, ◌++◌, ⊤, List, Option, Some, None, option_to_list}
use Rattle.session_rules.specs.declared.entry.Entry.{Entry}
use Rattle.session_rules.specs.Steps.{Answer}
use Rattle.session_rules.specs.Steps.Answer.{Joined, Left, Accepted, Refused, Nothing, Frame}

-- an answer is the step's; want of memory, which is no answer of a step, may come in its place
abbrev pub IsAnswered : Option Answer → Answer → Type 0
IsAnswered None answer = ⊤
IsAnswered (Some given) answer = given ≡ answer

-- after an answer the journal has the step's entry, if it has one; a step that is refused has none
abbrev pub Answers : Answer → Option Entry → List Entry → List Entry → Type 0
Answers (Joined v) entry old new = new ≡ old ++ option_to_list entry
Answers Left entry old new = new ≡ old ++ option_to_list entry
Answers Accepted entry old new = new ≡ old ++ option_to_list entry
Answers (Refused refusal) entry old new = (new ≡ old) × (entry ≡ None)
Answers Nothing entry old new = new ≡ old
Answers (Frame t) entry old new = new ≡ old

-- likewise where want of memory, which changes nothing, may have come
abbrev pub GoesOn : Option Answer → Option Entry → List Entry → List Entry → Type 0
GoesOn None entry old new = new ≡ old
GoesOn (Some answer) entry old new = Answers answer entry old new
