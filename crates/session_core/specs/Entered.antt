-- An entry that an event or a drawing is to make: its answer, and itself where it is legal.
use Rattle.std.specs.Prelude.{Option}
use Rattle.session_rules.specs.declared.entry.Entry.{Entry}
use Rattle.session_rules.specs.Journal.{Head, Reached, refusal_of}
use Rattle.session_rules.specs.Steps.{Answer, entered}
use Rattle.session_rules.specs.Steps.Answer.{Accepted}
use Rattle.session_rules.specs.Entering.{play_of}

abbrev pub answer_of_entry : Head → Reached → Entry → Answer
answer_of_entry head r e = (entered head (play_of head r) e Accepted (refusal_of head r e)).answer

abbrev pub entry_entered : Head → Reached → Entry → Option Entry
entry_entered head r e = (entered head (play_of head r) e Accepted (refusal_of head r e)).entry
