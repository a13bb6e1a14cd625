-- A service that ends with a refusal has its number.
use Rattle.std.proofs.Common.{ℕ, zero, suc, List, [], ◌∷◌, length}
use Rattle.std.specs.Prelude.{Bool, true, false, ⊤, Option, Some, None}
use Rattle.session_rules.specs.Journal.{Head}
use Rattle.conn_rules.specs.declared.conn_step.ConnStep.{ConnStep}
use Rattle.conn_rules.specs.declared.conn_step.ConnStep.TheVariants as step
use Rattle.conn_rules.specs.declared.stage.Stage.{Stage}
use Rattle.conn_rules.specs.declared.stage.Stage.TheVariants as stage
use Rattle.conn_rules.specs.Hearing.{StreamEnd, end_within, end_by}
use Rattle.conn_rules.specs.Hearing.StreamEnd.{Between, Within, RefusedAt}
use Rattle.conn_rules.specs.Sound.{IsRefusalNumber, IsSound}
use Rattle.conn_rules.proofs.SoundSteps.{heard_sound}
use Rattle.answer_run.specs.Asking.{Guest, guest_after_all}
use Rattle.answer_run.specs.Asking.Guest.{Coming, Viewing, TurnedAway}
use Rattle.answer_run.specs.declared.ending.Ending.{Ending}
use Rattle.answer_run.specs.declared.fault.AnswerFault.{AnswerFault}
use Rattle.answer_run.specs.declared.fault.AnswerFault.TheVariants as fault
use Rattle.answer_run.specs.Service.{Service, heard_of, last_word, ending_at, ending_by, ending_of}
use Rattle.answer_run.specs.Visits.{IsFault}
use Rattle.answer_run.specs.Serves.{IsNumbered, IsNumberedFault}

-- how a stream ends, by its number where it is refused
abbrev IsNumberedEnd : StreamEnd → Type 0
IsNumberedEnd Between = ⊤
IsNumberedEnd (Within n) = ⊤
IsNumberedEnd (RefusedAt k at) = IsRefusalNumber k

within_numbered : (n : ℕ) → IsNumberedEnd (end_within n)
within_numbered zero = tt
within_numbered (suc n) = tt

end_numbered : (s : Stage) (n : ℕ) → IsSound s → IsNumberedEnd (end_by s n)
end_numbered stage.Request n p = within_numbered n
end_numbered (stage.Initial asked) n p = within_numbered n
end_numbered (stage.Erect client) n p = within_numbered n
end_numbered (stage.Attach client) n p = within_numbered n
end_numbered (stage.Joins client user io) n p = within_numbered n
end_numbered (stage.Shares channels here) n p = within_numbered n
end_numbered stage.Over n p = tt
end_numbered (stage.Refused k at) n p = p

-- a step that ends a service is no refusal
abbrev IsNumberedWord : Option Ending → Type 0
IsNumberedWord None = ⊤
IsNumberedWord (Some how) = IsNumbered how

word_numbered : (steps : List ConnStep) → IsNumberedWord (last_word steps)
word_numbered [] = tt
word_numbered (step.Named name ∷ steps) = word_numbered steps
word_numbered (step.Ready confirmed ∷ steps) = word_numbered steps
word_numbered (step.Event event ∷ steps) = word_numbered steps
word_numbered (step.Refresh area ∷ steps) = word_numbered steps
word_numbered (step.Suppress stop ∷ steps) = word_numbered steps
word_numbered (step.Shutdown ∷ steps) = tt
word_numbered (step.Bye ∷ steps) = tt
word_numbered (step.Packet ∷ steps) = word_numbered steps

ending_numbered : (end : StreamEnd) (viewing : Bool) (word : Option Ending) → IsNumberedEnd end → IsNumberedWord word → IsNumbered (ending_at end viewing word)
ending_numbered (RefusedAt k at) viewing word p q = p
ending_numbered (Within n) viewing word p q = tt
ending_numbered Between viewing (Some how) p q = q
ending_numbered Between true None p q = tt
ending_numbered Between false None p q = tt

by_numbered : (g : Guest) (end : StreamEnd) (word : Option Ending) → IsNumberedEnd end → IsNumberedWord word → IsNumbered (ending_by g end word)
by_numbered (Coming name) end word p q = ending_numbered end false word p q
by_numbered Viewing end word p q = ending_numbered end true word p q
by_numbered TurnedAway end word p q = tt

pub service_numbered : (head : Head) (s : Service) (bytes : List ℕ) → IsSound s.hearing.stage → IsNumbered (ending_of head s bytes)
service_numbered head s bytes p =
    let x = heard_of s bytes in
    by_numbered (guest_after_all head s.guest x.steps) _ (last_word x.steps)
    (end_numbered x.after.stage (length x.after.part) (heard_sound s.hearing bytes p).1) (word_numbered x.steps)

pub fault_numbered : (why : AnswerFault) → IsFault why → IsNumberedFault why
fault_numbered (fault.Refused k at) f = absurd f
fault_numbered fault.Truncated f = tt
fault_numbered fault.NotInvited f = tt
fault_numbered fault.ReadFault f = tt
fault_numbered fault.WriteFault f = tt
fault_numbered fault.OutOfMemory f = tt
