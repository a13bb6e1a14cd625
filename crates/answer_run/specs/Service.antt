-- What a client is sent, and how its service ends: as functions of its stream.
use Rattle.std.specs.Prelude.{ℕ, Bool, true, false, List, [], ◌∷◌, ◌++◌, Option, Some, None}
use Rattle.px_core.specs.declared.surface.Size.{Size}
use Rattle.session_rules.specs.Journal.{Head}
use Rattle.frame_rules.specs.Encoder.{Encoder}
use Rattle.script_rules.specs.Script.{Asked}
use Rattle.script_rules.specs.CaptureText.{Run, run_at_first, run_after_all, sent_from, encoder_frames}
use Rattle.mcs_dom.specs.Ultimatum.{ultimatum_packet}
use Rattle.conn_rules.specs.declared.conn_step.ConnStep.{ConnStep}
use Rattle.conn_rules.specs.declared.conn_step.ConnStep.TheVariants as step
use Rattle.conn_rules.specs.Hearing.{Hearing, Heard, StreamEnd, heard, first_hearing, end_of}
use Rattle.conn_rules.specs.Hearing.StreamEnd.{Between, Within, RefusedAt}
use Rattle.answer_run.specs.Asking.{Guest, first_guest, client, owners_head, asked_from, guest_after_all}
use Rattle.answer_run.specs.Asking.Guest.{Coming, Viewing, TurnedAway}
use Rattle.answer_run.specs.declared.ending.Ending.{Ending}
use Rattle.answer_run.specs.declared.ending.Ending.TheVariants.{Left, AskedForEnd, Refused, Truncated, NotInvited}

-- ---- how a service ends

-- the first step that ends a service
abbrev pub last_word : List ConnStep → Option Ending
last_word [] = None
last_word (step.Named name ∷ steps) = last_word steps
last_word (step.Ready confirmed ∷ steps) = last_word steps
last_word (step.Event event ∷ steps) = last_word steps
last_word (step.Refresh area ∷ steps) = last_word steps
last_word (step.Suppress stop ∷ steps) = last_word steps
last_word (step.Shutdown ∷ steps) = Some AskedForEnd
last_word (step.Bye ∷ steps) = Some Left
last_word (step.Packet ∷ steps) = last_word steps

-- how a stream ends that ends so, of a client that is viewing or not, which said this
abbrev pub ending_at : StreamEnd → Bool → Option Ending → Ending
ending_at (RefusedAt k at) viewing word = Refused k at
ending_at (Within n) viewing word = Truncated
ending_at Between viewing (Some ending) = ending
ending_at Between true None = Left
ending_at Between false None = Truncated

-- where a client wasn't let in nothing after that counts
abbrev pub ending_by : Guest → StreamEnd → Option Ending → Ending
ending_by (Coming name) end word = ending_at end false word
ending_by Viewing end word = ending_at end true word
ending_by TurnedAway end word = NotInvited

-- the end that a stream brings which stands so and said this, whatever follows: it is refused, or it said its last word
abbrev pub end_said : StreamEnd → Option Ending → Option Ending
end_said (RefusedAt k at) word = Some (Refused k at)
end_said (Within n) word = word
end_said Between word = word

-- a client that wasn't let in is at its end
abbrev pub end_met : Guest → StreamEnd → Option Ending → Option Ending
end_met (Coming name) end word = end_said end word
end_met Viewing end word = end_said end word
end_met TurnedAway end word = Some NotInvited

-- the ultimatum that is the last of what is written: 21 80 where the client asked for the end, 20 80 where it was refused
abbrev pub ultimatum_of : Ending → List ℕ
ultimatum_of Left = []
ultimatum_of AskedForEnd = ultimatum_packet 3
ultimatum_of (Refused k at) = ultimatum_packet 1
ultimatum_of Truncated = []
ultimatum_of NotInvited = ultimatum_packet 1

-- ---- a service in its course

-- what was heard of the client's stream, who it is, and the run of the session
pub record Service : Type 0 where
  pub hearing : Hearing
  pub guest : Guest
  pub run : Run Encoder

abbrev pub first_service : Size → Service
first_service size = record { hearing = first_hearing size; guest = first_guest; run = run_at_first encoder_frames size }

abbrev pub heard_of : Service → List ℕ → Heard
heard_of s bytes = heard s.hearing bytes

-- what the next bytes ask for
abbrev pub asked_of : Head → Service → List ℕ → List Asked
asked_of head s bytes = asked_from head s.guest (heard_of s bytes).steps

-- the frames that the client is sent for them, with the pointers before them
abbrev pub frames_of : Head → Service → List ℕ → List ℕ
frames_of head s bytes = sent_from encoder_frames head s.run (asked_of head s bytes) client

-- all that is written for them while the service goes on: replies, and then frames with the pointers before them
abbrev pub written_of : Head → Service → List ℕ → List ℕ
written_of head s bytes = (heard_of s bytes).replies ++ frames_of head s bytes

abbrev pub service_after : Head → Service → List ℕ → Service
service_after head s bytes = record {
  hearing = (heard_of s bytes).after;
  guest = guest_after_all head s.guest (heard_of s bytes).steps;
  run = run_after_all encoder_frames head s.run (asked_of head s bytes);
}

-- the end that these bytes bring whatever follows them, where they bring one
abbrev pub end_so_far : Head → Service → List ℕ → Option Ending
end_so_far head s bytes = end_met (guest_after_all head s.guest (heard_of s bytes).steps) (end_of (heard_of s bytes).after) (last_word (heard_of s bytes).steps)

-- how the service ends where these are the last bytes
abbrev pub ending_of : Head → Service → List ℕ → Ending
ending_of head s bytes = ending_by (guest_after_all head s.guest (heard_of s bytes).steps) (end_of (heard_of s bytes).after)
    (last_word (heard_of s bytes).steps)

-- all that is written then
abbrev pub answer_of : Head → Service → List ℕ → List ℕ
answer_of head s bytes = written_of head s bytes ++ ultimatum_of (ending_of head s bytes)

-- ---- the whole service of a client

-- what a client's stream asks for
abbrev pub asked_of_stream : Size → List ℕ → List ℕ → List Asked
asked_of_stream size owner stream = asked_of (owners_head size owner) (first_service size) stream

-- the replies to it
abbrev pub replies_of_stream : Size → List ℕ → List ℕ → List ℕ
replies_of_stream size owner stream = (heard_of (first_service size) stream).replies

-- the frames that it is sent
abbrev pub frames_of_stream : Size → List ℕ → List ℕ → List ℕ
frames_of_stream size owner stream = frames_of (owners_head size owner) (first_service size) stream

-- all that is due for the first bytes of it, as long as the service goes on: the replies of the connection, then the frames
abbrev pub written_of_stream : Size → List ℕ → List ℕ → List ℕ
written_of_stream size owner bytes = written_of (owners_head size owner) (first_service size) bytes

-- the end that they bring, where they bring one
abbrev pub end_so_far_of_stream : Size → List ℕ → List ℕ → Option Ending
end_so_far_of_stream size owner bytes = end_so_far (owners_head size owner) (first_service size) bytes

-- how its service ends
abbrev pub ending_of_stream : Size → List ℕ → List ℕ → Ending
ending_of_stream size owner stream = ending_of (owners_head size owner) (first_service size) stream

-- all that is written: the replies of the connection, then the frames, and then an ultimatum where one is due
abbrev pub answer_of_stream : Size → List ℕ → List ℕ → List ℕ
answer_of_stream size owner stream = answer_of (owners_head size owner) (first_service size) stream
