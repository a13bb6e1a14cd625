-- What of a client's service was done.
use Rattle.std.specs.Prelude.{◌≡◌, ℕ, zero, suc, ◌≤◌, Bool, true, false, List, [], ◌++◌, length, ⊤}
use Rattle.std.specs.Io.KnownBytes.{Appends, Consumes, Keeps}
use Rattle.std.specs.declared.option.Option.{Option}
use Rattle.std.specs.declared.option.Option.TheVariants.{Some, None}
use Rattle.std.specs.declared.result.Result.{Result}
use Rattle.std.specs.declared.result.Result.TheVariants.{Ok, Err}
use Rattle.px_core.specs.declared.surface.Size.{Size}
use Rattle.edge_io.specs.Outside.{Outside}
use Rattle.edge_io.specs.Sink.{WritesFront}
use Rattle.headline.specs.Fronts.{IsFront}
use Rattle.session_rules.specs.Journal.{Head}
use Rattle.script_rules.specs.CaptureText.{Run, run_at_first, sent_from, encoder_frames}
use Rattle.headline.specs.Headline.{ConfirmAllCaches, EveryViewerSeesTheJournal}
use Rattle.conn_rules.specs.Hearing.{is_over, silent, heard}
use Rattle.wire_num.specs.declared.out_of_memory.OutOfMemory.{OutOfMemory}
use Rattle.conn_core.specs.declared.conn_fault.ConnFault.{ConnFault}
use Rattle.conn_core.specs.declared.conn_fault.ConnFault.TheVariants as conn
use Rattle.conn_core.specs.Kept.{IsUnrefused}
use Rattle.conn_rules.specs.Placed.{AreBytes}
use Rattle.conn_rules.specs.Sound.{IsRefusalNumber, IsSound}
use Rattle.conn_rules.specs.Progress.{Progress, progress_of}
use Rattle.conn_rules.specs.Progress.Progress.{Connecting, Ready, Ended}
use Rattle.answer_run.specs.Asking.{Guest, owners_head, guest_after_all}
use Rattle.answer_run.specs.Asking.Guest.{Coming, Viewing, TurnedAway}
use Rattle.answer_run.specs.Service.{Service, heard_of, last_word, asked_of, written_of, service_after}
use Rattle.answer_run.specs.Service.{ultimatum_of, ending_of, answer_of, asked_of_stream, ending_of_stream, answer_of_stream}
use Rattle.answer_run.specs.Cut.{read_room, WritesHandedBytes, WritesAFront}
use Rattle.answer_run.specs.Visits.{IsGuest, IsReady, frames_by, run_by_steps}
use Rattle.answer_run.specs.declared.visitor.Visitor.{Visitor}
use Rattle.conn_rules.specs.declared.conn_step.ConnStep.{ConnStep}
use Rattle.frame_rules.specs.Encoder.{Encoder}
use Rattle.answer_run.specs.declared.ending.Ending.{Ending}
use Rattle.answer_run.specs.declared.ending.Ending.TheVariants as ending
use Rattle.answer_run.specs.declared.serving.Serving.{Serving}
use Rattle.answer_run.specs.declared.fault.AnswerFault.{AnswerFault}
use Rattle.answer_run.specs.declared.fault.AnswerFault.TheVariants as fault

-- ---- answers

-- the fault that an ending is answered with, none where it is well
abbrev pub fault_of : Ending → Option AnswerFault
fault_of ending.Left = None
fault_of ending.AskedForEnd = None
fault_of (ending.Refused k at) = Some (fault.Refused k at)
fault_of ending.Truncated = Some fault.Truncated
fault_of ending.NotInvited = Some fault.NotInvited

-- it is answered so
abbrev pub IsAnswerOf : Result (Unit {0}) AnswerFault → Ending → Type 0
IsAnswerOf (Ok x) how = fault_of how ≡ None
IsAnswerOf (Err why) how = fault_of how ≡ Some why

-- a refusal has a number from 1 to 14
abbrev pub IsNumbered : Ending → Type 0
IsNumbered ending.Left = ⊤
IsNumbered ending.AskedForEnd = ⊤
IsNumbered (ending.Refused k at) = IsRefusalNumber k
IsNumbered ending.Truncated = ⊤
IsNumbered ending.NotInvited = ⊤

abbrev pub IsNumberedFault : AnswerFault → Type 0
IsNumberedFault (fault.Refused k at) = IsRefusalNumber k
IsNumberedFault fault.Truncated = ⊤
IsNumberedFault fault.NotInvited = ⊤
IsNumberedFault fault.ReadFault = ⊤
IsNumberedFault fault.WriteFault = ⊤
IsNumberedFault fault.OutOfMemory = ⊤

-- where a source tells its bytes, this is said of them
abbrev pub Tells : Option (List ℕ) → (List ℕ → Type 0) → Type 0
Tells None says = ⊤
Tells (Some bytes) says = says bytes

-- a client was served by all of its stream: what was written is its answer, and by that it is told why; what was written behind the replies, but for
-- a last ultimatum, is the client's frames and the pointers before them: without the pointers they aren't refused and leave no rest, and their marks
-- show the pictures after exactly as many entries of the journal as its takes found; with them the pointers after those
pub record ServesStream (size : Size) (owner : List ℕ) (why : Option AnswerFault) (stream : List ℕ) (told telling : Option (List ℕ)) : Type 0 where
  pub ends : fault_of (ending_of_stream size owner stream) ≡ why
  pub written : Appends told telling (answer_of_stream size owner stream)
  pub shows_journal : EveryViewerSeesTheJournal (owners_head size owner) (asked_of_stream size owner stream)
      (sent_from encoder_frames (owners_head size owner) (run_at_first encoder_frames size) (asked_of_stream size owner stream))

-- what was done where the input tells the client's stream, of which it has this left: all of its answer was written, and this is how it ends. After a
-- failed read exactly what is due for the bytes that were handed out stands there; after a failed write, or want of memory, what is due for those
-- before the last read, and then a front of what is due for the bytes of that read
abbrev pub RunsAnswer : Result (Unit {0}) AnswerFault → Size → List ℕ → (left rest told telling : Option (List ℕ)) → Type 0
RunsAnswer (Ok x) size owner left rest told telling = Tells left (λ stream. ServesStream size owner None stream told telling)
RunsAnswer (Err (fault.Refused k at)) size owner left rest told telling = Tells left
    (λ stream. ServesStream size owner (Some (fault.Refused k at)) stream told telling)
RunsAnswer (Err fault.Truncated) size owner left rest told telling = Tells left (λ stream. ServesStream size owner (Some fault.Truncated) stream told telling)
RunsAnswer (Err fault.NotInvited) size owner left rest told telling = Tells left (λ stream. ServesStream size owner (Some fault.NotInvited) stream told telling)
RunsAnswer (Err fault.ReadFault) size owner left rest told telling = Tells left (λ stream. WritesHandedBytes size owner stream rest told telling)
RunsAnswer (Err fault.WriteFault) size owner left rest told telling = Tells left (λ stream. WritesAFront size owner stream rest told telling)
RunsAnswer (Err fault.OutOfMemory) size owner left rest told telling = Tells left (λ stream. WritesAFront size owner stream rest told telling)

-- ---- a service in its course

-- a client is as far as it may be while its stream is: only one that is still to come connects
abbrev pub IsAsFar : Guest → Progress → Type 0
IsAsFar (Coming name) Connecting = ⊤
IsAsFar (Coming name) Ready = ⊥
IsAsFar (Coming name) Ended = ⊤
IsAsFar Viewing Connecting = ⊥
IsAsFar Viewing Ready = ⊤
IsAsFar Viewing Ended = ⊤
IsAsFar TurnedAway Connecting = ⊥
IsAsFar TurnedAway Ready = ⊤
IsAsFar TurnedAway Ended = ⊤

-- the code stands where this service does
pub record IsServiceOf (head : Head) (serving : Serving) (s : Service) : Type 0 where
  pub hearing : serving.conn.hearing ≡ s.hearing
  pub sound : serving.conn.spent ≡ false
  pub visitor : IsGuest head serving.visitor s.guest s.run
  pub ready : IsReady serving.visitor
  pub as_far : IsAsFar s.guest (progress_of s.hearing.stage)
  pub part : AreBytes s.hearing.part
  pub still : heard s.hearing [] ≡ silent s.hearing
  pub unrefused : IsUnrefused s.hearing.stage
  pub safe : IsSound s.hearing.stage

-- what is due for these bytes of one service is this text, and then what is due for those of another
pub record GoesOn (head : Head) (s : Service) (bytes text : List ℕ) (t : Service) (left : List ℕ) : Type 0 where
  pub answer : answer_of head s bytes ≡ text ++ answer_of head t left
  pub ending : ending_of head s bytes ≡ ending_of head t left
  pub caches : ConfirmAllCaches (asked_of head t left) → ConfirmAllCaches (asked_of head s bytes)

abbrev pub Continues : (before now : Option (List ℕ)) → Head → Service → List ℕ → Service → Type 0
Continues None now head s text t = ⊤
Continues (Some bytes) None head s text t = ⊥
Continues (Some bytes) (Some left) head s text t = GoesOn head s bytes text t left

-- these bytes of a service give this text, and it ends so
pub record Gives (head : Head) (s : Service) (text : List ℕ) (how : Ending) (bytes : List ℕ) : Type 0 where
  pub answer : answer_of head s bytes ≡ text
  pub ending : ending_of head s bytes ≡ how
  pub caches : ConfirmAllCaches (asked_of head s bytes)

-- all of it was, and it ended so
pub record ServedAll (head : Head) (s : Service) (how : Ending) (before : Outside) (telling : Option (List ℕ)) : Type 0 where
  pub text : List ℕ
  pub written : Appends before.output.told telling text
  pub gives : Tells before.input.left (Gives head s text how)
  pub number : IsNumbered how

-- a text begins with all that is due for the bytes before the last read, and is a front of what is due with those of it, whatever follows
pub record IsServedFront (head : Head) (s : Service) (served last text : List ℕ) : Type 0 where
  pub served_first : IsFront (written_of head s served) text
  pub is_front : (more : List ℕ) → IsFront text (answer_of head s ((served ++ last) ++ more))

-- bytes were read and served but for the last read, of which a front of what is due was written
pub record ServedAFront (head : Head) (s : Service) (before now : Outside) : Type 0 where
  pub served : List ℕ
  pub last : List ℕ
  pub text : List ℕ
  pub are_handed : Consumes before.input.left now.input.left (served ++ last)
  pub at_once : length last ≤ read_room
  pub written : Appends before.output.told now.output.told text
  pub front : IsServedFront head s served last text

-- nothing that comes after these bytes counts: the stream is over or refused, or the client wasn't let in
pub data IsClosed (head : Head) (s : Service) (bytes : List ℕ) : Type 0 where
  Over : is_over (service_after head s bytes).hearing.stage ≡ true → IsClosed head s bytes
  Away : (service_after head s bytes).guest ≡ TurnedAway → IsClosed head s bytes

-- bytes were done, and the service goes on
pub record PieceDone (head : Head) (s : Service) (bytes : List ℕ) (new : Serving) (told telling : Option (List ℕ)) : Type 0 where
  pub is_service : IsServiceOf head new (service_after head s bytes)
  pub written : Appends told telling (written_of head s bytes)
  pub unended : last_word (heard_of s bytes).steps ≡ None
  pub caches : ConfirmAllCaches (asked_of head s bytes)

-- bytes were read and served, and the service goes on
pub record WentOn (head : Head) (s : Service) (new : Serving) (before now : Outside) : Type 0 where
  pub handed : List ℕ
  pub is_handed : Consumes before.input.left now.input.left handed
  pub done : PieceDone head s handed new before.output.told now.output.told

-- bytes were done, and with them the service
pub record PieceEnds (head : Head) (s : Service) (bytes : List ℕ) (how : Ending) (told telling : Option (List ℕ)) : Type 0 where
  pub is : ending_of head s bytes ≡ how
  pub written : Appends told telling (answer_of head s bytes)
  pub closed : IsClosed head s bytes
  pub number : IsNumbered how
  pub caches : ConfirmAllCaches (asked_of head s bytes)

-- a front of what is due for bytes was written, whatever follows them
pub record PieceStops (head : Head) (s : Service) (bytes : List ℕ) (told telling : Option (List ℕ)) : Type 0 where
  pub text : List ℕ
  pub written : Appends told telling text
  pub is_front : (more : List ℕ) → IsFront text (answer_of head s (bytes ++ more))

-- what bytes did
abbrev pub ServedPiece : Result (Option Ending) AnswerFault → Head → Service → List ℕ → Serving → (told telling : Option (List ℕ)) → Type 0
ServedPiece (Ok None) head s bytes new told telling = PieceDone head s bytes new told telling
ServedPiece (Ok (Some how)) head s bytes new told telling = PieceEnds head s bytes how told telling
ServedPiece (Err why) head s bytes new told telling = PieceStops head s bytes told telling

-- a read failed: it took nothing, and nothing was written
abbrev pub ReadFails : (before now : Outside) → Type 0
ReadFails before now = Keeps before.input.left now.input.left × Keeps before.output.told now.output.told

-- how far a service was done that a fault ends
abbrev pub StopsBy : AnswerFault → Head → Service → (before now : Outside) → Type 0
StopsBy (fault.Refused k at) head s before now = ⊥
StopsBy fault.Truncated head s before now = ⊥
StopsBy fault.NotInvited head s before now = ⊥
StopsBy fault.ReadFault head s before now = ReadFails before now
StopsBy fault.WriteFault head s before now = ServedAFront head s before now
StopsBy fault.OutOfMemory head s before now = ServedAFront head s before now

-- what the next bytes did: the service goes on, or it ended; or it was stopped by a fault
abbrev pub ServedNext : Result (Option Ending) AnswerFault → Head → Service → Serving → (before now : Outside) → Type 0
ServedNext (Ok None) head s new before now = WentOn head s new before now
ServedNext (Ok (Some how)) head s new before now = ServedAll head s how before now.output.told
ServedNext (Err why) head s new before now = StopsBy why head s before now

-- ---- what was heard

-- how a service ends with what was heard, if it does: of a client that wasn't let in; that is refused so; that said this
abbrev pub end_of_piece : Guest → Option Ending → Option Ending → Option Ending
end_of_piece (Coming name) None word = word
end_of_piece (Coming name) (Some refusal) word = Some refusal
end_of_piece Viewing None word = word
end_of_piece Viewing (Some refusal) word = Some refusal
end_of_piece TurnedAway refusal word = Some ending.NotInvited

-- replies and frames, which are due for what was heard
abbrev pub heard_text : Head → Guest → Run Encoder → List ℕ → List ConnStep → List ℕ
heard_text head g run replies steps = replies ++ frames_by head g run steps

abbrev pub end_of_heard : Head → Guest → List ConnStep → Option Ending → Option Ending
end_of_heard head g steps refusal = end_of_piece (guest_after_all head g steps) refusal (last_word steps)

-- it was done up to an end, of which a front was written
pub record StopsAtEnd (head : Head) (g : Guest) (run : Run Encoder) (replies : List ℕ) (steps : List ConnStep) (refusal : Option Ending)
    (told telling : Option (List ℕ)) : Type 0 where
  pub how : Ending
  pub is : end_of_heard head g steps refusal ≡ Some how
  pub front : WritesFront told telling (heard_text head g run replies steps ++ ultimatum_of how)

-- a front of what is due was written
pub data StopsHeard (head : Head) (g : Guest) (run : Run Encoder) (replies : List ℕ) (steps : List ConnStep) (refusal : Option Ending)
    (told telling : Option (List ℕ)) : Type 0 where
  Before : WritesFront told telling (heard_text head g run replies steps) → StopsHeard head g run replies steps refusal told telling
  AtEnd : StopsAtEnd head g run replies steps refusal told telling → StopsHeard head g run replies steps refusal told telling

-- what was heard was done
abbrev pub HeardDone : Result (Option Ending) AnswerFault → Head → Guest → Run Encoder → List ℕ → List ConnStep → Option Ending → Visitor
    → (told telling : Option (List ℕ)) → Type 0
HeardDone (Ok None) head g run replies steps refusal new told telling = (end_of_heard head g steps refusal ≡ None)
    × IsGuest head new (guest_after_all head g steps) (run_by_steps head g run steps) × Appends told telling (heard_text head g run replies steps)
HeardDone (Ok (Some how)) head g run replies steps refusal new told telling = (end_of_heard head g steps refusal ≡ Some how)
    × Appends told telling (heard_text head g run replies steps ++ ultimatum_of how)
HeardDone (Err why) head g run replies steps refusal new told telling = StopsHeard head g run replies steps refusal told telling

-- whatever client the code's one is, and whatever run it stands for
abbrev pub DoesHeard : Result (Option Ending) AnswerFault → Head → List ℕ → List ConnStep → Option Ending → (old new : Visitor)
    → (told telling : Option (List ℕ)) → Type 0
DoesHeard result head replies steps refusal old new told telling =
    (g : Guest) (run : Run Encoder) → IsGuest head old g run → HeardDone result head g run replies steps refusal new told telling

-- how a service ends with what was heard, by whether the client is let in
abbrev pub end_if : Bool → Option Ending → Option Ending → Option Ending
end_if true None word = word
end_if true (Some refusal) word = Some refusal
end_if false refusal word = Some ending.NotInvited

-- an end was written with its ultimatum, if there is one; or a front of the ultimatum was
abbrev pub EndsHeard : Result (Option Ending) AnswerFault → Option Ending → (told telling : Option (List ℕ)) → Type 0
EndsHeard (Ok None) end told telling = (end ≡ None) × Appends told telling []
EndsHeard (Ok (Some how)) end told telling = (end ≡ Some how) × Appends told telling (ultimatum_of how)
EndsHeard (Err why) end told telling = (how : Ending) × (end ≡ Some how) × WritesFront told telling (ultimatum_of how)

-- what a connection answers as the end of a service; want of memory is none
abbrev pub IsRefusal : Result (Unit {0}) ConnFault → Result (Option Ending) OutOfMemory → Type 0
IsRefusal (Ok x) (Ok None) = ⊤
IsRefusal (Ok x) (Ok (Some how)) = ⊥
IsRefusal (Ok x) (Err why) = ⊥
IsRefusal (Err (conn.Refused k at)) (Ok None) = ⊥
IsRefusal (Err (conn.Refused k at)) (Ok (Some how)) = how ≡ ending.Refused k at
IsRefusal (Err (conn.Refused k at)) (Err why) = ⊥
IsRefusal (Err conn.OutOfMemory) (Ok refusal) = ⊥
IsRefusal (Err conn.OutOfMemory) (Err why) = ⊤

-- how a viewer's service ends with no more bytes, by how many are there of a packet that isn't whole
abbrev pub end_of_part : ℕ → Ending
end_of_part zero = ending.Left
end_of_part (suc n) = ending.Truncated
