-- A viewer's seat as contracts see it, which encoders it follows, and what it gives.
use Rattle.std.specs.Prelude.{◌≡◌, ℕ, Bool, true, false, List, [], ◌++◌, length, Option, Some, None, Vec, Result, Ok, Err}
use Rattle.wire_num.specs.declared.out_of_memory.OutOfMemory.{OutOfMemory as NoMemory}
use Rattle.caps_sets.specs.declared.confirmed.Confirmed.{Confirmed}
use Rattle.session_core.specs.SessionModel.{SessionModel}
use Rattle.frame_rules.specs.Frame.{FrameOf}
use Rattle.frame_rules.specs.FrameBytes.{frame_bytes}
use Rattle.frame_rules.specs.Told.{key_at, told_after, pointer_bytes}
use Rattle.frame_rules.specs.Encoder.{Encoder, first_encoder, encoder_after_frame, with_told}
use Rattle.frame_plan.specs.Takes.{TakeModel, taken_as}
use Rattle.frame_plan.specs.Plans.{frame_at}
use Rattle.frame_plan.specs.declared.taken.Taken.{Taken}
use Rattle.frame_plan.specs.declared.taken.Taken.TheVariants.{Frame, Nothing}
use Rattle.pointer_share.specs.Desk.{DeskOf, IsDeskOf, IsNoted, noted_with}
use Rattle.viewer_sender.specs.Senders.{SenderModel, StandsFor, Follows, IsIdle, desk_of}
use Rattle.viewer_sender.specs.Shown.{Shows}

-- a viewer's sender, and the desk of its pointer, if it has pointer cells
pub record SeatModel : Type 0 where
  pub sender : SenderModel
  pub desk : Option DeskOf

-- the seat of a viewer that confirmed this, was given no frame and was told no pointer
pub record IsNewSeat (v : ℕ) (c : Confirmed) (s : SeatModel) : Type 0 where
  pub viewer : s.sender.v ≡ v
  pub confirmed : s.sender.confirmed ≡ c
  pub number : s.sender.number ≡ 0
  pub held : s.sender.held ≡ []
  pub taken : s.sender.taken ≡ 0
  pub encoded : s.sender.encoded ≡ 0
  pub sound : s.sender.spent ≡ false
  pub stands : StandsFor s.sender first_encoder
  pub desk : IsDeskOf c [] s.desk

-- the seat follows an encoder: its sender does, and the desk is where the encoder's told pointers lead
abbrev pub SeatFollows : SeatModel → Encoder → Type 0
SeatFollows s e = Follows s.sender e × IsDeskOf s.sender.confirmed e.told s.desk

-- the key of a session's pointer
abbrev pub key_of : SessionModel → ℕ
key_of session = key_at session.head.size session.journal (length session.journal)

-- the desk of a viewer's pointer after a take, where the session's pointer has this key: it is noted with a frame alone
abbrev pub desk_after : Result Taken NoMemory → ℕ → Option DeskOf → Option DeskOf
desk_after (Ok (Frame take)) key d = noted_with key d
desk_after (Ok Nothing) key d = d
desk_after (Err refusal) key d = d

-- ---- an encoded take

-- a frame stands behind the packet that tells the pointer that was noted, which is none where that is the one told last; whatever was told and noted
pub record IsPointed (old new : Option DeskOf) (frame out : List ℕ) : Type 0 where
  pub packet : List ℕ
  pub whole : out ≡ packet ++ frame
  pub tells : (c : Confirmed) (told : List ℕ) (key : ℕ) → IsDeskOf c told old → IsNoted old key → packet ≡ pointer_bytes c told key
  pub leads : (c : Confirmed) (told : List ℕ) (key : ℕ) → IsDeskOf c told old → IsNoted old key → IsDeskOf c (told_after told key) new

-- a take was encoded: its frame's bytes stand behind that packet, and show what a sender's do
pub record IsEncoded (old new : SeatModel) (take : TakeModel) (out : List ℕ) : Type 0 where
  pub frame : List ℕ
  pub pointed : IsPointed old.desk new.desk frame out
  pub bytes : (e : Encoder) (f : FrameOf) → StandsFor old.sender e → take.frame ≡ taken_as take.size f
      → frame ≡ frame_bytes take.size old.sender.confirmed e.registers e.uses f
  pub shows : Shows old.sender new.sender take frame

-- ---- a take and its bytes

-- the bytes of a frame, where there is one
abbrev pub bytes_given : {Z : Type 0} → Option (Vec ℕ Z) → Option (List ℕ)
bytes_given None = None
bytes_given (Some bytes) = Some bytes.items

-- what a take with work gives: the packet of its pointer, if that is told, and its frame; one without gives nothing
abbrev pub sent_if : Bool → SessionModel → SenderModel → Encoder → Option (List ℕ)
sent_if true session s e =
    Some (pointer_bytes s.confirmed e.told (key_of session) ++ frame_bytes session.head.size s.confirmed e.registers e.uses (frame_at session (desk_of s)))
sent_if false session s e = None

-- the viewer's encoder after it
abbrev pub encoder_if : Bool → SessionModel → SenderModel → Encoder → Encoder
encoder_if true session s e = with_told (key_of session) (encoder_after_frame session.head.size s.confirmed e (frame_at session (desk_of s)))
encoder_if false session s e = e

-- the number of the viewer's last frame after it
abbrev pub number_if : Bool → SessionModel → SenderModel → ℕ
number_if true session s = length session.journal
number_if false session s = s.number

-- a seat was asked for what is due, and what it took was encoded, behind the pointer that its desk told
pub record HasSent (work : Bool) (session : SessionModel) (old new : SeatModel) (sent : Option (List ℕ)) : Type 0 where
  pub frame : (e : Encoder) → SeatFollows old e → sent ≡ sent_if work session old.sender e
  pub follows : (e : Encoder) → SeatFollows old e → SeatFollows new (encoder_if work session old.sender e)
  pub left : work ≡ false → new ≡ old
  pub viewer : new.sender.v ≡ old.sender.v
  pub confirmed : new.sender.confirmed ≡ old.sender.confirmed
  pub number : new.sender.number ≡ number_if work session old.sender
  pub idle : IsIdle new.sender
