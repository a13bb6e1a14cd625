-- What the send side of a viewer does.
use Rattle.std.specs.Prelude.{◌≡◌, ℕ, ◌≤◌, ⊤, ◌+◌, ◌||◌, ◌==◌, not, true, false, Option, Result, Ok, Err, List, [], ◌∷◌, ◌++◌, length, map}
use Rattle.std.specs.Io.KnownBytes.{Appends}
use Rattle.wire_num.specs.declared.out_of_memory.OutOfMemory.{OutOfMemory as NoMemory}
use Rattle.px_core.specs.declared.surface.Size.{Size}
use Rattle.px_core.specs.Tiles.{Tiles, all_tiles, share_tile}
use Rattle.caps_sets.specs.declared.confirmed.Confirmed.{Confirmed}
use Rattle.edge_io.specs.Faults.{Rose}
use Rattle.edge_io.specs.Outside.{Output}
use Rattle.session_rules.specs.declared.entry.Entry.{Entry}
use Rattle.session_rules.specs.Journal.{Head, is_present, reached_at}
use Rattle.session_rules.specs.Steps.{TakeOf, TakesFollow}
use Rattle.frame_rules.specs.Frame.{FrameOf, frame_of}
use Rattle.frame_rules.specs.FrameBytes.{joined_bytes, frame_bytes}
use Rattle.frame_rules.specs.Told.{told_after, key_at, pointer_bytes}
use Rattle.frame_rules.specs.Encoder.{Encoder, pointed_of_takes, encoder_after_takes, encoder_after_frame}
use Rattle.frame_plan.specs.Takes.{TakeModel, taken_as}
use Rattle.frame_plan.specs.declared.taken.Taken.{Taken}
use Rattle.frame_plan.specs.declared.taken.Taken.TheVariants.{Frame, Nothing}
use Rattle.viewer_sender.specs.Senders.{SenderModel, StandsFor, IsIdle, Follows, with_encoded}
use Rattle.viewer_sender.specs.OwnTakes.{IsOwnTake}
use Rattle.pointer_share.specs.Desk.{DeskOf, IsDeskOf, IsNoted, noted_with}
use Rattle.grow_lock.specs.Journal.{StartsWith}
use Rattle.serve_rules.specs.Turns.{SessionPass, IsTurn}
use Rattle.serve_rules.specs.Events.{IsWithin}
use Rattle.serve_rules.specs.declared.ends.ConnEnd.TheVariants.{Left, Refused, Truncated, NotInvited, RoomFull, JoinsSpent, ReadFault, WriteFault, NotStored, OutOfMemory}
use Rattle.serve_rules.specs.declared.ends.SideEnd.{SideEnd}
use Rattle.serve_rules.specs.declared.ends.SideEnd.TheVariants.{Done, Stopped}

-- ---- a take

-- the take that is due to a sender's viewer over a journal, where it has asked for these tiles
abbrev pub due : SenderModel → List Entry → Tiles → TakeOf
due s j asked = record { before = s.number; number = length j; asked = asked }

-- a take has work: the journal has grown since its viewer's last frame, or a tile is asked for
abbrev pub HasWork : Size → TakeOf → Type 0
HasWork size t = not (t.before == t.number) || share_tile size t.asked all_tiles ≡ true

-- a take found a frame of this journal, which is the sender's next; the pointer of this journal is noted for it, where the viewer has a desk for pointers
pub record TakesFrame (head : Head) (j : List Entry) (s s' : SenderModel) (d d' : Option DeskOf) (take : TakeModel) : Type 0 where
  pub asked : Tiles
  pub work : HasWork head.size (due s j asked)
  pub serial : take.serial ≡ s.taken
  pub size : take.size ≡ head.size
  pub frame : take.frame ≡ taken_as head.size (frame_of head.size s.confirmed j s.held (due s j asked))
  pub sender : s' ≡ record s { number = length j; held = (frame_of head.size s.confirmed j s.held (due s j asked)).held; taken = s.taken + 1 }
  pub own : IsOwnTake s.confirmed take
  pub desk : d' ≡ noted_with (key_at head.size j (length j)) d

-- a take found a frame or nothing, or memory was wanted; what is noted of the pointer changes with a frame alone
abbrev pub TakesAs : Head → List Entry → SenderModel → SenderModel → Option DeskOf → Option DeskOf → Result Taken NoMemory → Type 0
TakesAs head j s s' d d' (Ok (Frame take)) = TakesFrame head j s s' d d' take
TakesAs head j s s' d d' (Ok Nothing) = (s' ≡ s) × (d' ≡ d)
TakesAs head j s s' d d' (Err refusal) = (s' ≡ s) × (d' ≡ d)

-- a take in a turn of its own, in which nothing was appended
pub record TakesIn (head : Head) (before after : SessionPass) (s s' : SenderModel) (d d' : Option DeskOf) (taken : Result Taken NoMemory) : Type 0 where
  pub turn : IsTurn before after after.seen []
  pub takes : TakesAs head after.seen s s' d d' taken

-- a viewer isn't present after a journal
abbrev pub IsAbsent : Head → ℕ → List Entry → Type 0
IsAbsent head v j = is_present v (reached_at head.size j (length j)).viewers ≡ false

-- ---- its frame

-- a take's frame was encoded: its bytes, and the sender after it
pub record Encodes (s s' : SenderModel) (take : TakeModel) (bytes : List ℕ) : Type 0 where
  pub bytes_are : (e : Encoder) (f : FrameOf) → StandsFor s e → take.frame ≡ taken_as take.size f
      → bytes ≡ frame_bytes take.size s.confirmed e.registers e.uses f
  pub after : (e : Encoder) (f : FrameOf) → StandsFor s e → take.frame ≡ taken_as take.size f → StandsFor s' (encoder_after_frame take.size s.confirmed e f)
  pub rest : s' ≡ with_encoded s s'.registers s'.caches

-- an end that sending has: a write failed, what a frame shows couldn't be kept, memory was wanted, or it was stopped
abbrev pub IsSendEnd : SideEnd → Type 0
IsSendEnd Stopped = ⊤
IsSendEnd (Done Left) = ⊥
IsSendEnd (Done (Refused k at)) = ⊥
IsSendEnd (Done Truncated) = ⊥
IsSendEnd (Done NotInvited) = ⊥
IsSendEnd (Done RoomFull) = ⊥
IsSendEnd (Done JoinsSpent) = ⊥
IsSendEnd (Done ReadFault) = ⊥
IsSendEnd (Done WriteFault) = ⊤
IsSendEnd (Done NotStored) = ⊤
IsSendEnd (Done OutOfMemory) = ⊤

-- a fault of the output: a write failed, or what a frame shows couldn't be kept
abbrev pub IsFault : SideEnd → Type 0
IsFault Stopped = ⊥
IsFault (Done Left) = ⊥
IsFault (Done (Refused k at)) = ⊥
IsFault (Done Truncated) = ⊥
IsFault (Done NotInvited) = ⊥
IsFault (Done RoomFull) = ⊥
IsFault (Done JoinsSpent) = ⊥
IsFault (Done ReadFault) = ⊥
IsFault (Done WriteFault) = ⊤
IsFault (Done NotStored) = ⊤
IsFault (Done OutOfMemory) = ⊥

-- a front of these bytes was written, and at `Stopped` all of them
pub record WritesFrame (bytes : List ℕ) (old new : Output) (end : SideEnd) : Type 0 where
  pub written : List ℕ
  pub unwritten : List ℕ
  pub whole : bytes ≡ written ++ unwritten
  pub told : Appends old.told new.told written
  pub all : end ≡ Stopped → unwritten ≡ []
  pub only : IsSendEnd end
  pub cause : IsFault end → Rose old.faults new.faults
  pub calm : end ≡ Stopped → new.faults ≡ old.faults

-- a packet of a pointer, where there is one, and a frame behind it were written, or a front of both: of whatever was told and noted
pub record WritesPointed (d d' : Option DeskOf) (frame : List ℕ) (old new : Output) (end : SideEnd) : Type 0 where
  pub written : List ℕ
  pub told : Appends old.told new.told written
  pub bytes : (c : Confirmed) (keys : List ℕ) (key : ℕ) → IsDeskOf c keys d → IsNoted d key
      → (unwritten : List ℕ) × (pointer_bytes c keys key ++ frame ≡ written ++ unwritten) × (end ≡ Stopped → unwritten ≡ [])
  pub desk : end ≡ Stopped → (c : Confirmed) (keys : List ℕ) (key : ℕ) → IsDeskOf c keys d → IsNoted d key → IsDeskOf c (told_after keys key) d'
  pub only : IsSendEnd end
  pub cause : IsFault end → Rose old.faults new.faults
  pub calm : end ≡ Stopped → new.faults ≡ old.faults

-- a take's frame was written, and before it the packet of the pointer that was noted, where the viewer wasn't told that last; or a front of both where memory
-- or the output failed; the sender's number stays that of the take in any case
pub record SendsFrame (s s' : SenderModel) (d d' : Option DeskOf) (take : TakeModel) (old new : Output) (end : SideEnd) : Type 0 where
  pub written : List ℕ
  pub told : Appends old.told new.told written
  pub bytes : (e : Encoder) (f : FrameOf) → StandsFor s e → take.frame ≡ taken_as take.size f → (key : ℕ) → IsDeskOf s.confirmed e.told d → IsNoted d key
      → (unwritten : List ℕ) × (pointer_bytes s.confirmed e.told key ++ frame_bytes take.size s.confirmed e.registers e.uses f ≡ written ++ unwritten)
      × (end ≡ Stopped → unwritten ≡ [])
  pub after : end ≡ Stopped → (bytes : List ℕ) × Encodes s s' take bytes
  pub desk : end ≡ Stopped → (c : Confirmed) (keys : List ℕ) (key : ℕ) → IsDeskOf c keys d → IsNoted d key → IsDeskOf c (told_after keys key) d'
  pub number : s'.number ≡ s.number
  pub only : IsSendEnd end
  pub cause : IsFault end → Rose old.faults new.faults
  pub calm : end ≡ Stopped → new.faults ≡ old.faults

-- what a take found was sent
abbrev pub SendsTaken : Result Taken NoMemory → SenderModel → SenderModel → Option DeskOf → Option DeskOf → (old new : Output) → SideEnd → Type 0
SendsTaken (Ok (Frame take)) s s' d d' old new end = SendsFrame s s' d d' take old new end
SendsTaken (Ok Nothing) s s' d d' old new end = (s' ≡ s) × (d' ≡ d) × Appends old.told new.told [] × (end ≡ Stopped) × (new.faults ≡ old.faults)
SendsTaken (Err refusal) s s' d d' old new end = (s' ≡ s) × (d' ≡ d) × Appends old.told new.told [] × (end ≡ Done OutOfMemory) × (new.faults ≡ old.faults)

-- what a take found is the next to be encoded
abbrev pub IsNext : Result Taken NoMemory → SenderModel → Type 0
IsNext (Ok (Frame take)) s = (take.serial ≡ s.encoded) × IsOwnTake s.confirmed take
IsNext (Ok Nothing) s = ⊤
IsNext (Err refusal) s = ⊤

-- ---- all of them

-- each take found at least so much
abbrev pub AtLeast : ℕ → List TakeOf → Type 0
AtLeast low [] = ⊤
AtLeast low (t ∷ ts) = (low ≤ t.number) × AtLeast low ts

-- each take has work
abbrev pub HaveWork : Size → List TakeOf → Type 0
HaveWork size [] = ⊤
HaveWork size (t ∷ ts) = HasWork size t × HaveWork size ts

-- at each take its viewer is present, after so many of a journal's entries as the take found
abbrev pub IsPresentAtEach : Head → ℕ → List Entry → List TakeOf → Type 0
IsPresentAtEach head v j [] = ⊤
IsPresentAtEach head v j (t ∷ ts) = (is_present v (reached_at head.size j t.number).viewers ≡ true) × IsPresentAtEach head v j ts

-- a sender that follows an encoder, with the desk of its viewer's pointer where the encoder's told pointers lead
abbrev pub FollowsWith : SenderModel → Option DeskOf → Encoder → Type 0
FollowsWith s d e = Follows s e × IsDeskOf s.confirmed e.told d

-- what a send side did between two states of its pass, its sender with the desk of its viewer's pointer, and its output: the takes that it had frames of,
-- each in a turn of its own that found its viewer present, and a front of their bytes with pointers, or all of them at `Stopped`, from each encoder that the
-- sender and the desk follow; the sender's number is that of the last of them in any case, so no take that found a frame is left out
pub record SendsOn (head : Head) (before after : SenderModel) (d d' : Option DeskOf) (pass_before pass_after : SessionPass) (old new : Output)
    (end : SideEnd) : Type 0 where
  pub takes : List TakeOf
  pub last : ℕ
  pub up_to : after.number ≡ last
  pub follow : TakesFollow before.number takes last
  pub grows : StartsWith pass_after.seen pass_before.seen
  pub within_seen : last ≤ length pass_after.seen
  pub up_to_date : AtLeast (length pass_before.seen) takes
  pub present : IsPresentAtEach head before.v pass_after.seen takes
  pub work : HaveWork head.size takes
  pub more_found : List ℕ
  pub found : pass_after.found ≡ pass_before.found ++ more_found
  pub in_found : IsWithin (map (λ (t : TakeOf). t.number) takes) more_found
  pub written : List ℕ
  pub told : Appends old.told new.told written
  pub bytes : (e : Encoder) → FollowsWith before d e
      → (unwritten : List ℕ) × (joined_bytes (pointed_of_takes head.size before.confirmed pass_after.seen e takes) ≡ written ++ unwritten)
      × (end ≡ Stopped → unwritten ≡ [])
  pub after_is : end ≡ Stopped → (after.v ≡ before.v) × (after.confirmed ≡ before.confirmed) × (after.number ≡ last) × IsIdle after
      × ((e : Encoder) → FollowsWith before d e → FollowsWith after d' (encoder_after_takes head.size before.confirmed pass_after.seen e takes))
  pub only : IsSendEnd end
  pub cause : IsFault end → Rose old.faults new.faults
  pub calm : end ≡ Stopped → new.faults ≡ old.faults
