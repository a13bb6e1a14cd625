-- A viewer's frames, from its first one on.
use Rattle.std.specs.Prelude.{◌≡◌, ℕ, ◌≤◌, Option, List, [], ◌∷◌, ◌++◌, length, map}
use Rattle.std.specs.Io.KnownBytes.{Appends}
use Rattle.px_core.specs.Tiles.{Tiles}
use Rattle.caps_sets.specs.declared.confirmed.Confirmed.{Confirmed}
use Rattle.edge_io.specs.Faults.{Rose}
use Rattle.edge_io.specs.Outside.{Output}
use Rattle.session_rules.specs.declared.entry.Entry.{Entry}
use Rattle.session_rules.specs.Journal.{Head}
use Rattle.session_rules.specs.Steps.{TakeOf, TakesFollow}
use Rattle.frame_rules.specs.FrameBytes.{joined_bytes}
use Rattle.frame_rules.specs.Encoder.{first_encoder, pointed_bytes, encoder_after, pointed_of_takes, encoder_after_takes}
use Rattle.viewer_sender.specs.Senders.{SenderModel, IsIdle}
use Rattle.pointer_share.specs.Desk.{DeskOf}
use Rattle.grow_lock.specs.Journal.{StartsWith}
use Rattle.serve_rules.specs.Turns.{SessionPass}
use Rattle.serve_rules.specs.Events.{IsWithin}
use Rattle.serve_rules.specs.declared.ends.SideEnd.{SideEnd}
use Rattle.serve_rules.specs.declared.ends.SideEnd.TheVariants.{Stopped}
use Rattle.viewer_run.specs.Sending.{AtLeast, HaveWork, IsPresentAtEach, IsSendEnd, IsFault, FollowsWith}

-- a viewer's first take, over the journal of its Join's turn
abbrev pub first_take : List Entry → Tiles → TakeOf
first_take j asked = record { before = 0; number = length j; asked = asked }

-- the pointer and the frame of a viewer's first take were written, or a front of both where memory or the output failed; after it the sender and the desk of
-- the viewer's pointer follow the encoder, and the sender's number is the take's in any case
pub record FirstSent (head : Head) (v : ℕ) (confirmed : Confirmed) (j : List Entry) (sender : SenderModel) (desk : Option DeskOf) (old new : Output)
    (end : SideEnd) : Type 0 where
  pub asked : Tiles
  pub written : List ℕ
  pub unwritten : List ℕ
  pub bytes : pointed_bytes head.size confirmed j first_encoder (first_take j asked) ≡ written ++ unwritten
  pub told : Appends old.told new.told written
  pub all : end ≡ Stopped → unwritten ≡ []
  pub up_to : sender.number ≡ length j
  pub after_is : end ≡ Stopped → (sender.v ≡ v) × (sender.confirmed ≡ confirmed) × (sender.number ≡ length j) × IsIdle sender
      × FollowsWith sender desk (encoder_after head.size confirmed j first_encoder (first_take j asked))
  pub only : IsSendEnd end
  pub cause : IsFault end → Rose old.faults new.faults
  pub calm : end ≡ Stopped → new.faults ≡ old.faults

-- a viewer's frames from the first on, between its Join's turn and another state of the pass: each later take in a turn of its own behind it that found the
-- viewer present; a front of the bytes of all with pointers, in order, was written, and at `Stopped` all of them; the sender's number is the last take's in
-- any case
pub record FramesSent (head : Head) (v : ℕ) (confirmed : Confirmed) (sender : SenderModel) (desk : Option DeskOf) (joined after : SessionPass)
    (old new : Output) (end : SideEnd) : Type 0 where
  pub asked : Tiles
  pub later : List TakeOf
  pub last : ℕ
  pub up_to : sender.number ≡ last
  pub follow : TakesFollow 0 (first_take joined.seen asked ∷ later) last
  pub grows : StartsWith after.seen joined.seen
  pub within_seen : last ≤ length after.seen
  pub up_to_date : AtLeast (length joined.seen) later
  pub present : IsPresentAtEach head v after.seen later
  pub work : HaveWork head.size later
  pub more_found : List ℕ
  pub found : after.found ≡ joined.found ++ more_found
  pub in_found : IsWithin (map (λ (t : TakeOf). t.number) later) more_found
  pub written : List ℕ
  pub unwritten : List ℕ
  pub bytes : joined_bytes (pointed_of_takes head.size confirmed after.seen first_encoder (first_take joined.seen asked ∷ later)) ≡ written ++ unwritten
  pub told : Appends old.told new.told written
  pub all : end ≡ Stopped → unwritten ≡ []
  pub after_is : end ≡ Stopped → (sender.v ≡ v) × (sender.confirmed ≡ confirmed) × (sender.number ≡ last) × IsIdle sender
      × FollowsWith sender desk (encoder_after_takes head.size confirmed after.seen first_encoder (first_take joined.seen asked ∷ later))
  pub only : IsSendEnd end
  pub cause : IsFault end → Rose old.faults new.faults
  pub calm : end ≡ Stopped → new.faults ≡ old.faults
