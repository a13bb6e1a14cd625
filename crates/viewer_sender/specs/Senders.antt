-- A sender as contracts see it, and which encoders it stands for.
use Rattle.std.specs.Prelude.{◌≡◌, ℕ, ◌+◌, Bool, false, List, Option}
use Rattle.caps_sets.specs.declared.confirmed.Confirmed.{Confirmed}
use Rattle.cache_plan.specs.Kept.{Kept}
use Rattle.order_fields.specs.OrderTable.{Registers}
use Rattle.save_plan.specs.Blocks.{Held}
use Rattle.frame_rules.specs.Encoder.{Encoder}
use Rattle.frame_plan.specs.Takes.{DeskModel}
use Rattle.frame_rules.specs.Describes.{HasAllCaches}
use Rattle.viewer_sender.specs.declared.writer.FrameWriter.{FrameWriter}
use Rattle.viewer_sender.specs.Gathering.{nothing_gathered}
use Rattle.viewer_sender.specs.Stands.{CachesStand}

-- a viewer and what it confirmed; the number of its last take, the blocks held after it, and how many frames it was given; how many of them were encoded,
-- and whether one of them failed; the registers and the caches after the last encoded frame
pub record SenderModel : Type 0 where
  pub v : ℕ
  pub confirmed : Confirmed
  pub number : ℕ
  pub held : Held
  pub taken : ℕ
  pub encoded : ℕ
  pub spent : Bool
  pub registers : Registers
  pub caches : List (Option Kept)

-- what its takes are planned with
abbrev pub desk_of : SenderModel → DeskModel
desk_of s = record { v = s.v; confirmed = s.confirmed; number = s.number; held = s.held; taken = s.taken }

-- the sender after a take
abbrev pub with_desk : SenderModel → DeskModel → SenderModel
with_desk s d = record s { number = d.number; held = d.held; taken = d.taken }

-- the sender after an encoded frame, with these registers and caches
abbrev pub with_encoded : SenderModel → Registers → List (Option Kept) → SenderModel
with_encoded s registers caches = record s { encoded = s.encoded + 1; registers = registers; caches = caches }

-- what holds of every sender: what its viewer confirmed has all caches, and unless the sender is spent its writer is for that, and no order is on its way
pub record IsSender (c : Confirmed) (writer : FrameWriter) (spent : Bool) : Type 0 where
  pub same : spent ≡ false → writer.confirmed ≡ c
  pub all : HasAllCaches c
  pub empty : spent ≡ false → writer.updates ≡ nothing_gathered writer.updates.fast

-- the sender's registers are the encoder's, and its caches stand for the encoder's uses
pub record StandsFor (s : SenderModel) (e : Encoder) : Type 0 where
  pub registers : s.registers ≡ e.registers
  pub caches : CachesStand s.confirmed s.caches e.uses

-- each take of the sender was encoded
pub record IsIdle (s : SenderModel) : Type 0 where
  pub all : s.encoded ≡ s.taken
  pub sound : s.spent ≡ false

-- between its rounds a sender also has the encoder's blocks
abbrev pub Follows : SenderModel → Encoder → Type 0
Follows s e = StandsFor s e × (s.held ≡ e.held)
