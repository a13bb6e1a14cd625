-- Which fault a share PDU has, apart from reading: all before its place is the front of a PDU without a fault, and then exactly this
-- fault stands there.
use Rattle.std.specs.Prelude.{◌≡◌, ◌<◌, ◌⊎◌, ℕ, ◌%◌, true, false, List, [], ◌∷◌, ◌++◌, length}
use Rattle.wire_num.specs.FieldValue.{has_bits}
use Rattle.wire_num.specs.Grammar.{IsText}
use Rattle.wire_num.specs.Refusal.{IsRefusedAt}
use Rattle.share_pdu.specs.declared.share_fault.Cause.{Cause}
use Rattle.share_pdu.specs.declared.share_fault.Cause.TheVariants.{Broken, Packed}
use Rattle.share_pdu.specs.declared.share_fault.ShareFault.{ShareFault}
use Rattle.share_pdu.specs.declared.share_fault.ShareFault.TheVariants.{BadShare, Compressed}
use Rattle.share_pdu.specs.Bodies.{synchronize_body, control_body, suppress_body, refresh_header, inclusive_area}
use Rattle.share_pdu.specs.ClientPdu.{total_length, control_header, data_header}
use Rattle.share_pdu.specs.Areas.{Area, AreAreas}
use Rattle.share_pdu.specs.Grammar.{Kind, ControlKind, InputKind, SynchronizeKind, RefreshKind, SuppressKind, ShutdownKind, FontListKind, KeyListKind}
use Rattle.share_pdu.specs.Grammar.{OtherKind, kind_of, IsCounted, HasType, IsNamed, IsData}

-- Left are the bytes from the place on.

-- the number of areas isn't there; or behind whole areas, fewer than are counted, a coordinate isn't there
abbrev pub HasBadAreas : List ℕ → List ℕ → Type 0
HasBadAreas body left =
    IsRefusedAt refresh_header body left
    ⊎ ((count : ℕ) × (counted : List ℕ) × (areas : List Area) × (rest : List ℕ) × IsText refresh_header body (count ∷ []) counted
    × AreAreas counted areas rest × (length areas < count) × IsRefusedAt inclusive_area rest left)

-- a field of the body isn't there, or breaks its rule; other kinds have none
abbrev pub HasBadBody : Kind → List ℕ → List ℕ → Type 0
HasBadBody ControlKind body left = IsRefusedAt control_body body left
HasBadBody InputKind body left = ⊥
HasBadBody SynchronizeKind body left = IsRefusedAt synchronize_body body left
HasBadBody RefreshKind body left = HasBadAreas body left
HasBadBody SuppressKind body left = IsRefusedAt suppress_body body left
HasBadBody ShutdownKind body left = ⊥
HasBadBody FontListKind body left = ⊥
HasBadBody KeyListKind body left = ⊥
HasBadBody OtherKind body left = ⊥

-- behind pduType2 no compressedType is there; or one that says that the PDU isn't compressed, and then fewer than two bytes
abbrev pub LacksLength : List ℕ → List ℕ → Type 0
LacksLength described left =
    ((described ≡ []) × (left ≡ []))
    ⊎ ((type : ℕ) × (described ≡ type ∷ left) × (has_bits 0x20 type ≡ false) × (length left < 2))

-- compressedType says that the PDU is compressed
abbrev pub IsPacked : List ℕ → List ℕ → Type 0
IsPacked described left = (type : ℕ) × (more : List ℕ) × (described ≡ type ∷ more) × (has_bits 0x20 type ≡ true) × (left ≡ described)

-- a field of the data headers isn't there, or the body is bad
abbrev pub HasBadData : List ℕ → List ℕ → Type 0
HasBadData pdu left =
    ((type : ℕ) × (fields : List ℕ) × HasType pdu type fields × (type % 16 ≡ 7) × IsRefusedAt data_header fields left)
    ⊎ (((kind : ℕ) × (described : List ℕ) × IsNamed pdu kind described × LacksLength described left)
    ⊎ ((kind : ℕ) × (body : List ℕ) × IsData pdu kind body × HasBadBody (kind_of kind) body left))

-- what is wrong with the first field that is
abbrev pub HasFault : Cause → List ℕ → List ℕ → Type 0
HasFault Broken pdu left = IsRefusedAt control_header pdu left ⊎ HasBadData pdu left
HasFault Packed pdu left = (kind : ℕ) × (described : List ℕ) × IsNamed pdu kind described × IsPacked described left

-- the first fault of a PDU has this place
pub record FaultStandsAt (cause : Cause) (pdu : List ℕ) (at : ℕ) : Type 0 where
  pub front : List ℕ
  pub left : List ℕ
  pub whole : pdu ≡ front ++ left
  pub place : length front ≡ at
  pub fault : HasFault cause pdu left

-- the bytes begin with a PDU whose first fault is this
abbrev pub HasFaultAt : Cause → List ℕ → ℕ → Type 0
HasFaultAt cause bytes at = (pdu : List ℕ) × IsCounted bytes pdu × FaultStandsAt cause pdu at

-- no total is there, or none that can be: that is refused at the first byte
abbrev pub HasNoTotal : List ℕ → ℕ → Type 0
HasNoTotal bytes at = ((left : List ℕ) × IsRefusedAt (total_length (length bytes)) bytes left) × (at ≡ 0)

-- the first fault is the one that is told
abbrev pub IsFirstFault : List ℕ → ShareFault → Type 0
IsFirstFault bytes (BadShare at) = HasNoTotal bytes at ⊎ HasFaultAt Broken bytes at
IsFirstFault bytes (Compressed at) = HasFaultAt Packed bytes at
