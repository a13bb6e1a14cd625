-- Which fault a Confirm Active PDU has, apart from reading: all before its place is the front of a PDU without a fault, and then exactly this fault stands
-- there.
use Rattle.std.specs.Prelude.{◌≡◌, ◌<◌, ◌⊎◌, ℕ, ◌+◌, List, [], ◌∷◌, ◌++◌, length}
use Rattle.wire_num.specs.Grammar.{IsText}
use Rattle.wire_num.specs.Refusal.{IsRefusedAt}
use Rattle.caps_sets.specs.declared.caps_fault.CapsFault.{CapsFault}
use Rattle.caps_sets.specs.declared.caps_fault.CapsFault.TheVariants.{BadCaps}
use Rattle.caps_sets.specs.CapabilitySets.{kind_of, least_length}
use Rattle.caps_sets.specs.ConfirmActive.{confirm_lengths, confirm_counts, set_header}
use Rattle.caps_sets.specs.Grammar.{Set, AreSets}

-- Left are the bytes from the place on.

-- A set's header isn't all there; or it is there, and its length is below the least one of its kind, or goes past the end: the place is the set's first byte
-- then.
abbrev pub HasBadSet : List ℕ → List ℕ → Type 0
HasBadSet bytes left =
    IsRefusedAt set_header bytes left
    ⊎ ((type : ℕ) × (size : ℕ) × (more : List ℕ) × IsText set_header bytes (type ∷ size ∷ []) more
    × ((size < least_length (kind_of type)) ⊎ (4 + length more < size)) × (left ≡ bytes))

-- a field before the sets isn't there; or behind whole sets, fewer than are counted, a bad one stands
abbrev pub HasFault : List ℕ → List ℕ → Type 0
HasFault bytes left =
    IsRefusedAt confirm_lengths bytes left
    ⊎ (((source : ℕ) × (described : List ℕ) × IsText confirm_lengths bytes (source ∷ []) described × IsRefusedAt (confirm_counts source) described left)
    ⊎ ((source : ℕ) × (described : List ℕ) × (count : ℕ) × (counted : List ℕ) × (sets : List Set) × (rest : List ℕ)
    × IsText confirm_lengths bytes (source ∷ []) described × IsText (confirm_counts source) described (count ∷ []) counted
    × AreSets counted sets rest × (length sets < count) × HasBadSet rest left))

-- the first fault has this place
pub record FaultStandsAt (bytes : List ℕ) (at : ℕ) : Type 0 where
  pub front : List ℕ
  pub left : List ℕ
  pub whole : bytes ≡ front ++ left
  pub place : length front ≡ at
  pub fault : HasFault bytes left

-- the first fault is the one that is told
abbrev pub IsFirstFault : List ℕ → CapsFault → Type 0
IsFirstFault bytes (BadCaps at) = FaultStandsAt bytes at
