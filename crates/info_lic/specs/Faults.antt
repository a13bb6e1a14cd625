-- Which fault a Client Info PDU has, apart from reading: all before its place is the front of a PDU without a fault, and then
-- exactly this fault stands there.
use Rattle.std.specs.Prelude.{◌≡◌, ◌⊎◌, ℕ, List, ◌++◌, length}
use Rattle.wire_num.specs.Grammar.{IsText}
use Rattle.wire_num.specs.Refusal.{IsRefusedAt}
use Rattle.info_lic.specs.declared.info_fault.InfoFault.{InfoFault}
use Rattle.info_lic.specs.declared.info_fault.InfoFault.TheVariants.{BadInfo}
use Rattle.info_lic.specs.ClientInfo.{info_start, counts_of, info_texts}

-- a field before the texts isn't there; or one of the texts, or its terminator. Left are the bytes from the place on.
abbrev pub HasFault : List ℕ → List ℕ → Type 0
HasFault bytes left =
    IsRefusedAt info_start bytes left
    ⊎ ((values : List ℕ) × (texts : List ℕ) × IsText info_start bytes values texts × IsRefusedAt (info_texts (counts_of values)) texts left)

-- the first fault has this place
pub record FaultStandsAt (bytes : List ℕ) (at : ℕ) : Type 0 where
  pub front : List ℕ
  pub left : List ℕ
  pub whole : bytes ≡ front ++ left
  pub place : length front ≡ at
  pub fault : HasFault bytes left

-- the first fault is the one that is told
abbrev pub IsFirstFault : List ℕ → InfoFault → Type 0
IsFirstFault bytes (BadInfo at) = FaultStandsAt bytes at
