-- What domain PDUs are, apart from reading: which bytes stand there, and what they say.
use Rattle.std.specs.Prelude.{◌≡◌, ◌≤◌, ◌⊎◌, ℕ, ◌+◌, ◌*◌, ◌/◌, ◌%◌, true, List, [], ◌∷◌, ◌++◌, length}
use Rattle.byteorder.specs.Endian.{big_number}
use Rattle.wire_num.specs.declared.range.Range.{Range}
use Rattle.wire_num.specs.FieldValue.{has_bits}
use Rattle.wire_num.specs.Grammar.{IsPacked}
use Rattle.tpkt_x224.specs.Grammar.{IsBrokenAt}
use Rattle.mcs_dom.specs.declared.domain_pdu.DomainPdu.{DomainPdu}
use Rattle.mcs_dom.specs.declared.domain_pdu.DomainPdu.TheVariants.{Erect, Attach, Join, Data, Bye}
use Rattle.mcs_dom.specs.ErectDomain.{erect_domain_request}
use Rattle.mcs_dom.specs.AttachUser.{attach_user_request}
use Rattle.mcs_dom.specs.ChannelJoin.{channel_join_request}
use Rattle.mcs_dom.specs.SendData.{send_data_request}
use Rattle.mcs_dom.specs.Ultimatum.{ultimatum, basic_bytes, basic_ultimatum}
use Rattle.mcs_dom.specs.DomainPdu.{Choice, ErectDomainRequest, AttachUserRequest, ChannelJoinRequest, SendDataRequest, DisconnectProviderUltimatum}
use Rattle.mcs_dom.specs.DomainPdu.{BasicUltimatum, Other, choice_of}

-- choice; subHeight and subInterval, each a byte that counts its bytes, and the bytes; any bytes may follow
pub record IsErectDomain (bytes : List ℕ) : Type 0 where
  pub height : List ℕ
  pub interval : List ℕ
  pub more : List ℕ
  pub whole : bytes ≡ 4 ∷ length height ∷ (height ++ (length interval ∷ (interval ++ more)))

-- two bytes are a user channel: what it is above 1001, with which it is still below 65,536
pub record IsUser (text : List ℕ) (user : ℕ) : Type 0 where
  pub two : length text ≡ 2
  pub is : user ≡ 1001 + big_number 2 text
  pub fits : user ≤ 65535

-- two bytes are a channel
pub record IsChannel (text : List ℕ) (channel : ℕ) : Type 0 where
  pub two : length text ≡ 2
  pub is : channel ≡ big_number 2 text

-- choice; initiator; channelId
pub record IsJoin (bytes : List ℕ) (user channel : ℕ) : Type 0 where
  pub initiator : List ℕ
  pub id : List ℕ
  pub whole : bytes ≡ 56 ∷ (initiator ++ id)
  pub by : IsUser initiator user
  pub to : IsChannel id channel

-- bytes that end with so many ones have them from one place on to another
pub record IsEndOf (bytes part : List ℕ) (place : Range) : Type 0 where
  pub before : List ℕ
  pub whole : bytes ≡ before ++ part
  pub from : place.from ≡ length before
  pub to : place.to ≡ length bytes

-- choice; initiator; channelId; priority, and both bits of a segmentation that begins and ends here; the packed length of
-- userData; userData, which are the last bytes
pub record IsData (bytes : List ℕ) (user channel : ℕ) (body : Range) : Type 0 where
  pub initiator : List ℕ
  pub id : List ℕ
  pub flags : ℕ
  pub count : List ℕ
  pub carried : List ℕ
  pub whole : bytes ≡ 100 ∷ (initiator ++ (id ++ (flags ∷ (count ++ carried))))
  pub by : IsUser initiator user
  pub on : IsChannel id channel
  pub segmentation : has_bits 48 flags ≡ true
  pub counted : IsPacked count (length carried)
  pub place : IsEndOf bytes carried body

-- two bytes, whose first six bits choose, and whose next three are a reason of T.125
pub record IsUltimatum (bytes : List ℕ) (reason : ℕ) : Type 0 where
  pub first : ℕ
  pub second : ℕ
  pub whole : bytes ≡ first ∷ second ∷ []
  pub least : 32 ≤ first
  pub most : first ≤ 34
  pub is : reason ≡ 2 * (first % 4) + second / 128
  pub known : reason ≤ 4

-- an ultimatum, or the eight bytes that stand for one of reason 3
abbrev pub IsBye : List ℕ → ℕ → Type 0
IsBye bytes reason = IsUltimatum bytes reason ⊎ ((bytes ≡ basic_bytes) × (reason ≡ 3))

-- these bytes are that PDU
abbrev pub IsDomainPdu : List ℕ → DomainPdu → Type 0
IsDomainPdu bytes Erect = IsErectDomain bytes
IsDomainPdu bytes Attach = bytes ≡ 40 ∷ []
IsDomainPdu bytes (Join user channel) = IsJoin bytes user channel
IsDomainPdu bytes (Data user channel body) = IsData bytes user channel body
IsDomainPdu bytes (Bye reason) = IsBye bytes reason

-- the PDU of this choice breaks its rule at this offset; a byte that is no choice of a client breaks it itself
abbrev pub IsBrokenBy : Choice → ℕ → List ℕ → ℕ → Type 0
IsBrokenBy ErectDomainRequest first bytes at = IsBrokenAt erect_domain_request bytes at
IsBrokenBy AttachUserRequest first bytes at = IsBrokenAt attach_user_request bytes at
IsBrokenBy ChannelJoinRequest first bytes at = IsBrokenAt channel_join_request bytes at
IsBrokenBy SendDataRequest first bytes at = IsBrokenAt send_data_request bytes at
IsBrokenBy DisconnectProviderUltimatum first bytes at = IsBrokenAt (ultimatum first) bytes at
IsBrokenBy BasicUltimatum first bytes at = IsBrokenAt basic_ultimatum bytes at
IsBrokenBy Other first bytes at = at ≡ 0

-- the bytes are no domain PDU, and break the rule of the one that they choose at this offset
abbrev pub IsBrokenPdu : List ℕ → ℕ → Type 0
IsBrokenPdu [] at = at ≡ 0
IsBrokenPdu (first ∷ bs) at = IsBrokenBy (choice_of first) first (first ∷ bs) at
