-- What a client's share PDUs are, apart from reading: which bytes stand there, and what they say.
use Rattle.std.specs.Prelude.{◌≡◌, ℕ, ◌%◌, ◌==◌, Bool, false, List, [], ◌∷◌, ◌++◌, length, if◌then◌else◌}
use Rattle.wire_num.specs.declared.range.Range.{Range}
use Rattle.wire_num.specs.FieldValue.{has_bits}
use Rattle.wire_num.specs.Grammar.{IsText}
use Rattle.share_pdu.specs.declared.client_pdu.ClientPdu.{ClientPdu}
use Rattle.share_pdu.specs.declared.client_pdu.ClientPdu.TheVariants.{Confirm, Synchronize, Cooperate, Request, FontList, KeyList, Input, Refresh}
use Rattle.share_pdu.specs.declared.client_pdu.ClientPdu.TheVariants.{Suppress, Shutdown, Other}
use Rattle.share_pdu.specs.Bodies.{synchronize_body, control_body, suppress_body}
use Rattle.share_pdu.specs.ClientPdu.{total_length, control_header, data_header}
use Rattle.share_pdu.specs.Areas.{Area, IsRefreshRect}

-- ---- headers

-- The bytes begin with a total that counts itself and all that belongs to the PDU, and that many bytes, at least the six of a share
-- control header, are there: they are the PDU. Others may follow.
pub record IsCounted (bytes pdu : List ℕ) : Type 0 where
  pub carried : List ℕ
  pub behind : List ℕ
  pub whole : bytes ≡ pdu ++ behind
  pub total : IsText (total_length (length bytes)) bytes (length pdu ∷ []) carried

-- a PDU with its share control header, of this type, and what it carries
abbrev pub HasType : List ℕ → ℕ → List ℕ → Type 0
HasType pdu type carried = IsText control_header pdu (type ∷ []) carried

-- a PDU's part from this offset to its end
abbrev pub LiesBehind : ℕ → List ℕ → Range → Type 0
LiesBehind offset pdu place = (place.from ≡ offset) × (place.to ≡ length pdu)

-- a Confirm Active, whose fields stand behind its share control header
pub record IsConfirm (pdu : List ℕ) (place : Range) : Type 0 where
  pub type : ℕ
  pub fields : List ℕ
  pub header : HasType pdu type fields
  pub active : type % 16 ≡ 3
  pub fills : LiesBehind 6 pdu place

-- a data PDU up to pduType2, and what is behind that
pub record IsNamed (pdu : List ℕ) (kind : ℕ) (described : List ℕ) : Type 0 where
  pub type : ℕ
  pub fields : List ℕ
  pub header : HasType pdu type fields
  pub is_data : type % 16 ≡ 7
  pub named : IsText data_header fields (kind ∷ []) described

-- a data PDU of this pduType2: compressedType, which says that it isn't compressed, and compressedLength; then its body
pub record IsData (pdu : List ℕ) (kind : ℕ) (body : List ℕ) : Type 0 where
  pub compressed_type : ℕ
  pub compressed_length : List ℕ
  pub named : IsNamed pdu kind (compressed_type ∷ (compressed_length ++ body))
  pub plain : has_bits 0x20 compressed_type ≡ false
  pub two : length compressed_length ≡ 2

-- ---- bodies

-- what is said by pduType2 ([MS-RDPBCGR] 2.2.8.1.1.1.2), as far as it is told apart
pub data Kind : Type 0 where
  ControlKind : Kind
  InputKind : Kind
  SynchronizeKind : Kind
  RefreshKind : Kind
  SuppressKind : Kind
  ShutdownKind : Kind
  FontListKind : Kind
  KeyListKind : Kind
  OtherKind : Kind

abbrev pub kind_of : ℕ → Kind
kind_of kind =
    if kind == 0x14 then ControlKind
    else (if kind == 0x1C then InputKind
    else (if kind == 0x1F then SynchronizeKind
    else (if kind == 0x21 then RefreshKind
    else (if kind == 0x23 then SuppressKind
    else (if kind == 0x24 then ShutdownKind
    else (if kind == 0x27 then FontListKind
    else (if kind == 0x2B then KeyListKind
    else OtherKind)))))))

-- a data PDU of this kind has this body
pub record HasBody (pdu : List ℕ) (kind : Kind) (body : List ℕ) : Type 0 where
  pub number : ℕ
  pub stands : IsData pdu number body
  pub is : kind_of number ≡ kind

-- a Synchronize
pub record IsSynchronize (pdu : List ℕ) : Type 0 where
  pub body : List ℕ
  pub more : List ℕ
  pub has : HasBody pdu SynchronizeKind body
  pub fields : IsText synchronize_body body [] more

-- a Control with this action
pub record IsControl (pdu : List ℕ) (action : ℕ) : Type 0 where
  pub body : List ℕ
  pub more : List ℕ
  pub has : HasBody pdu ControlKind body
  pub fields : IsText control_body body (action ∷ []) more

-- a Suppress Output with this first byte, where 0 stops
pub record IsSuppress (pdu : List ℕ) (stop : Bool) : Type 0 where
  pub allow : ℕ
  pub body : List ℕ
  pub more : List ℕ
  pub has : HasBody pdu SuppressKind body
  pub fields : IsText suppress_body body (allow ∷ []) more
  pub says : stop ≡ (allow == 0)

-- one whose body isn't looked at
abbrev pub IsKind : List ℕ → Kind → Type 0
IsKind pdu kind = (body : List ℕ) × HasBody pdu kind body

-- ---- Refresh Rect and Input

-- a Refresh Rect, whose body stands there
pub record IsRefresh (pdu : List ℕ) (place : Range) : Type 0 where
  pub body : List ℕ
  pub areas : List Area
  pub has : HasBody pdu RefreshKind body
  pub fields : IsRefreshRect body areas
  pub fills : LiesBehind 18 pdu place

-- an Input, whose body stands there
abbrev pub IsInput : List ℕ → Range → Type 0
IsInput pdu place = IsKind pdu InputKind × LiesBehind 18 pdu place

-- ---- the whole

-- these bytes are a PDU that says this
abbrev pub Says : List ℕ → ClientPdu → Type 0
Says pdu (Confirm place) = IsConfirm pdu place
Says pdu Synchronize = IsSynchronize pdu
Says pdu Cooperate = IsControl pdu 4
Says pdu Request = IsControl pdu 1
Says pdu FontList = IsKind pdu FontListKind
Says pdu KeyList = IsKind pdu KeyListKind
Says pdu (Input place) = IsInput pdu place
Says pdu (Refresh place) = IsRefresh pdu place
Says pdu (Suppress stop) = IsSuppress pdu stop
Says pdu Shutdown = IsKind pdu ShutdownKind
Says pdu Other = IsKind pdu OtherKind

-- the bytes begin with a PDU that says this
pub record IsSharePdu (bytes : List ℕ) (said : ClientPdu) : Type 0 where
  pub pdu : List ℕ
  pub counted : IsCounted bytes pdu
  pub says : Says pdu said
