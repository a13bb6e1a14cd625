-- The Disconnect Provider Ultimatum (T.125, 7, DisconnectProviderUltimatum; MS-RDPBCGR, 2.2.2.1). Six bits choose it, three
-- have the reason, and seven are padding.
use Rattle.std.specs.Prelude.{ℕ, ◌+◌, ◌*◌, ◌/◌, ◌%◌, Bool, List, [], ◌∷◌, slice_index}
use Rattle.wire_num.specs.FieldValue.{is_at_most}
use Rattle.wire_num.specs.Layout.{Layout, End, Bytes, Big, ◌▸◌}
use Rattle.tpkt_x224.specs.Data.{data_packet}
use Rattle.mcs_dom.specs.declared.domain_pdu.DomainPdu.{DomainPdu}
use Rattle.mcs_dom.specs.declared.domain_pdu.DomainPdu.TheVariants.{Bye}

-- the last two bits of the first byte and the first one of the second
abbrev pub reason_of : ℕ → ℕ → ℕ
reason_of first second = 2 * (first % 4) + second / 128

-- a reason of T.125: 0 to 4
abbrev pub has_reason : ℕ → ℕ → Bool
has_reason first second = is_at_most 4 (reason_of first second)

-- choice and the reason's first bits; the reason's last bit
unfoldable pub ultimatum : ℕ → Layout
ultimatum first =
    Bytes (first ∷ [])
    ▸ Big 1 (has_reason first)
    ▸ End

abbrev pub bye_of : ℕ → List ℕ → DomainPdu
bye_of first values = Bye (reason_of first (slice_index values 0))

-- What one client in use writes in place of an ultimatum of reason 3, by the basic encoding rules: a sequence of six bytes, in it the reason as an integer of
-- two bytes, and an empty sequence. It is one field (profile).
abbrev pub basic_bytes : List ℕ
basic_bytes = 48 ∷ 6 ∷ 2 ∷ 2 ∷ 0 ∷ 3 ∷ 48 ∷ 0 ∷ []

unfoldable pub basic_ultimatum : Layout
basic_ultimatum =
    Bytes basic_bytes
    ▸ End

abbrev pub ultimatum_packet : ℕ → List ℕ
ultimatum_packet reason = data_packet ((32 + reason / 2) ∷ (128 * (reason % 2)) ∷ [])
