-- The Channel Join Request and Confirm (T.125, 7, ChannelJoinRequest and ChannelJoinConfirm; MS-RDPBCGR, 2.2.1.8 and 2.2.1.9).
use Rattle.std.specs.Prelude.{ℕ, ◌+◌, List, [], ◌∷◌, ◌++◌, slice_index}
use Rattle.byteorder.specs.Endian.{big_bytes}
use Rattle.wire_num.specs.FieldValue.{is_any}
use Rattle.wire_num.specs.Layout.{Layout, End, Bytes, Big, ◌▸◌}
use Rattle.tpkt_x224.specs.Data.{data_packet}
use Rattle.mcs_dom.specs.declared.domain_pdu.DomainPdu.{DomainPdu}
use Rattle.mcs_dom.specs.declared.domain_pdu.DomainPdu.TheVariants.{Join}
use Rattle.mcs_dom.specs.User.{first_user, is_user, user_bytes}

-- choice; initiator; channelId
unfoldable pub channel_join_request : Layout
channel_join_request =
    Bytes (56 ∷ [])
    ▸ Big 2 is_user
    ▸ Big 2 is_any
    ▸ End

abbrev pub join_of : List ℕ → DomainPdu
join_of values = Join (first_user + slice_index values 0) (slice_index values 1)

-- choice, with a channel; successful; initiator; requested; channelId
abbrev pub channel_join_confirm : ℕ → ℕ → List ℕ
channel_join_confirm user channel = data_packet ((62 ∷ 0 ∷ user_bytes user) ++ (big_bytes 2 channel ++ big_bytes 2 channel))
