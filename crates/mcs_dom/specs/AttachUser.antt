-- The Attach User Request and Confirm (T.125, 7, AttachUserRequest and AttachUserConfirm; MS-RDPBCGR, 2.2.1.6 and 2.2.1.7).
use Rattle.std.specs.Prelude.{ℕ, List, [], ◌∷◌}
use Rattle.wire_num.specs.Layout.{Layout, End, Bytes, ◌▸◌}
use Rattle.tpkt_x224.specs.Data.{data_packet}
use Rattle.mcs_dom.specs.User.{user_bytes}

-- choice
unfoldable pub attach_user_request : Layout
attach_user_request =
    Bytes (40 ∷ [])
    ▸ End

-- choice, with an initiator; successful; initiator
abbrev pub attach_user_confirm : ℕ → List ℕ
attach_user_confirm user = data_packet (46 ∷ 0 ∷ user_bytes user)
