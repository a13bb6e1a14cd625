-- The bytes of the host's replies, whole packets each.
use Rattle.std.specs.Prelude.{ℕ, ◌==◌, Bool, ◌&&◌, not, List, [], ◌++◌}
use Rattle.px_core.specs.declared.surface.Size.{Size}
use Rattle.tpkt_x224.specs.Confirm.{confirm_of}
use Rattle.mcs_ber.specs.ConnectResponse.{connect_response}
use Rattle.gcc_per.specs.ServerData.{create_response}
use Rattle.mcs_dom.specs.AttachUser.{attach_user_confirm}
use Rattle.mcs_dom.specs.ChannelJoin.{channel_join_confirm}
use Rattle.mcs_dom.specs.SendData.{send_data_indication}
use Rattle.info_lic.specs.Licence.{licence}
use Rattle.caps_sets.specs.DemandActive.{demand_active}
use Rattle.share_pdu.specs.Final.{final_bytes}
use Rattle.conn_rules.specs.declared.answer.Reply.{Reply}
use Rattle.conn_rules.specs.declared.client.Client.{Client}
use Rattle.conn_rules.specs.declared.answer.Reply.TheVariants.{Nothing, Confirm, Response, Attached, Joined, Welcome, Final}

-- a client that states its build, and asked for another size than the session's, is to take that size for its window (profile)
abbrev pub resizes : Size → Client → Bool
resizes size client = not (client.build == 0) && not ((client.width == size.w) && (client.height == size.h))

-- a reply of a session with a picture of this size
abbrev pub reply_bytes : Size → Reply → List ℕ
reply_bytes size Nothing = []
reply_bytes size (Confirm request) = confirm_of request
reply_bytes size (Response channels asked) = connect_response (create_response channels asked)
reply_bytes size (Attached user) = attach_user_confirm user
reply_bytes size (Joined user channel) = channel_join_confirm user channel
reply_bytes size (Welcome client) = send_data_indication licence ++ send_data_indication (demand_active size client.depth (resizes size client))
reply_bytes size (Final which user) = send_data_indication (final_bytes which user)
