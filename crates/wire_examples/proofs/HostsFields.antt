-- Each byte of the host's answers changed: the packet is refused at the first byte of the field that the byte is in, or the field isn't compared. The fields are those of
-- [MS-RDPBCGR] 2.2.1 and of T.125; the TPKT header is judged before, and of a number only what it may not be is refused.
use Rattle.std.proofs.Common.{◌≡◌, ℕ, ◌-◌, false, List, [], ◌∷◌, ◌++◌, map, replicate, refl}
use Rattle.std.specs.Prelude.{Option, Some, None, Result, Ok, Err}
use Rattle.wire_num.specs.FieldValue.{passing_at}
use Rattle.wire_num.specs.Layout.{exactly_at}
use Rattle.tpkt_x224.specs.Confirm.{confirm_of}
use Rattle.mcs_ber.specs.ConnectResponse.{connect_response}
use Rattle.mcs_dom.specs.AttachUser.{attach_user_confirm}
use Rattle.mcs_dom.specs.ChannelJoin.{channel_join_confirm}
use Rattle.mcs_dom.specs.SendData.{send_data_indication}
use Rattle.gcc_per.specs.ServerData.{create_response}
use Rattle.info_lic.specs.Licence.{licence}
use Rattle.px_core.specs.declared.depth.Depth.TheVariants.{Bits24}
use Rattle.caps_sets.specs.Confirmed.{plain}
use Rattle.caps_sets.specs.DemandActive.{before_bitmap, after_bitmap, demand_active}
use Rattle.share_pdu.specs.declared.finals.Final.TheVariants as final
use Rattle.share_pdu.specs.Final.{final_bytes}
use Rattle.viewer_rules.specs.declared.stage.Channel.TheVariants as channel
use Rattle.viewer_rules.specs.declared.stage.Stage.{Stage}
use Rattle.viewer_rules.specs.declared.stage.Stage.TheVariants as stage
use Rattle.viewer_rules.specs.HostAnswers.{connection_confirm, server_blocks_answer, conference_answer, user_data_answer, response_answer, connect_response_answer, attach_answer, join_answer, indication, licence_answer, behind_height, later_answer, height_and_later, width_and_later, demand_answer, share_data_answer, final_answer}
use Rattle.viewer_rules.specs.ViewerHandshake.{Answered, packet_answered}

-- the bytes with each one in its turn changed
abbrev each_changed : List ℕ → List ℕ → List (List ℕ)
each_changed front [] = []
each_changed front (b ∷ bs) = (front ++ (255 - b) ∷ bs) ∷ each_changed (front ++ b ∷ []) bs

abbrev refused : Result Answered ℕ → Option ℕ
refused (Ok a) = None
refused (Err at) = Some at

-- where a packet is refused at a stage, byte for byte
abbrev refusals : Stage → List ℕ → List (Option ℕ)
refusals here p = map (λ q. refused (packet_answered (97 ∷ 110 ∷ 110 ∷ []) plain here q)) (each_changed [] p)

-- so many bytes of a field that is compared, which begins at a place; so many that aren't compared
record Field : Type 0 where
  bytes : ℕ
  place : Option ℕ

abbrev field : ℕ → ℕ → Field
field bytes place = record { bytes = bytes; place = Some place }

abbrev any : ℕ → Field
any bytes = record { bytes = bytes; place = None }

abbrev places : List Field → List (Option ℕ)
places [] = []
places (f ∷ fs) = replicate f.bytes f.place ++ places fs

connection_confirm_is : refusals stage.Confirm (confirm_of (record { reference = 0; asked = Some 0 }))
    ≡ places (any 4 ∷ field 2 4 ∷ field 2 6 ∷ field 2 8 ∷ field 1 10 ∷ field 8 11 ∷ [])
unfolding passing_at exactly_at connection_confirm server_blocks_answer conference_answer user_data_answer response_answer connect_response_answer attach_answer join_answer indication licence_answer behind_height later_answer height_and_later width_and_later demand_answer share_data_answer final_answer connect_response create_response before_bitmap after_bitmap demand_active
connection_confirm_is = refl

connect_response_is : refusals stage.Response (connect_response (create_response 3 0))
    ≡ places (any 4 ∷ field 3 4 ∷ field 2 7 ∷ field 1 9 ∷ field 3 10 ∷ field 3 13 ∷ field 2 16 ∷ field 3 18 ∷ field 3 21 ∷ field 3 24 ∷ field 3 27 ∷ field 3 30 ∷ field 3 33 ∷ field 5 36 ∷ field 3 41 ∷ field 1 44 ∷ field 1 45 ∷ field 7 46 ∷ field 1 53 ∷ field 9 54 ∷ field 4 63 ∷ field 1 67 ∷ field 8 68 ∷ field 4 76 ∷ field 2 80 ∷ field 2 82 ∷ field 2 84 ∷ field 2 86 ∷ field 2 88 ∷ field 2 90 ∷ field 2 92 ∷ field 2 94 ∷ field 4 96 ∷ field 8 100 ∷ [])
unfolding passing_at exactly_at connection_confirm server_blocks_answer conference_answer user_data_answer response_answer connect_response_answer attach_answer join_answer indication licence_answer behind_height later_answer height_and_later width_and_later demand_answer share_data_answer final_answer connect_response create_response before_bitmap after_bitmap demand_active
connect_response_is = refl

attach_confirm_is : refusals stage.Attach (attach_user_confirm 1007)
    ≡ places (any 4 ∷ field 3 4 ∷ field 2 7 ∷ field 1 9 ∷ any 1 ∷ [])
unfolding passing_at exactly_at connection_confirm server_blocks_answer conference_answer user_data_answer response_answer connect_response_answer attach_answer join_answer indication licence_answer behind_height later_answer height_and_later width_and_later demand_answer share_data_answer final_answer connect_response create_response before_bitmap after_bitmap demand_active
attach_confirm_is = refl

join_confirm_is : refusals (stage.Joins 1007 channel.Io) (channel_join_confirm 1007 1003)
    ≡ places (any 4 ∷ field 3 4 ∷ field 2 7 ∷ field 2 9 ∷ field 2 11 ∷ field 2 13 ∷ [])
unfolding passing_at exactly_at connection_confirm server_blocks_answer conference_answer user_data_answer response_answer connect_response_answer attach_answer join_answer indication licence_answer behind_height later_answer height_and_later width_and_later demand_answer share_data_answer final_answer connect_response create_response before_bitmap after_bitmap demand_active
join_confirm_is = refl

licence_is : refusals (stage.Licence 1007) (send_data_indication licence)
    ≡ places (any 4 ∷ field 3 4 ∷ field 1 7 ∷ field 2 8 ∷ field 2 10 ∷ field 1 12 ∷ field 1 13 ∷ field 20 14 ∷ [])
unfolding passing_at exactly_at connection_confirm server_blocks_answer conference_answer user_data_answer response_answer connect_response_answer attach_answer join_answer indication licence_answer behind_height later_answer height_and_later width_and_later demand_answer share_data_answer final_answer connect_response create_response before_bitmap after_bitmap demand_active
licence_is = refl

demand_is : refusals (stage.Demand 1007) (send_data_indication (demand_active (record { w = 64; h = 48 }) Bits24 false))
    ≡ places (any 4 ∷ field 3 4 ∷ field 1 7 ∷ field 2 8 ∷ field 2 10 ∷ field 1 12 ∷ field 1 14 ∷ field 1 15 ∷ field 2 15 ∷ field 2 17 ∷ field 2 19 ∷ field 4 21 ∷ field 2 25 ∷ field 2 27 ∷ field 4 29 ∷ field 4 33 ∷ field 24 37 ∷ field 12 61 ∷ field 2 73 ∷ any 1 ∷ field 1 75 ∷ field 2 77 ∷ any 2 ∷ field 8 81 ∷ field 4 89 ∷ field 20 93 ∷ field 12 113 ∷ field 32 125 ∷ field 12 157 ∷ field 8 169 ∷ field 10 177 ∷ field 8 187 ∷ field 80 195 ∷ field 8 275 ∷ field 8 283 ∷ field 8 291 ∷ field 4 299 ∷ [])
unfolding passing_at exactly_at connection_confirm server_blocks_answer conference_answer user_data_answer response_answer connect_response_answer attach_answer join_answer indication licence_answer behind_height later_answer height_and_later width_and_later demand_answer share_data_answer final_answer connect_response create_response before_bitmap after_bitmap demand_active
demand_is = refl

synchronize_is : refusals (stage.Finish 1007 final.Synchronize) (send_data_indication (final_bytes final.Synchronize 1007))
    ≡ places (any 4 ∷ field 3 4 ∷ field 1 7 ∷ field 2 8 ∷ field 2 10 ∷ field 1 12 ∷ field 1 13 ∷ field 2 14 ∷ field 2 16 ∷ field 2 18 ∷ field 4 20 ∷ any 1 ∷ field 1 25 ∷ field 2 26 ∷ field 1 28 ∷ field 1 29 ∷ field 2 30 ∷ field 2 32 ∷ field 2 34 ∷ [])
unfolding passing_at exactly_at connection_confirm server_blocks_answer conference_answer user_data_answer response_answer connect_response_answer attach_answer join_answer indication licence_answer behind_height later_answer height_and_later width_and_later demand_answer share_data_answer final_answer connect_response create_response before_bitmap after_bitmap demand_active
synchronize_is = refl

cooperate_is : refusals (stage.Finish 1007 final.Cooperate) (send_data_indication (final_bytes final.Cooperate 1007))
    ≡ places (any 4 ∷ field 3 4 ∷ field 1 7 ∷ field 2 8 ∷ field 2 10 ∷ field 1 12 ∷ field 1 13 ∷ field 2 14 ∷ field 2 16 ∷ field 2 18 ∷ field 4 20 ∷ any 1 ∷ field 1 25 ∷ field 2 26 ∷ field 1 28 ∷ field 1 29 ∷ field 2 30 ∷ field 2 32 ∷ field 6 34 ∷ [])
unfolding passing_at exactly_at connection_confirm server_blocks_answer conference_answer user_data_answer response_answer connect_response_answer attach_answer join_answer indication licence_answer behind_height later_answer height_and_later width_and_later demand_answer share_data_answer final_answer connect_response create_response before_bitmap after_bitmap demand_active
cooperate_is = refl

granted_is : refusals (stage.Finish 1007 final.Granted) (send_data_indication (final_bytes final.Granted 1007))
    ≡ places (any 4 ∷ field 3 4 ∷ field 1 7 ∷ field 2 8 ∷ field 2 10 ∷ field 1 12 ∷ field 1 13 ∷ field 2 14 ∷ field 2 16 ∷ field 2 18 ∷ field 4 20 ∷ any 1 ∷ field 1 25 ∷ field 2 26 ∷ field 1 28 ∷ field 1 29 ∷ field 2 30 ∷ field 2 32 ∷ field 2 34 ∷ field 4 36 ∷ [])
unfolding passing_at exactly_at connection_confirm server_blocks_answer conference_answer user_data_answer response_answer connect_response_answer attach_answer join_answer indication licence_answer behind_height later_answer height_and_later width_and_later demand_answer share_data_answer final_answer connect_response create_response before_bitmap after_bitmap demand_active
granted_is = refl

font_map_is : refusals (stage.Finish 1007 final.FontMap) (send_data_indication (final_bytes final.FontMap 1007))
    ≡ places (any 4 ∷ field 3 4 ∷ field 1 7 ∷ field 2 8 ∷ field 2 10 ∷ field 1 12 ∷ field 1 13 ∷ field 2 14 ∷ field 2 16 ∷ field 2 18 ∷ field 4 20 ∷ any 1 ∷ field 1 25 ∷ field 2 26 ∷ field 1 28 ∷ field 1 29 ∷ field 2 30 ∷ field 8 32 ∷ [])
unfolding passing_at exactly_at connection_confirm server_blocks_answer conference_answer user_data_answer response_answer connect_response_answer attach_answer join_answer indication licence_answer behind_height later_answer height_and_later width_and_later demand_answer share_data_answer final_answer connect_response create_response before_bitmap after_bitmap demand_active
font_map_is = refl
