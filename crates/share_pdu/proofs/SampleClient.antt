-- The definitions on a sample client's share PDUs, on others that break a rule, and on the answers to it.
use Rattle.std.proofs.Common.{◌≡◌, ℕ, List, [], ◌∷◌, ◌++◌, replicate, refl}
use Rattle.std.specs.Prelude.{Ok, Err, true, false, pos}
use Rattle.wire_num.specs.FieldValue.{passing_at}
use Rattle.px_core.specs.declared.rectangle.Rect.{Rect}
use Rattle.share_pdu.specs.declared.client_pdu.ClientPdu.TheVariants.{Confirm, Synchronize, Cooperate, Request, FontList, KeyList, Input, Refresh, Suppress, Shutdown, Other}
use Rattle.share_pdu.specs.declared.share_fault.ShareFault.TheVariants.{BadShare, Compressed}
use Rattle.share_pdu.specs.declared.finals.Final.TheVariants as final
use Rattle.share_pdu.specs.Bodies.{synchronize_body, control_body, suppress_body, refresh_header, inclusive_area, area_at, refresh_at, passed_refresh_at, areas_of}
use Rattle.share_pdu.specs.Final.{final_bytes}
use Rattle.share_pdu.specs.ClientPdu.{total_length, control_header, data_header, compressed_type_at, data_body_at, data_pdu_at, client_pdu_at, share_pdu_of}

-- both headers of the sample client's data, by their lengths, pduType2 and compressedType
abbrev headed : ℕ → ℕ → ℕ → ℕ → List ℕ
headed total uncompressed kind compressed =
    total ∷ 0 ∷ 0x17 ∷ 0 ∷ 0xEF ∷ 3 ∷ 0xEA ∷ 3 ∷ 1 ∷ 0 ∷ 0 ∷ 1 ∷ uncompressed ∷ 0 ∷ kind ∷ compressed ∷ 0 ∷ 0 ∷ []

-- ---- read

confirms : share_pdu_of ((0xF6 ∷ 0 ∷ 0x13 ∷ 0 ∷ 0xEF ∷ 3 ∷ 0xEA ∷ 3 ∷ 1 ∷ 0 ∷ 0xEA ∷ 3 ∷ 4 ∷ 0 ∷ 0xE2 ∷ 0 ∷ 0x52 ∷ 0x44 ∷ 0x50 ∷ 0 ∷ 6 ∷ 0 ∷ 0 ∷ 0 ∷ []) ++ replicate 222 0)
    ≡ Ok (Confirm (record { from = 6; to = 246 }))
unfolding total_length control_header client_pdu_at passing_at
confirms = refl

synchronizes : share_pdu_of (headed 0x16 8 0x1F 0 ++ (1 ∷ 0 ∷ 0xEA ∷ 3 ∷ [])) ≡ Ok Synchronize
unfolding total_length control_header data_header compressed_type_at data_body_at data_pdu_at client_pdu_at synchronize_body passing_at
synchronizes = refl

cooperates : share_pdu_of (headed 0x1A 12 0x14 0 ++ (4 ∷ 0 ∷ 0 ∷ 0 ∷ 0 ∷ 0 ∷ 0 ∷ 0 ∷ [])) ≡ Ok Cooperate
unfolding total_length control_header data_header compressed_type_at data_body_at data_pdu_at client_pdu_at control_body passing_at
cooperates = refl

requests : share_pdu_of (headed 0x1A 12 0x14 0 ++ (1 ∷ 0 ∷ 0 ∷ 0 ∷ 0 ∷ 0 ∷ 0 ∷ 0 ∷ [])) ≡ Ok Request
unfolding total_length control_header data_header compressed_type_at data_body_at data_pdu_at client_pdu_at control_body passing_at
requests = refl

lists_fonts : share_pdu_of (headed 0x1A 12 0x27 0 ++ (0 ∷ 0 ∷ 0 ∷ 0 ∷ 3 ∷ 0 ∷ 0x32 ∷ 0 ∷ [])) ≡ Ok FontList
unfolding total_length control_header data_header compressed_type_at data_body_at data_pdu_at client_pdu_at passing_at
lists_fonts = refl

-- no body is needed where none is read
lists_keys : share_pdu_of (headed 0x12 4 0x2B 0) ≡ Ok KeyList
unfolding total_length control_header data_header compressed_type_at data_body_at data_pdu_at client_pdu_at passing_at
lists_keys = refl

shuts_down : share_pdu_of (headed 0x12 4 0x24 0) ≡ Ok Shutdown
unfolding total_length control_header data_header compressed_type_at data_body_at data_pdu_at client_pdu_at passing_at
shuts_down = refl

-- a Font Map is a host's
says_another_thing : share_pdu_of (headed 0x12 4 0x28 0) ≡ Ok Other
unfolding total_length control_header data_header compressed_type_at data_body_at data_pdu_at client_pdu_at passing_at
says_another_thing = refl

-- an Input PDU of one event, and three bytes behind the total, which are dropped
inputs : share_pdu_of (headed 0x22 20 0x1C 0 ++ ((1 ∷ 0 ∷ 0 ∷ 0 ∷ 0 ∷ 0 ∷ 0 ∷ 0 ∷ 4 ∷ 0 ∷ 0 ∷ 0 ∷ 0x3B ∷ 0 ∷ 0 ∷ 0 ∷ []) ++ (7 ∷ 7 ∷ 7 ∷ []))) ≡ Ok (Input (record { from = 18; to = 34 }))
unfolding total_length control_header data_header compressed_type_at data_body_at data_pdu_at client_pdu_at passing_at
inputs = refl

suppresses : share_pdu_of (headed 0x16 8 0x23 0 ++ (0 ∷ 0 ∷ 0 ∷ 0 ∷ [])) ≡ Ok (Suppress true)
unfolding total_length control_header data_header compressed_type_at data_body_at data_pdu_at client_pdu_at suppress_body passing_at
suppresses = refl

-- any other value than 0 allows
allows : share_pdu_of (headed 0x1E 16 0x23 0 ++ (7 ∷ 0 ∷ 0 ∷ 0 ∷ 0 ∷ 0 ∷ 0 ∷ 0 ∷ 63 ∷ 0 ∷ 47 ∷ 0 ∷ [])) ≡ Ok (Suppress false)
unfolding total_length control_header data_header compressed_type_at data_body_at data_pdu_at client_pdu_at suppress_body passing_at
allows = refl

-- two areas, of which the second one ends before it begins
abbrev two_areas : List ℕ
two_areas = 2 ∷ 0 ∷ 0 ∷ 0 ∷ (5 ∷ 0 ∷ 6 ∷ 0 ∷ 5 ∷ 0 ∷ 9 ∷ 1 ∷ []) ++ (5 ∷ 0 ∷ 0 ∷ 0 ∷ 4 ∷ 0 ∷ 9 ∷ 0 ∷ [])

refreshes : share_pdu_of (headed 0x26 24 0x21 0 ++ two_areas) ≡ Ok (Refresh (record { from = 18; to = 38 }))
unfolding total_length control_header data_header compressed_type_at data_body_at data_pdu_at client_pdu_at refresh_header inclusive_area area_at passed_refresh_at passing_at
refreshes = refl

the_area : Rect
the_area = record { x = pos 5; y = pos 6; w = 1; h = 260 }

one_is_left : areas_of two_areas ≡ the_area ∷ []
unfolding the_area refresh_at refresh_header inclusive_area area_at passing_at
one_is_left = refl

-- ---- refused

another_type : share_pdu_of (0x16 ∷ 0 ∷ 0x12 ∷ 0 ∷ 0xEF ∷ 3 ∷ replicate 16 0) ≡ Err (BadShare 2)
unfolding total_length control_header client_pdu_at passing_at
another_type = refl

compressed : share_pdu_of (headed 0x16 8 0x1F 0x20 ++ (1 ∷ 0 ∷ 0xEA ∷ 3 ∷ [])) ≡ Err (Compressed 15)
unfolding total_length control_header data_header compressed_type_at data_pdu_at client_pdu_at passing_at
compressed = refl

total_past_the_end : share_pdu_of (headed 0x17 8 0x1F 0 ++ (1 ∷ 0 ∷ 0xEA ∷ 3 ∷ [])) ≡ Err (BadShare 0)
unfolding total_length passing_at
total_past_the_end = refl

total_below_its_header : share_pdu_of (headed 5 8 0x1F 0) ≡ Err (BadShare 0)
unfolding total_length passing_at
total_below_its_header = refl

half_a_total : share_pdu_of (6 ∷ []) ≡ Err (BadShare 0)
unfolding total_length passing_at
half_a_total = refl

-- both headers need 18 bytes
header_cut : share_pdu_of (headed 17 8 0x1F 0) ≡ Err (BadShare 16)
unfolding total_length control_header data_header compressed_type_at data_pdu_at client_pdu_at passing_at
header_cut = refl

no_share_id : share_pdu_of (headed 9 8 0x1F 0) ≡ Err (BadShare 6)
unfolding total_length control_header data_header data_pdu_at client_pdu_at passing_at
no_share_id = refl

another_message : share_pdu_of (headed 0x16 8 0x1F 0 ++ (2 ∷ 0 ∷ 0xEA ∷ 3 ∷ [])) ≡ Err (BadShare 18)
unfolding total_length control_header data_header compressed_type_at data_body_at data_pdu_at client_pdu_at synchronize_body passing_at
another_message = refl

no_target : share_pdu_of (headed 0x15 7 0x1F 0 ++ (1 ∷ 0 ∷ 0xEA ∷ 3 ∷ [])) ≡ Err (BadShare 20)
unfolding total_length control_header data_header compressed_type_at data_body_at data_pdu_at client_pdu_at synchronize_body passing_at
no_target = refl

-- CTRLACTION_GRANTED_CONTROL is a host's
another_action : share_pdu_of (headed 0x1A 12 0x14 0 ++ (2 ∷ 0 ∷ 0 ∷ 0 ∷ 0 ∷ 0 ∷ 0 ∷ 0 ∷ [])) ≡ Err (BadShare 18)
unfolding total_length control_header data_header compressed_type_at data_body_at data_pdu_at client_pdu_at control_body passing_at
another_action = refl

no_control_id : share_pdu_of (headed 0x19 11 0x14 0 ++ (1 ∷ 0 ∷ 0 ∷ 0 ∷ 0 ∷ 0 ∷ 0 ∷ 0 ∷ [])) ≡ Err (BadShare 22)
unfolding total_length control_header data_header compressed_type_at data_body_at data_pdu_at client_pdu_at control_body passing_at
no_control_id = refl

two_pads : share_pdu_of (headed 0x15 7 0x23 0 ++ (0 ∷ 0 ∷ 0 ∷ [])) ≡ Err (BadShare 19)
unfolding total_length control_header data_header compressed_type_at data_body_at data_pdu_at client_pdu_at suppress_body passing_at
two_pads = refl

-- the first area is there, and of the second one three coordinates and a half
half_a_coordinate : share_pdu_of (headed 0x25 23 0x21 0 ++ two_areas) ≡ Err (BadShare 36)
unfolding total_length control_header data_header compressed_type_at data_body_at data_pdu_at client_pdu_at refresh_header inclusive_area area_at passed_refresh_at passing_at
half_a_coordinate = refl

-- ---- the answers to user channel 1007

synchronized : final_bytes final.Synchronize 1007 ≡ 0x16 ∷ 0 ∷ 0x17 ∷ 0 ∷ 0xEA ∷ 3 ∷ 0xEA ∷ 3 ∷ 1 ∷ 0 ∷ 0 ∷ 1 ∷ 8 ∷ 0 ∷ 0x1F ∷ 0 ∷ 0 ∷ 0 ∷ 1 ∷ 0 ∷ 0xEF ∷ 3 ∷ []
synchronized = refl

cooperated : final_bytes final.Cooperate 1007 ≡ 0x1A ∷ 0 ∷ 0x17 ∷ 0 ∷ 0xEA ∷ 3 ∷ 0xEA ∷ 3 ∷ 1 ∷ 0 ∷ 0 ∷ 1 ∷ 12 ∷ 0 ∷ 0x14 ∷ 0 ∷ 0 ∷ 0 ∷ 4 ∷ 0 ∷ 0 ∷ 0 ∷ 0 ∷ 0 ∷ 0 ∷ 0 ∷ []
cooperated = refl

granted : final_bytes final.Granted 1007 ≡ 0x1A ∷ 0 ∷ 0x17 ∷ 0 ∷ 0xEA ∷ 3 ∷ 0xEA ∷ 3 ∷ 1 ∷ 0 ∷ 0 ∷ 1 ∷ 12 ∷ 0 ∷ 0x14 ∷ 0 ∷ 0 ∷ 0 ∷ 2 ∷ 0 ∷ 0xEF ∷ 3 ∷ 0xEA ∷ 3 ∷ 0 ∷ 0 ∷ []
granted = refl

mapped : final_bytes final.FontMap 1007 ≡ 0x1A ∷ 0 ∷ 0x17 ∷ 0 ∷ 0xEA ∷ 3 ∷ 0xEA ∷ 3 ∷ 1 ∷ 0 ∷ 0 ∷ 1 ∷ 12 ∷ 0 ∷ 0x28 ∷ 0 ∷ 0 ∷ 0 ∷ 0 ∷ 0 ∷ 0 ∷ 0 ∷ 3 ∷ 0 ∷ 4 ∷ 0 ∷ []
mapped = refl
