-- The definitions on a sample client's first packet, and on requests that break a rule.
use Rattle.std.proofs.Common.{◌≡◌, [], ◌∷◌, refl}
use Rattle.std.specs.Prelude.{Ok, Err, Some, None}
use Rattle.wire_num.specs.FieldValue.{passing_at, at_least, rest_count_at}
use Rattle.tpkt_x224.specs.declared.tpkt.Packet.TheVariants.{Whole}
use Rattle.tpkt_x224.specs.Tpkt.{packet_at}
use Rattle.tpkt_x224.specs.Request.{references, request_header, after_cookie, asked_protocols, request_of}
use Rattle.tpkt_x224.specs.Confirm.{confirm_of}

is_whole : packet_at (3 ∷ 0 ∷ 0 ∷ 7 ∷ 2 ∷ 240 ∷ 128 ∷ 3 ∷ []) ≡ Whole 7
is_whole = refl

asks : request_of (3 ∷ 0 ∷ 0 ∷ 19 ∷ 14 ∷ 224 ∷ 0 ∷ 0 ∷ 0 ∷ 0 ∷ 0 ∷ 1 ∷ 0 ∷ 8 ∷ 0 ∷ 0 ∷ 0 ∷ 0 ∷ 0 ∷ []) ≡ Ok (record { reference = 0; asked = Some 0 })
unfolding references request_header after_cookie asked_protocols passing_at at_least rest_count_at
asks = refl

-- a cookie of two bytes, and then a negotiation request
asks_behind_a_cookie : request_of (3 ∷ 0 ∷ 0 ∷ 23 ∷ 18 ∷ 224 ∷ 0 ∷ 0 ∷ 18 ∷ 52 ∷ 0 ∷ 97 ∷ 61 ∷ 13 ∷ 10 ∷ 1 ∷ 0 ∷ 8 ∷ 0 ∷ 3 ∷ 0 ∷ 0 ∷ 0 ∷ []) ≡ Ok (record { reference = 4660; asked = Some 3 })
unfolding references request_header after_cookie asked_protocols passing_at at_least rest_count_at
asks_behind_a_cookie = refl

wrong_indicator : request_of (3 ∷ 0 ∷ 0 ∷ 11 ∷ 5 ∷ 208 ∷ 0 ∷ 0 ∷ 0 ∷ 0 ∷ 0 ∷ []) ≡ Err (record { at = 4 })
unfolding references request_header after_cookie asked_protocols passing_at at_least rest_count_at
wrong_indicator = refl

short_header : request_of (3 ∷ 0 ∷ 0 ∷ 10 ∷ 5 ∷ 224 ∷ 0 ∷ 0 ∷ 0 ∷ 0 ∷ []) ≡ Err (record { at = 10 })
unfolding references request_header after_cookie asked_protocols passing_at at_least rest_count_at
short_header = refl

answered : confirm_of (record { reference = 0; asked = Some 0 }) ≡ 3 ∷ 0 ∷ 0 ∷ 19 ∷ 14 ∷ 208 ∷ 0 ∷ 0 ∷ 18 ∷ 52 ∷ 0 ∷ 2 ∷ 0 ∷ 8 ∷ 0 ∷ 0 ∷ 0 ∷ 0 ∷ 0 ∷ []
answered = refl

answered_shortly : confirm_of (record { reference = 43981; asked = None }) ≡ 3 ∷ 0 ∷ 0 ∷ 11 ∷ 6 ∷ 208 ∷ 171 ∷ 205 ∷ 18 ∷ 52 ∷ 0 ∷ []
answered_shortly = refl
