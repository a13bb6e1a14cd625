-- Frames that go by the fast path: the bytes of takes, and of what kind their packets are.
use Rattle.std.proofs.Common.{◌≡◌, ℕ, List, [], ◌∷◌, refl, replicate, sym, take as first_bytes, drop}
use Rattle.std.specs.Prelude.{true, false, pos}
use Rattle.std.proofs.lemmas.Bool.{false≢true}
use Rattle.px_core.specs.Rectangle.{boxed}
use Rattle.draw_ops.specs.declared.shape.Shape.TheVariants.{Fill}
use Rattle.fast_path.specs.Written.{fast_headers}
use Rattle.caps_sets.specs.declared.confirmed.Confirmed.{Confirmed}
use Rattle.caps_sets.specs.Confirmed.{plain, full}
use Rattle.session_rules.specs.Steps.Step.{RefreshStep}
use Rattle.frame_rules.specs.FrameBytes.{updates_of, mark_bytes}
use Rattle.frame_rules.specs.PacketKinds.{HasPacketsOfKind}
use Rattle.session_examples.proofs.Takes.{draw, take, bytes_of_run}

abbrev fast_plain : Confirmed
fast_plain = record plain { fast = true }

abbrev fast_full : Confirmed
fast_full = record full { fast = true }

-- the black fill of a first frame, and the mark: two packets
-- wrong: a frame of a viewer of the fast path goes in slow packets
-- wrong: its orders do, or its marks
first_frame : bytes_of_run 64 48 fast_plain (take ∷ []) ≡
    (0x00 ∷ 0x0C ∷ 0x00 ∷ 0x07 ∷ 0x00 ∷ 0x01 ∷ 0x00 ∷ 0x19 ∷ 0x0A ∷ 0x0C ∷ 0x40 ∷ 0x30 ∷ 0x00 ∷ 0x05 ∷ 0x03 ∷ 0x00 ∷ 0x00 ∷ []) ∷ []
unfolding fast_headers
first_frame = refl

-- a tile that was asked for
-- wrong: its tiles do
refreshed_tile : bytes_of_run 64 64 fast_full (draw (Fill (boxed (pos 0) (pos 0) 64 64) 0xFF0000) ∷ take ∷ RefreshStep 1 (boxed (pos 5) (pos 5) 1 1) ∷ take ∷ []) ≡
    (0x00 ∷ 0x0F ∷ 0x00 ∷ 0x0A ∷ 0x00 ∷ 0x02 ∷ 0x00 ∷ 0x19 ∷ 0x0A ∷ 0x0C ∷ 0x40 ∷ 0x40 ∷ 0x01 ∷ 0x10 ∷ 0xFF ∷ 0x00 ∷ 0x05 ∷ 0x03 ∷ 0x00 ∷ 0x00 ∷ [])
    ∷ (0x00 ∷ 0x23 ∷ 0x01 ∷ 0x1E ∷ 0x00 ∷ 0x01 ∷ 0x00 ∷ 0x01 ∷ 0x00 ∷ 0x00 ∷ 0x00 ∷ 0x00 ∷ 0x00 ∷ 0x3F ∷ 0x00 ∷ 0x3F ∷ 0x00 ∷ 0x40 ∷ 0x00 ∷ 0x40 ∷ 0x00 ∷ 0x18 ∷ 0x00 ∷ 0x01 ∷ 0x04 ∷ 0x08 ∷ 0x00
    ∷ 0x60 ∷ 0x20 ∷ 0x00 ∷ 0x00 ∷ 0xFF ∷ 0xF0 ∷ 0xC0 ∷ 0x0F ∷ 0x00 ∷ 0x05 ∷ 0x03 ∷ 0x00 ∷ 0x00 ∷ [])
    ∷ []
unfolding fast_headers
refreshed_tile = refl

-- a mark of a viewer with frame markers
-- wrong: a mark is an order of the last update
a_marker : mark_bytes true true ≡ 0x00 ∷ 0x0C ∷ 0x00 ∷ 0x07 ∷ 0x00 ∷ 0x01 ∷ 0x00 ∷ 0x36 ∷ 0x01 ∷ 0x00 ∷ 0x00 ∷ 0x00 ∷ []
unfolding fast_headers
a_marker = refl

-- ---- gathering

abbrev order_of : ℕ → List ℕ
order_of n = replicate n 0x2A

-- 16,375 bytes of orders make a packet of 16,383, and the third order begins another one
two_updates : List ℕ
two_updates = updates_of true (order_of 16000 ∷ order_of 375 ∷ order_of 1 ∷ [])

head_of_a_full_packet : first_bytes 8 two_updates ≡ 0x00 ∷ 0xBF ∷ 0xFF ∷ 0x00 ∷ 0xF9 ∷ 0x3F ∷ 0x02 ∷ 0x00 ∷ []
unfolding fast_headers two_updates
head_of_a_full_packet = refl

packet_behind_a_full_one : drop 16383 two_updates ≡ 0x00 ∷ 0x08 ∷ 0x00 ∷ 0x03 ∷ 0x00 ∷ 0x01 ∷ 0x00 ∷ 0x2A ∷ []
unfolding fast_headers two_updates
packet_behind_a_full_one = refl

-- where the second order has a byte more, it begins another one: behind a packet of 16,008 bytes one of 384
a_byte_too_many : List ℕ
a_byte_too_many = updates_of true (order_of 16000 ∷ order_of 376 ∷ [])

head_before_a_byte_too_many : first_bytes 8 a_byte_too_many ≡ 0x00 ∷ 0xBE ∷ 0x88 ∷ 0x00 ∷ 0x82 ∷ 0x3E ∷ 0x01 ∷ 0x00 ∷ []
unfolding fast_headers a_byte_too_many
head_before_a_byte_too_many = refl

packet_of_a_byte_too_many : drop 16008 a_byte_too_many ≡ 0x00 ∷ 0x81 ∷ 0x80 ∷ 0x00 ∷ 0x7A ∷ 0x01 ∷ 0x01 ∷ 0x00 ∷ order_of 376
unfolding fast_headers a_byte_too_many
packet_of_a_byte_too_many = refl

-- ---- kinds of packets

-- two packets of the fast path, and a mark that has none
-- wrong: a mark is of no kind
two_fast_packets : HasPacketsOfKind true (0x00 ∷ 0x0C ∷ 0x00 ∷ 0x07 ∷ 0x00 ∷ 0x01 ∷ 0x00 ∷ 0x19 ∷ 0x0A ∷ 0x0C ∷ 0x40 ∷ 0x30 ∷ 0x00 ∷ 0x05 ∷ 0x03 ∷ 0x00 ∷ 0x00 ∷ [])
two_fast_packets = record { whole = refl; alike = (refl, (refl, tt)) }

no_fast_packet : HasPacketsOfKind false (mark_bytes false false)
no_fast_packet = record { whole = refl; alike = (refl, tt) }

-- packets of both kinds
abbrev both_kinds : List ℕ
both_kinds = 0x00 ∷ 0x05 ∷ 0x03 ∷ 0x00 ∷ 0x00 ∷ mark_bytes false false

-- wrong: packets may be of both kinds
a_slow_packet_among_fast_ones : HasPacketsOfKind true both_kinds → ⊥
a_slow_packet_among_fast_ones kinds = false≢true kinds.alike.1.0

a_fast_packet_among_slow_ones : HasPacketsOfKind false both_kinds → ⊥
a_fast_packet_among_slow_ones kinds = false≢true (sym kinds.alike.0)

-- a packet that isn't whole
part_of_a_packet : HasPacketsOfKind true (0x00 ∷ 0x05 ∷ []) → ⊥
part_of_a_packet kinds = cc kinds.whole
