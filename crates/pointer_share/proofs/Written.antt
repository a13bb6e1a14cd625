-- The packets of messages, as their parts are written.
use Rattle.std.proofs.Common.{◌≡◌, ℕ, List, [], ◌++◌, length, ap, sym, ◌∙◌, append_assoc}
use Rattle.std.specs.Prelude.{Bool, if◌then◌else◌}
use Rattle.share_pdu.specs.Packet.{packet_headers}
use Rattle.share_pdu.proofs.PacketHeaders.{packet_whole}
use Rattle.frame_rules.specs.Pointers.{key_shape}
use Rattle.order_means.specs.PointerPackets.{pointer_packet}
use Rattle.frame_rules.specs.Told.{message_head, message_6, message_7}
use Rattle.pointer_share.proofs.Sizes.{size_is}

pub entry_whole : (index : ℕ) (bytes start headers out : List ℕ) → start ≡ [] → headers ≡ start ++ packet_headers 0x1B 6 → out ≡ headers ++ bytes → bytes ≡ message_7 index
    → out ≡ pointer_packet (message_7 index)
entry_whole index bytes start headers out none before more is =
    more ∙ ap (λ h. h ++ bytes) (before ∙ ap (λ s. s ++ packet_headers 0x1B 6) none) ∙ ap (λ b. packet_headers 0x1B 6 ++ b) is ∙ packet_whole 0x1B (message_7 index)

pub shape_whole : (wide : Bool) (index key size : ℕ) (start headers head colors out : List ℕ) → start ≡ [] → headers ≡ start ++ packet_headers 0x1B size → size ≡ (if wide then 418 else 226)
    → head ≡ headers ++ message_head wide index → colors ≡ head ++ (key_shape wide key).xor → out ≡ colors ++ (key_shape wide key).mask
    → out ≡ pointer_packet (message_6 wide index (key_shape wide key))
shape_whole wide index key size start headers head colors out none before sized heads colored masked =
    let s = key_shape wide key in
    let m = message_6 wide index s in
    let fronts : headers ≡ packet_headers 0x1B (length m) = before ∙ ap (λ o. o ++ packet_headers 0x1B size) none ∙ ap (packet_headers 0x1B) (sized ∙ sym (size_is wide index key)) in
    masked ∙ ap (λ o. o ++ s.mask) (colored ∙ ap (λ o. o ++ s.xor) heads)
    ∙ append_assoc (headers ++ message_head wide index) s.xor s.mask ∙ append_assoc headers (message_head wide index) (s.xor ++ s.mask)
    ∙ ap (λ o. o ++ m) fronts ∙ packet_whole 0x1B m
