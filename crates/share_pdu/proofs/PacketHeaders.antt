-- A packet is its headers and its body.
use Rattle.std.proofs.Common.{◌≡◌, ℕ, ◌+◌, List, ◌++◌, length, sym, ap, ◌∙◌, arith, append_assoc}
use Rattle.mcs_dom.specs.SendData.{indication_headers}
use Rattle.mcs_dom.proofs.Indication.{indication_is}
use Rattle.share_pdu.specs.Share.{data_headers, share_bytes}
use Rattle.share_pdu.specs.Packet.{share_packet, packet_headers}

pub packet_whole : (kind : ℕ) (body : List ℕ) → packet_headers kind (length body) ++ body ≡ share_packet kind body
packet_whole kind body =
    let whole : 18 + length body ≡ length (share_bytes kind body) = omega arith in
    append_assoc (indication_headers (18 + length body)) (data_headers kind (length body)) body
    ∙ ap (λ k. indication_headers k ++ share_bytes kind body) whole ∙ sym (indication_is (share_bytes kind body))
